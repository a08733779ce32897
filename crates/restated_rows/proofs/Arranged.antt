-- A table that holds the rows of a restated text holds the source's, each like the row that it stands for. Assumes nothing.
use Prim.Native.Nat.{ℕ, ◌≤◌, ◌<◌}
use mathlib.Core.Bool.{true, false, true≢false}
use mathlib.Core.List.{List}
use mathlib.Core.Logic.{⊎_elim}
use mathlib.Core.Path.{◌≡◌, refl, sym, ap, ◌∙◌}
use native.Mathlib.Omega.{arith}
use lib.IntN.{ℤ, pos}
use lib.ListN.{length, get_or}
use Rattle.text.proofs.Cases.{lt-or-ge}
use Rattle.signed.specs.Signed.{same_z}
use Rattle.shape.specs.declared.Edition.{Edition}
use Rattle.shape.specs.declared.Edition.TheVariants.{V13}
use Rattle.columns.specs.Columns.{form_number}
use Rattle.columns.specs.declared.Form.TheVariants.{Delay}
use Rattle.tables.specs.Tables.{number_at}
use Rattle.tables.proofs.Numbers.{number-beyond}
use Rattle.blocks.specs.Blocks.{is_block}
use Rattle.places.specs.declared.State.{State}
use Rattle.file.specs.Rows.{Placed}
use Rattle.file_tables.specs.Tables.{cells_of}
use Rattle.demands.specs.Keeping.{HasBlock}
use Rattle.sayable.specs.Sayable.{is_kind, nanos_at}
use Rattle.durations.specs.Durations.{first_use, delay_number}
use Rattle.durations.proofs.Firsts.{first_alike, used-nanos, used-first, used-most}
use Rattle.said.specs.Said.{duration_number}
use Rattle.section_text.specs.Sections.{micros_at}
use Rattle.arranged.specs.Alike.{is_anew, Alike, Stands, is_kept}
use Rattle.restated_laws.proofs.SectionBack.{first-number}
use Rattle.restated_rows.proofs.Sectioned.{rising-at}
use Rattle.restated_rows.proofs.Source.{one-row}
use Rattle.restated_rows.proofs.Standing.{KeptRow}
use Rattle.restated_rows.proofs.Keys.{DelayRow, Standing, kept, delay}
use Rattle.restated_rows.proofs.Whole.{Restating, out, out-rising, block-among, kept-among, delay-among}

-- ---- Rows that are alike are so the other way round
same_kind : {a b : List ℤ} {k j : ℕ} → Alike a k b j → number_at a k 0 ≡ number_at b j 0
unfolding is_anew
same_kind x = x.same 0 refl

alike-back : {a b : List ℤ} {k j : ℕ} → Alike a k b j → Alike b j a k
alike-back {a} {b} {k} {j} x = record { same = λ c n. sym (x.same c (ap (λ (z : ℤ). is_anew z c) (same_kind x) ∙ n)) }

-- ---- A table holds the twelve numbers of a row as its row j
abbrev pub Holds : List ℤ → ℕ → List ℤ → Type 0
Holds b j row = (c : ℕ) → c < 12 → number_at b j c ≡ get_or row c (pos 0)

module _ {target : Edition} {raster : ℕ} {rows : List ℤ} {count : ℕ} {row : List ℤ} {k : ℕ} (g : KeptRow target raster rows count row k) (b : List ℤ) (j : ℕ) (held : Holds b j row) where
  pub kept-alike : Alike rows k b j
  kept-alike =
      record {
        same = λ c a. ⊎_elim (λ (l : c < 12). g.alike.same c a ∙ sym (one-row row g.long c l) ∙ sym (held c l)) (λ (u : 12 ≤ c). sym (number-beyond rows k c u) ∙ number-beyond b j c u) (lt-or-ge c 12);
      }

  pub kept_block : is_block rows k ≡ is_block b j
  kept_block = ap (λ (z : ℤ). same_z z (pos 1)) (same_kind kept-alike)

module _ {rows : List ℤ} {count : ℕ} {row : List ℤ} {k : ℕ} (g : DelayRow rows count row k) (b : List ℤ) (j : ℕ) (held : Holds b j row) where
  delay-kind : number_at b j 0 ≡ pos 6
  delay-kind = held 0 (omega arith) ∙ g.kind

  delay-not-kept : is_kept b j ≡ false
  unfolding is_kept same_z
  delay-not-kept = rw delay-kind

  pub delay-not-block : is_block b j ≡ false
  unfolding same_z
  delay-not-block = rw delay-kind

-- ---- What a block of the table says
pub record BlockFrom (target : Edition) (raster : ℕ) (rows : List ℤ) (count : ℕ) (b : List ℤ) (j : ℕ) : Type 0 where
  pub k : ℕ
  pub there : k < count
  pub block : is_block rows k ≡ true
  pub alike : Alike rows k b j
  pub lasts : number_at b j 2 ≡ duration_number target raster rows count k

-- ---- The delay row of the duration of row k
pub record DelayStands (rows : List ℤ) (count k : ℕ) (b : List ℤ) (m : ℕ) : Type 0 where
  pub r : ℕ
  pub there : r < m
  pub kind : number_at b r 0 ≡ pos (form_number Delay)
  pub number : number_at b r 1 ≡ pos (delay_number rows count k)
  pub lasts : number_at b r 2 ≡ pos (micros_at rows k)
  pub least : 1 ≤ delay_number rows count k

module _ {target : Edition} {raster : ℕ} {rows : List ℤ} {count : ℕ} {rs : List Placed} (g : Restating target raster rows count rs) (file site : List ℕ) (samples : List ℤ) (st : State) (n : ℕ) where
  abbrev text : List Placed
  text = out target raster file site rows count samples rs st n

  abbrev m : ℕ
  m = length text

  pub has_block : (k : ℕ) → k < count → is_block rows k ≡ true → HasBlock text
  has_block k h i =
      let a = block-among g file site samples st n k h (unfold is_kind in i) in
      record { k = a.at; there = a.there; block = ap (λ (z : ℤ). same_z z (pos 1)) (sym (same_kind a.is.alike)) ∙ i }

  module _ (b : List ℤ) (laid : (j c : ℕ) → j < m → c < 12 → number_at b j c ≡ get_or (cells_of text j) c (pos 0)) where
    pub stands-forth : (k : ℕ) → k < count → is_kept rows k ≡ true → Stands rows k b m
    stands-forth k h i =
        let a = kept-among g file site samples st n k h i in
        record { j = a.at; there = a.there; alike = kept-alike a.is b a.at (λ c l. laid a.at c a.there l) }

    pub stands-back : (j : ℕ) → j < m → is_kept b j ≡ true → Stands b j rows count
    stands-back j l i = go (rising-at (out-rising g file site samples st n) j l).is
      where
        go : {key : ℕ} → Standing target raster rows count (cells_of text j) key → Stands b j rows count
        go (kept k g) = record { j = k; there = g.there; alike = alike-back (kept-alike g b j (λ c u. laid j c l u)) }
        go (delay k g) = absurd (true≢false (sym i ∙ delay-not-kept g b j (λ c u. laid j c l u)))

    pub block-numbers : (j : ℕ) → j < m → is_block b j ≡ true → BlockFrom target raster rows count b j
    block-numbers j l i = go (rising-at (out-rising g file site samples st n) j l).is
      where
        go : {key : ℕ} → Standing target raster rows count (cells_of text j) key → BlockFrom target raster rows count b j
        go (kept k g) =
            let held : Holds b j (cells_of text j) = λ c u. laid j c l u in
            let block = kept_block g b j held ∙ i in
            record { k = k; there = g.there; block = block; alike = kept-alike g b j held; lasts = laid j 2 l (omega arith) ∙ g.lasts block }
        go (delay k g) = absurd (true≢false (sym i ∙ delay-not-block g b j (λ c u. laid j c l u)))

    pub delay-stands : target ≡ V13 → (k : ℕ) → k < count → is_block rows k ≡ true → (nanos_at rows k ≡ 0 → ⊥) → DelayStands rows count k b m
    unfolding micros_at
    delay-stands v k h i z =
        let u = first_use rows count k in
        let w = used-most rows count k i in
        let there : u < count = omega arith in
        let first = used-first rows count k there z in
        let ns = used-nanos rows count k there in
        let a = delay-among g file site samples st n u there v first in
        let d = first-number rows count u there first in
        let same = same_number u k ns (first_alike rows count u k ns) in
        record {
          r = a.at;
          there = a.there;
          kind = laid a.at 0 a.there (omega arith) ∙ a.is.kind;
          number = laid a.at 1 a.there (omega arith) ∙ a.is.number ∙ ap pos same;
          lasts = laid a.at 2 a.there (omega arith) ∙ a.is.lasts ∙ rw ns;
          least = omega arith;
        }
      where
        same_number : (u k : ℕ) → nanos_at rows u ≡ nanos_at rows k → first_use rows count u ≡ first_use rows count k → delay_number rows count u ≡ delay_number rows count k
        same_number u k a c = unfold delay_number in rw (a, c)
