-- What it means that BIG, MISSING, ROOM, SITE, DUPLICATE and RASTER are not answered. Assumes nothing.
use Rattle.std.proofs.Common.{None, Option, Some}
use Rattle.numeral.specs.declared.Decimal.{Decimal}
use Prim.Native.Nat.{ℕ, zero, suc, ◌/◌, ◌^◌, ◌≤◌, ◌<◌}
use mathlib.Core.Bool.{Bool, true, false, not, ◌||◌, true≢false}
use mathlib.Core.List.{List, [], ◌∷◌}
use mathlib.Core.Logic.{⊎_elim}
use mathlib.Core.Path.{◌≡◌, refl, sym, ◌∙◌}
use native.Mathlib.Omega.{arith}
use borrow.Author.Tests.{eqb-false, ne_eqb, ltb-false, le-ltb}
use lib.Dec.{eqb, ltb}
use lib.IntN.{ℤ}
use lib.ListN.{length}
use Rattle.text.proofs.Cases.{true-or-false, eq-or-ne, or-none}
use Rattle.decimals.specs.Decimal.{decimal_of}
use Rattle.numeral.specs.Worth.{whole_of}
use Rattle.numeral.proofs.Outcomes.{whole-range}
use Rattle.unit.specs.declared.Rasters.{Rasters}
use Rattle.shape.specs.declared.Edition.{Edition}
use Rattle.shape.specs.declared.Edition.TheVariants.{V13, V14}
use Rattle.columns.specs.Rows.{row_width}
use Rattle.file.specs.Rows.{Placed, rows_of, laid_rows}
use Rattle.file_tables.specs.Tables.{cells_of}
use Rattle.exact_lengths.specs.Tables.{RastersIn}
use Rattle.rasters.specs.Rasters.{whole_or0, worth_of, raster_of, rasters_of, lacks_first, lacks}
use Rattle.blocks.specs.Blocks.{is_block}
use Rattle.tables.specs.Tables.{is_again, NoneAgain}
use Rattle.tables.proofs.Found.{none-again}
use Rattle.duplicates.specs.Again.{by_row}
use Rattle.duplicates.proofs.Again.{duplicate-is}
use Rattle.repeats.specs.Repeats.{duplicate_of}
use Rattle.repeats.specs.Once.{Twice}
use Rattle.repeats.proofs.Twice.{duplicate-of-is}
use Rattle.repeats.proofs.Laid.{duplicate-laid}
use Rattle.questions.specs.Asked.{is_big, any_block, is_missing, lacks_room, bad_site}
use Rattle.demands.specs.Keeping.{SoundSite, HasBlock, RastersGood}
use Rattle.demands.proofs.Ruling.{not_is, editions-differ}

-- ---- two tests that both say no
or-both : {a b : Bool} → a ≡ false → b ≡ false → a || b ≡ false
or-both p q = rw (p, q)

-- ---- BIG
module _ (file site : List ℕ) where
  pub big-of : is_big file site ≡ false → length file ≤ 2 ^ 24
  unfolding is_big
  big-of e = ltb-false (2 ^ 24) (length file) (or-none (ltb (2 ^ 24) (length file)) _ e).0

  pub site-of : is_big file site ≡ false → length site ≤ 4096
  unfolding is_big
  site-of e = ltb-false 4096 (length site) (or-none (ltb (2 ^ 24) (length file)) _ e).1

  pub of-big : length file ≤ 2 ^ 24 → length site ≤ 4096 → is_big file site ≡ false
  unfolding is_big
  of-big h k = or-both (le-ltb (2 ^ 24) (length file) h) (le-ltb 4096 (length site) k)

-- ---- MISSING: a block row
block_of : (rs : List Placed) → any_block rs ≡ true → HasBlock rs
unfolding any_block cells_of
block_of [] e = absurd (true≢false (sym e))
block_of (r ∷ rs) e = go (is_block r.cells 0) refl (block_of rs) e
  where
    go : (b : Bool) → is_block r.cells 0 ≡ b → (any_block rs ≡ true → HasBlock rs) → b || any_block rs ≡ true → HasBlock (r ∷ rs)
    go true p rest q = record { k = 0; there = omega arith; block = p }
    go false p rest q = let x = rest q in let t = x.there in record { k = suc x.k; there = omega arith; block = x.block }

or-second : (b : Bool) → b || true ≡ true
or-second true = refl
or-second false = refl

of-block : (rs : List Placed) (k : ℕ) → k < length rs → is_block (cells_of rs k) 0 ≡ true → any_block rs ≡ true
unfolding any_block cells_of
of-block [] k h e = absurd (omega arith)
of-block (r ∷ rs) zero h e = rw e
of-block (r ∷ rs) (suc k) h e = rw (of-block rs k (omega arith) e) (or-second (is_block r.cells 0))

module _ (rs : List Placed) where
  pub missing-block : (e : Edition) (defined : Bool) → is_missing e (any_block rs) defined ≡ false → HasBlock rs
  unfolding is_missing
  missing-block V13 defined m = block_of rs (not_is _ m)
  missing-block V14 defined m = block_of rs (not_is _ (or-none (not (any_block rs)) _ m).0)

  pub missing-defined : (e : Edition) (defined : Bool) → is_missing e (any_block rs) defined ≡ false → e ≡ V14 → defined ≡ true
  unfolding is_missing
  missing-defined e defined m v = not_is _ (or-none (not (any_block rs)) (not defined) (rw v at m)).1

  pub of-missing : (e : Edition) (defined : Bool) → HasBlock rs → (e ≡ V14 → defined ≡ true) → is_missing e (any_block rs) defined ≡ false
  unfolding is_missing
  of-missing V13 defined b d = rw (of-block rs b.k b.there b.block)
  of-missing V14 defined b d = rw (of-block rs b.k b.there b.block, d refl)

-- ---- ROOM
module _ (n s room size : ℕ) where
  pub room-samples : lacks_room n s room size ≡ false → s ≤ size
  unfolding lacks_room
  room-samples e = ltb-false size s (or-none (ltb (room / row_width) n) _ e).1

  pub of_room : n ≤ room / row_width → s ≤ size → lacks_room n s room size ≡ false
  unfolding lacks_room
  of_room h k = or-both (le-ltb (room / row_width) n h) (le-ltb size s k)

-- ---- SITE
pub of-site : (e : Edition) (site : List ℕ) → SoundSite site → bad_site e site ≡ false
unfolding bad_site
of-site V13 site s = s.sound
of-site V14 site s = refl

-- ---- DUPLICATE
pub of-once : (file : List ℕ) → ((line : ℕ) → Twice file line → ⊥) → duplicate_of file ≡ 0
of-once file once = ⊎_elim (λ (z : duplicate_of file ≡ 0). z) (λ z. absurd (once (duplicate_of file) ((duplicate-of-is file).some z))) (eq-or-ne (duplicate_of file) 0)

pub none-twice : (file : List ℕ) (table : List ℤ) → length (rows_of file) ≤ length table / row_width → duplicate_of file ≡ 0 → NoneAgain (laid_rows table 0 (rows_of file)) (length (rows_of file))
none-twice file table m z =
    none-again (laid_rows table 0 (rows_of file)) (length (rows_of file))
    (λ k h. ⊎_elim (λ (x : is_again (laid_rows table 0 (rows_of file)) k ≡ true). absurd ((duplicate-is file (laid_rows table 0 (rows_of file)) (length (rows_of file)) (omega arith)).none (duplicate-laid file table m ∙ z) _ (by_row (record { k = k; there = h; again = x; here = refl })))) (λ x. x) (true-or-false (is_again (laid_rows table 0 (rows_of file)) k)))

-- ---- RASTER
not-zero : (n : ℕ) → eqb n 0 ≡ false → 1 ≤ n
not-zero n e = let h = eqb-false n 0 e in omega arith

some-not : (n : ℕ) → 1 ≤ n → eqb n 0 ≡ false
some-not n h = ne_eqb n 0 (λ (z : n ≡ 0). omega arith)

pub rasters-of : (e : Edition) (q : Rasters) → lacks e q ≡ false → RastersGood e q
unfolding lacks lacks_first
rasters-of V13 q l =
    let a = or-none (eqb q.gradient.0 0) _ l in
    record { gradient = not-zero _ a.0; rf = not-zero _ a.1; adc = λ v. absurd (editions-differ v); block = λ v. absurd (editions-differ v) }
rasters-of V14 q l =
    let a = or-none (eqb q.gradient.0 0 || eqb q.rf.0 0) _ l in
    let b = or-none (eqb q.gradient.0 0) _ a.0 in
    let c = or-none (eqb q.adc.0 0) _ a.1 in
    record { gradient = not-zero _ b.0; rf = not-zero _ b.1; adc = λ v. not-zero _ c.0; block = λ v. not-zero _ c.1 }

pub of-rasters : (e : Edition) (q : Rasters) → RastersGood e q → lacks e q ≡ false
unfolding lacks lacks_first
of-rasters V13 q g = or-both (some-not _ g.gradient) (some-not _ g.rf)
of-rasters V14 q g = or-both (or-both (some-not _ g.gradient) (some-not _ g.rf)) (or-both (some-not _ (g.adc refl)) (some-not _ (g.block refl)))

-- "worth a whole 1 to 10^6 ns"
raster-most : (text : List ℕ) → raster_of text ≤ 10 ^ 6
unfolding raster_of worth_of whole_or0
raster-most text = go (decimal_of text)
  where
    worth : (n : (Option ℕ)) → ((m : ℕ) → n ≡ Some m → m ≤ 10 ^ 6) → whole_or0 n ≤ 10 ^ 6
    worth (Some m) f = f m refl
    worth None f = omega arith

    go : (n : (Option Decimal)) → worth_of n ≤ 10 ^ 6
    go (Some d) = worth (whole_of d 9 1 1000000) (λ m e. (whole-range d 9 1 1000000 m e).1)
    go None = omega arith

pub rasters-in : (e : Edition) (file site : List ℕ) → RastersIn (rasters_of e file site)
unfolding rasters_of
rasters-in e file site = record { gradient = raster-most _; rf = raster-most _; block = raster-most _ }
