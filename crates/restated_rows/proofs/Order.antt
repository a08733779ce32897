-- A restated text has the source's blocks in their order. Assumes nothing.
use Prim.Native.Nat.{ℕ, zero, suc, ◌+◌, ◌*◌, ◌≤◌, ◌<◌}
use mathlib.Core.Bool.{Bool, true, false}
use mathlib.Core.List.{List, [], ◌∷◌, ◌++◌}
use mathlib.Core.Path.{◌≡◌, refl, sym, ◌∙◌}
use native.Mathlib.Omega.{arith}
use lib.IntN.{ℤ, pos}
use lib.ListN.{length, get_or, length-append}
use Rattle.signed.proofs.Sign.{same_z-true}
use Rattle.shape.specs.declared.Edition.{Edition}
use Rattle.columns.specs.declared.Form.TheVariants.{Block}
use Rattle.tables.specs.Tables.{number_at}
use Rattle.blocks.specs.Blocks.{is_block}
use Rattle.places.specs.declared.State.{State}
use Rattle.file.specs.Rows.{Placed}
use Rattle.file_tables.specs.Tables.{cells_of}
use Rattle.sayable.specs.Sayable.{is_kind}
use Rattle.said.specs.Said.{is_of_form}
use Rattle.arranged.specs.Alike.{InOrder, no_more, a_block, not-here, not_there}
use Rattle.restated_laws.proofs.TextBack.{definitions_end, form_rows, first_rows}
use Rattle.restated_rows.proofs.Sectioned.{Section, left_out, stands_here, Rising, none_left, next-key}
use Rattle.restated_rows.proofs.Sectioned as sectioned
use Rattle.restated_rows.proofs.Standing.{KeptRow}
use Rattle.restated_rows.proofs.Sections.{block-section}
use Rattle.restated_rows.proofs.Keys.{part_of, Standing, kept, delay}
use Rattle.restated_rows.proofs.Whole.{Restating, out, rest, rest-rising}
use Rattle.restated_rows.proofs.Arranged.{Holds, kept-alike, kept_block, delay-not-block}

-- ---- Rows that a table holds from row j on
record LaidFrom (b : List ℤ) (j : ℕ) (ps : List Placed) : Type 0 where
  holds : (i : ℕ) → i < length ps → Holds b (j + i) (cells_of ps i)

module _ {b : List ℤ} where
  laid-first : {j : ℕ} {p : Placed} {ps : List Placed} → LaidFrom b j (p ∷ ps) → Holds b j p.cells
  unfolding cells_of
  laid-first {j} laid c l = let z : j + 0 ≡ j = omega arith in rw z at (laid.holds 0 (omega arith) c l)

  laid-later : {j : ℕ} {p : Placed} {ps : List Placed} → LaidFrom b j (p ∷ ps) → LaidFrom b (suc j) ps
  unfolding cells_of
  laid-later {j} {p} {ps} laid =
      record { holds = λ i (h : i < length ps) c l. let z : j + suc i ≡ suc j + i = omega arith in rw z at (laid.holds (suc i) (omega arith) c l) }

  left_at : (ps qs : List Placed) (j : ℕ) → LaidFrom b j (ps ++ qs) → (i : ℕ) → i < length ps → Holds b (j + i) (cells_of ps i)
  unfolding cells_of
  left_at [] qs j laid i h c l = absurd (omega arith)
  left_at (p ∷ ps) qs j laid zero h c l = laid.holds 0 (omega arith) c l
  left_at (p ∷ ps) qs j laid (suc i) h c l = let z : suc j + i ≡ j + suc i = omega arith in rw z at (left_at ps qs (suc j) (laid-later laid) i (omega arith) c l)

  laid-left : {j : ℕ} (ps qs : List Placed) → LaidFrom b j (ps ++ qs) → LaidFrom b j ps
  laid-left {j} ps qs laid = record { holds = left_at ps qs j laid }

  laid-right : {j : ℕ} (ps qs : List Placed) → LaidFrom b j (ps ++ qs) → LaidFrom b (j + length ps) qs
  laid-right {j} [] qs laid = let z : j + 0 ≡ j = omega arith in rw z laid
  laid-right {j} (p ∷ ps) qs laid = let z : j + suc (length ps) ≡ suc j + length ps = omega arith in rw z (laid-right ps qs (laid-later laid))

module _ (target : Edition) (raster : ℕ) (rows : List ℤ) (count : ℕ) (b : List ℤ) where
  -- ---- Behind the blocks there are none
  no_block : {row : List ℤ} {key : ℕ} (j : ℕ) → Standing target raster rows count row key → count ≤ key → Holds b j row → is_block b j ≡ false
  no_block j (kept k g) h held = go (is_block rows k) refl
    where
      part : number_at rows k 0 ≡ pos 1 → part_of (number_at rows k 0) * count + k ≡ k
      part q = rw q (omega arith)

      go : (t : Bool) → is_block rows k ≡ t → is_block b j ≡ false
      go true e = absurd (let z = part (same_z-true (number_at rows k 0) (pos 1) e) in let l = g.there in omega arith)
      go false e = sym (kept_block g b j held) ∙ e
  no_block j (delay k g) h held = delay-not-block g b j held

  rest-order : {low high : ℕ} {ps : List Placed} → Rising (Standing target raster rows count) low ps high → count ≤ low → (k j : ℕ) → LaidFrom b j ps → InOrder rows b k 0 j (length ps)
  rest-order (none_left g) h k j laid = no_more
  rest-order (next-key key g s r) h k j laid = not_there (no_block j s (omega arith) (laid-first laid)) (rest-order r (omega arith) k (suc j) (laid-later laid))

  -- ---- The blocks, and what is behind them
  blocks-order : {k x : ℕ} {ps : List Placed} → Section (is_of_form Block rows) (KeptRow target raster rows count) k x ps → (j y z : ℕ) → z ≡ length ps + y → LaidFrom b j ps
      → InOrder rows b (k + x) 0 (j + length ps) y → InOrder rows b k x j z
  unfolding is_kind
  blocks-order {k} sectioned.no_more j y z q laid o = let u : k + 0 ≡ k = omega arith in let v : j + 0 ≡ j = omega arith in let w : z ≡ y = omega arith in rw w (rw (u, v) at o)
  blocks-order (left_out {k} {m} e t) j y z q laid o = let u : k + suc m ≡ suc k + m = omega arith in not-here e (blocks-order t j y z q laid (rw u at o))
  blocks-order (stands_here {k} {m} {r} {rs} e g t) j y z q laid o =
      let u : k + suc m ≡ suc k + m = omega arith in
      let v : j + suc (length rs) ≡ suc j + length rs = omega arith in
      let w : z ≡ suc (length rs + y) = omega arith in
      rw w (a_block e (kept-alike g b j (laid-first laid)) (blocks-order t (suc j) y (length rs + y) refl (laid-later laid) (rw (u, v) at o)))

-- ---- All rows
module _ {target : Edition} {raster : ℕ} {rows : List ℤ} {count : ℕ} {rs : List Placed} (g : Restating target raster rows count rs) (file site : List ℕ) (samples : List ℤ) (st : State) (n : ℕ) where
  abbrev text : List Placed
  text = out target raster file site rows count samples rs st n

  pub in_order : (b : List ℤ) → ((j c : ℕ) → j < length text → c < 12 → number_at b j c ≡ get_or (cells_of text j) c (pos 0)) → InOrder rows b 0 count 0 (length text)
  unfolding first_rows
  in_order b laid =
      let ps = form_rows target raster rows count Block (definitions_end target file site 6) in
      let qs = rest g file site samples st n in
      let all : LaidFrom b 0 (ps ++ qs) = record { holds = λ i h c l. let z : 0 + i ≡ i = omega arith in rw z (laid i c h l) } in
      blocks-order target raster rows count b (block-section raster g.source (definitions_end target file site 6)) 0 (length qs) (length (ps ++ qs)) (length-append ps qs) (laid-left ps qs all)
      (rest-order target raster rows count b (rest-rising g file site samples st n) (omega arith) (0 + count) (0 + length ps) (laid-right ps qs all))
