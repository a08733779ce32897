-- No row of a restated text is met again in its class, where none of the source is. Assumes nothing.
use Prim.Native.Nat.{ℕ, suc, ◌<◌}
use mathlib.Core.Bool.{true, false, true≢false}
use mathlib.Core.List.{List}
use mathlib.Core.Path.{◌≡◌, refl, sym, ap, ◌∙◌}
use native.Mathlib.Omega.{arith}
use lib.IntN.{ℤ, pos, nat_abs}
use Rattle.signed.specs.Signed.{same_z}
use Rattle.shape.specs.declared.Edition.{Edition}
use Rattle.tables.specs.Tables.{number_at, class_of, class_at, first_row, NoneAgain}
use Rattle.places.specs.declared.State.{State}
use Rattle.file.specs.Rows.{Placed}
use Rattle.repeats.specs.Once.{RowTwice}
use Rattle.durations.specs.Durations.{uses_in}
use Rattle.durations.proofs.Using.{use-one}
use Rattle.durations.proofs.Listing.{uses-after, uses-more}
use Rattle.arranged.specs.Alike.{is_anew, is_kept}
use Rattle.arranged.proofs.Lookup.{alike-class, class-only}
use Rattle.restated_laws.proofs.SectionBack.{first-number}
use Rattle.restated_rows.proofs.Sectioned.{rising-two}
use Rattle.restated_rows.proofs.Source.{one-row}
use Rattle.restated_rows.proofs.Standing.{KeptRow}
use Rattle.restated_rows.proofs.Keys.{DelayRow, Standing, kept, delay}
use Rattle.restated_rows.proofs.Whole.{Restating, out, out-rising}

delay-class : (kind second : ℤ) → kind ≡ pos 6 → class_of kind second ≡ pos 6
unfolding class_of same_z
delay-class kind second q = rw q

-- ---- Two rows of one class with one ID are one row
module _ {target : Edition} {raster : ℕ} {rows : List ℤ} {count : ℕ} (once : NoneAgain rows count) where
  -- kept rows
  same_kept : {x y : List ℤ} {k l : ℕ} → KeptRow target raster rows count x k → KeptRow target raster rows count y l → class_at y 0 ≡ class_at x 0 → number_at y 0 1 ≡ number_at x 0 1 → k ≡ l
  unfolding NoneAgain is_anew
  same_kept {k = k} {l = l} p q c i =
      sym (once k p.there)
      ∙ ap (λ (z : ℤ). first_row rows count z (number_at rows k 1)) (alike-class p.alike ∙ sym c ∙ sym (alike-class q.alike))
      ∙ ap (first_row rows count (class_at rows l)) (p.alike.same 1 refl ∙ sym i ∙ sym (q.alike.same 1 refl))
      ∙ once l q.there

module _ {rows : List ℤ} {count : ℕ} where
  -- a delay row, and none of the others
  delay-at : {y : List ℤ} {l : ℕ} → DelayRow rows count y l → class_at y 0 ≡ pos 6
  unfolding class_at
  delay-at {y} q = delay-class (number_at y 0 0) (number_at y 0 2) (sym (one-row y q.long 0 (omega arith)) ∙ q.kind)

  not-delay : {target : Edition} {raster : ℕ} {x : List ℤ} {k : ℕ} → KeptRow target raster rows count x k → class_at x 0 ≡ pos 6 → ⊥
  unfolding class_at is_kept same_z
  not-delay {k = k} p c =
      let z : number_at rows k 0 ≡ pos 6 = class-only 6 (λ e. omega arith) (λ e. omega arith) (number_at rows k 0) (number_at rows k 2) (alike-class p.alike ∙ c) in
      true≢false (sym (rw z at p.kept))

  -- delay rows of two first uses
  delay-number : {y : List ℤ} {l : ℕ} → DelayRow rows count y l → number_at y 0 1 ≡ pos (suc (uses_in rows count 0 l))
  delay-number {y} {l} q = sym (one-row y q.long 1 (omega arith)) ∙ q.number ∙ ap pos (first-number rows count l q.there q.first)

  delays-apart : {x y : List ℤ} {k l : ℕ} → DelayRow rows count x k → DelayRow rows count y l → k < l → number_at y 0 1 ≡ number_at x 0 1 → ⊥
  delays-apart {k = k} {l = l} p q h i =
      let z : suc (uses_in rows count 0 l) ≡ suc (uses_in rows count 0 k) = ap nat_abs (sym (delay-number q) ∙ i ∙ delay-number p) in
      let a = uses-after rows count k in
      let o = use-one rows count k true (sym p.first) refl in
      let m = uses-more rows count (suc k) l h in
      omega arith

not-less : (n : ℕ) → n < n → ⊥
not-less n l = omega arith

-- ---- All rows
module _ {target : Edition} {raster : ℕ} {rows : List ℤ} {count : ℕ} {rs : List Placed} (g : Restating target raster rows count rs) (file site : List ℕ) (samples : List ℤ) (st : State) (n : ℕ) where
  two-apart : {x y : List ℤ} {a c : ℕ} → Standing target raster rows count x a → Standing target raster rows count y c → a < c → class_at y 0 ≡ class_at x 0 → number_at y 0 1 ≡ number_at x 0 1 → ⊥
  two-apart (kept k p) (kept l q) h c i = let z = same_kept g.source.once p q c i in not-less _ (rw z at h)
  two-apart (kept k p) (delay l q) h c i = not-delay p (sym c ∙ delay-at q)
  two-apart (delay k p) (kept l q) h c i = not-delay q (c ∙ delay-at p)
  two-apart (delay k p) (delay l q) h c i = delays-apart p q (omega arith) i

  pub no-row-twice : (line : ℕ) → RowTwice (out target raster file site rows count samples rs st n) line → ⊥
  no-row-twice line t =
      let w = rising-two (out-rising g file site samples st n) t.i t.j t.before t.there in
      two-apart w.is w.behind.is w.behind.least t.class t.id
