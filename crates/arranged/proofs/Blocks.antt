-- Blocks last as long in another edition as they did, where the target's number of their duration says so. Assumes nothing.
use Prim.Native.Nat.{ℕ, ◌+◌, ◌*◌, max, ◌≤◌, ◌<◌}
use mathlib.Core.Bool.{Bool, true, true≢false}
use mathlib.Core.List.{List}
use mathlib.Core.Logic.{⊎_elim}
use mathlib.Core.Path.{◌≡◌, refl, sym, ap, ◌∙◌}
use native.Mathlib.Omega.{arith}
use borrow.Author.Tests.{lt-ltb, le-ltb}
use lib.IntN.{ℤ, pos}
use Rattle.text.proofs.Cases.{lt-or-ge}
use Rattle.signed.specs.Signed.{same_z}
use Rattle.unit.specs.declared.Rasters.{Rasters}
use Rattle.shape.specs.declared.Edition.{Edition}
use Rattle.shape.specs.declared.Edition.TheVariants.{V13, V14}
use Rattle.columns.specs.Columns.{form_number}
use Rattle.columns.specs.declared.Form.TheVariants.{Block}
use Rattle.tables.specs.Tables.{first_such, number_at, class_number, is_row_of, first_row, met_row, OnlyRow}
use Rattle.tables.proofs.Found.{first-is}
use Rattle.tables.specs.declared.Class.TheVariants.{Delay}
use Rattle.references.specs.References.{ref_at, ref_of}
use Rattle.lengths.specs.Lengths.{count_at, micros_at, length_of, length_at}
use Rattle.blocks.specs.Blocks.{met_length, reference_length, longest_of, number_length, longest_event, block_length}
use Rattle.demands.specs.Rules.{Follows}
use Rattle.signed.proofs.Sign.{same_z-other}
use Rattle.demands.proofs.Ruling.{longest-each, each-longest}
use Rattle.arranged.specs.Alike.{Alike, Arranged}
use Rattle.arranged.proofs.Lookup.{alike-kind, delays, class-kind, SameSamples}
use Rattle.arranged.proofs.Lasting.{event-same}

-- ---- What the target's number for a block's duration says: steps of the raster in 1.4, a delay row in 1.3, none for 0 ns
pub data Lasts (target : Edition) (q : Rasters) (b : List ℤ) (m j ns : ℕ) : Type 0 where
  by-steps : target ≡ V14 → count_at b j 2 * q.block.0 ≡ ns → Lasts target q b m j ns
  by-none : target ≡ V13 → number_at b j 2 ≡ pos 0 → ns ≡ 0 → Lasts target q b m j ns
  by-delay : target ≡ V13 → (r : ℕ) → (number_at b j 2 ≡ pos 0 → ⊥) → OnlyRow b m delays (number_at b j 2) r → micros_at b r 2 ≡ ns → Lasts target q b m j ns

-- ---- The first of rows is the only one
pub only-first : (holds : ℕ → Bool) (n r : ℕ) → r < n → holds r ≡ true → ((k : ℕ) → k < n → holds k ≡ true → k ≡ r) → first_such holds 0 n ≡ r
only-first holds n r h e only =
    let f = first-is holds 0 n in
    ⊎_elim (λ (l : first_such holds 0 n < n). only (first_such holds 0 n) l (f.here (omega arith)))
    (λ (l : n ≤ first_such holds 0 n). absurd (true≢false (sym e ∙ f.before r (omega arith) (omega arith)))) (lt-or-ge (first_such holds 0 n) n)

-- ---- The longest of a block's numbers, where number 2 is
longest-front : (lasts : ℕ → ℕ) → longest_of lasts 2 7 ≡ max (lasts 2) (longest_of lasts 3 6)
unfolding longest_of
longest-front lasts = refl

longer : {x y z : ℕ} → x ≡ z → y ≤ z → max x y ≡ z
longer e h = omega arith

-- ---- No event of an accepted block is longer than it, in either edition
module _ (q : Rasters) (a : List ℤ) (n : ℕ) (s : List ℤ) where
  pub event-within : (e : Edition) → Follows e q a n s → (k c : ℕ) → k < n → number_at a k 0 ≡ pos (form_number Block) → 2 ≤ c → c ≤ 8 → number_length e q a n s k c ≤ block_length e q a n s k
  event-within V13 f k c h i l u = unfold block_length longest_event in longest-each (number_length V13 q a n s k) _ 2 7 (omega arith) c l (omega arith)
  event-within V14 f k c h i l u = f.lasting refl k c h i l u

  -- what a delay row lasts that is met, and what none does
  only-met : (id : ℤ) (r : ℕ) → (id ≡ pos 0 → ⊥) → OnlyRow a n delays id r → met_row a n delays id ≡ r
  unfolding met_row first_row
  only-met id r z o = rw (same_z-other id (pos 0) z) (only-first (is_row_of a delays id) n r o.there o.is o.only)

  delay-length : (id : ℤ) (r : ℕ) → (id ≡ pos 0 → ⊥) → OnlyRow a n delays id r → reference_length q a n s delays id ≡ micros_at a r 2
  unfolding reference_length met_length length_at length_of same_z
  delay-length id r z o =
      rw (only-met id r z o, lt-ltb r n o.there, class-kind (class_number Delay) (λ e. omega arith) (λ e. omega arith) a id r o.is)

  no-delay : reference_length q a n s delays (pos 0) ≡ 0
  unfolding reference_length met_length met_row same_z
  no-delay = rw (le-ltb n n (omega arith))

  -- number 2 of a 1.3 block refers to delay rows
  duration-length : (k : ℕ) → number_at a k 0 ≡ pos (form_number Block) → number_length V13 q a n s k 2 ≡ reference_length q a n s delays (number_at a k 2)
  unfolding number_length ref_at ref_of same_z
  duration-length k i = rw i

module _ {a b : List ℤ} {n m : ℕ} (x : Arranged a n b m) {s t : List ℤ} (same : SameSamples a n s b m t) (q q' : Rasters) (gradient : q.gradient.0 ≡ q'.gradient.0) (rf : q.rf.0 ≡ q'.rf.0)
    (e : Edition) (f : Follows e q a n s) where
  -- ---- the longest of a block's numbers 3 to 8
  others-within : (e' : Edition) {k j : ℕ} → k < n → number_at a k 0 ≡ pos (form_number Block) → Alike a k b j → longest_of (number_length e' q' b m t j) 3 6 ≤ block_length e q a n s k
  others-within e' {k} {j} h i y =
      each-longest (number_length e' q' b m t j) (block_length e q a n s k) 3 6
      (λ c (l : 3 ≤ c) (u : c < 3 + 6). rw (← event-same x same q q' gradient rf e e' y i c l (omega arith)) (event-within q a n s e f k c h i (omega arith) (omega arith)))

  -- the delay row of a 1.3 block is its longest event
  delay-longest : {k j : ℕ} → k < n → number_at a k 0 ≡ pos (form_number Block) → Alike a k b j → number_length V13 q' b m t j 2 ≡ block_length e q a n s k
      → block_length V13 q' b m t j ≡ block_length e q a n s k
  unfolding block_length longest_event
  delay-longest {k} {j} h i y d = longest-front (number_length V13 q' b m t j) ∙ longer d (others-within V13 h i y)

  pub block_same : (target : Edition) {k j : ℕ} → k < n → number_at a k 0 ≡ pos (form_number Block) → Alike a k b j → Lasts target q' b m j (block_length e q a n s k)
      → block_length target q' b m t j ≡ block_length e q a n s k
  block_same target {k} {j} h i y (by-steps v p) = rw v (unfold block_length in p)
  block_same target {k} {j} h i y (by-none v z p) =
      rw v (delay-longest h i y (duration-length q' b m t j (sym (alike-kind y) ∙ i) ∙ ap (reference_length q' b m t delays) z ∙ no-delay q' b m t ∙ sym p))
  block_same target {k} {j} h i y (by-delay v r z o p) =
      rw v (delay-longest h i y (duration-length q' b m t j (sym (alike-kind y) ∙ i) ∙ delay-length q' b m t (number_at b j 2) r z o ∙ p))
