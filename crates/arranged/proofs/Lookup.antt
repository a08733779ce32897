-- Lookups over tables that hold the same rows in another order: a reference meets rows that are alike, or none in both. Assumes nothing.
use Prim.Native.Nat.{ℕ, ◌≤◌, ◌<◌}
use mathlib.Core.Bool.{Bool, true, false, cond, not, ◌&&◌, ◌||◌}
use mathlib.Core.List.{List}
use mathlib.Core.Logic.{⊎_elim}
use mathlib.Core.Path.{◌≡◌, refl, sym, ap, ◌∙◌}
use native.Mathlib.Omega.{arith}
use borrow.Author.Tests.{lt-ltb, le-ltb}
use lib.Dec.{eqb, ltb}
use lib.IntN.{ℤ, pos, nat_abs}
use lib.ListN.{take, drop}
use Rattle.text.proofs.Cases.{lt-or-ge, and_both}
use Rattle.signed.specs.Signed.{same_z, is_negative}
use Rattle.signed.proofs.Sign.{same_z-true}
use Rattle.columns.specs.Columns.{form_number, label_kind, shape_kind}
use Rattle.columns.specs.declared.Form.TheVariants.{Block, Trap, Delay}
use Rattle.tables.specs.declared.Class.TheVariants.{Gradient, Increment}
use Rattle.tables.specs.Tables.{number_at, class_number, class_of, class_at, is_row_of, first_row, NoneAgain, met_row, met_number, samples_at, samples_of}
use Rattle.tables.proofs.Found.{first-is}
use Rattle.arranged.specs.Alike.{is_anew, Alike, is_kept, Arranged}

-- ---- Numbers that are other
pub pos-other : {x y : ℕ} → (x ≡ y → ⊥) → pos x ≡ pos y → ⊥
pos-other n e = n (ap nat_abs e)

-- ---- Rows that are alike: their kind, their ID and their class
module _ {a : List ℤ} {k : ℕ} {b : List ℤ} {j : ℕ} (x : Alike a k b j) where
  pub alike-kind : number_at a k 0 ≡ number_at b j 0
  alike-kind = x.same 0 (unfold is_anew in refl)

  pub alike-id : number_at a k 1 ≡ number_at b j 1
  alike-id = x.same 1 (unfold is_anew in refl)

  pub alike-back : Alike b j a k
  alike-back = record { same = λ c (h : is_anew (number_at b j 0) c ≡ false). sym (x.same c (rw alike-kind h)) }

  pub alike-class : class_at a k ≡ class_at b j
  unfolding class_at class_of same_z is_negative
  alike-class = go (same_z (number_at a k 0) (pos (form_number Block))) refl
    where
      go : (t : Bool) → same_z (number_at a k 0) (pos (form_number Block)) ≡ t → class_of (number_at a k 0) (number_at a k 2) ≡ class_of (number_at b j 0) (number_at b j 2)
      go true e = let i = same_z-true (number_at a k 0) (pos (form_number Block)) e in let p = alike-kind in rw (← p, i)
      go false e = rw (alike-kind, x.same 2 (unfold is_anew in rw e))

  pub alike-row : (class id : ℤ) → is_row_of a class id k ≡ is_row_of b class id j
  unfolding is_row_of
  alike-row class id = rw (alike-class, alike-id)

-- ---- Turned round
pub turned : {a b : List ℤ} {n m : ℕ} → Arranged a n b m → Arranged b m a n
turned x = record { forth = x.back; back = x.forth; once = x.again; again = x.once }

-- ---- Rows that a reference meets in both: rows that are alike, or none
pub data Meets (a : List ℤ) (n : ℕ) (b : List ℤ) (m : ℕ) : ℕ → ℕ → Type 0 where
  neither : {k j : ℕ} → n ≤ k → m ≤ j → Meets a n b m k j
  both : {k j : ℕ} → k < n → j < m → Alike a k b j → Meets a n b m k j

abbrev pub delays : ℤ
delays = pos (form_number Delay)

-- a row of another class than that of delay rows stays
class-kept : (rows : List ℤ) (class id : ℤ) (k : ℕ) → (class ≡ delays → ⊥) → is_row_of rows class id k ≡ true → is_kept rows k ≡ true
unfolding is_row_of is_kept class_at class_of
class-kept rows class id k other e = go (same_z (number_at rows k 0) delays) refl
  where
    go : (t : Bool) → same_z (number_at rows k 0) delays ≡ t → not t ≡ true
    go true i =
        let p = same_z-true (number_at rows k 0) delays i in
        let c = same_z-true (class_at rows k) class (and_both (same_z (class_at rows k) class) (same_z (number_at rows k 1) id) e).0 in
        absurd (other (sym c ∙ (unfold class_at class_of same_z is_negative in rw p)))
    go false i = refl

pub record AlsoThere (a : List ℤ) (n : ℕ) (b : List ℤ) (m : ℕ) (class id : ℤ) : Type 0 where
  pub there : first_row b m class id < m
  pub alike : Alike a (first_row a n class id) b (first_row b m class id)

module _ (class id : ℤ) (other : class ≡ delays → ⊥) where
  pub also-there : {a b : List ℤ} {n m : ℕ} → Arranged a n b m → first_row a n class id < n → AlsoThere a n b m class id
  unfolding first_row NoneAgain is_row_of
  also-there {a} {b} {n} {m} x h =
      let k = first_row a n class id in
      let is = (first-is (is_row_of a class id) 0 n).here (omega arith) in
      let s = x.forth k h (class-kept a class id k other is) in
      let js : is_row_of b class id s.j ≡ true = rw (← alike-row s.alike class id) is in
      let p = and_both (same_z (class_at b s.j) class) (same_z (number_at b s.j 1) id) js in
      let found : first_row b m class id ≡ s.j = rw (same_z-true (class_at b s.j) class p.0, same_z-true (number_at b s.j 1) id p.1) at (x.again s.j s.there) in
      record { there = rw found s.there; alike = rw found s.alike }

  module _ {a b : List ℤ} {n m : ℕ} (x : Arranged a n b m) where
    first-meets : Meets a n b m (first_row a n class id) (first_row b m class id)
    first-meets = ⊎_elim (λ h. let t = also-there x h in both h t.there t.alike) (λ h. neither h (none-there h)) (lt-or-ge (first_row a n class id) n)
      where
        none-there : n ≤ first_row a n class id → m ≤ first_row b m class id
        none-there h = ⊎_elim (λ l. let t = also-there (turned x) l in let g = t.there in absurd (omega arith)) (λ l. l) (lt-or-ge (first_row b m class id) m)

    pub met-meets : Meets a n b m (met_row a n class id) (met_row b m class id)
    unfolding met_row
    met-meets = go (same_z id (pos 0))
      where
        go : (t : Bool) → Meets a n b m (cond t n (first_row a n class id)) (cond t m (first_row b m class id))
        go true = neither {k = n} {j = m} (omega arith) (omega arith)
        go false = first-meets

-- ---- The row that is met is of its class
pub met-is : (rows : List ℤ) (n : ℕ) (class id : ℤ) → met_row rows n class id < n → is_row_of rows class id (met_row rows n class id) ≡ true
unfolding met_row first_row
met-is rows n class id = go (same_z id (pos 0))
  where
    go : (t : Bool) → cond t n (first_row rows n class id) < n → is_row_of rows class id (cond t n (first_row rows n class id)) ≡ true
    go true h = absurd (omega arith)
    go false h = (first-is (is_row_of rows class id) 0 n).here (omega arith)

-- a class that is of one kind alone: all but gradients, which have two, and labels, which are two classes
pub class-only : (class : ℕ) → (class ≡ class_number Gradient → ⊥) → (class ≡ class_number Increment → ⊥) → (kind second : ℤ) → class_of kind second ≡ pos class → kind ≡ pos class
unfolding class_of
class-only class not-gradient not-increment kind second = go (same_z kind (pos (form_number Trap))) (same_z kind (pos label_kind) && same_z second (pos 1))
  where
    go : (s t : Bool) → cond s (pos (class_number Gradient)) (cond t (pos (class_number Increment)) kind) ≡ pos class → kind ≡ pos class
    go true t e = absurd (not-gradient (ap nat_abs (sym e)))
    go false true e = absurd (not-increment (ap nat_abs (sym e)))
    go false false e = e

pub class-kind : (class : ℕ) → (class ≡ class_number Gradient → ⊥) → (class ≡ class_number Increment → ⊥) → (rows : List ℤ) (id : ℤ) (k : ℕ) → is_row_of rows (pos class) id k ≡ true
    → number_at rows k 0 ≡ pos class
unfolding is_row_of class_at
class-kind class a b rows id k e =
    class-only class a b (number_at rows k 0) (number_at rows k 2)
    (same_z-true _ (pos class) (and_both (same_z (class_of (number_at rows k 0) (number_at rows k 2)) (pos class)) (same_z (number_at rows k 1) id) e).0)

-- a row of another class than those of blocks and of shapes says all its numbers as they were
anew-class : (rows : List ℤ) (class id : ℤ) (k kind : ℕ) → class_of (pos kind) (number_at rows k 2) ≡ pos kind → (class ≡ pos kind → ⊥) → is_row_of rows class id k ≡ true → same_z (number_at rows k 0) (pos kind) ≡ false
unfolding is_row_of class_at
anew-class rows class id k kind own other e = go (same_z (number_at rows k 0) (pos kind)) refl
  where
    go : (t : Bool) → same_z (number_at rows k 0) (pos kind) ≡ t → t ≡ false
    go true i =
        let p = same_z-true (number_at rows k 0) (pos kind) i in
        let c = same_z-true (class_at rows k) class (and_both (same_z (class_at rows k) class) (same_z (number_at rows k 1) id) e).0 in
        absurd (other (sym c ∙ ap (λ (z : ℤ). class_of z (number_at rows k 2)) p ∙ own))
    go false i = refl

pub kind-keeps : (kind : ℤ) → same_z kind (pos (form_number Block)) ≡ false → same_z kind (pos shape_kind) ≡ false → (c : ℕ) → is_anew kind c ≡ false
unfolding is_anew
kind-keeps kind no_block no-shape c = rw (no_block, no-shape) (neither-way (eqb c 2 || eqb c 9) (eqb c 3))
  where
    neither-way : (p q : Bool) → ((p && false) || (q && false)) ≡ false
    neither-way true true = refl
    neither-way true false = refl
    neither-way false true = refl
    neither-way false false = refl

pub class-keeps : (rows : List ℤ) (class id : ℤ) (k : ℕ) → (class ≡ pos (form_number Block) → ⊥) → (class ≡ pos shape_kind → ⊥) → is_row_of rows class id k ≡ true → (c : ℕ) → is_anew (number_at rows k 0) c ≡ false
unfolding class_of same_z
class-keeps rows class id k no_block no-shape e =
    kind-keeps (number_at rows k 0) (anew-class rows class id k (form_number Block) refl no_block e) (anew-class rows class id k shape_kind refl no-shape e)

module _ {a b : List ℤ} {n m : ℕ} (x : Arranged a n b m) where
  pub met-second : (class id : ℤ) → (class ≡ delays → ⊥) → (class ≡ pos (form_number Block) → ⊥) → (class ≡ pos shape_kind → ⊥) → met_number a n class id 2 ≡ met_number b m class id 2
  unfolding met_number
  met-second class id other no_block no-shape = go (met-meets class id other x) (met-is a n class id)
    where
      go : {k j : ℕ} → Meets a n b m k j → (k < n → is_row_of a class id k ≡ true) → cond (ltb k n) (number_at a k 2) (pos 0) ≡ cond (ltb j m) (number_at b j 2) (pos 0)
      go {k} {j} (neither h l) is = rw (le-ltb k n h, le-ltb j m l)
      go {k} {j} (both h l s) is = rw (lt-ltb k n h, lt-ltb j m l) (s.same 2 (class-keeps a class id k no_block no-shape (is h) 2))

-- ---- Shapes that are alike have the same samples
pub record SameSamples (a : List ℤ) (n : ℕ) (s : List ℤ) (b : List ℤ) (m : ℕ) (t : List ℤ) : Type 0 where
  pub same : (k j : ℕ) → k < n → j < m → number_at a k 0 ≡ pos shape_kind → Alike a k b j → samples_at a k s ≡ samples_at b j t

module _ {a b : List ℤ} {n m : ℕ} (x : Arranged a n b m) {s t : List ℤ} (same : SameSamples a n s b m t) where
  pub samples-same : (id : ℤ) → samples_of a n s id ≡ samples_of b m t id
  unfolding samples_of met_number samples_at
  samples-same id = go (met-meets (pos shape_kind) id (pos-other (λ e. omega arith)) x) (met-is a n (pos shape_kind) id)
    where
      part : List ℤ → ℕ → List ℤ → ℕ → List ℤ
      part rows n samples k = take (nat_abs (cond (ltb k n) (number_at rows k 2) (pos 0))) (drop (nat_abs (cond (ltb k n) (number_at rows k 3) (pos 0))) samples)

      go : {k j : ℕ} → Meets a n b m k j → (k < n → is_row_of a (pos shape_kind) id k ≡ true) → part a n s k ≡ part b m t j
      go {k} {j} (neither h l) is = rw (le-ltb k n h, le-ltb j m l)
      go {k} {j} (both h l y) is = rw (lt-ltb k n h, lt-ltb j m l) (same.same k j h l (class-kind shape_kind (λ e. omega arith) (λ e. omega arith) a id k (is h)) y)
