-- Rules that no row breaks, where each row was asked for all of them at once. Assumes nothing.
use Prim.Native.Nat.{ℕ, ◌≤◌, ◌<◌, min}
use mathlib.Core.Bool.{Bool, true, false, ◌||◌, or-false, or-true, true≢false}
use mathlib.Core.List.{List}
use mathlib.Core.Logic.{⊎_elim}
use mathlib.Core.Path.{◌≡◌, refl, sym, ◌∙◌}
use native.Mathlib.Omega.{arith}
use lib.IntN.{ℤ, pos}
use Rattle.signed.specs.Signed.{same_z}
use Rattle.text.proofs.Cases.{lt-or-ge, or-none}
use Rattle.unit.specs.declared.Rasters.{Rasters}
use Rattle.shape.specs.declared.Edition.{Edition}
use Rattle.shape.specs.declared.Edition.TheVariants.{V13, V14}
use Rattle.tables.specs.Tables.{first_such, number_at}
use Rattle.tables.proofs.Found.{FirstIs, first-is}
use Rattle.chains.specs.Chains.{loops_at}
use Rattle.references.specs.References.{dangles_at}
use Rattle.events.specs.Align.{misaligned_at}
use Rattle.blocks.specs.Blocks.{is_long}
use Rattle.blocks.specs.Inside.{block_breaks}
use Rattle.blocks.proofs.Lasting.{long-other, outlasts-other}
use Rattle.rules.specs.Rules.{align_broken, outlasts_broken, is_broken, first_broken}
use Rattle.rules.specs.Inside.{breaks_other, breaks_any}
use Rattle.rules.specs.declared.Rule.{Rule}
use Rattle.rules.specs.declared.Rule.TheVariants.{Reference, Loop, Use, Align, Long, Outlasts}

-- ---- OUTLASTS of a row that is no block, and what is asked of one that is
no-outlasts : (e : Edition) (q : Rasters) (rows : List ℤ) (n : ℕ) (samples : List ℤ) (k : ℕ) (kind : ℤ) → kind ≡ number_at rows k 0 → same_z kind (pos 1) ≡ false
    → false ≡ outlasts_broken e q rows n samples k
unfolding outlasts_broken
no-outlasts V13 q rows n samples k kind p f = refl
no-outlasts V14 q rows n samples k kind p f = outlasts-other q rows n samples k kind p f

by-edition : (e : Edition) (q : Rasters) (rows : List ℤ) (n : ℕ) (samples : List ℤ) (k : ℕ) → number_at rows k 0 ≡ pos 1
    → block_breaks e q rows n samples k ≡ dangles_at e rows n k || (align_broken e q rows k || (is_long e q rows n samples k || outlasts_broken e q rows n samples k))
unfolding block_breaks align_broken outlasts_broken misaligned_at same_z
by-edition V13 q rows n samples k p = rw (or-false (is_long V13 q rows n samples k))
by-edition V14 q rows n samples k p = rw p

-- ---- whether row k breaks any rule but USE, by the answers of the code's tests
module _ (e : Edition) (q : Rasters) (rows : List ℤ) (n : ℕ) (samples : List ℤ) (k : ℕ) where
  -- a row that is no block can break no other rule
  pub other-align : {a : Bool} → a ≡ dangles_at e rows n k → a ≡ false → {b : Bool} → b ≡ loops_at rows n k → b ≡ false → {d : Bool} → d ≡ align_broken e q rows k
      → {kind : ℤ} → kind ≡ number_at rows k 0 → same_z kind (pos 1) ≡ false → d ≡ breaks_other e q rows n samples k
  unfolding breaks_other is_broken
  other-align p x r y {d} t {kind} i f =
      rw (← p, x, ← r, y, ← t, ← long-other q rows n samples k kind i e f, ← no-outlasts e q rows n samples k kind i f) (sym (or-false d))

  -- a block can break no other rule than those that are asked of it
  pub other_block : number_at rows k 0 ≡ pos 1 → {r : Bool} → r ≡ block_breaks e q rows n samples k → r ≡ breaks_other e q rows n samples k
  unfolding breaks_other is_broken loops_at same_z
  other_block i p = p ∙ rw i (by-edition e q rows n samples k i)

-- ---- a row that breaks none keeps each
module _ (e : Edition) (q : Rasters) (rows : List ℤ) (n : ℕ) (samples : List ℤ) where
  abbrev Broken : Rule → ℕ → Bool
  Broken rule k = is_broken rule e q rows n samples k

  keeps : (rule : Rule) (k : ℕ) → breaks_any e q rows n samples k ≡ false → is_broken rule e q rows n samples k ≡ false
  unfolding breaks_any breaks_other
  keeps rule k h =
      let six = or-none (Broken Reference k || (Broken Loop k || (Broken Align k || (Broken Long k || Broken Outlasts k)))) (Broken Use k) h in
      let five = or-none (Broken Reference k) (Broken Loop k || (Broken Align k || (Broken Long k || Broken Outlasts k))) six.0 in
      let four = or-none (Broken Loop k) (Broken Align k || (Broken Long k || Broken Outlasts k)) five.1 in
      let two = or-none (Broken Align k) (Broken Long k || Broken Outlasts k) four.1 in
      go rule five.0 four.0 six.1 two.0 (or-none (Broken Long k) (Broken Outlasts k) two.1)
    where
      go : (r : Rule) → Broken Reference k ≡ false → Broken Loop k ≡ false → Broken Use k ≡ false → Broken Align k ≡ false → (Broken Long k ≡ false) × (Broken Outlasts k ≡ false) → Broken r k ≡ false
      go Reference a b c d f = a
      go Loop a b c d f = b
      go Use a b c d f = c
      go Align a b c d f = d
      go Long a b c d f = f.0
      go Outlasts a b c d f = f.1

  -- so where none of n rows breaks any, no rule is broken
  pub none-broken : {r : ℕ} → r ≡ first_such (breaks_any e q rows n samples) 0 n → n ≤ r → (rule : Rule) → n ≤ first_broken rule e q rows n samples
  unfolding first_broken
  none-broken {r} p h rule =
      let first = first_such (is_broken rule e q rows n samples) 0 n in
      let any = first-is (breaks_any e q rows n samples) 0 n in
      let own = first-is (is_broken rule e q rows n samples) 0 n in
      ⊎_elim (λ (l : first < n). absurd (true≢false (sym (own.here (omega arith)) ∙ keeps rule first (any.before first (omega arith) (omega arith))))) (λ (l : n ≤ first). l) (lt-or-ge first n)

-- ---- the first row that breaks any is the earlier of the first for USE and the first for another
module _ (a b : ℕ → Bool) where
  abbrev either : ℕ → Bool
  either k = a k || b k

  -- a row before which neither holds, and at which one does, or none is left
  module _ (n r : ℕ) (most : r ≤ n) (before : (j : ℕ) → j < r → either j ≡ false) (here : r < n → either r ≡ true) where
    either_is : r ≡ first_such either 0 n
    either_is =
        let f = first-is either 0 n in
        let later = f.most in
        ⊎_elim (λ (l : r < first_such either 0 n). absurd (true≢false (sym (here (omega arith)) ∙ f.before r (omega arith) l)))
        (λ (l : first_such either 0 n ≤ r).
        ⊎_elim (λ (m : first_such either 0 n < r). absurd (true≢false (sym (f.here (omega arith)) ∙ before (first_such either 0 n) m))) (λ (m : r ≤ first_such either 0 n). omega arith) (lt-or-ge (first_such either 0 n) r))
        (lt-or-ge r (first_such either 0 n))

  module _ (n x y : ℕ) (p : x ≡ first_such a 0 n) (q : y ≡ first_such b 0 n) where
    abbrev f : FirstIs a 0 n (first_such a 0 n)
    f = first-is a 0 n

    abbrev g : FirstIs b 0 n (first_such b 0 n)
    g = first-is b 0 n

    neither : (j : ℕ) → j < x → j < y → either j ≡ false
    neither j h k = rw (f.before j (omega arith) (rw (← p) h), g.before j (omega arith) (rw (← q) k))

    earlier-left : x < y → x ≡ first_such either 0 n
    earlier-left h =
        let m = g.most in
        either_is n x (let l = f.most in omega arith) (λ j k. neither j k (omega arith)) (λ (k : x < n). rw p (rw (f.here (rw (← p) (omega arith)))))

    earlier-right : y ≤ x → y ≡ first_such either 0 n
    earlier-right h =
        either_is n y (let l = g.most in omega arith) (λ j k. neither j (omega arith) k) (λ (k : y < n). rw q (rw (g.here (rw (← q) (omega arith))) (or-true (a (first_such b 0 n)))))

    pub earlier_is : {r : ℕ} → r ≡ min x y → r ≡ first_such either 0 n
    earlier_is e = ⊎_elim (λ (h : x < y). let l : min x y ≡ x = omega arith in e ∙ l ∙ earlier-left h) (λ (h : y ≤ x). let l : min x y ≡ y = omega arith in e ∙ l ∙ earlier-right h) (lt-or-ge x y)
