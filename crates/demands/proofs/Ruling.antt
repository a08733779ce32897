-- Each rule's question, answered no for every row, is the rule's sentence. Assumes nothing.
use Prim.Native.Nat.{ℕ, zero, suc, ◌+◌, ◌*◌, ◌%◌, ◌^◌, ◌≤◌, ◌<◌}
use mathlib.Core.Bool.{Bool, true, false, cond, not, ◌&&◌, ◌||◌, true≢false}
use mathlib.Core.List.{List, [], ◌∷◌}
use mathlib.Core.Logic.{◌⊎◌, ⊎_elim}
use mathlib.Core.Path.{◌≡◌, refl, sym, ap, ◌∙◌}
use native.Mathlib.Nat.{eq-or-lt_of_le}
use native.Mathlib.Omega.{arith}
use borrow.Author.Tests.{eqb-true, eq-eqb, ne_eqb, leb-true, le-leb, ltb-true, ltb-false, lt-ltb, le-ltb}
use lib.Dec.{eqb, ltb, leb}
use lib.IntN.{ℤ, pos, negsuc, nat_abs}
use lib.ListN.{length, get_or}
use lib.Signed.{lt_z, non_neg}
use Rattle.text.proofs.Cases.{lt-or-ge, and_both, or-none}
use Rattle.signed.specs.Signed.{same_z}
use Rattle.signed.proofs.Sign.{same_z-refl, same_z-true, same_z-other}
use Rattle.unit.proofs.Exact.{micros-exact}
use Rattle.unit.specs.declared.Rasters.{Rasters}
use Rattle.shape.specs.declared.Edition.{Edition}
use Rattle.shape.specs.declared.Edition.TheVariants.{V13, V14}
use Rattle.columns.specs.Columns.{columns_of}
use Rattle.columns.specs.declared.Form.TheVariants.{Rf, Gradient, Trap}
use Rattle.tables.specs.Tables.{first_such, number_at, first_row, is_row_of, NoneAgain, OnlyRow, samples_of, one}
use Rattle.tables.proofs.Found.{first-is}
use Rattle.chains.specs.Chains.{next_entry, exceeds_of, loops_at}
use Rattle.references.specs.References.{ref_at, misses_of, misses_at, dangles_at}
use Rattle.references.proofs.Meeting.{reference-met}
use Rattle.events.specs.Use.{all_unit, follows_of, rises_from, time_fits, shaped_fits, rf_fits, misfits_at}
use Rattle.events.specs.Align.{is_off, micros_off, trap_off, misaligned_at}
use Rattle.lengths.specs.Lengths.{micros_at}
use Rattle.blocks.specs.Blocks.{longest_of, number_length, longest_event, block_length, is_block, is_long, outlasts_at}
use Rattle.rules.specs.Rules.{align_broken, outlasts_broken}
use Rattle.exact_lengths.specs.Tables.{RowHeld, TablesIn}
use Rattle.exact_lengths.proofs.Most.{number-most}
use Rattle.exact_lengths.proofs.Exact.{outlasts-exact}
use Rattle.demands.specs.Rules.{Checked, MeetsOne, Chain, last_entry, more-entries, InUnit, Times, Shaped, Fits, Multiple, Aligned}

-- ---- the first of n rows, and every row
module _ (holds : ℕ → Bool) (n : ℕ) where
  pub such-all : n ≤ first_such holds 0 n → (k : ℕ) → k < n → holds k ≡ false
  such-all h k l = (first-is holds 0 n).before k (omega arith) (omega arith)

  pub all-such : ((k : ℕ) → k < n → holds k ≡ false) → n ≤ first_such holds 0 n
  all-such none =
      let f = first-is holds 0 n in
      ⊎_elim (λ (h : first_such holds 0 n < n). absurd (true≢false (sym (f.here (omega arith)) ∙ none (first_such holds 0 n) h))) (λ h. h) (lt-or-ge (first_such holds 0 n) n)

-- ---- tests and what they say
pub same-is : (a b : ℤ) → a ≡ b → same_z a b ≡ true
same-is a b e = rw e (same_z-refl b)

not_same : (a b : ℤ) → same_z a b ≡ false → a ≡ b → ⊥
not_same a b e p = true≢false (sym (same-is a b p) ∙ e)

kind-not : (z : ℤ) (a b : ℕ) → z ≡ pos a → (a ≡ b → ⊥) → same_z z (pos b) ≡ false
kind-not z a b p n = same_z-other z (pos b) (λ (q : z ≡ pos b). n (ap nat_abs (sym p ∙ q)))

pub not_is : (b : Bool) → not b ≡ false → b ≡ true
not_is true e = refl
not_is false e = absurd (true≢false e)

and-two : {x y : Bool} → x ≡ true → y ≡ true → x && y ≡ true
and-two p q = rw (p, q)

-- ---- REFERENCE
module _ (e : Edition) (rows : List ℤ) (n : ℕ) (k : ℕ) where
  pub meets : NoneAgain rows n → dangles_at e rows n k ≡ false → (c : ℕ) → c < 12 → Checked e rows n k c → MeetsOne e rows n k c
  meets once d c h x =
      record { row = _; only = reference-met e rows n k once d c h (same_z-other (ref_at e rows n k c) (pos 0) x.refers) (same_z-other (number_at rows k c) (pos 0) x.nonzero) }

  found-low : (class id : ℤ) (r : ℕ) → OnlyRow rows n class id r → first_row rows n class id < n
  unfolding first_row
  found-low class id r o =
      let f = first-is (is_row_of rows class id) 0 n in
      let t = o.there in
      ⊎_elim (λ (h : r < first_such (is_row_of rows class id) 0 n). absurd (true≢false (sym o.is ∙ f.before r (omega arith) h))) (λ (h : first_such (is_row_of rows class id) 0 n ≤ r). omega arith)
      (lt-or-ge r (first_such (is_row_of rows class id) 0 n))

  found-not : (c : ℕ) → (Checked e rows n k c → MeetsOne e rows n k c) → misses_at e rows n k c ≡ false
  unfolding misses_at misses_of
  found-not c m = go (same_z (ref_at e rows n k c) (pos 0)) (same_z (number_at rows k c) (pos 0)) refl refl
    where
      go : (a b : Bool) → same_z (ref_at e rows n k c) (pos 0) ≡ a → same_z (number_at rows k c) (pos 0) ≡ b
          → not a && (not b && not (ltb (first_row rows n (ref_at e rows n k c) (number_at rows k c)) n)) ≡ false
      go true b p q = refl
      go false true p q = refl
      go false false p q =
          let x = m (record { refers = not_same _ _ p; nonzero = not_same _ _ q }) in
          rw (lt-ltb _ n (found-low (ref_at e rows n k c) (number_at rows k c) x.row x.only))

  pub dangles-not : ((c : ℕ) → c < 12 → Checked e rows n k c → MeetsOne e rows n k c) → dangles_at e rows n k ≡ false
  unfolding dangles_at
  dangles-not m = le-ltb _ 12 (all-such (misses_at e rows n k) 12 (λ c h. found-not c (m c h)))

-- ---- LOOP
module _ (rows : List ℤ) (n : ℕ) where
  chain-of : (most k : ℕ) → exceeds_of rows n most k ≡ false → Chain rows n most k
  unfolding exceeds_of
  chain-of zero k e = absurd (true≢false e)
  chain-of (suc most) k e = go (ltb (next_entry rows n k) n) refl (chain-of most (next_entry rows n k)) e
    where
      go : (b : Bool) → ltb (next_entry rows n k) n ≡ b → (exceeds_of rows n most (next_entry rows n k) ≡ false → Chain rows n most (next_entry rows n k))
          → cond b (exceeds_of rows n most (next_entry rows n k)) false ≡ false → Chain rows n (suc most) k
      go true p rest q = more-entries (ltb-true _ n p) (rest q)
      go false p rest q = last_entry (ltb-false _ n p)

  of-chain : {most k : ℕ} → Chain rows n most k → exceeds_of rows n most k ≡ false
  unfolding exceeds_of
  of-chain (last_entry h) = rw (le-ltb _ n h)
  of-chain (more-entries h c) = rw (lt-ltb _ n h) (of-chain c)

  pub chain-ends : (k : ℕ) → loops_at rows n k ≡ false → number_at rows k 0 ≡ pos 7 → Chain rows n 256 k
  unfolding loops_at
  chain-ends k e p = chain-of 256 k (rw (same-is (number_at rows k 0) (pos 7) p) at e)

  pub loops-not : (k : ℕ) → (number_at rows k 0 ≡ pos 7 → Chain rows n 256 k) → loops_at rows n k ≡ false
  unfolding loops_at
  loops-not k c = go (same_z (number_at rows k 0) (pos 7)) refl
    where
      go : (b : Bool) → same_z (number_at rows k 0) (pos 7) ≡ b → b && exceeds_of rows n 256 k ≡ false
      go true p = of-chain (c (same_z-true _ _ p))
      go false p = refl

-- ---- USE: samples between -1 and 1
unit-of : (zs : List ℤ) → all_unit zs ≡ true → (i : ℕ) → i < length zs → nat_abs (get_or zs i (pos 0)) ≤ one
unfolding all_unit
unit-of [] e i h = absurd (omega arith)
unit-of (z ∷ zs) e zero h = leb-true (nat_abs z) one (and_both (leb (nat_abs z) one) (all_unit zs) e).0
unit-of (z ∷ zs) e (suc i) h = unit-of zs (and_both (leb (nat_abs z) one) (all_unit zs) e).1 i (omega arith)

of-unit : (zs : List ℤ) → InUnit zs → all_unit zs ≡ true
unfolding all_unit
of-unit [] u = refl
of-unit (z ∷ zs) u = and-two (le-leb (nat_abs z) one (u 0 (omega arith))) (of-unit zs (λ i (h : i < length zs). u (suc i) (omega arith)))

-- whole times that rise from a first one that is not negative
abbrev Low : ℤ → Type 0
Low (pos a) = Unit
Low (negsuc zero) = Unit
Low (negsuc (suc a)) = ⊥

low-next : (last z : ℤ) → Low last → lt_z last z ≡ true → non_neg z ≡ true
low-next last (pos b) l e = refl
low-next (pos a) (negsuc b) l e = absurd (true≢false (sym e))
low-next (negsuc zero) (negsuc b) l e = let h = ltb-true b 0 e in absurd (omega arith)
low-next (negsuc (suc a)) (negsuc b) l e = absurd l

not_low : (z : ℤ) → non_neg z ≡ true → Low z
not_low (pos a) e = tt
not_low (negsuc a) e = absurd (true≢false (sym e))

past-minus : (z : ℤ) → non_neg z ≡ true → lt_z (negsuc 0) z ≡ true
past-minus (pos a) e = refl
past-minus (negsuc a) e = absurd (true≢false (sym e))

module _ (last z : ℤ) (zs : List ℤ) (e : rises_from last (z ∷ zs) ≡ true) where
  rise-later : lt_z last z ≡ true
  unfolding rises_from follows_of
  rise-later = (and_both (lt_z last z) (eqb (nat_abs z % one) 0) (and_both (follows_of last z) (rises_from z zs) e).0).0

  rise-whole : nat_abs z % one ≡ 0
  unfolding rises_from follows_of
  rise-whole = eqb-true (nat_abs z % one) 0 (and_both (lt_z last z) (eqb (nat_abs z % one) 0) (and_both (follows_of last z) (rises_from z zs) e).0).1

  rise-rest : rises_from z zs ≡ true
  unfolding rises_from
  rise-rest = (and_both (follows_of last z) (rises_from z zs) e).1

whole_of : (last : ℤ) (zs : List ℤ) → rises_from last zs ≡ true → (i : ℕ) → i < length zs → nat_abs (get_or zs i (pos 0)) % one ≡ 0
whole_of last [] e i h = absurd (omega arith)
whole_of last (z ∷ zs) e zero h = rise-whole last z zs e
whole_of last (z ∷ zs) e (suc i) h = whole_of z zs (rise-rest last z zs e) i (omega arith)

nonnegative-of : (last : ℤ) (zs : List ℤ) → Low last → rises_from last zs ≡ true → (i : ℕ) → i < length zs → non_neg (get_or zs i (pos 0)) ≡ true
nonnegative-of last [] l e i h = absurd (omega arith)
nonnegative-of last (z ∷ zs) l e zero h = low-next last z l (rise-later last z zs e)
nonnegative-of last (z ∷ zs) l e (suc i) h = nonnegative-of z zs (not_low z (low-next last z l (rise-later last z zs e))) (rise-rest last z zs e) i (omega arith)

rising-of : (last : ℤ) (zs : List ℤ) → rises_from last zs ≡ true → (i : ℕ) → suc i < length zs → lt_z (get_or zs i (pos 0)) (get_or zs (suc i) (pos 0)) ≡ true
rising-of last [] e i h = absurd (omega arith)
rising-of last (z ∷ []) e zero h = absurd (omega arith)
rising-of last (z ∷ y ∷ zs) e zero h = rise-later z y zs (rise-rest last z (y ∷ zs) e)
rising-of last (z ∷ zs) e (suc i) h = rising-of z zs (rise-rest last z zs e) i (omega arith)

rises-of : (last : ℤ) (zs : List ℤ) → (0 < length zs → lt_z last (get_or zs 0 (pos 0)) ≡ true) → ((i : ℕ) → i < length zs → nat_abs (get_or zs i (pos 0)) % one ≡ 0)
    → ((i : ℕ) → suc i < length zs → lt_z (get_or zs i (pos 0)) (get_or zs (suc i) (pos 0)) ≡ true) → rises_from last zs ≡ true
unfolding rises_from follows_of
rises-of last [] f w r = refl
rises-of last (z ∷ zs) f w r =
    and-two (and-two (f (omega arith)) (eq-eqb (nat_abs z % one) 0 (w 0 (omega arith))))
    (rises-of z zs (λ (h : 0 < length zs). r 0 (omega arith)) (λ i (h : i < length zs). w (suc i) (omega arith)) (λ i (h : suc i < length zs). r (suc i) (omega arith)))

-- an event's shapes
module _ (rows : List ℤ) (n : ℕ) (samples : List ℤ) (k : ℕ) where
  abbrev shape_in : ℕ → List ℤ
  shape_in c = samples_of rows n samples (number_at rows k c)

  times-of : (c count : ℕ) → time_fits rows n samples (number_at rows k c) count ≡ true → (number_at rows k c ≡ pos 0 → ⊥) → Times count (shape_in c)
  unfolding time_fits
  times-of c count e z =
      let b = and_both (eqb (length (shape_in c)) count) (rises_from (negsuc 0) (shape_in c)) (rw (same_z-other (number_at rows k c) (pos 0) z) at e) in
      record {
        many = eqb-true (length (shape_in c)) count b.0;
        whole = whole_of (negsuc 0) (shape_in c) b.1;
        nonnegative = nonnegative-of (negsuc 0) (shape_in c) tt b.1;
        rising = rising-of (negsuc 0) (shape_in c) b.1;
      }

  of-times : (c count : ℕ) → ((number_at rows k c ≡ pos 0 → ⊥) → Times count (shape_in c)) → time_fits rows n samples (number_at rows k c) count ≡ true
  unfolding time_fits
  of-times c count t = go (same_z (number_at rows k c) (pos 0)) refl
    where
      go : (b : Bool) → same_z (number_at rows k c) (pos 0) ≡ b → b || (eqb (length (shape_in c)) count && rises_from (negsuc 0) (shape_in c)) ≡ true
      go true p = refl
      go false p =
          let x = t (not_same _ _ p) in
          and-two (eq-eqb (length (shape_in c)) count x.many)
          (rises-of (negsuc 0) (shape_in c) (λ (h : 0 < length (shape_in c)). past-minus (get_or (shape_in c) 0 (pos 0)) (x.nonnegative 0 h)) x.whole x.rising)

  shaped_of : (c : ℕ) → shaped_fits rows n samples k c ≡ true → Shaped rows n samples k c
  unfolding shaped_fits
  shaped_of c e =
      let b = and_both (all_unit (shape_in 4)) (time_fits rows n samples (number_at rows k c) (length (shape_in 4))) e in
      record { amplitude = unit-of (shape_in 4) b.0; times = times-of c (length (shape_in 4)) b.1 }

  of-shaped : (c : ℕ) → Shaped rows n samples k c → shaped_fits rows n samples k c ≡ true
  unfolding shaped_fits
  of-shaped c s = and-two (of-unit (shape_in 4) s.amplitude) (of-times c (length (shape_in 4)) s.times)

  abbrev kind : ℤ
  kind = number_at rows k 0

  pub fits-of : misfits_at rows n samples k ≡ false → Fits rows n samples k
  unfolding misfits_at rf_fits
  fits-of e = record { counts = λ p. eqb-true _ _ (both p).0; rf = λ p. shaped_of 6 (both p).1; gradient = λ p. shaped_of 5 (other p) }
    where
      both : kind ≡ pos 2 → (eqb (length (shape_in 4)) (length (shape_in 5)) ≡ true) × (shaped_fits rows n samples k 6 ≡ true)
      both p = and_both (eqb (length (shape_in 4)) (length (shape_in 5))) (shaped_fits rows n samples k 6) (not_is _ (rw (same-is kind (pos 2) p) at e))

      other : kind ≡ pos 3 → shaped_fits rows n samples k 5 ≡ true
      other p = not_is _ (rw (kind-not kind 3 2 p (λ (h : 3 ≡ 2). omega arith), same-is kind (pos 3) p) at e)

  pub of-fits : Fits rows n samples k → misfits_at rows n samples k ≡ false
  unfolding misfits_at rf_fits
  of-fits f = go (same_z kind (pos 2)) (same_z kind (pos 3)) refl refl
    where
      go : (a b : Bool) → same_z kind (pos 2) ≡ a → same_z kind (pos 3) ≡ b
          → cond a (not (eqb (length (shape_in 4)) (length (shape_in 5)) && shaped_fits rows n samples k 6)) (cond b (not (shaped_fits rows n samples k 5)) false) ≡ false
      go true b p q = let z = same_z-true kind (pos 2) p in rw (eq-eqb (length (shape_in 4)) (length (shape_in 5)) (f.counts z), of-shaped 6 (f.rf z))
      go false true p q = rw (of-shaped 5 (f.gradient (same_z-true kind (pos 3) q)))
      go false false p q = refl

-- ---- ALIGN: a time in ns is on a raster
module _ (ns raster : ℕ) (some : 1 ≤ raster) where
  on_of : is_off ns raster ≡ false → Multiple raster ns
  unfolding is_off
  on_of e = eqb-true (ns % raster) 0 (and_both (not (eqb raster 0)) (eqb (ns % raster) 0) (not_is _ e)).1

  of-on : Multiple raster ns → is_off ns raster ≡ false
  unfolding is_off
  of-on m = rw (ne_eqb raster 0 (λ (z : raster ≡ 0). omega arith), eq-eqb (ns % raster) 0 m)

-- in microseconds, of a number in range
module _ (rows : List ℤ) (k c raster : ℕ) (few : nat_abs (number_at rows k c) ≤ 10 ^ 9) (some : 1 ≤ raster) where
  micros-of : micros_off rows k raster c ≡ false → Multiple raster (micros_at rows k c)
  unfolding micros_off micros_at
  micros-of e = on_of (nat_abs (number_at rows k c) * 1000) raster some (rw (micros-exact (nat_abs (number_at rows k c)) few) at e)

  of-micros : Multiple raster (micros_at rows k c) → micros_off rows k raster c ≡ false
  unfolding micros_off micros_at
  of-micros m = rw (micros-exact (nat_abs (number_at rows k c)) few) (of-on (nat_abs (number_at rows k c) * 1000) raster some m)

-- one of four numbers
by-four : (P : ℕ → Type 0) → P 4 → P 5 → P 6 → P 7 → (c : ℕ) → 4 ≤ c → c ≤ 7 → P c
by-four P p q r s zero a b = absurd (omega arith)
by-four P p q r s (suc zero) a b = absurd (omega arith)
by-four P p q r s (suc (suc zero)) a b = absurd (omega arith)
by-four P p q r s (suc (suc (suc zero))) a b = absurd (omega arith)
by-four P p q r s (suc (suc (suc (suc zero)))) a b = p
by-four P p q r s (suc (suc (suc (suc (suc zero))))) a b = q
by-four P p q r s (suc (suc (suc (suc (suc (suc zero)))))) a b = r
by-four P p q r s (suc (suc (suc (suc (suc (suc (suc zero))))))) a b = s
by-four P p q r s (suc (suc (suc (suc (suc (suc (suc (suc c)))))))) a b = absurd (omega arith)

-- times of a row in range, whatever its edition
module _ (rows : List ℤ) (k : ℕ) where
  rf-most : (e : Edition) → RowHeld e rows k → number_at rows k 0 ≡ pos 2 → nat_abs (number_at rows k 7) ≤ 10 ^ 9
  unfolding columns_of
  rf-most V13 held p = number-most V13 Rf 6 rows k held p
  rf-most V14 held p = number-most V14 Rf 6 rows k held p

  gradient-most : (e : Edition) → RowHeld e rows k → number_at rows k 0 ≡ pos 3 → nat_abs (number_at rows k 6) ≤ 10 ^ 9
  unfolding columns_of
  gradient-most V13 held p = number-most V13 Gradient 5 rows k held p
  gradient-most V14 held p = number-most V14 Gradient 5 rows k held p

module _ (q : Rasters) (rows : List ℤ) (k : ℕ) (e : Edition) (held : RowHeld e rows k) (gradient : 1 ≤ q.gradient.0) (rf : 1 ≤ q.rf.0) (adc : 1 ≤ q.adc.0) where
  abbrev kind_here : ℤ
  kind_here = number_at rows k 0

  rf-few : kind_here ≡ pos 2 → nat_abs (number_at rows k 7) ≤ 10 ^ 9
  rf-few p = rf-most rows k e held p

  gradient-few : kind_here ≡ pos 3 → nat_abs (number_at rows k 6) ≤ 10 ^ 9
  gradient-few p = gradient-most rows k e held p

  trap-few : kind_here ≡ pos 4 → (c : ℕ) → 4 ≤ c → c ≤ 7 → nat_abs (number_at rows k c) ≤ 10 ^ 9
  unfolding columns_of
  trap-few p =
      by-four (λ c. nat_abs (number_at rows k c) ≤ 10 ^ 9) (number-most e Trap 3 rows k held p) (number-most e Trap 4 rows k held p) (number-most e Trap 5 rows k held p)
      (number-most e Trap 6 rows k held p)

  traps-of : kind_here ≡ pos 4 → trap_off rows k q.gradient.0 ≡ false → (c : ℕ) → 4 ≤ c → c ≤ 7 → Multiple q.gradient.0 (micros_at rows k c)
  unfolding trap_off
  traps-of p e c a b = micros-of rows k c q.gradient.0 (trap-few p c a b) gradient (each c a b)
    where
      each : (c : ℕ) → 4 ≤ c → c ≤ 7 → micros_off rows k q.gradient.0 c ≡ false
      each =
          let x = or-none (micros_off rows k q.gradient.0 4) _ e in
          let y = or-none (micros_off rows k q.gradient.0 5) _ x.1 in
          let z = or-none (micros_off rows k q.gradient.0 6) _ y.1 in
          by-four (λ i. micros_off rows k q.gradient.0 i ≡ false) x.0 y.0 z.0 z.1

  of-traps : kind_here ≡ pos 4 → ((c : ℕ) → 4 ≤ c → c ≤ 7 → Multiple q.gradient.0 (micros_at rows k c)) → trap_off rows k q.gradient.0 ≡ false
  unfolding trap_off
  of-traps p m = rw (each 4 (omega arith) (omega arith), each 5 (omega arith) (omega arith), each 6 (omega arith) (omega arith), each 7 (omega arith) (omega arith))
    where
      each : (c : ℕ) → 4 ≤ c → c ≤ 7 → micros_off rows k q.gradient.0 c ≡ false
      each c a b = of-micros rows k c q.gradient.0 (trap-few p c a b) gradient (m c a b)

  pub aligned-of : misaligned_at q rows k ≡ false → Aligned q rows k
  unfolding misaligned_at
  aligned-of e =
      record {
        rf = λ p. micros-of rows k 7 q.rf.0 (rf-few p) rf (rw (same-is kind_here (pos 2) p) at e);
        gradient = λ p. micros-of rows k 6 q.gradient.0 (gradient-few p) gradient (rw (kind-not kind_here 3 2 p (λ (h : 3 ≡ 2). omega arith), same-is kind_here (pos 3) p) at e);
        trap = λ p.
            traps-of p
            (rw (kind-not kind_here 4 2 p (λ (h : 4 ≡ 2). omega arith), kind-not kind_here 4 3 p (λ (h : 4 ≡ 3). omega arith), same-is kind_here (pos 4) p) at e);
        adc = λ p.
            on_of (nat_abs (number_at rows k 3)) q.adc.0 adc
            (rw (kind-not kind_here 5 2 p (λ (h : 5 ≡ 2). omega arith), kind-not kind_here 5 3 p (λ (h : 5 ≡ 3). omega arith), kind-not kind_here 5 4 p (λ (h : 5 ≡ 4). omega arith), same-is kind_here (pos 5) p) at e);
      }

  of-aligned : Aligned q rows k → misaligned_at q rows k ≡ false
  unfolding misaligned_at
  of-aligned a = go (same_z kind_here (pos 2)) (same_z kind_here (pos 3)) (same_z kind_here (pos 4)) (same_z kind_here (pos 5)) refl refl refl refl
    where
      go : (b c d f : Bool) → same_z kind_here (pos 2) ≡ b → same_z kind_here (pos 3) ≡ c → same_z kind_here (pos 4) ≡ d → same_z kind_here (pos 5) ≡ f
          → cond b (micros_off rows k q.rf.0 7) (cond c (micros_off rows k q.gradient.0 6) (cond d (trap_off rows k q.gradient.0) (cond f (is_off (nat_abs (number_at rows k 3)) q.adc.0) false))) ≡ false
      go true c d f x y z w = let p = same_z-true kind_here (pos 2) x in of-micros rows k 7 q.rf.0 (rf-few p) rf (a.rf p)
      go false true d f x y z w = let p = same_z-true kind_here (pos 3) y in of-micros rows k 6 q.gradient.0 (gradient-few p) gradient (a.gradient p)
      go false false true f x y z w = let p = same_z-true kind_here (pos 4) z in of-traps p (a.trap p)
      go false false false true x y z w = of-on (nat_abs (number_at rows k 3)) q.adc.0 adc (a.adc (same_z-true kind_here (pos 5) w))
      go false false false false x y z w = refl

-- ---- LONG
module _ (e : Edition) (q : Rasters) (rows : List ℤ) (n : ℕ) (samples : List ℤ) (k : ℕ) where
  pub short-of : is_long e q rows n samples k ≡ false → number_at rows k 0 ≡ pos 1 → block_length e q rows n samples k ≤ 10 ^ 12
  unfolding is_long
  short-of x p = ltb-false (10 ^ 12) (block_length e q rows n samples k) (rw (same-is (number_at rows k 0) (pos 1) p) at x)

  pub of-short : (number_at rows k 0 ≡ pos 1 → block_length e q rows n samples k ≤ 10 ^ 12) → is_long e q rows n samples k ≡ false
  unfolding is_long
  of-short s = go (is_block rows k) refl
    where
      go : (b : Bool) → is_block rows k ≡ b → b && ltb (10 ^ 12) (block_length e q rows n samples k) ≡ false
      go true p = le-ltb (10 ^ 12) (block_length e q rows n samples k) (s (same_z-true _ _ p))
      go false p = refl

-- ---- OUTLASTS: the longest of some, and each of them
pub longest-each : (lasts : ℕ → ℕ) (b c m : ℕ) → longest_of lasts c m ≤ b → (i : ℕ) → c ≤ i → i < c + m → lasts i ≤ b
unfolding longest_of
longest-each lasts b c zero h i l u = absurd (omega arith)
longest-each lasts b c (suc m) h i l u =
    ⊎_elim (λ (p : c ≡ i). rw (← p) (omega arith)) (λ (p : c < i). longest-each lasts b (suc c) m (omega arith) i p (omega arith)) (eq-or-lt_of_le l)

pub each-longest : (lasts : ℕ → ℕ) (b c m : ℕ) → ((i : ℕ) → c ≤ i → i < c + m → lasts i ≤ b) → longest_of lasts c m ≤ b
unfolding longest_of
each-longest lasts b c zero f = omega arith
each-longest lasts b c (suc m) f =
    let here = f c (omega arith) (omega arith) in
    let rest = each-longest lasts b (suc c) m (λ i (l : suc c ≤ i) (u : i < suc c + m). f i (omega arith) (omega arith)) in
    omega arith

module _ (q : Rasters) (rows : List ℤ) (n : ℕ) (samples : List ℤ) (t : TablesIn V14 q rows n samples) (k : ℕ) (h : k < n) where
  lasting-of : outlasts_at q rows n samples k ≡ false → number_at rows k 0 ≡ pos 1 → (c : ℕ) → 2 ≤ c → c ≤ 8
      → number_length V14 q rows n samples k c ≤ block_length V14 q rows n samples k
  unfolding longest_event
  lasting-of x p c l u =
      let e = rw (same-is (number_at rows k 0) (pos 1) p) at (sym (outlasts-exact q rows n samples t k h) ∙ x) in
      longest-each (number_length V14 q rows n samples k) (block_length V14 q rows n samples k) 2 7 (ltb-false _ _ e) c l (omega arith)

  of-lasting : (number_at rows k 0 ≡ pos 1 → (c : ℕ) → 2 ≤ c → c ≤ 8 → number_length V14 q rows n samples k c ≤ block_length V14 q rows n samples k)
      → outlasts_at q rows n samples k ≡ false
  unfolding longest_event
  of-lasting f = outlasts-exact q rows n samples t k h ∙ go (is_block rows k) refl
    where
      go : (b : Bool) → is_block rows k ≡ b → b && ltb (block_length V14 q rows n samples k) (longest_of (number_length V14 q rows n samples k) 2 7) ≡ false
      go true p =
          le-ltb _ _ (each-longest (number_length V14 q rows n samples k) (block_length V14 q rows n samples k) 2 7 (λ i l (u : i < 2 + 7). f (same_z-true _ _ p) i l (omega arith)))
      go false p = refl

-- ---- ALIGN and OUTLASTS are asked in 1.4 alone
abbrev is_new : Edition → Bool
is_new V13 = false
is_new V14 = true

pub editions-differ : V13 ≡ V14 → ⊥
editions-differ v = true≢false (sym (ap is_new v))

module _ (q : Rasters) (rows : List ℤ) (k : ℕ) (gradient : 1 ≤ q.gradient.0) (rf : 1 ≤ q.rf.0) where
  pub aligned-in : (e : Edition) → RowHeld e rows k → (e ≡ V14 → 1 ≤ q.adc.0) → align_broken e q rows k ≡ false → e ≡ V14 → Aligned q rows k
  unfolding align_broken
  aligned-in V13 held adc x v = absurd (editions-differ v)
  aligned-in V14 held adc x v = aligned-of q rows k V14 held gradient rf (adc v) x

  pub of-aligned-in : (e : Edition) → RowHeld e rows k → (e ≡ V14 → 1 ≤ q.adc.0) → (e ≡ V14 → Aligned q rows k) → align_broken e q rows k ≡ false
  unfolding align_broken
  of-aligned-in V13 held adc a = refl
  of-aligned-in V14 held adc a = of-aligned q rows k V14 held gradient rf (adc refl) (a refl)

module _ (q : Rasters) (rows : List ℤ) (n : ℕ) (samples : List ℤ) (k : ℕ) (h : k < n) where
  pub lasting-in : (e : Edition) → TablesIn e q rows n samples → outlasts_broken e q rows n samples k ≡ false → e ≡ V14 → number_at rows k 0 ≡ pos 1 → (c : ℕ) → 2 ≤ c → c ≤ 8
      → number_length e q rows n samples k c ≤ block_length e q rows n samples k
  unfolding outlasts_broken
  lasting-in V13 t x v = absurd (editions-differ v)
  lasting-in V14 t x v = lasting-of q rows n samples t k h x

  pub of-lasting-in : (e : Edition) → TablesIn e q rows n samples
      → (e ≡ V14 → number_at rows k 0 ≡ pos 1 → (c : ℕ) → 2 ≤ c → c ≤ 8 → number_length e q rows n samples k c ≤ block_length e q rows n samples k)
      → outlasts_broken e q rows n samples k ≡ false
  unfolding outlasts_broken
  of-lasting-in V13 t f = refl
  of-lasting-in V14 t f = of-lasting q rows n samples t k h (f refl)
