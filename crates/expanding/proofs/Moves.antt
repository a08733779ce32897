-- Moves from state to state: one law for each way through the functions that take values, and how two moves make one. Assumes nothing.
use Rattle.std.proofs.Common.{None, Option, Some}
use Prim.Native.Nat.{ℕ, ◌+◌, ◌*◌, ◌≤◌, ◌<◌}
use mathlib.Core.Bool.{true, false}
use mathlib.Core.List.{List, [], ◌∷◌}
use mathlib.Core.Path.{◌≡◌, refl, sym, ap, ◌∙◌}
use native.Mathlib.Numerals.{add-one}
use native.Mathlib.Nat.{lt_trans}
use native.Mathlib.Omega.{arith}
use lib.IntN.{ℤ}
use lib.ListN.{length}
use Rattle.decimals.specs.Decimal.{same_decimal}
use Rattle.numeral.specs.Worth.{whole_of}
use Rattle.numeral.specs.declared.Decimal.{Decimal}
use Rattle.expanding.specs.Expand.{fault, next, repeated, counted, fresh_of, repeat_of, pair_of, sums_of}
use Rattle.shape.specs.Stored.{values_at}
use Rattle.expanding.specs.Inside.{Verdict, bad, sound_at, ValueAt, EndAt, judged, soundly, ran_to, Ran, resume, weight, Ready, Begun, Went, PairWent}
use Rattle.expanding.specs.declared.State.{State}
use Rattle.expanding.specs.declared.State.TheVariants.{Fresh, Repeat, Done, Bad}
use Rattle.expanding.proofs.Judging.{judged-fault, soundly-bad}

-- ---- One move after another
pub went_on : {text : List ℕ} {num : ℕ} {l m k : List ℤ} {s r q : State} → Went text num l m s r → Went text num m k r q → Went text num l k s q
went_on v w = record { same = w.same ∙ v.same; less = lt_trans w.less v.less; ready = w.ready }

-- what was reached, under the name that a pattern gives it
pub went-as : {text : List ℕ} {num : ℕ} {l m : List ℤ} {s r : State} (q : State) → r ≡ q → Went text num l m s r → Went text num l m s q
went-as q e w = rw (← e) w

-- what a move says where it ends in one of the two
module _ {text : List ℕ} {num : ℕ} {l m : List ℤ} {s : State} {from at : ℕ} {sum : ℤ} where
  pub repeat-less : {last : Decimal} → Went text num l m s (Repeat from at sum last) → 1 + 2 * length (values_at text from) < weight text s
  unfolding weight
  repeat-less w = w.less

  pub repeat-ready : {last : Decimal} → Went text num l m s (Repeat from at sum last) → at ≤ num
  unfolding Ready
  repeat-ready w = w.ready

  pub fresh-less : {value : Decimal} → Went text num l m s (Fresh from at sum value) → 2 + 2 * length (values_at text from) < weight text s
  unfolding weight
  fresh-less w = w.less

  pub fresh-ready : {value : Decimal} → Went text num l m s (Fresh from at sum value) → at ≤ num
  unfolding Ready
  fresh-ready w = w.ready

module _ (text : List ℕ) (from at : ℕ) (sum : ℤ) where
  -- ---- Where the next value is fresh
  pub begun-end : EndAt text from → Begun text from at sum (Done at)
  unfolding resume weight Ready soundly fresh_of sums_of judged
  begun-end e = record { same = λ num l. rw (e.sound, e.values); less = omega arith; ready = λ num h. tt }

  pub begun-faulty : sound_at text from ≡ false → Begun text from at sum Bad
  unfolding resume weight Ready soundly
  begun-faulty e = record { same = λ num l. rw e; less = omega arith; ready = λ num h. tt }

  pub begun-value : (d : Decimal) (behind : ℕ) → ValueAt text from d behind → Begun text from at sum (Fresh behind at sum d)
  unfolding resume weight Ready
  begun-value d behind v =
      record { same = λ num l. rw (v.sound, v.values); less = let n = ap length v.values in omega arith; ready = λ num h. h }

module _ (text : List ℕ) (num : ℕ) (l : List ℤ) (from at : ℕ) (sum : ℤ) where
  -- samples that are bad are so whether or not a line is at fault
  refused : {v : Verdict} → v ≡ bad → bad ≡ soundly (sound_at text from) v
  refused e = sym (ap (soundly (sound_at text from)) e ∙ soundly-bad (sound_at text from))

  -- ---- A fresh value
  module _ (d : Decimal) where
    fresh-run : (ds : List Decimal) → fresh_of (d ∷ ds) ≡ repeated 1 d (repeat_of d ds)
    unfolding fresh_of repeated
    fresh-run ds = refl

    pub fresh-value : {m : List ℤ} {r : (Option ℤ)} (s : ℤ) → Ran num l m at 1 sum d r → r ≡ Some s → Went text num l m (Fresh from at sum d) (Repeat from (at + 1) s d)
    unfolding resume weight Ready ran_to
    fresh-value s w e =
        record {
          same = ap (soundly (sound_at text from)) (rw (fresh-run (values_at text from)) (sym (w.same (repeat_of d (values_at text from)) ∙ rw e)));
          less = omega arith;
          ready = w.fits s e;
        }

    pub fresh-beyond : {m : List ℤ} {r : (Option ℤ)} → Ran num l m at 1 sum d r → r ≡ None → Went text num l m (Fresh from at sum d) Bad
    unfolding resume weight Ready ran_to
    fresh-beyond w e =
        record {
          same = refused (rw (fresh-run (values_at text from)) (w.same (repeat_of d (values_at text from)) ∙ rw e));
          less = omega arith;
          ready = tt;
        }

  -- ---- Behind a value
  module _ (d : Decimal) (behind : ℕ) (v : ValueAt text from d behind) where
    repeat-fresh : (last : Decimal) → same_decimal d last ≡ false → repeat_of last (values_at text from) ≡ fresh_of (d ∷ values_at text behind)
    unfolding repeat_of
    repeat-fresh last h = rw (v.values, h)

    pub repeat-other : (last : Decimal) → same_decimal d last ≡ false → at ≤ num → Went text num l l (Repeat from at sum last) (Fresh behind at sum d)
    unfolding resume weight Ready
    repeat-other last h k =
        record { same = rw (v.sound, repeat-fresh last h); less = let n = ap length v.values in omega arith; ready = k }

    repeat-pair : (last : Decimal) → same_decimal d last ≡ true → repeat_of last (values_at text from) ≡ next d (pair_of d (values_at text behind))
    unfolding repeat_of
    repeat-pair last h = rw (v.values, h)

    pub repeat-same : {m : List ℤ} {r : State} (last : Decimal) → same_decimal d last ≡ true → PairWent text num l m behind at sum d r
        → Went text num l m (Repeat from at sum last) r
    unfolding resume weight
    repeat-same last h w =
        record {
          same = w.same ∙ rw (v.sound, repeat-pair last h);
          less = let n = ap length v.values in let k = w.less in omega arith;
          ready = w.ready;
        }

  pub repeat-end : (last : Decimal) → EndAt text from → Went text num l l (Repeat from at sum last) (Done at)
  unfolding resume weight Ready soundly fresh_of sums_of judged
  repeat-end last e = record { same = rw (e.sound, e.values); less = omega arith; ready = tt }

  pub repeat-faulty : (last : Decimal) → sound_at text from ≡ false → Went text num l l (Repeat from at sum last) Bad
  unfolding resume weight Ready soundly
  repeat-faulty last e = record { same = rw e; less = omega arith; ready = tt }

  -- ---- Behind a pair
  module _ (d : Decimal) where
    pair-none : values_at text from ≡ [] → pair_of d (values_at text from) ≡ fault
    unfolding fresh_of
    pair-none e = rw e

    pub pair_end : {m : List ℤ} → EndAt text from → PairWent text num l m from at sum d Bad
    unfolding resume weight Ready
    pair_end e =
        record { same = refused (rw (pair-none e.values) (judged-fault num l at sum d)); less = omega arith; ready = tt }

    pub pair-faulty : {m : List ℤ} → sound_at text from ≡ false → PairWent text num l m from at sum d Bad
    unfolding resume weight Ready soundly
    pair-faulty e = record { same = rw e; less = omega arith; ready = tt }

    module _ (c : Decimal) (behind : ℕ) (v : ValueAt text from c behind) where
      pair-bad : whole_of c 0 0 1000000 ≡ None → pair_of d (values_at text from) ≡ fault
      unfolding fresh_of counted
      pair-bad e = rw (v.values, e)

      pub pair-uncounted : {m : List ℤ} → whole_of c 0 0 1000000 ≡ None → PairWent text num l m from at sum d Bad
      unfolding resume weight Ready
      pair-uncounted e =
          record { same = refused (rw (pair-bad e) (judged-fault num l at sum d)); less = omega arith; ready = tt }

      pair-run : (n : ℕ) → whole_of c 0 0 1000000 ≡ Some n
          → next d (pair_of d (values_at text from)) ≡ repeated (n + 1) d (fresh_of (values_at text behind))
      unfolding fresh_of counted repeated
      pair-run n e = rw (v.values, add-one n, e)

      pub pair-value : {m : List ℤ} {r : (Option ℤ)} (n : ℕ) (s : ℤ) → whole_of c 0 0 1000000 ≡ Some n → Ran num l m at (n + 1) sum d r → r ≡ Some s
          → {q : State} → Begun text behind (at + (n + 1)) s q → PairWent text num l m from at sum d q
      unfolding ran_to
      pair-value {m} n s e w h b =
          record {
            same =
                b.same num m
                ∙ rw v.sound (ap (soundly (sound_at text behind)) (rw (pair-run n e) (sym (w.same (fresh_of (values_at text behind)) ∙ rw h))));
            less = let k = ap length v.values in let j = b.less in omega arith;
            ready = b.ready num (w.fits s h);
          }

      pub pair-beyond : {m : List ℤ} {r : (Option ℤ)} (n : ℕ) → whole_of c 0 0 1000000 ≡ Some n → Ran num l m at (n + 1) sum d r → r ≡ None
          → PairWent text num l m from at sum d Bad
      unfolding resume weight Ready ran_to
      pair-beyond n e w h =
          record { same = refused (rw (pair-run n e) (w.same (fresh_of (values_at text behind)) ∙ rw h)); less = omega arith; ready = tt }
