-- The answers of expanding: one law for each way to end, before and after what was lent is cleared. Assumes nothing.
use Rattle.shape.specs.declared.Unexpanded.TheVariants.{Room, Field, Shape}
use Rattle.shape.specs.declared.Unexpanded.{Unexpanded}
use Rattle.std.proofs.Common.{Result, Ok, Err}
use Prim.Native.Nat.{ℕ, ◌-◌, ◌+◌, ◌≤◌, ◌<◌}
use mathlib.Core.Bool.{Bool, true, false, ◌&&◌, and-false}
use mathlib.Core.List.{List}
use mathlib.Core.Path.{◌≡◌, refl, sym, ◌∙◌}
use mathlib.Core.Logic.{⊎_elim}
use native.Mathlib.Omega.{arith}
use borrow.Author.Tests.{le-leb, lt-leb, eqb-true}
use lib.Dec.{eqb}
use lib.IntN.{ℤ, pos}
use lib.ListN.{length, take, drop, replicate}
use lib.Seq.{sets, sets-eq, take-append_seam}
use Rattle.text.specs.Lines.{lines_of}
use Rattle.output.specs.Over.{cleared_from}
use Rattle.text.proofs.Cases.{true-or-false, and_both}
use Rattle.shape.specs.Stored.{all_sound, values_of, count_of}
use Rattle.shape.specs.Samples.{is_plain}
use Rattle.shape.specs.Answers.{Expanded, used_of}
use Rattle.expanding.specs.Expand.{plain_of, sums_of, fresh_of, trace_of, samples_in, ends_well, expands_to, expansion_of}
use Rattle.expanding.specs.Alone.{is_count, expanded_of, table_from, samples_after, table_of, Expansion}
use Rattle.expanding.specs.Inside.{lines_hold, judged, soundly, told, refusal_of, LaidAll}
use Rattle.numeral.specs.declared.Decimal.{Decimal}
use Rattle.shape.specs.declared.Edition.{Edition}
use Rattle.expanding.proofs.Holding.{lines-hold}
use Rattle.expanding.proofs.Judging.{told-sound, told-yes, told-no}

-- ---- In one form or the other
pub trace-plain : (plain : Bool) (ds : List Decimal) → plain ≡ true → plain_of ds ≡ trace_of plain ds
unfolding trace_of
trace-plain plain ds e = rw e

pub trace-runs : (plain : Bool) (ds : List Decimal) → plain ≡ false → sums_of (pos 0) (fresh_of ds) ≡ trace_of plain ds
unfolding trace_of
trace-runs plain ds e = rw e

-- ---- Why lines are refused that were not laid
refusal-field : (text : List ℕ) → all_sound (lines_of text) ≡ false → refusal_of (count_of text) ≡ (Err Field)
unfolding count_of refusal_of
refusal-field text e = rw e

refusal-shape : (text : List ℕ) → all_sound (lines_of text) ≡ true → refusal_of (count_of text) ≡ (Err Shape)
unfolding count_of refusal_of
refusal-shape text e = rw e

-- ---- Before what was lent is cleared
not-field : {A : Type 0} (n : ℕ) → (Err Field) ≡ Ok n → A
not-field n e = absurd (let z : ◌≡◌ {A = ℕ} 0 1 = cc in omega arith)

not-shape : {A : Type 0} (n : ℕ) → (Err Shape) ≡ Ok n → A
not-shape n e = absurd (let z : ◌≡◌ {A = ℕ} 0 1 = cc in omega arith)

not-room : {A : Type 0} (n : ℕ) → (Err Room) ≡ Ok n → A
not-room n e = absurd (let z : ◌≡◌ {A = ℕ} 0 1 = cc in omega arith)

samples-are : (m n : ℕ) → ◌≡◌ {A = Result ℕ Unexpanded} (Ok m) (Ok n) → n ≡ m
samples-are m n e = cc

-- samples that were laid over a table stand at its front
front_of : (zs l : List ℤ) (n : ℕ) → length zs ≡ n → n ≤ length l → take n (sets l 0 zs) ≡ zs
front_of zs l n e h =
    let k : 0 + length zs ≤ length l = omega arith in
    rw (← e, sets-eq zs l 0 k) (take-append_seam zs (drop (0 + length zs) l))

module _ (edition : Edition) (num : ℕ) (text : List ℕ) (l m : List ℤ) where
  field : is_count num && all_sound (lines_of text) ≡ false → LaidAll edition num text l m (Err Field)
  unfolding expanded_of
  field e = record { answer = rw e; laid = λ n q. not-field n q }

  pub field-none : num ≡ 0 → LaidAll edition num text l m (Err Field)
  field-none e = field (unfold is_count in rw (lt-leb 1 num (omega arith)))

  pub field-many : 1000000 < num → LaidAll edition num text l m (Err Field)
  field-many h = field (unfold is_count in rw (le-leb 1 num (omega arith), lt-leb num 1000000 h))

  module _ (some : 1 ≤ num) (few : num ≤ 1000000) (plain : Bool) (p : plain ≡ is_plain edition num (lines_hold (lines_of text))) (r : Bool)
      (t : told r m ≡ soundly (all_sound (lines_of text)) (judged num l 0 (trace_of plain (values_of text)))) where
    module _ (s : all_sound (lines_of text) ≡ true) where
      good : is_count num && all_sound (lines_of text) ≡ true
      unfolding is_count
      good = rw (le-leb 1 num some, le-leb num 1000000 few, s)

      trace-is : trace_of plain (values_of text) ≡ expansion_of edition num (values_of text)
      unfolding expansion_of values_of
      trace-is = rw (p, lines-hold (lines_of text) s)

      told_is : told r m ≡ judged num l 0 (trace_of plain (values_of text))
      unfolding soundly
      told_is = rw s at t

      shape : r ≡ false → LaidAll edition num text l m (Err Shape)
      unfolding expanded_of
      shape e =
          record {
            answer = rw (good, ← trace-is, told-no num l m (trace_of plain (values_of text)) r told_is e);
            laid = λ n q. not-shape n q;
          }

    -- not laid: the count tells why
    pub laid-refused : r ≡ false → (q : Expanded) → q ≡ refusal_of (count_of text) → LaidAll edition num text l m q
    laid-refused e q f =
        ⊎_elim (λ (s : all_sound (lines_of text) ≡ true). rw (f, refusal-shape text s) (shape s e))
        (λ (s : all_sound (lines_of text) ≡ false). rw (f, refusal-field text s) (field (rw s (and-false (is_count num)))))
        (true-or-false (all_sound (lines_of text)))

    module _ (e : r ≡ true) where
      abbrev zs : List ℤ
      zs = samples_in (expansion_of edition num (values_of text))

      sound : all_sound (lines_of text) ≡ true
      sound = told-sound m r (all_sound (lines_of text)) (judged num l 0 (trace_of plain (values_of text))) t e

      expands : (expands_to num (expansion_of edition num (values_of text)) ≡ true) × (m ≡ sets l 0 zs)
      expands = rw (trace-is sound) at (told-yes num l m (trace_of plain (values_of text)) r (told_is sound) e)

      many : length zs ≡ num
      many =
          let x = expansion_of edition num (values_of text) in
          eqb-true (length zs) num (and_both (ends_well x) (eqb (length zs) num) (unfold expands_to in expands.0)).1

      pub laid-room : length l < num → LaidAll edition num text l m (Err Room)
      unfolding expanded_of
      laid-room h = record { answer = rw (good sound, expands.0, lt-leb num (length l) h); laid = λ n q. not-room n q }

      front : num ≤ length l → take num m ≡ zs
      front h = rw expands.1 (front_of zs l num many h)

      pub laid-samples : num ≤ length l → LaidAll edition num text l m (Ok num)
      unfolding expanded_of
      laid-samples h =
          record {
            answer = rw (good sound, expands.0, le-leb num (length l) h);
            laid = λ n q. record { count = samples-are num n q; many = many; front = front h };
          }

-- ---- After it is cleared
module _ (edition : Edition) (num : ℕ) (text : List ℕ) (l m l' : List ℤ) (r : Expanded) (k : length m ≡ length l) (a : LaidAll edition num text l m r) where
  pub cleared-samples : (n : ℕ) → r ≡ Ok n → l' ≡ cleared_from (pos 0) n m → Expansion edition num text l (Ok n) l'
  unfolding cleared_from table_of samples_after table_from
  cleared-samples n e c =
      let d = a.laid n e in
      let f : expanded_of edition num text (length l) ≡ Ok n = sym a.answer ∙ e in
      record { answer = sym f; samples = c ∙ rw (f, d.count, d.front, d.many, k) }

  cleared-all : l' ≡ cleared_from (pos 0) 0 m → l' ≡ replicate (length l) (pos 0)
  unfolding cleared_from
  cleared-all c = let e : length l - 0 ≡ length l = omega arith in c ∙ rw (k, e)

  pub cleared-refused : (q : Expanded) → ((zs : List ℤ) → replicate (length l) (pos 0) ≡ samples_after q zs (length l)) → r ≡ q → l' ≡ cleared_from (pos 0) 0 m
      → Expansion edition num text l q l'
  unfolding table_of
  cleared-refused q z e c =
      let f : expanded_of edition num text (length l) ≡ q = sym a.answer ∙ e in
      record { answer = sym f; samples = cleared-all c ∙ rw f (z (samples_in (expansion_of edition num (values_of text)))) }

  pub cleared : (q : Result ℕ Unexpanded) → r ≡ q → l' ≡ cleared_from (pos 0) (used_of q) m → Expansion edition num text l q l'
  unfolding samples_after
  cleared (Ok n) e c = cleared-samples n e c
  cleared (Err Field) e c = cleared-refused (Err Field) (λ zs. refl) e c
  cleared (Err Shape) e c = cleared-refused (Err Shape) (λ zs. refl) e c
  cleared (Err Room) e c = cleared-refused (Err Room) (λ zs. refl) e c
