-- Laws of what is told: the loop that lays numbers over an answer, the editions, and what each function tells. Assumes nothing.
use Rattle.std.proofs.Common.{None, Some}
use Rattle.restater.specs.Outcome.{Restated}
use Rattle.answers.specs.Outcome.{Answer}
use Rattle.std.proofs.Common.{None, Some}
use Prim.Native.Nat.{ℕ, zero, suc, ◌+◌, ◌-◌, ◌≤◌, ◌<◌}
use mathlib.Core.List.{List, [], ◌∷◌, ◌++◌, append_assoc, append-nil}
use mathlib.Core.Path.{◌≡◌, refl, sym, ap, ◌∙◌}
use native.Mathlib.Numerals.{add-one}
use native.Mathlib.Omega.{arith}
use borrow.Author.Tests.{eq-eqb, ne_eqb}
use lib.IntN.{ℤ}
use lib.ListN.{length, take, drop, get_or, set, replicate, length-set, drop_of_length-le}
use lib.Seq.{take_all, take-suc-set, drop-cons}
use Rattle.shape.specs.declared.Edition.{Edition}
use Rattle.shape.specs.declared.Edition.TheVariants.{V13, V14}
use Rattle.shape.specs.Answers.{Expanded, number_of, used_of}
use Rattle.expanding.specs.Alone.{Expansion}
use Rattle.shape_text.specs.Written.{Written, length_of, Writing, number_of as written_number}
use Rattle.answers.specs.Answers.{answer_number, answer_line, rows_used, samples_used}
use Rattle.reader.specs.Reading.{Reading, zeros}
use Rattle.restater.specs.Answers.{restated_number, restated_line, rows_read, samples_read, text_length}
use Rattle.restater.specs.Restating.{Restating}
use Rattle.lookups.specs.Spots.{Spot, spot_number, spot_start, spot_length, definition_spot, stored_spot}
use Rattle.pulseq.specs.Exports.{told, read_numbers, ReadTold, edition_of, expand_numbers, expand_samples, expand_answer, ExpandTold, write_numbers, write_output, write_answer, WriteTold, restate_numbers, restate_rows, restate_samples, restate_output, restate_answer, RestateTold, spot_numbers, DefinitionTold, StoredTold}

-- ---- behind the last number there is 0
pub none-behind : (ns : List ℕ) (i : ℕ) → length ns ≤ i → 0 ≡ get_or ns i 0
none-behind [] i h = refl
none-behind (n ∷ ns) zero h = absurd (omega arith)
none-behind (n ∷ ns) (suc i) h = none-behind ns i (omega arith)

abbrev none : ℕ → List ℕ
none n = replicate n 0

zero-at : (n i : ℕ) → get_or (none n) i 0 ≡ 0
zero-at zero i = refl
zero-at (suc n) zero = refl
zero-at (suc n) (suc i) = zero-at n i

-- ---- each number told, and how many they are
pub told_at : (n : ℕ) (ns : List ℕ) (i : ℕ) → i < n → get_or (told n ns) i 0 ≡ get_or ns i 0
unfolding told
told_at zero ns i h = absurd (omega arith)
told_at (suc n) [] i h = let e : suc n - 0 ≡ suc n = omega arith in rw e (zero-at (suc n) i)
told_at (suc n) (x ∷ ns) zero h = refl
told_at (suc n) (x ∷ ns) (suc i) h = let e : suc n - suc (length ns) ≡ n - length ns = omega arith in rw e (told_at n ns i (omega arith))

length_none : (n : ℕ) → length (none n) ≡ n
length_none zero = refl
length_none (suc n) = ap suc (length_none n)

pub length-told : (n : ℕ) (ns : List ℕ) → length (told n ns) ≡ n
unfolding told
length-told zero [] = refl
length-told zero (x ∷ ns) = let e : 0 - suc (length ns) ≡ 0 = omega arith in rw e
length-told (suc n) [] = let e : suc n - 0 ≡ suc n = omega arith in rw e (length_none (suc n))
length-told (suc n) (x ∷ ns) = let e : suc n - suc (length ns) ≡ n - length ns = omega arith in rw e (ap suc (length-told n ns))

-- ---- the loop at i: what is laid, and then what is left to tell
pub record Telling (l₀ ns l : List ℕ) (i : ℕ) : Type 0 where
  pub long : length l ≡ length l₀
  pub same : take i l ++ drop i (told (length l₀) ns) ≡ told (length l₀) ns

pub telling-start : (l ns : List ℕ) → Telling l ns l 0
telling-start l ns = record { long = refl; same = refl }

pub telling-turn : {l₀ ns : List ℕ} (l : List ℕ) (i : ℕ) (x : ℕ) → Telling l₀ ns l i → i < length l → x ≡ get_or ns i 0 → Telling l₀ ns (set l i x) (i + 1)
telling-turn {l₀} {ns} l i x t h e =
    let w : i < length (told (length l₀) ns) = rw (length-told (length l₀) ns) (omega (arith, t.long)) in
    let y : get_or (told (length l₀) ns) i 0 ≡ x = told_at (length l₀) ns i (omega (arith, t.long)) ∙ sym e in
    let d : drop i (told (length l₀) ns) ≡ x ∷ drop (suc i) (told (length l₀) ns) = rw (← y) (drop-cons (told (length l₀) ns) i 0 w) in
    record {
      long = length-set l i x ∙ t.long;
      same = rw (add-one i, take-suc-set l i x h, append_assoc) (rw d at t.same);
    }

pub telling-end : {l₀ ns : List ℕ} (l : List ℕ) (i : ℕ) → Telling l₀ ns l i → length l ≤ i → l ≡ told (length l₀) ns
telling-end {l₀} {ns} l i t h =
    let w : length (told (length l₀) ns) ≤ i = rw (length-told (length l₀) ns) (omega (arith, t.long)) in
    let e : take i l ++ drop i (told (length l₀) ns) ≡ l = rw (take_all i l h, drop_of_length-le (told (length l₀) ns) w) (append-nil l) in
    sym e ∙ t.same

-- ---- the edition that a number names
pub named-13 : (n : ℕ) → n ≡ 103 → Some V13 ≡ edition_of n
unfolding edition_of
named-13 n e = rw (eq-eqb n 103 e)

pub named-14 : (n : ℕ) → (n ≡ 103 → ⊥) → n ≡ 104 → Some V14 ≡ edition_of n
unfolding edition_of
named-14 n d e = rw (ne_eqb n 103 d, eq-eqb n 104 e)

pub named_none : (n : ℕ) → (n ≡ 103 → ⊥) → (n ≡ 104 → ⊥) → None ≡ edition_of n
unfolding edition_of
named_none n d e = rw (ne_eqb n 103 d, ne_eqb n 104 e)

-- ---- what a reading tells
pub read-tells : {file site : List ℕ} {table l : List ℤ} {r : Answer} {table' l' : List ℤ} → Reading file site table l r table' l' → {n line rows samples : ℕ}
    → n ≡ answer_number r → line ≡ answer_line r → rows ≡ rows_used r → samples ≡ samples_used r → {answer answer' : List ℕ}
    → answer' ≡ told (length answer) (n ∷ line ∷ rows ∷ samples ∷ []) → ReadTold file site table l answer table' l' answer'
read-tells {r = r} d a b c e {answer = answer} w = record {
  rows = d.rows;
  samples = d.samples;
  numbers = rw (a, b, c, e) at w ∙ ap (λ (x : Answer). told (length answer) (read_numbers x)) d.answer;
}

-- ---- what expanding tells, in an edition and in none
module _ {text : List ℕ} {num edition : ℕ} {l : List ℤ} {l' : List ℤ} {answer answer' : List ℕ} where
  pub expand-tells : {e : Edition} → edition_of edition ≡ Some e → {r : Expanded} → Expansion e num text l r l' → {n used : ℕ} → n ≡ number_of r → used ≡ used_of r
      → answer' ≡ told (length answer) (n ∷ used ∷ []) → ExpandTold text num edition l answer l' answer'
  unfolding expand_samples expand_answer
  expand-tells k d a b w = record {
    samples = rw k d.samples;
    numbers = rw k (rw (a, b) at w ∙ ap (λ (x : Expanded). told (length answer) (expand_numbers x)) d.answer);
  }

  pub expand-none : edition_of edition ≡ None → l' ≡ zeros (length l) → answer' ≡ told (length answer) (3 ∷ 0 ∷ []) → ExpandTold text num edition l answer l' answer'
  unfolding expand_samples expand_answer
  expand-none k z w = record { samples = rw k z; numbers = rw k w }

-- ---- what writing tells, in an edition and in none
module _ {zs : List ℤ} {edition : ℕ} {l l' answer answer' : List ℕ} where
  pub write-tells : {e : Edition} → edition_of edition ≡ Some e → {r : Written} → Writing e zs l r l' → {n size : ℕ} → n ≡ written_number r → size ≡ length_of r
      → answer' ≡ told (length answer) (n ∷ size ∷ []) → WriteTold zs edition l answer l' answer'
  unfolding write_output write_answer
  write-tells k d a b w = record {
    output = rw k d.output;
    numbers = rw k (rw (a, b) at w ∙ ap (λ (x : Written). told (length answer) (write_numbers x)) d.answer);
  }

  pub write-none : edition_of edition ≡ None → l' ≡ replicate (length l) 0 → answer' ≡ told (length answer) (3 ∷ 0 ∷ []) → WriteTold zs edition l answer l' answer'
  unfolding write_output write_answer
  write-none k z w = record { output = rw k z; numbers = rw k w }

-- ---- what restating tells, to a target and to none
module _ {file site : List ℕ} {target : ℕ} {table l table' l' : List ℤ} {out out' answer answer' : List ℕ} where
  pub restate-tells : {e : Edition} → edition_of target ≡ Some e → {r : Restated} → Restating e file site table l out r table' l' out' → {n line rows samples size : ℕ}
      → n ≡ restated_number r → line ≡ restated_line r → rows ≡ rows_read r → samples ≡ samples_read r → size ≡ text_length r
      → answer' ≡ told (length answer) (n ∷ line ∷ rows ∷ samples ∷ size ∷ []) → RestateTold file site target table l out answer table' l' out' answer'
  unfolding restate_rows restate_samples restate_output restate_answer
  restate-tells k d a b c f g w = record {
    rows = rw k d.rows;
    samples = rw k d.samples;
    output = rw k d.output;
    numbers = rw k (rw (a, b, c, f, g) at w ∙ ap (λ (x : Restated). told (length answer) (restate_numbers x)) d.answer);
  }

  pub restate-none : edition_of target ≡ None → table' ≡ zeros (length table) → l' ≡ zeros (length l) → out' ≡ replicate (length out) 0
      → answer' ≡ told (length answer) (3 ∷ 0 ∷ []) → RestateTold file site target table l out answer table' l' out' answer'
  unfolding restate_rows restate_samples restate_output restate_answer
  restate-none k x y z w = record { rows = rw k x; samples = rw k y; output = rw k z; numbers = rw k w }

-- ---- what looking up tells
spot-tells : (k : ℕ) {r s : Spot} {n start size : ℕ} → n ≡ spot_number r → start ≡ spot_start r → size ≡ spot_length r → {l : List ℕ} → l ≡ told k (n ∷ start ∷ size ∷ []) → r ≡ s
    → l ≡ told k (spot_numbers s)
spot-tells k a b c w d = rw (a, b, c) at w ∙ ap (λ (x : Spot). told k (spot_numbers x)) d

module _ {r : Spot} {n start size : ℕ} (a : n ≡ spot_number r) (b : start ≡ spot_start r) (c : size ≡ spot_length r) {answer answer' : List ℕ}
    (w : answer' ≡ told (length answer) (n ∷ start ∷ size ∷ [])) where
  pub definition-tells : {file site key : List ℕ} → r ≡ definition_spot file site key → DefinitionTold file site key answer answer'
  definition-tells d = record { numbers = spot-tells (length answer) a b c w d }

  pub stored-tells : {file site : List ℕ} {z id : ℤ} → r ≡ stored_spot file site z → z ≡ id → StoredTold file site id answer answer'
  stored-tells {file} {site} d e = record { numbers = spot-tells (length answer) a b c w (d ∙ ap (λ (y : ℤ). stored_spot file site y) e) }
