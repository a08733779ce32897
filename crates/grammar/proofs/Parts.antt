-- What stands at a part of a text: a value in its line, a part moved to where its line starts, no part. And what holds from line to line. Assumes
-- nothing.
use Prim.Native.Nat.{ℕ, zero, suc, ◌+◌, ◌-◌, ◌≤◌, ◌<◌}
use mathlib.Core.List.{List, [], ◌∷◌}
use mathlib.Core.Logic.{⊎_elim}
use mathlib.Core.Path.{◌≡◌, refl, sym, ◌∙◌}
use native.Mathlib.Omega.{arith}
use lib.ListN.{length, take, drop, length-drop}
use lib.Seq.{length-take-le, take-take, drop-drop}
use Rattle.fields.specs.Fields.{field_at}
use Rattle.text.specs.Lines.{line_at}
use Rattle.text.specs.declared.Line.{Line}
use Rattle.fields.specs.declared.Part.{Part}
use Rattle.text.proofs.Cases.{lt-or-ge}
use Rattle.text.proofs.Cut.{LineAt, line-at, WholeAt, whole-at}
use Rattle.fields.proofs.Cut.{trim-at, field-inside}
use Rattle.grammar.specs.Definitions.{value_of, value_part}
use Rattle.grammar.specs.Parts.{bytes_at, moved_by, no_part}

-- ---- a part of a text, and what stands there
pub record Holds (text : List ℕ) (p : Part) (bytes : List ℕ) : Type 0 where
  pub ordered : p.start ≤ p.stop
  pub within : p.stop ≤ length text
  pub there : bytes_at text p ≡ bytes

pub none-holds : (text : List ℕ) → Holds text no_part []
none-holds text = record { ordered = omega arith; within = omega arith; there = refl }

pub value-holds : (line : List ℕ) → Holds line (value_part line) (value_of line)
unfolding value_part value_of
value-holds line =
    let t = trim-at line (field_at line 0).stop (value_part line) refl in
    record { ordered = t.ordered; within = t.within (field-inside line 0 (field_at line 0) refl (omega arith)); there = t.text }

-- ---- a part of a part
inner : (k s m : ℕ) (l : List ℕ) → s + k ≤ m → take k (drop s (take m l)) ≡ take k (drop s l)
inner k zero m l h = take-take k m l (omega arith)
inner k (suc s) zero l h = absurd (omega arith)
inner k (suc s) (suc m) [] h = refl
inner k (suc s) (suc m) (c ∷ l) h = inner k s m l (omega arith)

pub moved_holds : (text : List ℕ) (at stop : ℕ) → at ≤ stop → stop ≤ length text → {p : Part} {bytes : List ℕ} → Holds (take (stop - at) (drop at text)) p bytes
    → Holds text (moved_by at p) bytes
unfolding moved_by
moved_holds text at stop a b {p} h =
    let o = h.ordered in
    let n : length (take (stop - at) (drop at text)) ≡ stop - at = length-take-le (stop - at) (drop at text) (let d = length-drop at text in omega arith) in
    let w = h.within in
    let k : at + p.stop - (at + p.start) ≡ p.stop - p.start = omega arith in
    record {
      ordered = omega arith;
      within = omega arith;
      there = rw (k, ← drop-drop) (sym (inner (p.stop - p.start) p.start (stop - at) (drop at text) (omega arith)) ∙ h.there);
    }

-- ---- a line with its end reaches to the next one
pub whole-ends : {text : List ℕ} {at : ℕ} {r : Line} → LineAt text at r → at + length (take (r.next - at) (drop at text)) ≡ r.next
whole-ends {text} {at} {r} l =
    let a = l.further in
    let b = l.inside in
    let d = length-drop at text in
    let n : length (take (r.next - at) (drop at text)) ≡ r.next - at = length-take-le (r.next - at) (drop at text) (omega arith) in
    omega arith

-- ---- what holds where no line is left, and at a line if it holds at the next one, holds everywhere
pub by_lines : (text : List ℕ) (P : ℕ → Type 0) → ((at : ℕ) → length text ≤ at → P at) → ((at : ℕ) (r : Line) → LineAt text at r → WholeAt text at r → P r.next → P at)
    → (at : ℕ) → P at
by_lines text P last turn at = go (length text) at (omega arith)
  where
    go : (n at : ℕ) → length text ≤ at + n → P at
    go zero at h = last at (omega arith)
    go (suc n) at h =
        ⊎_elim
        (λ (k : at < length text). let l = line-at text at (line_at text at) refl k in
        turn at (line_at text at) l (whole-at text at (line_at text at) refl k) (go n (line_at text at).next (let f = l.further in omega arith)))
        (λ (k : length text ≤ at). last at k)
        (lt-or-ge at (length text))
