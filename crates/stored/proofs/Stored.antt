-- The stored lines of a shape, line by line. Assumes nothing.
use Prim.Native.Nat.{ℕ, suc, ◌+◌, ◌-◌, ◌≤◌}
use mathlib.Core.Bool.{Bool, true, false, cond}
use mathlib.Core.List.{List, [], ◌∷◌, ◌++◌, append_assoc}
use mathlib.Core.Path.{◌≡◌, refl, sym, ap, ◌∙◌}
use native.Mathlib.Numerals.{add-one}
use native.Mathlib.Omega.{arith}
use lib.Dec.{eqb}
use lib.IntN.{ℤ, pos}
use lib.ListN.{length, get_or, take, drop, length-drop, length-append, drop_of_length-le}
use lib.Seq.{take-append_seam}
use Rattle.text.specs.Lines.{whole_lines_of, bare_of, onto}
use Rattle.text.specs.Marks.{mark_of}
use Rattle.text.specs.declared.Line.{Line}
use Rattle.fields.specs.declared.Part.{Part}
use Rattle.text.proofs.Cut.{LineAt, WholeAt}
use Rattle.signed.specs.Signed.{same_z}
use Rattle.places.specs.Places.{fresh}
use Rattle.grammar.specs.Parts.{no_part}
use Rattle.grammar.specs.Steps.{step_of}
use Rattle.grammar.proofs.Parts.{Holds, none-holds, whole-ends, by_lines}
use Rattle.places.specs.declared.State.{State}
use Rattle.places.specs.declared.Stepped.{Stepped}
use Rattle.file.specs.Whole.{is_fault, row_count}
use Rattle.stored.specs.Shapes.{ends_shape, values_text, is_shape, stored_from, stored_of}
use Rattle.stored.specs.Places.{values_part, stored_place_from, stored_place}
use Rattle.stored.specs.Inside.{behind_from}
use Rattle.file.specs.declared.Walk.{Walk}
use Rattle.file.proofs.Laying.{row_zero, row-some}

-- ---- the row of a shape
module _ (id : ℤ) (s : Stepped) (count : ℕ) (p : count ≡ row_count s.found) where
  pub shape-none : count ≡ 0 → false ≡ is_shape id s
  unfolding is_shape
  shape-none e = rw (row_zero s.found (sym p ∙ e))

  module _ (n : count ≡ 0 → ⊥) where
    pub shape-other : same_z (get_or s.cells 0 (pos 0)) (pos 11) ≡ false → false ≡ is_shape id s
    unfolding is_shape
    shape-other e = rw (row-some s.found (λ q. n (p ∙ q)), e)

    pub shape_same : same_z (get_or s.cells 0 (pos 0)) (pos 11) ≡ true → same_z (get_or s.cells 1 (pos 0)) id ≡ is_shape id s
    unfolding is_shape
    shape_same e = rw (row-some s.found (λ q. n (p ∙ q)), e)

-- ---- lines with their ends are the text
unfoldable joined_lines : List (List ℕ) → List ℕ
joined_lines [] = []
joined_lines (w ∷ ws) = w ++ joined_lines ws

onto-joined : (c : ℕ) (ws : List (List ℕ)) → joined_lines (onto c ws) ≡ c ∷ joined_lines ws
unfolding onto joined_lines
onto-joined c [] = refl
onto-joined c (w ∷ ws) = refl

whole-joined : (s : List ℕ) → joined_lines (whole_lines_of s) ≡ s
unfolding whole_lines_of joined_lines
whole-joined [] = refl
whole-joined (c ∷ s) = go (eqb c 10) (whole-joined s)
  where
    go : (b : Bool) → joined_lines (whole_lines_of s) ≡ s → joined_lines (cond b ((c ∷ []) ∷ whole_lines_of s) (onto c (whole_lines_of s))) ≡ c ∷ s
    go true h = ap (λ (t : List ℕ). c ∷ t) h
    go false h = onto-joined c (whole_lines_of s) ∙ ap (λ (t : List ℕ). c ∷ t) h

-- the stored lines are what a text begins with
unfoldable rest_of : List (List ℕ) → List ℕ
rest_of [] = []
rest_of (w ∷ ws) = cond (ends_shape (mark_of (bare_of w))) (joined_lines (w ∷ ws)) (rest_of ws)

values-first : (ws : List (List ℕ)) → values_text ws ++ rest_of ws ≡ joined_lines ws
unfolding values_text rest_of joined_lines
values-first [] = refl
values-first (w ∷ ws) = go (ends_shape (mark_of (bare_of w))) (values-first ws)
  where
    go : (b : Bool) → values_text ws ++ rest_of ws ≡ joined_lines ws → cond b [] (w ++ values_text ws) ++ cond b (w ++ joined_lines ws) (rest_of ws) ≡ w ++ joined_lines ws
    go true h = refl
    go false h = append_assoc w (values_text ws) (rest_of ws) ∙ ap (λ (t : List ℕ). w ++ t) h

abbrev stored_len : List ℕ → ℕ
stored_len s = length (values_text (whole_lines_of s))

all_of : (s : List ℕ) → values_text (whole_lines_of s) ++ rest_of (whole_lines_of s) ≡ s
all_of s = values-first (whole_lines_of s) ∙ whole-joined s

pub stored-prefix : (s : List ℕ) → take (stored_len s) s ≡ values_text (whole_lines_of s)
stored-prefix s = ap (take (stored_len s)) (sym (all_of s)) ∙ take-append_seam (values_text (whole_lines_of s)) (rest_of (whole_lines_of s))

pub stored-le : (s : List ℕ) → stored_len s ≤ length s
stored-le s = let e = sym (ap length (all_of s)) ∙ length-append (values_text (whole_lines_of s)) (rest_of (whole_lines_of s)) in omega arith

-- ---- the loop to their end
pub behind-at : (walk : Walk) (ws : List (List ℕ)) → (behind_from walk ws).at ≡ walk.at + length (values_text ws)
unfolding behind_from values_text
behind-at walk [] = omega arith
behind-at walk (w ∷ ws) = go (ends_shape (mark_of (bare_of w))) _ (behind-at (record { at = walk.at + length w; lines = suc walk.lines; state = walk.state }) ws)
  where
    go : (b : Bool) (on : Walk) → on.at ≡ walk.at + length w + length (values_text ws) → (cond b walk on).at ≡ walk.at + length (cond b [] (w ++ values_text ws))
    go true on e = omega arith
    go false on e = let n = length-append w (values_text ws) in omega arith

pub record Ending (file : List ℕ) (from walk : Walk) : Type 0 where
  pub lines : walk.lines ≤ walk.at
  pub same : behind_from walk (whole_lines_of (drop walk.at file)) ≡ behind_from from (whole_lines_of (drop from.at file))

module _ (file : List ℕ) (from walk : Walk) (k : Ending file from walk) where
  module _ (r : Line) (l : LineAt file walk.at r) (w : WholeAt file walk.at r) where
    pub ending-stop : ends_shape (mark_of (take (r.stop - walk.at) (drop walk.at file))) ≡ true → walk ≡ behind_from from (whole_lines_of (drop from.at file))
    unfolding behind_from
    ending-stop e = rw (w.whole, w.bare, e) at k.same

    pub ending-turn : ends_shape (mark_of (take (r.stop - walk.at) (drop walk.at file))) ≡ false
        → Ending file from (record { at = r.next; lines = walk.lines + 1; state = walk.state })
    unfolding behind_from
    ending-turn e =
        let a = k.lines in
        let b = l.further in
        record { lines = omega arith; same = rw (add-one walk.lines) (rw (w.whole, w.bare, e, whole-ends l) at k.same) }

  pub ending-end : length file ≤ walk.at → walk ≡ behind_from from (whole_lines_of (drop from.at file))
  unfolding behind_from whole_lines_of
  ending-end h = rw (drop_of_length-le file h) at k.same

-- ---- the bytes there are the stored lines
values-hold : (file : List ℕ) (from : ℕ) → from ≤ length file → Holds file (values_part from (whole_lines_of (drop from file))) (values_text (whole_lines_of (drop from file)))
unfolding values_part
values-hold file from h =
    let a = stored-le (drop from file) in
    let b = length-drop from file in
    let k : from + stored_len (drop from file) - from ≡ stored_len (drop from file) = omega arith in
    record { ordered = omega arith; within = omega arith; there = rw k (stored-prefix (drop from file)) }

stored-from : (file : List ℕ) (id : ℤ) (at : ℕ) (st : State) (n : ℕ)
    → Holds file (stored_place_from id st n at (whole_lines_of (drop at file))) (stored_from id st n (whole_lines_of (drop at file)))
unfolding stored_place_from stored_from whole_lines_of
stored-from file id =
    by_lines file
    (λ at. (st : State) (n : ℕ) → Holds file (stored_place_from id st n at (whole_lines_of (drop at file))) (stored_from id st n (whole_lines_of (drop at file))))
    (λ at h st n. rw (drop_of_length-le file h) (none-holds file))
    (λ at r l w next st n. let s : Stepped = step_of st n (take (r.stop - at) (drop at file)) in
    rw (w.whole, w.bare, whole-ends l) (go r l.inside (is_fault s.found) (is_shape id s) (next s.next (suc n))))
  where
    go : (r : Line) → r.next ≤ length file → (f s : Bool) {p : Part} {t : List ℕ} → Holds file p t
        → Holds file (cond f no_part (cond s (values_part r.next (whole_lines_of (drop r.next file))) p)) (cond f [] (cond s (values_text (whole_lines_of (drop r.next file))) t))
    go r i true s h = none-holds file
    go r i false true h = values-hold file r.next i
    go r i false false h = h

pub stored-holds : (file : List ℕ) (id : ℤ) → Holds file (stored_place file id) (stored_of file id)
unfolding stored_place stored_of
stored-holds file id = stored-from file id 0 fresh 1
