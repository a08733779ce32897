-- What a caller learns of next_field and trim: the first field cut off, a text trimmed. Assumes nothing.
use Prim.Native.Nat.{ℕ, suc, ◌+◌, ◌-◌, ◌≤◌, ◌<◌}
use mathlib.Core.Bool.{Bool, true, false, cond, ◌&&◌}
use mathlib.Core.List.{List, [], ◌∷◌}
use mathlib.Core.Path.{◌≡◌, refl, ap, ◌∙◌}
use native.Mathlib.Omega.{arith}
use lib.Dec.{eqb}
use lib.ListN.{length, take, drop, length-drop, drop_of_length-le}
use lib.Seq.{drop-drop}
use Rattle.text.specs.Lines.{onto}
use Rattle.text.specs.Marks.{is_blank}
use Rattle.text.specs.Blanks.{blank_len, skipped}
use Rattle.text.proofs.Cut.{add-sub-left}
use Rattle.text.proofs.Blanks.{blank-le, skip-later, skip-within, skip-drop, skip-ends}
use Rattle.fields.specs.Fields.{ends_field, fields_of, body_len, trimmed, word_len, field_at, trimmed_at}
use Rattle.fields.specs.declared.Part.{Part}

-- ---- fields
fields-skip : (s : List ℕ) → fields_of s ≡ fields_of (drop (blank_len s) s)
unfolding fields_of blank_len
fields-skip [] = refl
fields-skip (c ∷ s) = go (is_blank c) refl (fields-skip s)
  where
    go : (b : Bool) → is_blank c ≡ b → fields_of s ≡ fields_of (drop (blank_len s) s) → fields_of (c ∷ s) ≡ fields_of (drop (cond b (suc (blank_len s)) 0) (c ∷ s))
    go true e r = rw e r
    go false e r = refl

fields-cut : (c : ℕ) (s : List ℕ) → is_blank c ≡ false → fields_of (c ∷ s) ≡ take (word_len (c ∷ s)) (c ∷ s) ∷ fields_of (drop (word_len (c ∷ s)) (c ∷ s))
unfolding fields_of word_len ends_field onto
fields-cut c [] e = rw e
fields-cut c (d ∷ s) e = rw e (go (is_blank d) refl (λ f. fields-cut d s f))
  where
    go : (b : Bool) → is_blank d ≡ b → (is_blank d ≡ false → fields_of (d ∷ s) ≡ take (word_len (d ∷ s)) (d ∷ s) ∷ fields_of (drop (word_len (d ∷ s)) (d ∷ s)))
        → cond b ((c ∷ []) ∷ fields_of (d ∷ s)) (onto c (fields_of (d ∷ s)))
        ≡ (c ∷ take (cond b 0 (suc (word_len s))) (d ∷ s)) ∷ fields_of (drop (cond b 0 (suc (word_len s))) (d ∷ s))
    go true f r = refl
    go false f r = rw (r f, f)

word-le : (s : List ℕ) → word_len s ≤ length s
unfolding word_len
word-le [] = omega arith
word-le (c ∷ s) = go (is_blank c) (word-le s)
  where
    go : (b : Bool) → word_len s ≤ length s → cond b 0 (suc (word_len s)) ≤ suc (length s)
    go true h = omega arith
    go false h = omega arith

word_some : (c : ℕ) (s : List ℕ) → is_blank c ≡ false → 1 ≤ word_len (c ∷ s)
unfolding word_len
word_some c s e = rw e (omega arith)

-- from the place behind the blanks on
pub skip-fields : (line : List ℕ) (at : ℕ) → fields_of (drop at line) ≡ fields_of (drop (skipped line at) line)
skip-fields line at = fields-skip (drop at line) ∙ ap fields_of (skip-drop line at)

-- the first field from a place on
pub record FieldAt (line : List ℕ) (at : ℕ) (r : Part) : Type 0 where
  pub later : at ≤ r.start
  pub some : r.start < r.stop
  pub ordered : r.start ≤ r.stop
  pub within : r.stop ≤ length line
  pub field : fields_of (drop at line) ≡ take (r.stop - r.start) (drop r.start line) ∷ fields_of (drop r.stop line)

module _ (line : List ℕ) (at : ℕ) (r : Part) (p : r ≡ field_at line at) where
  starts : r.start ≡ skipped line at
  unfolding field_at
  starts = ap (λ (x : Part). x.start) p

  stops : r.stop ≡ r.start + word_len (drop r.start line)
  unfolding field_at
  stops = ap (λ (x : Part). x.stop) p ∙ rw starts

  pub no_field : length line ≤ r.start → fields_of (drop at line) ≡ []
  unfolding fields_of
  no_field h = skip-fields line at ∙ rw (← starts, drop_of_length-le line h)

  pub field-at : r.start < length line → FieldAt line at r
  field-at h = go (drop r.start line) refl (length-drop r.start line)
    where
      go : (s : List ℕ) → drop r.start line ≡ s → length s ≡ length line - r.start → FieldAt line at r
      go [] e l = absurd (omega arith)
      go (c ∷ s) e l =
          let n : r.stop ≡ r.start + word_len (c ∷ s) = stops ∙ ap (λ (x : List ℕ). r.start + word_len x) e in
          let f : is_blank c ≡ false = skip-ends line at c s (rw (← starts) e) in
          let w = word-le (c ∷ s) in
          let v = word_some c s f in
          let u = skip-later line at in
          let b = starts in
          record {
            later = omega arith;
            some = omega arith;
            ordered = omega arith;
            within = omega arith;
            field = skip-fields line at ∙ rw (← starts, e, n, add-sub-left, ← drop-drop, e) (fields-cut c s f);
          }

-- ---- trimmed
body-le : (s : List ℕ) → body_len s ≤ length s
unfolding body_len
body-le [] = omega arith
body-le (c ∷ s) = go (is_blank c && eqb (body_len s) 0) (body-le s)
  where
    go : (b : Bool) → body_len s ≤ length s → cond b 0 (suc (body_len s)) ≤ suc (length s)
    go true h = omega arith
    go false h = omega arith

-- a field stops within the line, also where there is none
pub field-inside : (line : List ℕ) (at : ℕ) (r : Part) → r ≡ field_at line at → at ≤ length line → r.stop ≤ length line
unfolding field_at skipped
field-inside line at r p h =
    let e : r.stop ≡ at + blank_len (drop at line) + word_len (drop (at + blank_len (drop at line)) line) = ap (λ (x : Part). x.stop) p in
    let b = blank-le (drop at line) in
    let l = length-drop at line in
    let w = word-le (drop (at + blank_len (drop at line)) line) in
    let m = length-drop (at + blank_len (drop at line)) line in
    omega arith

-- what stands from a place on, trimmed
pub record TrimAt (line : List ℕ) (at : ℕ) (r : Part) : Type 0 where
  pub later : at ≤ r.start
  pub ordered : r.start ≤ r.stop
  pub within : at ≤ length line → r.stop ≤ length line
  pub text : take (r.stop - r.start) (drop r.start line) ≡ trimmed (drop at line)

pub trim-at : (line : List ℕ) (at : ℕ) (r : Part) → r ≡ trimmed_at line at → TrimAt line at r
unfolding trimmed_at trimmed
trim-at line at r p =
    let b : r.start ≡ skipped line at = ap (λ (x : Part). x.start) p in
    let e : r.stop ≡ skipped line at + body_len (drop (skipped line at) line) = ap (λ (x : Part). x.stop) p in
    let u = skip-later line at in
    let l = length-drop (skipped line at) line in
    let w = body-le (drop (skipped line at) line) in
    record {
      later = omega arith;
      ordered = omega arith;
      within = λ (h : at ≤ length line). omega (arith, skip-within line at h);
      text = rw (e, b, add-sub-left, skip-drop line at);
    }
