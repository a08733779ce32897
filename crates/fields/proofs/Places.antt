-- What a turn of a loop does: the definitions at `drop i line`, one byte at a time. Assumes nothing.
use Prim.Native.Nat.{ℕ, zero, suc, ◌+◌, ◌≤◌, ◌<◌}
use mathlib.Core.Bool.{Bool, true, false, cond, ◌&&◌}
use mathlib.Core.List.{List}
use mathlib.Core.Path.{◌≡◌, refl, ◌∙◌}
use native.Mathlib.Nat.{add-zero}
use native.Mathlib.Numerals.{add-one}
use native.Mathlib.Omega.{arith}
use borrow.Author.Tests.{ne_eqb, eqb-true}
use lib.Dec.{eqb}
use lib.ListN.{length, get_or, drop, drop_of_length-le}
use lib.Seq.{drop-cons}
use Rattle.text.specs.Marks.{is_blank}
use Rattle.text.specs.Blanks.{skipped}
use Rattle.fields.specs.Fields.{word_len, body_len, field_at, trimmed_at}
use Rattle.fields.specs.declared.Part.{Part}

-- ---- a field: where the word at a place ends
unfoldable pub word_end : List ℕ → ℕ → ℕ
word_end line i = i + word_len (drop i line)

pub field_is : (line : List ℕ) (at start stop : ℕ) → start ≡ skipped line at → stop ≡ word_end line start → ◌≡◌ {A = Part} (record { start = start; stop = stop }) (field_at line at)
unfolding field_at word_end
field_is line at start stop p q = rw (q, p)

module _ (line : List ℕ) (i : ℕ) where
  pub word_none : length line ≤ i → i ≡ word_end line i
  unfolding word_end word_len
  word_none h = rw (drop_of_length-le line h, add-zero)

  module _ (h : i < length line) where
    pub word-stop : is_blank (get_or line i 0) ≡ true → i ≡ word_end line i
    unfolding word_end word_len
    word-stop e = rw (drop-cons line i 0, e, add-zero)

    word-step : is_blank (get_or line i 0) ≡ false → word_len (drop i line) ≡ suc (word_len (drop (i + 1) line))
    unfolding word_len
    word-step e = rw (add-one i, drop-cons line i 0, e)

    pub word_more : is_blank (get_or line i 0) ≡ false → word_end line (i + 1) ≡ word_end line i
    unfolding word_end
    word_more e = let b = word-step e in omega arith

-- ---- trimming: where the text ends, once it is known to go on to `stop` and is looked at from i on
unfoldable pub body_end : List ℕ → ℕ → ℕ → ℕ
body_end line stop i = cond (eqb (body_len (drop i line)) 0) stop (i + body_len (drop i line))

pub body-start : (line : List ℕ) (i : ℕ) → body_end line i i ≡ i + body_len (drop i line)
unfolding body_end
body-start line i = go (eqb (body_len (drop i line)) 0) refl
  where
    go : (b : Bool) → eqb (body_len (drop i line)) 0 ≡ b → cond b i (i + body_len (drop i line)) ≡ i + body_len (drop i line)
    go true e = let z = eqb-true (body_len (drop i line)) 0 e in omega arith
    go false e = refl

pub trim-is : (line : List ℕ) (at start stop : ℕ) → start ≡ skipped line at → stop ≡ body_end line start start → ◌≡◌ {A = Part} (record { start = start; stop = stop }) (trimmed_at line at)
unfolding trimmed_at
trim-is line at start stop p q = rw (q, body-start line start, p)

module _ (line : List ℕ) (stop i : ℕ) where
  pub body_end_lem : length line ≤ i → stop ≡ body_end line stop i
  unfolding body_end body_len
  body_end_lem h = rw (drop_of_length-le line h)

  module _ (h : i < length line) where
    body-step : (b : Bool) → is_blank (get_or line i 0) ≡ b
        → body_len (drop i line) ≡ cond (b && eqb (body_len (drop (i + 1) line)) 0) 0 (suc (body_len (drop (i + 1) line)))
    unfolding body_len
    body-step b e = rw (drop-cons line i 0, e, add-one i)

    pub body-byte : is_blank (get_or line i 0) ≡ false → body_end line (i + 1) (i + 1) ≡ body_end line stop i
    unfolding body_end
    body-byte e = body-start line (i + 1) ∙ rw (body-step false e, ne_eqb (suc (body_len (drop (i + 1) line))) 0 (λ p. omega arith)) (omega arith)

    pub body-blank : is_blank (get_or line i 0) ≡ true → body_end line stop (i + 1) ≡ body_end line stop i
    unfolding body_end
    body-blank e = rw (body-step true e) (go (body_len (drop (i + 1) line)))
      where
        go : (n : ℕ) → cond (eqb n 0) stop (i + 1 + n) ≡ cond (eqb (cond (eqb n 0) 0 (suc n)) 0) stop (i + cond (eqb n 0) 0 (suc n))
        go zero = refl
        go (suc n) = rw (ne_eqb (suc n) 0 (λ p. omega arith), ne_eqb (suc (suc n)) 0 (λ p. omega arith)) (omega arith)
