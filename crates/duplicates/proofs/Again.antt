-- The first line at which something is met again is exactly that. Assumes nothing.
use Prim.Native.Nat.{ℕ, ◌<◌, ◌≤◌}
use mathlib.Core.Bool.{true, cond, true≢false}
use mathlib.Core.List.{List, [], ◌∷◌}
use mathlib.Core.Logic.{◌⊎◌, inl, inr, ⊎_elim}
use mathlib.Core.Path.{◌≡◌, refl, sym, ◌∙◌}
use native.Mathlib.Omega.{arith}
use borrow.Author.Tests.{eq-eqb, eqb-true, lt-ltb, le-ltb}
use lib.Dec.{eqb, ltb}
use lib.IntN.{ℤ}
use lib.ListN.{length}
use Rattle.text.specs.Words.{same_bytes}
use Rattle.text.proofs.Cases.{and_both, lt-or-ge}
use Rattle.text.proofs.Words.{same_refl, same_true}
use Rattle.file.specs.Rows.{rows_of, line_of}
use Rattle.tables.specs.Tables.{first_such, is_again, first_again}
use Rattle.tables.proofs.Found.{first-is}
use Rattle.duplicates.specs.declared.Sort.{Sort}
use Rattle.duplicates.specs.declared.Sort.TheVariants.{Key, Name}
use Rattle.duplicates.specs.Words.{Word, words_of, sort_number, is_same, next_line, again_line, row_again_line, duplicate_line}
use Rattle.duplicates.specs.Inside.{MetAgain, word_line, no_word, same_word}
use Rattle.duplicates.specs.Again.{FirstLine, word_no, WordAgain, RowAgain, Duplicate, by_row, by_word}
use Rattle.duplicates.proofs.First.{first_either, first-as, first-none, next_such, again_such, again-first}
use Rattle.duplicates.proofs.Rising.{words-rise, rows-low, rows-ordered, rows-rise}

-- ---- two words are the same where their sorts and bytes are
same-sort : (a b : Sort) → sort_number a ≡ sort_number b → a ≡ b
same-sort Key Key e = refl
same-sort Key Name e = absurd (omega arith)
same-sort Name Key e = absurd (omega arith)
same-sort Name Name e = refl

module _ (sort : Sort) (word : List ℕ) (v : Word) where
  pub same-is : is_same sort word v ≡ true → (v.sort ≡ sort) × (v.word ≡ word)
  unfolding is_same
  same-is e =
      let b = and_both (eqb (sort_number v.sort) (sort_number sort)) (same_bytes v.word word) e in
      (same-sort v.sort sort (eqb-true _ _ b.0), same_true v.word word b.1)

  pub is_same_lem : v.sort ≡ sort → v.word ≡ word → is_same sort word v ≡ true
  unfolding is_same
  is_same_lem p q = rw (p, q, eq-eqb (sort_number sort) (sort_number sort) refl, same_refl word)

-- ---- words that are met again, as the laws for all things say it
pub next-such : (sort : Sort) (word : List ℕ) (ws : List Word) → next_such word_line (is_same sort word) ws ≡ next_line sort word ws
unfolding next_such next_line
next-such sort word [] = refl
next-such sort word (v ∷ vs) = rw (next-such sort word vs)

pub again-such : (ws : List Word) → again_such word_line same_word ws ≡ again_line ws
unfolding again_such again_line
again-such [] = refl
again-such (w ∷ ws) = rw (next-such w.sort w.word ws, again-such ws)

module _ (ws : List Word) where
  to_word : (l : ℕ) → MetAgain word_line no_word same_word ws l → WordAgain ws l
  to_word l g =
      let s = same-is (word_no ws g.i).sort (word_no ws g.i).word (word_no ws g.j) g.alike in
      record { i = g.i; j = g.j; before = g.before; there = g.there; sort = s.0; word = s.1; here = g.here }

  from-word : (l : ℕ) → WordAgain ws l → MetAgain word_line no_word same_word ws l
  from-word l g =
      record { i = g.i; j = g.j; before = g.before; there = g.there; alike = is_same_lem _ _ (word_no ws g.j) g.sort g.word; here = g.here }

-- ---- a key or a name "met again in its class": `again_line` is the first line of a file where one is, 0 if none is
pub again-is : (file : List ℕ) → FirstLine (WordAgain (words_of file)) (again_line (words_of file))
again-is file = rw (again-such (words_of file)) at (first-as (to_word (words_of file)) (from-word (words_of file)) (again-first word_line no_word same_word (omega arith) (words-rise file)))

-- ---- the first n rows of a file, no more than it has
module _ (file : List ℕ) (rows : List ℤ) (n : ℕ) (m : n ≤ length (rows_of file)) where
  -- no row before the first is met again
  not-before : (l : ℕ) (x : RowAgain file rows n l) → first_again rows n ≤ x.k
  unfolding first_again
  not-before l x =
      ⊎_elim (λ (h : x.k < first_such (is_again rows) 0 n). absurd (true≢false (sym x.again ∙ (first-is (is_again rows) 0 n).before x.k (omega arith) h))) (λ h. h)
      (lt-or-ge x.k (first_such (is_again rows) 0 n))

  is-again : first_again rows n < n → is_again rows (first_again rows n) ≡ true
  unfolding first_again
  is-again h = (first-is (is_again rows) 0 n).here (omega arith)

  row_is : FirstLine (RowAgain file rows n) (row_again_line file rows n)
  unfolding row_again_line
  row_is = go (lt-or-ge (first_again rows n) n)
    where
      go : (first_again rows n < n) ⊎ (n ≤ first_again rows n)
          → FirstLine (RowAgain file rows n) (cond (ltb (first_again rows n) n) (line_of (rows_of file) (first_again rows n)) 0)
      go (inl h) =
          let some-line = rows-low (rows-rise file) (first_again rows n) (omega arith) in
          rw (lt-ltb (first_again rows n) n h)
          (record {
            none = λ (z : line_of (rows_of file) (first_again rows n) ≡ 0) l x. absurd (omega arith);
            some = λ y. record { k = first_again rows n; there = h; again = is-again h; here = refl };
            least = λ l x. rw x.here (rows-ordered (rows-rise file) (first_again rows n) x.k (not-before l x) (let t = x.there in omega arith));
          })
      go (inr h) = rw (le-ltb (first_again rows n) n h) (first-none (λ l x. let t = x.there in let y = not-before l x in absurd (omega arith)))

  -- ---- DUPLICATE: `duplicate_line` is the first line of a file where an ID or type of its first n rows, a name or a key is met again, 0 if none is
  pub duplicate-is : FirstLine (Duplicate file rows n) (duplicate_line file rows n)
  unfolding duplicate_line
  duplicate-is = first-as (λ l x. to l x) (λ l x. from l x) (first_either row_is (again-is file))
    where
      to : (l : ℕ) → RowAgain file rows n l ⊎ WordAgain (words_of file) l → Duplicate file rows n l
      to l (inl r) = by_row r
      to l (inr w) = by_word w

      from : (l : ℕ) → Duplicate file rows n l → RowAgain file rows n l ⊎ WordAgain (words_of file) l
      from l (by_row r) = inl r
      from l (by_word w) = inr w
