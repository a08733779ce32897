-- The earlier of two lines, and of the rows' and the words'. Assumes nothing.
use Prim.Native.Nat.{ℕ, ◌<◌, ◌≤◌}
use mathlib.Core.List.{List}
use mathlib.Core.Logic.{◌⊎◌, inl, inr}
use mathlib.Core.Path.{◌≡◌, refl, sym, ◌∙◌}
use native.Mathlib.Omega.{arith}
use borrow.Author.Tests.{ne_eqb, lt-ltb, le-ltb}
use lib.IntN.{ℤ}
use Rattle.text.proofs.Cases.{lt-or-ge, eq-or-ne}
use Rattle.file.specs.Rows.{rows_of, line_of}
use Rattle.tables.specs.Tables.{first_again}
use Rattle.duplicates.specs.Words.{earlier, again_line, words_of, row_again_line, duplicate_line}

-- ---- by the tests of the code
module _ (a b : ℕ) where
  pub earlier-second : a ≡ 0 → b ≡ earlier a b
  unfolding earlier
  earlier-second e = rw e

  module _ (n : a ≡ 0 → ⊥) where
    pub earlier-first : b ≡ 0 → a ≡ earlier a b
    unfolding earlier
    earlier-first e = rw (ne_eqb a 0 n, e)

    module _ (m : b ≡ 0 → ⊥) where
      pub earlier-less : b < a → b ≡ earlier a b
      unfolding earlier
      earlier-less h = rw (ne_eqb a 0 n, ne_eqb b 0 m, lt-ltb b a h)

      pub earlier-least : a ≤ b → a ≡ earlier a b
      unfolding earlier
      earlier-least h = rw (ne_eqb a 0 n, ne_eqb b 0 m, le-ltb b a h)

-- ---- what is known of it
pub record EarlierIs (a b r : ℕ) : Type 0 where
  pub one : (r ≡ a) ⊎ (r ≡ b)
  pub first : (a ≡ 0 → ⊥) → (r ≡ 0 → ⊥) × (r ≤ a)
  pub second : (b ≡ 0 → ⊥) → (r ≡ 0 → ⊥) × (r ≤ b)

pub earlier-is : (a b : ℕ) → EarlierIs a b (earlier a b)
earlier-is a b = go (eq-or-ne a 0) (eq-or-ne b 0) (lt-or-ge b a)
  where
    go : (a ≡ 0) ⊎ (a ≡ 0 → ⊥) → (b ≡ 0) ⊎ (b ≡ 0 → ⊥) → (b < a) ⊎ (a ≤ b) → EarlierIs a b (earlier a b)
    go (inl e) f h =
        let r = earlier-second a b e in
        record { one = inr (sym r); first = λ n. absurd (n e); second = λ n. (λ (q : earlier a b ≡ 0). n (r ∙ q), omega arith) }
    go (inr n) (inl e) h =
        let r = earlier-first a b n e in
        record { one = inl (sym r); first = λ m. (λ (q : earlier a b ≡ 0). n (r ∙ q), omega arith); second = λ m. absurd (m e) }
    go (inr n) (inr m) (inl h) =
        let r = earlier-less a b n m h in
        record { one = inr (sym r); first = λ x. (λ (q : earlier a b ≡ 0). m (r ∙ q), omega arith); second = λ x. (λ (q : earlier a b ≡ 0). m (r ∙ q), omega arith) }
    go (inr n) (inr m) (inr h) =
        let r = earlier-least a b n m h in
        record { one = inl (sym r); first = λ x. (λ (q : earlier a b ≡ 0). n (r ∙ q), omega arith); second = λ x. (λ (q : earlier a b ≡ 0). n (r ∙ q), omega arith) }

-- ---- the row's line beside the word's
module _ (file : List ℕ) (rows : List ℤ) (n k word : ℕ) (p : k ≡ first_again rows n) (q : word ≡ again_line (words_of file)) where
  pub duplicate-row : k < n → (line : ℕ) → line ≡ line_of (rows_of file) k → earlier line word ≡ duplicate_line file rows n
  unfolding duplicate_line row_again_line
  duplicate-row h line e = rw (← p, lt-ltb k n h, e, q)

  pub duplicate-word : n ≤ k → word ≡ duplicate_line file rows n
  unfolding duplicate_line row_again_line
  duplicate-word h = rw (← p, le-ltb k n h) (q ∙ earlier-second 0 _ refl)
