-- The lines of EXTENSIONS, written word by word. Assumes nothing.
use Prim.Native.Nat.{ℕ, suc, ◌-◌}
use mathlib.Core.List.{List, [], ◌∷◌, append_assoc, append-nil}
use mathlib.Core.Path.{◌≡◌, sym, ap}
use native.Mathlib.Omega.{arith}
use lib.IntN.{ℤ, pos, nat_abs}
use lib.ListN.{get_or}
use Rattle.output.specs.Over.{Put}
use Rattle.output.proofs.Over.{put_then}
use Rattle.fields.specs.Fields.{joined, spaced}
use Rattle.print.specs.Printed.{signed_text}
use Rattle.signed.specs.Signed.{same_z}
use Rattle.signed.proofs.Sign.{same_z-other}
use Rattle.shape.specs.declared.Edition.{Edition}
use Rattle.columns.specs.declared.Form.TheVariants.{Entry, Trigger}
use Rattle.heads.specs.Heads.{label_names, extension_names, extension_word}
use Rattle.tables.specs.Tables.{number_at}
use Rattle.sayable.specs.Sayable.{is_kind}
use Rattle.said.specs.Said.{numbers_at, line_text}
use Rattle.extension_text.specs.Extensions.{word_at, three_words, extension_line, label_line, listed_line}

-- ---- a word by its place, from 1
pub word_none : (ws : List (List ℕ)) (i : ℕ) → i ≡ 0 → [] ≡ word_at ws i
unfolding word_at
word_none ws i e = rw e

pub word_some : (ws : List (List ℕ)) (i : ℕ) → (i ≡ 0 → ⊥) → get_or ws (i - 1) [] ≡ word_at ws i
unfolding word_at
word_some ws i h = let e : i ≡ suc (i - 1) = omega arith in sym (ap (λ (j : ℕ). get_or ([] ∷ ws) j []) e)

-- ---- three words and the end of the line
pub three-put : {l l₁ l₂ l₃ l₄ : List ℕ} {at r₁ r₂ r₃ r₄ : ℕ} (a b c : List ℕ) → Put l at a r₁ l₁ → Put l₁ r₁ (32 ∷ b) r₂ l₂ → Put l₂ r₂ (32 ∷ c) r₃ l₃ → Put l₃ r₃ (10 ∷ []) r₄ l₄
    → Put l at (three_words a b c) r₄ l₄
unfolding three_words joined spaced
three-put a b c p q s t = rw (append-nil c, append_assoc, append_assoc (32 ∷ b) (32 ∷ c) (10 ∷ [])) (put_then p (put_then q (put_then s t)))

module _ (rows : List ℤ) (k : ℕ) {l l₁ l₂ l₃ l₄ : List ℕ} {at r₁ r₂ r₃ r₄ : ℕ} where
  pub extension-put : (code : ℕ) (y : ℤ) → code ≡ nat_abs (number_at rows k 2) → y ≡ number_at rows k 1 → Put l at extension_word r₁ l₁
      → Put l₁ r₁ (32 ∷ word_at extension_names code) r₂ l₂ → Put l₂ r₂ (32 ∷ signed_text y) r₃ l₃ → Put l₃ r₃ (10 ∷ []) r₄ l₄ → Put l at (extension_line rows k) r₄ l₄
  unfolding extension_line
  extension-put code y u v p q s t = rw (← u, ← v) (three-put _ _ _ p q s t)

  pub label-put : (x y : ℤ) (label : ℕ) → x ≡ number_at rows k 1 → y ≡ number_at rows k 3 → label ≡ nat_abs (number_at rows k 4) → Put l at (signed_text x) r₁ l₁
      → Put l₁ r₁ (32 ∷ signed_text y) r₂ l₂ → Put l₂ r₂ (32 ∷ word_at label_names label) r₃ l₃ → Put l₃ r₃ (10 ∷ []) r₄ l₄ → Put l at (label_line rows k) r₄ l₄
  unfolding label_line
  label-put x y label u v w p q s t = rw (← u, ← v, ← w) (three-put _ _ _ p q s t)

-- ---- the line of row k, by its kind
module _ (target : Edition) (rows : List ℤ) (k : ℕ) (z : ℤ) (p : z ≡ number_at rows k 0) where
  pub listed-entry : z ≡ pos 7 → (row : List ℤ) → row ≡ numbers_at rows k → line_text target Entry row ≡ listed_line target rows k
  unfolding listed_line is_kind same_z
  listed-entry e row x = rw (← p, e, x)

  pub listed-extension : z ≡ pos 8 → extension_line rows k ≡ listed_line target rows k
  unfolding listed_line is_kind same_z
  listed-extension e = rw (← p, e)

  pub listed-trigger : z ≡ pos 9 → (row : List ℤ) → row ≡ numbers_at rows k → line_text target Trigger row ≡ listed_line target rows k
  unfolding listed_line is_kind same_z
  listed-trigger e row x = rw (← p, e, x)

  pub listed-label : z ≡ pos 10 → label_line rows k ≡ listed_line target rows k
  unfolding listed_line is_kind same_z
  listed-label e = rw (← p, e)

  pub listed-none : (z ≡ pos 7 → ⊥) → (z ≡ pos 8 → ⊥) → (z ≡ pos 9 → ⊥) → (z ≡ pos 10 → ⊥) → [] ≡ listed_line target rows k
  unfolding listed_line is_kind
  listed-none a b c d = rw (← p, same_z-other z (pos 7) a, same_z-other z (pos 8) b, same_z-other z (pos 9) c, same_z-other z (pos 10) d)
