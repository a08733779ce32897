-- SHAPES written part by part. Assumes nothing.
use Prim.Native.Nat.{ℕ}
use mathlib.Core.Bool.{Bool, true, false}
use mathlib.Core.List.{List, [], ◌∷◌}
use mathlib.Core.Path.{◌≡◌}
use lib.IntN.{ℤ, pos}
use Rattle.output.specs.Over.{Put}
use Rattle.output.proofs.Over.{put_then}
use Rattle.print.specs.Printed.{signed_text}
use Rattle.shape.specs.declared.Edition.{Edition}
use Rattle.shape_text.specs.Written.{stored_text}
use Rattle.tables.specs.Tables.{number_at, samples_at}
use Rattle.grammar.specs.Steps.{shape_id_word, num_samples_word}
use Rattle.sayable.specs.Sayable.{is_kind}
use Rattle.said.specs.Said.{has_kind}
use Rattle.shape_section.specs.Shapes.{shapes_head, word_line, shape_text, shape_line, shapes_text, shape_section}

-- ---- a word and a number
pub word-put : {word : List ℕ} {z y : ℤ} → y ≡ z → {l l₁ l₂ l₃ l₄ : List ℕ} {at r₁ r₂ r₃ r₄ : ℕ} → Put l at word r₁ l₁ → Put l₁ r₁ (32 ∷ []) r₂ l₂
    → Put l₂ r₂ (signed_text y) r₃ l₃ → Put l₃ r₃ (10 ∷ []) r₄ l₄ → Put l at (word_line word z) r₄ l₄
unfolding word_line
word-put e a b c d = rw (← e) (put_then a (put_then b (put_then c d)))

-- ---- a shape
module _ (target : Edition) (rows samples : List ℤ) (k : ℕ) where
  pub shape-put : {id num : ℤ} {part : List ℤ} → id ≡ number_at rows k 1 → num ≡ number_at rows k 2 → part ≡ samples_at rows k samples
      → {l l₁ l₂ l₃ l₄ : List ℕ} {at r₁ r₂ r₃ r₄ : ℕ} → Put l at (word_line shape_id_word id) r₁ l₁ → Put l₁ r₁ (word_line num_samples_word num) r₂ l₂
      → Put l₂ r₂ (stored_text target part) r₃ l₃ → Put l₃ r₃ (10 ∷ []) r₄ l₄ → Put l at (shape_text target rows samples k) r₄ l₄
  unfolding shape_text
  shape-put p q s a b c d = rw (← p, ← q, ← s) (put_then a (put_then b (put_then c d)))

  module _ {b : Bool} (p : b ≡ is_kind rows k (pos 11)) where
    pub line-shape : b ≡ true → shape_text target rows samples k ≡ shape_line target rows samples k
    unfolding shape_line
    line-shape e = rw (← p, e)

    pub line-none : b ≡ false → [] ≡ shape_line target rows samples k
    unfolding shape_line
    line-none e = rw (← p, e)

-- ---- the section
module _ (target : Edition) (rows : List ℤ) (n : ℕ) (samples : List ℤ) {b : Bool} (p : b ≡ has_kind (pos 11) rows n) where
  pub shapes-some : b ≡ true → {l l₁ l₂ : List ℕ} {at r₁ r₂ : ℕ} → Put l at shapes_head r₁ l₁ → Put l₁ r₁ (shapes_text target rows n samples) r₂ l₂
      → Put l at (shape_section target rows n samples) r₂ l₂
  unfolding shape_section
  shapes-some e x y = rw (← p, e) (put_then x y)

  pub shapes-none : b ≡ false → [] ≡ shape_section target rows n samples
  unfolding shape_section
  shapes-none e = rw (← p, e)
