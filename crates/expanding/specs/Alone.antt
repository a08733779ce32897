-- Expanding alone. "Expanding (stored lines, num, edition) answers FIELD for a bad line or num, SHAPE, then ROOM."
use Rattle.shape.specs.Answers.{Expanded}
use Rattle.shape.specs.declared.Unexpanded.TheVariants.{Room, Field, Shape}
use Rattle.std.specs.Prelude.{ℕ, ◌-◌, Bool, cond, ◌&&◌, List, ◌++◌, ◌≡◌, leb, ℤ, pos, length, replicate, Ok, Err}
use Rattle.text.specs.Lines.{lines_of}
use Rattle.shape.specs.Stored.{all_sound, values_of}
use Rattle.expanding.specs.Expand.{samples_in, expands_to, expansion_of}
use Rattle.shape.specs.declared.Edition.{Edition}

-- "num and num_samples 1 to 10^6"
unfoldable pub is_count : ℕ → Bool
is_count num = leb 1 num && leb num 1000000

unfoldable pub expanded_of : Edition → ℕ → List ℕ → ℕ → Expanded
expanded_of edition num text room =
    cond (is_count num && all_sound (lines_of text))
    (cond (expands_to num (expansion_of edition num (values_of text))) (cond (leb num room) (Ok num) (Err Room)) (Err Shape))
    (Err Field)

-- ---- The lent samples afterwards: the samples and then zeros; on a refusal zeros throughout
unfoldable pub table_from : List ℤ → ℕ → List ℤ
table_from zs room = zs ++ replicate (room - length zs) (pos 0)

unfoldable pub samples_after : Expanded → List ℤ → ℕ → List ℤ
samples_after (Ok n) zs room = table_from zs room
samples_after (Err Field) zs room = replicate room (pos 0)
samples_after (Err Shape) zs room = replicate room (pos 0)
samples_after (Err Room) zs room = replicate room (pos 0)

unfoldable pub table_of : Edition → ℕ → List ℕ → ℕ → List ℤ
table_of edition num text room =
    samples_after (expanded_of edition num text room) (samples_in (expansion_of edition num (values_of text))) room

-- what expanding answers, and what it leaves in the lent samples l
pub record Expansion (edition : Edition) (num : ℕ) (text : List ℕ) (l : List ℤ) (r : Expanded) (l' : List ℤ) : Type 0 where
  pub answer : r ≡ expanded_of edition num text (length l)
  pub samples : l' ≡ table_of edition num text (length l)
