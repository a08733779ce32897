-- The lines of SHAPES are short enough for LINE. Assumes nothing.
use Prim.Native.Nat.{ℕ, ◌^◌, ◌≤◌}
use mathlib.Core.List.{List, [], ◌∷◌, ◌++◌, append_assoc}
use native.Mathlib.Omega.{arith}
use lib.IntN.{ℤ, pos, nat_abs}
use lib.ListN.{length, drop, length-append, length-take}
use Rattle.text.proofs.Short.{Short, short_none, short-line, short-append}
use Rattle.print.specs.Printed.{signed_text}
use Rattle.shape.specs.declared.Edition.{Edition}
use Rattle.shape_text.proofs.Short.{stored_short}
use Rattle.columns.specs.Columns.{shape_kind}
use Rattle.tables.specs.Tables.{number_at, samples_at}
use Rattle.grammar.specs.Steps.{shape_id_word, num_samples_word}
use Rattle.sayable.specs.Sayable.{is_kind}
use Rattle.said.specs.Said.{has_kind}
use Rattle.said.proofs.Short.{Small, short-if, lines-short, signed-short}
use Rattle.shape_section.specs.Shapes.{shapes_head, word_line, shape_text, shape_line, shape_section}

-- ---- a word and a number
word-short : (word : List ℕ) (z : ℤ) → length word ≤ 1000 → nat_abs z ≤ 2 ^ 63 → Short (word_line word z)
unfolding word_line
word-short word z h k =
    let l = signed-short z k in
    rw append_assoc at (short-line (word ++ (32 ∷ signed_text z)) (rw length-append (omega arith)) short_none)

-- ---- a shape, and the section, of rows whose numbers are no larger than numbers of 64 bits can be
module _ (target : Edition) (rows samples : List ℤ) (small : Small rows) where
  samples-few : (k : ℕ) → length (samples_at rows k samples) ≤ 2 ^ 63
  unfolding samples_at
  samples-few k =
      let s = small k 2 in
      let l = length-take (nat_abs (number_at rows k 2)) (drop (nat_abs (number_at rows k 3)) samples) in
      omega arith

  shape-short : (k : ℕ) → Short (shape_text target rows samples k)
  unfolding shape_text shape_id_word num_samples_word
  shape-short k =
      short-append (word-short shape_id_word (number_at rows k 1) (omega arith) (small k 1))
      (short-append (word-short num_samples_word (number_at rows k 2) (omega arith) (small k 2))
      (short-append (stored_short target (samples_at rows k samples) (samples-few k)) (short-line [] (omega arith) short_none)))

  shape-line-short : (k : ℕ) → Short (shape_line target rows samples k)
  unfolding shape_line
  shape-line-short k = short-if (is_kind rows k (pos shape_kind)) (shape-short k) short_none

  head-short : Short shapes_head
  unfolding shapes_head
  head-short = short-line (91 ∷ 83 ∷ 72 ∷ 65 ∷ 80 ∷ 69 ∷ 83 ∷ 93 ∷ []) (omega arith) short_none

  pub shapes-short : (n : ℕ) → Short (shape_section target rows n samples)
  unfolding shape_section
  shapes-short n = short-if (has_kind (pos shape_kind) rows n) (short-append head-short (lines-short (shape_line target rows samples) shape-line-short 0 n)) short_none
