-- The outcome of reading is unique. Assumes nothing.
use Rattle.answers.specs.Outcome.{Answer}
use mathlib.Core.List.{List}
use Prim.Native.Nat.{ℕ}
use mathlib.Core.Path.{◌≡◌, sym, ◌∙◌}
use lib.IntN.{ℤ}
use Rattle.reader.specs.Reading.{Reading}

-- ---- two readings of the same file with the same site into tables of the same lengths answer the same and leave the same
pub read-unique : {file site : List ℕ} {table l : List ℤ} {r r' : Answer} {t t' m m' : List ℤ} → Reading file site table l r t m → Reading file site table l r' t' m'
    → (r ≡ r') × ((t ≡ t') × (m ≡ m'))
read-unique a b = (a.answer ∙ sym b.answer, (a.rows ∙ sym b.rows, a.samples ∙ sym b.samples))
