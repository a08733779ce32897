-- The paper's limits on a text that is read. "BIG: file over 2^24 bytes"; "LINE: line over 1,024 bytes".
use Rattle.std.specs.Prelude.{ℕ, ◌^◌, ◌≤◌, List, [], ◌≡◌, length, get_or}
use Rattle.text.specs.Lines.{lines_of}

-- ---- Every line of a text, as reading cuts it, has at most 1,024 bytes
unfoldable pub ShortLines : List ℕ → Type 0
ShortLines text = (i : ℕ) → length (get_or (lines_of text) i []) ≤ 1024

-- ---- and the text has at most 2^24
pub record WithinLimits (text : List ℕ) : Type 0 where
  pub lines : ShortLines text
  pub size : length text ≤ 2 ^ 24

-- ---- "Restating also gets an output slice and answers its length": a text of this length, in so much space, within the limits
pub record Restates (text : List ℕ) (len space : ℕ) : Type 0 where
  pub same : len ≡ length text
  pub room : len ≤ space
  pub limits : WithinLimits text
