-- What it means that something is met again in a file, and that an answer is the first line where it is. `again-is` shows it of `again_line`,
-- `duplicate-is` of `duplicate_line`.
use Rattle.std.specs.Prelude.{ℕ, ◌<◌, ◌≤◌, true, List, [], ◌≡◌, ℤ, length, get_or}
use Rattle.file.specs.Rows.{rows_of, line_of}
use Rattle.tables.specs.Tables.{is_again}
use Rattle.duplicates.specs.declared.Sort.TheVariants.{Key}
use Rattle.duplicates.specs.Words.{Word, words_of}

-- ---- The first of the lines at which something holds: 0 only if it holds at none; else it holds there, and at no line before
pub record FirstLine (Holds : ℕ → Type 0) (line : ℕ) : Type 0 where
  pub none : line ≡ 0 → (l : ℕ) → Holds l → ⊥
  pub some : (line ≡ 0 → ⊥) → Holds line
  pub least : (l : ℕ) → Holds l → line ≤ l

-- word i of a list, from 0
abbrev pub word_no : List Word → ℕ → Word
word_no ws i = get_or ws i (record { line = 0; sort = Key; word = [] })

-- ---- "met again in its class": word j, on this line, is of the sort of word i before it, and the same
pub record WordAgain (ws : List Word) (line : ℕ) : Type 0 where
  pub i : ℕ
  pub j : ℕ
  pub before : i < j
  pub there : j < length ws
  pub sort : (word_no ws j).sort ≡ (word_no ws i).sort
  pub word : (word_no ws j).word ≡ (word_no ws i).word
  pub here : line ≡ (word_no ws j).line

-- row k of n, on this line, has the ID or type of a row before it in its class
pub record RowAgain (file : List ℕ) (rows : List ℤ) (n line : ℕ) : Type 0 where
  pub k : ℕ
  pub there : k < n
  pub again : is_again rows k ≡ true
  pub here : line ≡ line_of (rows_of file) k

-- ---- DUPLICATE
pub data Duplicate (file : List ℕ) (rows : List ℤ) (n line : ℕ) : Type 0 where
  by_row : RowAgain file rows n line → Duplicate file rows n line
  by_word : WordAgain (words_of file) line → Duplicate file rows n line
