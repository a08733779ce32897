-- What the inner functions answer. Nothing here needs to be believed: laws lead from these to the definitions of the other file.
use Rattle.std.specs.Prelude.{ℕ, ◌<◌, Bool, true, false, cond, ◌&&◌, List, [], ◌∷◌, ◌≡◌, eqb, ltb, length, get_or, None, Option, Some}
use Rattle.file.specs.Rows.{Placed}
use Rattle.sets.specs.Sets.{kept_of, places_after, unless_new, is_in, mixed, mixed_all}
use Rattle.text.specs.Words.{same_bytes}
use Rattle.places.specs.declared.State.{State}
use Rattle.passing.specs.Left.{left_of}
use Rattle.duplicates.specs.declared.Sort.{Sort}
use Rattle.duplicates.specs.declared.Sort.TheVariants.{Key, Name}
use Rattle.duplicates.specs.declared.Ahead.{Ahead}
use Rattle.duplicates.specs.declared.Ahead.TheVariants.{Here, Names, Nowhere}
use Rattle.duplicates.specs.Words.{Word, words_of, word_of, sort_number, is_same, next_line}

-- does a line name this word?
unfoldable pub names_word : List ℕ → Option Sort → Sort → List ℕ → Bool
names_word line None sort word = false
names_word line (Some own) sort word = eqb (sort_number own) (sort_number sort) && same_bytes (word_of line own) word

-- ---- Keys stand in section 2, DEFINITIONS, and names in section 8, EXTENSIONS
abbrev pub section_with : Sort → ℕ
section_with Key = 2
section_with Name = 8

-- was the section of such words met, and left?
abbrev pub is_left : State → Sort → Bool
is_left st sort = left_of st (section_with sort)

-- where the next word may stand, from where a walk stands at a place: names stand behind another place, which is 0 if the file has none
unfoldable pub words_ahead : State → ℕ → ℕ → Ahead
words_ahead st at names = cond (is_left st Key) (cond (ltb at names) Names (cond (eqb names 0) Nowhere (cond (is_left st Name) Nowhere Here))) Here

-- ---- Things that lines give, each on a line of its own, and when two are the same: thing j, on this line, is the same as thing i before it
pub record MetAgain {A : Type 0} (line : A → ℕ) (d : A) (same : A → A → Bool) (xs : List A) (l : ℕ) : Type 0 where
  pub i : ℕ
  pub j : ℕ
  pub before : i < j
  pub there : j < length xs
  pub alike : same (get_or xs i d) (get_or xs j d) ≡ true
  pub here : l ≡ line (get_or xs j d)

-- and is asked for
pub record AskedAgain {A : Type 0} (line : A → ℕ) (d : A) (same : A → A → Bool) (asked : A → Bool) (xs : List A) (l : ℕ) : Type 0 where
  pub again : MetAgain line d same xs l
  pub here : asked (get_or xs again.j d) ≡ true

-- what is asked for in a part, by its number
abbrev pub in_part : {A : Type 0} → (A → ℕ) → (A → Bool) → ℕ → ℕ → A → Bool
in_part key may parts part x = may x && is_in (key x) parts part

-- ---- What a line gives is asked, if it is asked for, whether it stood before, unless its number is new to a set; and its number is kept
unfoldable pub ask_first : {A : Type 0} → (A → ℕ) → (A → Bool) → (A → Bool) → List ℕ → List A → Bool
ask_first key asked stood places [] = false
ask_first key asked stood places (x ∷ xs) = cond (asked x) (unless_new (kept_of places (key x)) (stood x)) false

unfoldable pub keep_first : {A : Type 0} → (A → ℕ) → (A → Bool) → List ℕ → List A → List ℕ
keep_first key asked places [] = places
keep_first key asked places (x ∷ xs) = cond (asked x) (places_after places (key x)) places

-- the line of a row
abbrev pub row_line : Placed → ℕ
row_line r = r.line

-- ---- Words: the line, when two are the same, the number that a word is kept by, and whether a word stood before
abbrev pub word_line : Word → ℕ
word_line w = w.line

abbrev pub no_word : Word
no_word = record { line = 0; sort = Key; word = [] }

abbrev pub same_word : Word → Word → Bool
same_word w v = is_same w.sort w.word v

unfoldable pub number_of : Sort → List ℕ → ℕ
number_of sort word = mixed (mixed_all (sort_number sort) word) 0

abbrev pub word_number : Word → ℕ
word_number w = number_of w.sort w.word

abbrev pub any_word : Word → Bool
any_word w = true

abbrev pub stood_before : List ℕ → Word → Bool
stood_before file w = ltb (next_line w.sort w.word (words_of file)) w.line
