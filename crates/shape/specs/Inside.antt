-- What the inner functions answer. Nothing here needs to be believed: laws lead from these to the definitions of the other files.
use Rattle.std.specs.Prelude.{ℕ, ◌+◌, ◌<◌, Bool, true, cond, ◌&&◌, List, [], ◌∷◌, ◌++◌, ◌≡◌, eqb, ltb, length, get_or, drop, None, Option, Some}
use Rattle.numeral.specs.Digits.{all_digits, value_from}
use Rattle.decimals.specs.Inside.{large}
use Rattle.shape.specs.Stored.{held_at}
use Rattle.shape.specs.declared.Digits.{Digits}
use Rattle.shape.specs.declared.Spelled.{Spelled}
use Rattle.shape.specs.declared.Held.{Held}

-- does a byte stand at a place of a text?
unfoldable pub stands_at : List ℕ → ℕ → ℕ → Bool
stands_at text at b = ltb at (length text) && eqb (get_or text at 0) b

-- digits from a place on, worth this behind v, and the place behind them
pub record GatheredFrom (text : List ℕ) (at v : ℕ) (r : Digits) : Type 0 where
  pub front : List ℕ
  pub split : drop at text ≡ front ++ drop r.stop text
  pub long : r.stop ≡ at + length front
  pub all : all_digits front ≡ true
  pub value : r.v ≡ value_from v front
  pub small : r.v < large

-- digits d, or digits d, a point and digits f; '.' is 46
pub data Spelt : List ℕ → List ℕ → List ℕ → Type 0 where
  whole : (d : List ℕ) → Spelt d d []
  pointed : (d f : List ℕ) → Spelt (d ++ 46 ∷ f) d f

-- such a number from a place on
pub record SpelledFrom (text : List ℕ) (start : ℕ) (r : Spelled) : Type 0 where
  pub front : List ℕ
  pub d : List ℕ
  pub f : List ℕ
  pub form : Spelt front d f
  pub split : drop start text ≡ front ++ drop r.stop text
  pub long : r.stop ≡ start + length front
  pub first : all_digits d ≡ true
  pub second : all_digits f ≡ true
  pub value : r.v ≡ value_from (value_from 0 d) f
  pub small : r.v < large
  pub count : r.count ≡ length d + length f
  pub behind : r.behind ≡ length f

-- a minus, or none, in front of where digits start; '-' is 45
abbrev pub sign_text : Bool → List ℕ
sign_text minus = cond minus (45 ∷ []) []

pub record SignFrom (text : List ℕ) (at start : ℕ) (minus : Bool) : Type 0 where
  pub split : drop at text ≡ sign_text minus ++ drop start text
  pub long : start ≡ at + length (sign_text minus)

-- a line that holds a value alone is the one that starts at a place
abbrev pub AloneAt : List ℕ → ℕ → Option Held → Type 0
AloneAt text at (Some held) = held ≡ held_at text at
AloneAt text at None = Unit
