-- A set of numbers in a slice: where a number is sought, what is met on its way, and what the slice holds after it was kept.
use Rattle.std.specs.Prelude.{ℕ, zero, suc, ◌+◌, ◌*◌, ◌%◌, ◌<◌, Bool, true, false, cond, List, [], ◌∷◌, ◌≡◌, eqb, length, get_or, set}
use Rattle.sets.specs.declared.Way.{Way}
use Rattle.sets.specs.declared.Way.TheVariants.{Held as WayHeld, Free, Blocked}
use Rattle.sets.specs.declared.Kept.{Kept}
use Rattle.sets.specs.declared.Kept.TheVariants.{New, Old, Full}

-- ---- The way of a number through so many places: from its home on, place by place, and from the last place on to the first
unfoldable pub way_place : ℕ → ℕ → ℕ → ℕ
way_place long x j = (x % long + j) % long

-- the number in a slice at step j of its way; 0 is an empty place
abbrev pub cell : List ℕ → ℕ → ℕ → ℕ
cell places x j = get_or places (way_place (length places) x j) 0

abbrev pub way_steps : ℕ
way_steps = 128

-- ---- What is met first from step j on, in m steps: the number itself, or an empty place, or neither
unfoldable pub way_from : List ℕ → ℕ → ℕ → ℕ → Way
way_from places x j zero = Blocked
way_from places x j (suc m) =
    cond (eqb (cell places x j) x) WayHeld
    (cond (eqb (cell places x j) 0) (Free (way_place (length places) x j)) (way_from places x (suc j) m))

-- 0 is no number of a set, and a slice without places has no way
unfoldable pub way_of : List ℕ → ℕ → Way
way_of places x = cond (eqb x 0) Blocked (cond (eqb (length places) 0) Blocked (way_from places x 0 way_steps))

-- ---- A number that is not met is stored where its way meets an empty place first
abbrev pub kept_by : Way → Kept
kept_by WayHeld = Old
kept_by (Free at) = New
kept_by Blocked = Full

abbrev pub stored_by : List ℕ → ℕ → Way → List ℕ
stored_by places x WayHeld = places
stored_by places x (Free at) = set places at x
stored_by places x Blocked = places

unfoldable pub kept_of : List ℕ → ℕ → Kept
kept_of places x = kept_by (way_of places x)

unfoldable pub places_after : List ℕ → ℕ → List ℕ
places_after places x = stored_by places x (way_of places x)

-- ---- A set holds a number that stands on its way behind no empty place
pub record Held (places : List ℕ) (x : ℕ) : Type 0 where
  pub j : ℕ
  pub few : j < way_steps
  pub there : cell places x j ≡ x
  pub behind : (i : ℕ) → i < j → cell places x i ≡ 0 → ⊥

-- ---- What was kept, or found no place, is not new to a set
pub record Met (places : List ℕ) (x : ℕ) : Type 0 where
  pub known : kept_of places x ≡ New → ⊥

-- what is asked of a thing by its number: nothing if the number is new, since it is then like nothing before it
abbrev pub unless_new : Kept → Bool → Bool
unless_new New again = false
unless_new Old again = again
unless_new Full again = again

-- of the first k of things that have numbers, each that is asked for was met
pub record AllMet (key : ℕ → ℕ) (asked : ℕ → Bool) (places : List ℕ) (k : ℕ) : Type 0 where
  pub each : (j : ℕ) → j < k → asked j ≡ true → Met places (key j)

-- ---- One number made of two, which spreads them evenly
unfoldable pub mixed : ℕ → ℕ → ℕ
mixed a b = (a % 17592186044399 * 1000003 + b % 1000003) % 17592186044399

-- of a number and bytes, one after the other
unfoldable pub mixed_all : ℕ → List ℕ → ℕ
mixed_all h [] = h
mixed_all h (b ∷ bs) = mixed_all (mixed h b) bs

-- ---- Numbers in so many parts, by their remainders; where there are no parts, all are in each
unfoldable pub is_in : ℕ → ℕ → ℕ → Bool
is_in x parts part = cond (eqb parts 0) true (eqb (x % parts) part)
