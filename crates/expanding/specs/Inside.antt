-- What the inner functions answer. Nothing here needs to be believed: laws lead from these to the definitions of the other files.
use Rattle.shape.specs.Answers.{Expanded}
use Rattle.shape.specs.declared.Unexpanded.TheVariants.{Shape, Field}
use Rattle.std.specs.Prelude.{ℕ, ◌+◌, ◌*◌, ◌≤◌, ◌<◌, Bool, true, false, cond, List, [], ◌∷◌, ◌≡◌, eqb, ℤ, length, take, drop, set, None, Option, Some, Ok, Err}
use Rattle.numeral.specs.declared.Decimal.{Decimal}
use Rattle.text.specs.Lines.{lines_of}
use Rattle.text.specs.Marks.{mark_of}
use Rattle.text.specs.declared.Mark.{Mark}
use Rattle.text.specs.declared.Mark.TheVariants.{Blank, Comment, Section, Plain}
use Rattle.shape.specs.Stored.{all_sound, values_of, values_at}
use Rattle.expanding.specs.Expand.{Trace, done, fault, next, repeated, fresh_of, repeat_of, pair_of, sums_of, samples_in, expansion_of}
use Rattle.expanding.specs.Alone.{expanded_of}
use Rattle.shape.specs.declared.Edition.{Edition}
use Rattle.expanding.specs.declared.Next.{Next}
use Rattle.expanding.specs.declared.Next.TheVariants.{Value, End, Bad as NextBad}
use Rattle.expanding.specs.declared.State.{State}
use Rattle.expanding.specs.declared.State.TheVariants.{Fresh, Repeat, Done, Bad}

-- ---- How many values lines hold that are not at fault: one each, but for comments
abbrev pub mark_holds : Mark → ℕ
mark_holds Blank = 1
mark_holds Comment = 0
mark_holds Section = 1
mark_holds Plain = 1

unfoldable pub lines_hold : List (List ℕ) → ℕ
lines_hold [] = 0
lines_hold (l ∷ ls) = mark_holds (mark_of l) + lines_hold ls

-- ---- Lines left in a text
-- none from a place on is at fault
abbrev pub sound_at : List ℕ → ℕ → Bool
sound_at text from = all_sound (lines_of (drop from text))

-- the next value d, with the place behind its line
pub record ValueAt (text : List ℕ) (from : ℕ) (d : Decimal) (behind : ℕ) : Type 0 where
  pub further : from < behind
  pub inside : behind ≤ length text
  pub sound : sound_at text from ≡ sound_at text behind
  pub values : values_at text from ≡ d ∷ values_at text behind

-- no value any more
pub record EndAt (text : List ℕ) (from : ℕ) : Type 0 where
  pub sound : sound_at text from ≡ true
  pub values : values_at text from ≡ []

abbrev pub NextIs : List ℕ → ℕ → Next → Type 0
NextIs text from (Value d behind) = ValueAt text from d behind
NextIs text from End = EndAt text from
NextIs text from NextBad = sound_at text from ≡ false

-- ---- What comes of samples that are laid over a table from a place on: the table, if they end well and at num
pub data Verdict : Type 0 where
  good : List ℤ → Verdict
  bad : Verdict

unfoldable pub judged : ℕ → List ℤ → ℕ → Trace ℤ → Verdict
judged num l at done = cond (eqb at num) (good l) bad
judged num l at fault = bad
judged num l at (next z t) = judged num (set l at z) (at + 1) t

-- the same, but bad where a line is at fault
unfoldable pub soundly : Bool → Verdict → Verdict
soundly true v = v
soundly false v = bad

-- what a flag and a table say
unfoldable pub told : Bool → List ℤ → Verdict
told true l = good l
told false l = bad

-- what comes of a run of n values, whatever follows
unfoldable pub ran_to : ℕ → List ℤ → ℕ → Option ℤ → Trace Decimal → Verdict
ran_to num l at (Some s) t = judged num l at (sums_of s t)
ran_to num l at None t = bad

pub record Ran (num : ℕ) (l m : List ℤ) (at n : ℕ) (sum : ℤ) (d : Decimal) (r : Option ℤ) : Type 0 where
  pub same : (t : Trace Decimal) → judged num l at (sums_of sum (repeated n d t)) ≡ ran_to num m (at + n) r t
  pub fits : (s : ℤ) → r ≡ Some s → at + n ≤ num

-- ---- What comes of a state
unfoldable pub resume : List ℕ → ℕ → List ℤ → State → Verdict
resume text num l (Fresh from at sum value) =
    soundly (sound_at text from) (judged num l at (sums_of sum (fresh_of (value ∷ values_at text from))))
resume text num l (Repeat from at sum last) =
    soundly (sound_at text from) (judged num l at (sums_of sum (repeat_of last (values_at text from))))
resume text num l (Done at) = cond (eqb at num) (good l) bad
resume text num l Bad = bad

-- how much is left: the stored values, and which of the two functions stands
unfoldable pub weight : List ℕ → State → ℕ
weight text (Fresh from at sum value) = 2 + 2 * length (values_at text from)
weight text (Repeat from at sum last) = 1 + 2 * length (values_at text from)
weight text (Done at) = 0
weight text Bad = 0

-- what each function asks of a state: no more samples than are due, and a sum within the limits
unfoldable pub Ready : ℕ → State → Type 0
Ready num (Fresh from at sum value) = at ≤ num
Ready num (Repeat from at sum last) = at ≤ num
Ready num (Done at) = Unit
Ready num Bad = Unit

-- where the next value is fresh: the state that it makes
pub record Begun (text : List ℕ) (from at : ℕ) (sum : ℤ) (r : State) : Type 0 where
  pub same : (num : ℕ) (l : List ℤ) → resume text num l r ≡ soundly (sound_at text from) (judged num l at (sums_of sum (fresh_of (values_at text from))))
  pub less : weight text r ≤ 2 * length (values_at text from)
  pub ready : (num : ℕ) → at ≤ num → Ready num r

-- from one state and table to another
pub record Went (text : List ℕ) (num : ℕ) (l m : List ℤ) (s r : State) : Type 0 where
  pub same : resume text num m r ≡ resume text num l s
  pub less : weight text r < weight text s
  pub ready : Ready num r

-- behind a pair of equal values d, whose second is not laid yet
pub record PairWent (text : List ℕ) (num : ℕ) (l m : List ℤ) (from at : ℕ) (sum : ℤ) (d : Decimal) (r : State) : Type 0 where
  pub same : resume text num m r ≡ soundly (sound_at text from) (judged num l at (sums_of sum (next d (pair_of d (values_at text from)))))
  pub less : weight text r < 3 + 2 * length (values_at text from)
  pub ready : Ready num r

-- ---- Why lines are refused that were not laid, by their count
unfoldable pub refusal_of : Option ℕ → Expanded
refusal_of (Some n) = Err Shape
refusal_of None = Err Field

-- n samples zs, as many as declared, stand at the front of a table
pub record Laid (n num : ℕ) (m : List ℤ) (zs : List ℤ) : Type 0 where
  pub count : n ≡ num
  pub many : length zs ≡ num
  pub front : take num m ≡ zs

-- ---- All of it, before what was lent is cleared: the answer, and that the samples stand in the table where there are any
pub record LaidAll (edition : Edition) (num : ℕ) (text : List ℕ) (l m : List ℤ) (r : Expanded) : Type 0 where
  pub answer : r ≡ expanded_of edition num text (length l)
  pub laid : (n : ℕ) → r ≡ Ok n → Laid n num m (samples_in (expansion_of edition num (values_of text)))
