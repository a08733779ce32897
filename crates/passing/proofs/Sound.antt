-- A file of which no line is at fault, line by line. Assumes nothing.
use Prim.Native.Nat.{ℕ, suc, ◌-◌}
use mathlib.Core.Bool.{Bool, true, false, cond, true≢false}
use mathlib.Core.List.{List, [], ◌∷◌}
use mathlib.Core.Path.{◌≡◌, refl, sym, ap}
use lib.ListN.{length, take, drop}
use Rattle.text.specs.Lines.{lines_of}
use Rattle.text.specs.Marks.{mark_of}
use Rattle.text.specs.declared.Line.{Line}
use Rattle.text.proofs.Cut.{LineAt}
use Rattle.shape.specs.declared.Edition.{Edition}
use Rattle.places.specs.Places.{fresh}
use Rattle.places.specs.declared.Found.{Found}
use Rattle.places.specs.declared.Found.TheVariants.{Nothing, Row, Definition, Fault as FoundFault}
use Rattle.places.specs.declared.State.{State}
use Rattle.grammar.specs.Steps.{step_of}
use Rattle.file.specs.Whole.{Verdict, ended, stopped, is_fault, judged, verdict_from, verdict_of}
use Rattle.file.specs.Rows.{answer_of, rows_of, scanned_of}
use Rattle.std.proofs.Common.{Err, Ok}
use Rattle.file.specs.Outcome.{Scanned, File}
use Rattle.passing.specs.Sound.{sound_from, sound_of}
use Rattle.passing.specs.Passing.{passes_of}
use Rattle.passing.proofs.Over.{Over, passed_over}

-- ---- the first line that is left, and the lines behind it
-- the line that starts at a place
abbrev here : List ℕ → ℕ → Line → List ℕ
here file at r = take (r.stop - at) (drop at file)

module _ {file : List ℕ} {at : ℕ} {r : Line} (l : LineAt file at r) (st : State) (n : ℕ) (sound : sound_from st n (lines_of (drop at file)) ≡ true) where
  both : (is_fault (step_of st n (here file at r)).found ≡ false) × (sound_from (step_of st n (here file at r)).next (suc n) (lines_of (drop r.next file)) ≡ true)
  unfolding sound_from
  both = go (is_fault (step_of st n (here file at r)).found) refl (rw l.line at sound)
    where
      go : (b : Bool) → is_fault (step_of st n (here file at r)).found ≡ b → cond b false (sound_from (step_of st n (here file at r)).next (suc n) (lines_of (drop r.next file))) ≡ true
          → (is_fault (step_of st n (here file at r)).found ≡ false) × (sound_from (step_of st n (here file at r)).next (suc n) (lines_of (drop r.next file)) ≡ true)
      go true e h = absurd (true≢false (sym h))
      go false e h = (e, h)

  pub sound-here : is_fault (step_of st n (here file at r)).found ≡ false
  sound-here = both.0

  pub sound-next : sound_from (step_of st n (here file at r)).next (suc n) (lines_of (drop r.next file)) ≡ true
  sound-next = both.1

  -- one that is passed over
  module _ (p : passes_of st.place (mark_of (here file at r)) ≡ true) where
    pub sound-over : Over st (step_of st n (here file at r))
    sound-over = passed_over st n (here file at r) p sound-here

    pub sound-behind : sound_from st (suc n) (lines_of (drop r.next file)) ≡ true
    sound-behind = rw sound-over.next at sound-next

-- ---- a file that was read line by line without a fault
abbrev is_ended : Verdict → Bool
is_ended (ended st) = true
is_ended (stopped fault n) = false

abbrev is_file : Scanned → Bool
is_file (Ok got) = true
is_file (Err why) = false

ended-sound : (st : State) (n : ℕ) (ls : List (List ℕ)) → is_ended (verdict_from st n ls) ≡ true → sound_from st n ls ≡ true
unfolding verdict_from sound_from judged is_fault
ended-sound st n [] e = refl
ended-sound st n (l ∷ ls) e = go (step_of st n l).found e (ended-sound (step_of st n l).next (suc n) ls)
  where
    rest : Verdict
    rest = verdict_from (step_of st n l).next (suc n) ls

    go : (f : Found) → is_ended (judged f n rest) ≡ true → (is_ended rest ≡ true → sound_from (step_of st n l).next (suc n) ls ≡ true)
        → cond (is_fault f) false (sound_from (step_of st n l).next (suc n) ls) ≡ true
    go Nothing e next = next e
    go Row e next = next e
    go Definition e next = next e
    go (FoundFault fault) e next = absurd (true≢false (sym e))

ended-file : (v : Verdict) (rows : ℕ) → is_file (answer_of v rows) ≡ true → is_ended v ≡ true
unfolding answer_of
ended-file (ended st) rows e = refl
ended-file (stopped fault n) rows e = absurd (true≢false (sym e))

pub sound-scanned : (file : List ℕ) {edition : Edition} {rows samples : ℕ} {defined : Bool} → File edition rows samples defined ≡ scanned_of file → sound_of file ≡ true
unfolding scanned_of sound_of verdict_of
sound-scanned file e = ended-sound fresh 1 (lines_of file) (ended-file (verdict_from fresh 1 (lines_of file)) (length (rows_of file)) (sym (ap is_file e)))
