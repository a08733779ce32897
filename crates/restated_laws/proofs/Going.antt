-- Lines that are read one after another without a fault: what they give, whatever follows them. Assumes nothing.
use Prim.Native.Nat.{ℕ, suc}
use mathlib.Core.Bool.{false, true≢false}
use mathlib.Core.List.{List, [], ◌∷◌, ◌++◌, append_assoc}
use mathlib.Core.Path.{◌≡◌, refl, ◌∙◌}
use lib.IntN.{ℤ}
use Rattle.text.specs.Lines.{lines_of}
use Rattle.text.proofs.Lines.{OneLine, lines-line}
use Rattle.places.specs.Places.{went_of}
use Rattle.places.specs.declared.Found.{Found}
use Rattle.places.specs.declared.Found.TheVariants.{Nothing, Row, Definition as FoundDefinition, Fault}
use Rattle.places.specs.declared.State.{State}
use Rattle.grammar.specs.Definitions.{key_of, value_of}
use Rattle.grammar.specs.Steps.{defined_of, gave_of, step_of}
use Rattle.file.specs.Whole.{Verdict, judged, verdict_from, is_fault, is_row, is_defined, gathered}
use Rattle.file.specs.Rows.{Placed, row_at, rows_from}
use Rattle.definitions.specs.Definitions.{Definition, definition_at, definitions_from}

-- ---- A text of whole lines that is read from a state, its first line being line n: the rows and the definitions that it gives, the state that it
-- leads to, and the number of the next line
pub data Goes : State → ℕ → List ℕ → List Placed → List Definition → State → ℕ → Type 0 where
  goes_none : {st : State} {n : ℕ} → Goes st n [] [] [] st n
  goes-line : {st end : State} {n m : ℕ} {t : List ℕ} {rs : List Placed} {ds : List Definition} (l : List ℕ) → OneLine l → is_fault (step_of st n l).found ≡ false
      → Goes (step_of st n l).next (suc n) t rs ds end m
      → Goes st n (l ++ (10 ∷ t)) (row_at n l (step_of st n l) ++ rs) (definition_at n l (step_of st n l) ++ ds) end m

pub goes_then : {st mid end : State} {n k m : ℕ} {s t : List ℕ} {rs rs' : List Placed} {ds ds' : List Definition} → Goes st n s rs ds mid k → Goes mid k t rs' ds' end m
    → Goes st n (s ++ t) (rs ++ rs') (ds ++ ds') end m
goes_then goes_none q = q
goes_then (goes-line l o f p) q = rw (append_assoc, append_assoc, append_assoc) (goes-line l o f (goes_then p q))

-- ---- one line
module _ {st next : State} {n : ℕ} (l : List ℕ) (o : OneLine l) where
  pub goes-went : step_of st n l ≡ went_of next → Goes st n (l ++ (10 ∷ [])) [] [] next (suc n)
  unfolding is_fault row_at is_row definition_at is_defined
  goes-went e = rw e at (goes-line {st = st} {n = n} l o (rw e) goes_none)

  pub goes-row : (line : ℕ) (cells : List ℤ) → step_of st n l ≡ gave_of next line cells → Goes st n (l ++ (10 ∷ [])) (record { line = line; cells = cells } ∷ []) [] next (suc n)
  unfolding is_fault row_at is_row definition_at is_defined
  goes-row line cells e = rw e at (goes-line {st = st} {n = n} l o (rw e) goes_none)

  pub goes-defined : step_of st n l ≡ defined_of next → Goes st n (l ++ (10 ∷ [])) [] (record { line = n; key = key_of l; value = value_of l } ∷ []) next (suc n)
  unfolding is_fault row_at is_row definition_at is_defined
  goes-defined e = rw e at (goes-line {st = st} {n = n} l o (rw e) goes_none)

-- ---- What is read of such a text and of what follows it
judged-on : (f : Found) (n : ℕ) (rest : Verdict) → is_fault f ≡ false → judged f n rest ≡ rest
unfolding is_fault judged
judged-on Nothing n rest e = refl
judged-on Row n rest e = refl
judged-on FoundDefinition n rest e = refl
judged-on (Fault f) n rest e = absurd (true≢false e)

module _ (rest : List ℕ) where
  pub goes-verdict : {st end : State} {n m : ℕ} {t : List ℕ} {rs : List Placed} {ds : List Definition} → Goes st n t rs ds end m
      → verdict_from st n (lines_of (t ++ rest)) ≡ verdict_from end m (lines_of rest)
  unfolding verdict_from
  goes-verdict goes_none = refl
  goes-verdict (goes-line {st} {n = n} {t = t} l o f p) =
      rw (append_assoc, lines-line (t ++ rest) o) (judged-on (step_of st n l).found n _ f ∙ goes-verdict p)

  pub goes-rows : {st end : State} {n m : ℕ} {t : List ℕ} {rs : List Placed} {ds : List Definition} → Goes st n t rs ds end m
      → rows_from st n (lines_of (t ++ rest)) ≡ rs ++ rows_from end m (lines_of rest)
  unfolding gathered
  goes-rows goes_none = refl
  goes-rows (goes-line {st} {n = n} {t = t} l o f p) = rw (append_assoc, lines-line (t ++ rest) o, f, append_assoc, goes-rows p)

  pub goes-definitions : {st end : State} {n m : ℕ} {t : List ℕ} {rs : List Placed} {ds : List Definition} → Goes st n t rs ds end m
      → definitions_from st n (lines_of (t ++ rest)) ≡ ds ++ definitions_from end m (lines_of rest)
  unfolding gathered
  goes-definitions goes_none = refl
  goes-definitions (goes-line {st} {n = n} {t = t} l o f p) = rw (append_assoc, lines-line (t ++ rest) o, f, append_assoc, goes-definitions p)
