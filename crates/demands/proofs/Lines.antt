-- No line is at fault exactly when reading them all comes to the end of the file. Assumes nothing.
use Prim.Native.Nat.{ℕ, suc}
use mathlib.Core.Bool.{Bool, true, false, true≢false}
use mathlib.Core.List.{List, [], ◌∷◌}
use mathlib.Core.Path.{◌≡◌, refl, sym, ap, ◌∙◌, subst}
use Rattle.text.specs.Lines.{lines_of}
use Rattle.places.specs.Places.{fresh, ending_of}
use Rattle.places.specs.declared.Found.{Found}
use Rattle.places.specs.declared.Found.TheVariants.{Nothing, Row, Definition, Fault as FoundFault}
use Rattle.places.specs.declared.State.{State}
use Rattle.grammar.specs.Steps.{step_of}
use Rattle.file.specs.Whole.{Verdict, ended, stopped, judged, verdict_from, verdict_of, is_fault}
use Rattle.demands.specs.Keeping.{Runs, at-end, one_line}

-- ---- a verdict that comes to an end
abbrev state_of : Verdict → State → State
state_of (ended st) other = st
state_of (stopped fault n) other = other

abbrev is_ended : Verdict → Bool
is_ended (ended st) = true
is_ended (stopped fault n) = false

judged-on : (found : Found) (n : ℕ) (v : Verdict) → is_fault found ≡ false → judged found n v ≡ v
unfolding judged is_fault
judged-on Nothing n v e = refl
judged-on Row n v e = refl
judged-on Definition n v e = refl
judged-on (FoundFault fault) n v e = absurd (true≢false e)

-- what was judged came to an end: it was no fault, and what was behind it ends
judged-ends : (found : Found) (n : ℕ) (v : Verdict) (end : State) → judged found n v ≡ ended end → (is_fault found ≡ false) × (v ≡ ended end)
unfolding judged is_fault
judged-ends Nothing n v end e = (refl, e)
judged-ends Row n v end e = (refl, e)
judged-ends Definition n v end e = (refl, e)
judged-ends (FoundFault fault) n v end e = absurd (true≢false (sym (ap is_ended e)))

runs-end : {st end : State} {n : ℕ} {ls : List (List ℕ)} → Runs st n ls end → verdict_from st n ls ≡ ended end
unfolding verdict_from
runs-end (at-end e) = judged-on _ 0 _ e
runs-end (one_line e r) = judged-on _ _ _ e ∙ runs-end r

end-runs : (st end : State) (n : ℕ) (ls : List (List ℕ)) → verdict_from st n ls ≡ ended end → Runs st n ls end
unfolding verdict_from
end-runs st end n [] e =
    let j = judged-ends (ending_of st.place) 0 (ended st) end e in
    let same : st ≡ end = ap (λ (v : Verdict). state_of v st) j.1 in
    subst (λ (x : State). Runs st n [] x) same (at-end j.0)
end-runs st end n (l ∷ ls) e =
    let j = judged-ends (step_of st n l).found n _ end e in
    one_line j.0 (end-runs (step_of st n l).next end (suc n) ls j.1)

-- ---- the same of a whole file
module _ (file : List ℕ) where
  pub runs-verdict : {end : State} → Runs fresh 1 (lines_of file) end → verdict_of file ≡ ended end
  unfolding verdict_of
  runs-verdict r = runs-end r

  pub verdict-runs : (end : State) → verdict_of file ≡ ended end → Runs fresh 1 (lines_of file) end
  unfolding verdict_of
  verdict-runs end e = end-runs fresh end 1 (lines_of file) e
