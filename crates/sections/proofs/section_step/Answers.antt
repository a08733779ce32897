-- `sections::section_step` meets its contract: each place by its own case. Assumes nothing.
use Prim.Native.Nat.{ℕ}
use mathlib.Core.List.{List}
use mathlib.Core.Path.{◌≡◌, ap, ◌∙◌}
use Rattle.places.specs.declared.State.{State}
use Rattle.places.specs.declared.Stepped.{Stepped}
use Rattle.sections.specs.Sections.{section_no}
use Rattle.sections.specs.Entering.{section_at, section_step}
use Rattle.places.proofs.Answers.{told}
use Rattle.sections.proofs.section_step.Goals as goal

-- the section that the line names, which is known
known : (st : State) (line : List ℕ) (k : ℕ) {r : Stepped} → k ≡ section_no line → r ≡ section_at st k st.place → r ≡ section_step st line
unfolding section_step
known st line k e h = h ∙ ap (λ (m : ℕ). section_at st m st.place) e

pub returns-in-Start : goal.returns-in-Start
unfolding section_at
returns-in-Start c = known _ _ _ c.section_no-k.ensures (told (section_at _ _) c.first_section.ensures c.before.in-Start.is)

pub returns-in-Version : goal.returns-in-Version
unfolding section_at
returns-in-Version c = known _ _ _ c.section_no-k.ensures (told (section_at _ _) c.refused.ensures c.before.in-Version.is)

pub returns-in-Section : goal.returns-in-Section
unfolding section_at
returns-in-Section c = known _ _ _ c.section_no-k.ensures (told (section_at _ _) c.enter.ensures c.before.in-Section.is)

pub returns-in-Extensions : goal.returns-in-Extensions
unfolding section_at
returns-in-Extensions c = known _ _ _ c.section_no-k.ensures (told (section_at _ _) c.enter-in-Extensions.ensures c.before.in-Extensions.is)

pub returns-in-Head : goal.returns-in-Head
unfolding section_at
returns-in-Head c = known _ _ _ c.section_no-k.ensures (told (section_at _ _) c.early_section.ensures c.before.in-Head.is)

pub returns-in-Values : goal.returns-in-Values
unfolding section_at
returns-in-Values c = known _ _ _ c.section_no-k.ensures (told (section_at _ _) c.enter-in-Values.ensures c.before.in-Values.is)

pub returns-in-Signature : goal.returns-in-Signature
unfolding section_at
returns-in-Signature c = known _ _ _ c.section_no-k.ensures (told (section_at _ _) c.refused-in-Signature.ensures c.before.in-Signature.is)
