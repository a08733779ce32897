-- `section_text::put_delays`: what was written and the rows that are left make up the text, and how many durations are used so far (`DelaysPut`). Assumes nothing.
use Rattle.section_text.proofs.Putting.{DelaysPut}
use Rattle.section_text.proofs.put_delays.Given as goal

abbrev pub invariant-loop-k : goal.invariant-loop-k
invariant-loop-k l = DelaysPut l.uses.rows.now l.uses.n l.initial.out l.at l.place l.out l.used l.k
