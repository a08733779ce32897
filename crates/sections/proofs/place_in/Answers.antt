-- `sections::place_in` meets its contract: each section by its number, the last by none of the others. Assumes nothing.
use native.Mathlib.Omega.{arith}
use mathlib.Core.Path.{sym, ap}
use Rattle.sections.specs.Sections.{place_in}
use Rattle.sections.proofs.Sections.{place-last}
use Rattle.sections.proofs.place_in.Goals as goal

pub returns-in-2 : goal.returns-in-2
unfolding place_in
returns-in-2 c = sym (ap place_in c.in-2.is)

pub returns-in-3 : goal.returns-in-3
unfolding place_in
returns-in-3 c = sym (ap place_in c.in-3.is)

pub returns-in-4 : goal.returns-in-4
unfolding place_in
returns-in-4 c = sym (ap place_in c.in-4.is)

pub returns-in-5 : goal.returns-in-5
unfolding place_in
returns-in-5 c = sym (ap place_in c.in-5.is)

pub returns-in-6 : goal.returns-in-6
unfolding place_in
returns-in-6 c = sym (ap place_in c.in-6.is)

pub returns-in-7 : goal.returns-in-7
unfolding place_in
returns-in-7 c = sym (ap place_in c.in-7.is)

pub returns-in-8 : goal.returns-in-8
unfolding place_in
returns-in-8 c = sym (ap place_in c.in-8.is)

pub returns-in-9 : goal.returns-in-9
unfolding place_in
returns-in-9 c = sym (ap place_in c.in-9.is)

pub returns-in-10 : goal.returns-in-10
unfolding place_in
returns-in-10 c = sym (ap place_in c.in-10.is)

pub returns-in_default : goal.returns-in_default
returns-in_default c = place-last _ (omega arith) (omega arith) (omega arith) (omega arith) (omega arith) (omega arith) (omega arith) (omega arith) (omega arith)
