-- `grammar::plain_step` meets its contract: each place by its own case. Assumes nothing.
use Rattle.grammar.specs.Steps.{plain_step}
use Rattle.places.proofs.Answers.{told}
use Rattle.grammar.proofs.Answers.{count-told}
use Rattle.signed.proofs.Machine.{rd-at}
use Prim.Native.Nat.{◌<◌, ◌^◌}
use lib.Signed.{mag}
use borrow.Author.Rules.{rules}
use Rattle.grammar.proofs.plain_step.Goals as goal

pub returns-in-Start : goal.returns-in-Start
unfolding plain_step
returns-in-Start c = told (plain_step _ _ _) c.refused.ensures c.before.in-Start.is

pub returns-in-Version : goal.returns-in-Version
unfolding plain_step
returns-in-Version c = told (plain_step _ _ _) c.version_step.ensures c.before.before.in-Version.is

pub returns-in-Section : goal.returns-in-Section
unfolding plain_step
returns-in-Section c = told (plain_step _ _ _) c.lines_step.ensures c.before.before.in-Section.is

pub returns-in-Extensions : goal.returns-in-Extensions
unfolding plain_step
returns-in-Extensions c = told (plain_step _ _ _) c.extensions_step.ensures c.before.before.in-Extensions.is

pub returns-in-Head : goal.returns-in-Head
unfolding plain_step
returns-in-Head c = let m : mag c.before.before.in-Head.id < 2 ^ 63 = search rules in
    count-told _ _ _ _ _ _ _ _ c.count_step.ensures (rd-at _ m) c.before.before.in-Head.is

pub returns-in-Values : goal.returns-in-Values
unfolding plain_step
returns-in-Values c = told (plain_step _ _ _) c.value_step.ensures c.before.in-Values.is

pub returns-in-Signature : goal.returns-in-Signature
unfolding plain_step
returns-in-Signature c = told (plain_step _ _ _) c.went.ensures c.before.in-Signature.is
