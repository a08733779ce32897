-- `text::breaks_line` meets its contract. Assumes nothing.
use Rattle.std.proofs.Common.{◌≡◌, refl, arith}
use Rattle.std.proofs.lemmas.Grind.{common_steps}
use Rattle.std.proofs.lemmas.Bool.Decides.{nat_tests}
use denote.Enum.Bare.{sameb}
use Rattle.text.specs.contracts.Mark.{the_type}
use Rattle.text.specs.declared.Mark.{Mark}
use Rattle.text.specs.declared.Mark.TheVariants.{Blank, Comment, Section, Plain}
use Rattle.text.specs.Marks.{is_comment, breaks_line}
use Rattle.text.proofs.breaks_line.Goals as goal

is-comment : (m : Mark) → sameb the_type m Comment ≡ is_comment m
unfolding is_comment
is-comment Blank = refl
is-comment Comment = refl
is-comment Section = refl
is-comment Plain = refl

pub returns-then-line-gt-LONGEST : goal.returns-then-line-gt-LONGEST
unfolding breaks_line
returns-then-line-gt-LONGEST c = grind (arith, common_steps, nat_tests)

pub returns-then-ne : goal.returns-then-ne
unfolding breaks_line
returns-then-ne c = let e = is-comment c.mark_of.result in grind (arith, common_steps, nat_tests)

pub returns-else-ne : goal.returns-else-ne
unfolding breaks_line
returns-else-ne c = let e = is-comment c.mark_of.result in grind (arith, common_steps, nat_tests)
