-- `extension_text::put_listed` meets its contract. Assumes nothing.
use Rattle.std.proofs.Common.{arith, rules}
use Rattle.std.proofs.lemmas.Int.{ints}
use Rattle.output.proofs.Over.{put-none}
use Rattle.extension_text.proofs.Listing.{listed-entry, listed-extension, listed-trigger, listed-label, listed-none}
use Rattle.extension_text.proofs.put_listed.Goals as goal

pub returns-in-7 : goal.returns-in-7
returns-in-7 c = rw (← listed-entry _ _ _ _ c.number.ensures (search rules) _ c.numbers_at.ensures) c.put_line.ensures

pub returns-in-8 : goal.returns-in-8
returns-in-8 c = rw (← listed-extension _ _ _ _ c.number.ensures (search rules)) c.put_extension.ensures

pub returns-in-9 : goal.returns-in-9
returns-in-9 c = rw (← listed-trigger _ _ _ _ c.number.ensures (search rules) _ c.numbers_at-in-9.ensures) c.put_line-in-9.ensures

pub returns-in-10 : goal.returns-in-10
returns-in-10 c = rw (← listed-label _ _ _ _ c.number.ensures (search rules)) c.put_label.ensures

pub returns-in_default : goal.returns-in_default
returns-in_default c =
    rw (← listed-none _ _ _ _ c.number.ensures (λ e. omega (arith, ints)) (λ e. omega (arith, ints)) (λ e. omega (arith, ints)) (λ e. omega (arith, ints))) (put-none (omega arith) (omega arith))
