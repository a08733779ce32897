-- `file::Walk::read` meets its contract: the line is read where it stands. Assumes nothing.
use mathlib.Core.Path.{◌≡◌, refl, ap}
use native.Mathlib.Numerals.{add-one}
use native.Mathlib.Omega.{arith}
use Rattle.text.specs.Lines.{line_at}
use Rattle.grammar.specs.Steps.{read_at}
use Rattle.grammar.proofs.ReadLines.{read-did}
use Rattle.file.proofs.Walk.read.Goals as goal

pub returns : goal.returns
unfolding read_at
returns c =
    let p = rw add-one at c.read_line-read.ensures in
    let next : c.read_line-read.result.next ≡ (line_at c.args.file.now c.args.self.now.at).next = rw p in
    record { more = omega arith; cut = refl; gave = read-did _ _ _ _ _ p; behind = rw (next, add-one) }
