-- `grammar::read_stored` meets its contract: a value at once where the file stands among values, else the line cut off. Assumes nothing.
use Rattle.grammar.proofs.ReadLines.{read-value}
use Rattle.grammar.proofs.read_stored.Goals as goal

pub returns-in-Value : goal.returns-in-Value
returns-in-Value c =
    let h = c.before.before.before in
    read-value h.args.st _ _ _ h.before.in-Values.is _ h.item_at-held.ensures _ c.before.in-Value.is _ c.went-did.ensures
