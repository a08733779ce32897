-- `fields::field` meets its contract. Assumes nothing.
use Rattle.std.proofs.Common.{refl}
use Rattle.std.proofs.lemmas.Iterator.Consumers.{nth_from_yields_List}
use Rattle.fields.specs.Fields.{fields_of}
use Rattle.fields.proofs.Walking.{walked, kth}
use Rattle.fields.proofs.field.Goals as goal

pub returns : goal.returns
returns c =
    let e = nth_from_yields_List c.nth.result c.nth.new.self c.args.k c.nth.ensures.ran (walked _) in
    rw c.unwrap_or.ensures (kth (fields_of c.args.line.now) c.args.k c.nth.result _ e refl)
