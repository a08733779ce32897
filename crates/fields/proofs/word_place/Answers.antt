-- `fields::word_place` meets its contract. Assumes nothing.
use Rattle.std.proofs.Common.{arith}
use mathlib.Core.Logic.{inl}
use Rattle.std.proofs.Common.{◌∙◌, add-one, rules, tests}
use Rattle.std.proofs.lemmas.Iterator.Search.{position_from_yields_List}
use Rattle.std.proofs.lemmas.Iterator.Adapters.{position_from-zero}
use Rattle.fields.specs.Fields.{fields_of}
use Rattle.fields.proofs.Walking.{fields-few, walked, place-is}
use Rattle.text.specs.Words.{same_bytes}
use Rattle.fields.proofs.word_place.Goals as goal

pub position-requires-clause-fits : goal.position-requires-clause-fits
position-requires-clause-fits c = inl (omega (arith, fields-few c.args.words.now))

pub overflow_add-result : goal.overflow_add-result
overflow_add-result c = omega (arith, fields-few c.args.words.now, c.in-Some.ensures.bound)

pub returns-in-None : goal.returns-in-None
returns-in-None c =
    let w = c.args.word.now in
    let vs = fields_of c.args.words.now in
    let e = position_from_yields_List (λ v. same_bytes v w) c.position.new.self _ c.position.result c.position.ensures.ran (walked _) (λ x b q k. search (rules, tests)) in
    place-is vs w c.position.result _ (e ∙ position_from-zero (λ v. same_bytes v w) vs) c.in-None.is

pub returns-in-Some : goal.returns-in-Some
returns-in-Some c =
    let w = c.args.word.now in
    let vs = fields_of c.args.words.now in
    let e = position_from_yields_List (λ v. same_bytes v w) c.position.new.self _ c.position.result c.position.ensures.ran (walked _) (λ x b q k. search (rules, tests)) in
    rw add-one (place-is vs w c.position.result _ (e ∙ position_from-zero (λ v. same_bytes v w) vs) c.in-Some.is)
