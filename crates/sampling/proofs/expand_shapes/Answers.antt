use Rattle.sampling.proofs.Laying.{is-new, expanding-start, expanding-fails, expanding-turn, expanding-end}
use Rattle.sampling.proofs.expand_shapes.Goals as goal

pub loop-k-init : goal.loop-k-init
loop-k-init c = expanding-start _ _ _ _ c.requires.file_value _ _ c.requires.shapes_value

pub expand_row-requires : goal.expand_row-requires
expand_row-requires c = record { file_value = c.requires.file_value; walked = c.loop-k.invariant.walked; new = is-new _ _ c.requires.none_again _ c.loop-k-test.true }

pub returns-in-None : goal.returns-in-None
returns-in-None c = expanding-fails _ _ _ _ _ _ _ _ c.loop-k.invariant c.loop-k-test.true _ _ c.expand_row.ensures c.in-None.is

pub loop-k-preserved : goal.loop-k-preserved
loop-k-preserved c = expanding-turn _ _ _ _ _ _ _ _ c.loop-k.invariant c.loop-k-test.true _ _ c.expand_row.ensures _ c.in-Some.is c.expand_row.auto.samples

pub shape_of-samples : goal.shape_of-samples
shape_of-samples c = c.loop-k.invariant.long

pub returns : goal.returns
returns c = expanding-end _ _ _ _ _ _ _ _ c.loop-k.invariant c.loop-k-test.false
