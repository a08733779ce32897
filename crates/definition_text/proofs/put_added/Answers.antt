-- `definition_text::put_added` meets its contract. Assumes nothing.
use Rattle.std.proofs.Common.{arith}
use Rattle.output.proofs.Over.{put-none}
use Rattle.definition_text.proofs.Putting.{added_none, added-put}
use Rattle.rasters.specs.Rasters.{gradient_key, rf_key, adc_key, block_key}
use Rattle.definition_text.proofs.put_added.Goals as goal

pub returns-in-V13 : goal.returns-in-V13
returns-in-V13 c = rw (← added_none _ _ _ c.in-V13.is) (put-none (omega arith) (omega arith))

pub returns-in-V14 : goal.returns-in-V14
unfolding gradient_key rf_key adc_key block_key
returns-in-V14 c = added-put _ _ _ c.in-V14.is c.put_absent-rf.ensures c.put_absent-adc.ensures c.put_absent-block.ensures c.put_absent.ensures
