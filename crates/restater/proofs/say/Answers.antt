-- `restater::say` meets its contract. Assumes nothing.
use native.Mathlib.Omega.{arith}
use Rattle.restater.proofs.Saying.{said-unsayable, said-output, said-text}
use Rattle.restater.proofs.say.Goals as goal

pub returns-then-is_unsayable : goal.returns-then-is_unsayable
returns-then-is_unsayable c = said-unsayable _ _ _ _ _ _ _ _ _ c.own_rasters-own.ensures c.site_rasters.ensures _ c.is_unsayable.ensures c.if-is_unsayable.true _

pub returns-then-out-length : goal.returns-then-out-length
returns-then-out-length c = said-output _ _ _ _ _ _ _ _ _ c.own_rasters-own.ensures c.site_rasters.ensures _ c.is_unsayable.ensures c.if-is_unsayable.false c.put_text-length.ensures (omega (arith, c.if-out-length.true))

pub returns-then-length-gt16777216 : goal.returns-then-length-gt16777216
returns-then-length-gt16777216 c = said-output _ _ _ _ _ _ _ _ _ c.own_rasters-own.ensures c.site_rasters.ensures _ c.is_unsayable.ensures c.if-is_unsayable.false c.put_text-length.ensures (omega (arith, c.if-length-gt16777216.true))

pub returns : goal.returns
returns c = said-text _ _ _ _ _ _ _ _ _ c.own_rasters-own.ensures c.site_rasters.ensures _ c.is_unsayable.ensures c.if-is_unsayable.false c.put_text-length.ensures (omega (arith, c.if-out-length.false)) (omega (arith, c.if-length-gt16777216.false))
