-- `columns::form_number` meets its contract: the number of each form. Assumes nothing.
use mathlib.Core.Path.{◌≡◌}
use lib.IntN.{pos}
use Rattle.columns.specs.Columns.{form_number}
use Rattle.columns.specs.declared.Form.{Form}
use Rattle.columns.proofs.form_number.Goals as goal

numbered : (f g : Form) → f ≡ g → pos (form_number g) ≡ pos (form_number f)
numbered f g e = rw e

pub returns-in-Block : goal.returns-in-Block
returns-in-Block c = numbered _ _ c.in-Block.is

pub returns-in-Rf : goal.returns-in-Rf
returns-in-Rf c = numbered _ _ c.in-Rf.is

pub returns-in-Gradient : goal.returns-in-Gradient
returns-in-Gradient c = numbered _ _ c.in-Gradient.is

pub returns-in-Trap : goal.returns-in-Trap
returns-in-Trap c = numbered _ _ c.in-Trap.is

pub returns-in-Adc : goal.returns-in-Adc
returns-in-Adc c = numbered _ _ c.in-Adc.is

pub returns-in-Delay : goal.returns-in-Delay
returns-in-Delay c = numbered _ _ c.in-Delay.is

pub returns-in-Entry : goal.returns-in-Entry
returns-in-Entry c = numbered _ _ c.in-Entry.is

pub returns-in-Trigger : goal.returns-in-Trigger
returns-in-Trigger c = numbered _ _ c.in-Trigger.is
