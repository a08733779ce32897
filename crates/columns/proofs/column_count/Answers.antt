-- `columns::column_count` meets its contract: so many of each form. Assumes nothing.
use mathlib.Core.Path.{refl}
use Rattle.columns.specs.Columns.{columns_of}
use Rattle.columns.specs.declared.Form.TheVariants.{Block, Rf, Gradient, Trap, Adc, Delay, Entry, Trigger}
use Rattle.columns.proofs.Columns.{counted}
use Rattle.columns.proofs.column_count.Goals as goal

pub returns-in-Block : goal.returns-in-Block
unfolding columns_of
returns-in-Block c = counted _ Block _ _ c.in-Block.is refl

pub returns-in-Rf : goal.returns-in-Rf
unfolding columns_of
returns-in-Rf c = counted _ Rf _ _ c.in-Rf.is refl

pub returns-in-Gradient : goal.returns-in-Gradient
unfolding columns_of
returns-in-Gradient c = counted _ Gradient _ _ c.in-Gradient.is refl

pub returns-in-Trap : goal.returns-in-Trap
unfolding columns_of
returns-in-Trap c = counted _ Trap _ _ c.in-Trap.is refl

pub returns-in-Adc : goal.returns-in-Adc
unfolding columns_of
returns-in-Adc c = counted _ Adc _ _ c.in-Adc.is refl

pub returns-in-Delay : goal.returns-in-Delay
unfolding columns_of
returns-in-Delay c = counted _ Delay _ _ c.in-Delay.is refl

pub returns-in-Entry : goal.returns-in-Entry
unfolding columns_of
returns-in-Entry c = counted _ Entry _ _ c.in-Entry.is refl

pub returns-in-Trigger : goal.returns-in-Trigger
unfolding columns_of
returns-in-Trigger c = counted _ Trigger _ _ c.in-Trigger.is refl
