-- `columns::kinds_of` meets its contract: the number of each form and edition is computed. Assumes nothing.
use mathlib.Core.Path.{refl}
use Rattle.shape.specs.declared.Edition.TheVariants.{V13, V14}
use Rattle.columns.specs.Columns.{columns_of}
use Rattle.columns.specs.Inside.{packed}
use Rattle.columns.specs.declared.Form.TheVariants.{Block, Rf, Gradient, Trap, Adc, Delay, Entry, Trigger}
use Rattle.columns.proofs.Columns.{packed-as}
use Rattle.columns.proofs.kinds_of.Goals as goal

pub returns-in-V13 : goal.returns-in-V13
unfolding columns_of packed
returns-in-V13 c = packed-as _ V13 _ Block _ c.in-V13.is c.in-Block.is refl

pub returns-in-V14 : goal.returns-in-V14
unfolding columns_of packed
returns-in-V14 c = packed-as _ V14 _ Block _ c.in-V14.is c.in-Block.is refl

pub returns-in-V13-edition : goal.returns-in-V13-edition
unfolding columns_of packed
returns-in-V13-edition c = packed-as _ V13 _ Rf _ c.in-V13-edition.is c.in-Rf.is refl

pub returns-in-V14-edition : goal.returns-in-V14-edition
unfolding columns_of packed
returns-in-V14-edition c = packed-as _ V14 _ Rf _ c.in-V14-edition.is c.in-Rf.is refl

pub returns-in-V13-edition-2 : goal.returns-in-V13-edition-2
unfolding columns_of packed
returns-in-V13-edition-2 c = packed-as _ V13 _ Gradient _ c.in-V13-edition-2.is c.in-Gradient.is refl

pub returns-in-V14-edition-2 : goal.returns-in-V14-edition-2
unfolding columns_of packed
returns-in-V14-edition-2 c = packed-as _ V14 _ Gradient _ c.in-V14-edition-2.is c.in-Gradient.is refl

pub returns-in-Trap : goal.returns-in-Trap
unfolding columns_of packed
returns-in-Trap c = packed-as _ _ _ Trap _ refl c.in-Trap.is refl

pub returns-in-Adc : goal.returns-in-Adc
unfolding columns_of packed
returns-in-Adc c = packed-as _ _ _ Adc _ refl c.in-Adc.is refl

pub returns-in-Delay : goal.returns-in-Delay
unfolding columns_of packed
returns-in-Delay c = packed-as _ _ _ Delay _ refl c.in-Delay.is refl

pub returns-in-Entry : goal.returns-in-Entry
unfolding columns_of packed
returns-in-Entry c = packed-as _ _ _ Entry _ refl c.in-Entry.is refl

pub returns-in-Trigger : goal.returns-in-Trigger
unfolding columns_of packed
returns-in-Trigger c = packed-as _ _ _ Trigger _ refl c.in-Trigger.is refl
