-- `answers::Refusal::number` meets its contract. Assumes nothing.
use Rattle.answers.proofs.Refusal.number.Goals as goal

pub returns-in-Big : goal.returns-in-Big
returns-in-Big c = rw c.in-Big.is

pub returns-in-Line : goal.returns-in-Line
returns-in-Line c = rw c.in-Line.is

pub returns-in-Version : goal.returns-in-Version
returns-in-Version c = rw c.in-Version.is

pub returns-in-Section : goal.returns-in-Section
returns-in-Section c = rw c.in-Section.is

pub returns-in-Field : goal.returns-in-Field
returns-in-Field c = rw c.in-Field.is

pub returns-in-Missing : goal.returns-in-Missing
returns-in-Missing c = rw c.in-Missing.is

pub returns-in-Room : goal.returns-in-Room
returns-in-Room c = rw c.in-Room.is

pub returns-in-Site : goal.returns-in-Site
returns-in-Site c = rw c.in-Site.is

pub returns-in-Duplicate : goal.returns-in-Duplicate
returns-in-Duplicate c = rw c.in-Duplicate.is

pub returns-in-Raster : goal.returns-in-Raster
returns-in-Raster c = rw c.in-Raster.is

pub returns-in-Shape : goal.returns-in-Shape
returns-in-Shape c = rw c.in-Shape.is

pub returns-in-Reference : goal.returns-in-Reference
returns-in-Reference c = rw c.in-Reference.is

pub returns-in-Loop : goal.returns-in-Loop
returns-in-Loop c = rw c.in-Loop.is

pub returns-in-Use : goal.returns-in-Use
returns-in-Use c = rw c.in-Use.is

pub returns-in-Align : goal.returns-in-Align
returns-in-Align c = rw c.in-Align.is

pub returns-in-Long : goal.returns-in-Long
returns-in-Long c = rw c.in-Long.is

pub returns-in-Outlasts : goal.returns-in-Outlasts
returns-in-Outlasts c = rw c.in-Outlasts.is
