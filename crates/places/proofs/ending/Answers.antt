-- `places::ending` meets its contract: each place by its own case. Assumes nothing.
use Rattle.places.proofs.ending.Goals as goal

pub returns-in-Start : goal.returns-in-Start
returns-in-Start c = rw c.in-Start.is

pub returns-in-Version : goal.returns-in-Version
returns-in-Version c = rw c.in-Version.is

pub returns-in-Head : goal.returns-in-Head
returns-in-Head c = rw c.in-Head.is
