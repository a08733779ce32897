-- `sources::edition_of` meets its contract. Assumes nothing.
use Rattle.sources.proofs.Asking.{edition-of, edition-none}
use Rattle.sources.proofs.edition_of.Goals as goal

pub returns-in-Ok : goal.returns-in-Ok
returns-in-Ok c = edition-of _ _ c.scan.ensures.answer _ _ _ _ c.in-Ok.is

pub returns-in-Err : goal.returns-in-Err
returns-in-Err c = edition-none _ _ c.scan.ensures.answer _ _ c.in-Err.is
