-- What the inner functions answer. Nothing here needs to be believed: laws lead from these to the definitions of the other file.
use Rattle.std.specs.Prelude.{Bool, ◌&&◌}
use Rattle.blocks.specs.Blocks.{is_block}
use Rattle.places.specs.declared.Stepped.{Stepped}
use Rattle.file.specs.Whole.{is_row}

-- has a line given a block?
unfoldable pub gives_block : Stepped → Bool
gives_block did = is_row did.found && is_block did.cells 0
