-- `blocks::chain_length` meets its contract. The loop's invariant: the whole is the longest so far or of the entries that are left to count. Assumes nothing.
use Rattle.std.proofs.Common.{◌-◌, ◌≡◌, max}
use Rattle.unit.specs.Time.{capped}
use Rattle.blocks.specs.Blocks.{chain_length}
use Rattle.blocks.proofs.chain_length.Given as goal

abbrev pub invariant-loop-counted : goal.invariant-loop-counted
invariant-loop-counted l =
    max l.longest.0 (capped (chain_length l.rasters l.rows.numbers.now l.rows.n l.samples (l.left - l._counted) l.at))
    ≡ capped (chain_length l.rasters l.rows.numbers.now l.rows.n l.samples l.left l.k)
