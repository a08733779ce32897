-- `output::put_byte` meets its contract: `set` past the end changes nothing. Assumes nothing.
use Rattle.std.proofs.Common.{◌≡◌, ◌∙◌, sym, arith}
use lib.ListN.{set}
use lib.Seq.{set_out}
use Rattle.output.proofs.Over.{put_one}
use Rattle.output.proofs.put_byte.Goals.{then-at-out, else-at-out}
use Rattle.output.proofs.put_byte.Goals as goal

pub returns : goal.returns
returns c =
    let met : c.if-at-out.out ≡ set c.args.out.now c.args.at c.args.b = elim c.if-at-out.branch [ then-at-out w ↦ w.out-is | else-at-out w ↦ w.out-is ∙ sym (set_out _ _ _ w.if-at-out.false) ] in
    put_one met c.saturating_add.ensures (omega arith)
