use Rattle.std.proofs.Common.{◌≡◌, sym, arith, ◌∙◌}
use Rattle.signed.proofs.Machine.{rd, rd-is}
use Rattle.tables.specs.Tables.{first_row}
use Rattle.tables.proofs.Found.{such-start, such-here, such-further, such-none}
use Rattle.tables.proofs.find.Goals as goal

pub loop-k-init : goal.loop-k-init
unfolding first_row
loop-k-init c = such-start _ _

pub returns-then-is_row_of : goal.returns-then-is_row_of
returns-then-is_row_of c =
    let first : c.loop-k.k ≡ first_row c.args.rows.now c.args.n (rd c.args.class) (rd c.args.id) = such-here _ _ _ c.loop-k-test.true (sym c.is_row_of.ensures ∙ c.if-is_row_of.true) ∙ c.loop-k.invariant in
    rw (rd-is c.ranges.class, rd-is c.ranges.id) at first

pub loop-k-preserved : goal.loop-k-preserved
loop-k-preserved c = such-further _ _ _ c.loop-k-test.true (sym c.is_row_of.ensures ∙ c.if-is_row_of.false) ∙ c.loop-k.invariant

pub returns : goal.returns
returns c =
    let none : c.args.n ≡ first_row c.args.rows.now c.args.n (rd c.args.class) (rd c.args.id) = such-none _ _ _ (omega arith) c.loop-k-test.false ∙ c.loop-k.invariant in
    rw (rd-is c.ranges.class, rd-is c.ranges.id) at none
