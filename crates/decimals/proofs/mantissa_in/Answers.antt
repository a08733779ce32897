-- `decimals::mantissa_in` meets its contract: digits that end at an e or the end, or at a point with digits behind it. Assumes nothing.
use Rattle.std.proofs.Common.{◌+◌, ◌≡◌, ◌∙◌, sym, arith, drop}
use borrow.Author.Tests.{not-true, not-false}
use Rattle.decimals.specs.Inside.{gather_of, at_end}
use Rattle.decimals.proofs.Gathering.{packed_start}
use Rattle.decimals.proofs.Mantissas.{as_point, as_end, Ended, ended, Pointed, pointed, first-lost, second-lost, second-point, fit-bad, whole-answer, behind-answer}
use Rattle.decimals.proofs.mantissa_in.Goals as goal

pub returns-in_err-front : goal.returns-in_err-front
returns-in_err-front c = rw c.from_residual.ensures (first-lost _ (sym c.gather.ensures ∙ c.in_err-front.was), fit-bad)

pub bare-requires : goal.bare-requires
bare-requires c =
    let f = c.in_ok-front.front in
    let h = ended _ _ _ _ _ _ _ packed_start (omega arith) (omega arith) (sym c.gather.ensures ∙ c.in_ok-front.was ∙ as_end f (not-true _ c.if-not-front.true)) in
    omega (arith, h.small, h.zeros, h.inside)

pub returns-then-not-front : goal.returns-then-not-front
returns-then-not-front c =
    let f = c.in_ok-front.front in
    whole-answer _ _ _ _ _ c.requires (sym c.gather.ensures ∙ c.in_ok-front.was ∙ as_end f (not-true _ c.if-not-front.true)) c.bare.ensures

pub overflow_add-front : goal.overflow_add-front
overflow_add-front c =
    let p : Pointed c.args.s.now c.in_ok-front.front.v c.in_ok-front.front.zeros c.in_ok-front.front.stop = pointed _ _ _ _ (sym c.gather.ensures ∙ c.in_ok-front.was ∙ as_point c.in_ok-front.front (not-false _ c.if-not-front.false)) in
    omega (arith, p.inside)

pub gather-requires-2 : goal.gather-requires-2
gather-requires-2 c =
    let p : Pointed c.args.s.now c.in_ok-front.front.v c.in_ok-front.front.zeros c.in_ok-front.front.stop = pointed _ _ _ _ (sym c.gather.ensures ∙ c.in_ok-front.was ∙ as_point c.in_ok-front.front (not-false _ c.if-not-front.false)) in
    (p.packed.small, omega (arith, p.zeros), omega (arith, p.inside))

pub returns-in_err-whole : goal.returns-in_err-whole
returns-in_err-whole c =
    let p : Pointed c.args.s.now c.in_ok-front.front.v c.in_ok-front.front.zeros c.in_ok-front.front.stop = pointed _ _ _ _ (sym c.gather.ensures ∙ c.in_ok-front.was ∙ as_point c.in_ok-front.front (not-false _ c.if-not-front.false)) in
    rw c.from_residual-in_err-whole.ensures (second-lost _ _ _ _ p (sym c.gather-2.ensures ∙ c.in_err-whole.was), fit-bad)

pub returns-then-whole : goal.returns-then-whole
returns-then-whole c =
    let p : Pointed c.args.s.now c.in_ok-front.front.v c.in_ok-front.front.zeros c.in_ok-front.front.stop = pointed _ _ _ _ (sym c.gather.ensures ∙ c.in_ok-front.was ∙ as_point c.in_ok-front.front (not-false _ c.if-not-front.false)) in
    (second-point _ _ _ _ _ _ _ p (sym c.gather-2.ensures ∙ c.in_ok-whole.was ∙ as_point c.in_ok-whole.whole c.if-whole.true), fit-bad)

pub overflow_sub-n : goal.overflow_sub-n
overflow_sub-n c =
    let f = c.in_ok-front.front in
    let w = c.in_ok-whole.whole in
    let p : Pointed c.args.s.now f.v f.zeros f.stop = pointed _ _ _ _ (sym c.gather.ensures ∙ c.in_ok-front.was ∙ as_point f (not-false _ c.if-not-front.false)) in
    let q : gather_of f.v f.zeros (f.stop + 1) (drop (f.stop + 1) c.args.s.now) ≡ at_end w.v w.zeros w.stop = sym c.gather-2.ensures ∙ c.in_ok-whole.was ∙ as_end w c.if-whole.false in
    let e : Ended c.args.s.now (f.stop + 1) w.v w.zeros w.stop = ended _ _ _ _ _ _ _ p.packed (omega (arith, p.zeros)) (omega (arith, p.inside)) q in
    omega (arith, e.least)

pub overflow_sub-n-2 : goal.overflow_sub-n-2
overflow_sub-n-2 c =
    let f = c.in_ok-front.front in
    let w = c.in_ok-whole.whole in
    let p : Pointed c.args.s.now f.v f.zeros f.stop = pointed _ _ _ _ (sym c.gather.ensures ∙ c.in_ok-front.was ∙ as_point f (not-false _ c.if-not-front.false)) in
    let q : gather_of f.v f.zeros (f.stop + 1) (drop (f.stop + 1) c.args.s.now) ≡ at_end w.v w.zeros w.stop = sym c.gather-2.ensures ∙ c.in_ok-whole.was ∙ as_end w c.if-whole.false in
    let e : Ended c.args.s.now (f.stop + 1) w.v w.zeros w.stop = ended _ _ _ _ _ _ _ p.packed (omega (arith, p.zeros)) (omega (arith, p.inside)) q in
    omega (arith, e.least)

pub bare-requires-2 : goal.bare-requires-2
bare-requires-2 c =
    let f = c.in_ok-front.front in
    let w = c.in_ok-whole.whole in
    let p : Pointed c.args.s.now f.v f.zeros f.stop = pointed _ _ _ _ (sym c.gather.ensures ∙ c.in_ok-front.was ∙ as_point f (not-false _ c.if-not-front.false)) in
    let q : gather_of f.v f.zeros (f.stop + 1) (drop (f.stop + 1) c.args.s.now) ≡ at_end w.v w.zeros w.stop = sym c.gather-2.ensures ∙ c.in_ok-whole.was ∙ as_end w c.if-whole.false in
    let e : Ended c.args.s.now (f.stop + 1) w.v w.zeros w.stop = ended _ _ _ _ _ _ _ p.packed (omega (arith, p.zeros)) (omega (arith, p.inside)) q in
    omega (arith, e.small, e.zeros, e.inside)

pub returns : goal.returns
returns c =
    let f = c.in_ok-front.front in
    let w = c.in_ok-whole.whole in
    let p : Pointed c.args.s.now f.v f.zeros f.stop = pointed _ _ _ _ (sym c.gather.ensures ∙ c.in_ok-front.was ∙ as_point f (not-false _ c.if-not-front.false)) in
    let q : gather_of f.v f.zeros (f.stop + 1) (drop (f.stop + 1) c.args.s.now) ≡ at_end w.v w.zeros w.stop = sym c.gather-2.ensures ∙ c.in_ok-whole.was ∙ as_end w c.if-whole.false in
    behind-answer _ _ _ _ _ _ _ _ c.requires p q c.bare-2.ensures
