-- `decimals::power_in` meets its contract: what stands behind the e and the sign is cut off and read. Assumes nothing.
use Rattle.std.proofs.Common.{None, Option, Some}
use Prim.Native.Nat.{ℕ, ◌+◌, ◌-◌, ◌≤◌, ◌<◌}
use mathlib.Core.List.{List}
use mathlib.Core.Bool.{Bool, true, false}
use mathlib.Core.Path.{◌≡◌, sym, ◌∙◌, ap}
use native.Mathlib.Omega.{arith}
use borrow.Author.Tests.{eqb-true, eqb-false}
use lib.Dec.{eqb}
use lib.ListN.{length, take, drop}
use Rattle.numeral.specs.Integer.{integer_of}
use Rattle.decimals.specs.Inside.{sign_of, biased, power_of}
use Rattle.decimals.specs.declared.Sign.{Sign}
use Rattle.numeral.proofs.Integer.{integer-inv}
use Rattle.numeral.proofs.Parts.{tail-part}
use Rattle.decimals.proofs.Parts.{sign_fits}
use Rattle.decimals.proofs.Powers.{power_at, power-none, power-some, short-long, short-value, short-bad}
use Rattle.decimals.proofs.power_in.Goals as goal

-- the part behind a place
abbrev from : List ℕ → ℕ → List ℕ
from s a = take (length s - a) (drop a s)

-- what is known once the parts are cut: t stands behind the e, d behind the sign
parts : (s : List ℕ) (g : Sign) → 0 < length s → g ≡ sign_of (from s 1) → power_at g.minus (from (from s 1) g.len) ≡ power_of s
unfolding sign_of
parts s g h e =
    rw (ap (λ (x : Sign). x.minus) e)
    (power-some s (from s 1) (from (from s 1) g.len) h (tail-part s 1)
    (tail-part (from s 1) g.len ∙ ap (λ (x : Sign). drop x.len (from s 1)) e))

some : (s : List ℕ) → eqb (length s) 0 ≡ false → 0 < length s
some s e = let n = eqb-false (length s) 0 e in omega arith

-- the returns, by d
long : (s d : List ℕ) (negative : Bool) → power_at negative d ≡ power_of s → 2 < length d → None ≡ power_of s
long s d negative e h = rw (short-long d h) at e

bad : (s d : List ℕ) (negative : Bool) (r : (Option ℕ)) → power_at negative d ≡ power_of s → r ≡ integer_of 0 99 d → r ≡ None → None ≡ power_of s
bad s d negative r e p q = rw (short-bad d (sym p ∙ q)) at e

good : (s d : List ℕ) (negative : Bool) (r : (Option ℕ)) (n : ℕ) → power_at negative d ≡ power_of s → length d ≤ 2 → r ≡ integer_of 0 99 d → r ≡ Some n
    → Some (biased negative n) ≡ power_of s
good s d negative r n e h p q =
    let w = short-value d n h (sym p ∙ q) in
    ap (λ (k : ℕ). Some (biased negative k)) (sym w.1) ∙ (rw w.0 at e)

minus : (s : List ℕ) (negative : Bool) (n : ℕ) → negative ≡ true → Some (biased negative n) ≡ power_of s → Some (200 - n) ≡ power_of s
unfolding biased
minus s negative n t e = rw t at e

plus : (s : List ℕ) (negative : Bool) (n : ℕ) → negative ≡ false → Some (biased negative n) ≡ power_of s → Some (200 + n) ≡ power_of s
unfolding biased
plus s negative n t e = rw t at e

pub returns-then-is_empty : goal.returns-then-is_empty
returns-then-is_empty c = power-none _ (eqb-true _ _ (sym c.is_empty.ensures ∙ c.if-is_empty.true))

pub slice_bounds-d-count : goal.slice_bounds-d-count
slice_bounds-d-count c = sign_fits (from c.args.s.now 1) _ c.sign_of-sign.ensures

pub slice_bounds-d-start : goal.slice_bounds-d-start
slice_bounds-d-start c = sign_fits (from c.args.s.now 1) _ c.sign_of-sign.ensures

pub returns-then-d-gt2 : goal.returns-then-d-gt2
returns-then-d-gt2 c =
    let g = c.sign_of-sign.result in
    long _ (from (from c.args.s.now 1) g.len) g.minus (parts _ g (some _ (sym c.is_empty.ensures ∙ c.if-is_empty.false)) c.sign_of-sign.ensures) c.if-d-gt2.true

pub returns-in_err-n : goal.returns-in_err-n
returns-in_err-n c =
    let g = c.sign_of-sign.result in
    c.from_residual.ensures ∙ bad _ (from (from c.args.s.now 1) g.len) g.minus _ (parts _ g (some _ (sym c.is_empty.ensures ∙ c.if-is_empty.false)) c.sign_of-sign.ensures) c.read_integer.ensures c.in_err-n.was

pub overflow_sub-result : goal.overflow_sub-result
overflow_sub-result c = omega (arith, (integer-inv 0 99 _ _ (sym c.read_integer.ensures ∙ c.in_ok-n.was)).most)

pub overflow_add-result : goal.overflow_add-result
overflow_add-result c = omega (arith, (integer-inv 0 99 _ _ (sym c.read_integer.ensures ∙ c.in_ok-n.was)).most)

pub returns-then-sign : goal.returns-then-sign
returns-then-sign c =
    let g = c.sign_of-sign.result in
    minus _ g.minus _ c.if-sign.true (good _ (from (from c.args.s.now 1) g.len) g.minus _ _ (parts _ g (some _ (sym c.is_empty.ensures ∙ c.if-is_empty.false)) c.sign_of-sign.ensures) c.if-d-gt2.false c.read_integer.ensures c.in_ok-n.was)

pub returns-else-sign : goal.returns-else-sign
returns-else-sign c =
    let g = c.sign_of-sign.result in
    plus _ g.minus _ c.if-sign.false (good _ (from (from c.args.s.now 1) g.len) g.minus _ _ (parts _ g (some _ (sym c.is_empty.ensures ∙ c.if-is_empty.false)) c.sign_of-sign.ensures) c.if-d-gt2.false c.read_integer.ensures c.in_ok-n.was)
