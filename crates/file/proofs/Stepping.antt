-- What a caller learns of a walk that goes on by one line: the line is cut off there, what it gives, and that the end is nearer. Assumes nothing.
use Prim.Native.Nat.{ℕ, suc, ◌+◌, ◌-◌, ◌≤◌, ◌<◌}
use mathlib.Core.List.{List}
use mathlib.Core.Path.{◌≡◌, refl, sym, ◌∙◌, ap}
use native.Mathlib.Omega.{arith}
use Rattle.std.proofs.Common.{add-one}
use lib.ListN.{length, take, drop, length-drop}
use lib.Seq.{length-take-le}
use Rattle.text.specs.Lines.{line_at}
use Rattle.text.proofs.Cut.{LineAt, line-at, WholeAt, whole-at}
use Rattle.places.specs.declared.State.{State}
use Rattle.places.specs.declared.Stepped.{Stepped}
use Rattle.grammar.specs.Steps.{step_of}
use Rattle.file.specs.Marks.{walk_start}
use Rattle.file.specs.Steps.{StepIs}
use Rattle.file.specs.declared.Walk.{Walk}
use Rattle.places.specs.Places.{fresh}

-- ---- at the front
pub from-front : (P : State → ℕ → ℕ → Type 0) (walk : Walk) → walk ≡ walk_start → P fresh 0 1 → P walk.state walk.at (suc walk.lines)
unfolding walk_start
from-front P walk e p = rw e p

pub front-counted : (walk : Walk) → walk ≡ walk_start → walk.lines ≤ walk.at
unfolding walk_start
front-counted walk e = rw e (omega arith)

-- ---- a line further
module _ {file : List ℕ} {walk walk' : Walk} {words : List ℕ} {did : Stepped} (s : StepIs file walk walk' words did) where
  pub cut-there : LineAt file walk.at (line_at file walk.at)
  cut-there = line-at file walk.at (line_at file walk.at) refl s.more

  pub whole-there : WholeAt file walk.at (line_at file walk.at)
  whole-there = whole-at file walk.at (line_at file walk.at) refl s.more

  -- where it stops
  pub words-end : walk.at + length words ≡ (line_at file walk.at).stop
  words-end =
      let l = cut-there in
      let a = l.ordered in
      let b = l.within in
      let d = length-drop walk.at file in
      rw (s.cut, length-take-le ((line_at file walk.at).stop - walk.at) (drop walk.at file) (omega arith)) (omega arith)

  pub gave-there : did ≡ step_of walk.state (suc walk.lines) (take ((line_at file walk.at).stop - walk.at) (drop walk.at file))
  gave-there = s.gave ∙ ap (step_of walk.state (suc walk.lines)) s.cut

  pub nearer : length file - walk'.at < length file - walk.at
  nearer = let more = s.more in rw s.behind (omega (arith, cut-there.further, cut-there.inside))

  pub carried : (P : State → ℕ → ℕ → Type 0) → P did.next (line_at file walk.at).next (suc walk.lines + 1) → P walk'.state walk'.at (suc walk'.lines)
  carried P p = rw s.behind (rw add-one at p)

  pub counted-on : walk.lines ≤ walk.at → walk'.lines ≤ walk'.at
  counted-on h = rw s.behind (omega (arith, cut-there.further))
