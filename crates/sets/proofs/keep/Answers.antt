-- `sets::keep` meets its contract. Assumes nothing.
use Rattle.sets.specs.Sets.{way_of}
use borrow.Author.Rules.{rules}
use lib.ListN.{length}
use mathlib.Core.Path.{◌≡◌, sym, ◌∙◌}
use Prim.Native.Nat.{◌<◌}
use Rattle.sets.specs.declared.Way.TheVariants.{Held as WayHeld, Free, Blocked}
use Rattle.sets.proofs.Keeping.{free-there, kept-is, after_is}
use Rattle.sets.proofs.keep.Goals.{In-Free}
use Rattle.sets.proofs.keep.Goals as goal

-- the way meets an empty place, which is one of the slice
way : (c : In-Free) → way_of c.args.set.now c.args.key ≡ Free c.in-Free.at
way c = sym c.look.ensures ∙ c.in-Free.is

inside : (c : In-Free) → c.in-Free.at < length c.args.set.now
inside c = (free-there _ _ _ (way c)).inside

pub offset_bounds-set-at : goal.offset_bounds-set-at
offset_bounds-set-at c = let h = inside c in search rules

pub bounds-set-at : goal.bounds-set-at
bounds-set-at c = inside c

pub returns-in-Held : goal.returns-in-Held
returns-in-Held c = let w = sym c.look.ensures ∙ c.in-Held.is in record { value = kept-is _ _ WayHeld w; set_after = after_is _ _ WayHeld w }

pub returns-in-Free : goal.returns-in-Free
returns-in-Free c = record { value = kept-is _ _ _ (way c); set_after = after_is _ _ _ (way c) }

pub returns-in-Blocked : goal.returns-in-Blocked
returns-in-Blocked c = let w = sym c.look.ensures ∙ c.in-Blocked.is in record { value = kept-is _ _ Blocked w; set_after = after_is _ _ Blocked w }
