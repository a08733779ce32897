-- What one stored line holds, by its fields and by its mark. Assumes nothing.
use Rattle.std.proofs.Common.{Option}
use Rattle.numeral.specs.declared.Decimal.{Decimal}
use Prim.Native.Nat.{ℕ, ◌-◌, ◌<◌}
use mathlib.Core.Bool.{true, false}
use mathlib.Core.List.{List, [], ◌∷◌}
use mathlib.Core.Path.{◌≡◌, sym}
use lib.ListN.{length, take, drop}
use Rattle.text.specs.Lines.{bare_of, line_at}
use Rattle.text.specs.Marks.{mark_of, breaks_line}
use Rattle.text.specs.declared.Line.{Line}
use Rattle.text.proofs.Cut.{LineAt, line-at, add-sub-left}
use Rattle.text.specs.declared.Mark.{Mark}
use Rattle.text.specs.declared.Mark.TheVariants.{Plain}
use Rattle.fields.specs.Fields.{fields_of}
use Rattle.decimals.specs.Decimal.{decimal_of}
use Rattle.shape.specs.Stored.{number_item, fields_item, mark_item, item_of, held_at}
use Rattle.shape.specs.declared.Held.{Held}
use Rattle.shape.specs.declared.Item.TheVariants.{Bad}

-- ---- by its fields
pub item-none : {fs : List (List ℕ)} → fs ≡ [] → Bad ≡ fields_item fs
unfolding fields_item
item-none e = rw e

module _ {fs gs : List (List ℕ)} {f : List ℕ} (e : fs ≡ f ∷ gs) where
  pub item-one : gs ≡ [] → {n : (Option Decimal)} (m : (Option Decimal)) → n ≡ decimal_of f → n ≡ m → number_item m ≡ fields_item fs
  unfolding fields_item
  item-one h m d k = rw (e, h, ← d, k)

  pub item-more : {g : List ℕ} {hs : List (List ℕ)} → gs ≡ g ∷ hs → Bad ≡ fields_item fs
  unfolding fields_item
  item-more h = rw (e, h)

-- ---- by its mark
module _ (line : List ℕ) where
  pub item-broken : breaks_line line ≡ true → Bad ≡ item_of line
  unfolding item_of
  item-broken e = rw e

  pub item-marked : breaks_line line ≡ false → (m : Mark) → mark_of line ≡ m → mark_item m line ≡ item_of line
  unfolding item_of
  item-marked e m k = rw (e, k)

  -- a plain line that may stand in a file: its fields tell
  pub item-plain : breaks_line line ≡ false → mark_of line ≡ Plain → item_of line ≡ fields_item (fields_of line)
  unfolding mark_item
  item-plain e k = sym (item-marked e Plain k)

-- ---- by its place: what a caller of item_at learns
abbrev pub line_of : List ℕ → ℕ → Held → Line
line_of text at r = record { stop = (line_at text at).stop; next = r.next }

module _ (text : List ℕ) (at : ℕ) (r : Held) (p : r ≡ held_at text at) where
  pub held-at : at < length text → LineAt text at (line_of text at r)
  unfolding held_at
  held-at h = line-at text at (line_of text at r) (rw p) h

  pub held-item : r.item ≡ item_of (take ((line_of text at r).stop - at) (drop at text))
  unfolding held_at line_at bare_of
  held-item = rw (p, add-sub-left)
