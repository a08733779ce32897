-- What the tests of BIG, MISSING, ROOM and SITE come to, case by case. Assumes nothing.
use Prim.Native.Nat.{ℕ, zero, suc, ◌/◌, ◌≤◌, ◌<◌}
use mathlib.Core.Bool.{Bool, true, false, not}
use mathlib.Core.List.{List}
use mathlib.Core.Path.{◌≡◌, refl}
use native.Mathlib.Omega.{arith}
use borrow.Author.Tests.{lt-ltb, le-ltb}
use lib.Dec.{ltb}
use lib.ListN.{length}
use Rattle.shape.specs.declared.Edition.{Edition}
use Rattle.shape.specs.declared.Edition.TheVariants.{V13, V14}
use Rattle.definitions.specs.Definitions.{site_fault}
use Rattle.rules.specs.declared.Rule.TheVariants.{Outlasts}
use Rattle.questions.specs.Asked.{is_big, is_missing, lacks_room, bad_site, in_order, rule_at}

-- ---- BIG
module _ (file site : List ℕ) where
  pub big-file : 16777216 < length file → true ≡ is_big file site
  unfolding is_big
  big-file h = rw (lt-ltb 16777216 (length file) h)

  pub big-site : length file ≤ 16777216 → ltb 4096 (length site) ≡ is_big file site
  unfolding is_big
  big-site h = rw (le-ltb 16777216 (length file) h)

-- ---- MISSING
module _ (edition : Edition) (block defined : Bool) where
  pub missing-block : block ≡ false → true ≡ is_missing edition block defined
  unfolding is_missing
  missing-block e = rw e (go edition)
    where
      go : (d : Edition) → true ≡ is_missing d false defined
      go V13 = refl
      go V14 = refl

  pub missing-none : block ≡ true → edition ≡ V13 → false ≡ is_missing edition block defined
  unfolding is_missing
  missing-none e v = rw (e, v)

  pub missing-definitions : block ≡ true → edition ≡ V14 → not defined ≡ is_missing edition block defined
  unfolding is_missing
  missing-definitions e v = rw (e, v)

-- ---- ROOM
module _ (rows count room size : ℕ) where
  pub rows-lack : room / 12 < rows → true ≡ lacks_room rows count room size
  unfolding lacks_room
  rows-lack h = rw (lt-ltb (room / 12) rows h)

  pub samples-lack : rows ≤ room / 12 → ltb size count ≡ lacks_room rows count room size
  unfolding lacks_room
  samples-lack h = rw (le-ltb (room / 12) rows h)

-- ---- SITE
module _ (edition : Edition) (site : List ℕ) where
  pub site-asked : edition ≡ V13 → site_fault site ≡ bad_site edition site
  unfolding bad_site
  site-asked e = rw e

  pub site-free : edition ≡ V14 → false ≡ bad_site edition site
  unfolding bad_site
  site-free e = rw e

-- ---- the last rule of the order
pub last-rule : (i : ℕ) → 5 ≤ i → Outlasts ≡ rule_at i
unfolding rule_at in_order
last-rule zero h = absurd (omega arith)
last-rule (suc zero) h = absurd (omega arith)
last-rule (suc (suc zero)) h = absurd (omega arith)
last-rule (suc (suc (suc zero))) h = absurd (omega arith)
last-rule (suc (suc (suc (suc zero)))) h = absurd (omega arith)
last-rule (suc (suc (suc (suc (suc zero))))) h = refl
last-rule (suc (suc (suc (suc (suc (suc i)))))) h = refl
