-- The edition of a source, and SITE and RASTER in their places. Assumes nothing.
use Prim.Native.Nat.{ℕ}
use lib.Dec.{ltb}
use mathlib.Core.Bool.{Bool, true, false, not, ◌&&◌}
use mathlib.Core.List.{List}
use mathlib.Core.Path.{◌≡◌}
use Rattle.shape.specs.declared.Edition.{Edition}
use Rattle.shape.specs.declared.Edition.TheVariants.{V13}
use Rattle.places.specs.declared.Fault.{Fault as LineFault}
use Rattle.file.specs.Rows.{scanned_of}
use Rattle.file.specs.Outcome.{Scanned, File, Fault}
use Rattle.answers.specs.Answers.{refusal_number}
use Rattle.answers.specs.declared.Refusal.{Refusal}
use Rattle.answers.specs.declared.Refusal.TheVariants.{Site, Raster}
use Rattle.answers.specs.Outcome.{Answer, Accepted, Refused}
use Rattle.sources.specs.Sources.{edition_in, is_below, bad_site_for, lacking_for, asked_for}

-- ---- the edition
module _ (file : List ℕ) (r : Scanned) (p : r ≡ scanned_of file) where
  pub edition-of : (e : Edition) (n s : ℕ) (d : Bool) → r ≡ File e n s d → e ≡ edition_in (scanned_of file)
  unfolding edition_in
  edition-of e n s d q = rw (← p, q)

  pub edition-none : (fault : LineFault) (n : ℕ) → r ≡ Fault fault n → V13 ≡ edition_in (scanned_of file)
  unfolding edition_in
  edition-none fault n q = rw (← p, q)

-- ---- a refusal below
pub below_none : (number : ℕ) (read : Answer) (n s : ℕ) → read ≡ Accepted n s → false ≡ is_below number read
unfolding is_below
below_none number read n s e = rw e

pub below-is : (number : ℕ) (read : Answer) (refusal : Refusal) (line : ℕ) → read ≡ Refused refusal line → (m : ℕ) → m ≡ refusal_number refusal → ltb m number ≡ is_below number read
unfolding is_below
below-is number read refusal line e m p = rw (e, p)

-- ---- a question in its place
pub not-due : {a c : Bool} (b : Bool) → c ≡ a → c ≡ true → false ≡ not a && b
not-due b p e = rw (← p, e)

pub due : {a b c d : Bool} → c ≡ a → c ≡ false → d ≡ b → d ≡ not a && b
due p e q = rw (← p, e) q

-- ---- what is answered
module _ (target : Edition) (file site : List ℕ) (read : Answer) (b : Bool) (p : b ≡ bad_site_for site read) where
  pub asked-site : b ≡ true → Refused Site 0 ≡ asked_for target file site read
  unfolding asked_for
  asked-site e = rw (← p, e)

  module _ (u : b ≡ false) (c : Bool) (q : c ≡ lacking_for target file site read) where
    pub asked-raster : c ≡ true → Refused Raster 0 ≡ asked_for target file site read
    unfolding asked_for
    asked-raster e = rw (← p, u, ← q, e)

    pub asked-read : c ≡ false → read ≡ asked_for target file site read
    unfolding asked_for
    asked-read e = rw (← p, u, ← q, e)
