-- "Restating is refused exactly for a fault in the definitions or rasters, a thing on the paper's list, or lack of output room."
use Rattle.std.specs.Prelude.{ℕ, ◌^◌, ◌≤◌, ◌<◌, min, Bool, true, false, List, ◌≡◌, ℤ, length, Err}
use Rattle.unit.specs.declared.Rasters.{Rasters}
use Rattle.shape.specs.declared.Edition.{Edition}
use Rattle.shape.specs.declared.Edition.TheVariants.{V13, V14}
use Rattle.definitions.specs.Definitions.{site_fault}
use Rattle.events.specs.Align.{misaligned_at}
use Rattle.needs.specs.Needs.{site_rasters}
use Rattle.sayable.specs.Sayable.{is_unknown, has_time, differ, off_micros, names_once, off_raster}
use Rattle.answers.specs.declared.Refusal.TheVariants.{Site, Raster}
use Rattle.reader.specs.Reading.{rows_out, samples_out}
use Rattle.sources.specs.Sources.{own_rasters, lacks_rasters}
use Rattle.restater.specs.Restating.{text_of}
use Rattle.restater.specs.Outcome.{Restated, Text, Refused}
use Rattle.restater.specs.declared.Unrestated.TheVariants.{Output, Unsayable}

-- ---- "UNSAYABLE exactly when": a thing on the paper's list, of n rows, the rasters q that the file goes by and the site's s
pub data Listed (target : Edition) (q s : Rasters) (rows : List ℤ) (n : ℕ) : Type 0 where
  -- "an unknown extension is declared"
  unknown-extension : (k : ℕ) → k < n → is_unknown rows k ≡ true → Listed target q s rows n
  -- "for 1.3.1, a time ID is nonzero, an RF or gradient raster differs from the site's, a block is not whole µs, or a label row names ONCE"
  time-id : target ≡ V13 → (k : ℕ) → k < n → has_time rows k ≡ true → Listed target q s rows n
  other-raster : target ≡ V13 → differ q s ≡ true → Listed target q s rows n
  half-microseconds : target ≡ V13 → (k : ℕ) → k < n → off_micros rows k ≡ true → Listed target q s rows n
  once-named : target ≡ V13 → (k : ℕ) → k < n → names_once rows k ≡ true → Listed target q s rows n
  -- "for 1.4.1, ALIGN fails or a block is not 0 to 10^9 whole BlockDurationRasters"
  align-fails : target ≡ V14 → (k : ℕ) → k < n → misaligned_at q rows k ≡ true → Listed target q s rows n
  no_steps : target ≡ V14 → (k : ℕ) → k < n → off_raster q rows k ≡ true → Listed target q s rows n

-- the list, of a file as reading leaves it in its tables
abbrev pub ListedOf : Edition → List ℕ → List ℕ → ℕ → ℕ → ℕ → Type 0
ListedOf target file site room size n = Listed target (own_rasters file site) (site_rasters site) (rows_out file site room size) n

-- its text
abbrev pub text_in : Edition → List ℕ → List ℕ → ℕ → ℕ → ℕ → List ℕ
text_in target file site room size n = text_of target file site (rows_out file site room size) n (samples_out file site room size)

-- ---- The answer for a file that was accepted with n rows and s samples: each refusal for its own reason, where none before it holds, and a text where
-- none holds
pub data Outcome (target : Edition) (file site : List ℕ) (room size space n s : ℕ) : Restated → Type 0 where
  site-at-fault : site_fault site ≡ true → Outcome target file site room size space n s (Refused Site 0)
  raster-missing : site_fault site ≡ false → lacks_rasters target file site ≡ true → Outcome target file site room size space n s (Refused Raster 0)
  on-the-list : site_fault site ≡ false → lacks_rasters target file site ≡ false → ListedOf target file site room size n → Outcome target file site room size space n s (Err Unsayable)
  no_room : site_fault site ≡ false → lacks_rasters target file site ≡ false → (ListedOf target file site room size n → ⊥)
      → min space (2 ^ 24) < length (text_in target file site room size n) → Outcome target file site room size space n s (Err Output)
  restated : site_fault site ≡ false → lacks_rasters target file site ≡ false → (ListedOf target file site room size n → ⊥)
      → length (text_in target file site room size n) ≤ min space (2 ^ 24)
      → Outcome target file site room size space n s (Text n s (length (text_in target file site room size n)))
