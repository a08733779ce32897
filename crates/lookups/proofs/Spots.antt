-- Where something stands that is looked up: it is what is handed back. Assumes nothing.
use Rattle.std.proofs.Common.{None, Some}
use Prim.Native.Nat.{ℕ, ◌+◌, ◌-◌, ◌≤◌, ◌<◌}
use mathlib.Core.Bool.{Bool, true, false, cond}
use mathlib.Core.List.{List, []}
use mathlib.Core.Path.{◌≡◌, refl, sym, ap, ◌∙◌}
use native.Mathlib.Omega.{arith}
use borrow.Author.Tests.{lt-ltb, le-ltb, ltb-true, ltb-false, ne_eqb}
use lib.Dec.{eqb, ltb}
use lib.IntN.{ℤ}
use lib.ListN.{length, drop, length-drop}
use lib.Seq.{length-take-le}
use Rattle.fields.specs.declared.Part.{Part}
use Rattle.grammar.proofs.Parts.{Holds}
use Rattle.definitions.specs.Definitions.{either_of, definition_of}
use Rattle.definitions.specs.Places.{file_place, site_place}
use Rattle.definitions.proofs.Placing.{file-holds, site-holds}
use Rattle.stored.specs.Places.{stored_place}
use Rattle.stored.specs.Shapes.{stored_of}
use Rattle.stored.proofs.Stored.{stored-holds}
use Rattle.lookups.specs.Looking.{is_faulty, looked_up, stored_up}
use Rattle.lookups.specs.Spots.{Spot, In, source_number, spot_number, spot_start, spot_length, source_text, spot_text, spot_in, either_spot, definition_spot, stored_spot}
use Rattle.lookups.specs.declared.Source.{Source}
use Rattle.lookups.specs.declared.Source.TheVariants.{File, Site}

-- ---- a part as a spot
module _ (source : Source) (p : Part) where
  pub spot-some : p.start < p.stop → In source p.start (p.stop - p.start) ≡ spot_in source p
  unfolding spot_in
  spot-some h = rw (lt-ltb p.start p.stop h)

  pub spot-none : p.stop ≤ p.start → None ≡ spot_in source p
  unfolding spot_in
  spot-none h = rw (le-ltb p.start p.stop h)

-- ---- a spot within its text, where bytes stand; nowhere exactly if there are none
abbrev pub spot_room : List ℕ → List ℕ → Spot → ℕ
spot_room file site None = 0
spot_room file site (Some part) = length (source_text file site part.source)

pub record Stands (file site : List ℕ) (s : Spot) (bytes : List ℕ) : Type 0 where
  pub within : spot_start s + spot_length s ≤ spot_room file site s
  pub there : spot_text file site s ≡ bytes
  pub none : eqb (spot_number s) 0 ≡ eqb (length bytes) 0

-- how long the bytes are at a part
holds-length : {text : List ℕ} {p : Part} {t : List ℕ} → Holds text p t → length t ≡ p.stop - p.start
holds-length {text} {p} h =
    let a = h.within in
    let b = length-drop p.start text in
    sym (ap length h.there) ∙ length-take-le (p.stop - p.start) (drop p.start text) (omega arith)

-- nothing stands at an empty part
holds-nothing : {text : List ℕ} {p : Part} {t : List ℕ} → Holds text p t → p.stop ≤ p.start → [] ≡ t
holds-nothing {p = p} h i = let k : p.stop - p.start ≡ 0 = omega arith in rw k at h.there

nowhere-stands : (file site : List ℕ) → Stands file site None []
unfolding spot_text
nowhere-stands file site = record { within = omega arith; there = refl; none = refl }

some-source : (source : Source) → false ≡ eqb (source_number source) 0
some-source File = refl
some-source Site = refl

part-stands : (file site : List ℕ) (source : Source) {p : Part} {t : List ℕ} → Holds (source_text file site source) p t → Stands file site (spot_in source p) t
unfolding spot_in spot_text
part-stands file site source {p} {t} h = go (ltb p.start p.stop) refl
  where
    go : (b : Bool) → ltb p.start p.stop ≡ b → Stands file site (cond b (In source p.start (p.stop - p.start)) None) t
    go true e =
        let i = ltb-true p.start p.stop e in
        let n = holds-length h in
        let w = h.within in
        record { within = omega arith; there = h.there; none = sym (some-source source) ∙ sym (ne_eqb (length t) 0 (λ (q : length t ≡ 0). omega arith)) }
    go false e = rw (← holds-nothing h (ltb-false p.start p.stop e)) (nowhere-stands file site)

-- of two spots the first that is not nowhere, and of two texts the first that is not empty
either-stands : (file site : List ℕ) (a b : Spot) (x y : List ℕ) → Stands file site a x → Stands file site b y → Stands file site (either_spot a b) (either_of x y)
unfolding either_of
either-stands file site None b x y h i = rw (← h.none) i
either-stands file site (Some part) b x y h i = rw (← h.none, ← some-source part.source) h

-- ---- the bytes at a spot are what is handed back
pub definition-stands : (file site key : List ℕ) → Stands file site (definition_spot file site key) (looked_up file site key)
unfolding definition_spot looked_up definition_of
definition-stands file site key = go (is_faulty file site)
  where
    go : (b : Bool) → Stands file site (cond b None (either_spot (spot_in File (file_place file key)) (spot_in Site (site_place site key)))) (cond b [] (definition_of file site key))
    go true = nowhere-stands file site
    go false = either-stands file site _ _ _ _ (part-stands file site File (file-holds file key)) (part-stands file site Site (site-holds site key))

pub stored-stands : (file site : List ℕ) (id : ℤ) → Stands file site (stored_spot file site id) (stored_up file site id)
unfolding stored_spot stored_up
stored-stands file site id = go (is_faulty file site)
  where
    go : (b : Bool) → Stands file site (cond b None (spot_in File (stored_place file id))) (cond b [] (stored_of file id))
    go true = nowhere-stands file site
    go false = part-stands file site File (stored-holds file id)
