-- The rasters of a restated text are those that its source went by. Assumes nothing.
use Prim.Native.Nat.{ℕ, suc, ◌≤◌, ◌<◌}
use mathlib.Core.Bool.{Bool, true, false, cond}
use mathlib.Core.List.{List, [], ◌∷◌, ◌++◌, append-nil}
use mathlib.Core.Path.{◌≡◌, refl, sym, ap, subst, ◌∙◌}
use mathlib.Core.Logic.{⊎_elim}
use native.Mathlib.Omega.{arith}
use borrow.Author.Tests.{eqb-true, ne_eqb}
use lib.Dec.{eqb}
use lib.ListN.{length}
use Rattle.text.proofs.Cases.{lt-or-ge, or-none}
use Rattle.text.specs.Words.{same_bytes}
use Rattle.text.proofs.Words.{same_refl}
use Rattle.numeral.specs.Digits.{sign_len}
use Rattle.decimals.specs.Decimal.{up_to, whole, fraction, digits, is_mantissa, mantissa_part, is_unsigned, decimal_of}
use Rattle.unit.specs.declared.Rasters.{Rasters}
use Rattle.shape.specs.declared.Edition.{Edition}
use Rattle.shape.specs.declared.Edition.TheVariants.{V13, V14}
use Rattle.definitions.specs.Definitions.{Definition, definitions_of, site_definitions, sought, either_of, definition_of}
use Rattle.rasters.specs.Rasters.{gradient_key, rf_key, adc_key, block_key, whole_or0, worth_of, raster_of, text_of, rasters_of, lacks}
use Rattle.needs.specs.Needs.{besides, lacks_for}
use Rattle.demands.specs.Keeping.{RastersGood}
use Rattle.demands.proofs.Ruling.{editions-differ}
use Rattle.demands.proofs.Questions.{rasters-of}
use Rattle.restated_laws.proofs.DefinedBack.{AllDefining, none-defined, one-defined, numbered}
use Rattle.restated_laws.proofs.DefinedFound.{file-defining, HasRasters}
use Rattle.restated_laws.proofs.DefinedSection.{absent_of, added_of, said_definitions}

-- ---- A list without length is empty
length_none : {A : Type 0} (l : List A) → length l ≡ 0 → l ≡ []
length_none [] e = refl
length_none (x ∷ l) e = absurd (omega arith)

-- ---- A value that is sought
-- the lines of definitions do not matter
sought-numbered : (key : List ℕ) (n : ℕ) (ds : List Definition) → sought key (numbered n ds) ≡ sought key ds
unfolding sought numbered
sought-numbered key n [] = refl
sought-numbered key n (d ∷ ds) = rw (sought-numbered key (suc n) ds)

-- in definitions behind others, none of which is empty
sought-append : (key : List ℕ) {ds : List Definition} → AllDefining ds → (es : List Definition) → sought key (ds ++ es) ≡ either_of (sought key ds) (sought key es)
unfolding sought either_of
sought-append key none-defined es = refl
sought-append key (one-defined {d} {ds} x p) es = go (same_bytes d.key key) (sought-append key p es)
  where
    go : (b : Bool) → sought key (ds ++ es) ≡ either_of (sought key ds) (sought key es) → cond b d.value (sought key (ds ++ es)) ≡ either_of (cond b d.value (sought key ds)) (sought key es)
    go true r = let h = x.worth in rw (ne_eqb (length d.value) 0 (λ (e : length d.value ≡ 0). omega arith))
    go false r = r

-- ---- among the rasters that are added
module _ (own site : List Definition) (key : List ℕ) where
  absent-other : (other : List ℕ) (es : List Definition) → same_bytes other key ≡ false → sought key (absent_of own site other ++ es) ≡ sought key es
  unfolding absent_of sought
  absent-other other es h = go (eqb (length (sought other own)) 0)
    where
      go : (b : Bool) → sought key (cond b (record { line = 0; key = other; value = sought other site } ∷ []) [] ++ es) ≡ sought key es
      go true = rw h
      go false = refl

  absent-own : (es : List Definition) → eqb (length (sought key own)) 0 ≡ true → sought key (absent_of own site key ++ es) ≡ sought key site
  unfolding absent_of sought
  absent-own es h = rw (h, same_refl key)

data IsRaster : List ℕ → Type 0 where
  gradient-raster : IsRaster gradient_key
  rf-raster : IsRaster rf_key
  adc-raster : IsRaster adc_key
  block-raster : IsRaster block_key

added-sought : (own site : List Definition) {key : List ℕ} → IsRaster key → eqb (length (sought key own)) 0 ≡ true → sought key (added_of V14 own site) ≡ sought key site
unfolding added_of gradient_key rf_key adc_key block_key same_bytes
added-sought own site gradient-raster h = absent-own own site gradient_key _ h
added-sought own site rf-raster h = absent-other own site rf_key gradient_key _ refl ∙ absent-own own site rf_key _ h
added-sought own site adc-raster h = absent-other own site adc_key gradient_key _ refl ∙ absent-other own site adc_key rf_key _ refl ∙ absent-own own site adc_key _ h
added-sought own site block-raster h =
    absent-other own site block_key gradient_key _ refl
    ∙ absent-other own site block_key rf_key _ refl
    ∙ absent-other own site block_key adc_key _ refl
    ∙ ap (sought block_key) (sym (append-nil (absent_of own site block_key)))
    ∙ absent-own own site block_key [] h

-- ---- What a restated text says of a raster is the file's value, or else the site's
module _ (file site : List ℕ) {key : List ℕ} (raster : IsRaster key) where
  sought-said : sought key (said_definitions V14 file site) ≡ definition_of file site key
  unfolding definition_of said_definitions either_of
  sought-said =
      sought-append key (file-defining file) (added_of V14 (definitions_of file) (site_definitions site)) ∙ go (eqb (length (sought key (definitions_of file))) 0) refl
    where
      go : (b : Bool) → eqb (length (sought key (definitions_of file))) 0 ≡ b
          → cond b (sought key (added_of V14 (definitions_of file) (site_definitions site))) (sought key (definitions_of file)) ≡ cond b (sought key (site_definitions site)) (sought key (definitions_of file))
      go true h = added-sought (definitions_of file) (site_definitions site) raster h
      go false h = refl

  said-value : (text : List ℕ) (target : Edition) → definitions_of text ≡ numbered 7 (said_definitions target file site) → text_of target text site key ≡ definition_of file site key
  unfolding text_of definition_of
  said-value text V13 d =
      ap (λ (ds : List Definition). either_of (sought key ds) (sought key (site_definitions site))) d
      ∙ ap (λ (v : List ℕ). either_of v (sought key (site_definitions site)))
      (sought-numbered key 7 (said_definitions V13 file site) ∙ ap (sought key) (unfold said_definitions added_of in append-nil (definitions_of file)))
  said-value text V14 d = ap (sought key) d ∙ sought-numbered key 7 (said_definitions V14 file site) ∙ sought-said

  -- ---- and so is what the source went by, where it is a raster
  none-worth : raster_of [] ≡ 0
  unfolding raster_of worth_of whole_or0 decimal_of is_unsigned sign_len is_mantissa mantissa_part up_to digits whole fraction
  none-worth = refl

  own_value : (e : Edition) → (e ≡ V14 → 1 ≤ raster_of (text_of e file site key)) → text_of e file site key ≡ definition_of file site key
  unfolding text_of definition_of either_of
  own_value V13 h = refl
  own_value V14 h = go (eqb (length (sought key (definitions_of file))) 0) refl
    where
      go : (b : Bool) → eqb (length (sought key (definitions_of file))) 0 ≡ b → sought key (definitions_of file) ≡ cond b (sought key (site_definitions site)) (sought key (definitions_of file))
      go true e = let z = none-worth in let n = length_none (sought key (definitions_of file)) (eqb-true _ 0 e) in
          absurd (let l : 1 ≤ raster_of [] = subst (λ (v : List ℕ). 1 ≤ raster_of v) n (h refl) in omega arith)
      go false e = refl

  -- a raster has a text
  has_value : (e : Edition) → 1 ≤ raster_of (text_of e file site key) → 1 ≤ length (definition_of file site key)
  has_value e h =
      let v : 1 ≤ raster_of (definition_of file site key) = subst (λ (t : List ℕ). 1 ≤ raster_of t) (own_value e (λ z. h)) h in
      ⊎_elim
      (λ (l : length (definition_of file site key) < 1).
      absurd (let z = none-worth in let w : 1 ≤ raster_of [] = subst (λ (t : List ℕ). 1 ≤ raster_of t) (length_none (definition_of file site key) (omega arith)) v in omega arith))
      (λ l. l) (lt-or-ge (length (definition_of file site key)) 1)

-- ---- All four
module _ (file site text : List ℕ) (e target : Edition) (d : definitions_of text ≡ numbered 7 (said_definitions target file site)) where
  raster-back : {key : List ℕ} → IsRaster key → (e ≡ V14 → 1 ≤ raster_of (text_of e file site key)) → raster_of (text_of target text site key) ≡ raster_of (text_of e file site key)
  raster-back r h = ap raster_of (said-value file site r text target d ∙ sym (own_value file site r e h))

  pub rasters-back : RastersGood e (rasters_of e file site) → rasters_of target text site ≡ rasters_of e file site
  unfolding rasters_of
  rasters-back good =
      rw (raster-back gradient-raster (λ v. good.gradient), raster-back rf-raster (λ v. good.rf), raster-back adc-raster (λ v. good.adc v), raster-back block-raster (λ v. good.block v))

-- ---- What restating asks of rasters: those that the target needs are good
pub target-rasters : (target e : Edition) (q s : Rasters) → lacks_for target e q s ≡ false → RastersGood target q
unfolding lacks_for besides
target-rasters V13 e q s l =
    let good = rasters-of e q (or-none (lacks e q) (lacks V13 s) l).0 in
    record { gradient = good.gradient; rf = good.rf; adc = λ v. absurd (editions-differ v); block = λ v. absurd (editions-differ v) }
target-rasters V14 e q s l = rasters-of V14 q (or-none (lacks e q) (lacks V14 q) l).1

-- a text that says a raster says something
pub said-some : (file site : List ℕ) → HasRasters file site → 1 ≤ length (said_definitions V14 file site)
unfolding sought
said-some file site h =
    ⊎_elim
    (λ (l : length (said_definitions V14 file site) < 1).
    absurd
    (let z = h.0 in
    let w : length (definition_of file site gradient_key) ≡ 0 =
    ap length (sym (sought-said file site gradient-raster) ∙ ap (sought gradient_key) (length_none (said_definitions V14 file site) (omega arith))) in
    omega arith))
    (λ l. l) (lt-or-ge (length (said_definitions V14 file site)) 1)

-- and for 1.4.1 each has a text, the file's or the site's
pub rasters-said : (file site : List ℕ) (e : Edition) → RastersGood V14 (rasters_of e file site) → HasRasters file site
unfolding rasters_of
rasters-said file site e good = (
  has_value file site gradient-raster e good.gradient,
  (has_value file site rf-raster e good.rf, (has_value file site adc-raster e (good.adc refl), has_value file site block-raster e (good.block refl))),
)
