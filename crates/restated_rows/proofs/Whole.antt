-- All rows of a restated text: their keys rise, and each kept row of the source is there. Assumes nothing.
use Prim.Native.Nat.{ℕ, zero, suc, ◌+◌, ◌*◌, ◌≤◌, ◌<◌}
use mathlib.Core.Bool.{Bool, true, true≢false}
use mathlib.Core.List.{List, ◌++◌}
use mathlib.Core.Path.{◌≡◌, refl, sym, ◌∙◌}
use native.Mathlib.Omega.{arith}
use lib.IntN.{ℤ, pos}
use Rattle.signed.specs.Signed.{same_z}
use Rattle.signed.proofs.Sign.{same_z-refl}
use Rattle.shape.specs.declared.Edition.{Edition}
use Rattle.shape.specs.declared.Edition.TheVariants.{V13}
use Rattle.columns.specs.Columns.{form_number, shape_kind}
use Rattle.columns.specs.declared.Form.{Form}
use Rattle.columns.specs.declared.Form.TheVariants.{Block, Rf, Gradient, Trap, Adc}
use Rattle.tables.specs.Tables.{number_at}
use Rattle.places.specs.declared.State.{State}
use Rattle.file.specs.Rows.{Placed}
use Rattle.sayable.specs.Sayable.{is_kind}
use Rattle.durations.specs.Durations.{is_first}
use Rattle.said.specs.Said.{is_of_form}
use Rattle.arranged.specs.Alike.{is_kept}
use Rattle.restated_laws.proofs.ShapeBack.{shapes_given}
use Rattle.restated_laws.proofs.TextBack.{definitions_end, form_rows, event_rows, event_end, delay_rows, blocks_end, first_rows}
use Rattle.restated_rows.proofs.Sectioned.{Among, among-left, among-right, Section, section-among, Rising, rising-then}
use Rattle.restated_rows.proofs.Source.{Source, own, kind-is}
use Rattle.restated_rows.proofs.Standing.{KeptRow}
use Rattle.restated_rows.proofs.Sections.{is_listed, block-section, form-section, shapes-section}
use Rattle.restated_rows.proofs.Keys.{DelayRow, delay-section, part_of, kind-part, listed-part, Standing, kept-rising, delays-rising}

-- ---- What is restated, and the rows of its text: those of EXTENSIONS are given, shapes begin in state `st` on line n
pub record Restating (target : Edition) (raster : ℕ) (rows : List ℤ) (count : ℕ) (rs : List Placed) : Type 0 where
  pub e : Edition
  pub cells : ℕ → List ℤ
  pub source : Source e target rows count cells
  pub listed : Section (is_listed rows) (KeptRow target raster rows count) 0 count rs

abbrev pub out : Edition → ℕ → List ℕ → List ℕ → List ℤ → ℕ → List ℤ → List Placed → State → ℕ → List Placed
out target raster file site rows count samples rs st n = first_rows target raster file site rows count samples (rs ++ shapes_given target rows samples st n 0 count)

module _ {target : Edition} {raster : ℕ} {rows : List ℤ} {count : ℕ} {rs : List Placed} (g : Restating target raster rows count rs) (file site : List ℕ) (samples : List ℤ) (st : State) (n : ℕ) where
  -- ---- The parts
  abbrev blocks : List Placed
  blocks = form_rows target raster rows count Block (definitions_end target file site 6)

  abbrev behind_blocks : ℕ
  behind_blocks = blocks_end target raster file site rows count samples

  abbrev events : List Placed
  events = event_rows target raster rows count behind_blocks

  abbrev delays : List Placed
  delays = delay_rows rows count target (event_end target raster rows count behind_blocks)

  abbrev shapes : List Placed
  shapes = shapes_given target rows samples st n 0 count

  abbrev pub rest : List Placed
  rest = events ++ (delays ++ (rs ++ shapes))

  abbrev text : List Placed
  text = out target raster file site rows count samples rs st n

  abbrev s : Source g.e target rows count g.cells
  s = g.source

  -- ---- Keys rise
  abbrev Stands : List ℤ → ℕ → Type 0
  Stands = Standing target raster rows count

  form-rising : (p : ℕ) (form : Form) → {ps : List Placed} → Section (is_of_form form rows) (KeptRow target raster rows count) 0 count ps → part_of (pos (form_number form)) ≡ p → Rising Stands (p * count + 0) ps (p * count + (0 + count))
  form-rising p form y q = kept-rising target raster rows count p (λ k i. kind-part rows k (form_number form) i ∙ q) y

  events-rising : (m : ℕ) → Rising Stands (1 * count + 0) (event_rows target raster rows count m) (4 * count + (0 + count))
  unfolding event_rows
  events-rising m =
      rising-then (form-rising 1 Rf (form-section raster s Rf refl refl _) refl) (omega arith)
      (rising-then (form-rising 2 Gradient (form-section raster s Gradient refl refl _) refl) (omega arith)
      (rising-then (form-rising 3 Trap (form-section raster s Trap refl refl _) refl) (omega arith) (form-rising 4 Adc (form-section raster s Adc refl refl _) refl)))

  pub rest-rising : Rising Stands (1 * count + 0) rest (7 * count + (0 + count))
  rest-rising =
      rising-then (events-rising behind_blocks) (omega arith)
      (rising-then (delays-rising target raster rows count s.small s.few target _) (omega arith)
      (rising-then (kept-rising target raster rows count 6 (listed-part rows) g.listed) (omega arith)
      (kept-rising target raster rows count 7 (λ k i. kind-part rows k 11 i) (shapes-section raster s samples st n 0 count (omega arith)))))

  pub out-rising : Rising Stands 0 text (7 * count + (0 + count))
  unfolding first_rows
  out-rising = let z : 0 * count + 0 ≡ 0 = omega arith in rw z at (rising-then (form-rising 0 Block (block-section raster s (definitions_end target file site 6)) refl) (omega arith) rest-rising)

  -- ---- What is there
  module _ (k : ℕ) (h : k < count) where
    abbrev Here : List Placed → Type 0
    Here ps = Among (λ row. KeptRow target raster rows count row k) ps

    in-section : {is : ℕ → Bool} {ps : List Placed} → Section is (KeptRow target raster rows count) 0 count ps → is k ≡ true → Here ps
    in-section y i = section-among y k (omega arith) (omega arith) i

    is-kind : (m : ℕ) → number_at rows k 0 ≡ pos m → is_kind rows k (pos m) ≡ true
    unfolding is_kind
    is-kind m q = rw q (same_z-refl (pos m))

    pub block-among : is_of_form Block rows k ≡ true → Among (λ row. KeptRow target raster rows count row k) text
    unfolding first_rows
    block-among i = among-left rest (in-section (block-section raster s (definitions_end target file site 6)) i)

    in-events : Here events → Here text
    unfolding first_rows
    in-events a = among-right blocks (among-left (delays ++ (rs ++ shapes)) a)

    in-listed : is_listed rows k ≡ true → Here text
    unfolding first_rows
    in-listed i = among-right blocks (among-right events (among-right delays (among-left shapes (in-section g.listed i))))

    in-shapes : is_kind rows k (pos shape_kind) ≡ true → Here text
    unfolding first_rows
    in-shapes i = among-right blocks (among-right events (among-right delays (among-right rs (in-section (shapes-section raster s samples st n 0 count (omega arith)) i))))

    in-rf : is_of_form Rf rows k ≡ true → Here events
    unfolding event_rows
    in-rf i = among-left _ (in-section (form-section raster s Rf refl refl _) i)

    in-gradients : is_of_form Gradient rows k ≡ true → Here events
    unfolding event_rows
    in-gradients i = among-right (form_rows target raster rows count Rf _) (among-left _ (in-section (form-section raster s Gradient refl refl _) i))

    in-traps : is_of_form Trap rows k ≡ true → Here events
    unfolding event_rows
    in-traps i = among-right (form_rows target raster rows count Rf _) (among-right (form_rows target raster rows count Gradient _) (among-left _ (in-section (form-section raster s Trap refl refl _) i)))

    in-adc : is_of_form Adc rows k ≡ true → Here events
    unfolding event_rows
    in-adc i = among-right (form_rows target raster rows count Rf _) (among-right (form_rows target raster rows count Gradient _) (among-right (form_rows target raster rows count Trap _) (in-section (form-section raster s Adc refl refl _) i)))

    pub kept-among : is_kept rows k ≡ true → Among (λ row. KeptRow target raster rows count row k) text
    kept-among kept = go (own s k h).kind (own s k h).least (own s k h).most (kind-is s k h)
      where
        no-delay : number_at rows k 0 ≡ pos 6 → ⊥
        no-delay q = unfold is_kept same_z in true≢false (sym (rw q at kept))

        go : (m : ℕ) → 1 ≤ m → m ≤ 11 → number_at rows k 0 ≡ pos m → Here text
        go zero l u q = absurd (omega arith)
        go (suc zero) l u q = block-among (is-kind 1 q)
        go (suc (suc zero)) l u q = in-events (in-rf (is-kind 2 q))
        go (suc (suc (suc zero))) l u q = in-events (in-gradients (is-kind 3 q))
        go (suc (suc (suc (suc zero)))) l u q = in-events (in-traps (is-kind 4 q))
        go (suc (suc (suc (suc (suc zero))))) l u q = in-events (in-adc (is-kind 5 q))
        go (suc (suc (suc (suc (suc (suc zero)))))) l u q = absurd (no-delay q)
        go (suc (suc (suc (suc (suc (suc (suc zero))))))) l u q = in-listed (unfold is_listed in rw (is-kind 7 q))
        go (suc (suc (suc (suc (suc (suc (suc (suc zero)))))))) l u q = in-listed (unfold is_listed is_kind same_z in rw q)
        go (suc (suc (suc (suc (suc (suc (suc (suc (suc zero))))))))) l u q = in-listed (unfold is_listed is_kind same_z in rw q)
        go (suc (suc (suc (suc (suc (suc (suc (suc (suc (suc zero)))))))))) l u q = in-listed (unfold is_listed is_kind same_z in rw q)
        go (suc (suc (suc (suc (suc (suc (suc (suc (suc (suc (suc zero))))))))))) l u q = in-shapes (is-kind 11 q)
        go (suc (suc (suc (suc (suc (suc (suc (suc (suc (suc (suc (suc m)))))))))))) l u q = absurd (omega arith)

    -- delay rows, of 1.3.1 alone
    pub delay-among : target ≡ V13 → is_first rows count k ≡ true → Among (λ row. DelayRow rows count row k) text
    unfolding first_rows
    delay-among v i = among-right blocks (among-right events (among-left (rs ++ shapes) (there target v _)))
      where
        there : (t : Edition) → t ≡ V13 → (m : ℕ) → Among (λ row. DelayRow rows count row k) (delay_rows rows count t m)
        there t v m = rw v (section-among (delay-section rows count s.small s.few m) k (omega arith) (omega arith) i)
