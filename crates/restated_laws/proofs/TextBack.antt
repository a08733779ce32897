-- All of a restated text reads back, section by section, where each part does. Assumes nothing.
use Prim.Native.Nat.{ℕ, suc, ◌+◌, ◌^◌, ◌≤◌, ◌<◌}
use mathlib.Core.Bool.{Bool, true, false, cond}
use mathlib.Core.List.{List, [], ◌++◌, append_assoc, append-nil}
use mathlib.Core.Path.{◌≡◌, refl, sym, subst, ◌∙◌}
use native.Mathlib.Omega.{arith}
use borrow.Author.Tests.{le-leb}
use lib.Dec.{ltb}
use lib.IntN.{ℤ, pos}
use lib.ListN.{length, replicate, get_or-replicate}
use lib.Seq.{get_or-set_other}
use Rattle.shape.specs.declared.Edition.{Edition}
use Rattle.shape.specs.declared.Edition.TheVariants.{V13, V14}
use Rattle.numeral.specs.Integer.{largest_id}
use Rattle.columns.specs.Columns.{form_number, shape_kind}
use Rattle.columns.specs.declared.Form.{Form}
use Rattle.columns.specs.declared.Form.TheVariants.{Block, Rf, Gradient, Trap, Adc, Delay}
use Rattle.sections.specs.Sections.{has_section}
use Rattle.sections.specs.Entering.{entered}
use Rattle.places.specs.Places.{fresh}
use Rattle.places.specs.declared.Lines.TheVariants.{Shapes, Rows, Definitions}
use Rattle.places.specs.declared.Listed.{Listed}
use Rattle.places.specs.declared.Listed.TheVariants.{Entries}
use Rattle.places.specs.declared.Place.{Place}
use Rattle.places.specs.declared.Place.TheVariants.{Section, Extensions}
use Rattle.places.specs.declared.State.{State}
use Rattle.file.specs.Rows.{Placed}
use Rattle.blocks.specs.Blocks.{is_block}
use Rattle.sayable.specs.Sayable.{is_kind, nanos_at}
use Rattle.durations.specs.Durations.{is_first}
use Rattle.said.specs.Said.{said_row, is_of_form, has_kind}
use Rattle.said.proofs.Short.{Small}
use Rattle.section_text.specs.Sections.{version_text, section_text, delay_row, has_delays}
use Rattle.extension_text.specs.Extensions.{has_listed, extension_section}
use Rattle.definition_text.specs.Definitions.{definition_section}
use Rattle.shape_section.specs.Shapes.{shape_section}
use Rattle.restated.specs.Text.{delays_for, event_sections, restated_text}
use Rattle.restated_laws.proofs.Going.{Goes, goes_none, goes_then}
use Rattle.restated_laws.proofs.SectionBack.{versioned, version-back, may_leave, Open, head_number, is_headed, in_rows, given_rows, line_behind, back_row, InRangeOf, section-back, delays-back}
use Rattle.restated_laws.proofs.ListedBack.{Listing, extensions-back, no-extensions-back}
use Rattle.restated_laws.proofs.ShapeBack.{ShapeIn, shapes_given, shapes_state, shapes_line, shape-section-back}
use Rattle.restated_laws.proofs.DefinedBack.{AllDefining, numbered}
use Rattle.restated_laws.proofs.DefinedSection.{said_definitions, in_definitions, definition-section-back}

-- ---- Behind a section, or where it is left out, each section may begin that might before, but this one
open-behind : {st : State} {j : ℕ} → Open st j → (b : Bool) (k : ℕ) → (j ≡ k → ⊥) → (p : Place) → may_leave p ≡ true → Open (cond b (entered st k p) st) j
open-behind {st} {j} o true k other p m = record { leaves = m; has = o.has; unseen = get_or-set_other st.seen k j true false other ∙ o.unseen }
open-behind o false k other p m = o

edition-behind : (st : State) {target : Edition} → st.edition ≡ target → (b : Bool) (k : ℕ) (p : Place) → (cond b (entered st k p) st).edition ≡ target
edition-behind st e true k p = e
edition-behind st e false k p = e

-- a state of the target where section k and all behind it may begin, DELAYS too
pub record Ready (target : Edition) (st : State) (k : ℕ) : Type 0 where
  pub is-of : st.edition ≡ target
  pub opens : (j : ℕ) → k ≤ j → j ≤ 9 → Open st j
  pub delays : target ≡ V13 → Open st 10

ready-behind : {target : Edition} {st : State} {k : ℕ} → Ready target st k → k ≤ 9 → (b : Bool) (p : Place) → may_leave p ≡ true → Ready target (cond b (entered st k p) st) (suc k)
ready-behind {target} {st} {k} r h b p m =
    record {
      is-of = edition-behind st r.is-of b k p;
      opens = λ j (l : suc k ≤ j) (g : j ≤ 9). open-behind (r.opens j (omega arith) g) b k (λ e. omega arith) p m;
      delays = λ v. open-behind (r.delays v) b k (λ e. omega arith) p m;
    }

-- ---- Behind DEFINITIONS
unfoldable pub definitions_state : Edition → List ℕ → List ℕ → State → State
definitions_state target file site st = cond (ltb 0 (length (said_definitions target file site))) (in_definitions st) st

unfoldable pub definitions_end : Edition → List ℕ → List ℕ → ℕ → ℕ
definitions_end target file site n = cond (ltb 0 (length (said_definitions target file site))) (suc (suc n + length (said_definitions target file site))) n

module _ (target : Edition) (file site : List ℕ) {st : State} (r : Ready target st 2) where
  definitions-at : AllDefining (said_definitions target file site) → (n : ℕ)
      → Goes st n (definition_section target file site) [] (numbered (suc n) (said_definitions target file site)) (definitions_state target file site st) (definitions_end target file site n)
  unfolding definitions_state definitions_end
  definitions-at all n = definition-section-back st n (r.opens 2 (omega arith) (omega arith)) target file site all

  definitions-ready : Ready target (definitions_state target file site st) 3
  unfolding definitions_state
  definitions-ready = ready-behind r (omega arith) (ltb 0 (length (said_definitions target file site))) (Section Definitions) (unfold may_leave in refl)

module _ (target : Edition) (raster : ℕ) (rows : List ℤ) (count : ℕ) where
  -- ---- A section of rows: its rows from line n on, the state behind it, and the number of the next line
  unfoldable pub form_rows : Form → ℕ → List Placed
  form_rows form n = given_rows (is_of_form form rows) (λ k. back_row target form (said_row target raster rows count k)) (suc n) 0 count

  unfoldable pub form_state : Form → State → State
  form_state form st = cond (has_kind (pos (form_number form)) rows count) (in_rows st form) st

  unfoldable pub form_end : Form → ℕ → ℕ
  form_end form n = cond (has_kind (pos (form_number form)) rows count) (suc (line_behind (is_of_form form rows) (suc n) 0 count)) n

  -- all that is said of a form is in range at the target
  abbrev pub AllInRange : Form → Type 0
  AllInRange form = (k : ℕ) → k < count → is_of_form form rows k ≡ true → InRangeOf target form (said_row target raster rows count k)

  module _ (small : Small rows) (form : Form) (h : is_headed form ≡ true) (few : head_number form ≤ 9) {st : State} (r : Ready target st (head_number form)) where
    form-at : AllInRange form → (n : ℕ) → Goes st n (section_text target raster form rows count) (form_rows form n) [] (form_state form st) (form_end form n)
    unfolding form_rows form_state form_end
    form-at range n =
        subst
        (λ (e : Edition). Goes st n (section_text e raster form rows count) (given_rows (is_of_form form rows) (λ k. back_row e form (said_row e raster rows count k)) (suc n) 0 count) []
        (cond (has_kind (pos (form_number form)) rows count) (in_rows st form) st)
        (cond (has_kind (pos (form_number form)) rows count) (suc (line_behind (is_of_form form rows) (suc n) 0 count)) n))
        r.is-of
        (section-back st n raster form rows count h (r.opens (head_number form) (omega arith) few) small (λ k l i. rw r.is-of (range k l i)))

    form-ready : Ready target (form_state form st) (suc (head_number form))
    unfolding form_state
    form-ready = ready-behind r few (has_kind (pos (form_number form)) rows count) (Section (Rows form)) (unfold may_leave in refl)

  -- ---- RF, GRADIENTS, TRAP, ADC
  unfoldable pub event_rows : ℕ → List Placed
  event_rows n =
      form_rows Rf n
      ++ (form_rows Gradient (form_end Rf n) ++ (form_rows Trap (form_end Gradient (form_end Rf n)) ++ form_rows Adc (form_end Trap (form_end Gradient (form_end Rf n)))))

  abbrev pub event_state : State → State
  event_state st = form_state Adc (form_state Trap (form_state Gradient (form_state Rf st)))

  abbrev pub event_end : ℕ → ℕ
  event_end n = form_end Adc (form_end Trap (form_end Gradient (form_end Rf n)))

  module _ (small : Small rows) {st : State} (r : Ready target st 4) where
    ready5 : Ready target (form_state Rf st) 5
    ready5 = form-ready small Rf refl (omega arith) r

    ready6 : Ready target (form_state Gradient (form_state Rf st)) 6
    ready6 = form-ready small Gradient refl (omega arith) ready5

    ready7 : Ready target (form_state Trap (form_state Gradient (form_state Rf st))) 7
    ready7 = form-ready small Trap refl (omega arith) ready6

    events-ready : Ready target (event_state st) 8
    events-ready = form-ready small Adc refl (omega arith) ready7

    events-at : AllInRange Rf → AllInRange Gradient → AllInRange Trap → AllInRange Adc → (n : ℕ) → Goes st n (event_sections target raster rows count) (event_rows n) [] (event_state st) (event_end n)
    unfolding event_sections event_rows
    events-at a b c d n =
        goes_then (form-at small Rf refl (omega arith) r a n)
        (goes_then (form-at small Gradient refl (omega arith) ready5 b (form_end Rf n))
        (goes_then (form-at small Trap refl (omega arith) ready6 c (form_end Gradient (form_end Rf n)))
        (form-at small Adc refl (omega arith) ready7 d (form_end Trap (form_end Gradient (form_end Rf n))))))

-- ---- DELAYS, of 1.3.1 alone
module _ (rows : List ℤ) (count : ℕ) where
  unfoldable pub delay_rows : Edition → ℕ → List Placed
  delay_rows V13 n = given_rows (is_first rows count) (λ k. back_row V13 Delay (delay_row rows count k)) (suc n) 0 count
  delay_rows V14 n = []

  unfoldable pub delay_state : Edition → State → State
  delay_state V13 st = cond (has_delays rows count) (in_rows st Delay) st
  delay_state V14 st = st

  unfoldable pub delay_end : Edition → ℕ → ℕ
  delay_end V13 n = cond (has_delays rows count) (suc (line_behind (is_first rows count) (suc n) 0 count)) n
  delay_end V14 n = n

  delays-at : count ≤ largest_id → ((k : ℕ) → k < count → is_block rows k ≡ true → nanos_at rows k ≤ 10 ^ 12) → (target : Edition) {st : State} → Ready target st 8 → (n : ℕ)
      → Goes st n (delays_for target rows count) (delay_rows target n) [] (delay_state target st) (delay_end target n)
  unfolding delays_for delay_rows delay_state delay_end
  delays-at few long V13 {st} r n =
      subst
      (λ (e : Edition). Goes st n (delays_for V13 rows count) (given_rows (is_first rows count) (λ k. back_row e Delay (delay_row rows count k)) (suc n) 0 count) []
      (cond (has_delays rows count) (in_rows st Delay) st)
      (cond (has_delays rows count) (suc (line_behind (is_first rows count) (suc n) 0 count)) n))
      r.is-of
      (delays-back st n rows count r.is-of (r.delays refl) few long)
  delays-at few long V14 r n = goes_none

  delays-edition : (target : Edition) {st : State} → Ready target st 8 → (delay_state target st).edition ≡ target
  unfolding delay_state
  delays-edition V13 {st} r = edition-behind st r.is-of (has_delays rows count) 10 (Section (Rows Delay))
  delays-edition V14 r = r.is-of

  delays-open : (target : Edition) {st : State} → Ready target st 8 → (j : ℕ) → 8 ≤ j → j ≤ 9 → Open (delay_state target st) j
  unfolding delay_state
  delays-open V13 r j l g = open-behind (r.opens j l g) (has_delays rows count) 10 (λ e. omega arith) (Section (Rows Delay)) (unfold may_leave in refl)
  delays-open V14 r j l g = r.opens j l g

-- ---- EXTENSIONS, from line n on: its rows, whether it is there, where reading is then, and the number of the next line
pub data ListedFrom (target : Edition) (rows : List ℤ) (count n : ℕ) : List Placed → Bool → Listed → ℕ → Type 0 where
  none-listed : has_listed rows count ≡ false → ListedFrom target rows count n [] false Entries n
  some-listed : {rs : List Placed} {last : Listed} {end : ℕ} → has_listed rows count ≡ true → Listing target rows Entries (suc n) 0 count rs last end
      → ListedFrom target rows count n rs true last (suc end)

unfoldable pub listed_state : Bool → Listed → State → State
listed_state b last st = cond b (entered st 8 (Extensions last)) st

listed_at : {target : Edition} (rows : List ℤ) (count : ℕ) → Small rows → {st : State} → st.edition ≡ target → Open st 8 → {n end : ℕ} {rs : List Placed} {b : Bool} {last : Listed}
    → ListedFrom target rows count n rs b last end → Goes st n (extension_section target rows count) rs [] (listed_state b last st) end
unfolding listed_state
listed_at {target} rows count small {st} e o {n} (none-listed h) = no-extensions-back st n target rows count h
listed_at {target} rows count small {st} e o {n} (some-listed {rs} {last} {end} h x) =
    subst (λ (v : Edition). Goes st n (extension_section v rows count) rs [] (entered st 8 (Extensions last)) (suc end)) e
    (extensions-back st n rows count o small h (subst (λ (v : Edition). Listing v rows Entries (suc n) 0 count rs last end) (sym e) x))

pub listed-open : {st : State} → Open st 9 → (b : Bool) (last : Listed) → Open (listed_state b last st) 9
unfolding listed_state
listed-open o b last = open-behind o b 8 (λ e. omega arith) (Extensions last) (unfold may_leave in refl)

-- ---- VERSION: every section of the target may begin
version-open : (target : Edition) (j : ℕ) → 2 ≤ j → j < 12 → has_section target j ≡ true → Open (versioned target) j
version-open target j l g h =
    record {
      leaves = unfold may_leave in refl;
      has = h;
      unseen = get_or-set_other (replicate 12 false) 1 j true false (λ e. omega arith) ∙ get_or-replicate 12 j false false g;
    }

version-ready : (target : Edition) → Ready target (versioned target) 2
unfolding has_section
version-ready target =
    record {
      is-of = refl;
      opens = λ j (l : 2 ≤ j) (g : j ≤ 9). version-open target j l (omega arith) (rw (le-leb 2 j l, le-leb j 9 g));
      delays = λ v. version-open target 10 (omega arith) (omega arith) (subst (λ (e : Edition). has_section e 10 ≡ true) (sym v) refl);
    }

-- ---- All of it
module _ (target : Edition) (raster : ℕ) (file site : List ℕ) (rows : List ℤ) (count : ℕ) (samples : List ℤ) where
  -- behind BLOCKS, and behind DELAYS
  unfoldable pub blocks_state : State
  blocks_state = form_state target raster rows count Block (definitions_state target file site (versioned target))

  unfoldable pub blocks_end : ℕ
  blocks_end = form_end target raster rows count Block (definitions_end target file site 6)

  unfoldable pub delays_state : State
  delays_state = delay_state rows count target (event_state target raster rows count blocks_state)

  unfoldable pub delays_end : ℕ
  delays_end = delay_end rows count target (event_end target raster rows count blocks_end)

  -- the rows up to there, and more behind them
  unfoldable pub first_rows : List Placed → List Placed
  first_rows more =
      form_rows target raster rows count Block (definitions_end target file site 6)
      ++ (event_rows target raster rows count blocks_end ++ (delay_rows rows count target (event_end target raster rows count blocks_end) ++ more))

  pub first-append : (rs more : List Placed) → first_rows (rs ++ more) ≡ first_rows rs ++ more
  unfolding first_rows
  first-append rs more = rw (append_assoc, append_assoc, append_assoc)

  -- the text in front of SHAPES
  abbrev pub front_text : List ℕ
  front_text =
      version_text target
      ++ (definition_section target file site
      ++ (section_text target raster Block rows count ++ (event_sections target raster rows count ++ (delays_for target rows count ++ extension_section target rows count))))

  pub front-then : restated_text target raster file site rows count samples ≡ front_text ++ shape_section target rows count samples
  unfolding restated_text
  front-then = rw (append_assoc, append_assoc, append_assoc, append_assoc, append_assoc)

  -- what is to be said can be said and read
  pub record Readable : Type 0 where
    pub small : Small rows
    pub defined : AllDefining (said_definitions target file site)
    pub blocks : AllInRange target raster rows count Block
    pub rf : AllInRange target raster rows count Rf
    pub gradients : AllInRange target raster rows count Gradient
    pub traps : AllInRange target raster rows count Trap
    pub adc : AllInRange target raster rows count Adc
    pub few : count ≤ largest_id
    pub long : (k : ℕ) → k < count → is_block rows k ≡ true → nanos_at rows k ≤ 10 ^ 12
    pub shapes : (k : ℕ) → k < count → is_kind rows k (pos shape_kind) ≡ true → ShapeIn rows samples k

  module _ (r : Readable) where
    ready3 : Ready target (definitions_state target file site (versioned target)) 3
    ready3 = definitions-ready target file site (version-ready target)

    ready4 : Ready target blocks_state 4
    unfolding blocks_state
    ready4 = form-ready target raster rows count r.small Block refl (omega arith) ready3

    ready8 : Ready target (event_state target raster rows count blocks_state) 8
    ready8 = events-ready target raster rows count r.small ready4

    blocks-here : Goes (definitions_state target file site (versioned target)) (definitions_end target file site 6) (section_text target raster Block rows count)
        (form_rows target raster rows count Block (definitions_end target file site 6))
        []
        blocks_state
        blocks_end
    unfolding blocks_state blocks_end
    blocks-here = form-at target raster rows count r.small Block refl (omega arith) ready3 r.blocks (definitions_end target file site 6)

    delays-here : Goes (event_state target raster rows count blocks_state) (event_end target raster rows count blocks_end) (delays_for target rows count)
        (delay_rows rows count target (event_end target raster rows count blocks_end))
        []
        delays_state
        delays_end
    unfolding delays_state delays_end
    delays-here = delays-at rows count r.few r.long target ready8 (event_end target raster rows count blocks_end)

    pub open-delays : (j : ℕ) → 8 ≤ j → j ≤ 9 → Open delays_state j
    unfolding delays_state
    open-delays = delays-open rows count target ready8

    of-target : delays_state.edition ≡ target
    unfolding delays_state
    of-target = delays-edition rows count target ready8

    module _ {rs : List Placed} {b : Bool} {last : Listed} {end : ℕ} (x : ListedFrom target rows count delays_end rs b last end) where
      pub front-back : Goes fresh 1 front_text (first_rows rs) (numbered 7 (said_definitions target file site)) (listed_state b last delays_state) end
      unfolding first_rows
      front-back =
          rw (append-nil (numbered 7 (said_definitions target file site))) at
          (goes_then (version-back target)
          (goes_then (definitions-at target file site (version-ready target) r.defined 6)
          (goes_then blocks-here
          (goes_then (events-at target raster rows count r.small ready4 r.rf r.gradients r.traps r.adc blocks_end)
          (goes_then delays-here (listed_at rows count r.small of-target (open-delays 8 (omega arith) (omega arith)) x))))))

      -- where SHAPES begins
      abbrev in_shapes : State
      in_shapes = entered (listed_state b last delays_state) 9 (Section Shapes)

      pub text-back : Goes fresh 1 (restated_text target raster file site rows count samples) (first_rows (rs ++ shapes_given target rows samples in_shapes (suc end) 0 count))
          (numbered 7 (said_definitions target file site))
          (cond (has_kind (pos shape_kind) rows count) (shapes_state target rows samples in_shapes 0 count) (listed_state b last delays_state))
          (cond (has_kind (pos shape_kind) rows count) (shapes_line target rows samples (suc end) 0 count) end)
      text-back =
          rw (front-then, first-append)
          (rw (append-nil (numbered 7 (said_definitions target file site))) at
          (goes_then front-back
          (shape-section-back target rows samples count r.shapes (listed_state b last delays_state) end (listed-open (open-delays 9 (omega arith) (omega arith)) b last))))
