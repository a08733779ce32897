-- Where a restated text ends, its edition is the target's, and for 1.4.1 it has its definitions. Assumes nothing.
use Prim.Native.Nat.{ℕ, zero, suc, ◌≤◌}
use mathlib.Core.Bool.{Bool, true, false, cond}
use mathlib.Core.List.{List}
use mathlib.Core.Path.{◌≡◌, refl, sym, ◌∙◌}
use native.Mathlib.Omega.{arith}
use borrow.Author.Tests.{lt-ltb}
use lib.Dec.{ltb}
use lib.IntN.{ℤ, pos, nat_abs}
use lib.ListN.{length, get_or}
use lib.Seq.{get_or-set_other}
use Rattle.shape.specs.declared.Edition.{Edition}
use Rattle.shape.specs.declared.Edition.TheVariants.{V13, V14}
use Rattle.columns.specs.Columns.{form_number, shape_kind}
use Rattle.columns.specs.declared.Form.{Form}
use Rattle.columns.specs.declared.Form.TheVariants.{Block, Rf, Gradient, Trap, Adc, Delay}
use Rattle.tables.specs.Tables.{number_at}
use Rattle.sections.specs.Entering.{entered}
use Rattle.places.specs.declared.Lines.TheVariants.{Shapes, Rows, Definitions}
use Rattle.places.specs.declared.Listed.{Listed}
use Rattle.places.specs.declared.Place.{Place}
use Rattle.places.specs.declared.Place.TheVariants.{Section, Extensions}
use Rattle.places.specs.declared.State.{State}
use Rattle.grammar.specs.Steps.{counted_of}
use Rattle.file.specs.Rows.{Placed}
use Rattle.sayable.specs.Sayable.{is_kind}
use Rattle.said.specs.Said.{has_kind}
use Rattle.section_text.specs.Sections.{has_delays}
use Rattle.restated_laws.proofs.SectionBack.{versioned, head_number}
use Rattle.restated_laws.proofs.ShapeBack.{behind_shape, shapes_state}
use Rattle.restated_laws.proofs.DefinedSection.{said_definitions}
use Rattle.restated_laws.proofs.TextBack.{definitions_state, form_state, event_state, delay_state, listed_state, blocks_state, delays_state, Readable, ListedFrom, delays_end}
use Rattle.restated_laws.proofs.WholeBack.{end_state}

-- ---- A later state: of the same edition, and with its definitions still met
record Behind (st end : State) : Type 0 where
  edition : end.edition ≡ st.edition
  defined : get_or st.seen 2 false ≡ true → get_or end.seen 2 false ≡ true

behind-self : {st : State} → Behind st st
behind-self = record { edition = refl; defined = λ d. d }

behind-then : {st mid end : State} → Behind st mid → Behind mid end → Behind st end
behind-then p q = record { edition = q.edition ∙ p.edition; defined = λ d. q.defined (p.defined d) }

-- another section, where there is one
behind-section : (st : State) (b : Bool) (k : ℕ) (p : Place) → (k ≡ 2 → ⊥) → Behind st (cond b (entered st k p) st)
behind-section st true k p other = record { edition = refl; defined = λ d. get_or-set_other st.seen k 2 true false (λ e. other (sym e)) ∙ d }
behind-section st false k p other = behind-self

behind-shape : (st : State) (num : ℕ) → Behind st (behind_shape st num)
unfolding counted_of
behind-shape st num = record { edition = refl; defined = λ d. d }

behind-shapes : (target : Edition) (rows samples : List ℤ) (st : State) (k m : ℕ) → Behind st (shapes_state target rows samples st k m)
unfolding shapes_state
behind-shapes target rows samples st k zero = behind-self
behind-shapes target rows samples st k (suc m) = go (is_kind rows k (pos shape_kind)) (λ next. behind-shapes target rows samples next (suc k) m)
  where
    go : (b : Bool) → ((next : State) → Behind next (shapes_state target rows samples next (suc k) m))
        → Behind st (cond b (shapes_state target rows samples (behind_shape st (nat_abs (number_at rows k 2))) (suc k) m) (shapes_state target rows samples st (suc k) m))
    go true f = behind-then (behind-shape st (nat_abs (number_at rows k 2))) (f _)
    go false f = f st

module _ (target : Edition) (raster : ℕ) (rows : List ℤ) (count : ℕ) where
  behind-form : (form : Form) → (head_number form ≡ 2 → ⊥) → (st : State) → Behind st (form_state target raster rows count form st)
  unfolding form_state
  behind-form form other st = behind-section st (has_kind (pos (form_number form)) rows count) (head_number form) (Section (Rows form)) other

  behind-events : (st : State) → Behind st (event_state target raster rows count st)
  behind-events st =
      behind-then (behind-form Rf (λ e. omega arith) st)
      (behind-then (behind-form Gradient (λ e. omega arith) _) (behind-then (behind-form Trap (λ e. omega arith) _) (behind-form Adc (λ e. omega arith) _)))

behind-delays : (rows : List ℤ) (count : ℕ) (target : Edition) (st : State) → Behind st (delay_state rows count target st)
unfolding delay_state
behind-delays rows count V13 st = behind-section st (has_delays rows count) 10 (Section (Rows Delay)) (λ e. omega arith)
behind-delays rows count V14 st = behind-self

-- ---- All of it
module _ (target : Edition) (raster : ℕ) (file site : List ℕ) (rows : List ℤ) (count : ℕ) (samples : List ℤ) where
  behind-definitions : Behind (definitions_state target file site (versioned target)) (delays_state target raster file site rows count samples)
  unfolding delays_state blocks_state
  behind-definitions =
      behind-then (behind-form target raster rows count Block (λ e. omega arith) _) (behind-then (behind-events target raster rows count _) (behind-delays rows count target _))

  definitions-edition : (definitions_state target file site (versioned target)).edition ≡ target
  unfolding definitions_state
  definitions-edition = behind-edition (ltb 0 (length (said_definitions target file site)))
    where
      behind-edition : (b : Bool) → (cond b (entered (versioned target) 2 (Section Definitions)) (versioned target)).edition ≡ target
      behind-edition true = refl
      behind-edition false = refl

  definitions-seen : 1 ≤ length (said_definitions target file site) → get_or (definitions_state target file site (versioned target)).seen 2 false ≡ true
  unfolding definitions_state
  definitions-seen h = rw (lt-ltb 0 (length (said_definitions target file site)) (omega arith)) refl

  module _ (r : Readable target raster file site rows count samples) {rs : List Placed} {b : Bool} {last : Listed} {end : ℕ}
      (x : ListedFrom target rows count (delays_end target raster file site rows count samples) rs b last end) where
    abbrev delays : State
    delays = delays_state target raster file site rows count samples

    end-behind : Behind (definitions_state target file site (versioned target)) (end_state target raster file site rows count samples r x)
    unfolding end_state
    end-behind = behind-then behind-definitions (behind-then behind-listed (go (has_kind (pos shape_kind) rows count)))
      where
        behind-listed : Behind delays (listed_state b last delays)
        behind-listed = unfold listed_state in behind-section delays b 8 (Extensions last) (λ e. omega arith)

        go : (c : Bool) → Behind (listed_state b last delays) (cond c (shapes_state target rows samples (entered (listed_state b last delays) 9 (Section Shapes)) 0 count) (listed_state b last delays))
        go true = behind-then (behind-section (listed_state b last delays) true 9 (Section Shapes) (λ e. omega arith)) (behind-shapes target rows samples _ 0 count)
        go false = behind-self

    pub end-edition : (end_state target raster file site rows count samples r x).edition ≡ target
    end-edition = end-behind.edition ∙ definitions-edition

    pub end-defined : 1 ≤ length (said_definitions target file site) → get_or (end_state target raster file site rows count samples r x).seen 2 false ≡ true
    end-defined h = end-behind.defined (definitions-seen h)
