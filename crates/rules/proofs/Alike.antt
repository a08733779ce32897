-- Two tables that are alike in the first nine numbers of every row: lengths are the same, so it does not matter that the tenth is filled in while
-- they are computed. Assumes nothing.
use Prim.Native.Nat.{ℕ, zero, suc, ◌+◌, ◌≤◌, ◌<◌}
use mathlib.Core.Bool.{Bool, cond}
use mathlib.Core.List.{List, [], ◌∷◌}
use mathlib.Core.Path.{◌≡◌, refl, ap, ◌∙◌}
use native.Mathlib.Omega.{arith}
use lib.IntN.{ℤ, pos}
use lib.ListN.{get_or}
use Rattle.signed.specs.Signed.{same_z}
use Rattle.unit.specs.declared.Rasters.{Rasters}
use Rattle.shape.specs.declared.Edition.{Edition}
use Rattle.shape.specs.declared.Edition.TheVariants.{V13, V14}
use Rattle.tables.specs.Tables.{first_such, number_at, class_at, is_row_of, first_row, NoneAgain, met_row, met_number, samples_of}
use Rattle.chains.specs.Chains.{next_entry}
use Rattle.references.specs.References.{block_refs, rf_refs, gradient_refs, extension_ref, ref_of, ref_at}
use Rattle.lengths.specs.Lengths.{micros_at, steps_at, shaped_length, trap_length, adc_length, length_of, length_at}
use Rattle.blocks.specs.Inside.{is_trigger, has_triggers, Timed}
use Rattle.blocks.specs.Blocks.{met_length, entry_length, chain_length, reference_length, longest_of, number_length, longest_event, block_length}

abbrev pub Alike : List ℤ → List ℤ → Type 0
Alike rows other = (k c : ℕ) → c < 9 → number_at rows k c ≡ number_at other k c

-- ---- the first row, and the longest, of two questions that are answered alike
such-same : (f g : ℕ → Bool) → ((k : ℕ) → f k ≡ g k) → (k m : ℕ) → first_such f k m ≡ first_such g k m
unfolding first_such
such-same f g h k zero = refl
such-same f g h k (suc m) = rw (h k, such-same f g h (suc k) m)

longest-same : (f g : ℕ → ℕ) → ((c : ℕ) → c < 9 → f c ≡ g c) → (c m : ℕ) → c + m ≤ 9 → longest_of f c m ≡ longest_of g c m
unfolding longest_of
longest-same f g h c zero l = refl
longest-same f g h c (suc m) l = rw (h c (omega arith), longest-same f g h (suc c) m (omega arith))

-- the class that number c of a row refers to, by its kind and, of an entry, by the class of its type
abbrev ref_for : Edition → ℕ → ℤ → ℤ → ℤ
ref_for e c kind class =
    cond (same_z kind (pos 1)) (pos (get_or (block_refs e) c 0))
    (cond (same_z kind (pos 2)) (pos (get_or rf_refs c 0))
    (cond (same_z kind (pos 3)) (pos (get_or gradient_refs c 0))
    (cond (same_z kind (pos 7)) (get_or (pos 0 ∷ pos 0 ∷ pos 8 ∷ class ∷ pos 7 ∷ []) c (pos 0)) (pos 0))))

module _ (rows other : List ℤ) (same : Alike rows other) (n : ℕ) where
  -- ---- rows that are met
  class_same : (k : ℕ) → class_at rows k ≡ class_at other k
  unfolding class_at
  class_same k = rw (same k 0 (omega arith), same k 2 (omega arith))

  row_same : (class id : ℤ) (k : ℕ) → is_row_of rows class id k ≡ is_row_of other class id k
  unfolding is_row_of
  row_same class id k = rw (class_same k, same k 1 (omega arith))

  pub once-same : NoneAgain other n → NoneAgain rows n
  unfolding NoneAgain first_row
  once-same once k h =
      rw (such-same (is_row_of rows (class_at rows k) (number_at rows k 1)) (is_row_of other (class_at rows k) (number_at rows k 1)) (row_same (class_at rows k) (number_at rows k 1)) 0 n, class_same k, same k 1 (omega arith))
      (once k h)

  -- where a flag says that none of the one's rows is a trigger, none of the other's is
  pub timed-same : (timed : Bool) → Timed timed other n → Timed timed rows n
  unfolding Timed has_triggers is_trigger
  timed-same timed h = λ e. rw (such-same (is_trigger rows) (is_trigger other) (λ k. rw (same k 0 (omega arith))) 0 n) (h e)

  met-same : (class id : ℤ) → met_row rows n class id ≡ met_row other n class id
  unfolding met_row first_row
  met-same class id = rw (such-same (is_row_of rows class id) (is_row_of other class id) (row_same class id) 0 n)

  number_same : (class id : ℤ) (c : ℕ) → c < 9 → met_number rows n class id c ≡ met_number other n class id c
  unfolding met_number
  number_same class id c h = rw (met-same class id, same (met_row other n class id) c h)

  next-same : (k : ℕ) → next_entry rows n k ≡ next_entry other n k
  unfolding next_entry
  next-same k = rw (same k 4 (omega arith), met-same (pos 7) (number_at other k 4))

  extension-same : (type : ℤ) → extension_ref rows n type ≡ extension_ref other n type
  unfolding extension_ref
  extension-same type = rw (number_same (pos 8) type 2 (omega arith))

  ref-same : (e : Edition) (k c : ℕ) → ref_at e rows n k c ≡ ref_at e other n k c
  unfolding ref_at ref_of
  ref-same e k c =
      ap (ref_for e c (number_at rows k 0)) (ap (extension_ref rows n) (same k 2 (omega arith)) ∙ extension-same (number_at other k 2))
      ∙ ap (λ (kind : ℤ). ref_for e c kind (extension_ref other n (number_at other k 2))) (same k 0 (omega arith))

  module _ (samples : List ℤ) (q : Rasters) where
    samples-same : (id : ℤ) → samples_of rows n samples id ≡ samples_of other n samples id
    unfolding samples_of
    samples-same id = rw (number_same (pos 11) id 2 (omega arith), number_same (pos 11) id 3 (omega arith))

    -- ---- lengths
    micros-same : (k c : ℕ) → c < 9 → micros_at rows k c ≡ micros_at other k c
    unfolding micros_at
    micros-same k c h = rw (same k c h)

    steps-same : (k c : ℕ) → c < 9 → steps_at rows n samples k c ≡ steps_at other n samples k c
    unfolding steps_at
    steps-same k c h = rw (same k c h, same k 4 (omega arith), samples-same (number_at other k 4), samples-same (number_at other k c))

    shaped-same : (k c delay raster : ℕ) → c < 9 → delay < 9 → shaped_length rows n samples k c delay raster ≡ shaped_length other n samples k c delay raster
    unfolding shaped_length
    shaped-same k c delay raster h l = rw (micros-same k delay l, steps-same k c h)

    trap-same : (k : ℕ) → trap_length rows k ≡ trap_length other k
    unfolding trap_length
    trap-same k = rw (micros-same k 7 (omega arith), micros-same k 4 (omega arith), micros-same k 5 (omega arith), micros-same k 6 (omega arith))

    adc-same : (k : ℕ) → adc_length rows k ≡ adc_length other k
    unfolding adc_length
    adc-same k = rw (micros-same k 4 (omega arith), same k 2 (omega arith), same k 3 (omega arith))

    length-same : (k : ℕ) → length_at q rows n samples k ≡ length_at q other n samples k
    unfolding length_at length_of
    length-same k =
        rw (same k 0 (omega arith), shaped-same k 6 7 q.rf.0 (omega arith) (omega arith), shaped-same k 5 6 q.gradient.0 (omega arith) (omega arith), trap-same k, adc-same k, micros-same k 2 (omega arith), micros-same k 4 (omega arith), micros-same k 5 (omega arith))

    event-same : (class id : ℤ) → met_length q rows n samples class id ≡ met_length q other n samples class id
    unfolding met_length
    event-same class id = rw (met-same class id, length-same (met_row other n class id))

    entry-same : (k : ℕ) → entry_length q rows n samples k ≡ entry_length q other n samples k
    unfolding entry_length
    entry-same k =
        rw (same k 2 (omega arith), same k 3 (omega arith), extension-same (number_at other k 2), event-same (extension_ref other n (number_at other k 2)) (number_at other k 3))

    chain_same : (left k : ℕ) → chain_length q rows n samples left k ≡ chain_length q other n samples left k
    unfolding chain_length
    chain_same zero k = refl
    chain_same (suc left) k = rw (entry-same k, next-same k, chain_same left (next_entry other n k))

    reference-same : (class id : ℤ) → reference_length q rows n samples class id ≡ reference_length q other n samples class id
    unfolding reference_length
    reference-same class id = rw (met-same class id, chain_same 256 (met_row other n class id), event-same class id)

    part_same : (e : Edition) (k c : ℕ) → c < 9 → number_length e q rows n samples k c ≡ number_length e q other n samples k c
    unfolding number_length
    part_same e k c h = rw (ref-same e k c, same k c h, reference-same (ref_at e other n k c) (number_at other k c))

    all_same : (e : Edition) (k : ℕ) → longest_event e q rows n samples k ≡ longest_event e q other n samples k
    unfolding longest_event
    all_same e k = longest-same (number_length e q rows n samples k) (number_length e q other n samples k) (part_same e k) 2 7 (omega arith)

    pub block_same : (e : Edition) (k : ℕ) → block_length e q rows n samples k ≡ block_length e q other n samples k
    unfolding block_length
    block_same V13 k = all_same V13 k
    block_same V14 k = rw (same k 2 (omega arith))
