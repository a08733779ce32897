-- "Length": for all rows in range lengths are far below the end of the scale, so none is capped. Assumes nothing.
use Prim.Native.Nat.{ℕ, zero, suc, ◌+◌, ◌-◌, ◌*◌, ◌^◌, ◌≤◌, ◌<◌, max}
use mathlib.Core.Bool.{Bool, true, false, cond, ◌&&◌}
use mathlib.Core.List.{List, [], ◌∷◌}
use mathlib.Core.Path.{◌≡◌, refl, ap}
use native.Mathlib.Nat.{mul-le-mul}
use native.Mathlib.Omega.{arith}
use borrow.Author.Tests.{ltb-true}
use lib.Dec.{ltb}
use lib.IntN.{ℤ, pos, nat_abs}
use lib.ListN.{length, take, drop, length-take}
use Rattle.signed.specs.Signed.{same_z}
use Rattle.signed.proofs.Sign.{same_z-true}
use Rattle.text.proofs.Cases.{and_both}
use Rattle.unit.specs.Time.{capped, longest}
use Rattle.unit.specs.declared.Rasters.{Rasters}
use Rattle.unit.proofs.Exact.{capped-exact}
use Rattle.shape.specs.declared.Edition.{Edition}
use Rattle.shape.specs.declared.Edition.TheVariants.{V13, V14}
use Rattle.columns.specs.Columns.{columns_of}
use Rattle.columns.specs.declared.Form.TheVariants.{Block, Rf, Gradient, Trap, Adc, Delay, Trigger}
use Rattle.tables.specs.Tables.{first_such, number_at, class_of, class_at, is_row_of, first_row, met_row, met_number, samples_of, one}
use Rattle.tables.proofs.Found.{first-is}
use Rattle.references.specs.References.{ref_at}
use Rattle.lengths.specs.Lengths.{micros_at, last_time, steps_at, shaped_length, trap_length, adc_length, length_of, length_at}
use Rattle.chains.specs.Chains.{next_entry}
use Rattle.blocks.specs.Blocks.{met_length, entry_length, chain_length, reference_length, longest_of, number_length, longest_event, block_length, is_block, outlasts_at}
use Rattle.exact_lengths.specs.Tables.{RowHeld, SamplesIn, TablesIn}
use Rattle.exact_lengths.proofs.Most.{most_at, number-most, count_most}

-- ---- no event and no block of a table in range is longer than 2 * 10^15 ns, about 23 days
abbrev pub most_ever : ℕ
most_ever = 2000000000000000

-- ---- parts of samples
take_in : (m : ℕ) (l : List ℤ) → SamplesIn l → SamplesIn (take m l)
take_in zero l h i = omega arith
take_in (suc m) [] h i = omega arith
take_in (suc m) (z ∷ zs) h zero = h 0
take_in (suc m) (z ∷ zs) h (suc i) = take_in m zs (λ j. h (suc j)) i

drop-in : (m : ℕ) (l : List ℤ) → SamplesIn l → SamplesIn (drop m l)
drop-in zero l h i = h i
drop-in (suc m) [] h i = omega arith
drop-in (suc m) (z ∷ zs) h i = drop-in m zs (λ j. h (suc j)) i

-- ---- one of two, by a test
by-test : (b : Bool) (x y most : ℕ) → (b ≡ true → x ≤ most) → (b ≡ false → y ≤ most) → cond b x y ≤ most
by-test true x y most f g = f refl
by-test false x y most f g = g refl

-- ---- a row of the class of shapes is a shape
class-shape : (kind second : ℤ) → class_of kind second ≡ pos 11 → kind ≡ pos 11
unfolding class_of
class-shape kind second = go (same_z kind (pos 4)) (same_z kind (pos 10) && same_z second (pos 1))
  where
    go : (a b : Bool) → cond a (pos 3) (cond b (pos 12) kind) ≡ pos 11 → kind ≡ pos 11
    go true b e = absurd (let z : 3 ≡ 11 = ap nat_abs e in omega arith)
    go false true e = absurd (let z : 12 ≡ 11 = ap nat_abs e in omega arith)
    go false false e = e

module _ (e : Edition) (q : Rasters) (rows : List ℤ) (n : ℕ) (samples : List ℤ) (t : TablesIn e q rows n samples) where
  -- ---- the row that is met
  met-class : (class id : ℤ) → met_row rows n class id < n → class_at rows (met_row rows n class id) ≡ class
  unfolding met_row first_row is_row_of
  met-class class id = go (same_z id (pos 0))
    where
      go : (b : Bool) → cond b n (first_such (is_row_of rows class id) 0 n) < n → class_at rows (cond b n (first_such (is_row_of rows class id) 0 n)) ≡ class
      go true h = absurd (omega arith)
      go false h =
          let f = first-is (is_row_of rows class id) 0 n in
          let z : 0 + n ≡ n = omega arith in
          same_z-true _ class (and_both _ (same_z (number_at rows (first_such (is_row_of rows class id) 0 n) 1) id) (f.here (rw z h))).0

  -- ---- samples of a shape
  samples-few : (id : ℤ) → length (samples_of rows n samples id) ≤ 10 ^ 6
  unfolding samples_of met_number class_at
  samples-few id =
      let l = length-take (nat_abs (met_number rows n (pos 11) id 2)) (drop (nat_abs (met_number rows n (pos 11) id 3)) samples) in
      let few = counted (ltb (met_row rows n (pos 11) id) n) refl in
      omega arith
    where
      counted : (b : Bool) → ltb (met_row rows n (pos 11) id) n ≡ b → nat_abs (cond b (number_at rows (met_row rows n (pos 11) id) 2) (pos 0)) ≤ 10 ^ 6
      counted true x =
          let h = ltb-true (met_row rows n (pos 11) id) n x in
          count_most e rows (met_row rows n (pos 11) id) (t.each _ h) (class-shape _ _ (met-class (pos 11) id h))
      counted false x = omega arith

  samples-within : (id : ℤ) → SamplesIn (samples_of rows n samples id)
  unfolding samples_of
  samples-within id =
      take_in (nat_abs (met_number rows n (pos 11) id 2)) (drop (nat_abs (met_number rows n (pos 11) id 3)) samples) (drop-in (nat_abs (met_number rows n (pos 11) id 3)) samples t.values)

  last-few : (id : ℤ) → last_time (samples_of rows n samples id) ≤ 10 ^ 6
  unfolding last_time
  last-few id = let within = samples-within id (length (samples_of rows n samples id) - 1) in omega arith

  steps-few : (k c : ℕ) → steps_at rows n samples k c ≤ 10 ^ 6
  unfolding steps_at
  steps-few k c = by-test (same_z (number_at rows k c) (pos 0)) _ _ (10 ^ 6) (λ x. samples-few (number_at rows k 4)) (λ x. last-few (number_at rows k c))

  -- ---- one row
  module _ (k : ℕ) (held : RowHeld e rows k) where
    shaped-most : (c delay raster : ℕ) → nat_abs (number_at rows k delay) ≤ 10 ^ 9 → raster ≤ 10 ^ 6 → shaped_length rows n samples k c delay raster ≤ most_ever
    unfolding shaped_length micros_at
    shaped-most c delay raster d r =
        let m : steps_at rows n samples k c * raster ≤ 1000000000000 = mul-le-mul (steps-few k c) r in omega arith

    rf-delay : number_at rows k 0 ≡ pos 2 → nat_abs (number_at rows k 7) ≤ 10 ^ 9
    unfolding columns_of
    rf-delay p = by-edition e (number-most e Rf 6 rows k held p)
      where
        by-edition : (e : Edition) → nat_abs (number_at rows k 7) ≤ most_at (columns_of e Rf) 6 → nat_abs (number_at rows k 7) ≤ 10 ^ 9
        by-edition V13 h = h
        by-edition V14 h = h

    gradient-delay : number_at rows k 0 ≡ pos 3 → nat_abs (number_at rows k 6) ≤ 10 ^ 9
    unfolding columns_of
    gradient-delay p = by-edition e (number-most e Gradient 5 rows k held p)
      where
        by-edition : (e : Edition) → nat_abs (number_at rows k 6) ≤ most_at (columns_of e Gradient) 5 → nat_abs (number_at rows k 6) ≤ 10 ^ 9
        by-edition V13 h = h
        by-edition V14 h = h

    trap-most : number_at rows k 0 ≡ pos 4 → trap_length rows k ≤ most_ever
    unfolding trap_length micros_at columns_of
    trap-most p =
        let a : nat_abs (number_at rows k 4) ≤ 10 ^ 9 = number-most e Trap 3 rows k held p in
        let b : nat_abs (number_at rows k 5) ≤ 10 ^ 9 = number-most e Trap 4 rows k held p in
        let c : nat_abs (number_at rows k 6) ≤ 10 ^ 9 = number-most e Trap 5 rows k held p in
        let d : nat_abs (number_at rows k 7) ≤ 10 ^ 9 = number-most e Trap 6 rows k held p in
        omega arith

    adc-most : number_at rows k 0 ≡ pos 5 → adc_length rows k ≤ most_ever
    unfolding adc_length micros_at columns_of
    adc-most p =
        let num : nat_abs (number_at rows k 2) ≤ 10 ^ 6 = number-most e Adc 1 rows k held p in
        let dwell : nat_abs (number_at rows k 3) ≤ 10 ^ 9 = number-most e Adc 2 rows k held p in
        let delay : nat_abs (number_at rows k 4) ≤ 10 ^ 9 = number-most e Adc 3 rows k held p in
        let m : nat_abs (number_at rows k 2) * nat_abs (number_at rows k 3) ≤ 1000000000000000 = mul-le-mul num dwell in
        omega arith

    delay-most : number_at rows k 0 ≡ pos 6 → micros_at rows k 2 ≤ most_ever
    unfolding micros_at columns_of
    delay-most p = let a : nat_abs (number_at rows k 2) ≤ 10 ^ 9 = number-most e Delay 1 rows k held p in omega arith

    trigger-most : number_at rows k 0 ≡ pos 9 → micros_at rows k 4 + micros_at rows k 5 ≤ most_ever
    unfolding micros_at columns_of
    trigger-most p =
        let a : nat_abs (number_at rows k 4) ≤ 10 ^ 9 = number-most e Trigger 3 rows k held p in
        let b : nat_abs (number_at rows k 5) ≤ 10 ^ 9 = number-most e Trigger 4 rows k held p in
        omega arith

    length-held : length_at q rows n samples k ≤ most_ever
    unfolding length_at length_of
    length-held =
        let kind = number_at rows k 0 in
        by-test (same_z kind (pos 2)) _ _ most_ever (λ x. shaped-most 6 7 q.rf.0 (rf-delay (same_z-true kind (pos 2) x)) t.rasters.rf)
        (λ a. by-test (same_z kind (pos 3)) _ _ most_ever (λ x. shaped-most 5 6 q.gradient.0 (gradient-delay (same_z-true kind (pos 3) x)) t.rasters.gradient)
        (λ b. by-test (same_z kind (pos 4)) _ _ most_ever (λ x. trap-most (same_z-true kind (pos 4) x))
        (λ c. by-test (same_z kind (pos 5)) _ _ most_ever (λ x. adc-most (same_z-true kind (pos 5) x))
        (λ d. by-test (same_z kind (pos 6)) _ _ most_ever (λ x. delay-most (same_z-true kind (pos 6) x))
        (λ f. by-test (same_z kind (pos 9)) _ _ most_ever (λ x. trigger-most (same_z-true kind (pos 9) x)) (λ g. omega arith))))))

  -- ---- each event of the table
  pub length_most : (k : ℕ) → k < n → length_at q rows n samples k ≤ most_ever
  length_most k h = length-held k (t.each k h)

  met-most : (class id : ℤ) → met_length q rows n samples class id ≤ most_ever
  unfolding met_length
  met-most class id =
      by-test (ltb (met_row rows n class id) n) _ _ most_ever (λ x. length_most (met_row rows n class id) (ltb-true (met_row rows n class id) n x)) (λ x. omega arith)

  chain-most : (left k : ℕ) → chain_length q rows n samples left k ≤ most_ever
  unfolding chain_length entry_length
  chain-most zero k = omega arith
  chain-most (suc left) k =
      let own = met-most _ _ in
      let rest = chain-most left (next_entry rows n k) in
      by-test (ltb k n) _ _ most_ever (λ x. both _ _ own rest) (λ x. omega arith)
    where
      both : (a b : ℕ) → a ≤ most_ever → b ≤ most_ever → max a b ≤ most_ever
      both a b x y = omega arith

  reference-most : (class id : ℤ) → reference_length q rows n samples class id ≤ most_ever
  unfolding reference_length
  reference-most class id =
      by-test (same_z class (pos 7)) _ _ most_ever (λ x. chain-most 256 (met_row rows n class id)) (λ x. met-most class id)

  longest-most : (f : ℕ → ℕ) → ((c : ℕ) → f c ≤ most_ever) → (c m : ℕ) → longest_of f c m ≤ most_ever
  unfolding longest_of
  longest-most f h c zero = omega arith
  longest-most f h c (suc m) = let a = h c in let b = longest-most f h (suc c) m in omega arith

  pub event-most : (edition : Edition) (k : ℕ) → longest_event edition q rows n samples k ≤ most_ever
  unfolding longest_event number_length
  event-most edition k = longest-most _ (λ c. reference-most (ref_at edition rows n k c) (number_at rows k c)) 2 7

  -- ---- each block
  pub block-most : (k : ℕ) → k < n → number_at rows k 0 ≡ pos 1 → block_length e q rows n samples k ≤ most_ever
  unfolding block_length columns_of
  block-most k h p = by-edition e (number-most e Block 1 rows k (t.each k h) p) (event-most V13 k)
    where
      by-edition : (e : Edition) → nat_abs (number_at rows k 2) ≤ most_at (columns_of e Block) 1 → longest_event V13 q rows n samples k ≤ most_ever
          → block_length e q rows n samples k ≤ most_ever
      by-edition V13 d l = l
      by-edition V14 d l = let m : nat_abs (number_at rows k 2) * q.block.0 ≤ 1000000000000000 = mul-le-mul d t.rasters.block in omega arith

  -- ---- so nothing is capped, and OUTLASTS compares the lengths themselves
  pub length-exact : (k : ℕ) → k < n → capped (length_at q rows n samples k) ≡ length_at q rows n samples k
  length-exact k h = let m = length_most k h in capped-exact (length_at q rows n samples k) (omega arith)

  pub block-exact : (k : ℕ) → k < n → number_at rows k 0 ≡ pos 1 → capped (block_length e q rows n samples k) ≡ block_length e q rows n samples k
  block-exact k h p = let m = block-most k h p in capped-exact (block_length e q rows n samples k) (omega arith)

  pub event-exact : (edition : Edition) (k : ℕ) → capped (longest_event edition q rows n samples k) ≡ longest_event edition q rows n samples k
  event-exact edition k = let m = event-most edition k in capped-exact (longest_event edition q rows n samples k) (omega arith)

pub outlasts-exact : (q : Rasters) (rows : List ℤ) (n : ℕ) (samples : List ℤ) → TablesIn V14 q rows n samples → (k : ℕ) → k < n
    → outlasts_at q rows n samples k ≡ (is_block rows k && ltb (block_length V14 q rows n samples k) (longest_event V14 q rows n samples k))
unfolding outlasts_at
outlasts-exact q rows n samples t k h = go (is_block rows k) refl
  where
    go : (b : Bool) → is_block rows k ≡ b
        → (b && ltb (capped (block_length V14 q rows n samples k)) (capped (longest_event V14 q rows n samples k))) ≡ (b && ltb (block_length V14 q rows n samples k) (longest_event V14 q rows n samples k))
    go true x = rw (block-exact V14 q rows n samples t k h (same_z-true (number_at rows k 0) (pos 1) x), event-exact V14 q rows n samples t V14 k)
    go false x = refl
