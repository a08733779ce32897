-- Stored values expanded into samples. Samples are counted in steps of 10^-12.
use Rattle.std.specs.Prelude.{ℕ, zero, suc, Bool, true, false, cond, ◌&&◌, List, [], ◌∷◌, eqb, ℤ, pos, length, None, Option, Some}
use Rattle.decimals.specs.Decimal.{same_decimal}
use Rattle.numeral.specs.Worth.{whole_of}
use Rattle.numeral.specs.declared.Decimal.{Decimal}
use Rattle.shape.specs.Samples.{add_of, is_plain}
use Rattle.shape.specs.declared.Edition.{Edition}

-- one after the other, up to an end or a fault
pub data Trace (A : Type 0) : Type 0 where
  done : Trace A
  fault : Trace A
  next : A → Trace A → Trace A

-- ---- "They are run-length differences: a fresh value hands on to a possible repeat, and a repeat hands back after its count."
-- "Two equal values are followed by a whole count, 0 to 10^6, of further repeats; the value after a count is fresh. Equality is of exact
-- decimals."
unfoldable pub repeated : ℕ → Decimal → Trace Decimal → Trace Decimal
repeated zero d t = t
repeated (suc n) d t = next d (repeated n d t)

unfoldable pub counted : Option ℕ → Decimal → Trace Decimal → Trace Decimal
counted (Some n) d t = repeated n d t
counted None d t = fault

unfoldable mutual
  pub fresh_of : List Decimal → Trace Decimal
  fresh_of [] = done
  fresh_of (d ∷ ds) = next d (repeat_of d ds)

  -- behind a value: the same once more makes a pair, and any other is fresh
  pub repeat_of : Decimal → List Decimal → Trace Decimal
  repeat_of last [] = done
  repeat_of last (d ∷ ds) = next d (cond (same_decimal d last) (pair_of d ds) (repeat_of d ds))

  -- behind a pair
  pub pair_of : Decimal → List Decimal → Trace Decimal
  pair_of d [] = fault
  pair_of d (c ∷ ds) = counted (whole_of c 0 0 1000000) d (fresh_of ds)

-- ---- "Run-length samples are running sums"; a plain value is a sample by itself
unfoldable pub then_sum : Option ℤ → (ℤ → Trace ℤ) → Trace ℤ
then_sum (Some z) k = next z (k z)
then_sum None k = fault

unfoldable pub sums_of : ℤ → Trace Decimal → Trace ℤ
sums_of s done = done
sums_of s fault = fault
sums_of s (next d t) = then_sum (add_of s d) (λ z. sums_of z t)

unfoldable pub plain_of : List Decimal → Trace ℤ
plain_of [] = done
plain_of (d ∷ ds) = then_sum (add_of (pos 0) d) (λ z. plain_of ds)

unfoldable pub trace_of : Bool → List Decimal → Trace ℤ
trace_of plain ds = cond plain (plain_of ds) (sums_of (pos 0) (fresh_of ds))

-- ---- The samples, if there is no fault and they are as many as declared: "a wrong total is SHAPE"
unfoldable pub samples_in : Trace ℤ → List ℤ
samples_in done = []
samples_in fault = []
samples_in (next z t) = z ∷ samples_in t

unfoldable pub ends_well : Trace ℤ → Bool
ends_well done = true
ends_well fault = false
ends_well (next z t) = ends_well t

unfoldable pub expands_to : ℕ → Trace ℤ → Bool
expands_to num t = ends_well t && eqb (length (samples_in t)) num

-- what a list of stored values is, in an edition, for a number of samples
unfoldable pub expansion_of : Edition → ℕ → List Decimal → Trace ℤ
expansion_of edition num ds = trace_of (is_plain edition num (length ds)) ds
