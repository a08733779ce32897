-- From stored values to samples: whether the values are the samples themselves, and the sample that a value makes of the sum so far. Samples are
-- counted in steps of 10^-12.
use Rattle.std.specs.Prelude.{ℕ, ◌^◌, Bool, false, eqb, ℤ, ◌+ℤ◌, None, Option, Some}
use Rattle.signed.specs.Signed.{within}
use Rattle.numeral.specs.Worth.{rounded_of}
use Rattle.numeral.specs.declared.Decimal.{Decimal}
use Rattle.shape.specs.declared.Edition.{Edition}
use Rattle.shape.specs.declared.Edition.TheVariants.{V13, V14}

-- ---- "In 1.4, if the stored count equals num_samples, the values are the samples. Otherwise, and in 1.3 always, they are run-length"
unfoldable pub is_plain : Edition → ℕ → ℕ → Bool
is_plain V13 num count = false
is_plain V14 num count = eqb count num

-- ---- "Each value, a plain one too, is then rounded to a multiple of 10^-12, ties away from zero; run-length samples are running sums. A
-- value beyond ±200,000, a sample beyond ±100,000 .. is SHAPE." 100,000 are 10^17 steps.
unfoldable pub sum_to : ℤ → Option ℤ → Option ℤ
sum_to s (Some v) = within (10 ^ 17) (s +ℤ v)
sum_to s None = None

unfoldable pub add_of : ℤ → Decimal → Option ℤ
add_of s d = sum_to s (rounded_of d)
