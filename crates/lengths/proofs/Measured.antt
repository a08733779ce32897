-- Lengths of rows, by the answers of the code's tests. Assumes nothing.
use Prim.Native.Nat.{ℕ, ◌+◌, ◌*◌}
use mathlib.Core.List.{List}
use mathlib.Core.Path.{◌≡◌, ap, ◌∙◌}
use native.Mathlib.Omega.{arith}
use lib.IntN.{ℤ, nat_abs}
use Rattle.unit.specs.Time.{capped}
use Rattle.unit.proofs.Exact.{capped-plus}
use Rattle.tables.specs.Tables.{number_at}
use Rattle.lengths.specs.Lengths.{count_at, micros_at, trap_length, adc_length}

-- ---- times of a row
module _ (rows : List ℤ) (k : ℕ) where
  pub trap-is : (ns start end delay rise flat fall : ℕ) → delay ≡ capped (micros_at rows k 7) → rise ≡ capped (micros_at rows k 4) → flat ≡ capped (micros_at rows k 5)
      → fall ≡ capped (micros_at rows k 6) → start ≡ capped (delay + rise) → end ≡ capped (flat + fall) → ns ≡ capped (start + end) → ns ≡ capped (trap_length rows k)
  unfolding trap_length
  trap-is ns start end delay rise flat fall d r l f s e p = p ∙ rw (s, e, d, r, l, f)
      (rw (capped-plus (micros_at rows k 7) (micros_at rows k 4), capped-plus (micros_at rows k 5) (micros_at rows k 6))
      (capped-plus (micros_at rows k 7 + micros_at rows k 4) (micros_at rows k 5 + micros_at rows k 6) ∙ ap capped (omega arith)))

  pub adc-is : (ns wait play num dwell : ℕ) (count width : ℤ) → count ≡ number_at rows k 2 → num ≡ nat_abs count → width ≡ number_at rows k 3 → dwell ≡ nat_abs width
      → wait ≡ capped (micros_at rows k 4) → play ≡ capped (num * dwell) → ns ≡ capped (wait + play) → ns ≡ capped (adc_length rows k)
  unfolding adc_length
  adc-is ns wait play num dwell count width p q s t w y r = r ∙ rw (w, y, q, t, p, s) (capped-plus (micros_at rows k 4) (count_at rows k 2 * count_at rows k 3))

  pub trigger-is : (ns wait last : ℕ) → wait ≡ capped (micros_at rows k 4) → last ≡ capped (micros_at rows k 5) → ns ≡ capped (wait + last)
      → ns ≡ capped (micros_at rows k 4 + micros_at rows k 5)
  trigger-is ns wait last w l s = s ∙ rw (w, l) (capped-plus (micros_at rows k 4) (micros_at rows k 5))
