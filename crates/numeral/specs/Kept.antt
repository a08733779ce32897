-- A pair as decimals are kept. "Kept exactly as mantissa and exponent without trailing zeros; zero is 0 and 0, also from -0. Mantissa at most 18
-- digits, exponent -99 to 99."
use Rattle.std.specs.Prelude.{◌%◌, ◌^◌, ◌≤◌, ◌<◌, ◌≡◌, ◌⊎◌, pos, nat_abs}
use Rattle.numeral.specs.declared.Decimal.{Decimal}

-- zero is 0 and 0; any other mantissa has no trailing zero
abbrev pub nothing : Decimal
nothing = record { mantissa = pos 0; exponent = pos 0 }

abbrev pub Normal : Decimal → Type 0
Normal d = (d ≡ nothing) ⊎ (nat_abs d.mantissa % 10 ≡ 0 → ⊥)

pub record Kept (d : Decimal) : Type 0 where
  pub digits : nat_abs d.mantissa < 10 ^ 18
  pub power : nat_abs d.exponent ≤ 99
  pub normal : Normal d
