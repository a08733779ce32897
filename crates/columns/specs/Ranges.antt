-- Rows in range: what the numbers of a row may be, by its columns.
use Rattle.std.specs.Prelude.{ℕ, ◌≤◌, Bool, true, false, List, [], ◌∷◌, ◌≡◌, ℤ, pos}
use Rattle.numeral.specs.Kept.{Kept}
use Rattle.columns.specs.Columns.{least_of, most_of}
use Rattle.columns.specs.declared.Kind.{Kind}
use Rattle.columns.specs.declared.Kind.TheVariants.{Id, Reference, Required, Micros, Duration, Count, Natural, Decimal, Dwell, Absent}

-- ---- The kinds of one whole number, from `least_of` to `most_of`
abbrev pub is_whole : Kind → Bool
is_whole Id = true
is_whole Reference = true
is_whole Required = true
is_whole Micros = true
is_whole Duration = true
is_whole Count = true
is_whole Natural = true
is_whole Decimal = false
is_whole Dwell = true
is_whole Absent = false

-- ---- What the numbers of a row may be, by its columns
pub data InRange : List Kind → List ℤ → Type 0 where
  no_more : InRange [] []
  no_field : {ks : List Kind} {vs : List ℤ} → InRange ks vs → InRange (Absent ∷ ks) (pos 0 ∷ vs)
  one_number : {k : Kind} {ks : List Kind} {n : ℕ} {vs : List ℤ} → is_whole k ≡ true → least_of k ≤ n → n ≤ most_of k → InRange ks vs → InRange (k ∷ ks) (pos n ∷ vs)
  two-numbers : {ks : List Kind} {m e : ℤ} {vs : List ℤ} → Kept (record { mantissa = m; exponent = e }) → InRange ks vs → InRange (Decimal ∷ ks) (m ∷ e ∷ vs)
