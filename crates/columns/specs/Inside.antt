-- What the inner functions answer. Nothing here needs to be believed: laws lead from these to the definitions of the other files.
use Rattle.std.specs.Prelude.{ℕ, zero, suc, ◌+◌, ◌*◌, cond, List, [], ◌∷◌, eqb, get_or, drop}
use Rattle.columns.specs.Columns.{width_of}
use Rattle.columns.specs.declared.Kind.{Kind}
use Rattle.columns.specs.declared.Kind.TheVariants.{Id, Reference, Required, Micros, Duration, Count, Natural, Decimal, Dwell, Absent}

-- the digit of a kind, and the kind that a digit stands for
abbrev pub kind_number : Kind → ℕ
kind_number Id = 0
kind_number Reference = 1
kind_number Required = 2
kind_number Micros = 3
kind_number Duration = 4
kind_number Count = 5
kind_number Natural = 6
kind_number Decimal = 7
kind_number Dwell = 8
kind_number Absent = 9

abbrev pub kind_of : ℕ → Kind
kind_of n =
    cond (eqb n 0) Id
    (cond (eqb n 1) Reference
    (cond (eqb n 2) Required
    (cond (eqb n 3) Micros
    (cond (eqb n 4) Duration
    (cond (eqb n 5) Count
    (cond (eqb n 6) Natural
    (cond (eqb n 7) Decimal
    (cond (eqb n 8) Dwell Absent))))))))

-- the kinds of the first n columns as the digits of a number to the base 16, the first column's lowest; where there is no column, as of an absent one
unfoldable pub packed : ℕ → List Kind → ℕ
packed zero ks = 0
packed (suc n) ks = kind_number (get_or ks 0 Absent) + 16 * packed n (drop 1 ks)

-- how many numbers some columns are
unfoldable pub widths_of : List Kind → ℕ
widths_of [] = 0
widths_of (k ∷ ks) = width_of k + widths_of ks
