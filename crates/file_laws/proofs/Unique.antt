-- The outcome of reading all lines of a file is unique. Assumes nothing.
use Rattle.file.specs.Outcome.{Scanned}
use Prim.Native.Nat.{ℕ}
use mathlib.Core.List.{List}
use mathlib.Core.Path.{◌≡◌, sym, ◌∙◌}
use lib.IntN.{ℤ}
use Rattle.file.specs.Rows.{Scanning}
use Rattle.file.specs.Marks.{Marking}
use Rattle.file.specs.declared.Marked.{Marked}

-- two outcomes that keep the contract are the same
pub scan-unique : {file : List ℕ} {r r' : Scanned} {table table' table'' : List ℤ} → Scanning file r table table' → Scanning file r' table table'' → (r ≡ r') × (table' ≡ table'')
scan-unique a b = (a.answer ∙ sym b.answer, a.rows ∙ sym b.rows)

pub marked-unique : {file : List ℕ} {r r' : Marked} {table table' table'' : List ℤ} → Marking file r table table' → Marking file r' table table'' → (r ≡ r') × (table' ≡ table'')
marked-unique a b =
    let s = scan-unique a.scanning b.scanning in
    ((λ i. record { scanned = s.0 i; names = (a.names ∙ sym b.names) i; shapes = (a.shapes ∙ sym b.shapes) i }), s.1)
