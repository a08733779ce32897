-- The outcome of each function is unique: all that it writes is determined by what it is lent. Assumes nothing.
use Prim.Native.Nat.{ℕ}
use mathlib.Core.List.{List}
use mathlib.Core.Path.{◌≡◌, sym, ◌∙◌}
use lib.IntN.{ℤ}
use Rattle.pulseq.specs.Exports.{ReadTold, ExpandTold, WriteTold, RestateTold, DefinitionTold, StoredTold}

pub read-told-unique : {file site : List ℕ} {table l : List ℤ} {answer : List ℕ} {t t' m m' : List ℤ} {a a' : List ℕ} → ReadTold file site table l answer t m a
    → ReadTold file site table l answer t' m' a' → (t ≡ t') × ((m ≡ m') × (a ≡ a'))
read-told-unique x y = (x.rows ∙ sym y.rows, (x.samples ∙ sym y.samples, x.numbers ∙ sym y.numbers))

pub expand-told-unique : {text : List ℕ} {num edition : ℕ} {l : List ℤ} {answer : List ℕ} {m m' : List ℤ} {a a' : List ℕ} → ExpandTold text num edition l answer m a
    → ExpandTold text num edition l answer m' a' → (m ≡ m') × (a ≡ a')
expand-told-unique x y = (x.samples ∙ sym y.samples, x.numbers ∙ sym y.numbers)

pub write-told-unique : {zs : List ℤ} {edition : ℕ} {l answer m m' a a' : List ℕ} → WriteTold zs edition l answer m a → WriteTold zs edition l answer m' a' → (m ≡ m') × (a ≡ a')
write-told-unique x y = (x.output ∙ sym y.output, x.numbers ∙ sym y.numbers)

pub restate-told-unique : {file site : List ℕ} {target : ℕ} {table l : List ℤ} {out answer : List ℕ} {t t' m m' : List ℤ} {o o' a a' : List ℕ}
    → RestateTold file site target table l out answer t m o a → RestateTold file site target table l out answer t' m' o' a'
    → (t ≡ t') × ((m ≡ m') × ((o ≡ o') × (a ≡ a')))
restate-told-unique x y = (x.rows ∙ sym y.rows, (x.samples ∙ sym y.samples, (x.output ∙ sym y.output, x.numbers ∙ sym y.numbers)))

pub definition-told-unique : {file site key answer a a' : List ℕ} → DefinitionTold file site key answer a → DefinitionTold file site key answer a' → a ≡ a'
definition-told-unique x y = x.numbers ∙ sym y.numbers

pub stored-told-unique : {file site : List ℕ} {id : ℤ} {answer a a' : List ℕ} → StoredTold file site id answer a → StoredTold file site id answer a' → a ≡ a'
stored-told-unique x y = x.numbers ∙ sym y.numbers
