-- What is marked of shapes is so, and stays so when one more is marked. Assumes nothing.
use Prim.Native.Nat.{ℕ, ◌+◌, ◌*◌, ◌-◌, ◌≤◌, ◌<◌}
use mathlib.Core.Bool.{true, true≢false}
use mathlib.Core.List.{List, []}
use mathlib.Core.Logic.{⊎_elim}
use mathlib.Core.Path.{◌≡◌, refl, sym, ◌∙◌}
use native.Mathlib.Omega.{arith}
use lib.IntN.{ℤ, negsuc}
use lib.ListN.{length, get_or, replicate, length-replicate, get_or-replicate, get_or-eq_default}
use Rattle.text.proofs.Cases.{lt-or-ge}
use Rattle.marks.specs.Marks.{is_marked, marked}
use Rattle.marks.proofs.Bits.{marked-only, none-marked}
use Rattle.tables.specs.Tables.{samples_at}
use Rattle.events.specs.Use.{all_unit, rises_from}
use Rattle.events.specs.Inside.{samples_fit, asked_number, Known}
use Rattle.events.specs.declared.Asked.{Asked}
use Rattle.events.specs.declared.Asked.TheVariants.{Unit, Rising}

-- ---- no samples are as is asked, whatever that is
pub none-fit : (asked : Asked) → true ≡ samples_fit asked []
none-fit Unit = unfold samples_fit all_unit in refl
none-fit Rising = unfold samples_fit rises_from in refl

-- by what is asked
pub unit-fit : {asked : Asked} (zs : List ℤ) → asked ≡ Unit → all_unit zs ≡ samples_fit asked zs
unfolding samples_fit
unit-fit zs e = rw e

pub rising-fit : {asked : Asked} (zs : List ℤ) → asked ≡ Rising → rises_from (negsuc 0) zs ≡ samples_fit asked zs
unfolding samples_fit
rising-fit zs e = rw e

pub asked-most : (asked : Asked) → asked_number asked ≤ 1
unfolding asked_number
asked-most Unit = omega arith
asked-most Rising = omega arith

-- ---- numbers of two things are the same only if these are
asked-same : (a b : Asked) → asked_number a ≡ asked_number b → a ≡ b
unfolding asked_number
asked-same Unit Unit e = refl
asked-same Unit Rising e = absurd (omega arith)
asked-same Rising Unit e = absurd (omega arith)
asked-same Rising Rising e = refl

-- an array of zeros
zeros : (n k : ℕ) → get_or {A = ℕ} (replicate n 0) k 0 ≡ 0
zeros n k =
    ⊎_elim (λ (h : k < n). get_or-replicate n k 0 0 h)
    (λ (h : n ≤ k).
    let l : length {A = ℕ} (replicate n 0) ≡ n = length-replicate n 0 in
    let m : length {A = ℕ} (replicate n 0) ≤ k = omega arith in
    get_or-eq_default (replicate n 0) 0 m)
    (lt-or-ge k n)

module _ (rows samples : List ℤ) (first : ℕ) where
  known-none : (marks : List ℕ) → ((k : ℕ) → get_or marks k 0 ≡ 0) → Known rows samples first marks
  known-none marks z = record { each = λ far asked e. absurd (true≢false (sym e ∙ none-marked marks z (far * 2 + asked_number asked))) }

  -- nothing is marked in an array of zeros
  pub known_start : (n : ℕ) → Known rows samples first (replicate n 0)
  known_start n = known-none (replicate n 0) (zeros n)

  module _ (marks : List ℕ) (known : Known rows samples first marks) (asked : Asked) (k : ℕ) (h : first ≤ k) (m : ℕ) (p : m ≡ asked_number asked) where
    pub known-marked : is_marked marks ((k - first) * 2 + m) ≡ true → true ≡ samples_fit asked (samples_at rows k samples)
    known-marked e =
        let q : first + (k - first) ≡ k = omega arith in
        sym (rw (← q) (known.each (k - first) asked (rw (← p) e)))

    pub known_more : samples_fit asked (samples_at rows k samples) ≡ true → Known rows samples first (marked marks ((k - first) * 2 + m))
    known_more f =
        record {
          each = λ far other e.
              ⊎_elim (λ (q : far * 2 + asked_number other ≡ (k - first) * 2 + m).
              let a = asked-most asked in
              let b = asked-most other in
              let s : asked_number other ≡ asked_number asked = omega arith in
              let t : first + far ≡ k = omega arith in
              rw (t, asked-same other asked s) f)
              (λ (q : is_marked marks (far * 2 + asked_number other) ≡ true). known.each far other q)
              (marked-only marks ((k - first) * 2 + m) (far * 2 + asked_number other) e);
        }
