-- Nothing is defined behind DEFINITIONS. Assumes nothing.
use Prim.Native.Nat.{ℕ, suc, ◌+◌}
use mathlib.Core.Bool.{Bool, true, false, cond}
use mathlib.Core.List.{List, [], ◌∷◌}
use mathlib.Core.Path.{◌≡◌, refl, sym, ◌∙◌}
use native.Mathlib.Omega.{arith}
use lib.IntN.{ℤ}
use lib.ListN.{length, drop}
use Rattle.text.specs.Lines.{whole_lines_of, bare_of}
use Rattle.grammar.specs.Parts.{no_part}
use Rattle.grammar.specs.Steps.{step_of}
use Rattle.places.specs.declared.Found.{Found}
use Rattle.places.specs.declared.Found.TheVariants.{Nothing, Row, Definition, Fault as FoundFault}
use Rattle.places.specs.declared.State.{State}
use Rattle.places.specs.declared.Stepped.{Stepped}
use Rattle.file.specs.Whole.{is_fault, is_defined}
use Rattle.passing.specs.Left.{found_section, given_section, left_of}
use Rattle.passing.proofs.Left.{Left, silent-line, left_is}
use Rattle.definitions.specs.Places.{place_or, file_place_from, file_place}
use Rattle.definitions.proofs.Placing.{PlaceWalk}

no-definition : (found : Found) (kind : ℤ) → (found_section found kind ≡ 2 → ⊥) → is_defined found ≡ false
unfolding found_section is_defined
no-definition Nothing kind o = refl
no-definition Row kind o = refl
no-definition Definition kind o = absurd (o refl)
no-definition (FoundFault fault) kind o = refl

-- ---- a line that is no definition gives no place
no_place : (key : List ℕ) (s : Stepped) (at : ℕ) (line : List ℕ) → (given_section s ≡ 2 → ⊥) → place_or key s.found at line no_part ≡ no_part
unfolding place_or given_section
no_place key s at line o = rw (no-definition s.found _ o) (same (is_fault s.found))
  where
    same : (b : Bool) → cond b no_part no_part ≡ no_part
    same true = refl
    same false = refl

none-beyond : (key : List ℕ) (st : State) → Left 2 st → (n at : ℕ) (ws : List (List ℕ)) → file_place_from key st n at ws ≡ no_part
unfolding file_place_from
none-beyond key st left n at [] = refl
none-beyond key st left n at (w ∷ ws) =
    let r = silent-line 2 (omega arith) st left.away n (bare_of w) in
    let s : Stepped = step_of st n (bare_of w) in
    rw (none-beyond key s.next (r.left left.met) (suc n) (at + length w) ws) (no_place key s at (bare_of w) r.other)

pub place-left : {file key : List ℕ} {st : State} {at n : ℕ} → PlaceWalk file key st at n → left_of st 2 ≡ true → no_part ≡ file_place file key
place-left {file} {key} {st} {at} {n} k e = sym (none-beyond key st (left_is st 2 e) n at (whole_lines_of (drop at file))) ∙ k.same
