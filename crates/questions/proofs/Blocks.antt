-- A block sought line by line. Assumes nothing.
use Prim.Native.Nat.{ℕ, ◌+◌, ◌-◌, ◌≤◌}
use mathlib.Core.Bool.{Bool, true, false, cond, ◌&&◌, true≢false}
use mathlib.Core.List.{List, [], ◌∷◌, ◌++◌}
use mathlib.Core.Path.{◌≡◌, refl, sym, ap, ◌∙◌}
use lib.IntN.{pos}
use lib.ListN.{length, take, drop}
use Rattle.signed.specs.Signed.{same_z}
use Rattle.text.specs.Lines.{lines_of}
use Rattle.text.specs.declared.Line.{Line}
use Rattle.text.proofs.Cut.{LineAt}
use Rattle.tables.specs.Tables.{number_at}
use Rattle.blocks.specs.Blocks.{is_block}
use Rattle.places.specs.Places.{fresh}
use Rattle.places.specs.declared.State.{State}
use Rattle.places.specs.declared.Stepped.{Stepped}
use Rattle.grammar.specs.Steps.{step_of}
use Rattle.file.specs.Whole.{is_fault, is_row, row_count}
use Rattle.file.specs.Rows.{Placed, row_at, rows_from, rows_of}
use Rattle.file.proofs.Laying.{row_zero, row-some}
use Rattle.file.proofs.Walking.{Within, within-start, within-turn, gathered-turn, gathered-stop, gathered-end}
use Rattle.questions.specs.Asked.{any_block}
use Rattle.questions.specs.Inside.{gives_block}

-- ---- whether a line has given a block
module _ (did : Stepped) (count : ℕ) (q : count ≡ row_count did.found) where
  pub block_none : count ≡ 0 → false ≡ gives_block did
  unfolding gives_block
  block_none e = rw (row_zero did.found (sym q ∙ e))

  pub block_row : (count ≡ 0 → ⊥) → same_z (number_at did.cells 0 0) (pos 1) ≡ gives_block did
  unfolding gives_block
  block_row e = rw (row-some did.found (λ z. e (q ∙ z)))

-- ---- the loop over a file
pub record BlockWalk (file : List ℕ) (st : State) (at n : ℕ) : Type 0 where
  pub within : Within file at n
  pub same : any_block (rows_from st n (lines_of (drop at file))) ≡ any_block (rows_of file)

pub block_start : (file : List ℕ) (st : State) → st ≡ fresh → BlockWalk file st 0 1
unfolding rows_of
block_start file st e = record { within = within-start file; same = rw e }

none : false ≡ any_block []
unfolding any_block
none = refl

module _ (r : Placed) (rest : List Placed) where
  hit : (b : Bool) → b && is_block r.cells 0 ≡ true → true ≡ any_block (cond b (r ∷ []) [] ++ rest)
  unfolding any_block
  hit true e = rw e
  hit false e = absurd (true≢false (sym e))

  miss : (b : Bool) → b && is_block r.cells 0 ≡ false → any_block rest ≡ any_block (cond b (r ∷ []) [] ++ rest)
  unfolding any_block
  miss true e = rw e
  miss false e = refl

module _ (file : List ℕ) (st : State) (at n : ℕ) (w : BlockWalk file st at n) where
  module _ (r : Line) (l : LineAt file at r) (s : Stepped) (p : s ≡ step_of st n (take (r.stop - at) (drop at file))) where
    pub block-fault : is_fault s.found ≡ true → false ≡ any_block (rows_of file)
    block-fault e = none ∙ ap any_block (gathered-stop file at r l st n s p row_at e) ∙ w.same

    module _ (e : is_fault s.found ≡ false) where
      more : any_block (row_at n (take (r.stop - at) (drop at file)) s ++ rows_from s.next (n + 1) (lines_of (drop r.next file))) ≡ any_block (rows_of file)
      more = ap any_block (gathered-turn file at r l st n s p row_at e) ∙ w.same

      module _ (b : Bool) (q : b ≡ gives_block s) where
        pub block-hit : b ≡ true → true ≡ any_block (rows_of file)
        unfolding row_at gives_block
        block-hit h = hit (record { line = s.line; cells = s.cells }) _ (is_row s.found) (sym q ∙ h) ∙ more

        pub block-turn : b ≡ false → BlockWalk file s.next r.next (n + 1)
        unfolding row_at gives_block
        block-turn h = record { within = within-turn w.within l; same = miss (record { line = s.line; cells = s.cells }) _ (is_row s.found) (sym q ∙ h) ∙ more }

  pub block-end : length file ≤ at → false ≡ any_block (rows_of file)
  block-end h = none ∙ ap any_block (gathered-end file at h st n row_at) ∙ w.same
