-- One shape: when it does not fail, and what its part of the lent samples holds then. Assumes nothing.
use Rattle.shape.specs.Answers.{Expanded}
use Rattle.shape.specs.declared.Unexpanded.TheVariants.{Room, Field, Shape}
use Rattle.std.proofs.Common.{Ok, Err}
use Prim.Native.Nat.{ℕ, ◌-◌, ◌≤◌}
use mathlib.Core.Bool.{Bool, true, false, cond, not, ◌&&◌, true≢false}
use mathlib.Core.List.{List, ◌++◌, append-nil}
use mathlib.Core.Path.{◌≡◌, refl, sym, ap, ◌∙◌}
use native.Mathlib.Omega.{arith}
use borrow.Author.Tests.{leb-true, le-leb, eqb-true}
use lib.Dec.{leb, eqb}
use lib.IntN.{ℤ, pos}
use lib.ListN.{length, replicate, length-append, length-replicate}
use Rattle.text.specs.Lines.{lines_of}
use Rattle.text.proofs.Cases.{and_both}
use Rattle.shape.specs.Stored.{all_sound, values_of}
use Rattle.expanding.specs.Expand.{samples_in, ends_well, expands_to, expansion_of}
use Rattle.expanding.specs.Alone.{is_count, expanded_of, table_from, samples_after, table_of}
use Rattle.shape.specs.declared.Edition.{Edition}
use Rattle.sampling.specs.Sampling.{failed}

module _ (edition : Edition) (num : ℕ) (text : List ℕ) where
  -- the samples of a shape, as the paper has them
  abbrev pub samples_of : List ℤ
  samples_of = samples_in (expansion_of edition num (values_of text))

  -- ---- that a shape expands, with room for its samples
  pub record Expands (room : ℕ) : Type 0 where
    pub count : is_count num ≡ true
    pub sound : all_sound (lines_of text) ≡ true
    pub good : expands_to num (expansion_of edition num (values_of text)) ≡ true
    pub fits : num ≤ room

  module _ (room : ℕ) where
    answered : (a b c d : Bool) → failed (cond (a && b) (cond c (cond d (Ok num) (Err Room)) (Err Shape)) (Err Field)) ≡ false
        → (a ≡ true) × (b ≡ true) × (c ≡ true) × (d ≡ true)
    unfolding failed
    answered true true true true e = (refl, refl, refl, refl)
    answered true true true false e = absurd (true≢false e)
    answered true true false d e = absurd (true≢false e)
    answered true false c d e = absurd (true≢false e)
    answered false b c d e = absurd (true≢false e)

    pub expands : failed (expanded_of edition num text room) ≡ false → Expands room
    unfolding expanded_of
    expands e =
        let g = answered (is_count num) (all_sound (lines_of text)) (expands_to num (expansion_of edition num (values_of text))) (leb num room) e in
        record { count = g.0; sound = g.1; good = g.2; fits = leb-true num room g.3 }

    -- ---- what its part holds: as many numbers as it has
    samples-many : Expands room → length samples_of ≡ num
    unfolding expands_to
    samples-many x =
        let t = expansion_of edition num (values_of text) in
        eqb-true (length samples_of) num (and_both (ends_well t) (eqb (length samples_of) num) x.good).1

    table-good : Expands room → table_of edition num text room ≡ table_from samples_of room
    unfolding table_of expanded_of samples_after
    table-good x = rw (x.count, x.sound, x.good, le-leb num room x.fits)

    table-zeros : failed (expanded_of edition num text room) ≡ true → table_of edition num text room ≡ replicate room (pos 0)
    unfolding table_of failed samples_after
    table-zeros e = go (expanded_of edition num text room) e
      where
        go : (r : Expanded) → failed r ≡ true → samples_after r samples_of room ≡ replicate room (pos 0)
        go (Ok n) f = absurd (true≢false (sym f))
        go (Err Field) f = refl
        go (Err Shape) f = refl
        go (Err Room) f = refl

    pub table-length : length (table_of edition num text room) ≡ room
    unfolding table_from
    table-length = go (failed (expanded_of edition num text room)) refl
      where
        go : (b : Bool) → failed (expanded_of edition num text room) ≡ b → length (table_of edition num text room) ≡ room
        go true e = ap length (table-zeros e) ∙ length-replicate room (pos 0)
        go false e =
            let x = expands e in
            let m = samples-many x in
            let f = x.fits in
            let a = length-append samples_of (replicate (room - length samples_of) (pos 0)) in
            let b = length-replicate (room - length samples_of) (pos 0) in
            let t : length (samples_of ++ replicate (room - length samples_of) (pos 0)) ≡ room = omega arith in
            ap length (table-good x) ∙ t

    -- and if there is no more room than that, these are the samples
    pub table-samples : Expands room → room ≡ num → table_of edition num text room ≡ samples_of
    unfolding table_from
    table-samples x e =
        let m = samples-many x in
        let z : room - length samples_of ≡ 0 = omega arith in
        table-good x ∙ rw z (append-nil samples_of)

-- ---- SHAPE: where the lines are sound, the count is one, and there is room, failing is not to expand
pub fails-exact : (edition : Edition) (num : ℕ) (text : List ℕ) (room : ℕ) → 1 ≤ num → num ≤ 1000000 → num ≤ room → all_sound (lines_of text) ≡ true
    → failed (expanded_of edition num text room) ≡ not (expands_to num (expansion_of edition num (values_of text)))
unfolding expanded_of is_count failed
fails-exact edition num text room some few fits sound =
    rw (le-leb 1 num some, le-leb num 1000000 few, sound, le-leb num room fits) (go (expands_to num (expansion_of edition num (values_of text))))
  where
    go : (b : Bool) → failed (cond b (Ok num) (Err Shape)) ≡ not b
    go true = refl
    go false = refl
