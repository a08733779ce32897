-- Runs of differences: how a longest run grows from its start. Assumes nothing.
use Prim.Native.Nat.{ℕ, zero, suc, ◌+◌, ◌-◌, ◌≤◌, ◌<◌}
use mathlib.Core.Bool.{Bool, true, false, cond}
use mathlib.Core.List.{List, [], ◌∷◌}
use mathlib.Core.Path.{◌≡◌, refl, sym, ap, ◌∙◌}
use mathlib.Core.Logic.{⊎_elim}
use native.Mathlib.Numerals.{add-one}
use native.Mathlib.Omega.{arith}
use lib.IntN.{ℤ, pos}
use lib.ListN.{length, drop_of_length-le}
use lib.Seq.{drop-cons}
use Rattle.text.proofs.Cases.{true-or-false}
use Rattle.signed.specs.Signed.{same_z}
use Rattle.signed.proofs.Sign.{same_z-refl, same_z-true, same_z-false, same_z-other}
use Rattle.shape_text.specs.Written.{Run, differences_from, on_run, runs_of}
use Rattle.shape_text.specs.Inside.{step_at, runs_from, RunAt}

pub runs-at : (zs : List ℤ) (i : ℕ) → i < length zs → runs_from zs i ≡ on_run (step_at zs i) (runs_from zs (suc i))
unfolding differences_from runs_of
runs-at zs i h = rw (drop-cons zs i (pos 0) h)

pub runs-end : (zs : List ℤ) (i : ℕ) → length zs ≤ i → runs_from zs i ≡ []
unfolding differences_from runs_of
runs-end zs i h = rw (drop_of_length-le zs h)

-- d, and k times more, put before some runs
unfoldable pub grown : ℤ → ℕ → List Run → List Run
grown d zero rs = on_run d rs
grown d (suc k) rs = on_run d (grown d k rs)

grown-more : (d : ℤ) (k : ℕ) (rs : List Run) → grown d k (on_run d rs) ≡ grown d (suc k) rs
unfolding grown
grown-more d zero rs = refl
grown-more d (suc k) rs = ap (on_run d) (grown-more d k rs)

-- where the runs do not begin with one of d, this is a run of its own
grown-run : (d : ℤ) (k : ℕ) (rs : List Run) → on_run d rs ≡ record { value = d; more = 0 } ∷ rs → grown d k rs ≡ record { value = d; more = k } ∷ rs
unfolding grown on_run
grown-run d zero rs e = e
grown-run d (suc k) rs e = rw (grown-run d k rs e, same_z-refl d)

apart : (a b : ℤ) → same_z a b ≡ false → same_z b a ≡ false
apart a b e =
    ⊎_elim (λ (f : same_z b a ≡ true). absurd (same_z-false a b e (sym (same_z-true b a f)))) (λ (f : same_z b a ≡ false). f)
    (true-or-false (same_z b a))

starts-run : (d e : ℤ) (rs : List Run) → same_z e d ≡ false → on_run d (on_run e rs) ≡ record { value = d; more = 0 } ∷ on_run e rs
unfolding on_run
starts-run d e [] n = rw (apart e d n)
starts-run d e (r ∷ rs) n = go (same_z e r.value)
  where
    go : (b : Bool) → on_run d (cond b (record { value = e; more = suc r.more } ∷ rs) (record { value = e; more = 0 } ∷ r ∷ rs))
        ≡ record { value = d; more = 0 } ∷ cond b (record { value = e; more = suc r.more } ∷ rs) (record { value = e; more = 0 } ∷ r ∷ rs)
    go true = rw (apart e d n)
    go false = rw (apart e d n)

-- ---- run_end: the run that starts at i goes on to before j
pub record Running (zs : List ℤ) (i j : ℕ) : Type 0 where
  pub further : i < j
  pub inside : j ≤ length zs
  pub runs : runs_from zs i ≡ grown (step_at zs i) (j - i - 1) (runs_from zs j)

pub running-one : (zs : List ℤ) (i : ℕ) → i < length zs → Running zs i (i + 1)
unfolding grown
running-one zs i h =
    let e : i + 1 - i - 1 ≡ 0 = omega arith in
    record { further = omega arith; inside = omega arith; runs = rw (e, add-one i) (runs-at zs i h) }

module _ {zs : List ℤ} {i j : ℕ} (r : Running zs i j) where
  pub running_more : j < length zs → step_at zs j ≡ step_at zs i → Running zs i (j + 1)
  running_more h e =
      let n : j + 1 - i - 1 ≡ suc (j - i - 1) = omega (arith, r.further) in
      record {
        further = omega (arith, r.further);
        inside = omega arith;
        runs =
            rw (n, add-one j)
            (r.runs
            ∙ ap (grown (step_at zs i) (j - i - 1)) (runs-at zs j h ∙ ap (λ (d : ℤ). on_run d (runs_from zs (suc j))) e)
            ∙ grown-more (step_at zs i) (j - i - 1) (runs_from zs (suc j)));
      }

  pub running-other : j < length zs → (step_at zs j ≡ step_at zs i → ⊥) → RunAt zs i j
  running-other h n =
      let e = same_z-other (step_at zs j) (step_at zs i) n in
      record {
        further = r.further;
        inside = r.inside;
        runs =
            r.runs
            ∙ grown-run (step_at zs i) (j - i - 1) (runs_from zs j) (rw (runs-at zs j h) (starts-run (step_at zs i) (step_at zs j) (runs_from zs (suc j)) e));
      }

  pub running-end : length zs ≤ j → RunAt zs i j
  unfolding on_run
  running-end h =
      record {
        further = r.further;
        inside = r.inside;
        runs = r.runs ∙ grown-run (step_at zs i) (j - i - 1) (runs_from zs j) (rw (runs-end zs j h));
      }
