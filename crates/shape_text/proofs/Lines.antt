-- Lines laid over an output one after another, and how many there are. Assumes nothing.
use Prim.Native.Nat.{ℕ, suc, ◌+◌, ◌-◌, ◌*◌, ◌≤◌, ◌<◌}
use mathlib.Core.List.{List, [], ◌∷◌, ◌++◌, append_assoc}
use mathlib.Core.Path.{◌≡◌, refl, ap, ◌∙◌}
use native.Mathlib.Numerals.{add-one}
use native.Mathlib.Omega.{arith}
use lib.IntN.{ℤ, pos}
use lib.ListN.{length, drop, get_or, drop_of_length-le}
use lib.Seq.{drop-cons}
use Rattle.output.specs.Over.{Put, farthest}
use Rattle.output.proofs.Over.{put_then}
use Rattle.output.proofs.Partly.{Partly, partly_none, partly-length, partly_more, partly-all}
use Rattle.print.specs.Printed.{sample_text, digits_of}
use Rattle.shape_text.specs.Written.{Run, ended_lines, run_lines, runs_lines, packed_lines, plain_lines}
use Rattle.shape_text.specs.Inside.{step_at, runs_from, RunAt}
use Rattle.shape_text.proofs.Runs.{runs-end}

pub ended-append : (a b : List (List ℕ)) → ended_lines (a ++ b) ≡ ended_lines a ++ ended_lines b
unfolding ended_lines
ended-append [] b = refl
ended-append (l ∷ a) b = rw (ended-append a b, append_assoc)

-- ---- put_value, put_run
pub put-line : {l l₁ l₂ t : List ℕ} {at r₁ r₂ : ℕ} → Put l at t r₁ l₁ → Put l₁ r₁ (10 ∷ []) r₂ l₂ → Put l at (ended_lines (t ∷ [])) r₂ l₂
unfolding ended_lines
put-line p q = put_then p q

pub put_alone : {l l₁ : List ℕ} {at r : ℕ} {y : ℤ} (d : ℤ) (n : ℕ) → n ≡ 1 → y ≡ d
    → Put l at (ended_lines (sample_text y ∷ [])) r l₁ → Put l at (ended_lines (run_lines d (n - 1))) r l₁
unfolding run_lines
put_alone d n e f p = rw (e, ← f) p

pub put-repeated : {l l₁ l₂ l₃ l₄ : List ℕ} {at r₁ r₂ r₃ r₄ : ℕ} {y : ℤ} (d : ℤ) (n : ℕ) → 0 < n → (n ≡ 1 → ⊥) → y ≡ d
    → Put l at (ended_lines (sample_text y ∷ [])) r₁ l₁ → Put l₁ r₁ (ended_lines (sample_text y ∷ [])) r₂ l₂
    → Put l₂ r₂ (digits_of (n - 2)) r₃ l₃ → Put l₃ r₃ (10 ∷ []) r₄ l₄ → Put l at (ended_lines (run_lines d (n - 1))) r₄ l₄
unfolding run_lines
put-repeated d n h k f p q s t =
    let e : n - 1 ≡ suc (n - 2) = omega arith in
    rw (e, ended-append (sample_text d ∷ []) (sample_text d ∷ digits_of (n - 2) ∷ []), ended-append (sample_text d ∷ []) (digits_of (n - 2) ∷ []))
    (rw (← f) (put_then p (put_then q (put-line s t))))

-- ---- put_plain
pub record PlainTo (l₀ : List ℕ) (from : ℕ) (zs : List ℤ) (i at : ℕ) (l : List ℕ) : Type 0 where
  pub inside : i ≤ length zs
  pub part : Partly l₀ from (ended_lines (plain_lines zs)) (ended_lines (plain_lines (drop i zs))) at l

pub plain-none : (l : List ℕ) (from : ℕ) (zs : List ℤ) → from ≤ farthest → length l ≤ farthest → PlainTo l from zs 0 from l
plain-none l from zs f h = record { inside = omega arith; part = partly_none f h }

module _ {l₀ : List ℕ} {zs : List ℤ} {from i at : ℕ} {l : List ℕ} (p : PlainTo l₀ from zs i at l) where
  pub plain-length : length l ≡ length l₀
  plain-length = partly-length p.part

  pub plain_more : {l' : List ℕ} {r : ℕ} {z : ℤ} → i < length zs → z ≡ get_or zs i (pos 0) → Put l at (ended_lines (sample_text z ∷ [])) r l' → PlainTo l₀ from zs (i + 1) r l'
  unfolding plain_lines
  plain_more h e q =
      record {
        inside = omega arith;
        part =
            rw (add-one i)
            (partly_more p.part (ended_lines (sample_text (get_or zs i (pos 0)) ∷ [])) (ended_lines (plain_lines (drop (suc i) zs)))
            (rw (drop-cons zs i (pos 0) h) (ended-append (sample_text (get_or zs i (pos 0)) ∷ []) (plain_lines (drop (suc i) zs)))) (rw e at q));
      }

  pub plain-all : length zs ≤ i → Put l₀ from (ended_lines (plain_lines zs)) at l
  unfolding plain_lines ended_lines
  plain-all h = partly-all p.part (rw (drop_of_length-le zs h))

-- ---- put_packed
pub record PackedTo (l₀ : List ℕ) (from : ℕ) (zs : List ℤ) (i at : ℕ) (l : List ℕ) : Type 0 where
  pub inside : i ≤ length zs
  pub part : Partly l₀ from (ended_lines (packed_lines zs)) (ended_lines (runs_lines (runs_from zs i))) at l

pub packed_none : (l : List ℕ) (from : ℕ) (zs : List ℤ) → from ≤ farthest → length l ≤ farthest → PackedTo l from zs 0 from l
unfolding packed_lines
packed_none l from zs f h = record { inside = omega arith; part = partly_none f h }

runs-lines : {zs : List ℤ} {i end : ℕ} → RunAt zs i end → runs_lines (runs_from zs i) ≡ run_lines (step_at zs i) (end - i - 1) ++ runs_lines (runs_from zs end)
unfolding runs_lines
runs-lines r = rw r.runs

module _ {l₀ : List ℕ} {zs : List ℤ} {from i at : ℕ} {l : List ℕ} (p : PackedTo l₀ from zs i at l) where
  pub packed-length : length l ≡ length l₀
  packed-length = partly-length p.part

  pub packed_more : {l' : List ℕ} {end r : ℕ} {d : ℤ} → RunAt zs i end → d ≡ step_at zs i → Put l at (ended_lines (run_lines d (end - i - 1))) r l' → PackedTo l₀ from zs end r l'
  packed_more {end = end} a e q =
      record {
        inside = a.inside;
        part =
            partly_more p.part (ended_lines (run_lines (step_at zs i) (end - i - 1))) (ended_lines (runs_lines (runs_from zs end)))
            (ap ended_lines (runs-lines a) ∙ ended-append (run_lines (step_at zs i) (end - i - 1)) (runs_lines (runs_from zs end))) (rw e at q);
      }

  pub packed_all : length zs ≤ i → Put l₀ from (ended_lines (packed_lines zs)) at l
  unfolding runs_lines ended_lines
  packed_all h = partly-all p.part (rw (runs-end zs i h))

-- ---- packed_count: n values before the sample at i
pub record Counted (zs : List ℤ) (i n : ℕ) : Type 0 where
  pub inside : i ≤ length zs
  pub few : n ≤ 3 * i
  pub whole : n + length (runs_lines (runs_from zs i)) ≡ length (packed_lines zs)

pub counted_none : (zs : List ℤ) → Counted zs 0 0
unfolding packed_lines
counted_none zs = record { inside = omega arith; few = omega arith; whole = omega arith }

module _ {zs : List ℤ} {i n : ℕ} (c : Counted zs i n) where
  pub counted-one : {end : ℕ} → RunAt zs i end → end - i ≡ 1 → Counted zs end (n + 1)
  unfolding run_lines
  counted-one {end} a e =
      let m : end - i - 1 ≡ 0 = omega arith in
      record {
        inside = a.inside;
        few = omega (arith, c.few, a.further);
        whole = omega (arith, c.whole, rw m at (ap length (runs-lines a)));
      }

  pub counted-run : {end : ℕ} → RunAt zs i end → (end - i ≡ 1 → ⊥) → Counted zs end (n + 3)
  unfolding run_lines
  counted-run {end} a e =
      let m : end - i - 1 ≡ suc (end - i - 2) = omega (arith, a.further) in
      record {
        inside = a.inside;
        few = omega (arith, c.few, a.further);
        whole = omega (arith, c.whole, rw m at (ap length (runs-lines a)));
      }

  pub counted-all : length zs ≤ i → n ≡ length (packed_lines zs)
  unfolding runs_lines
  counted-all h = omega (arith, c.whole, ap (λ (rs : List Run). length (runs_lines rs)) (runs-end zs i h))
