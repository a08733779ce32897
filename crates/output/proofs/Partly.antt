-- A text that is written part by part from a place on: what was written and what is left make up the whole. Assumes nothing.
use Prim.Native.Nat.{ℕ, ◌≤◌}
use mathlib.Core.List.{List, [], ◌++◌, append_assoc, append-nil}
use mathlib.Core.Path.{◌≡◌, refl}
use lib.ListN.{length}
use Rattle.output.specs.Over.{Put, farthest}
use Rattle.output.proofs.Over.{put_then, put-none, put-length}

pub record Partly (l₀ : List ℕ) (from : ℕ) (whole rest : List ℕ) (at : ℕ) (l : List ℕ) : Type 0 where
  pub done : List ℕ
  pub put : Put l₀ from done at l
  pub text : done ++ rest ≡ whole

pub partly_none : {l whole : List ℕ} {from : ℕ} → from ≤ farthest → length l ≤ farthest → Partly l from whole whole from l
partly_none f h = record { done = []; put = put-none f h; text = refl }

module _ {l₀ whole rest : List ℕ} {from at : ℕ} {l : List ℕ} (p : Partly l₀ from whole rest at l) where
  pub partly-length : length l ≡ length l₀
  partly-length = put-length p.put

  pub partly_more : {l' : List ℕ} {r : ℕ} (t rest' : List ℕ) → rest ≡ t ++ rest' → Put l at t r l' → Partly l₀ from whole rest' r l'
  partly_more t rest' e q =
      record {
        done = p.done ++ t;
        put = put_then p.put q;
        text = rw (append_assoc, ← e) p.text;
      }

  pub partly-all : rest ≡ [] → Put l₀ from whole at l
  partly-all e = let w : p.done ≡ whole = rw (e, append-nil) at p.text in rw w at p.put
