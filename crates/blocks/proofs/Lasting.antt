-- Lengths of chains and blocks, by the answers of the code's tests. Assumes nothing.
use Prim.Native.Nat.{ℕ, suc, ◌+◌, ◌-◌, ◌*◌, ◌≤◌, ◌<◌, max}
use mathlib.Core.Bool.{Bool, true, false, cond}
use mathlib.Core.List.{List}
use mathlib.Core.Logic.{⊎_elim}
use mathlib.Core.Path.{◌≡◌, refl, sym, ap, ◌∙◌}
use native.Mathlib.Numerals.{add-one}
use native.Mathlib.Omega.{arith}
use borrow.Author.Tests.{lt-ltb, le-ltb}
use lib.Dec.{ltb}
use lib.IntN.{ℤ, pos, nat_abs}
use Rattle.signed.specs.Signed.{same_z}
use Rattle.signed.proofs.Sign.{same_z-true}
use Rattle.text.proofs.Cases.{lt-or-ge}
use Rattle.unit.specs.Time.{capped}
use Rattle.unit.specs.declared.Rasters.{Rasters}
use Rattle.unit.proofs.Exact.{capped-longer}
use Rattle.shape.specs.declared.Edition.{Edition}
use Rattle.shape.specs.declared.Edition.TheVariants.{V13, V14}
use Rattle.tables.specs.Tables.{number_at, met_row}
use Rattle.chains.specs.Chains.{next_entry}
use Rattle.references.specs.References.{extension_ref, ref_at}
use Rattle.lengths.specs.Lengths.{length_at}
use Rattle.blocks.specs.Blocks.{met_length, entry_length, chain_length, reference_length, longest_of, number_length, longest_event, block_length, is_long, outlasts_at}
use Rattle.blocks.specs.Inside.{Timed, found_length}
use Rattle.blocks.proofs.Timeless.{no-class, entry-timeless, chain-untimed}

max-shift : (a b c : ℕ) → max (max a b) c ≡ max a (max b c)
max-shift a b c = omega arith

pub max-zero : (a : ℕ) → max 0 a ≡ a
max-zero a = omega arith

max-none : (a : ℕ) {b : ℕ} → 0 ≡ b → a ≡ max a b
max-none a e = omega (arith, e)

module _ (q : Rasters) (rows : List ℤ) (n : ℕ) (samples : List ℤ) where
  -- ---- a reference of no class meets nothing that takes time
  pub reference-no-class : {class held : ℤ} (id : ℤ) → held ≡ class → same_z held (pos 0) ≡ true → 0 ≡ capped (reference_length q rows n samples class id)
  unfolding reference_length same_z
  reference-no-class {class} {held} id p e = let z = no-class q rows n samples id in rw (sym p ∙ same_z-true held (pos 0) e) (omega arith)

  -- ---- chains
  module _ (left k : ℕ) where
    pub chain-out : left ≡ 0 → 0 ≡ capped (chain_length q rows n samples left k)
    unfolding chain_length
    chain-out e = rw e

    module _ (h : left ≡ 0 → ⊥) where
      more : left ≡ suc (left - 1)
      more = omega arith

      past : (m : ℕ) → n ≤ k → chain_length q rows n samples (suc m) k ≡ 0
      unfolding chain_length
      past m l = rw (le-ltb k n l)

      on : (m : ℕ) → k < n → chain_length q rows n samples (suc m) k ≡ max (entry_length q rows n samples k) (chain_length q rows n samples m (next_entry rows n k))
      unfolding chain_length
      on m l = rw (lt-ltb k n l)

      pub chain-past : n ≤ k → 0 ≡ capped (chain_length q rows n samples left k)
      chain-past l = rw (more, past (left - 1) l)

      pub chain-on : k < n → (own rest next r : ℕ) → own ≡ capped (entry_length q rows n samples k) → next ≡ next_entry rows n k
          → rest ≡ capped (chain_length q rows n samples (left - 1) next) → r ≡ max own rest → r ≡ capped (chain_length q rows n samples left k)
      chain-on l own rest next r o x s m =
          m ∙ rw (o, s, x) (capped-longer (entry_length q rows n samples k) (chain_length q rows n samples (left - 1) (next_entry rows n k)))
          ∙ ap capped (sym (ap (λ (j : ℕ). chain_length q rows n samples j k) more ∙ on (left - 1) l))

      -- a walk over a chain: the whole is the longest so far or of what is left
      pub walk-past : (longest whole : ℕ) → n ≤ k → max longest (capped (chain_length q rows n samples left k)) ≡ whole → longest ≡ whole
      walk-past longest whole l w = max-none longest (chain-past l) ∙ w

      pub walk-on : k < n → (own next longest r whole : ℕ) → own ≡ capped (entry_length q rows n samples k) → next ≡ next_entry rows n k → r ≡ max longest own
          → max longest (capped (chain_length q rows n samples left k)) ≡ whole → max r (capped (chain_length q rows n samples (left - 1) next)) ≡ whole
      walk-on l own next longest r whole o x s w =
          let rest : ℕ = capped (chain_length q rows n samples (left - 1) next) in
          ap (λ (m : ℕ). max m rest) s ∙ max-shift longest own rest ∙ ap (max longest) (chain-on l own rest next (max own rest) o x refl refl) ∙ w

    pub walk-out : (longest whole : ℕ) → left ≡ 0 → max longest (capped (chain_length q rows n samples left k)) ≡ whole → longest ≡ whole
    walk-out longest whole e w = max-none longest (chain-out e) ∙ w

  -- ---- what a reference meets, for a class and an ID as they were handed on
  module _ {class id held ref : ℤ} (p : held ≡ class) (r : ref ≡ id) where
    module _ (k : ℕ) (m : k ≡ met_row rows n held ref) where
      -- a number that refers to a row which is there, and to none
      pub reference-found : k < n → capped (found_length q rows n samples held k) ≡ capped (reference_length q rows n samples class id)
      unfolding found_length reference_length met_length
      reference-found h = rw (← p, ← r, ← m, lt-ltb k n h)

      pub reference-nothing : n ≤ k → 0 ≡ capped (reference_length q rows n samples class id)
      unfolding reference_length met_length
      reference-nothing h = rw (← p, ← r, ← m, le-ltb k n h) (go (same_z held (pos 7)))
        where
          go : (b : Bool) → 0 ≡ capped (cond b (chain_length q rows n samples 256 k) 0)
          go true = chain-past 256 k (λ (z : 256 ≡ 0). omega arith) h
          go false = refl

  -- what is found: the first entry of a chain, or an event
  module _ {class held : ℤ} (p : held ≡ class) (k : ℕ) where
    pub found-untimed : same_z held (pos 7) ≡ true → {timed : Bool} → timed ≡ false → Timed timed rows n → 0 ≡ capped (found_length q rows n samples class k)
    unfolding found_length Timed
    found-untimed e t h = rw (← p, e, chain-untimed q rows n samples (h t) 256 k)

  pub entry-is : (k : ℕ) (type class number id ref : ℤ) → type ≡ number_at rows k 2 → class ≡ extension_ref rows n type → number ≡ class → id ≡ number_at rows k 3 → ref ≡ id
      → capped (met_length q rows n samples number ref) ≡ capped (entry_length q rows n samples k)
  unfolding entry_length
  entry-is k type class number id ref t c m i r = rw (m, c, t, r, i)

  pub entry-nothing : (k : ℕ) {type class held : ℤ} → type ≡ number_at rows k 2 → class ≡ extension_ref rows n type → held ≡ class → same_z held (pos 9) ≡ false
      → 0 ≡ capped (entry_length q rows n samples k)
  entry-nothing k t c m f = let z = entry-timeless q rows n samples k t c m f in omega arith

  -- ---- a number of a block: whether it is 0 is asked first
  module _ (e : Edition) (k c : ℕ) (id : ℤ) (i : id ≡ number_at rows k c) where
    pub number-nothing : same_z id (pos 0) ≡ true → 0 ≡ capped (number_length e q rows n samples k c)
    unfolding number_length reference_length met_length met_row
    number-nothing z = rw (← i, z) (go (same_z (ref_at e rows n k c) (pos 7)))
      where
        go : (b : Bool) → 0 ≡ capped (cond b (chain_length q rows n samples 256 n) (cond (ltb n n) (length_at q rows n samples n) 0))
        go true = chain-past 256 n (λ (h : 256 ≡ 0). omega arith) (omega arith)
        go false = rw (le-ltb n n (omega arith))

  -- ---- the numbers of a block, one after another
  module _ (e : Edition) (k : ℕ) where
    pub record Longest (most c : ℕ) : Type 0 where
      pub inside : c ≤ 9
      pub same : max most (capped (longest_of (number_length e q rows n samples k) c (9 - c))) ≡ capped (longest_event e q rows n samples k)

    pub longest-start : Longest 0 2
    unfolding longest_event
    longest-start = record { inside = omega arith; same = omega arith }

    pub longest-turn : (most c next own : ℕ) → Longest most c → c < 9 → own ≡ capped (number_length e q rows n samples k c) → next ≡ max most own → Longest next (c + 1)
    unfolding longest_of
    longest-turn most c next own w h here m =
        let left : 9 - c ≡ suc (9 - (c + 1)) = omega arith in
        let rest = longest_of (number_length e q rows n samples k) (c + 1) (9 - (c + 1)) in
        let all : max most (capped (max (number_length e q rows n samples k c) rest)) ≡ capped (longest_event e q rows n samples k) = rw (left, ← add-one c) at w.same in
        record {
          inside = omega arith;
          same = rw (m, here) (max-shift most (capped (number_length e q rows n samples k c)) (capped rest)) ∙ ap (max most) (capped-longer (number_length e q rows n samples k c) rest) ∙ all;
        }

    pub longest-end : (most c : ℕ) → Longest most c → 9 ≤ c → most ≡ capped (longest_event e q rows n samples k)
    unfolding longest_of
    longest-end most c w h = let none : 9 - c ≡ 0 = omega arith in let all = rw none at w.same in omega arith

  -- ---- blocks
  module _ (k : ℕ) where
    module _ (e : Edition) where
      pub block-13 : e ≡ V13 → capped (longest_event V13 q rows n samples k) ≡ capped (block_length e q rows n samples k)
      unfolding block_length
      block-13 v = rw v

      pub block-14 : e ≡ V14 → (r size : ℕ) (number : ℤ) → number ≡ number_at rows k 2 → size ≡ nat_abs number → r ≡ capped (size * q.block.0)
          → r ≡ capped (block_length e q rows n samples k)
      unfolding block_length
      block-14 v r size number p s m = m ∙ rw (v, s, p)

    module _ (kind : ℤ) (p : kind ≡ number_at rows k 0) where
      module _ (e : Edition) where
        pub long-block : same_z kind (pos 1) ≡ true → (r : Bool) (ns : ℕ) → ns ≡ capped (block_length e q rows n samples k) → r ≡ ltb 1000000000000 ns
            → r ≡ is_long e q rows n samples k
        unfolding is_long
        long-block f r ns b t = t ∙ rw (← p, f, b) (far (block_length e q rows n samples k))
          where
            far : (ns : ℕ) → ltb 1000000000000 (capped ns) ≡ ltb 1000000000000 ns
            far ns = ⊎_elim (λ (h : 1000000000000 < ns). lt-ltb 1000000000000 (capped ns) (omega arith) ∙ sym (lt-ltb 1000000000000 ns h))
                (λ (h : ns ≤ 1000000000000). le-ltb 1000000000000 (capped ns) (omega arith) ∙ sym (le-ltb 1000000000000 ns h)) (lt-or-ge 1000000000000 ns)

        pub long-other : same_z kind (pos 1) ≡ false → false ≡ is_long e q rows n samples k
        unfolding is_long
        long-other f = rw (← p, f)

      pub outlasts-block : same_z kind (pos 1) ≡ true → (r : Bool) (ns most : ℕ) → ns ≡ capped (block_length V14 q rows n samples k)
          → most ≡ capped (longest_event V14 q rows n samples k) → r ≡ ltb ns most → r ≡ outlasts_at q rows n samples k
      unfolding outlasts_at
      outlasts-block f r ns most b l t = t ∙ rw (← p, f, b, l)

      pub outlasts-other : same_z kind (pos 1) ≡ false → false ≡ outlasts_at q rows n samples k
      unfolding outlasts_at
      outlasts-other f = rw (← p, f)
