-- What is asked of a block in one pass over its numbers, by the answers of the code's tests. Assumes nothing.
use Prim.Native.Nat.{ℕ, suc, ◌+◌, ◌-◌, ◌≤◌, ◌<◌, max}
use mathlib.Core.Bool.{Bool, true, false, ◌||◌}
use mathlib.Core.List.{List}
use mathlib.Core.Logic.{⊎_elim}
use mathlib.Core.Path.{◌≡◌, refl, sym, ◌∙◌}
use native.Mathlib.Numerals.{add-one}
use native.Mathlib.Omega.{arith}
use borrow.Author.Tests.{lt-ltb, le-ltb, le-leb, lt-leb}
use lib.Dec.{ltb}
use lib.IntN.{ℤ, pos}
use lib.ListN.{get_or}
use Rattle.signed.specs.Signed.{same_z}
use Rattle.signed.proofs.Sign.{same_z-refl}
use Rattle.text.proofs.Cases.{lt-or-ge}
use Rattle.unit.specs.Time.{capped}
use Rattle.unit.specs.declared.Rasters.{Rasters}
use Rattle.shape.specs.declared.Edition.{Edition}
use Rattle.shape.specs.declared.Edition.TheVariants.{V13, V14}
use Rattle.tables.specs.Tables.{first_such, number_at, first_row}
use Rattle.tables.proofs.Found.{such-here, such-further}
use Rattle.tables.proofs.Meeting.{met-found}
use Rattle.references.specs.References.{block_refs, ref_of, ref_at, misses_of, misses_at, dangles_at}
use Rattle.references.proofs.Classes.{ref-block, misses-nothing, misses-class, misses-found, numbers-behind}
use Rattle.blocks.specs.Blocks.{longest_of, number_length, longest_event, block_length}
use Rattle.blocks.specs.Inside.{found_length, number_breaks, some_breaks, block_breaks}
use Rattle.blocks.proofs.Lasting.{number-nothing, reference-no-class, reference-found, block-13, long-block, outlasts-block}

either_true : (b : Bool) → true ≡ b || true
either_true true = refl
either_true false = refl

either-shift : (a b c d : Bool) → (a || b) || (c || d) ≡ (a || c) || (b || d)
either-shift true b c d = refl
either-shift false true true d = refl
either-shift false true false d = refl
either-shift false false c d = refl

-- the longer of two exceeds a cap where one of them does
longer-exceeds : (cap a b : ℕ) → ltb cap (capped (max a b)) ≡ ltb cap (capped a) || ltb cap (capped b)
longer-exceeds cap a b =
    ⊎_elim (λ (h : cap < capped a). rw (lt-ltb cap (capped a) h) (lt-ltb cap (capped (max a b)) (omega arith)))
    (λ (h : capped a ≤ cap). rw (le-ltb cap (capped a) h) (⊎_elim (λ (l : cap < capped b). lt-ltb cap (capped (max a b)) (omega arith) ∙ sym (lt-ltb cap (capped b) l))
    (λ (l : capped b ≤ cap). le-ltb cap (capped (max a b)) (omega arith) ∙ sym (le-ltb cap (capped b) l)) (lt-or-ge cap (capped b)))) (lt-or-ge cap (capped a))

-- the first of the numbers left that does something: the one at hand, or one behind it
first-within : (holds : ℕ → Bool) (c n : ℕ) → c < n → ltb (first_such holds c (n - c)) n ≡ holds c || ltb (first_such holds (c + 1) (n - (c + 1))) n
first-within holds c n h = go (holds c) refl
  where
    go : (b : Bool) → holds c ≡ b → ltb (first_such holds c (n - c)) n ≡ b || ltb (first_such holds (c + 1) (n - (c + 1))) n
    go true e = rw (← such-here holds c n h e) (lt-ltb c n h)
    go false e = rw (such-further holds c n h e)

longest-within : (lasts : ℕ → ℕ) (c n : ℕ) → c < n → longest_of lasts c (n - c) ≡ max (lasts c) (longest_of lasts (c + 1) (n - (c + 1)))
unfolding longest_of
longest-within lasts c n h = let left : n - c ≡ suc (n - (c + 1)) = omega arith in rw (left, add-one c)

module _ (e : Edition) (q : Rasters) (rows : List ℤ) (n : ℕ) (samples : List ℤ) (k cap : ℕ) where
  -- ---- one number: whether it is 0 is asked first, then its class, then where it leads
  module _ (c : ℕ) (id : ℤ) (i : id ≡ number_at rows k c) where
    pub breaks-nothing : same_z id (pos 0) ≡ true → false ≡ number_breaks e q rows n samples k cap c
    unfolding number_breaks
    breaks-nothing z = rw (← misses-nothing e rows n k c id i z, ← number-nothing q rows n samples e k c id i z, le-ltb cap 0 (omega arith))

    module _ (z : same_z id (pos 0) ≡ false) (block : number_at rows k 0 ≡ pos 1) (class : ℤ) (p : class ≡ pos (get_or (block_refs e) c 0)) where
      class-is : class ≡ ref_at e rows n k c
      class-is = p ∙ ref-block e rows n k c (pos 1) (sym block) (same_z-refl (pos 1))

      pub breaks-class : same_z class (pos 0) ≡ true → false ≡ number_breaks e q rows n samples k cap c
      unfolding number_breaks number_length
      breaks-class t =
          rw (← misses-class e rows n k c id i z class class-is t, ← reference-no-class q rows n samples (number_at rows k c) class-is t, le-ltb cap 0 (omega arith))

      module _ (t : same_z class (pos 0) ≡ false) {held ref : ℤ} (o : held ≡ class) (s : ref ≡ id) (found : ℕ) (f : found ≡ first_row rows n held ref) where
        first : found ≡ first_row rows n class id
        first = f ∙ rw (o, s)

        pub breaks-missing : n ≤ found → true ≡ number_breaks e q rows n samples k cap c
        unfolding number_breaks
        breaks-missing h = rw (← misses-found e rows n k c id i z class class-is t found first, le-leb n found h)

        pub breaks-found : found < n → (r : Bool) (ns : ℕ) → ns ≡ capped (found_length q rows n samples held found) → r ≡ ltb cap ns → r ≡ number_breaks e q rows n samples k cap c
        unfolding number_breaks number_length
        breaks-found h r ns l x =
            x ∙ rw (← misses-found e rows n k c id i z class class-is t found first, lt-leb n found h, l, o, reference-found q rows n samples class-is i found (first ∙ met-found rows n refl refl z) h)

  -- ---- the numbers of a block, one after another
  pub left_breaks : ℕ → Bool
  left_breaks c = ltb (first_such (misses_at e rows n k) c (12 - c)) 12 || ltb cap (capped (longest_of (number_length e q rows n samples k) c (9 - c)))

  pub record Asking (c : ℕ) : Type 0 where
    pub inside : c ≤ 9
    pub same : left_breaks c ≡ some_breaks e q rows n samples k cap

  pub asking-start : Asking 2
  unfolding left_breaks some_breaks dangles_at longest_event
  asking-start = record { inside = omega arith; same = rw (numbers-behind e rows n k) }

  one_more : (c : ℕ) → c < 9 → left_breaks c ≡ number_breaks e q rows n samples k cap c || left_breaks (c + 1)
  unfolding left_breaks number_breaks
  one_more c h =
      let rest = longest_of (number_length e q rows n samples k) (c + 1) (9 - (c + 1)) in
      rw (first-within (misses_at e rows n k) c 12 (omega arith), longest-within (number_length e q rows n samples k) c 9 h, longer-exceeds cap (number_length e q rows n samples k c) rest)
      (either-shift (misses_at e rows n k c) (ltb (first_such (misses_at e rows n k) (c + 1) (12 - (c + 1))) 12) (ltb cap (capped (number_length e q rows n samples k c))) (ltb cap (capped rest)))

  -- numbers 9 to 11 of a block refer to nothing
  module _ (block : number_at rows k 0 ≡ pos 1) where
    free : (d : ℕ) → get_or (block_refs e) d 0 ≡ 0 → misses_at e rows n k d ≡ false
    unfolding misses_at misses_of ref_at ref_of
    free d z = rw (block, same_z-refl (pos 1), z, same_z-refl (pos 0))

    none_left : left_breaks 9 ≡ false
    unfolding left_breaks longest_of first_such
    none_left = rw (free 9 refl, free 10 refl, free 11 refl, le-ltb cap 0 (omega arith))

  module _ (c : ℕ) (w : Asking c) where
    module _ (h : c < 9) {r : Bool} (p : r ≡ number_breaks e q rows n samples k cap c) where
      pub asking-here : r ≡ true → true ≡ some_breaks e q rows n samples k cap
      asking-here t = rw (one_more c h, ← p, t) at w.same

      pub asking-turn : r ≡ false → Asking (c + 1)
      asking-turn t = record { inside = omega arith; same = rw (one_more c h, ← p, t) at w.same }

    pub asking-end : 9 ≤ c → number_at rows k 0 ≡ pos 1 → false ≡ some_breaks e q rows n samples k cap
    asking-end h block = let nine : c ≡ 9 = omega arith in sym (none_left block) ∙ (rw nine at w.same)

-- ---- a block of either edition
module _ (e : Edition) (q : Rasters) (rows : List ℤ) (n : ℕ) (samples : List ℤ) (k : ℕ) (block : number_at rows k 0 ≡ pos 1) where
  pub breaks-13 : e ≡ V13 → some_breaks e q rows n samples k 1000000000000 ≡ block_breaks e q rows n samples k
  unfolding some_breaks block_breaks
  breaks-13 v =
      rw (v, long-block q rows n samples k (pos 1) (sym block) V13 (same_z-refl (pos 1)) (ltb 1000000000000 (capped (longest_event V13 q rows n samples k))) (capped (longest_event V13 q rows n samples k)) (block-13 q rows n samples k V13 refl) refl)

  module _ (v : e ≡ V14) (own : ℕ) (b : own ≡ capped (block_length e q rows n samples k)) {r : Bool} (p : r ≡ ltb 1000000000000 own) where
    l : own ≡ capped (block_length V14 q rows n samples k)
    l = rw v at b

    pub breaks-long : r ≡ true → true ≡ block_breaks e q rows n samples k
    unfolding block_breaks
    breaks-long t =
        rw (v, ← long-block q rows n samples k (pos 1) (sym block) V14 (same_z-refl (pos 1)) r own l p, t) (either_true (dangles_at V14 rows n k))

    pub breaks-14 : r ≡ false → some_breaks e q rows n samples k own ≡ block_breaks e q rows n samples k
    unfolding some_breaks block_breaks
    breaks-14 f =
        let most = capped (longest_event V14 q rows n samples k) in
        rw (v, ← long-block q rows n samples k (pos 1) (sym block) V14 (same_z-refl (pos 1)) r own l p, f, ← outlasts-block q rows n samples k (pos 1) (sym block) (same_z-refl (pos 1)) (ltb own most) own most l refl refl)
