-- Each shape's part of the lent samples: what it holds where no row fails, and that nothing else is touched. Assumes nothing.
use Prim.Native.Nat.{ℕ, zero, suc, ◌+◌, ◌-◌, ◌≤◌, ◌<◌}
use mathlib.Core.Bool.{Bool, true, false, cond, not}
use mathlib.Core.List.{List, [], ◌∷◌, ◌++◌, append_assoc}
use mathlib.Core.Logic.{◌⊎◌, inl, inr, ⊎_elim}
use mathlib.Core.Path.{◌≡◌, refl, sym, ap, ◌∙◌}
use native.Mathlib.Nat.{eq-or-lt_of_le}
use native.Mathlib.Omega.{arith}
use borrow.Author.Tests.{leb-true}
use lib.Dec.{leb}
use lib.IntN.{ℤ, pos}
use lib.ListN.{length, get_or, take, drop, set}
use lib.Seq.{sets, sets-eq, length-sets, length-take-le, take_at, drop_at, take-set-le, drop-set-add, drop-set-lt, get_or-take, get_or-drop}
use Rattle.text.specs.Lines.{lines_of}
use Rattle.text.proofs.Cases.{lt-or-ge, and_both}
use Rattle.shape.specs.Stored.{all_sound}
use Rattle.expanding.specs.Expand.{samples_in, expands_to}
use Rattle.expanding.specs.Alone.{is_count, table_of}
use Rattle.shape.specs.declared.Edition.{Edition}
use Rattle.tables.proofs.Found.{first-is}
use Rattle.sampling.specs.Sampling.{is_shape_row, text_at, num_at, place_at, expansion_at, from_at, room_at, fails_at, first_failing, laid_at, laid_from, Sampled, Apart, Outside}
use Rattle.sampling.proofs.Failing.{samples_of, Expands, expands, table-length, table-samples, fails-exact}

-- ---- stores beside a stretch of n numbers from p on, and stores that are such a stretch
beside-one : (l : List ℤ) (p n i : ℕ) (a : ℤ) → (p + n ≤ i) ⊎ (i < p) → take n (drop p (set l i a)) ≡ take n (drop p l)
beside-one l p n i a (inl h) =
    let e : i ≡ p + (i - p) = omega arith in
    ap (λ (j : ℕ). take n (drop p (set l j a))) e ∙ rw (drop-set-add p l (i - p) a) (take-set-le n (drop p l) (i - p) a (omega arith))
beside-one l p n i a (inr h) = rw (drop-set-lt p l i a h)

beside : (vs l : List ℤ) (p n i : ℕ) → (p + n ≤ i) ⊎ (i + length vs ≤ p) → take n (drop p (sets l i vs)) ≡ take n (drop p l)
beside [] l p n i h = refl
beside (v ∷ vs) l p n i h = beside vs (set l i v) p n (suc i) (later h) ∙ beside-one l p n i v (here h)
  where
    later : (p + n ≤ i) ⊎ (i + suc (length vs) ≤ p) → (p + n ≤ suc i) ⊎ (suc i + length vs ≤ p)
    later (inl a) = inl (omega arith)
    later (inr a) = inr (omega arith)

    here : (p + n ≤ i) ⊎ (i + suc (length vs) ≤ p) → (p + n ≤ i) ⊎ (i < p)
    here (inl a) = inl a
    here (inr a) = inr (omega arith)

stretch : (vs l : List ℤ) (i n : ℕ) → length vs ≡ n → i + n ≤ length l → take n (drop i (sets l i vs)) ≡ vs
stretch vs l i n e h =
    let k : i + length vs ≤ length l = omega arith in
    rw (sets-eq vs l i k, append_assoc (take i l) vs (drop (i + length vs) l), drop_at (take i l) (vs ++ drop (i + length vs) l) i (length-take-le i l (omega arith)))
    (take_at vs (drop (i + length vs) l) n e)

nothing : (vs l : List ℤ) (i : ℕ) → length vs ≡ 0 → sets l i vs ≡ l
nothing [] l i e = refl
nothing (v ∷ vs) l i e = absurd (omega arith)

-- two stretches do not overlap
abbrev Clear : ℕ → ℕ → ℕ → ℕ → Type 0
Clear p n q m = (p + n ≤ q) ⊎ (q + m ≤ p)

-- number i of a list, out of a stretch of one
number_same : (l m : List ℤ) (i : ℕ) → take 1 (drop i l) ≡ take 1 (drop i m) → get_or l i (pos 0) ≡ get_or m i (pos 0)
number_same l m i e = sym (one l) ∙ ap (λ (s : List ℤ). get_or s 0 (pos 0)) e ∙ one m
  where
    one : (l : List ℤ) → get_or (take 1 (drop i l)) 0 (pos 0) ≡ get_or l i (pos 0)
    one l = let z : i + 0 ≡ i = omega arith in get_or-take 1 (drop i l) 0 (pos 0) (omega arith) ∙ get_or-drop i l 0 (pos 0) ∙ rw z

module _ (edition : Edition) (file : List ℕ) (rows : List ℤ) (size : ℕ) where
  abbrev part_at : ℕ → List ℤ
  part_at k = table_of edition (num_at rows k) (text_at file rows k) (room_at rows size k)

  -- ---- one row, beside a stretch of n numbers from p on
  shape-beside : (k : ℕ) (l : List ℤ) (p n : ℕ) → Clear p n (place_at rows k) (num_at rows k) → take n (drop p (sets l (from_at rows size k) (part_at k))) ≡ take n (drop p l)
  unfolding from_at room_at
  shape-beside k l p n c =
      ⊎_elim (λ (h : size < place_at rows k). rw (nothing (part_at k) l (from_at rows size k) (let e = many in omega arith)))
      (λ (h : place_at rows k ≤ size). beside (part_at k) l p n (from_at rows size k) (moved h c))
      (lt-or-ge size (place_at rows k))
    where
      many : length (part_at k) ≡ room_at rows size k
      many = table-length edition (num_at rows k) (text_at file rows k) (room_at rows size k)

      moved : place_at rows k ≤ size → Clear p n (place_at rows k) (num_at rows k) → Clear p n (from_at rows size k) (length (part_at k))
      moved h (inl a) = inl (omega arith)
      moved h (inr a) = inr (let e = many in omega arith)

  row-beside : (k : ℕ) (l : List ℤ) (p n : ℕ) → (is_shape_row rows k ≡ true → Clear p n (place_at rows k) (num_at rows k))
      → take n (drop p (laid_at edition file rows size k l)) ≡ take n (drop p l)
  unfolding laid_at
  row-beside k l p n clear = go (is_shape_row rows k) refl
    where
      go : (b : Bool) → is_shape_row rows k ≡ b → take n (drop p (cond b (sets l (from_at rows size k) (part_at k)) l)) ≡ take n (drop p l)
      go true e = shape-beside k l p n (clear e)
      go false e = refl

  pub length-laid : (k : ℕ) (l : List ℤ) → length (laid_at edition file rows size k l) ≡ length l
  unfolding laid_at
  length-laid k l = go (is_shape_row rows k)
    where
      go : (b : Bool) → length (cond b (sets l (from_at rows size k) (part_at k)) l) ≡ length l
      go true = length-sets l (from_at rows size k) (part_at k)
      go false = refl

  -- ---- m rows from row k on, beside such a stretch
  rows-beside : (m k : ℕ) (l : List ℤ) (p n : ℕ) → ((j : ℕ) → k ≤ j → j < k + m → is_shape_row rows j ≡ true → Clear p n (place_at rows j) (num_at rows j))
      → take n (drop p (laid_from edition file rows size k m l)) ≡ take n (drop p l)
  unfolding laid_from
  rows-beside zero k l p n clear = refl
  rows-beside (suc m) k l p n clear =
      go (fails_at edition file rows size k) (rows-beside m (suc k) (laid_at edition file rows size k l) p n (λ j (a : suc k ≤ j) (b : j < suc k + m). clear j (omega arith) (omega arith)))
    where
      here : take n (drop p (laid_at edition file rows size k l)) ≡ take n (drop p l)
      here = row-beside k l p n (clear k (omega arith) (omega arith))

      go : (b : Bool) → take n (drop p (laid_from edition file rows size (suc k) m (laid_at edition file rows size k l))) ≡ take n (drop p (laid_at edition file rows size k l))
          → take n (drop p (cond b (laid_at edition file rows size k l) (laid_from edition file rows size (suc k) m (laid_at edition file rows size k l)))) ≡ take n (drop p l)
      go true e = here
      go false e = e ∙ here

  -- ---- a shape that does not fail: there is room for its samples, and its part holds them
  module _ (k : ℕ) (s : is_shape_row rows k ≡ true) (f : fails_at edition file rows size k ≡ false) where
    expands-at : Expands edition (num_at rows k) (text_at file rows k) (room_at rows size k)
    unfolding fails_at
    expands-at = expands edition (num_at rows k) (text_at file rows k) (room_at rows size k) (rw s at f)

    fits-at : place_at rows k + num_at rows k ≤ size
    unfolding is_count room_at from_at
    fits-at =
        let some = leb-true 1 (num_at rows k) (and_both (leb 1 (num_at rows k)) (leb (num_at rows k) 1000000) expands-at.count).0 in
        let h = expands-at.fits in
        omega arith

    from_is : from_at rows size k ≡ place_at rows k
    unfolding from_at
    from_is = let h = fits-at in omega arith

    room-is : room_at rows size k ≡ num_at rows k
    unfolding room_at
    room-is = let h = fits-at in let e = from_is in omega arith

    own-part : (l : List ℤ) → length l ≡ size → take (num_at rows k) (drop (place_at rows k) (laid_at edition file rows size k l)) ≡ samples_in (expansion_at edition file rows k)
    unfolding laid_at expansion_at
    own-part l e =
        let h = fits-at in
        let t = table-samples edition (num_at rows k) (text_at file rows k) (room_at rows size k) expands-at room-is in
        let n = sym (ap length t) ∙ table-length edition (num_at rows k) (text_at file rows k) (room_at rows size k) ∙ room-is in
        rw (s, t, from_is) (stretch (samples_of edition (num_at rows k) (text_at file rows k)) l (place_at rows k) (num_at rows k) n (omega arith))

  -- ---- m rows from row k on, none of which fails, whose parts do not overlap
  rows-hold : (m k : ℕ) (l : List ℤ) → length l ≡ size → ((j : ℕ) → k ≤ j → j < k + m → fails_at edition file rows size j ≡ false) → Apart rows (k + m)
      → (q : ℕ) → k ≤ q → q < k + m → is_shape_row rows q ≡ true
      → take (num_at rows q) (drop (place_at rows q) (laid_from edition file rows size k m l)) ≡ samples_in (expansion_at edition file rows q)
  unfolding laid_from Apart
  rows-hold zero k l e none apart q a b s = absurd (omega arith)
  rows-hold (suc m) k l e none apart q a b s =
      let l' = laid_at edition file rows size k l in
      rw (none k (omega arith) (omega arith))
      (⊎_elim (λ (h : k ≡ q). rw (← h) (here (rw (← h) at s)))
      (λ (h : k < q).
      rows-hold m (suc k) l' (length-laid k l ∙ e) (λ j (c : suc k ≤ j) (d : j < suc k + m). none j (omega arith) (omega arith))
      (λ i j c (d : j < suc k + m). apart i j c (omega arith)) q h (omega arith) s)
      (eq-or-lt_of_le a))
    where
      here : is_shape_row rows k ≡ true
          → take (num_at rows k) (drop (place_at rows k) (laid_from edition file rows size (suc k) m (laid_at edition file rows size k l))) ≡ samples_in (expansion_at edition file rows k)
      here t =
          rows-beside m (suc k) (laid_at edition file rows size k l) (place_at rows k) (num_at rows k)
          (λ j (c : suc k ≤ j) (d : j < suc k + m) u. apart k j c (omega arith) t u)
          ∙ own-part k t (none k (omega arith) (omega arith)) l e

-- ---- "11 SHAPE: stored values don't expand": of a row that has room for its samples, a count of 1 to 10^6 and sound lines
pub shape-exact : (edition : Edition) (file : List ℕ) (rows : List ℤ) (size k : ℕ) → is_shape_row rows k ≡ true → place_at rows k + num_at rows k ≤ size
    → 1 ≤ num_at rows k → num_at rows k ≤ 1000000 → all_sound (lines_of (text_at file rows k)) ≡ true
    → fails_at edition file rows size k ≡ not (expands_to (num_at rows k) (expansion_at edition file rows k))
unfolding fails_at expansion_at room_at from_at
shape-exact edition file rows size k s h some few sound =
    rw s (fails-exact edition (num_at rows k) (text_at file rows k) (room_at rows size k) some few (omega arith) sound)

module _ {edition : Edition} {file : List ℕ} {rows : List ℤ} {n : ℕ} {l l' : List ℤ} where
  -- ---- where no row fails
  module _ (x : Sampled edition file rows n l n l') where
    none-fails : (k : ℕ) → k < n → fails_at edition file rows (length l) k ≡ false
    unfolding first_failing
    none-fails k h = (first-is (fails_at edition file rows (length l)) 0 n).before k (omega arith) (let e = x.answer in omega arith)

    -- each shape expands, and there is room for its samples
    pub sampled-expands : (k : ℕ) → k < n → is_shape_row rows k ≡ true
        → (expands_to (num_at rows k) (expansion_at edition file rows k) ≡ true) × (place_at rows k + num_at rows k ≤ length l)
    unfolding expansion_at
    sampled-expands k h s =
        let f = none-fails k h in
        ((expands-at edition file rows (length l) k s f).good, fits-at edition file rows (length l) k s f)

    -- and its part holds them, sample for sample, if the parts do not overlap
    pub sampled-part : Apart rows n → (k : ℕ) → k < n → is_shape_row rows k ≡ true
        → take (num_at rows k) (drop (place_at rows k) l') ≡ samples_in (expansion_at edition file rows k)
    sampled-part apart k h s =
        let z : 0 + n ≡ n = omega arith in
        rw x.samples
        (rows-hold edition file rows (length l) n 0 l refl (λ j a (b : j < 0 + n). none-fails j (omega arith)) (rw z apart) k (omega arith) (omega arith) s)

  -- ---- and whether one fails or not, a number that is in no shape's part is as it was
  pub sampled-outside : {r : ℕ} → Sampled edition file rows n l r l' → (i : ℕ) → Outside rows n i → get_or l' i (pos 0) ≡ get_or l i (pos 0)
  unfolding Outside
  sampled-outside x i out =
      rw x.samples
      (number_same (laid_from edition file rows (length l) 0 n l) l i (rows-beside edition file rows (length l) n 0 l i 1 (λ j a (b : j < 0 + n) s. clear j (out j (omega arith) s))))
    where
      clear : (j : ℕ) → (i < place_at rows j) ⊎ (place_at rows j + num_at rows j ≤ i) → Clear i 1 (place_at rows j) (num_at rows j)
      clear j (inl h) = inl (omega arith)
      clear j (inr h) = inr h
