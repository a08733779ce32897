-- The list of durations in the order of first use: where a duration stands in it gives its number, and what does not stand in it is new. Assumes nothing.
use Prim.Native.Nat.{ℕ, zero, suc, ◌+◌, ◌-◌, ◌≤◌, ◌<◌}
use mathlib.Core.Bool.{Bool, true, false, cond, not, ◌&&◌}
use mathlib.Core.List.{List, [], ◌∷◌, ◌++◌, append_assoc, append-nil}
use mathlib.Core.Logic.{⊎_elim}
use mathlib.Core.Path.{◌≡◌, refl, sym, ap, ◌∙◌}
use native.Mathlib.Nat.{eq-or-lt_of_le}
use native.Mathlib.Numerals.{add-one}
use native.Mathlib.Omega.{arith}
use borrow.Author.Tests.{eq-eqb, ne_eqb, eqb-true, eqb-false}
use lib.Dec.{eqb}
use lib.IntN.{ℤ}
use lib.ListN.{length, take, length-append}
use Rattle.blocks.specs.Blocks.{is_block}
use Rattle.sayable.specs.Sayable.{nanos_at}
use Rattle.durations.specs.Durations.{first_use, is_first, use_count, uses_in, delay_number, use_list, uses_list, FirstUsed, stands_at, is_new, new_use}
use Rattle.durations.proofs.Using.{number-used, use-one}
use Rattle.durations.proofs.Firsts.{first-at, first_alike, same_first, used-nanos, used-first, used-most, not_first}

-- ---- where a number stands
stands-most : (x : ℕ) (list : List ℕ) → stands_at list x ≤ length list
unfolding stands_at
stands-most x [] = omega arith
stands-most x (y ∷ list) = go (eqb y x) (stands-most x list)
  where
    go : (b : Bool) → stands_at list x ≤ length list → cond b 0 (suc (stands_at list x)) ≤ suc (length list)
    go true h = omega arith
    go false h = omega arith

-- what stands in the front of a list stands there in the whole
stands-front : (x c : ℕ) (list : List ℕ) → stands_at (take c list) x < length (take c list) → (stands_at (take c list) x ≡ stands_at list x) × (stands_at list x < length list)
unfolding stands_at
stands-front x zero list h = absurd (omega arith)
stands-front x (suc c) [] h = absurd (omega arith)
stands-front x (suc c) (y ∷ list) h = go (eqb y x) (stands-front x c list) h
  where
    go : (b : Bool) → (stands_at (take c list) x < length (take c list) → (stands_at (take c list) x ≡ stands_at list x) × (stands_at list x < length list))
        → cond b 0 (suc (stands_at (take c list) x)) < suc (length (take c list))
        → (cond b 0 (suc (stands_at (take c list) x)) ≡ cond b 0 (suc (stands_at list x))) × (cond b 0 (suc (stands_at list x)) < suc (length list))
    go true f h = (refl, omega arith)
    go false f h = let g = f (omega arith) in let t = g.1 in (ap suc g.0, omega arith)

front-stands : (x c : ℕ) (front list : List ℕ) → front ≡ take c list → stands_at front x < length front → (stands_at front x ≡ stands_at list x) × (stands_at list x < length list)
front-stands x c front list e = rw e (stands-front x c list)

module _ (rows : List ℤ) (n : ℕ) where
  -- ---- the list is as long as there are first uses, and is in two parts
  one-length : (k : ℕ) → length (use_list rows n k) ≡ use_count rows n k
  unfolding use_list use_count
  one-length k = go (is_first rows n k)
    where
      go : (b : Bool) → length (cond b (nanos_at rows k ∷ []) []) ≡ cond b 1 0
      go true = refl
      go false = refl

  pub uses-length : (k m : ℕ) → length (uses_list rows n k m) ≡ uses_in rows n k m
  unfolding uses_list uses_in
  uses-length k zero = refl
  uses-length k (suc m) = length-append (use_list rows n k) (uses_list rows n (suc k) m) ∙ rw (one-length k, uses-length (suc k) m)

  pub uses-split : (k a b j : ℕ) → k + a ≡ j → uses_list rows n k (a + b) ≡ uses_list rows n k a ++ uses_list rows n j b
  unfolding uses_list
  uses-split k zero b j e = let q : j ≡ k = omega arith in let z : 0 + b ≡ b = omega arith in rw (q, z)
  uses-split k (suc a) b j e = let z : suc a + b ≡ suc (a + b) = omega arith in rw (z, append_assoc, uses-split (suc k) a b j (omega arith))

  uses-next : (k : ℕ) → uses_list rows n 0 (suc k) ≡ uses_list rows n 0 k ++ use_list rows n k
  unfolding uses_list
  uses-next k =
      let s : uses_list rows n 0 (k + 1) ≡ uses_list rows n 0 k ++ (use_list rows n k ++ []) = uses-split 0 k 1 k (omega arith) in
      rw (add-one k, append-nil) at s

  uses-add : (j b : ℕ) → uses_in rows n 0 (j + b) ≡ uses_in rows n 0 j + uses_in rows n j b
  uses-add j b =
      sym (uses-length 0 (j + b)) ∙ ap length (uses-split 0 j b j (omega arith)) ∙ length-append (uses_list rows n 0 j) (uses_list rows n j b) ∙ rw (uses-length 0 j, uses-length j b)

  pub uses-after : (k : ℕ) → uses_in rows n 0 (suc k) ≡ uses_in rows n 0 k + use_count rows n k
  uses-after k =
      sym (uses-length 0 (suc k)) ∙ ap length (uses-next k) ∙ length-append (uses_list rows n 0 k) (use_list rows n k) ∙ rw (uses-length 0 k, one-length k)

  pub uses-more : (k m : ℕ) → k ≤ m → uses_in rows n 0 k ≤ uses_in rows n 0 m
  uses-more k m h = let e : k + (m - k) ≡ m = omega arith in let s = rw e at (uses-add k (m - k)) in omega arith

  -- a first use is counted
  uses-less : (j k : ℕ) → is_first rows n j ≡ true → j < k → uses_in rows n 0 j < uses_in rows n 0 k
  unfolding uses_in
  uses-less j k f h =
      let e : j + suc (k - suc j) ≡ k = omega arith in
      let s : uses_in rows n 0 k ≡ uses_in rows n 0 j + (use_count rows n j + uses_in rows n (suc j) (k - suc j)) = rw e at (uses-add j (suc (k - suc j))) in
      let o = use-one rows n j true (sym f) refl in
      omega arith

  -- ---- where a first use stands: behind those before it
  stands-first : (j : ℕ) → is_first rows n j ≡ true → (s a b : ℕ) → s + a ≡ j → stands_at (uses_list rows n s (a + suc b)) (nanos_at rows j) ≡ uses_in rows n s a
  unfolding uses_list stands_at uses_in use_list use_count
  stands-first j f s zero b e =
      let q : s ≡ j = omega arith in
      let z : 0 + suc b ≡ suc b = omega arith in
      rw (z, q, f, eq-eqb (nanos_at rows j) (nanos_at rows j) refl)
  stands-first j f s (suc a) b e =
      let z : suc a + suc b ≡ suc (a + suc b) = omega arith in
      rw z (go (is_first rows n s) refl (stands-first j f (suc s) a b (omega arith)))
    where
      go : (t : Bool) → is_first rows n s ≡ t → stands_at (uses_list rows n (suc s) (a + suc b)) (nanos_at rows j) ≡ uses_in rows n (suc s) a
          → stands_at (cond t (nanos_at rows s ∷ []) [] ++ uses_list rows n (suc s) (a + suc b)) (nanos_at rows j) ≡ cond t 1 0 + uses_in rows n (suc s) a
      go true q h = rw (ne_eqb (nanos_at rows s) (nanos_at rows j) (λ (p : nanos_at rows s ≡ nanos_at rows j). let r = same_first rows n s j q f p in omega arith), h) (omega arith)
      go false q h = rw h (omega arith)

  first-stands : (j m : ℕ) → is_first rows n j ≡ true → j < m → stands_at (uses_list rows n 0 m) (nanos_at rows j) ≡ uses_in rows n 0 j
  first-stands j m f h = let e : j + suc (m - suc j) ≡ m = omega arith in rw e at (stands-first j f 0 j (m - suc j) (omega arith))

  -- and what stands there is what a first use lasts
  record Stood (s m x : ℕ) : Type 0 where
    row : ℕ
    later : s ≤ row
    within : row < s + m
    first : is_first rows n row ≡ true
    lasts : nanos_at rows row ≡ x

  stood-later : {s m x : ℕ} → Stood (suc s) m x → Stood s (suc m) x
  stood-later t = let l = t.later in let w = t.within in record { row = t.row; later = omega arith; within = omega arith; first = t.first; lasts = t.lasts }

  stood : (x s m : ℕ) → stands_at (uses_list rows n s m) x < length (uses_list rows n s m) → Stood s m x
  unfolding uses_list stands_at use_list
  stood x s zero h = absurd (omega arith)
  stood x s (suc m) h = go (is_first rows n s) refl (stood x (suc s) m) h
    where
      here : is_first rows n s ≡ true → (stands_at (uses_list rows n (suc s) m) x < length (uses_list rows n (suc s) m) → Stood (suc s) m x) → (b : Bool) → eqb (nanos_at rows s) x ≡ b
          → cond b 0 (suc (stands_at (uses_list rows n (suc s) m) x)) < suc (length (uses_list rows n (suc s) m)) → Stood s (suc m) x
      here q t true p h = record { row = s; later = omega arith; within = omega arith; first = q; lasts = eqb-true (nanos_at rows s) x p }
      here q t false p h = stood-later (t (omega arith))

      go : (b : Bool) → is_first rows n s ≡ b → (stands_at (uses_list rows n (suc s) m) x < length (uses_list rows n (suc s) m) → Stood (suc s) m x)
          → stands_at (cond b (nanos_at rows s ∷ []) [] ++ uses_list rows n (suc s) m) x < length (cond b (nanos_at rows s ∷ []) [] ++ uses_list rows n (suc s) m) → Stood s (suc m) x
      go true q t h = here q t (eqb (nanos_at rows s) x) refl h
      go false q t h = stood-later (t h)

  -- ---- a duration that stands in the front of the list: its first use, and how many are before that
  record Known (list : List ℕ) (k : ℕ) : Type 0 where
    row : ℕ
    within : row < n
    first : is_first rows n row ≡ true
    used : row ≡ first_use rows n k
    lasts : nanos_at rows k ≡ 0 → ⊥
    before : stands_at list (nanos_at rows k) ≡ uses_in rows n 0 row

  known : (list : List ℕ) (k : ℕ) → FirstUsed rows n list → stands_at list (nanos_at rows k) < length list → Known list k
  unfolding FirstUsed
  known list k u h =
      let f = front-stands (nanos_at rows k) (length list) list (uses_list rows n 0 n) u h in
      let t = stood (nanos_at rows k) 0 n f.1 in
      let w : t.row < n = let w = t.within in omega arith in
      let a = first-at rows n t.row t.first in
      let e = t.lasts in
      let s : stands_at (uses_list rows n 0 n) (nanos_at rows k) ≡ uses_in rows n 0 t.row = rw e at (first-stands t.row n t.first w) in
      record {
        row = t.row;
        within = w;
        first = t.first;
        used = sym a.own ∙ first_alike rows n t.row k e;
        lasts = λ (z : nanos_at rows k ≡ 0). a.lasts (e ∙ z);
        before = f.0 ∙ s;
      }

  module _ (list : List ℕ) (k : ℕ) (u : FirstUsed rows n list) (place : ℕ) (p : place ≡ stands_at list (nanos_at rows k)) (h : place < length list) where
    there : Known list k
    there = known list k u (rw p at h)

    -- its number
    pub stands-number : place + 1 ≡ delay_number rows n k
    stands-number = number-used rows n k (nanos_at rows k) refl there.lasts there.row there.used there.within place (p ∙ there.before)

    -- whether a block is its first use
    pub stands-next : is_block rows k ≡ true → (used : ℕ) → used ≡ uses_in rows n 0 k → eqb place used ≡ is_first rows n k
    stands-next b used q = ⊎_elim here earlier (eq-or-lt_of_le {n = there.row} {m = k} (rw (sym there.used) at (used-most rows n k b)))
      where
        here : there.row ≡ k → eqb place used ≡ is_first rows n k
        here e = eq-eqb place used (p ∙ there.before ∙ ap (uses_in rows n 0) e ∙ sym q) ∙ sym (rw e at there.first)

        earlier : there.row < k → eqb place used ≡ is_first rows n k
        earlier l =
            let less = uses-less there.row k there.first l in
            let w = there.before in
            let o = there.used in
            ne_eqb place used (λ (z : place ≡ used). omega arith) ∙ sym (other (is_first rows n k) refl o)
          where
            other : (c : Bool) → is_first rows n k ≡ c → there.row ≡ first_use rows n k → c ≡ false
            other false e o = refl
            other true e o = absurd (let a = (first-at rows n k e).own in omega arith)

  -- ---- a block's duration is new where it does not stand among those before it
  module _ (k : ℕ) where
    -- a first use does not
    new-stands : first_use rows n k ≡ k → stands_at (uses_list rows n 0 k) (nanos_at rows k) ≡ length (uses_list rows n 0 k)
    new-stands e =
        ⊎_elim (λ q. q) (λ (h : stands_at (uses_list rows n 0 k) (nanos_at rows k) < length (uses_list rows n 0 k)). absurd (again h)) (eq-or-lt_of_le (stands-most (nanos_at rows k) (uses_list rows n 0 k)))
      where
        again : stands_at (uses_list rows n 0 k) (nanos_at rows k) < length (uses_list rows n 0 k) → ⊥
        again h =
            let t = stood (nanos_at rows k) 0 k h in
            let w = t.within in
            let o = (first-at rows n t.row t.first).own in
            let a = first_alike rows n t.row k t.lasts in
            omega arith

    -- a later use does
    old-stands : k < n → first_use rows n k < k → (nanos_at rows k ≡ 0 → ⊥) → stands_at (uses_list rows n 0 k) (nanos_at rows k) < length (uses_list rows n 0 k)
    old-stands l h z =
        let f = used-first rows n k (omega arith) z in
        let s = rw (used-nanos rows n k (omega arith)) at (first-stands (first_use rows n k) k f h) in
        let m = uses-less (first_use rows n k) k f h in
        let q = uses-length 0 k in
        omega arith

    new-block : k < n → is_block rows k ≡ true → (nanos_at rows k ≡ 0 → ⊥) → eqb (stands_at (uses_list rows n 0 k) (nanos_at rows k)) (length (uses_list rows n 0 k)) ≡ eqb (first_use rows n k) k
    new-block l b z =
        ⊎_elim
        (λ (e : first_use rows n k ≡ k). eq-eqb (stands_at (uses_list rows n 0 k) (nanos_at rows k)) (length (uses_list rows n 0 k)) (new-stands e) ∙ sym (eq-eqb (first_use rows n k) k e))
        (λ (h : first_use rows n k < k).
        let o = old-stands l h z in
        ne_eqb (stands_at (uses_list rows n 0 k) (nanos_at rows k)) (length (uses_list rows n 0 k)) (λ (q : stands_at (uses_list rows n 0 k) (nanos_at rows k) ≡ length (uses_list rows n 0 k)). omega arith)
        ∙ sym (ne_eqb (first_use rows n k) k (λ (q : first_use rows n k ≡ k). omega arith)))
        (eq-or-lt_of_le (used-most rows n k b))

    new-first : k < n → is_new (uses_list rows n 0 k) rows k ≡ is_first rows n k
    unfolding is_new is_first
    new-first l = go (is_block rows k) refl
      where
        lasting : is_block rows k ≡ true → (t : Bool) → eqb (nanos_at rows k) 0 ≡ t
            → (not t && eqb (stands_at (uses_list rows n 0 k) (nanos_at rows k)) (length (uses_list rows n 0 k))) ≡ (not t && eqb (first_use rows n k) k)
        lasting b true e = refl
        lasting b false e = new-block l b (eqb-false (nanos_at rows k) 0 e)

        go : (b : Bool) → is_block rows k ≡ b → (b && (not (eqb (nanos_at rows k) 0) && eqb (stands_at (uses_list rows n 0 k) (nanos_at rows k)) (length (uses_list rows n 0 k)))) ≡ is_first rows n k
        go true b = lasting b (eqb (nanos_at rows k) 0) refl
        go false b = sym (not_first rows n k l b)

    -- so what is new is what the list has next
    pub new-next : k < n → uses_list rows n 0 (suc k) ≡ uses_list rows n 0 k ++ new_use (uses_list rows n 0 k) rows k
    unfolding new_use use_list
    new-next l = rw (new-first l) (uses-next k)
