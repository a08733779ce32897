-- Rows of a text that stand for rows of a table: sections, which leave out some and hold the others in their order, and rows whose keys rise. Assumes nothing.
use Prim.Native.Nat.{ℕ, zero, suc, ◌+◌, ◌≤◌, ◌<◌}
use mathlib.Core.Bool.{Bool, true, false, cond, true≢false}
use mathlib.Core.List.{List, [], ◌∷◌, ◌++◌}
use mathlib.Core.Logic.{◌⊎◌, inl, inr}
use mathlib.Core.Path.{◌≡◌, refl, sym, ◌∙◌}
use native.Mathlib.Nat.{eq-or-lt_of_le}
use native.Mathlib.Omega.{arith}
use lib.IntN.{ℤ}
use lib.ListN.{length}
use Rattle.file.specs.Rows.{Placed}
use Rattle.file_tables.specs.Tables.{cells_of}
use Rattle.restated_laws.proofs.SectionBack.{given_rows}

-- ---- A row of a text of which something holds
pub record Among (holds : List ℤ → Type 0) (rs : List Placed) : Type 0 where
  pub at : ℕ
  pub there : at < length rs
  pub is : holds (cells_of rs at)

module _ {holds : List ℤ → Type 0} where
  pub among_first : (r : Placed) (rs : List Placed) → holds r.cells → Among holds (r ∷ rs)
  unfolding cells_of
  among_first r rs h = record { at = 0; there = omega arith; is = h }

  pub among_later : (r : Placed) {rs : List Placed} → Among holds rs → Among holds (r ∷ rs)
  unfolding cells_of
  among_later r a = let l = a.there in record { at = suc a.at; there = omega arith; is = a.is }

  pub among-right : (xs : List Placed) {ys : List Placed} → Among holds ys → Among holds (xs ++ ys)
  among-right [] a = a
  among-right (x ∷ xs) a = among_later x (among-right xs a)

  among-left-at : (xs ys : List Placed) (i : ℕ) → i < length xs → holds (cells_of xs i) → Among holds (xs ++ ys)
  unfolding cells_of
  among-left-at [] ys i l h = absurd (omega arith)
  among-left-at (x ∷ xs) ys zero l h = among_first x (xs ++ ys) h
  among-left-at (x ∷ xs) ys (suc i) l h = among_later x (among-left-at xs ys i (omega arith) h)

  pub among-left : {xs : List Placed} (ys : List Placed) → Among holds xs → Among holds (xs ++ ys)
  among-left {xs} ys a = among-left-at xs ys a.at a.there a.is

-- ---- A section: of m rows from row k on, those that belong to it, each as it stands there
pub data Section (is : ℕ → Bool) (stands : List ℤ → ℕ → Type 0) : ℕ → ℕ → List Placed → Type 0 where
  no_more : {k : ℕ} → Section is stands k 0 []
  left_out : {k m : ℕ} {rs : List Placed} → is k ≡ false → Section is stands (suc k) m rs → Section is stands k (suc m) rs
  stands_here : {k m : ℕ} {r : Placed} {rs : List Placed} → is k ≡ true → stands r.cells k → Section is stands (suc k) m rs → Section is stands k (suc m) (r ∷ rs)

module _ {is : ℕ → Bool} {stands : List ℤ → ℕ → Type 0} where
  -- what belongs to it is there
  pub section-among : {k m : ℕ} {rs : List Placed} → Section is stands k m rs → (j : ℕ) → k ≤ j → j < k + m → is j ≡ true → Among (λ cells. stands cells j) rs
  section-among no_more j a b e = absurd (omega arith)
  section-among (left_out {k} {m} {rs} f s) j a b e = go (eq-or-lt_of_le a) (λ (l : k < j). section-among s j l (omega arith) e)
    where
      go : (k ≡ j) ⊎ (k < j) → (k < j → Among (λ cells. stands cells j) rs) → Among (λ cells. stands cells j) rs
      go (inl q) later = absurd (true≢false (sym e ∙ (rw (← q) f)))
      go (inr l) later = later l
  section-among (stands_here {k} {m} {r} {rs} f h s) j a b e = go (eq-or-lt_of_le a) (λ (l : k < j). section-among s j l (omega arith) e)
    where
      go : (k ≡ j) ⊎ (k < j) → (k < j → Among (λ cells. stands cells j) rs) → Among (λ cells. stands cells j) (r ∷ rs)
      go (inl q) later = among_first r rs (rw (← q) h)
      go (inr l) later = among_later r (later l)

-- lines of rows are a section
pub given-section : (is : ℕ → Bool) (cells : ℕ → List ℤ) (stands : List ℤ → ℕ → Type 0) (stop : ℕ) → ((k : ℕ) → k < stop → is k ≡ true → stands (cells k) k) → (n k m : ℕ) → k + m ≤ stop
    → Section is stands k m (given_rows is cells n k m)
unfolding given_rows
given-section is cells stands stop each n k zero h = no_more
given-section is cells stands stop each n k (suc m) h =
    go (is k) refl (given-section is cells stands stop each (suc n) (suc k) m (omega arith)) (given-section is cells stands stop each n (suc k) m (omega arith))
  where
    go : (b : Bool) → is k ≡ b → Section is stands (suc k) m (given_rows is cells (suc n) (suc k) m) → Section is stands (suc k) m (given_rows is cells n (suc k) m)
        → Section is stands k (suc m) (cond b (record { line = n; cells = cells k } ∷ given_rows is cells (suc n) (suc k) m) (given_rows is cells n (suc k) m))
    go true e s t = stands_here e (each k (omega arith) e) s
    go false e s t = left_out e t

-- ---- Rows that stand for keys, which rise: from `low` on, and below `high`
pub data Rising (stands : List ℤ → ℕ → Type 0) : ℕ → List Placed → ℕ → Type 0 where
  none_left : {low high : ℕ} → low ≤ high → Rising stands low [] high
  next-key : {low high : ℕ} {r : Placed} {rs : List Placed} (key : ℕ) → low ≤ key → stands r.cells key → Rising stands (suc key) rs high → Rising stands low (r ∷ rs) high

-- a row with its key
pub record Keyed (stands : List ℤ → ℕ → Type 0) (low : ℕ) (cells : List ℤ) : Type 0 where
  pub key : ℕ
  pub least : low ≤ key
  pub is : stands cells key

-- two rows, one behind the other
pub record KeyedTwo (stands : List ℤ → ℕ → Type 0) (first second : List ℤ) : Type 0 where
  pub key : ℕ
  pub is : stands first key
  pub behind : Keyed stands (suc key) second

module _ {stands : List ℤ → ℕ → Type 0} where
  rising-from : {low high : ℕ} {rs : List Placed} (l : ℕ) → l ≤ low → Rising stands low rs high → Rising stands l rs high
  rising-from {high = high} l h (none_left g) = none_left {low = l} {high = high} (omega arith)
  rising-from l h (next-key key g s r) = next-key {low = l} key (omega arith) s r

  pub rising-then : {a b c d : ℕ} {xs ys : List Placed} → Rising stands a xs b → b ≤ c → Rising stands c ys d → Rising stands a (xs ++ ys) d
  rising-then {a} (none_left g) h q = rising-from a (omega arith) q
  rising-then (next-key key g s r) h q = next-key key g s (rising-then r h q)

  pub rising-at : {low high : ℕ} {rs : List Placed} → Rising stands low rs high → (i : ℕ) → i < length rs → Keyed stands low (cells_of rs i)
  unfolding cells_of
  rising-at (none_left g) i l = absurd (omega arith)
  rising-at (next-key key g s r) zero l = record { key = key; least = g; is = s }
  rising-at (next-key key g s r) (suc i) l = let k = rising-at r i (omega arith) in let h = k.least in record { key = k.key; least = omega arith; is = k.is }

  pub rising-two : {low high : ℕ} {rs : List Placed} → Rising stands low rs high → (i j : ℕ) → i < j → j < length rs → KeyedTwo stands (cells_of rs i) (cells_of rs j)
  unfolding cells_of
  rising-two (none_left g) i j b l = absurd (omega arith)
  rising-two (next-key key g s r) i zero b l = absurd (omega arith)
  rising-two (next-key key g s r) zero (suc j) b l = record { key = key; is = s; behind = rising-at r j (omega arith) }
  rising-two (next-key key g s r) (suc i) (suc j) b l = rising-two r i j (omega arith) (omega arith)

  -- the rows of a section, where each has a key by its place in the table
  pub section-rising : {is : ℕ → Bool} {own : List ℤ → ℕ → Type 0} (base stop : ℕ) → ((cells : List ℤ) (k : ℕ) → k < stop → is k ≡ true → own cells k → stands cells (base + k)) → {k m : ℕ} {rs : List Placed}
      → Section is own k m rs → k + m ≤ stop → Rising stands (base + k) rs (base + (k + m))
  section-rising base stop each {k} no_more h = none_left {low = base + k} {high = base + (k + 0)} (omega arith)
  section-rising base stop each (left_out {k} {m} e s) h =
      let z : base + (k + suc m) ≡ base + (suc k + m) = omega arith in rw z (rising-from (base + k) (omega arith) (section-rising base stop each s (omega arith)))
  section-rising base stop each (stands_here {k} {m} {r} e g s) h =
      let z : base + (k + suc m) ≡ base + (suc k + m) = omega arith in
      let y : base + suc k ≡ suc (base + k) = omega arith in
      rw z (next-key {low = base + k} (base + k) (omega arith) (each r.cells k (omega arith) e g) (rw y at (section-rising base stop each s (omega arith))))
