-- Hints noted row by row, by the answers of the code's tests. Assumes nothing.
use Prim.Native.Nat.{ℕ, suc, ◌+◌, ◌-◌, ◌*◌, ◌<◌, ◌≤◌}
use mathlib.Core.Bool.{Bool, true, false, cond}
use mathlib.Core.List.{List}
use mathlib.Core.Path.{◌≡◌, refl, sym, ap, ◌∙◌}
use native.Mathlib.Nat.{mul-le-mul}
use native.Mathlib.Numerals.{add-one}
use native.Mathlib.Omega.{arith}
use borrow.Author.Tests.{lt-ltb}
use lib.Dec.{ltb}
use lib.IntN.{ℤ, pos}
use lib.ListN.{length, get_or, set, length-set, get_or-eq_default}
use lib.Seq.{set_out}
use Rattle.signed.specs.Signed.{same_z}
use Rattle.tables.specs.Tables.{number_at, class_at}
use Rattle.finding.specs.Hints.{group_of, mark_of, room_of, home_of, free_from, laid_on, noted_row, noted_rows, first_event, base_mark, based_on, base_of, noted_all}

-- ---- a hint past the end is none
none_out : (hints : List ℕ) (at : ℕ) → length hints ≤ at → get_or hints at 0 ≡ 0
none_out hints at h = get_or-eq_default hints 0 h

-- ---- the way to a free place, one place at a time
module _ (hints : List ℕ) (at left : ℕ) where
  pub free-end : left ≡ 0 → at ≡ free_from hints at left
  unfolding free_from
  free-end e = rw e

  pub free-here : 0 < left → get_or hints at 0 ≡ 0 → at ≡ free_from hints at left
  unfolding free_from
  free-here h e = let l : left ≡ suc (left - 1) = omega arith in rw (l, e)

  pub free-out : 0 < left → length hints ≤ at → at ≡ free_from hints at left
  free-out h o = free-here h (none_out hints at o)

  full-further : (m : ℕ) → (get_or hints at 0 ≡ 0 → ⊥) → free_from hints (at + 1) m ≡ free_from hints at (suc m)
  unfolding free_from
  full-further m n = rw (lt-ltb 0 (get_or hints at 0) (omega arith), add-one at)

  pub free-further : 0 < left → (get_or hints at 0 ≡ 0 → ⊥) → free_from hints (at + 1) (left - 1) ≡ free_from hints at left
  free-further h n = let l : suc (left - 1) ≡ left = omega arith in full-further (left - 1) n ∙ ap (free_from hints at) l

-- ---- a hint laid
module _ (hints : List ℕ) (at mark : ℕ) where
  pub laid-free : get_or hints at 0 ≡ 0 → set hints at mark ≡ laid_on hints at mark
  unfolding laid_on
  laid-free e = rw e

  pub laid-full : (get_or hints at 0 ≡ 0 → ⊥) → hints ≡ laid_on hints at mark
  unfolding laid_on
  laid-full n = rw (lt-ltb 0 (get_or hints at 0) (omega arith))

  pub laid_out : length hints ≤ at → hints ≡ laid_on hints at mark
  laid_out h = sym (set_out hints at mark h) ∙ laid-free (none_out hints at h)

-- ---- row k of n noted, whose class was read; nothing else is known of the hints but how many there are
module _ (hints : List ℕ) (rows : List ℤ) (n base k : ℕ) {class : ℤ} (p : class ≡ class_at rows k) where
  pub noted-block : same_z class (pos 1) ≡ true → hints ≡ noted_row hints rows n base k
  unfolding noted_row
  noted-block e = rw (← p, e)

  pub noted-there : same_z class (pos 1) ≡ false → {id held : ℤ} {home at mark : ℕ} {next : List ℕ} → held ≡ class → id ≡ number_at rows k 1 → home ≡ home_of (length hints) held id
      → at ≡ free_from hints home 64 → mark ≡ mark_of k n base → next ≡ laid_on hints at mark → next ≡ noted_row hints rows n base k
  unfolding noted_row
  noted-there e q i h a m x = rw (x, a, h, i, m, q, ← p, e)

length-laid : (hints : List ℕ) (at mark : ℕ) → length (laid_on hints at mark) ≡ length hints
unfolding laid_on
length-laid hints at mark = go (ltb 0 (get_or hints at 0))
  where
    go : (b : Bool) → length (cond b hints (set hints at mark)) ≡ length hints
    go true = refl
    go false = length-set hints at mark

length-noted : (hints : List ℕ) (rows : List ℤ) (n base k : ℕ) → length (noted_row hints rows n base k) ≡ length hints
unfolding noted_row
length-noted hints rows n base k = go (same_z (class_at rows k) (pos 1))
  where
    at : ℕ
    at = free_from hints (home_of (length hints) (class_at rows k) (number_at rows k 1)) 64

    go : (b : Bool) → length (cond b hints (laid_on hints at (mark_of k n base))) ≡ length hints
    go true = refl
    go false = length-laid hints at (mark_of k n base)

-- ---- the base
length-based : (hints : List ℕ) (rows : List ℤ) (n : ℕ) → length (based_on hints rows n) ≡ length hints
unfolding based_on
length-based hints rows n = length-laid hints (length hints - 1) (base_mark (first_event rows n))

-- ---- a loop over rows, with row k the next: what is left gives the whole
pub record Left (hints₀ : List ℕ) (rows : List ℤ) (n base : ℕ) (hints : List ℕ) (k : ℕ) : Type 0 where
  pub long : length hints ≡ length hints₀
  pub inside : k ≤ n
  pub whole : noted_rows hints rows n base k (n - k) ≡ noted_rows hints₀ rows n base 0 n

pub left-start : (hints : List ℕ) (rows : List ℤ) (n base : ℕ) → Left hints rows n base hints 0
left-start hints rows n base = record { long = refl; inside = omega arith; whole = let e : n - 0 ≡ n = omega arith in rw e }

module _ {hints₀ : List ℕ} {rows : List ℤ} {n base : ℕ} {hints : List ℕ} {k : ℕ} (l : Left hints₀ rows n base hints k) where
  pub left-turn : {next : List ℕ} → next ≡ noted_row hints rows n base k → k < n → Left hints₀ rows n base next (k + 1)
  unfolding noted_rows
  left-turn {next} e h =
      let m : n - k ≡ suc (n - (k + 1)) = omega arith in
      record { long = ap length e ∙ length-noted hints rows n base k ∙ l.long; inside = omega arith; whole = rw (e, add-one k) (rw (m, add-one k) at l.whole) }

  left_end : n ≤ k → hints ≡ noted_rows hints₀ rows n base 0 n
  unfolding noted_rows
  left_end h = let m : n - k ≡ 0 = omega arith in rw m at l.whole

  -- where the base was laid before
  pub left-all : (first : List ℕ) → hints₀ ≡ based_on first rows n → base ≡ base_of hints₀ → n ≤ k → hints ≡ noted_all first rows n
  unfolding noted_all
  left-all first p q h = left_end h ∙ rw (q, p)

  pub left-long : (first : List ℕ) → hints₀ ≡ based_on first rows n → length hints ≡ length first
  left-long first p = l.long ∙ ap length p ∙ length-based first rows n

-- ---- where the group of a hint begins is no number too large
pub group-most : (n : ℕ) → group_of n ≤ 1000001
unfolding group_of
group-most n = omega arith

pub begins-below : {size before : ℕ} (n mark : ℕ) → size ≡ group_of n → before ≡ mark - 1 → mark < 65536 → before * size ≤ 65535 * 1000001
begins-below {size} {before} n mark e f h = let g = group-most n in
    let a : before ≤ 65535 = omega arith in
    let b : size ≤ 1000001 = omega arith in
    mul-le-mul a b

-- nor is the place of a home, before it is cut to the room that there is
pub home_below : {room : ℕ} (count mixed : ℕ) → room ≡ room_of count → mixed < 4294967296 → mixed * room ≤ 4294967295 * 4294967232
unfolding room_of
home_below {room} count mixed e h =
    let a : mixed ≤ 4294967295 = omega arith in
    let b : room ≤ 4294967232 = omega arith in
    mul-le-mul a b
