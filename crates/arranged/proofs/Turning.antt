-- Tables that hold the same rows in another order, one after another: what holds of two steps holds of both. Assumes nothing.
use Prim.Native.Nat.{ℕ, zero, suc, ◌+◌, ◌≤◌, ◌<◌}
use mathlib.Core.Bool.{Bool, true}
use mathlib.Core.List.{List}
use mathlib.Core.Path.{◌≡◌, refl, ◌∙◌}
use native.Mathlib.Omega.{arith}
use lib.IntN.{ℤ}
use Rattle.tables.specs.Tables.{first_such, number_at, class_at, is_row_of, first_row, NoneAgain}
use Rattle.arranged.specs.Alike.{Alike, Stands, is_kept, Arranged, InOrder, no_more, a_block, not-here, not_there}
use Rattle.arranged.proofs.Lookup.{alike-kind, alike-id, alike-class, alike-row, alike-back}

-- ---- Two steps
pub alike_then : {a b c : List ℤ} {k j i : ℕ} → Alike a k b j → Alike b j c i → Alike a k c i
alike_then x y = record { same = λ n h. x.same n h ∙ y.same n (rw (← alike-kind x) h) }

kept_there : {a b : List ℤ} {k j : ℕ} → Alike a k b j → is_kept a k ≡ true → is_kept b j ≡ true
unfolding is_kept
kept_there x h = rw (← alike-kind x) h

stands-then : {a b c : List ℤ} {m l : ℕ} → ((j : ℕ) → j < m → is_kept b j ≡ true → Stands b j c l) → {k : ℕ} → is_kept a k ≡ true → Stands a k b m → Stands a k c l
stands-then next h s = let t = next s.j s.there (kept_there s.alike h) in record { j = t.j; there = t.there; alike = alike_then s.alike t.alike }

pub arranged-then : {a b c : List ℤ} {n m l : ℕ} → Arranged a n b m → Arranged b m c l → Arranged a n c l
arranged-then x y =
    record {
      forth = λ k h e. stands-then y.forth e (x.forth k h e);
      back = λ j h e. stands-then x.back e (y.back j h e);
      once = x.once;
      again = y.again;
    }

-- ---- The same rows in the same order
such-agree : (holds other : ℕ → Bool) (k m : ℕ) → ((j : ℕ) → k ≤ j → j < k + m → holds j ≡ other j) → first_such holds k m ≡ first_such other k m
unfolding first_such
such-agree holds other k zero h = refl
such-agree holds other k (suc m) h =
    rw (h k (omega arith) (omega arith), such-agree holds other (suc k) m (λ j (l : suc k ≤ j) (u : j < suc k + m). h j (omega arith) (omega arith)))

module _ {a b : List ℤ} {n : ℕ} (each : (k : ℕ) → k < n → Alike a k b k) where
  once-too : NoneAgain a n → NoneAgain b n
  unfolding NoneAgain first_row
  once-too once k h =
      rw (
        ← alike-class (each k h),
        ← alike-id (each k h),
        ← such-agree (is_row_of a (class_at a k) (number_at a k 1)) (is_row_of b (class_at a k) (number_at a k 1)) 0 n (λ j l (u : j < 0 + n). alike-row (each j (omega arith)) (class_at a k) (number_at a k 1)),
      )
      (once k h)

  pub same-arranged : NoneAgain a n → Arranged a n b n
  same-arranged once =
      record {
        forth = λ k h e. record { j = k; there = h; alike = each k h };
        back = λ k h e. record { j = k; there = h; alike = alike-back (each k h) };
        once = once;
        again = once-too once;
      }

  -- ---- blocks in order, of another table
  pub order-then : {c : List ℤ} {k x j y : ℕ} → j + y ≤ n → InOrder c a k x j y → InOrder c b k x j y
  order-then h no_more = no_more
  order-then h (a_block i s o) = a_block i (alike_then s (each _ (omega arith))) (order-then (omega arith) o)
  order-then h (not-here i o) = not-here i (order-then h o)
  order-then h (not_there {j = j} i o) = not_there {j = j} (rw (← alike-kind (each j (omega arith))) i) (order-then (omega arith) o)
