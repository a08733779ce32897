-- What expanding one shape, and one row after another, leaves in the lent samples. Assumes nothing.
use Rattle.shape.specs.Answers.{Expanded}
use Prim.Native.Nat.{ℕ, suc, ◌+◌, ◌-◌, ◌≤◌, ◌<◌, min}
use mathlib.Core.Bool.{Bool, true, false}
use mathlib.Core.List.{List, append_assoc}
use mathlib.Core.Path.{◌≡◌, refl, sym, ap, ◌∙◌}
use native.Mathlib.Numerals.{add-one}
use native.Mathlib.Omega.{arith}
use borrow.Rule.Slice.PartMut.{put_mid, mid_of, mid_len}
use lib.IntN.{ℤ, pos, nat_abs}
use lib.ListN.{length, take, drop}
use lib.Seq.{sets, sets-eq, drop-drop}
use Rattle.signed.specs.Signed.{same_z}
use Rattle.signed.proofs.Sign.{same_z-true}
use Rattle.expanding.specs.Alone.{expanded_of, table_of, Expansion}
use Rattle.shape.specs.declared.Edition.{Edition}
use Rattle.stored.specs.Inside.{next_of, Walked}
use Rattle.file.specs.Marks.{met_walk}
use Rattle.file.specs.declared.Walk.{Walk}
use Rattle.stored.specs.declared.Sought.{Sought}
use Rattle.passing.specs.Sound.{sound_of}
use Rattle.stored.proofs.Walking.{walked-met, walked-less, next-holds, next-walked}
use Rattle.grammar.proofs.Parts.{Holds}
use Rattle.columns.specs.Columns.{shape_kind}
use Rattle.tables.specs.Tables.{first_such, number_at, class_of, class_at, is_row_of, first_row, NoneAgain}
use Rattle.tables.proofs.Found.{such-start, such-here, such-further, such-none, first-is}
use Rattle.sampling.specs.Sampling.{is_shape_row, text_at, num_at, place_at, from_at, room_at, failed, fails_at, first_failing, laid_at, laid_from, Sampled}
use Rattle.std.proofs.Common.{Option, Some, None, is_none}
use Rattle.sampling.specs.Inside.{ShapeSampled, NewTo, IsNew, RowSampled}
use Rattle.sampling.proofs.Failing.{table-length}

-- ---- a part that was lent, put back
put-sets : (l m : List ℤ) (from d : ℕ) → from + d ≤ length l → length m ≡ d → put_mid from d l m ≡ sets l from m
put-sets l m from d h e =
    let k : from + length m ≤ length l = omega arith in
    sym (sets-eq m l from k ∙ append_assoc (take from l) m (drop (from + length m) l) ∙ rw (e, drop-drop d from l))

-- ---- the shape of row k: what was read of its row, and what came of its part
module _ (edition : Edition) (text : List ℕ) (rows : List ℤ) (k : ℕ) (l : List ℤ)
    (num : ℕ) (a : num ≡ nat_abs (number_at rows k 2)) (place : ℕ) (p : place ≡ nat_abs (number_at rows k 3)) (from : ℕ) (f : from ≡ min place (length l))
    (room : ℕ) (o : room ≡ min num (length l - from)) where
  num-is : num ≡ num_at rows k
  unfolding num_at
  num-is = a

  from_is : from ≡ from_at rows (length l) k
  unfolding from_at place_at
  from_is = f ∙ ap (λ (q : ℕ). min q (length l)) p

  room-is : room ≡ room_at rows (length l) k
  unfolding room_at
  room-is = o ∙ rw (from_is, num-is)

  within : from + room ≤ length l
  within = omega arith

  part_length : length (mid_of from (from + room - from) l) ≡ room
  part_length = let m = mid_len from (from + room) l within in omega arith

  module _ (e : Expanded) (m : List ℤ) (x : Expansion edition num text (mid_of from (from + room - from) l) e m) (r : Bool) (q : r ≡ failed e) where
    expanded-is : e ≡ expanded_of edition (num_at rows k) text (room_at rows (length l) k)
    expanded-is = x.answer ∙ rw (part_length, ← num-is, ← room-is)

    table_is : m ≡ table_of edition num text room
    table_is = x.samples ∙ rw part_length

    put_is : put_mid from (from + room - from) l m ≡ sets l from m
    put_is =
        let d : from + room - from ≡ room = omega arith in
        rw d (put-sets l m from room within (ap length table_is ∙ table-length edition num text room))

    pub shape-laid : ShapeSampled edition text rows k l r (put_mid from (from + room - from) l m)
    shape-laid = record { answer = q ∙ ap failed expanded-is; samples = put_is ∙ rw (table_is, num-is, from_is, room-is) }

-- ---- rows before a row, and that row
new-less : (rows : List ℤ) (k : ℕ) (id : ℤ) → NewTo rows (k + 1) id → NewTo rows k id
unfolding NewTo
new-less rows k id h j l = h j (omega arith)

-- a shape's class is its own
shape-class : (rows : List ℤ) (k : ℕ) → is_shape_row rows k ≡ true → class_at rows k ≡ pos shape_kind
unfolding is_shape_row class_at class_of same_z
shape-class rows k e = rw (same_z-true (number_at rows k 0) (pos shape_kind) e)

new-but : (rows : List ℤ) (k : ℕ) → is_shape_row rows k ≡ true → (id : ℤ) → NewTo rows (k + 1) id → same_z (number_at rows k 1) id ≡ false
unfolding NewTo is_row_of same_z
new-but rows k e id h = rw (shape-class rows k e) at (h k (omega arith))

pub is-new : (rows : List ℤ) (n : ℕ) → NoneAgain rows n → (k : ℕ) → k < n → IsNew rows k
unfolding NoneAgain first_row IsNew NewTo
is-new rows n once k l e j h =
    let f = once k l in
    let g = first-is (is_row_of rows (class_at rows k) (number_at rows k 1)) 0 n in
    rw (shape-class rows k e) at (g.before j (omega arith) (omega arith))

-- ---- the stored lines of row k, a shape, sought from a walk that passed the shapes of the rows before
module _ (file : List ℕ) (rows : List ℤ) (k : ℕ) (walk : Walk) (w : Walked file (NewTo rows k) walk) (new : IsNew rows k)
    (kind : ℤ) (p : kind ≡ number_at rows k 0) (e : same_z kind (pos 11) ≡ true) (id : ℤ) (i : id ≡ number_at rows k 1) (x : Sought) (q : x ≡ next_of file walk id) where
  is-shape : is_shape_row rows k ≡ true
  unfolding is_shape_row
  is-shape = rw (← p) e

  id-new : NewTo rows k id
  unfolding IsNew
  id-new = rw i (new is-shape)

  pub row-text : Holds file x.part (text_at file rows k)
  unfolding text_at
  row-text = rw (q, ← i) (next-holds file (NewTo rows k) walk w id id-new)

  pub row_walked : Walked file (NewTo rows (k + 1)) x.walk
  row_walked = rw q (walked-less (λ a h. (new-less rows k a h, rw i (new-but rows k is-shape a h))) (next-walked file (NewTo rows k) walk w id id-new))

-- ---- row k, whose kind was read
module _ (edition : Edition) (file : List ℕ) (rows : List ℤ) (k : ℕ) (l : List ℤ) (kind : ℤ) (p : kind ≡ number_at rows k 0) where
  module _ (e : same_z kind (pos 11) ≡ true) (text : List ℕ) (t : text ≡ text_at file rows k) (failed : Bool) (l' : List ℤ) (s : ShapeSampled edition text rows k l failed l') where
    pub row-fails : failed ≡ true → RowSampled edition file rows k l None l'
    unfolding fails_at laid_at is_shape_row
    row-fails f = record { answer = sym f ∙ s.answer ∙ rw (← p, e, t); samples = s.samples ∙ rw (← p, e, t); walked = λ w q. absurd (let z : ◌≡◌ {A = ℕ} 0 1 = cc in omega arith) }

    pub row-shape : failed ≡ false → (walk : Walk) → Walked file (NewTo rows (k + 1)) walk → RowSampled edition file rows k l (Some walk) l'
    unfolding fails_at laid_at is_shape_row
    row-shape f walk w = record { answer = sym f ∙ s.answer ∙ rw (← p, e, t); samples = s.samples ∙ rw (← p, e, t); walked = λ w' q. let r : walk ≡ w' = cc in rw (← r) w }

  pub row_other : same_z kind (pos 11) ≡ false → (walk : Walk) → Walked file (NewTo rows k) walk → RowSampled edition file rows k l (Some walk) l
  unfolding fails_at laid_at is_shape_row
  row_other e walk w = record { answer = rw (← p, e); samples = rw (← p, e); walked = λ w' q. let r : walk ≡ w' = cc in rw (← r) (walked-less (new-less rows k) w) }

-- ---- the loop: what the rows that are left give
pub record Expanding (edition : Edition) (file : List ℕ) (rows : List ℤ) (n : ℕ) (l₀ l : List ℤ) (walk : Walk) (k : ℕ) : Type 0 where
  pub within : k ≤ n
  pub walked : Walked file (NewTo rows k) walk
  pub long : length l ≡ length l₀
  pub first : first_such (fails_at edition file rows (length l₀)) k (n - k) ≡ first_failing edition file rows (length l₀) n
  pub rest : laid_from edition file rows (length l₀) k (n - k) l ≡ laid_from edition file rows (length l₀) 0 n l₀

pub expanding-start : (edition : Edition) (file : List ℕ) (rows : List ℤ) (n : ℕ) → sound_of file ≡ true → (l : List ℤ) (walk : Walk) → walk ≡ met_walk 9 file → Expanding edition file rows n l l walk 0
unfolding first_failing
expanding-start edition file rows n sound l walk w =
    let e : n - 0 ≡ n = omega arith in
    record { within = omega arith; walked = rw w (walked-met file (NewTo rows 0) sound); long = refl; first = such-start (fails_at edition file rows (length l)) n; rest = rw e }

module _ (edition : Edition) (file : List ℕ) (rows : List ℤ) (n : ℕ) (l₀ l : List ℤ) (walk : Walk) (k : ℕ) (x : Expanding edition file rows n l₀ l walk k) where
  pub expanding-end : n ≤ k → Sampled edition file rows n l₀ n l
  unfolding laid_from
  expanding-end h =
      let e : n - k ≡ 0 = omega arith in
      record { answer = such-none (fails_at edition file rows (length l₀)) k n x.within h ∙ x.first; samples = rw e at x.rest }

  module _ (h : k < n) (r : Option Walk) (l' : List ℤ) (s : RowSampled edition file rows k l r l') where
    left : n - k ≡ suc (n - (k + 1))
    left = omega arith

    fails-is : is_none r ≡ fails_at edition file rows (length l₀) k
    fails-is = s.answer ∙ rw x.long

    laid-is : l' ≡ laid_at edition file rows (length l₀) k l
    laid-is = s.samples ∙ rw x.long

    pub expanding-fails : r ≡ None → Sampled edition file rows n l₀ k l'
    unfolding laid_from
    expanding-fails e =
        let f : fails_at edition file rows (length l₀) k ≡ true = sym fails-is ∙ rw e in
        record {
          answer = such-here (fails_at edition file rows (length l₀)) k n h f ∙ x.first;
          samples = laid-is ∙ rw (left, f) at x.rest;
        }

    pub expanding-turn : (behind : Walk) → r ≡ Some behind → length l' ≡ length l → Expanding edition file rows n l₀ l' behind (k + 1)
    unfolding laid_from
    expanding-turn behind e g =
        let f : fails_at edition file rows (length l₀) k ≡ false = sym fails-is ∙ rw e in
        record {
          within = omega arith;
          walked = s.walked behind e;
          long = g ∙ x.long;
          first = such-further (fails_at edition file rows (length l₀)) k n h f ∙ x.first;
          rest = rw (laid-is, add-one k) (rw (left, f, add-one k) at x.rest);
        }
