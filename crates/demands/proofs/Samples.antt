-- The samples of a file: each shape expands exactly when none fails, and the lent samples then hold what the shapes expand to, sample for sample.
-- Assumes nothing.
use Rattle.shape.specs.declared.Unexpanded.TheVariants.{Field, Shape, Room}
use Rattle.std.proofs.Common.{None, Option, Some, Err, Ok}
use Prim.Native.Nat.{ℕ, zero, suc, ◌+◌, ◌-◌, ◌^◌, ◌≤◌, ◌<◌}
use mathlib.Core.Bool.{Bool, true, false, cond, ◌&&◌, true≢false}
use mathlib.Core.List.{List, [], ◌∷◌}
use mathlib.Core.Logic.{◌⊎◌, inl, inr, ⊎_elim}
use mathlib.Core.Path.{◌≡◌, refl, sym, ap, ◌∙◌}
use native.Mathlib.Omega.{arith}
use borrow.Author.Tests.{le-leb}
use lib.Dec.{leb}
use lib.IntN.{ℤ, pos, nat_abs, ◌+ℤ◌}
use lib.ListN.{length, get_or, take, drop, length-replicate}
use lib.Seq.{get_or-take, get_or-drop, ext_get_or}
use Rattle.text.specs.Lines.{lines_of}
use Rattle.text.proofs.Cases.{lt-or-ge}
use Rattle.signed.proofs.Sign.{within-inv}
use Rattle.numeral.specs.declared.Decimal.{Decimal}
use Rattle.numeral.specs.Worth.{rounded_of}
use Rattle.shape.specs.Stored.{values_of, all_sound}
use Rattle.shape.specs.Samples.{sum_to, add_of, is_plain}
use Rattle.expanding.specs.Expand.{Trace, done, fault, next, then_sum, sums_of, plain_of, fresh_of, trace_of, samples_in, expands_to, expansion_of}
use Rattle.expanding.specs.Alone.{is_count, expanded_of, table_of}
use Rattle.shape.specs.declared.Edition.{Edition}
use Rattle.file.specs.Rows.{Placed}
use Rattle.file_laws.specs.Stacked.{Stacked, no_row, one-row}
use Rattle.exact_lengths.specs.Tables.{SamplesIn}
use Rattle.sampling.specs.Sampling.{expansion_at, is_shape_row, text_at, num_at, place_at, from_at, room_at, failed, fails_at, first_failing, laid_at, laid_from, Sampled, Apart, Outside}
use Rattle.sampling.proofs.Failing.{expands, table-samples}
use Rattle.sampling.proofs.Parts.{length-laid, sampled-part, sampled-outside}
use Rattle.tables.proofs.Found.{first-is}
use Rattle.reader.specs.Reading.{zeros, samples_laid}
use Rattle.demands.specs.Keeping.{sample_sum, Expands, SamplesHeld}

-- ---- "the sum of num_samples": shapes that stand one behind the other end at the sum
pub stacked-sum : {s e : ℕ} {rs : List Placed} → Stacked s e rs → e ≡ s + sample_sum rs
unfolding sample_sum
stacked-sum no_row = omega arith
stacked-sum (one-row p t) = let h = stacked-sum t in omega arith

-- ---- a shape that does not fail expands to its declared number of samples
module _ (e : Edition) (num : ℕ) (text : List ℕ) where
  answer-samples : (a b : Bool) → failed (cond a (cond b (cond (leb num num) (Ok num) (Err Room)) (Err Shape)) (Err Field)) ≡ false
      → cond a (cond b (cond (leb num num) (Ok num) (Err Room)) (Err Shape)) (Err Field) ≡ Ok num
  unfolding failed
  answer-samples true true f = rw (le-leb num num (omega arith))
  answer-samples true false f = absurd (true≢false f)
  answer-samples false b f = absurd (true≢false f)

  alone_of : failed (expanded_of e num text num) ≡ false → expanded_of e num text num ≡ Ok num
  unfolding expanded_of
  alone_of = answer-samples (is_count num && all_sound (lines_of text)) (expands_to num (expansion_of e num (values_of text)))

  of-alone : expanded_of e num text num ≡ Ok num → failed (expanded_of e num text num) ≡ false
  unfolding failed
  of-alone p = rw p

module _ (e : Edition) (file : List ℕ) (rows : List ℤ) (size k : ℕ) (fits : is_shape_row rows k ≡ true → place_at rows k + num_at rows k ≤ size) where
  own_room : is_shape_row rows k ≡ true → room_at rows size k ≡ num_at rows k
  unfolding room_at from_at
  own_room s = let h = fits s in omega arith

  pub shape_of : fails_at e file rows size k ≡ false → is_shape_row rows k ≡ true → Expands e file rows k
  unfolding fails_at
  shape_of f s = alone_of e (num_at rows k) (text_at file rows k) (rw (s, own_room s) at f)

  pub of-shape : (is_shape_row rows k ≡ true → Expands e file rows k) → fails_at e file rows size k ≡ false
  unfolding fails_at
  of-shape x = go (is_shape_row rows k) refl
    where
      go : (b : Bool) → is_shape_row rows k ≡ b → b && failed (expanded_of e (num_at rows k) (text_at file rows k) (room_at rows size k)) ≡ false
      go true s = rw (own_room s) (of-alone e (num_at rows k) (text_at file rows k) (x s))
      go false s = refl

-- ---- the samples that are laid
pub zeros-at : (n i : ℕ) → get_or (zeros n) i (pos 0) ≡ pos 0
zeros-at zero i = refl
zeros-at (suc n) zero = refl
zeros-at (suc n) (suc i) = zeros-at n i

module _ (e : Edition) (file : List ℕ) (rows : List ℤ) (size : ℕ) where
  laid-long : (k m : ℕ) (l : List ℤ) → length (laid_from e file rows size k m l) ≡ length l
  unfolding laid_from
  laid-long k zero l = refl
  laid-long k (suc m) l = go (fails_at e file rows size k) (laid-long (suc k) m (laid_at e file rows size k l))
    where
      go : (b : Bool) → length (laid_from e file rows size (suc k) m (laid_at e file rows size k l)) ≡ length (laid_at e file rows size k l)
          → length (cond b (laid_at e file rows size k l) (laid_from e file rows size (suc k) m (laid_at e file rows size k l))) ≡ length l
      go true q = length-laid e file rows size k l
      go false q = q ∙ length-laid e file rows size k l

module _ (e : Edition) (file : List ℕ) (rows : List ℤ) (n size : ℕ) where
  abbrev laid : List ℤ
  laid = samples_laid e file rows n (zeros size)

  -- where no shape fails, they are the file's, sample for sample
  pub laid-held : Apart rows n → n ≤ first_failing e file rows (length (zeros size)) n
      → ((k : ℕ) → k < n → is_shape_row rows k ≡ true → Expands e file rows k) → SamplesHeld e file rows n size laid
  unfolding first_failing expansion_at
  laid-held apart none all =
      let x : Sampled e file rows n (zeros size) n laid = record { answer = whole; samples = refl } in
      record {
        long = laid-long e file rows (length (zeros size)) 0 n (zeros size) ∙ length-replicate size (pos 0);
        part = λ k h s.
            let y = expands e (num_at rows k) (text_at file rows k) (num_at rows k) (of-alone e (num_at rows k) (text_at file rows k) (all k h s)) in
            sampled-part x apart k h s ∙ sym (table-samples e (num_at rows k) (text_at file rows k) (num_at rows k) y refl);
        rest = λ i out. sampled-outside x i out ∙ zeros-at size i;
      }
    where
      whole : n ≡ first_failing e file rows (length (zeros size)) n
      whole = let f = (first-is (fails_at e file rows (length (zeros size))) 0 n).most in omega arith

-- ---- whether number i is a sample of one of m rows
record Inside (rows : List ℤ) (m i : ℕ) : Type 0 where
  k : ℕ
  there : k < m
  shape : is_shape_row rows k ≡ true
  low : place_at rows k ≤ i
  high : i < place_at rows k + num_at rows k

module _ (rows : List ℤ) (i : ℕ) where
  inside-or : (m : ℕ) → Inside rows m i ⊎ Outside rows m i
  unfolding Outside
  inside-or zero = inr (λ k (h : k < 0). absurd (omega arith))
  inside-or (suc m) = go (inside-or m) (is_shape_row rows m) refl (lt-or-ge i (place_at rows m)) (lt-or-ge i (place_at rows m + num_at rows m))
    where
      last : (k : ℕ) → k < suc m → (k < m) ⊎ (k ≡ m)
      last k h = ⊎_elim (λ x. inl x) (λ (x : m ≤ k). inr (omega arith)) (lt-or-ge k m)

      widen : Inside rows m i → Inside rows (suc m) i
      widen x = let t = x.there in record { k = x.k; there = omega arith; shape = x.shape; low = x.low; high = x.high }

      extend : ((k : ℕ) → k < m → is_shape_row rows k ≡ true → (i < place_at rows k) ⊎ (place_at rows k + num_at rows k ≤ i))
          → (is_shape_row rows m ≡ true → (i < place_at rows m) ⊎ (place_at rows m + num_at rows m ≤ i))
          → (k : ℕ) → k < suc m → is_shape_row rows k ≡ true → (i < place_at rows k) ⊎ (place_at rows k + num_at rows k ≤ i)
      extend f g k h s = ⊎_elim (λ x. f k x s) (λ (x : k ≡ m). rw x (g (rw x at s))) (last k h)

      go : Inside rows m i ⊎ ((k : ℕ) → k < m → is_shape_row rows k ≡ true → (i < place_at rows k) ⊎ (place_at rows k + num_at rows k ≤ i)) → (b : Bool) → is_shape_row rows m ≡ b
          → (i < place_at rows m) ⊎ (place_at rows m ≤ i) → (i < place_at rows m + num_at rows m) ⊎ (place_at rows m + num_at rows m ≤ i)
          → Inside rows (suc m) i ⊎ ((k : ℕ) → k < suc m → is_shape_row rows k ≡ true → (i < place_at rows k) ⊎ (place_at rows k + num_at rows k ≤ i))
      go (inl x) b s l u = inl (widen x)
      go (inr f) false s l u = inr (extend f (λ t. absurd (true≢false (sym t ∙ s))))
      go (inr f) true s (inl l) u = inr (extend f (λ t. inl l))
      go (inr f) true s (inr l) (inr u) = inr (extend f (λ t. inr u))
      go (inr f) true s (inr l) (inl u) = inl (record { k = m; there = omega arith; shape = s; low = l; high = u })

-- number i of the samples, as one of a part
part-number : (rows l : List ℤ) (i k : ℕ) → place_at rows k ≤ i → i < place_at rows k + num_at rows k
    → get_or (take (num_at rows k) (drop (place_at rows k) l)) (i - place_at rows k) (pos 0) ≡ get_or l i (pos 0)
part-number rows l i k low high =
    let s : place_at rows k + (i - place_at rows k) ≡ i = omega arith in
    get_or-take (num_at rows k) (drop (place_at rows k) l) (i - place_at rows k) (pos 0) (omega arith) ∙ get_or-drop (place_at rows k) l (i - place_at rows k) (pos 0) ∙ rw s

-- ---- samples that are held are the ones that are laid: there is one way to hold them
module _ (e : Edition) (file : List ℕ) (rows : List ℤ) (n size : ℕ) (a b : List ℤ) (p : SamplesHeld e file rows n size a) (q : SamplesHeld e file rows n size b) where
  same_number : (i : ℕ) → Inside rows n i ⊎ Outside rows n i → get_or a i (pos 0) ≡ get_or b i (pos 0)
  same_number i (inl x) =
      sym (part-number rows a i x.k x.low x.high)
      ∙ ap (λ (l : List ℤ). get_or l (i - place_at rows x.k) (pos 0)) (p.part x.k x.there x.shape ∙ sym (q.part x.k x.there x.shape))
      ∙ part-number rows b i x.k x.low x.high
  same_number i (inr out) = p.rest i out ∙ sym (q.rest i out)

  pub held_same : a ≡ b
  held_same = ext_get_or (pos 0) a b (p.long ∙ sym q.long) (λ i h. same_number i (inside-or rows i n))

-- ---- "a sample beyond ±100,000 .. is SHAPE": what is expanded stays within
front-in : (z : ℤ) (zs : List ℤ) → nat_abs z ≤ 10 ^ 17 → SamplesIn zs → SamplesIn (z ∷ zs)
front-in z zs h f zero = h
front-in z zs h f (suc i) = f i

none_in : SamplesIn []
none_in i = omega arith

abbrev is_value : (Option ℤ) → Bool
is_value (Some z) = true
is_value None = false

sum-in : (s : ℤ) (r : (Option ℤ)) (z : ℤ) → sum_to s r ≡ Some z → nat_abs z ≤ 10 ^ 17
unfolding sum_to
sum-in s (Some v) z e = let w = within-inv (10 ^ 17) (s +ℤ v) z e in rw w.0 w.1
sum-in s None z e = absurd (true≢false (sym (ap is_value e)))

then-in : (s : ℤ) (d : Decimal) (more : ℤ → Trace ℤ) → ((z : ℤ) → SamplesIn (samples_in (more z))) → SamplesIn (samples_in (then_sum (add_of s d) more))
unfolding add_of then_sum samples_in
then-in s d more h = go (sum_to s (rounded_of d)) refl
  where
    go : (r : (Option ℤ)) → sum_to s (rounded_of d) ≡ r → SamplesIn (samples_in (then_sum r more))
    go (Some z) e = front-in z (samples_in (more z)) (sum-in s (rounded_of d) z e) (h z)
    go None e = none_in

sums-in : (t : Trace Decimal) (s : ℤ) → SamplesIn (samples_in (sums_of s t))
unfolding sums_of samples_in
sums-in done s = none_in
sums-in fault s = none_in
sums-in (next d t) s = then-in s d (λ z. sums_of z t) (λ z. sums-in t z)

plain_in : (ds : List Decimal) → SamplesIn (samples_in (plain_of ds))
unfolding plain_of samples_in
plain_in [] = none_in
plain_in (d ∷ ds) = then-in (pos 0) d (λ z. plain_of ds) (λ z. plain_in ds)

expansion-in : (e : Edition) (num : ℕ) (ds : List Decimal) → SamplesIn (samples_in (expansion_of e num ds))
unfolding expansion_of trace_of
expansion-in e num ds = go (is_plain e num (length ds))
  where
    go : (b : Bool) → SamplesIn (samples_in (cond b (plain_of ds) (sums_of (pos 0) (fresh_of ds))))
    go true = plain_in ds
    go false = sums-in (fresh_of ds) (pos 0)

-- and so do the samples of a file
module _ (e : Edition) (file : List ℕ) (rows : List ℤ) (n size : ℕ) (samples : List ℤ) (held : SamplesHeld e file rows n size samples)
    (all : (k : ℕ) → k < n → is_shape_row rows k ≡ true → Expands e file rows k) where
  shape-in : (k : ℕ) → k < n → is_shape_row rows k ≡ true → SamplesIn (table_of e (num_at rows k) (text_at file rows k) (num_at rows k))
  shape-in k h s =
      let y = expands e (num_at rows k) (text_at file rows k) (num_at rows k) (of-alone e (num_at rows k) (text_at file rows k) (all k h s)) in
      rw (table-samples e (num_at rows k) (text_at file rows k) (num_at rows k) y refl) (expansion-in e (num_at rows k) (values_of (text_at file rows k)))

  pub held_in : SamplesIn samples
  held_in i = go (inside-or rows i n)
    where
      go : Inside rows n i ⊎ Outside rows n i → nat_abs (get_or samples i (pos 0)) ≤ 10 ^ 17
      go (inl x) =
          rw (← part-number rows samples i x.k x.low x.high, held.part x.k x.there x.shape) (shape-in x.k x.there x.shape (i - place_at rows x.k))
      go (inr out) = rw (held.rest i out) (omega arith)
