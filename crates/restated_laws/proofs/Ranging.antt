-- Rows in range by the columns of their edition are in range, as a target says them, by the target's columns. Assumes nothing.
use Prim.Native.Nat.{ℕ, zero, suc, ◌+◌, min, ◌≤◌, ◌<◌}
use mathlib.Core.Bool.{Bool, true, false, true≢false}
use mathlib.Core.List.{List, [], ◌∷◌}
use mathlib.Core.Path.{◌≡◌, refl, sym, ap, ◌∙◌}
use native.Mathlib.Omega.{arith}
use lib.IntN.{ℤ, pos}
use lib.ListN.{get_or, drop}
use lib.Seq.{get_or-drop}
use Rattle.signed.specs.Signed.{largest}
use Rattle.shape.specs.declared.Edition.{Edition}
use Rattle.shape.specs.declared.Edition.TheVariants.{V13, V14}
use Rattle.columns.specs.Columns.{time_of, columns_of, least_of, most_of}
use Rattle.columns.specs.Columns.{duration_of as duration_kind}
use Rattle.columns.specs.Inside.{widths_of}
use Rattle.columns.specs.Ranges.{is_whole, InRange, no_more, no_field, one_number, two-numbers}
use Rattle.columns.proofs.Widths.{room-all}
use Rattle.columns.specs.declared.Kind.{Kind}
use Rattle.columns.specs.declared.Kind.TheVariants.{Id, Reference, Required, Micros, Duration, Count, Natural, Decimal, Dwell, Absent}
use Rattle.columns.specs.declared.Form.{Form}
use Rattle.columns.specs.declared.Form.TheVariants.{Block, Rf, Gradient, Trap, Adc, Delay, Entry, Trigger}
use Rattle.tables.specs.Tables.{number_at}
use Rattle.blocks.specs.Blocks.{is_block}
use Rattle.said.specs.Said.{numbers_from, numbers_at, duration_of, duration_number, said_row}
use Rattle.restated_laws.proofs.RowBack.{own_of}
use Rattle.restated_laws.proofs.SectionBack.{InRangeOf}

-- ---- What a row's own numbers are
pub own-whole : (k : Kind) (ks : List Kind) (v : ℤ) (vs : List ℤ) → is_whole k ≡ true → own_of (k ∷ ks) (v ∷ vs) ≡ v ∷ own_of ks vs
unfolding own_of
own-whole Id ks v vs e = refl
own-whole Reference ks v vs e = refl
own-whole Required ks v vs e = refl
own-whole Micros ks v vs e = refl
own-whole Duration ks v vs e = refl
own-whole Count ks v vs e = refl
own-whole Natural ks v vs e = refl
own-whole Decimal ks v vs e = absurd (true≢false (sym e))
own-whole Dwell ks v vs e = refl
own-whole Absent ks v vs e = absurd (true≢false (sym e))

-- they go by as many numbers as the columns are wide
pub own-agrees : (ks : List Kind) (us vs : List ℤ) → ((c : ℕ) → c < widths_of ks → get_or us c (pos 0) ≡ get_or vs c (pos 0)) → own_of ks us ≡ own_of ks vs
unfolding own_of widths_of
own-agrees [] us vs h = refl
own-agrees (k ∷ ks) us vs h = go k h (λ w g. own-agrees ks (drop w us) (drop w vs) (λ c l. get_or-drop w us c (pos 0) ∙ g c l ∙ sym (get_or-drop w vs c (pos 0))))
  where
    one : (h : (c : ℕ) → c < 1 + widths_of ks → get_or us c (pos 0) ≡ get_or vs c (pos 0))
        → ((w : ℕ) → ((c : ℕ) → c < widths_of ks → get_or us (w + c) (pos 0) ≡ get_or vs (w + c) (pos 0)) → own_of ks (drop w us) ≡ own_of ks (drop w vs))
        → ◌≡◌ {A = List ℤ} (get_or us 0 (pos 0) ∷ own_of ks (drop 1 us)) (get_or vs 0 (pos 0) ∷ own_of ks (drop 1 vs))
    one h r = rw (h 0 (omega arith), r 1 (λ c (l : c < widths_of ks). h (1 + c) (omega arith)))

    go : (k : Kind) → ((c : ℕ) → c < widths_of (k ∷ ks) → get_or us c (pos 0) ≡ get_or vs c (pos 0))
        → ((w : ℕ) → ((c : ℕ) → c < widths_of ks → get_or us (w + c) (pos 0) ≡ get_or vs (w + c) (pos 0)) → own_of ks (drop w us) ≡ own_of ks (drop w vs))
        → own_of (k ∷ ks) us ≡ own_of (k ∷ ks) vs
    go Id h r = one h r
    go Reference h r = one h r
    go Required h r = one h r
    go Micros h r = one h r
    go Duration h r = one h r
    go Count h r = one h r
    go Natural h r = one h r
    go Decimal h r = rw (h 0 (omega arith), h 1 (omega arith), r 2 (λ c (l : c < widths_of ks). h (2 + c) (omega arith)))
    go Dwell h r = one h r
    go Absent h r = rw (r 1 (λ c (l : c < widths_of ks). h (1 + c) (omega arith)))

-- ---- A first number, and a first column that has none
pub record Front (k : Kind) (ks : List Kind) (vs : List ℤ) : Type 0 where
  pub n : ℕ
  pub rest : List ℤ
  pub is : vs ≡ pos n ∷ rest
  pub least : least_of k ≤ n
  pub most : n ≤ most_of k
  pub more : InRange ks rest

pub front_of : {k : Kind} {ks : List Kind} {vs : List ℤ} → is_whole k ≡ true → InRange (k ∷ ks) vs → Front k ks vs
front_of w (no_field r) = absurd (true≢false (sym w))
front_of w (one_number {n = n} {vs = vs} e l m r) = record { n = n; rest = vs; is = refl; least = l; most = m; more = r }
front_of w (two-numbers k r) = absurd (true≢false (sym w))

pub record Gone (ks : List Kind) (vs : List ℤ) : Type 0 where
  pub rest : List ℤ
  pub is : vs ≡ pos 0 ∷ rest
  pub more : InRange ks rest

pub gone_of : {k : Kind} {ks : List Kind} {vs : List ℤ} → k ≡ Absent → InRange (k ∷ ks) vs → Gone ks vs
gone_of a (no_field {vs = vs} r) = record { rest = vs; is = refl; more = r }
gone_of a (one_number e l m r) = absurd (true≢false (sym e ∙ ap is_whole a))
gone_of a (two-numbers k r) = absurd (let z : ◌≡◌ {A = ℕ} 0 1 = cc in omega arith)

-- ---- Columns that are the same but for a time, which an edition has or has not
data Like : List Kind → List Kind → Type 0 where
  like-end : Like [] []
  like-same : {ks js : List Kind} (k : Kind) → Like ks js → Like (k ∷ ks) (k ∷ js)
  time-gone : {ks js : List Kind} → Like ks js → Like (Reference ∷ ks) (Absent ∷ js)
  time-come : {ks js : List Kind} → Like ks js → Like (Absent ∷ ks) (Reference ∷ js)

same-front : {k : Kind} {ks js : List Kind} {vs : List ℤ} → ((us : List ℤ) → InRange ks us → InRange js (own_of js us)) → InRange (k ∷ ks) vs → InRange (k ∷ js) (own_of (k ∷ js) vs)
same-front {js = js} f (no_field {vs = vs} r) = unfold own_of in no_field (f vs r)
same-front {js = js} f (one_number {k} {n = n} {vs = vs} e l m r) = rw (own-whole k js (pos n) vs e) (one_number e l m (f vs r))
same-front {js = js} f (two-numbers {vs = vs} k r) = unfold own_of in two-numbers k (f vs r)

like-range : {ks js : List Kind} → Like ks js → (vs : List ℤ) → InRange ks vs → InRange js (own_of js vs)
unfolding own_of
like-range like-end vs r = no_more
like-range (like-same k l) vs r = same-front (λ us q. like-range l us q) r
like-range (time-gone l) vs r = let f = front_of refl r in rw f.is (no_field (like-range l f.rest f.more))
like-range (time-come l) vs r = let g = gone_of refl r in rw g.is (one_number {k = Reference} {n = 0} refl (omega arith) (omega arith) (like-range l g.rest g.more))

like-all : (ks : List Kind) → Like ks ks
like-all [] = like-end
like-all (k ∷ ks) = like-same k (like-all ks)

time-like : (e target : Edition) {ks js : List Kind} → Like ks js → Like (time_of e ∷ ks) (time_of target ∷ js)
time-like V13 V13 l = like-same Absent l
time-like V13 V14 l = time-come l
time-like V14 V13 l = time-gone l
time-like V14 V14 l = like-same Reference l

-- the forms but blocks, whose duration is said anew
abbrev pub is_plain : Form → Bool
is_plain Block = false
is_plain Rf = true
is_plain Gradient = true
is_plain Trap = true
is_plain Adc = true
is_plain Delay = true
is_plain Entry = true
is_plain Trigger = true

columns-like : (e target : Edition) (form : Form) → is_plain form ≡ true → Like (columns_of e form) (columns_of target form)
unfolding columns_of
columns-like e target Block p = absurd (true≢false (sym p))
columns-like e target Rf p = like-same Id (like-same Decimal (like-same Required (like-same Required (time-like e target (like-all (Micros ∷ Decimal ∷ Decimal ∷ []))))))
columns-like e target Gradient p = like-same Id (like-same Decimal (like-same Required (time-like e target (like-all (Micros ∷ [])))))
columns-like e target Trap p = like-all _
columns-like e target Adc p = like-all _
columns-like e target Delay p = like-all _
columns-like e target Entry p = like-all _
columns-like e target Trigger p = like-all _

-- ---- The numbers of row k behind its kind
pub numbers-getD : (rows : List ℤ) (k c m i : ℕ) → i < m → get_or (numbers_from rows k c m) i (pos 0) ≡ number_at rows k (c + i)
unfolding numbers_from
numbers-getD rows k c zero i h = absurd (omega arith)
numbers-getD rows k c (suc m) zero h = let z : c + 0 ≡ c = omega arith in rw z
numbers-getD rows k c (suc m) (suc i) h = let z : c + suc i ≡ suc c + i = omega arith in rw z (numbers-getD rows k (suc c) m i (omega arith))

pub behind-getD : (rows : List ℤ) (k c : ℕ) → c < 11 → get_or (drop 1 (numbers_at rows k)) c (pos 0) ≡ number_at rows k (suc c)
unfolding numbers_at numbers_from
behind-getD rows k c h = let z : 1 + c ≡ suc c = omega arith in rw z at (numbers-getD rows k 1 11 c h)

-- ---- A row of any other form, said by any target
module _ (e target : Edition) (raster : ℕ) (rows : List ℤ) (count k : ℕ) (form : Form) (vs : List ℤ) (r : InRange (columns_of e form) vs) where
  pub other-range : is_plain form ≡ true → is_block rows k ≡ false → ((c : ℕ) → c < 11 → number_at rows k (suc c) ≡ get_or vs c (pos 0)) → InRangeOf target form (said_row target raster rows count k)
  unfolding said_row
  other-range p b same =
      let few = room-all target form in
      rw (b, own-agrees (columns_of target form) (drop 1 (numbers_at rows k)) vs (λ c (l : c < widths_of (columns_of target form)). behind-getD rows k c (omega arith) ∙ same c (omega arith)))
      (like-range (columns-like e target form p) vs r)

-- ---- A block, whose duration is a target's number in range
duration-whole : (e : Edition) → is_whole (duration_kind e) ≡ true
duration-whole V13 = refl
duration-whole V14 = refl

abbrev refs : List Kind
refs = Reference ∷ Reference ∷ Reference ∷ Reference ∷ Reference ∷ Reference ∷ Absent ∷ []

a-ref : (n : ℕ) → n ≤ most_of Reference → {ks : List Kind} {vs : List ℤ} → InRange ks vs → InRange (Reference ∷ ks) (pos n ∷ vs)
a-ref n m r = one_number {k = Reference} {n = n} refl (omega arith) m r

refs-range : (a b c d f g : ℕ) → a ≤ most_of Reference → b ≤ most_of Reference → c ≤ most_of Reference → d ≤ most_of Reference → f ≤ most_of Reference → g ≤ most_of Reference
    → InRange refs (pos a ∷ pos b ∷ pos c ∷ pos d ∷ pos f ∷ pos g ∷ pos 0 ∷ [])
refs-range a b c d f g la lb lc ld lf lg = a-ref a la (a-ref b lb (a-ref c lc (a-ref d ld (a-ref f lf (a-ref g lg (no_field no_more))))))

-- the numbers of a block as they are said, behind its kind
block_numbers : List ℤ → ℕ → ℕ → List ℤ
block_numbers rows k d =
    number_at rows k 1 ∷ pos d ∷ number_at rows k 3 ∷ number_at rows k 4 ∷ number_at rows k 5 ∷ number_at rows k 6 ∷ number_at rows k 7 ∷ number_at rows k 8 ∷ number_at rows k 9 ∷ number_at rows k 10
    ∷ number_at rows k 11 ∷ []

module _ (rows : List ℤ) (k d : ℕ) {u1 u3 u4 u5 u6 u7 u8 : ℕ} (e1 : number_at rows k 1 ≡ pos u1) (e3 : number_at rows k 3 ≡ pos u3) (e4 : number_at rows k 4 ≡ pos u4) (e5 : number_at rows k 5 ≡ pos u5)
    (e6 : number_at rows k 6 ≡ pos u6) (e7 : number_at rows k 7 ≡ pos u7) (e8 : number_at rows k 8 ≡ pos u8) (least : 1 ≤ u1) (most : u1 ≤ most_of Id)
    (q : InRange refs (pos u3 ∷ pos u4 ∷ pos u5 ∷ pos u6 ∷ pos u7 ∷ pos u8 ∷ pos 0 ∷ [])) where
  block-said : (t : Edition) → d ≤ most_of (duration_kind t) → InRange (columns_of t Block) (own_of (columns_of t Block) (block_numbers rows k d))
  unfolding columns_of own_of block_numbers
  block-said V13 m = rw (e1, e3, e4, e5, e6, e7, e8) (one_number {k = Id} refl least most (a-ref d m q))
  block-said V14 m = rw (e1, e3, e4, e5, e6, e7, e8) (one_number {k = Id} refl least most (one_number {k = Duration} {n = d} refl (omega arith) m q))

module _ (e target : Edition) (raster : ℕ) (rows : List ℤ) (count k : ℕ) (vs : List ℤ) (r : InRange (columns_of e Block) vs) where
  pub block-range : is_block rows k ≡ true → ((c : ℕ) → c < 8 → number_at rows k (suc c) ≡ get_or vs c (pos 0)) → min (duration_of target raster rows count k) largest ≤ most_of (duration_kind target)
      → InRangeOf target Block (said_row target raster rows count k)
  unfolding columns_of said_row duration_number numbers_at numbers_from block_numbers
  block-range b same short =
      let x1 = front_of {k = Id} refl r in
      let x2 = front_of (duration-whole e) x1.more in
      let x3 = front_of {k = Reference} refl x2.more in
      let x4 = front_of {k = Reference} refl x3.more in
      let x5 = front_of {k = Reference} refl x4.more in
      let x6 = front_of {k = Reference} refl x5.more in
      let x7 = front_of {k = Reference} refl x6.more in
      let x8 = front_of {k = Reference} refl x7.more in
      let whole : vs ≡ pos x1.n ∷ pos x2.n ∷ pos x3.n ∷ pos x4.n ∷ pos x5.n ∷ pos x6.n ∷ pos x7.n ∷ pos x8.n ∷ x8.rest =
      x1.is ∙ ap (λ (l : List ℤ). pos x1.n ∷ l) (x2.is ∙ ap (λ (l : List ℤ). pos x2.n ∷ l) (x3.is ∙ ap (λ (l : List ℤ). pos x3.n ∷ l)
      (x4.is ∙ ap (λ (l : List ℤ). pos x4.n ∷ l) (x5.is ∙ ap (λ (l : List ℤ). pos x5.n ∷ l) (x6.is ∙ ap (λ (l : List ℤ). pos x6.n ∷ l)
      (x7.is ∙ ap (λ (l : List ℤ). pos x7.n ∷ l) x8.is)))))) in
      rw b
      (block-said rows k (min (duration_of target raster rows count k) largest) (same 0 (omega arith) ∙ ap (λ (l : List ℤ). get_or l 0 (pos 0)) whole) (same 2 (omega arith) ∙ ap (λ (l : List ℤ). get_or l 2 (pos 0)) whole) (same 3 (omega arith) ∙ ap (λ (l : List ℤ). get_or l 3 (pos 0)) whole) (same 4 (omega arith) ∙ ap (λ (l : List ℤ). get_or l 4 (pos 0)) whole) (same 5 (omega arith) ∙ ap (λ (l : List ℤ). get_or l 5 (pos 0)) whole) (same 6 (omega arith) ∙ ap (λ (l : List ℤ). get_or l 6 (pos 0)) whole) (same 7 (omega arith) ∙ ap (λ (l : List ℤ). get_or l 7 (pos 0)) whole)
      x1.least x1.most (refs-range x3.n x4.n x5.n x6.n x7.n x8.n x3.most x4.most x5.most x6.most x7.most x8.most) target short)
