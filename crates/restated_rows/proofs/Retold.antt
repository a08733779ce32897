-- Each row of a source as a target says it, read back: it is like the row that it was, and a block's duration is the target's. Assumes nothing.
use Prim.Native.Nat.{ℕ, suc, ◌+◌, ◌<◌}
use mathlib.Core.Bool.{Bool, true, false, not, true≢false}
use mathlib.Core.List.{List, ◌∷◌}
use mathlib.Core.Path.{◌≡◌, refl, sym, ap, ◌∙◌}
use native.Mathlib.Omega.{arith}
use lib.Dec.{eqb}
use lib.IntN.{ℤ, pos}
use lib.ListN.{get_or, drop}
use Rattle.signed.specs.Signed.{same_z}
use Rattle.signed.proofs.Sign.{same_z-refl, same_z-true}
use Rattle.text.proofs.Lines.{or_left, or_right}
use Rattle.shape.specs.declared.Edition.{Edition}
use Rattle.shape.specs.declared.Edition.TheVariants.{V13, V14}
use Rattle.columns.specs.Columns.{time_of, columns_of, form_number, width_of}
use Rattle.columns.specs.Inside.{widths_of}
use Rattle.columns.specs.Rows.{padded}
use Rattle.columns.specs.Ranges.{InRange, no_more, no_field, one_number, two-numbers}
use Rattle.columns.specs.declared.Kind.{Kind}
use Rattle.columns.specs.declared.Kind.TheVariants.{Reference}
use Rattle.columns.specs.declared.Form.{Form}
use Rattle.columns.specs.declared.Form.TheVariants.{Block, Rf, Gradient, Trap, Adc, Delay, Entry, Trigger}
use Rattle.columns.proofs.Widths.{whole-width, room-all}
use Rattle.tables.specs.Tables.{number_at}
use Rattle.blocks.specs.Blocks.{is_block}
use Rattle.sayable.specs.Sayable.{is_kind, has_number, has_time}
use Rattle.said.specs.Said.{numbers_at}
use Rattle.restated_laws.proofs.RowBack.{own_of}
use Rattle.restated_laws.proofs.SectionBack.{back_row}
use Rattle.restated_laws.proofs.Ranging.{own-whole, gone_of, front_of, own-agrees, behind-getD}
use Rattle.restated_rows.proofs.Source.{Source, not-block, own, kind-of, own-plain}

-- ---- Numbers in range by some columns are their own
own_range : {ks : List Kind} {vs : List ℤ} → InRange ks vs → own_of ks vs ≡ vs
unfolding own_of
own_range no_more = refl
own_range (no_field r) = rw (own_range r)
own_range (one_number {k} {ks} {n} {vs} e l m r) = own-whole k ks (pos n) vs e ∙ rw (own_range r)
own_range (two-numbers k r) = rw (own_range r)

-- ---- Columns that are the same but for a time, which is 0 where the target has none
abbrev NoTime : Edition → ℕ → List ℤ → Type 0
NoTime target i vs = target ≡ V13 → get_or vs i (pos 0) ≡ pos 0

time-said : (e target : Edition) (ks : List Kind) (vs : List ℤ) → InRange (time_of e ∷ ks) vs → NoTime target 0 vs → InRange (time_of target ∷ ks) vs
time-said V13 V13 ks vs r z = r
time-said V13 V14 ks vs r z = let g = gone_of refl r in rw g.is (one_number {k = Reference} {n = 0} refl (omega arith) (omega arith) g.more)
time-said V14 V13 ks vs r z =
    let f = front_of refl r in
    let q : pos f.n ≡ pos 0 = ap (λ (l : List ℤ). get_or l 0 (pos 0)) (sym f.is) ∙ z refl in
    rw (f.is, q) (no_field f.more)
time-said V14 V14 ks vs r z = r

module _ {target : Edition} {ks js : List Kind} (i : ℕ) (f : (us : List ℤ) → InRange ks us → NoTime target i us → InRange js us) where
  behind : {k : Kind} {vs : List ℤ} → InRange (k ∷ ks) vs → NoTime target (width_of k + i) vs → InRange (k ∷ js) vs
  behind (no_field {vs = us} r) z = let y : 1 + i ≡ suc i = omega arith in no_field (f us r (rw y at z))
  behind (one_number {k} {n = n} {vs = us} e l m r) z = let y : width_of k + i ≡ suc i = let w = whole-width k e in omega arith in one_number e l m (f us r (rw y at z))
  behind (two-numbers {vs = us} q r) z = let y : 2 + i ≡ suc (suc i) = omega arith in two-numbers q (f us r (rw y at z))

retimed : (e target : Edition) (form : Form) → eqb (form_number form) 1 ≡ false → {vs : List ℤ} → InRange (columns_of e form) vs → (form ≡ Rf → NoTime target 5 vs) → (form ≡ Gradient → NoTime target 4 vs)
    → InRange (columns_of target form) vs
unfolding columns_of
retimed e target Block o r a b = absurd (true≢false o)
retimed e target Rf o r a b = behind 4 (λ us. behind 2 (λ us. behind 1 (λ us. behind 0 (time-said e target _)))) r (a refl)
retimed e target Gradient o r a b = behind 3 (λ us. behind 1 (λ us. behind 0 (time-said e target _))) r (b refl)
retimed e target Trap o r a b = r
retimed e target Adc o r a b = r
retimed e target Delay o r a b = r
retimed e target Entry o r a b = r
retimed e target Trigger o r a b = r

module _ {e target : Edition} {rows : List ℤ} {count : ℕ} {cells : ℕ → List ℤ} (s : Source e target rows count cells) (k : ℕ) (h : k < count) where
  -- ---- A row of columns but a block
  no_number : (kind : ℤ) (c : ℕ) → has_number rows k kind c ≡ false → number_at rows k 0 ≡ kind → number_at rows k c ≡ pos 0
  unfolding has_number is_kind
  no_number kind c n q = same_z-true (number_at rows k c) (pos 0) (go (same_z (number_at rows k c) (pos 0)) ((rw (q, same_z-refl kind) at n)))
    where
      go : (b : Bool) → not b ≡ false → b ≡ true
      go true e = refl
      go false e = absurd (true≢false e)

  module _ (form : Form) (o : eqb (form_number form) 1 ≡ false) (q : number_at rows k 0 ≡ pos (form_number form)) where
    abbrev other : is_block rows k ≡ false
    other = not-block rows k (form_number form) q o

    no-time-rf : form ≡ Rf → NoTime target 5 (own s k h).numbers
    unfolding has_time
    no-time-rf f v = sym (own-plain s k h other 5 (omega arith)) ∙ no_number (pos 2) 6 (or_left (has_number rows k (pos 2) 6) (has_number rows k (pos 3) 5) (s.times v k h)) (q ∙ ap (λ (g : Form). pos (form_number g)) f)

    no-time-gradient : form ≡ Gradient → NoTime target 4 (own s k h).numbers
    unfolding has_time
    no-time-gradient f v = sym (own-plain s k h other 4 (omega arith)) ∙ no_number (pos 3) 5 (or_right (has_number rows k (pos 2) 6) (has_number rows k (pos 3) 5) (s.times v k h)) (q ∙ ap (λ (g : Form). pos (form_number g)) f)

    pub plain-said : back_row target form (numbers_at rows k) ≡ cells k
    plain-said =
        let z = kind-of s k h (form_number form) q in
        let few = room-all target form in
        let r = retimed e target form o ((own s k h).columns form z) no-time-rf no-time-gradient in
        ap (padded (form_number form))
        (own-agrees (columns_of target form) (drop 1 (numbers_at rows k)) (own s k h).numbers
        (λ c (l : c < widths_of (columns_of target form)). behind-getD rows k c (omega arith) ∙ own-plain s k h other c (omega arith))
        ∙ own_range r)
        ∙ ap (λ (n : ℕ). padded n (own s k h).numbers) (sym z)
        ∙ sym (own s k h).is
