-- Tables that hold the same rows in another order keep a target's rules where the source keeps its own. Assumes nothing.
use Prim.Native.Nat.{ℕ, zero, suc, ◌≤◌, ◌<◌}
use mathlib.Core.Bool.{Bool, true, false, cond, ◌&&◌, ◌||◌, true≢false}
use mathlib.Core.List.{List, [], ◌∷◌}
use mathlib.Core.Logic.{⊎_elim}
use mathlib.Core.Path.{◌≡◌, refl, sym, ap, subst, ◌∙◌}
use native.Mathlib.Nat.{eq-or-lt_of_le}
use native.Mathlib.Omega.{arith}
use borrow.Author.Tests.{eqb-true, ne_eqb, le-ltb}
use lib.Dec.{eqb}
use lib.IntN.{ℤ, pos, nat_abs}
use lib.ListN.{length, get_or, drop}
use Rattle.text.proofs.Cases.{lt-or-ge}
use Rattle.signed.specs.Signed.{same_z}
use Rattle.signed.proofs.Sign.{same_z-true, same_z-other}
use Rattle.unit.specs.declared.Rasters.{Rasters}
use Rattle.shape.specs.declared.Edition.{Edition}
use Rattle.shape.specs.declared.Edition.TheVariants.{V14}
use Rattle.columns.specs.Columns.{form_number, shape_kind}
use Rattle.columns.specs.Rows.{row_width}
use Rattle.columns.specs.declared.Form.TheVariants.{Block, Rf, Gradient, Trap, Adc, Entry, Delay}
use Rattle.tables.specs.Tables.{number_at, class_number, is_row_of, first_row, met_row, OnlyRow, samples_of}
use Rattle.tables.specs.declared.Class.TheVariants.{Extension, Entry as EntryClass}
use Rattle.tables.proofs.Found.{found-only}
use Rattle.references.specs.References.{block_refs, rf_refs, gradient_refs, entry_refs, extension_ref, ref_of, ref_at}
use Rattle.lengths.specs.Lengths.{micros_at}
use Rattle.blocks.specs.Blocks.{met_length, reference_length, number_length, block_length}
use Rattle.chains.specs.Chains.{next_entry}
use Rattle.demands.specs.Rules.{Checked, MeetsOne, Chain, last_entry, more-entries, InUnit, Times, Multiple, Shaped, Fits, Aligned, Follows}
use Rattle.arranged.specs.Alike.{is_anew, Alike, Stands, is_kept, Arranged}
use Rattle.arranged.proofs.Lookup.{pos-other, alike-kind, alike-back, Meets, neither, both, delays, also-there, met-is, class-kind, SameSamples, samples-same}
use Rattle.arranged.proofs.Lasting.{either_way, kept-number, lists-none, extension-other, extension-same, next-meets, event-same}
use Rattle.arranged.proofs.Blocks.{Lasts, by-steps, by-none, by-delay, only-first, event-within, block_same}

-- ---- A row of a kind other than a delay's stands in the other table too
pub row-there : {a b : List ℤ} {n m : ℕ} → Arranged a n b m → (j : ℕ) → j < m → (kind : ℕ) → (kind ≡ form_number Delay → ⊥) → number_at b j 0 ≡ pos kind → Stands b j a n
unfolding is_kept
row-there {b = b} x j h kind other i = x.back j h (rw (same_z-other (number_at b j 0) delays (λ (e : number_at b j 0 ≡ delays). other (ap nat_abs (sym i ∙ e)))))

-- ---- REFERENCE: the class that a number refers to
module _ {a b : List ℤ} {n m : ℕ} (x : Arranged a n b m) (e target : Edition) where
  block-ref : (c : ℕ) → is_anew (pos (form_number Block)) c ≡ false → get_or (block_refs e) c 0 ≡ get_or (block_refs target) c 0
  unfolding is_anew same_z
  block-ref zero h = refl
  block-ref (suc zero) h = refl
  block-ref (suc (suc zero)) h = absurd (true≢false h)
  block-ref (suc (suc (suc c))) h = refl

  module _ {k j : ℕ} (y : Alike a k b j) (c : ℕ) (h : is_anew (number_at a k 0) c ≡ false) where
    entry-refs : (type type' : ℤ) → extension_ref a n type ≡ extension_ref b m type' → get_or (entry_refs a n type) c (pos 0) ≡ get_or (entry_refs b m type') c (pos 0)
    entry-refs type type' p = ap (λ (r : ℤ). get_or (pos 0 ∷ pos 0 ∷ pos (class_number Extension) ∷ r ∷ pos (class_number EntryClass) ∷ []) c (pos 0)) p

    ref-same : ref_at e a n k c ≡ ref_at target b m j c
    unfolding ref_at ref_of is_anew same_z
    ref-same =
        rw (← alike-kind y)
        (either_way (same_z (number_at a k 0) (pos (form_number Block))) (λ i. ap pos (block-ref c (rw (same_z-true (number_at a k 0) (pos (form_number Block)) i) at h)))
        (λ i. either_way (same_z (number_at a k 0) (pos (form_number Rf))) (λ i. refl)
        (λ i. either_way (same_z (number_at a k 0) (pos (form_number Gradient))) (λ i. refl)
        (λ i. either_way (same_z (number_at a k 0) (pos (form_number Entry))) (λ i. entry-refs (number_at a k 2) (number_at b j 2) (extension-same x (number_at a k 2) ∙ ap (extension_ref b m) (kept-number y 7 2 refl i))) (λ i. refl)))))

  -- never to a delay row, but for the duration of a block
  block-other : (c : ℕ) → is_anew (pos (form_number Block)) c ≡ false → pos (get_or (block_refs e) c 0) ≡ delays → ⊥
  unfolding is_anew same_z
  block-other zero h z = pos-other (λ e. omega arith) z
  block-other (suc zero) h z = pos-other (λ e. omega arith) z
  block-other (suc (suc zero)) h z = true≢false h
  block-other (suc (suc (suc c))) h z = lists-none 6 (drop 3 (block_refs e)) refl refl c (ap nat_abs z)

  entry_other : (rows : List ℤ) (n : ℕ) (type : ℤ) (c : ℕ) → get_or (entry_refs rows n type) c (pos 0) ≡ delays → ⊥
  entry_other rows n type zero = pos-other (λ z. omega arith)
  entry_other rows n type (suc zero) = pos-other (λ z. omega arith)
  entry_other rows n type (suc (suc zero)) = pos-other (λ z. omega arith)
  entry_other rows n type (suc (suc (suc zero))) = extension-other 6 refl refl rows n type
  entry_other rows n type (suc (suc (suc (suc zero)))) = pos-other (λ z. omega arith)
  entry_other rows n type (suc (suc (suc (suc (suc c))))) = pos-other (λ z. omega arith)

  ref-other : (k c : ℕ) → is_anew (number_at a k 0) c ≡ false → ref_at e a n k c ≡ delays → ⊥
  unfolding ref_at ref_of
  ref-other k c h = go (same_z (number_at a k 0) (pos (form_number Block))) refl (same_z (number_at a k 0) (pos (form_number Rf))) (same_z (number_at a k 0) (pos (form_number Gradient))) (same_z (number_at a k 0) (pos (form_number Entry)))
    where
      go : (p : Bool) → same_z (number_at a k 0) (pos (form_number Block)) ≡ p → (q r s : Bool)
          → cond p (pos (get_or (block_refs e) c 0)) (cond q (pos (get_or rf_refs c 0)) (cond r (pos (get_or gradient_refs c 0)) (cond s (get_or (entry_refs a n (number_at a k 2)) c (pos 0)) (pos 0)))) ≡ delays → ⊥
      go true i q r s z = block-other c (rw (same_z-true (number_at a k 0) (pos (form_number Block)) i) at h) z
      go false i true r s z = lists-none 6 rf_refs refl refl c (ap nat_abs z)
      go false i false true s z = lists-none 6 gradient_refs refl refl c (ap nat_abs z)
      go false i false false true z = entry_other a n (number_at a k 2) c z
      go false i false false false z = pos-other (λ e. omega arith) z

-- a row that is the only one to be met is so in the other table too
only-there : {a b : List ℤ} {n m : ℕ} → Arranged a n b m → (class id : ℤ) → (class ≡ delays → ⊥) → (r : ℕ) → OnlyRow a n class id r → OnlyRow b m class id (first_row b m class id)
unfolding first_row
only-there {a} {b} {n} {m} x class id other r o =
    let f = only-first (is_row_of a class id) n r o.there o.is o.only in
    found-only b m class id x.again (also-there class id other x (rw f o.there)).there

-- a row's number that refers to nothing
no_ref : (e : Edition) (rows : List ℤ) (n k c : ℕ) → (kind : ℕ) → number_at rows k 0 ≡ pos kind → ref_of e rows n k c (pos kind) ≡ pos 0 → Checked e rows n k c → ⊥
unfolding ref_at
no_ref e rows n k c kind i z x = x.refers (rw i z)

-- ---- LOOP
module _ {a b : List ℤ} {n m : ℕ} (x : Arranged a n b m) where
  chain-last : (k j most : ℕ) → n ≤ next_entry a n k → Meets a n b m (next_entry a n k) (next_entry b m j) → Chain b m (suc most) j
  chain-last k j most h (neither p l) = last_entry l
  chain-last k j most h (both p l z) = absurd (omega arith)

  chain_more : (k j most : ℕ) → next_entry a n k < n → Meets a n b m (next_entry a n k) (next_entry b m j)
      → (Alike a (next_entry a n k) b (next_entry b m j) → Chain b m most (next_entry b m j)) → Chain b m (suc most) j
  chain_more k j most h (neither p l) rest = absurd (omega arith)
  chain_more k j most h (both p l z) rest = more-entries l (rest z)

  chain-there : {most k j : ℕ} → Alike a k b j → Chain a n most k → Chain b m most j
  chain-there {j = j} y (last_entry {most} {k} h) = chain-last k j most h (next-meets x y)
  chain-there {j = j} y (more-entries {most} {k} h c) = chain_more k j most h (next-meets x y) (λ z. chain-there z c)

-- ---- What is said anew
data Anew (kind : ℤ) (c : ℕ) : Type 0 where
  duration : kind ≡ pos (form_number Block) → c ≡ 2 → Anew kind c
  nanos : kind ≡ pos (form_number Block) → c ≡ 9 → Anew kind c
  place : kind ≡ pos shape_kind → Anew kind c

anew_is : (kind : ℤ) (c : ℕ) → is_anew kind c ≡ true → Anew kind c
unfolding is_anew
anew_is kind c = go (eqb c 2) (eqb c 9) (same_z kind (pos (form_number Block))) (eqb c 3) (same_z kind (pos shape_kind)) refl refl refl refl
  where
    go : (p q r u w : Bool) → eqb c 2 ≡ p → eqb c 9 ≡ q → same_z kind (pos (form_number Block)) ≡ r → same_z kind (pos shape_kind) ≡ w → (((p || q) && r) || (u && w)) ≡ true → Anew kind c
    go p q r u true a b k s e = place (same_z-true kind (pos shape_kind) s)
    go true q true u false a b k s e = duration (same_z-true kind (pos (form_number Block)) k) (eqb-true c 2 a)
    go false true true u false a b k s e = nanos (same_z-true kind (pos (form_number Block)) k) (eqb-true c 9 b)
    go false false true true false a b k s e = absurd (true≢false (sym e))
    go false false true false false a b k s e = absurd (true≢false (sym e))
    go true q false true false a b k s e = absurd (true≢false (sym e))
    go true q false false false a b k s e = absurd (true≢false (sym e))
    go false true false true false a b k s e = absurd (true≢false (sym e))
    go false true false false false a b k s e = absurd (true≢false (sym e))
    go false false false true false a b k s e = absurd (true≢false (sym e))
    go false false false false false a b k s e = absurd (true≢false (sym e))

time-kept : (kind : ℤ) (c : ℕ) → 4 ≤ c → c ≤ 7 → is_anew kind c ≡ false
unfolding is_anew
time-kept kind c l u = rw (ne_eqb c 2 (λ (h : c ≡ 2). omega arith), ne_eqb c 9 (λ (h : c ≡ 9). omega arith), ne_eqb c 3 (λ (h : c ≡ 3). omega arith))

-- ---- A source that keeps its rules, and what its rows are in a target's table
pub record Moved (e target : Edition) (q q' : Rasters) (a : List ℤ) (n : ℕ) (s : List ℤ) (b : List ℤ) (m : ℕ) (t : List ℤ) : Type 0 where
  pub arranged : Arranged a n b m
  pub samples : SameSamples a n s b m t
  pub gradient : q.gradient.0 ≡ q'.gradient.0
  pub rf : q.rf.0 ≡ q'.rf.0
  pub adc : target ≡ V14 → q.adc.0 ≡ q'.adc.0
  pub follows : Follows e q a n s
  -- each row has a kind
  pub known : (k : ℕ) → k < n → number_at a k 0 ≡ pos 0 → ⊥
  pub lasts : (k j : ℕ) → k < n → j < m → number_at a k 0 ≡ pos (form_number Block) → Alike a k b j → Lasts target q' b m j (block_length e q a n s k)
  pub aligned : target ≡ V14 → (k : ℕ) → k < n → Aligned q a k

module _ {e target : Edition} {q q' : Rasters} {a : List ℤ} {n : ℕ} {s : List ℤ} {b : List ℤ} {m : ℕ} {t : List ℤ} (v : Moved e target q q' a n s b m t) where
  abbrev x : Arranged a n b m
  x = v.arranged

  -- ---- REFERENCE
  block-meets : {j ns : ℕ} → number_at b j 0 ≡ pos (form_number Block) → Lasts target q' b m j ns → Checked target b m j 2 → MeetsOne target b m j 2
  unfolding ref_at ref_of same_z
  block-meets i (by-steps g p) w = absurd (w.refers (rw (i, g)))
  block-meets i (by-none g z p) w = absurd (w.nonzero z)
  block-meets i (by-delay g r z o p) w = record { row = r; only = rw (i, g) o }

  -- a number that is said anew, and one that stays
  anew-meets : {k j : ℕ} (c : ℕ) → k < n → j < m → Alike a k b j → Anew (number_at a k 0) c → Checked target b m j c → MeetsOne target b m j c
  unfolding ref_of same_z
  anew-meets {k} {j} c h l y (duration i p) = rw p (block-meets (sym (alike-kind y) ∙ i) (v.lasts k j h l i y))
  anew-meets {k} {j} c h l y (nanos i p) = rw p (λ w. absurd (no_ref target b m j 9 (form_number Block) (sym (alike-kind y) ∙ i) refl w))
  anew-meets {k} {j} c h l y (place i) = λ w. absurd (no_ref target b m j c shape_kind (sym (alike-kind y) ∙ i) refl w)

  kept-meets : {k j : ℕ} (c : ℕ) → k < n → c < row_width → Alike a k b j → is_anew (number_at a k 0) c ≡ false → Checked target b m j c → MeetsOne target b m j c
  kept-meets {k} {j} c h l y g w =
      let class = ref-same x e target y c g in
      let id = y.same c g in
      let o = v.follows.references k c h l (record { refers = λ z. w.refers (sym class ∙ z); nonzero = λ z. w.nonzero (sym id ∙ z) }) in
      record { row = first_row b m (ref_at e a n k c) (number_at a k c); only = rw (← class, ← id) (only-there x (ref_at e a n k c) (number_at a k c) (ref-other x e target k c g) o.row o.only) }

  one-meets : (j c : ℕ) → j < m → c < row_width → Checked target b m j c → MeetsOne target b m j c
  one-meets j c h l w = go (same_z (number_at b j 0) delays) refl
    where
      by_number : (y : Stands b j a n) → (g : Bool) → is_anew (number_at a y.j 0) c ≡ g → MeetsOne target b m j c
      by_number y true g = anew-meets c y.there h (alike-back y.alike) (anew_is _ c g) w
      by_number y false g = kept-meets c y.there l (alike-back y.alike) g w

      go : (d : Bool) → same_z (number_at b j 0) delays ≡ d → MeetsOne target b m j c
      go true d = absurd (no_ref target b m j c 6 (same_z-true (number_at b j 0) delays d) (unfold ref_of same_z in refl) w)
      go false d = let y = x.back j h (unfold is_kept in rw d) in by_number y (is_anew (number_at a y.j 0) c) refl

  -- ---- USE
  module _ {k j : ℕ} (y : Alike a k b j) where
    samples-at : (c : ℕ) → is_anew (number_at a k 0) c ≡ false → samples_of a n s (number_at a k c) ≡ samples_of b m t (number_at b j c)
    samples-at c g = samples-same x v.samples (number_at a k c) ∙ ap (samples_of b m t) (y.same c g)

    shaped-there : (c : ℕ) → is_anew (number_at a k 0) c ≡ false → Shaped a n s k c → Shaped b m t j c
    shaped-there c g f =
        let amplitude = samples-at 4 (unfold is_anew in refl) in
        record {
          amplitude = subst InUnit amplitude f.amplitude;
          times = λ z. subst (λ (l : List ℤ). Times (length l) (samples_of b m t (number_at b j c))) amplitude
              (subst (λ (l : List ℤ). Times (length (samples_of a n s (number_at a k 4))) l) (samples-at c g) (f.times (λ u. z (sym (y.same c g) ∙ u))));
        }

    micros-there : (c r r' : ℕ) → is_anew (number_at a k 0) c ≡ false → r ≡ r' → Multiple r (micros_at a k c) → Multiple r' (micros_at b j c)
    unfolding micros_at
    micros-there c r r' g p f = rw (← p, ← y.same c g) f

  fits-there : (j : ℕ) → j < m → Fits b m t j
  unfolding is_anew
  fits-there j h =
      record {
        counts = λ i. let y = row-there x j h (form_number Rf) (λ z. omega arith) i in
            let z = alike-back y.alike in
            ap length (sym (samples-at z 4 refl)) ∙ (v.follows.uses y.j y.there).counts (alike-kind z ∙ i) ∙ ap length (samples-at z 5 refl);
        rf = λ i. let y = row-there x j h (form_number Rf) (λ z. omega arith) i in
            let z = alike-back y.alike in
            shaped-there z 6 refl ((v.follows.uses y.j y.there).rf (alike-kind z ∙ i));
        gradient = λ i. let y = row-there x j h (form_number Gradient) (λ z. omega arith) i in
            let z = alike-back y.alike in
            shaped-there z 5 refl ((v.follows.uses y.j y.there).gradient (alike-kind z ∙ i));
      }

  -- ---- ALIGN
  aligned-there : target ≡ V14 → (j : ℕ) → j < m → Aligned q' b j
  unfolding is_anew same_z
  aligned-there g j h =
      record {
        rf = λ i. let y = row-there x j h (form_number Rf) (λ z. omega arith) i in
            let z = alike-back y.alike in
            micros-there z 7 q.rf.0 q'.rf.0 refl v.rf ((v.aligned g y.j y.there).rf (alike-kind z ∙ i));
        gradient = λ i. let y = row-there x j h (form_number Gradient) (λ z. omega arith) i in
            let z = alike-back y.alike in
            micros-there z 6 q.gradient.0 q'.gradient.0 refl v.gradient ((v.aligned g y.j y.there).gradient (alike-kind z ∙ i));
        trap = λ i c l u. let y = row-there x j h (form_number Trap) (λ z. omega arith) i in
            let z = alike-back y.alike in
            micros-there z c q.gradient.0 q'.gradient.0 (time-kept (number_at a y.j 0) c l u) v.gradient ((v.aligned g y.j y.there).trap (alike-kind z ∙ i) c l u);
        adc = λ i. let y = row-there x j h (form_number Adc) (λ z. omega arith) i in
            let z = alike-back y.alike in
            rw (← v.adc g, ← z.same 3 (rw (alike-kind z ∙ i))) ((v.aligned g y.j y.there).adc (alike-kind z ∙ i));
      }

  -- ---- LONG, OUTLASTS
  pub moved_length : (k j : ℕ) → k < n → j < m → number_at a k 0 ≡ pos (form_number Block) → Alike a k b j → block_length target q' b m t j ≡ block_length e q a n s k
  moved_length k j h l i y = block_same x v.samples q q' v.gradient v.rf e v.follows target h i y (v.lasts k j h l i y)

  length-there : (j : ℕ) → j < m → number_at b j 0 ≡ pos (form_number Block) → (y : Stands b j a n) → block_length target q' b m t j ≡ block_length e q a n s y.j
  length-there j h i y = let z = alike-back y.alike in moved_length y.j j y.there h (alike-kind z ∙ i) z

  -- a number that refers to no class meets nothing
  none-length : (id : ℤ) → reference_length q' b m t (pos 0) id ≡ 0
  unfolding reference_length met_length same_z
  none-length id =
      ⊎_elim (λ (l : met_row b m (pos 0) id < m). absurd (no_kind (met_row b m (pos 0) id) l (class-kind 0 (λ z. omega arith) (λ z. omega arith) b id _ (met-is b m (pos 0) id l))))
      (λ (l : m ≤ met_row b m (pos 0) id). rw (le-ltb (met_row b m (pos 0) id) m l)) (lt-or-ge (met_row b m (pos 0) id) m)
    where
      no_kind : (j : ℕ) → j < m → number_at b j 0 ≡ pos 0 → ⊥
      no_kind j h i = let y = row-there x j h 0 (λ z. omega arith) i in v.known y.j y.there (sym (alike-kind y.alike) ∙ i)

  duration-within : target ≡ V14 → (j : ℕ) → number_at b j 0 ≡ pos (form_number Block) → number_length target q' b m t j 2 ≤ block_length target q' b m t j
  unfolding number_length ref_at ref_of same_z
  duration-within g j i = let z : number_length target q' b m t j 2 ≡ 0 = rw (i, g) (none-length (number_at b j 2)) in omega arith

  lasting-there : target ≡ V14 → (j c : ℕ) → j < m → number_at b j 0 ≡ pos (form_number Block) → 2 ≤ c → c ≤ 8 → number_length target q' b m t j c ≤ block_length target q' b m t j
  lasting-there g j c h i l u =
      let y = row-there x j h (form_number Block) (λ z. omega arith) i in
      let z = alike-back y.alike in
      ⊎_elim (λ (p : 2 ≡ c). rw (← p) (duration-within g j i))
      (λ (p : 2 < c). rw (length-there j h i y, ← event-same x v.samples q q' v.gradient v.rf e target z (alike-kind z ∙ i) c (omega arith) u)
      (event-within q a n s e v.follows y.j c y.there (alike-kind z ∙ i) l u)) (eq-or-lt_of_le l)

  pub moved-follows : Follows target q' b m t
  moved-follows =
      record {
        references = one-meets;
        chains = λ j h i. let y = row-there x j h (form_number Entry) (λ z. omega arith) i in
            let z = alike-back y.alike in
            chain-there x z (v.follows.chains y.j y.there (alike-kind z ∙ i));
        uses = fits-there;
        aligned = aligned-there;
        short = λ j h i. let y = row-there x j h (form_number Block) (λ z. omega arith) i in
            let z = alike-back y.alike in
            rw (length-there j h i y) (v.follows.short y.j y.there (alike-kind z ∙ i));
        lasting = lasting-there;
      }
