-- Sections written part by part. Assumes nothing.
use Prim.Native.Nat.{ℕ, suc, ◌+◌, ◌≤◌, ◌<◌, min}
use mathlib.Core.Bool.{Bool, true, false}
use mathlib.Core.List.{List, [], ◌∷◌}
use mathlib.Core.Logic.{⊎_elim}
use mathlib.Core.Path.{◌≡◌, refl, sym, ap, ◌∙◌}
use native.Mathlib.Numerals.{add-one}
use native.Mathlib.Omega.{arith}
use borrow.Author.Tests.{lt-ltb, le-ltb}
use lib.Dec.{eqb}
use lib.IntN.{ℤ, pos}
use lib.ListN.{length}
use Rattle.text.proofs.Cases.{true-or-false}
use Rattle.output.specs.Over.{farthest, Put}
use Rattle.unit.specs.Time.{in_micros}
use Rattle.shape.specs.declared.Edition.{Edition}
use Rattle.shape.specs.declared.Edition.TheVariants.{V13}
use Rattle.columns.specs.Columns.{form_number}
use Rattle.columns.specs.declared.Form.{Form}
use Rattle.columns.specs.declared.Form.TheVariants.{Delay}
use Rattle.sayable.specs.Sayable.{is_kind, nanos_at}
use Rattle.signed.specs.Signed.{largest}
use Rattle.durations.specs.Durations.{is_first, uses_in, delay_number, Listed, FirstUsed, stands_at}
use Rattle.durations.proofs.Using.{number-used, use-one, use-none}
use Rattle.durations.proofs.Firsts.{first-at, not_first}
use Rattle.durations.proofs.Listing.{uses-after, stands-next}
use Rattle.said.specs.Said.{line_text, rows_text, has_kind}
use Rattle.said.proofs.Saying.{section-some, section-none, LinesPut, lines_start, lines-turn}
use Rattle.section_text.specs.Sections.{head_text, section_text, whole_micros, micros_at, delay_row, delay_line, has_delays}
use Rattle.section_text.specs.Inside.{new_line}

-- ---- the section of a form
module _ (target : Edition) (raster : ℕ) (form : Form) (rows : List ℤ) (n : ℕ) (b : Bool) (z : ℤ) (q : z ≡ pos (form_number form)) (p : b ≡ has_kind z rows n) where
  same_kind : has_kind (pos (form_number form)) rows n ≡ b
  same_kind = rw (← q) (sym p)

  pub form-some : b ≡ true → {l l₁ l₂ l₃ : List ℕ} {at r₁ r₂ r₃ : ℕ} → Put l at (head_text form) r₁ l₁ → Put l₁ r₁ (rows_text target raster form rows n) r₂ l₂
      → Put l₂ r₂ (10 ∷ []) r₃ l₃ → Put l at (section_text target raster form rows n) r₃ l₃
  unfolding section_text
  form-some e x y z = section-some _ _ _ (same_kind ∙ e) x y z

  pub form-none : b ≡ false → [] ≡ section_text target raster form rows n
  unfolding section_text
  form-none e = section-none _ (head_text form) (rows_text target raster form rows n) (same_kind ∙ e)

-- ---- a delay row, by how many durations are used before row k and with it
module _ (rows : List ℤ) (k used next : ℕ) where
  pub line-new : used < next → (m ns : ℕ) → ns ≡ nanos_at rows k → m ≡ whole_micros (in_micros ns) → (x y : ℤ) → x ≡ pos (min next largest) → y ≡ pos (min m largest)
      → line_text V13 Delay (pos 6 ∷ x ∷ y ∷ []) ≡ new_line used next rows k
  unfolding new_line micros_at
  line-new h m ns v w x y s t = rw (lt-ltb used next h, s, t, w, v)

  pub line-old : next ≤ used → [] ≡ new_line used next rows k
  unfolding new_line
  line-old h = rw (le-ltb used next h)

module _ (rows : List ℤ) (n k : ℕ) (h : k < n) where
  -- ---- whether it is a first use
  module _ (b : Bool) (p : b ≡ is_kind rows k (pos 1)) where
    pub next-other : b ≡ false → false ≡ is_first rows n k
    unfolding is_kind
    next-other e = sym (not_first rows n k h (sym p ∙ e))

    pub next-listed : b ≡ true → (list : List ℕ) → FirstUsed rows n list → (used : ℕ) → used ≡ uses_in rows n 0 k
        → (ns : ℕ) → ns ≡ nanos_at rows k → (place : ℕ) → place ≡ stands_at list ns → place < length list → eqb place used ≡ is_first rows n k
    unfolding is_kind
    next-listed e list u used q ns r place s l = stands-next rows n list k u place (s ∙ ap (stands_at list) r) l (sym p ∙ e) used q

  -- ---- how many are used with it
  module _ (b : Bool) (p : b ≡ is_first rows n k) (used : ℕ) (q : used ≡ uses_in rows n 0 k) where
    pub used-more : b ≡ true → used + 1 ≡ uses_in rows n 0 (suc k)
    used-more e = let a = uses-after rows n k in let o = use-one rows n k b p e in omega arith

    pub used-same : b ≡ false → used ≡ uses_in rows n 0 (suc k)
    used-same e = let a = uses-after rows n k in let o = use-none rows n k b p e in omega arith

  -- ---- its line
  pub new_line_lem : (used next : ℕ) → used ≡ uses_in rows n 0 k → next ≡ uses_in rows n 0 (suc k) → new_line used next rows k ≡ delay_line rows n k
  unfolding new_line delay_line delay_row
  new_line_lem used next p q = ⊎_elim first later (true-or-false (is_first rows n k))
    where
      first : is_first rows n k ≡ true → new_line used next rows k ≡ delay_line rows n k
      first e =
          let f = first-at rows n k e in
          let u : used + 1 ≡ next = used-more true (sym e) used p refl ∙ sym q in
          let d : next ≡ delay_number rows n k = sym u ∙ number-used rows n k (nanos_at rows k) refl f.lasts k (sym f.own) h used p in
          rw (lt-ltb used next (omega arith), e, ← d)

      later : is_first rows n k ≡ false → new_line used next rows k ≡ delay_line rows n k
      later e = let u : used ≡ next = used-same false (sym e) used p refl ∙ sym q in rw (le-ltb used next (omega arith), e)

-- ---- delay rows written one after another, with how many durations are used so far
pub record DelaysPut (rows : List ℤ) (n : ℕ) (l₀ : List ℕ) (from at : ℕ) (l : List ℕ) (used k : ℕ) : Type 0 where
  pub lines : LinesPut (delay_line rows n) n l₀ from at l k
  pub many : used ≡ uses_in rows n 0 k

module _ (rows : List ℤ) (n : ℕ) where
  pub delays-start : (l : List ℕ) (from : ℕ) → from ≤ farthest → length l ≤ farthest → DelaysPut rows n l from from l 0 0
  unfolding uses_in
  delays-start l from f h = record { lines = lines_start (delay_line rows n) n l from f h; many = refl }

  pub delays-turn : {l₀ l : List ℕ} {from at used k : ℕ} → DelaysPut rows n l₀ from at l used k → k < n → (next : ℕ) → next ≡ uses_in rows n 0 (suc k)
      → {r : ℕ} {l' : List ℕ} → Put l at (new_line used next rows k) r l' → DelaysPut rows n l₀ from r l' next (k + 1)
  delays-turn {used = used} {k = k} w h next q p =
      record { lines = lines-turn (delay_line rows n) n w.lines h (rw (new_line_lem rows n k h used next w.many q) at p); many = rw (add-one k) q }

-- ---- there is a delay row where a duration is listed
module _ {rows : List ℤ} {n count : ℕ} {l l' : List ℕ} (w : Listed rows n l count l') where
  pub listed-some : 0 < count → has_delays rows n ≡ true
  unfolding has_delays
  listed-some h = let m = w.many in lt-ltb 0 (uses_in rows n 0 n) (omega arith)

  pub listed-none : 0 < length l → count ≤ 0 → has_delays rows n ≡ false
  unfolding has_delays
  listed-none r h = let m = w.many in le-ltb 0 (uses_in rows n 0 n) (omega arith)
