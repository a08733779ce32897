-- Nothing is found behind the section of the words that are sought. Assumes nothing.
use Rattle.std.proofs.Common.{None, Option, Some}
use Prim.Native.Nat.{ℕ, suc, ◌≤◌, ◌<◌}
use mathlib.Core.Bool.{Bool, true, false, cond}
use mathlib.Core.List.{List, [], ◌∷◌, ◌++◌}
use mathlib.Core.Logic.{◌⊎◌, inl, inr}
use mathlib.Core.Path.{◌≡◌, refl, sym, ap, ◌∙◌}
use native.Mathlib.Omega.{arith}
use borrow.Author.Tests.{eqb-true, ltb-true, eq-eqb, ne_eqb, lt-ltb, le-ltb}
use lib.Dec.{eqb, ltb}
use lib.IntN.{ℤ, pos}
use lib.ListN.{get_or}
use Rattle.signed.specs.Signed.{same_z}
use Rattle.columns.specs.Columns.{extension_kind, shape_kind}
use Rattle.places.specs.declared.Found.{Found}
use Rattle.places.specs.declared.Found.TheVariants.{Nothing as FoundNothing, Row, Definition, Fault as FoundFault}
use Rattle.places.specs.declared.State.{State}
use Rattle.places.specs.declared.Stepped.{Stepped}
use Rattle.grammar.specs.Steps.{step_of}
use Rattle.file.specs.Whole.{is_fault, gathered}
use Rattle.duplicates.specs.declared.Sort.{Sort}
use Rattle.duplicates.specs.declared.Sort.TheVariants.{Key, Name}
use Rattle.duplicates.specs.declared.Ahead.{Ahead}
use Rattle.duplicates.specs.declared.Ahead.TheVariants.{Here, Names, Nowhere}
use Rattle.duplicates.specs.Words.{row_names, found_names, once_of, words_in, word_at, words_from, next_line}
use Rattle.duplicates.specs.Inside.{names_word, section_with, is_left, words_ahead}
use Rattle.duplicates.proofs.Naming.{naming-miss, no-next}
use Rattle.places.specs.Places.{section_in}
use Rattle.passing.specs.Left.{found_section, given_section}
use Rattle.passing.proofs.Left.{Left, silent-line, left_is, left_not, left-if-met}

-- ---- the sections of words
pub section-there : (sort : Sort) → (2 ≤ section_with sort) × (section_with sort < 12)
section-there Key = (omega arith, omega arith)
section-there Name = (omega arith, omega arith)

-- ---- by the tests of the code
module _ (st : State) (sort : Sort) (own here : ℕ) (p : own ≡ section_with sort) (q : here ≡ section_in st.place) where
  pub sort-not : here ≡ own → false ≡ is_left st sort
  sort-not e = left_not st (section_with sort) here q (e ∙ p)

  pub sort-if-met : (here ≡ own → ⊥) → get_or st.seen own false ≡ is_left st sort
  sort-if-met n = rw p (left-if-met st (section_with sort) here q (λ e. n (e ∙ sym p)))

-- ---- the section of the word that a line names; 0 if it names none
abbrev once_section : (Option Sort) → ℕ
once_section None = 0
once_section (Some sort) = section_with sort

once-given : (r : Stepped) (k : ℕ) → 1 ≤ k → once_section (once_of r) ≡ k → given_section r ≡ k
unfolding once_of given_section
once-given r k some = by-found r.found (get_or r.cells 0 (pos 0))
  where
    by_kind : (b c : Bool) → once_section (cond b (Some Name) None) ≡ k → cond b 8 (cond c 9 0) ≡ k
    by_kind true c e = e
    by_kind false c e = absurd (omega arith)

    by-found : (f : Found) (kind : ℤ) → once_section (found_names f kind) ≡ k → found_section f kind ≡ k
    by-found FoundNothing kind e = unfold found_names in unfold found_section in e
    by-found Row kind e = unfold found_names in unfold found_section in unfold row_names in by_kind (same_z kind (pos extension_kind)) (same_z kind (pos shape_kind)) e
    by-found Definition kind e = unfold found_names in unfold found_section in e
    by-found (FoundFault fault) kind e = unfold found_names in unfold found_section in e

silent : (k : ℕ) → 2 ≤ k → (st : State) → (section_in st.place ≡ k → ⊥) → (n : ℕ) (line : List ℕ)
    → (get_or st.seen k false ≡ true → Left k (step_of st n line).next) × (once_section (once_of (step_of st n line)) ≡ k → ⊥)
silent k h st a n line = let r = silent-line k h st a n line in (r.left, λ e. r.other (once-given (step_of st n line) k (omega arith) e))

-- ---- a line that names no word of this section
other-section : (line : List ℕ) (once : (Option Sort)) (sort : Sort) (word : List ℕ) → (once_section once ≡ section_with sort → ⊥) → false ≡ names_word line once sort word
unfolding names_word
other-section line None sort word n = refl
other-section line (Some Key) Key word n = absurd (n refl)
other-section line (Some Key) Name word n = refl
other-section line (Some Name) Key word n = refl
other-section line (Some Name) Name word n = absurd (n refl)

-- ---- no line from there on
none-beyond : (sort : Sort) (word : List ℕ) (st : State) (n : ℕ) (ls : List (List ℕ)) → Left (section_with sort) st → next_line sort word (words_from st n ls) ≡ 0
unfolding gathered
none-beyond sort word st n [] s = no-next sort word
none-beyond sort word st n (l ∷ ls) s =
    let r = silent (section_with sort) (section-there sort).0 st s.away n l in
    go (is_fault (step_of st n l).found) r.1 (none-beyond sort word (step_of st n l).next (suc n) ls (r.0 s.met))
  where
    go : (b : Bool) → (once_section (once_of (step_of st n l)) ≡ section_with sort → ⊥) → next_line sort word (words_from (step_of st n l).next (suc n) ls) ≡ 0
        → next_line sort word (cond b [] (word_at n l (step_of st n l) ++ words_from (step_of st n l).next (suc n) ls)) ≡ 0
    go true o h = no-next sort word
    go false o h = sym (naming-miss n l (step_of st n l) sort word false (other-section l (once_of (step_of st n l)) sort word o) _ refl) ∙ h

pub nothing-beyond : (sort : Sort) (word : List ℕ) (st : State) (n : ℕ) (ls : List (List ℕ)) → is_left st sort ≡ true → 0 ≡ next_line sort word (words_from st n ls)
nothing-beyond sort word st n ls e = sym (none-beyond sort word st n ls (left_is st (section_with sort) e))

-- ---- behind both sections no line names a word
no-word : (once : (Option Sort)) → (once_section once ≡ 2 → ⊥) → (once_section once ≡ 8 → ⊥) → once ≡ None
no-word None a b = refl
no-word (Some Key) a b = absurd (a refl)
no-word (Some Name) a b = absurd (b refl)

-- nor does one behind the first where the file does not stand in the second
pub between : (st : State) → Left 2 st → (section_in st.place ≡ 8 → ⊥) → (n : ℕ) (line : List ℕ) → Left 2 (step_of st n line).next × (once_of (step_of st n line) ≡ None)
between st a away n line =
    let r = silent 2 (omega arith) st a.away n line in
    (r.0 a.met, no-word (once_of (step_of st n line)) r.1 (silent 8 (omega arith) st away n line).1)

no-more-words : (st : State) (n : ℕ) (ls : List (List ℕ)) → Left 2 st → Left 8 st → words_from st n ls ≡ []
unfolding gathered word_at words_in
no-more-words st n [] a b = refl
no-more-words st n (l ∷ ls) a b =
    let r = between st a b.away n l in
    go (is_fault (step_of st n l).found) r.1 (no-more-words (step_of st n l).next (suc n) ls r.0 ((silent 8 (omega arith) st b.away n l).0 b.met))
  where
    go : (f : Bool) → once_of (step_of st n l) ≡ None → words_from (step_of st n l).next (suc n) ls ≡ []
        → cond f [] (words_in n l (once_of (step_of st n l)) ++ words_from (step_of st n l).next (suc n) ls) ≡ []
    go true p q = refl
    go false p q = rw (p, q)

pub nothing-named : (st : State) (n : ℕ) (ls : List (List ℕ)) → is_left st Key ≡ true → is_left st Name ≡ true → [] ≡ words_from st n ls
nothing-named st n ls e f = sym (no-more-words st n ls (left_is st 2 e) (left_is st 8 f))

-- ---- where the next word may stand, by the tests of the code
module _ (st : State) (at names : ℕ) where
  pub ahead-keys : is_left st Key ≡ false → Here ≡ words_ahead st at names
  unfolding words_ahead
  ahead-keys e = rw e

  module _ (k : is_left st Key ≡ true) where
    pub ahead-names : at < names → Names ≡ words_ahead st at names
    unfolding words_ahead
    ahead-names h = rw (k, lt-ltb at names h)

    module _ (h : names ≤ at) where
      pub ahead_none : names ≡ 0 → Nowhere ≡ words_ahead st at names
      unfolding words_ahead
      ahead_none e = rw (k, le-ltb at names h, eq-eqb names 0 e)

      module _ (n : names ≡ 0 → ⊥) where
        pub ahead-left : is_left st Name ≡ true → Nowhere ≡ words_ahead st at names
        unfolding words_ahead
        ahead-left e = rw (k, le-ltb at names h, ne_eqb names 0 n, e)

        pub ahead-here : is_left st Name ≡ false → Here ≡ words_ahead st at names
        unfolding words_ahead
        ahead-here e = rw (k, le-ltb at names h, ne_eqb names 0 n, e)

  -- and what its answers tell
  abbrev tell : Ahead → ℕ
  tell Here = 0
  tell Names = 1
  tell Nowhere = 2

  pub names-ahead : words_ahead st at names ≡ Names → (is_left st Key ≡ true) × (at < names)
  unfolding words_ahead
  names-ahead e = go (is_left st Key) (ltb at names) (eqb names 0) (is_left st Name) refl refl (ap tell e)
    where
      go : (a b c d : Bool) → is_left st Key ≡ a → ltb at names ≡ b → tell (cond a (cond b Names (cond c Nowhere (cond d Nowhere Here))) Here) ≡ 1 → (is_left st Key ≡ true) × (at < names)
      go true true c d k l z = (k, ltb-true at names l)
      go true false true d k l z = absurd (omega arith)
      go true false false true k l z = absurd (omega arith)
      go true false false false k l z = absurd (omega arith)
      go false b c d k l z = absurd (omega arith)

  pub nowhere-ahead : words_ahead st at names ≡ Nowhere → (is_left st Key ≡ true) × ((names ≡ 0) ⊎ (is_left st Name ≡ true))
  unfolding words_ahead
  nowhere-ahead e = go (is_left st Key) (ltb at names) (eqb names 0) (is_left st Name) refl refl refl (ap tell e)
    where
      go : (a b c d : Bool) → is_left st Key ≡ a → eqb names 0 ≡ c → is_left st Name ≡ d → tell (cond a (cond b Names (cond c Nowhere (cond d Nowhere Here))) Here) ≡ 2
          → (is_left st Key ≡ true) × ((names ≡ 0) ⊎ (is_left st Name ≡ true))
      go true true c d k n l z = absurd (omega arith)
      go true false true d k n l z = (k, inl (eqb-true names 0 n))
      go true false false true k n l z = (k, inr l)
      go true false false false k n l z = absurd (omega arith)
      go false b c d k n l z = absurd (omega arith)
