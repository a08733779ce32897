-- Words that lines name, kept part by part. Assumes nothing.
use Rattle.std.proofs.Common.{None, Option, Some}
use Prim.Native.Nat.{ℕ, ◌+◌, ◌-◌, ◌≤◌}
use mathlib.Core.Bool.{Bool, true, false}
use mathlib.Core.List.{List, ◌∷◌}
use mathlib.Core.Path.{◌≡◌, refl, sym, ap, ap₂, ◌∙◌}
use native.Mathlib.Omega.{arith}
use lib.Dec.{ltb}
use lib.ListN.{length, take, drop}
use Rattle.text.specs.Lines.{lines_of}
use Rattle.text.specs.declared.Line.{Line}
use Rattle.text.proofs.Cut.{LineAt}
use Rattle.sets.specs.Sets.{kept_of, places_after, unless_new, is_in}
use Rattle.places.specs.Places.{fresh}
use Rattle.places.specs.declared.State.{State}
use Rattle.places.specs.declared.Stepped.{Stepped}
use Rattle.grammar.specs.Steps.{step_of}
use Rattle.file.specs.Whole.{is_fault}
use Rattle.duplicates.specs.declared.Sort.{Sort}
use Rattle.duplicates.specs.Words.{Word, once_of, word_of, words_in, word_at, words_from, words_of, next_line, again_line}
use Rattle.duplicates.specs.Again.{FirstLine}
use Rattle.duplicates.specs.Inside.{AskedAgain, in_part, ask_first, keep_first, word_line, no_word, same_word, number_of, word_number, any_word, stood_before}
use Rattle.duplicates.proofs.Rising.{words-rise}
use Rattle.duplicates.proofs.First.{next_such, first-unique, again-first}
use Rattle.duplicates.proofs.Again.{same-is, is_same_lem, next-such, again-such}
use Rattle.duplicates.proofs.Parts.{Few, nothing, single, ask-as, PartWalk, walk-hit, walk_turn, PartsWalk, parts-end}

-- ---- what is the same has one number, is asked for in the same part, and is the same the other way round
same_number : (x y : Word) → same_word x y ≡ true → word_number x ≡ word_number y
same_number x y e = let b = same-is x.sort x.word y e in sym (ap₂ number_of b.0 b.1)

same-part : (parts part : ℕ) (x y : Word) → same_word x y ≡ true → in_part word_number any_word parts part x ≡ in_part word_number any_word parts part y
same-part parts part x y e = ap (λ (z : ℕ). is_in z parts part) (same_number x y e)

swap : (x y : Word) → same_word x y ≡ true → same_word y x ≡ true
swap x y e = let b = same-is x.sort x.word y e in is_same_lem y.sort y.word x (sym b.0) (sym b.1)

own : (x : Word) → same_word x x ≡ true
own x = is_same_lem x.sort x.word x refl refl

-- ---- a line names one word or none, and the word stands on it
few_words : (n : ℕ) (line : List ℕ) (s : Stepped) → Few (word_at n line s)
unfolding word_at words_in
few_words n line s = go (once_of s)
  where
    go : (o : (Option Sort)) → Few (words_in n line o)
    go None = nothing
    go (Some sort) = single _

own_line : (n : ℕ) (line : List ℕ) (s : Stepped) (x : Word) (ys : List Word) → word_at n line s ≡ x ∷ ys → n ≡ x.line
unfolding word_at words_in
own_line n line s x ys = go (once_of s)
  where
    go : (o : (Option Sort)) → words_in n line o ≡ x ∷ ys → n ≡ x.line
    go None e = absurd (let z : ◌≡◌ {A = ℕ} 0 1 = cc in omega arith)
    go (Some sort) e = ap word_line (first-same e)
      where
        first-same : {a b : Word} {us vs : List Word} → a ∷ us ≡ b ∷ vs → a ≡ b
        first-same q = cc

-- ---- what the code asks and keeps of a line
pub stood-is : (file : List ℕ) (sort : Sort) (word : List ℕ) (line first : ℕ) (st : State) → st ≡ fresh → first ≡ next_line sort word (words_from st 1 (lines_of file))
    → ltb first line ≡ ltb (next_line sort word (words_of file)) line
unfolding words_of
stood-is file sort word line first st e p = rw (p, e)

module _ (n : ℕ) (line : List ℕ) (s : Stepped) (parts part : ℕ) (file places : List ℕ) where
  abbrev asks : Bool
  asks = ask_first word_number (in_part word_number any_word parts part) (stood_before file) places (word_at n line s)

  abbrev keeps : List ℕ
  keeps = keep_first word_number (in_part word_number any_word parts part) places (word_at n line s)

  pub asks_nothing : once_of s ≡ None → (false ≡ asks) × (places ≡ keeps)
  unfolding word_at words_in ask_first keep_first
  asks_nothing e = (rw e, rw e)

  module _ (sort : Sort) (e : once_of s ≡ Some sort) (word : List ℕ) (p : word ≡ word_of line sort) (number : ℕ) (q : number ≡ number_of sort word) where
    pub asks-not : is_in number parts part ≡ false → (false ≡ asks) × (places ≡ keeps)
    unfolding word_at words_in ask_first keep_first
    asks-not o = (rw (e, ← p, ← q, o), rw (e, ← p, ← q, o))

    pub asks-word : is_in number parts part ≡ true → (b : Bool) → b ≡ unless_new (kept_of places number) (ltb (next_line sort word (words_of file)) n) → (after : List ℕ) → after ≡ places_after places number
        → (b ≡ asks) × (after ≡ keeps)
    unfolding word_at words_in ask_first keep_first
    asks-word o b r after t = (rw (e, ← p, ← q, o) r, rw (e, ← p, ← q, o) t)

-- ---- the walk over the lines of a file
abbrev pub WordWalk : ℕ → ℕ → List ℕ → List ℕ → State → ℕ → ℕ → List ℕ → Type 0
WordWalk parts part file start st at n places = PartWalk word_line no_word same_word word_number (in_part word_number any_word parts part) word_at file (words_of file) start st at n places

module _ (parts part : ℕ) {file start : List ℕ} {st : State} {at n : ℕ} {places : List ℕ} (w : WordWalk parts part file start st at n places) (r : Line) (l : LineAt file at r) (s : Stepped) (p : s ≡ step_of st n (take (r.stop - at) (drop at file))) (e : is_fault s.found ≡ false) (b : Bool) (q : b ≡ asks n (take (r.stop - at) (drop at file)) s parts part file places) where
  asks-so : b ≡ ask_first word_number (in_part word_number any_word parts part) (λ x. ltb (next_such word_line (same_word x) (words_of file)) x.line) places (word_at n (take (r.stop - at) (drop at file)) s)
  asks-so = q ∙ ask-as word_number (in_part word_number any_word parts part) (stood_before file) _ places _ (λ x. ap (λ (z : ℕ). ltb z x.line) (sym (next-such x.sort x.word (words_of file))))

  pub word-hit : b ≡ true → FirstLine (AskedAgain word_line no_word same_word (in_part word_number any_word parts part) (words_of file)) n
  word-hit t =
      walk-hit word_line no_word same_word word_number (in_part word_number any_word parts part) w r l s p same_number (same-part parts part) swap own (omega arith) (words-rise file) (few_words n (take (r.stop - at) (drop at file)) s) e
      n (own_line n (take (r.stop - at) (drop at file)) s) b asks-so t

  pub word-turn : b ≡ false → (after : List ℕ) → after ≡ keeps n (take (r.stop - at) (drop at file)) s parts part file places → length after ≡ length places
      → WordWalk parts part file start s.next r.next (n + 1) after
  word-turn t after g long =
      walk_turn word_line no_word same_word word_number (in_part word_number any_word parts part) w r l s p same_number (same-part parts part) swap own (omega arith) (words-rise file) (few_words n (take (r.stop - at) (drop at file)) s) e
      b asks-so t after g long

-- ---- all parts together
pub word-parts : (file : List ℕ) {parts part first : ℕ} → 1 ≤ parts → PartsWalk word_line no_word same_word word_number any_word (words_of file) parts part first → parts ≤ part → first ≡ again_line (words_of file)
word-parts file some w h =
    first-unique (λ l a. a) (λ l a. a) (parts-end word_line no_word same_word word_number any_word some w h (λ l a. refl)) (again-first word_line no_word same_word (omega arith) (words-rise file))
    ∙ again-such (words_of file)
