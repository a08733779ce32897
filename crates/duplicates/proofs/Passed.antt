-- A line that is passed over names no word, so a walk that keeps words goes on behind it; and behind DEFINITIONS it goes on where EXTENSIONS begins.
-- Assumes nothing.
use Rattle.std.proofs.Common.{None}
use Prim.Native.Nat.{ℕ, suc, ◌+◌, ◌-◌, ◌≤◌, ◌<◌}
use mathlib.Core.Bool.{true, false}
use mathlib.Core.List.{List}
use mathlib.Core.Logic.{◌⊎◌, inl, inr}
use mathlib.Core.Path.{◌≡◌, refl}
use native.Mathlib.Numerals.{add-one}
use native.Mathlib.Omega.{arith}
use lib.IntN.{pos}
use lib.ListN.{length, get_or, take, drop}
use Rattle.text.specs.Lines.{lines_of}
use Rattle.text.specs.Marks.{mark_of}
use Rattle.text.specs.declared.Line.{Line}
use Rattle.text.proofs.Cut.{LineAt, WholeAt}
use Rattle.signed.specs.Signed.{same_z}
use Rattle.columns.specs.Columns.{form_number}
use Rattle.columns.specs.declared.Form.{Form}
use Rattle.columns.specs.declared.Form.TheVariants.{Block, Rf, Gradient, Trap, Adc, Delay, Entry, Trigger}
use Rattle.places.specs.Places.{section_in, fresh}
use Rattle.places.specs.declared.State.{State}
use Rattle.places.specs.declared.Stepped.{Stepped}
use Rattle.grammar.specs.Steps.{step_of}
use Rattle.file.specs.Whole.{is_fault}
use Rattle.passing.specs.Sound.{sound_from, sound_of}
use Rattle.passing.specs.Passing.{passes_of}
use Rattle.passing.proofs.Over.{Gave, nothing, columns, Over}
use Rattle.passing.proofs.Sound.{sound-here, sound-next, sound-over, sound-behind}
use Rattle.passing.proofs.Left.{Left, left_is}
use Rattle.passing.proofs.Reaching.{Reached, begins, ends, by-met, Before, before-pass, before-met, before-turn, Toward, toward-there, met-within}
use Rattle.file.specs.Marks.{walk_start, met_walk}
use Rattle.file.proofs.Walking.{Within, within-turn}
use Rattle.file.specs.declared.Walk.{Walk}
use Rattle.duplicates.specs.declared.Sort.TheVariants.{Key, Name}
use Rattle.duplicates.specs.Words.{row_names, found_names, once_of, words_of}
use Rattle.duplicates.specs.Again.{FirstLine}
use Rattle.duplicates.specs.Inside.{is_left, AskedAgain, in_part, word_line, no_word, same_word, word_number, any_word}
use Rattle.duplicates.proofs.Beyond.{between, nothing-named}
use Rattle.duplicates.proofs.Parts.{walk_none, walk_end}
use Rattle.duplicates.proofs.WordParts.{WordWalk, asks_nothing, word-turn}

no_name : (form : Form) → row_names (pos (form_number form)) ≡ None
unfolding row_names same_z
no_name Block = refl
no_name Rf = refl
no_name Gradient = refl
no_name Trap = refl
no_name Adc = refl
no_name Delay = refl
no_name Entry = refl
no_name Trigger = refl

no-word : (st : State) (s : Stepped) → Over st s → once_of s ≡ None
unfolding once_of found_names
no-word st s o = go o.gave
  where
    go : Gave s → found_names s.found (get_or s.cells 0 (pos 0)) ≡ None
    go (nothing e) = rw e
    go (columns form e k) = rw (e, k) (no_name form)

-- ---- the walk with what is known of the lines ahead
pub record SoundWalk (parts part : ℕ) (file start : List ℕ) (st : State) (at n : ℕ) (places : List ℕ) : Type 0 where
  pub walk : WordWalk parts part file start st at n places
  pub sound : sound_from st n (lines_of (drop at file)) ≡ true

module _ {parts part : ℕ} {file start : List ℕ} {st : State} {at n : ℕ} {places : List ℕ} (w : SoundWalk parts part file start st at n places) (r : Line) (l : LineAt file at r) where
  -- a line that names no word
  quiet-turn : once_of (step_of st n (take (r.stop - at) (drop at file))) ≡ None → SoundWalk parts part file start (step_of st n (take (r.stop - at) (drop at file))).next r.next (n + 1) places
  quiet-turn o =
      let line : List ℕ = take (r.stop - at) (drop at file) in
      let s : Stepped = step_of st n line in
      let a = asks_nothing n line s parts part file places o in
      record {
        walk = word-turn parts part w.walk r l s refl (sound-here l st n w.sound) false a.0 refl places a.1 refl;
        sound = rw (add-one n) (sound-next l st n w.sound);
      }

  pub passed-turn : passes_of st.place (mark_of (take (r.stop - at) (drop at file))) ≡ true → SoundWalk parts part file start st r.next (n + 1) places
  passed-turn p = let o = sound-over l st n w.sound p in rw o.next at (quiet-turn (no-word st (step_of st n (take (r.stop - at) (drop at file))) o))

  pub read-good : (s : Stepped) → s ≡ step_of st n (take (r.stop - at) (drop at file)) → is_fault s.found ≡ false
  read-good s p = rw p (sound-here l st n w.sound)

  pub read-sound : (s : Stepped) → s ≡ step_of st n (take (r.stop - at) (drop at file)) → sound_from s.next (n + 1) (lines_of (drop r.next file)) ≡ true
  read-sound s p = rw (p, add-one n) (sound-next l st n w.sound)

pub sound-start : (file : List ℕ) (st : State) → st ≡ fresh → sound_of file ≡ true → sound_from st 1 (lines_of (drop 0 file)) ≡ true
unfolding sound_of
sound-start file st e s = rw e s

at_front : {m : Walk} → m ≡ walk_start → m.at ≡ 0
unfolding walk_start
at_front z = rw z

-- ---- behind DEFINITIONS a walk goes on where EXTENSIONS begins, which is m
record Between (parts part : ℕ) (file start places : List ℕ) (walk : Walk) : Type 0 where
  left : Left 2 walk.state
  sound : SoundWalk parts part file start walk.state walk.at (suc walk.lines) places

pub record KeptWalk (parts part : ℕ) (file : List ℕ) (m : Walk) (start : List ℕ) (st : State) (at n : ℕ) (places : List ℕ) : Type 0 where
  pub words : SoundWalk parts part file start st at n places
  pub toward : Toward 8 file m st at n

module _ {parts part : ℕ} {file : List ℕ} {m : Walk} {start : List ℕ} {st : State} {at n : ℕ} {places : List ℕ} (k : KeptWalk parts part file m start st at n places) (key : is_left st Key ≡ true) where
  reach : Before 8 file m st at n → Reached file (Between parts part file start places) m
  reach b =
      let c = b.counted in
      let e : suc (n - 1) ≡ n = omega arith in
      rw (e, b.same) at
      (by-met 8 file (Between parts part file start places)
      (λ walk away sound r l w x. let q = between walk.state x.left away (suc walk.lines) (take (r.stop - walk.at) (drop walk.at file)) in
      record { left = q.0; sound = rw (add-one (suc walk.lines)) at (quiet-turn x.sound r l q.1) })
      at (n - 1) st b.away (rw e k.words.sound) (record { left = left_is st 2 key; sound = rw e k.words }))

  pub jump : at < m.at → KeptWalk parts part file m start m.state m.at (m.lines + 1) places
  jump h = go (reach (k.toward.ahead (inr h)))
    where
      go : Reached file (Between parts part file start places) m → KeptWalk parts part file m start m.state m.at (m.lines + 1) places
      go (begins h x) = rw (add-one m.lines) (record { words = x.sound; toward = toward-there 8 file m h _ })
      go (ends walk q x z) = let a : m.at ≡ 0 = at_front z in absurd (omega arith)

  -- where the file has no EXTENSIONS, or the walk has left it, no word is further on
  pub nowhere : (m.at ≡ 0) ⊎ (is_left st Name ≡ true) → FirstLine (AskedAgain word_line no_word same_word (in_part word_number any_word parts part) (words_of file)) 0
  nowhere (inl z) = go (reach (k.toward.ahead (inl z)))
    where
      go : Reached file (Between parts part file start places) m → FirstLine (AskedAgain word_line no_word same_word (in_part word_number any_word parts part) (words_of file)) 0
      go (begins h x) = absurd (omega arith)
      go (ends walk q x z) = walk_end _ _ _ _ _ x.sound.walk q
  nowhere (inr f) = walk_none _ _ _ _ _ k.words.walk (nothing-named st n (lines_of (drop at file)) key f)

-- ---- the walk to where EXTENSIONS begins
pub record NamesWalk (file : List ℕ) (st : State) (at n : ℕ) : Type 0 where
  pub within : Within file at n
  pub sound : sound_from st n (lines_of (drop at file)) ≡ true
  pub before : Before 8 file (met_walk 8 file) st at n

module _ {file : List ℕ} {st : State} {at n : ℕ} (k : NamesWalk file st at n) (r : Line) (l : LineAt file at r) (w : WholeAt file at r) where
  pub names-pass : passes_of st.place (mark_of (take (r.stop - at) (drop at file))) ≡ true → NamesWalk file st r.next (n + 1)
  names-pass p = record { within = within-turn k.within l; sound = rw (add-one n) (sound-behind l st n k.sound p); before = before-pass k.before r l w k.sound p }

  module _ (did : Stepped) (p : did ≡ step_of st n (take (r.stop - at) (drop at file))) where
    good : is_fault did.found ≡ false
    good = rw p (sound-here l st n k.sound)

    pub names-met : section_in did.next.place ≡ 8 → record { at = r.next; lines = n; state = did.next } ≡ met_walk 8 file
    names-met e = before-met k.before r l w did p good e

    pub names-turn : (section_in did.next.place ≡ 8 → ⊥) → NamesWalk file did.next r.next (n + 1)
    names-turn o = record { within = within-turn k.within l; sound = rw (p, add-one n) (sound-next l st n k.sound); before = before-turn k.before r l w did p good o }

-- ---- where words are counted from
pub front-inside : (size : ℕ) (walk : Walk) → walk ≡ walk_start → (walk.at ≤ size) × (walk.lines ≤ walk.at)
unfolding walk_start
front-inside size walk e = rw e (omega arith, omega arith)

pub names-inside : (file : List ℕ) (walk : Walk) → sound_of file ≡ true → walk ≡ met_walk 8 file → (walk.at ≤ length file) × (walk.lines ≤ walk.at)
names-inside file walk s e = let w = met-within 8 (omega arith) file s in let n = w.number in rw e (w.inside, omega arith)
