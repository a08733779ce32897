-- Things that lines give, kept part by part: the first line at which one is met again, whatever they are. Assumes nothing.
use Prim.Native.Nat.{ℕ, suc, ◌+◌, ◌-◌, ◌%◌, ◌≤◌, ◌<◌}
use mathlib.Core.Bool.{Bool, true, false, cond, true≢false}
use mathlib.Core.List.{List, [], ◌∷◌, ◌++◌}
use mathlib.Core.Logic.{◌⊎◌, inl, inr}
use mathlib.Core.Path.{◌≡◌, refl, sym, ap, ◌∙◌}
use native.Mathlib.Numerals.{add-one}
use native.Mathlib.Omega.{arith}
use borrow.Author.Tests.{ltb-true, ltb-false}
use lib.Dec.{ltb}
use lib.ListN.{length, get_or, take, drop, drop_of_length-le}
use lib.Seq.{drop-cons}
use Rattle.text.specs.Lines.{lines_of}
use Rattle.text.specs.declared.Line.{Line}
use Rattle.text.proofs.Cases.{lt-or-ge, eq-or-ne, and_both}
use Rattle.text.proofs.Cut.{LineAt}
use Rattle.sets.specs.Sets.{kept_of, places_after, unless_new, AllMet, is_in}
use Rattle.sets.specs.declared.Kept.{Kept}
use Rattle.sets.specs.declared.Kept.TheVariants.{New, Old, Full}
use Rattle.sets.proofs.Passing.{all_start, all-skip, all-kept, new-unlike, in-own, in_is, part_low}
use Rattle.places.specs.Places.{fresh}
use Rattle.places.specs.declared.State.{State}
use Rattle.places.specs.declared.Stepped.{Stepped}
use Rattle.grammar.specs.Steps.{step_of}
use Rattle.file.specs.Whole.{is_fault, gathered}
use Rattle.file.proofs.Walking.{Within, within-start, within-turn, gathered-turn, gathered-stop, gathered-end}
use Rattle.duplicates.specs.Again.{FirstLine}
use Rattle.duplicates.specs.Words.{earlier}
use Rattle.duplicates.specs.Inside.{MetAgain, AskedAgain, in_part, ask_first, keep_first}
use Rattle.duplicates.proofs.Rising.{Rising, rising-low, rising-order}
use Rattle.duplicates.proofs.First.{first_either, first-as, first-none, next_such, FoundAt, next-is}

-- ---- a line gives one thing, or none
pub data Few {A : Type 0} : List A → Type 0 where
  nothing : Few []
  single : (x : A) → Few (x ∷ [])

-- a list that begins with a thing, behind i others
pub record Front {A : Type 0} (d : A) (xs : List A) (i : ℕ) (x : A) (rest : List A) : Type 0 where
  pub there : i < length xs
  pub is : get_or xs i d ≡ x
  pub behind : rest ≡ drop (i + 1) xs

pub front : {A : Type 0} (d : A) (xs : List A) (i : ℕ) (x : A) (rest : List A) → x ∷ rest ≡ drop i xs → Front d xs i x rest
front {A} d xs i x rest e = go (lt-or-ge i (length xs))
  where
    go : (i < length xs) ⊎ (length xs ≤ i) → Front d xs i x rest
    go (inl h) = let q = e ∙ drop-cons xs i d h in record { there = h; is = cc; behind = rw (add-one i) (cc) }
    go (inr h) = absurd (no_front (e ∙ drop_of_length-le xs h))
      where
        no_front : x ∷ rest ≡ [] → ⊥
        no_front q = let z : ◌≡◌ {A = ℕ} 0 1 = cc in omega arith

-- ---- the same is asked in other words
pub ask-as : {A : Type 0} (key : A → ℕ) (asked stood held : A → Bool) (places : List ℕ) (ys : List A) → ((x : A) → stood x ≡ held x) → ask_first key asked stood places ys ≡ ask_first key asked held places ys
unfolding ask_first
ask-as key asked stood held places [] e = refl
ask-as key asked stood held places (y ∷ ys) e = rw (e y)

-- nothing is left of a list behind i things
pub no-rest : {A : Type 0} (d : A) (xs : List A) (i : ℕ) → [] ≡ drop i xs → length xs ≤ i
no-rest {A} d xs i e = go (lt-or-ge i (length xs))
  where
    go : (i < length xs) ⊎ (length xs ≤ i) → length xs ≤ i
    go (inl h) = absurd (no_end (e ∙ drop-cons xs i d h))
      where
        no_end : [] ≡ get_or xs i d ∷ drop (suc i) xs → ⊥
        no_end q = let z : ◌≡◌ {A = ℕ} 0 1 = cc in omega arith
    go (inr h) = h

module _ {A : Type 0} (line : A → ℕ) (d : A) (same : A → A → Bool) where
  -- ---- a thing that is the same as one before it, and one that is not
  record Stood (xs : List A) (i : ℕ) : Type 0 where
    k : ℕ
    before : k < i
    alike : same (get_or xs k d) (get_or xs i d) ≡ true

  abbrev Unmet : List A → ℕ → Type 0
  Unmet xs i = (k : ℕ) → k < i → same (get_or xs k d) (get_or xs i d) ≡ true → ⊥

  -- its line is sought among those of the same things: it stood before if the first of these lines is before its own
  module _ (swap : (x y : A) → same x y ≡ true → same y x ≡ true) (own : (x : A) → same x x ≡ true) {m : ℕ} (low : 1 ≤ m) {xs : List A} (rise : Rising line m xs) (i : ℕ) (h : i < length xs) where
    abbrev first : ℕ
    first = next_such line (same (get_or xs i d)) xs

    found : FirstLine (FoundAt line d (same (get_or xs i d)) xs) first
    found = next-is line d (same (get_or xs i d)) low rise

    itself : FoundAt line d (same (get_or xs i d)) xs (line (get_or xs i d))
    itself = record { j = i; there = h; such = own (get_or xs i d); here = refl }

    stood : ltb first (line (get_or xs i d)) ≡ true → Stood xs i
    stood e = go (found.some (λ z. found.none z (line (get_or xs i d)) itself)) (ltb-true first (line (get_or xs i d)) e)
      where
        go : FoundAt line d (same (get_or xs i d)) xs first → first < line (get_or xs i d) → Stood xs i
        go f l = record { k = f.j; before = by_order (lt-or-ge f.j i) (eq-or-ne i f.j); alike = swap (get_or xs i d) (get_or xs f.j d) f.such }
          where
            by_order : (f.j < i) ⊎ (i ≤ f.j) → (i ≡ f.j) ⊎ (i ≡ f.j → ⊥) → f.j < i
            by_order (inl b) q = b
            by_order (inr b) (inl q) = let z : first ≡ line (get_or xs i d) = f.here ∙ ap (λ (j : ℕ). line (get_or xs j d)) (sym q) in absurd (omega arith)
            by_order (inr b) (inr n) = let o = rising-order d rise i f.j (omega arith) f.there in let z = f.here in absurd (omega arith)

    unmet : ltb first (line (get_or xs i d)) ≡ false → Unmet xs i
    unmet e k b s =
        let at_most = found.least (line (get_or xs k d)) (record { j = k; there = omega arith; such = swap (get_or xs k d) (get_or xs i d) s; here = refl }) in
        let o = rising-order d rise k i b h in
        let n = ltb-false first (line (get_or xs i d)) e in
        omega arith

  module _ (key : A → ℕ) (asked : A → Bool) where
    -- ---- the walk over the lines of a file: i things are passed, each that is asked for was met, and none of them is the same as one before it
    pub record PartWalk (pick : ℕ → List ℕ → Stepped → List A) (file : List ℕ) (xs : List A) (start : List ℕ) (st : State) (at n : ℕ) (places : List ℕ) : Type 0 where
      pub within : Within file at n
      pub long : length places ≡ length start
      pub i : ℕ
      pub rest : gathered pick st n (lines_of (drop at file)) ≡ drop i xs
      pub met : AllMet (λ j. key (get_or xs j d)) (λ j. asked (get_or xs j d)) places i
      pub none : (j : ℕ) → j < i → asked (get_or xs j d) ≡ true → Unmet xs j

    pub walk_start : (pick : ℕ → List ℕ → Stepped → List A) (file : List ℕ) (start : List ℕ) (st : State) → st ≡ fresh
        → PartWalk pick file (gathered pick fresh 1 (lines_of file)) start st 0 1 start
    walk_start pick file start st e =
        record { within = within-start file; long = refl; i = 0; rest = rw e; met = all_start start; none = λ j (l : j < 0) h. absurd (omega arith) }

    module _ {pick : ℕ → List ℕ → Stepped → List A} {file : List ℕ} {xs : List A} {start : List ℕ} {st : State} {at n : ℕ} {places : List ℕ} (w : PartWalk pick file xs start st at n places) where
      -- nothing is left
      pub walk_none : [] ≡ gathered pick st n (lines_of (drop at file)) → FirstLine (AskedAgain line d same asked xs) 0
      walk_none e = first-none (λ l a. go l a (no-rest d xs w.i (e ∙ w.rest)))
        where
          go : (l : ℕ) → AskedAgain line d same asked xs l → length xs ≤ w.i → ⊥
          go l a h = let g = a.again in let t = g.there in w.none g.j (omega arith) a.here g.i g.before g.alike

      pub walk_end : length file ≤ at → FirstLine (AskedAgain line d same asked xs) 0
      walk_end h = walk_none (gathered-end file at h st n pick)

      module _ (r : Line) (l : LineAt file at r) (s : Stepped) (p : s ≡ step_of st n (take (r.stop - at) (drop at file))) where
        pub walk-fault : is_fault s.found ≡ true → FirstLine (AskedAgain line d same asked xs) 0
        walk-fault e = walk_none (gathered-stop file at r l st n s p pick e)

        module _ (same_key : (x y : A) → same x y ≡ true → key x ≡ key y) (same_asked : (x y : A) → same x y ≡ true → asked x ≡ asked y)
            (swap : (x y : A) → same x y ≡ true → same y x ≡ true) (own : (x : A) → same x x ≡ true) {m : ℕ} (low : 1 ≤ m) (rise : Rising line m xs) (few : Few (pick n (take (r.stop - at) (drop at file)) s))
            (e : is_fault s.found ≡ false) where
          abbrev stood_of : A → Bool
          stood_of x = ltb (next_such line (same x) xs) (line x)

          abbrev behind : List A
          behind = gathered pick s.next (n + 1) (lines_of (drop r.next file))

          -- the thing of this line is thing i
          whole : pick n (take (r.stop - at) (drop at file)) s ++ behind ≡ drop w.i xs
          whole = gathered-turn file at r l st n s p pick e ∙ w.rest

          -- ---- one that is the same as one before it ends the walk at its line
          pub walk-hit : (v : ℕ) → ((x : A) (ys : List A) → pick n (take (r.stop - at) (drop at file)) s ≡ x ∷ ys → v ≡ line x) → (b : Bool)
              → b ≡ ask_first key asked stood_of places (pick n (take (r.stop - at) (drop at file)) s) → b ≡ true → FirstLine (AskedAgain line d same asked xs) v
          unfolding ask_first
          walk-hit v is b q t = go (pick n (take (r.stop - at) (drop at file)) s) refl few (sym q ∙ t)
            where
              go : (ys : List A) → pick n (take (r.stop - at) (drop at file)) s ≡ ys → Few ys → ask_first key asked stood_of places ys ≡ true → FirstLine (AskedAgain line d same asked xs) v
              go _ z nothing h = absurd (true≢false (sym h))
              go _ z (single x) h = by-asked (asked x) refl h
                where
                  f : Front d xs w.i x behind
                  f = front d xs w.i x behind (rw z at whole)

                  hit : asked x ≡ true → stood_of x ≡ true → FirstLine (AskedAgain line d same asked xs) v
                  hit a o =
                      let here = is x [] z ∙ ap line (sym f.is) in
                      let g = stood swap own low rise w.i f.there (rw (← f.is) at o) in
                      let some-line = rising-low d rise w.i f.there in
                      record {
                        none = λ (y : v ≡ 0) k c. absurd (omega arith);
                        some = λ y. record { again = record { i = g.k; j = w.i; before = g.before; there = f.there; alike = g.alike; here = here }; here = rw f.is a };
                        least = λ k c. by_order k c (lt-or-ge c.again.j w.i) (eq-or-ne w.i c.again.j);
                      }
                    where
                      by_order : (k : ℕ) (c : AskedAgain line d same asked xs k) → (c.again.j < w.i) ⊎ (w.i ≤ c.again.j) → (w.i ≡ c.again.j) ⊎ (w.i ≡ c.again.j → ⊥) → v ≤ k
                      by_order k c (inl b) y = absurd (w.none c.again.j b c.here c.again.i c.again.before c.again.alike)
                      by_order k c (inr b) (inl y) =
                          let here : v ≡ k = is x [] z ∙ ap line (sym f.is) ∙ ap (λ (j : ℕ). line (get_or xs j d)) y ∙ sym c.again.here in
                          omega arith
                      by_order k c (inr b) (inr y) =
                          let here = is x [] z ∙ ap line (sym f.is) in
                          let o = rising-order d rise w.i c.again.j (omega arith) c.again.there in
                          let there = c.again.here in
                          omega arith

                  by-kept : asked x ≡ true → (k : Kept) → unless_new k (stood_of x) ≡ true → FirstLine (AskedAgain line d same asked xs) v
                  by-kept a New o = absurd (true≢false (sym o))
                  by-kept a Old o = hit a o
                  by-kept a Full o = hit a o

                  by-asked : (a : Bool) → asked x ≡ a → cond a (unless_new (kept_of places (key x)) (stood_of x)) false ≡ true → FirstLine (AskedAgain line d same asked xs) v
                  by-asked true a o = by-kept a (kept_of places (key x)) o
                  by-asked false a o = absurd (true≢false (sym o))

          -- ---- any other is passed
          pub walk_turn : (b : Bool) → b ≡ ask_first key asked stood_of places (pick n (take (r.stop - at) (drop at file)) s) → b ≡ false → (after : List ℕ)
              → after ≡ keep_first key asked places (pick n (take (r.stop - at) (drop at file)) s) → length after ≡ length places → PartWalk pick file xs start s.next r.next (n + 1) after
          unfolding ask_first keep_first
          walk_turn b q t after g long = go (pick n (take (r.stop - at) (drop at file)) s) refl few (sym q ∙ t) g
            where
              go : (ys : List A) → pick n (take (r.stop - at) (drop at file)) s ≡ ys → Few ys → ask_first key asked stood_of places ys ≡ false → after ≡ keep_first key asked places ys
                  → PartWalk pick file xs start s.next r.next (n + 1) after
              go _ z nothing h k =
                  record { within = within-turn w.within l; long = long ∙ w.long; i = w.i; rest = rw z at whole; met = rw k w.met; none = w.none }
              go _ z (single x) h k = by-asked (asked x) refl h k
                where
                  f : Front d xs w.i x behind
                  f = front d xs w.i x behind (rw z at whole)

                  passed : AllMet (λ j. key (get_or xs j d)) (λ j. asked (get_or xs j d)) after (w.i + 1) → (asked (get_or xs w.i d) ≡ true → Unmet xs w.i) → PartWalk pick file xs start s.next r.next (n + 1) after
                  passed met here =
                      record {
                        within = within-turn w.within l;
                        long = long ∙ w.long;
                        i = w.i + 1;
                        rest = f.behind;
                        met = met;
                        none = λ j b a. by_place j b a (lt-or-ge j w.i);
                      }
                    where
                      by_place : (j : ℕ) → j < w.i + 1 → asked (get_or xs j d) ≡ true → (j < w.i) ⊎ (w.i ≤ j) → Unmet xs j
                      by_place j b a (inl y) = w.none j y a
                      by_place j b a (inr y) = let o : j ≡ w.i = omega arith in rw o (here (rw o at a))

                  new-unmet : asked x ≡ true → kept_of places (key x) ≡ New → Unmet xs w.i
                  new-unmet a o j b y =
                      new-unlike w.met (rw f.is o) j b (same_asked (get_or xs j d) (get_or xs w.i d) y ∙ ap asked f.is ∙ a) (same_key (get_or xs j d) (get_or xs w.i d) y)

                  by-kept : asked x ≡ true → (c : Kept) → kept_of places (key x) ≡ c → unless_new c (stood_of x) ≡ false → Unmet xs w.i
                  by-kept a New o u = new-unmet a o
                  by-kept a Old o u = unmet swap own low rise w.i f.there (rw (← f.is) at u)
                  by-kept a Full o u = unmet swap own low rise w.i f.there (rw (← f.is) at u)

                  by-asked : (a : Bool) → asked x ≡ a → cond a (unless_new (kept_of places (key x)) (stood_of x)) false ≡ false → after ≡ cond a (places_after places (key x)) places
                      → PartWalk pick file xs start s.next r.next (n + 1) after
                  by-asked true a o y = passed (rw (y, ← f.is) (all-kept w.met)) (λ u. by-kept a (kept_of places (key x)) refl o)
                  by-asked false a o y = passed (rw y (all-skip w.met (ap asked f.is ∙ a))) (λ u. absurd (true≢false (sym u ∙ ap asked f.is ∙ a)))

  -- ---- the loop over the parts: the first line of those that are passed
  module _ (key : A → ℕ) (may : A → Bool) where
    pub record LowAgain (xs : List A) (parts part l : ℕ) : Type 0 where
      pub again : MetAgain line d same xs l
      pub may-be : may (get_or xs again.j d) ≡ true
      pub passed : key (get_or xs again.j d) % parts < part

    pub record PartsWalk (xs : List A) (parts part first : ℕ) : Type 0 where
      pub so_far : FirstLine (LowAgain xs parts part) first

    pub parts-start : (xs : List A) (parts : ℕ) → PartsWalk xs parts 0 0
    parts-start xs parts = record { so_far = first-none (λ l a. no l a) }
      where
        no : (l : ℕ) → LowAgain xs parts 0 l → ⊥
        no l a = let p = a.passed in omega arith

    module _ {xs : List A} {parts part first : ℕ} (some : 1 ≤ parts) (w : PartsWalk xs parts part first) where
      some-part : parts ≡ 0 → ⊥
      some-part z = omega arith

      to : (l : ℕ) → LowAgain xs parts part l ⊎ AskedAgain line d same (in_part key may parts part) xs l → LowAgain xs parts (part + 1) l
      to l (inl a) = let p = a.passed in record { again = a.again; may-be = a.may-be; passed = omega arith }
      to l (inr a) =
          let x = get_or xs a.again.j d in
          let b = and_both (may x) (is_in (key x) parts part) a.here in
          let p = in_is (key x) parts some-part part b.1 in
          record { again = a.again; may-be = b.0; passed = omega arith }

      from : (l : ℕ) → LowAgain xs parts (part + 1) l → LowAgain xs parts part l ⊎ AskedAgain line d same (in_part key may parts part) xs l
      from l a = go (lt-or-ge (key (get_or xs a.again.j d) % parts) part)
        where
          go : (key (get_or xs a.again.j d) % parts < part) ⊎ (part ≤ key (get_or xs a.again.j d) % parts) → LowAgain xs parts part l ⊎ AskedAgain line d same (in_part key may parts part) xs l
          go (inl h) = inl (record { again = a.again; may-be = a.may-be; passed = h })
          go (inr h) =
              let p = a.passed in
              inr (record { again = a.again; here = rw (a.may-be, in-own (key (get_or xs a.again.j d)) parts some-part part (omega arith)) })

      pub parts-turn : {next first' : ℕ} → FirstLine (AskedAgain line d same (in_part key may parts part) xs) next → first' ≡ earlier first next → PartsWalk xs parts (part + 1) first'
      parts-turn f e = record { so_far = rw e (first-as to from (first_either w.so_far f)) }

      -- in all parts: each thing that may be met again at all
      pub parts-end : parts ≤ part → ((l : ℕ) (a : MetAgain line d same xs l) → may (get_or xs a.j d) ≡ true) → FirstLine (MetAgain line d same xs) first
      parts-end h all = first-as (λ l a. a.again) (λ l a. record { again = a; may-be = all l a; passed = low l a }) w.so_far
        where
          low : (l : ℕ) (a : MetAgain line d same xs l) → key (get_or xs a.j d) % parts < part
          low l a = let p = part_low (key (get_or xs a.j d)) parts some-part in omega arith
