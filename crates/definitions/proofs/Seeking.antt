-- The value of a key, and the lines of a site's definitions. Assumes nothing.
use Prim.Native.Nat.{ℕ, ◌-◌, ◌≤◌, ◌<◌}
use mathlib.Core.Bool.{Bool, true, false, cond, ◌&&◌, ◌||◌, true≢false, false≢true}
use mathlib.Core.List.{List, [], ◌∷◌, ◌++◌}
use mathlib.Core.Path.{◌≡◌, refl, sym, ap, ◌∙◌}
use native.Mathlib.Omega.{arith}
use borrow.Author.Tests.{ne_eqb, le-leb, lt-ltb, leb-true}
use lib.Dec.{ltb}
use lib.ListN.{length, take, drop, length-drop, drop_of_length-le}
use lib.Seq.{take_all}
use Rattle.text.specs.Lines.{lines_of}
use Rattle.text.specs.Marks.{mark_of, breaks_line}
use Rattle.text.specs.Words.{same_bytes}
use Rattle.text.specs.declared.Line.{Line}
use Rattle.text.specs.declared.Mark.{Mark}
use Rattle.text.specs.declared.Mark.TheVariants.{Blank, Comment, Section, Plain}
use Rattle.text.proofs.Cut.{LineAt}
use Rattle.grammar.specs.Definitions.{key_of, value_of, is_definition}
use Rattle.places.specs.declared.Fault.TheVariants.{Line as LineFault, Field as FieldFault}
use Rattle.places.specs.declared.Found.{Found}
use Rattle.places.specs.declared.Found.TheVariants.{Nothing, Row, Definition as FoundDefinition, Fault as FoundFault}
use Rattle.file.specs.Whole.{is_fault, is_defined}
use Rattle.definitions.specs.Definitions.{Definition, site_mark, site_line, site_at, site_in, site_definitions, any_fault, is_named, repeats, site_fault, sought, either_of}

-- ---- a line of a site's definitions
module _ (line : List ℕ) where
  pub site-broken : breaks_line line ≡ true → FoundFault LineFault ≡ site_line line
  unfolding site_line
  site-broken e = rw e

  pub site-marked : breaks_line line ≡ false → (m : Mark) → mark_of line ≡ m → site_mark line m ≡ site_line line
  unfolding site_line
  site-marked e m q = rw (e, q)

  pub site-empty : length (value_of line) ≡ 0 → FoundFault FieldFault ≡ site_mark line Plain
  unfolding site_mark is_definition
  site-empty e = rw e

  pub site-valued : (length (value_of line) ≡ 0 → ⊥) → FoundDefinition ≡ site_mark line Plain
  unfolding site_mark is_definition
  site-valued e = rw (le-leb 1 (length (value_of line)) (omega arith))

-- ---- the loop over a site
module _ (site : List ℕ) (at : ℕ) (r : Line) (l : LineAt site at r) (found : Found) (p : found ≡ site_line (take (r.stop - at) (drop at site))) where
  abbrev site_here : List ℕ
  site_here = take (r.stop - at) (drop at site)

  site-turn : is_fault found ≡ false → site_at site_here ++ site_in (lines_of (drop r.next site)) ≡ site_in (lines_of (drop at site))
  unfolding site_in
  site-turn e = rw (l.line, ← p, e)

  any-turn : is_fault found ≡ false → any_fault (lines_of (drop r.next site)) ≡ any_fault (lines_of (drop at site))
  unfolding any_fault
  any-turn e = rw (l.line, ← p, e)

  any-stop : is_fault found ≡ true → true ≡ any_fault (lines_of (drop at site))
  unfolding any_fault
  any-stop e = rw (l.line, ← p, e)

-- ---- of two values the first that is not empty
pub either_second : (first second : List ℕ) → length first ≡ 0 → second ≡ either_of first second
unfolding either_of
either_second first second e = rw e

pub either_first : (first second : List ℕ) → (length first ≡ 0 → ⊥) → first ≡ either_of first second
unfolding either_of
either_first first second n = rw (ne_eqb (length first) 0 n)

-- ---- a line is a definition only where it keeps to LINE and has a value
pub site-defines : (l : List ℕ) → is_defined (site_line l) ≡ true → (breaks_line l ≡ false) × (is_definition l ≡ true)
unfolding site_line site_mark is_defined
site-defines l e = broken (breaks_line l) e
  where
    plain : (b : Bool) → is_defined (cond b FoundDefinition (FoundFault FieldFault)) ≡ true → b ≡ true
    plain true e = refl
    plain false e = absurd (false≢true e)

    marked : (m : Mark) → is_defined (site_mark l m) ≡ true → is_definition l ≡ true
    marked Blank e = absurd (false≢true e)
    marked Comment e = absurd (false≢true e)
    marked Section e = absurd (false≢true e)
    marked Plain e = plain (is_definition l) e

    broken : (b : Bool) → is_defined (cond b (FoundFault LineFault) (site_mark l (mark_of l))) ≡ true → (b ≡ false) × (is_definition l ≡ true)
    broken true e = absurd (false≢true e)
    broken false e = (refl, marked (mark_of l) e)

-- ---- a key is named among a site's definitions where its value is not empty
valued : (l : List ℕ) → site_line l ≡ FoundDefinition → 0 < length (value_of l)
unfolding is_defined is_definition
valued l e = leb-true 1 (length (value_of l)) (site-defines l (ap is_defined e)).1

pub named-sought : (key : List ℕ) (ls : List (List ℕ)) → is_named key (site_in ls) ≡ ltb 0 (length (sought key (site_in ls)))
unfolding site_in site_at is_named sought is_fault is_defined
named-sought key [] = refl
named-sought key (l ∷ ls) = go (site_line l) refl (named-sought key ls)
  where
    here : (b : Bool) → 0 < length (value_of l) → is_named key (site_in ls) ≡ ltb 0 (length (sought key (site_in ls)))
        → b || is_named key (site_in ls) ≡ ltb 0 (length (cond b (value_of l) (sought key (site_in ls))))
    here true v h = sym (lt-ltb 0 (length (value_of l)) v)
    here false v h = h

    go : (f : Found) → site_line l ≡ f → is_named key (site_in ls) ≡ ltb 0 (length (sought key (site_in ls)))
        → is_named key (cond (is_fault f) [] (cond (is_defined f) (record { line = 0; key = key_of l; value = value_of l } ∷ []) [] ++ site_in ls))
        ≡ ltb 0 (length (sought key (cond (is_fault f) [] (cond (is_defined f) (record { line = 0; key = key_of l; value = value_of l } ∷ []) [] ++ site_in ls))))
    go Nothing e h = h
    go Row e h = h
    go FoundDefinition e h = here (same_bytes (key_of l) key) (valued l e) h
    go (FoundFault k) e h = refl

-- ---- the loop that looks for a fault
abbrev pub fault_in : List (List ℕ) → Bool
fault_in ls = any_fault ls || repeats (site_in ls)

pub fault-start : (site : List ℕ) → fault_in (lines_of (drop 0 site)) ≡ site_fault site
unfolding site_fault site_definitions
fault-start site = refl

pub fault-end : (site : List ℕ) (at : ℕ) → length site ≤ at → fault_in (lines_of (drop at site)) ≡ site_fault site → false ≡ site_fault site
unfolding lines_of any_fault site_in repeats
fault-end site at h w = rw (drop_of_length-le site h) at w

or-true : (a : Bool) → true ≡ a || true
or-true true = refl
or-true false = refl

module _ (site : List ℕ) (at : ℕ) (r : Line) (l : LineAt site at r) (found : Found) (p : found ≡ site_line (take (r.stop - at) (drop at site)))
    (w : fault_in (lines_of (drop at site)) ≡ site_fault site) where
  pub fault-here : is_fault found ≡ true → true ≡ site_fault site
  fault-here e = ap (λ (b : Bool). b || repeats (site_in (lines_of (drop at site)))) (any-stop site at r l found p e) ∙ w

  module _ (e : is_fault found ≡ false) where
    abbrev rest : List (List ℕ)
    rest = lines_of (drop r.next site)

    abbrev line : List ℕ
    line = take (r.stop - at) (drop at site)

    abbrev front : Bool → List Definition
    front b = cond b (record { line = 0; key = key_of line; value = value_of line } ∷ []) []

    -- what the line and the rest give
    both : any_fault rest || repeats (front (is_defined found) ++ site_in rest) ≡ site_fault site
    unfolding site_at
    both =
        ap (λ (b : Bool). b || repeats (front (is_defined found) ++ site_in rest)) (any-turn site at r l found p e)
        ∙ ap (λ (f : Found). any_fault (lines_of (drop at site)) || repeats (front (is_defined f) ++ site_in rest)) p
        ∙ ap (λ (ds : List Definition). any_fault (lines_of (drop at site)) || repeats ds) (site-turn site at r l found p e)
        ∙ w

    pub fault-again : is_defined found && is_named (key_of line) (site_in rest) ≡ true → true ≡ site_fault site
    unfolding repeats
    fault-again h = go (is_defined found) h ∙ both
      where
        go : (b : Bool) → b && is_named (key_of line) (site_in rest) ≡ true → true ≡ any_fault rest || repeats (front b ++ site_in rest)
        go true h = rw h (or-true (any_fault rest))
        go false h = absurd (true≢false (sym h))

    pub fault-turn : is_defined found && is_named (key_of line) (site_in rest) ≡ false → fault_in rest ≡ site_fault site
    unfolding repeats
    fault-turn h = go (is_defined found) h ∙ both
      where
        go : (b : Bool) → b && is_named (key_of line) (site_in rest) ≡ false → fault_in rest ≡ any_fault rest || repeats (front b ++ site_in rest)
        go true h = rw h
        go false h = refl

-- the rest of a text, as a part of it
pub rest-is : (site : List ℕ) (next : ℕ) → take (length site - next) (drop next site) ≡ drop next site
rest-is site next = take_all (length site - next) (drop next site) (let l = length-drop next site in omega arith)
