-- Where the value of a key stands, line by line, and that it stands there. Assumes nothing.
use Prim.Native.Nat.{ℕ, suc, ◌+◌, ◌-◌, ◌≤◌}
use mathlib.Core.Bool.{Bool, true, false, cond, ◌&&◌}
use mathlib.Core.List.{List, [], ◌∷◌, ◌++◌}
use mathlib.Core.Path.{◌≡◌, refl, ◌∙◌}
use native.Mathlib.Numerals.{add-one}
use lib.ListN.{length, take, drop, drop_of_length-le}
use Rattle.text.specs.Lines.{lines_of, whole_lines_of}
use Rattle.text.specs.Words.{same_bytes}
use Rattle.text.specs.declared.Line.{Line}
use Rattle.fields.specs.declared.Part.{Part}
use Rattle.text.proofs.Cut.{LineAt, WholeAt}
use Rattle.grammar.specs.Definitions.{key_of, value_of, value_part}
use Rattle.grammar.specs.Parts.{moved_by, no_part}
use Rattle.grammar.specs.Steps.{step_of}
use Rattle.grammar.proofs.Parts.{Holds, none-holds, value-holds, moved_holds, whole-ends, by_lines}
use Rattle.places.specs.Places.{fresh}
use Rattle.places.specs.declared.Found.{Found}
use Rattle.places.specs.declared.State.{State}
use Rattle.places.specs.declared.Stepped.{Stepped}
use Rattle.file.specs.Whole.{is_fault, is_defined, gathered}
use Rattle.file.proofs.Walking.{Within, within-start, within-turn}
use Rattle.definitions.specs.Definitions.{Definition, definition_at, definitions_from, definitions_of, site_line, site_at, site_in, site_definitions, sought}
use Rattle.definitions.specs.Places.{place_or, file_place_from, file_place, site_place_from, site_place}

-- ---- the three ways of one line
module _ (key : List ℕ) (found : Found) (at : ℕ) (line : List ℕ) (further place : Part) (p : place_or key found at line further ≡ place) where
  pub place-fault : is_fault found ≡ true → no_part ≡ place
  unfolding place_or
  place-fault e = rw e at p

  module _ (e : is_fault found ≡ false) where
    pub place-hit : is_defined found && same_bytes (key_of line) key ≡ true → moved_by at (value_part line) ≡ place
    unfolding place_or
    place-hit h = rw (e, h) at p

    pub place-miss : is_defined found && same_bytes (key_of line) key ≡ false → further ≡ place
    unfolding place_or
    place-miss h = rw (e, h) at p

-- ---- one line cut off
module _ {text : List ℕ} {at : ℕ} {r : Line} (l : LineAt text at r) (w : WholeAt text at r) (key : List ℕ) where
  abbrev line_here : List ℕ
  line_here = take (r.stop - at) (drop at text)

  file-cut : (st : State) (n : ℕ)
      → place_or key (step_of st n line_here).found at line_here (file_place_from key (step_of st n line_here).next (suc n) r.next (whole_lines_of (drop r.next text)))
      ≡ file_place_from key st n at (whole_lines_of (drop at text))
  unfolding file_place_from
  file-cut st n = rw (w.whole, w.bare, whole-ends l)

  site-cut : place_or key (site_line line_here) at line_here (site_place_from key r.next (whole_lines_of (drop r.next text))) ≡ site_place_from key at (whole_lines_of (drop at text))
  unfolding site_place_from
  site-cut = rw (w.whole, w.bare, whole-ends l)

-- ---- the loop over a file
pub record PlaceWalk (file key : List ℕ) (st : State) (at n : ℕ) : Type 0 where
  pub within : Within file at n
  pub same : file_place_from key st n at (whole_lines_of (drop at file)) ≡ file_place file key

pub place-start : (file key : List ℕ) (st : State) → st ≡ fresh → PlaceWalk file key st 0 1
unfolding file_place
place-start file key st e = record { within = within-start file; same = rw e }

module _ {file key : List ℕ} {st : State} {at n : ℕ} (k : PlaceWalk file key st at n) where
  module _ {r : Line} (l : LineAt file at r) (w : WholeAt file at r) {s : Stepped} (p : s ≡ step_of st n (take (r.stop - at) (drop at file))) where
    pub place-line : place_or key s.found at (take (r.stop - at) (drop at file)) (file_place_from key s.next (n + 1) r.next (whole_lines_of (drop r.next file))) ≡ file_place file key
    place-line = rw (p, add-one n) (file-cut l w key st n) ∙ k.same

    pub place-turn : file_place_from key s.next (n + 1) r.next (whole_lines_of (drop r.next file)) ≡ file_place file key → PlaceWalk file key s.next r.next (n + 1)
    place-turn e = record { within = within-turn k.within l; same = e }

  pub place_end : length file ≤ at → no_part ≡ file_place file key
  unfolding file_place_from whole_lines_of
  place_end h = rw (drop_of_length-le file h) at k.same

-- ---- the loop over a site
abbrev pub SitePlaced : List ℕ → List ℕ → ℕ → Type 0
SitePlaced site key at = site_place_from key at (whole_lines_of (drop at site)) ≡ site_place site key

pub site-place-start : (site key : List ℕ) → SitePlaced site key 0
unfolding site_place
site-place-start site key = refl

pub site-place-line : {site : List ℕ} (key : List ℕ) {at : ℕ} {r : Line} {found : Found} → LineAt site at r → WholeAt site at r → found ≡ site_line (take (r.stop - at) (drop at site)) → SitePlaced site key at
    → place_or key found at (take (r.stop - at) (drop at site)) (site_place_from key r.next (whole_lines_of (drop r.next site))) ≡ site_place site key
site-place-line key l w p k = rw p (site-cut l w key) ∙ k

pub site-place-end : (site key : List ℕ) (at : ℕ) → length site ≤ at → SitePlaced site key at → no_part ≡ site_place site key
unfolding site_place_from whole_lines_of
site-place-end site key at h k = rw (drop_of_length-le site h) at k

-- ---- the bytes there are the value
-- a definition of line n, or none, in front of others
module _ {text : List ℕ} {at : ℕ} {r : Line} (l : LineAt text at r) (key : List ℕ) (found : Found) (n : ℕ) {p : Part} (ds : List Definition) (h : Holds text p (sought key ds)) where
  abbrev here : List ℕ
  here = take (r.stop - at) (drop at text)

  abbrev in_front : Definition
  in_front = record { line = n; key = key_of here; value = value_of here }

  line-holds : Holds text (place_or key found at here p) (sought key (cond (is_fault found) [] (cond (is_defined found) (in_front ∷ []) [] ++ ds)))
  unfolding place_or sought
  line-holds = go (is_fault found) (is_defined found) (same_bytes (key_of here) key) refl
    where
      go : (f d s : Bool) → same_bytes (key_of here) key ≡ s
          → Holds text (cond f no_part (cond (d && s) (moved_by at (value_part here)) p)) (sought key (cond f [] (cond d (in_front ∷ []) [] ++ ds)))
      go true d s e = none-holds text
      go false true true e = rw e (moved_holds text at r.stop l.ordered l.within (value-holds here))
      go false true false e = rw e h
      go false false s e = h

file-from : (file key : List ℕ) (at : ℕ) (st : State) (n : ℕ)
    → Holds file (file_place_from key st n at (whole_lines_of (drop at file))) (sought key (definitions_from st n (lines_of (drop at file))))
unfolding file_place_from whole_lines_of lines_of gathered sought definition_at
file-from file key =
    by_lines file
    (λ at. (st : State) (n : ℕ) → Holds file (file_place_from key st n at (whole_lines_of (drop at file))) (sought key (definitions_from st n (lines_of (drop at file)))))
    (λ at h st n. rw (drop_of_length-le file h) (none-holds file))
    (λ at r l w next st n. rw (← file-cut l w key st n, l.line) (line-holds l key (step_of st n (line_here l w key)).found n _ (next (step_of st n (line_here l w key)).next (suc n))))

pub file-holds : (file key : List ℕ) → Holds file (file_place file key) (sought key (definitions_of file))
unfolding file_place definitions_of
file-holds file key = file-from file key 0 fresh 1

site-from : (site key : List ℕ) (at : ℕ) → Holds site (site_place_from key at (whole_lines_of (drop at site))) (sought key (site_in (lines_of (drop at site))))
unfolding site_place_from whole_lines_of lines_of site_in sought site_at
site-from site key =
    by_lines site
    (λ at. Holds site (site_place_from key at (whole_lines_of (drop at site))) (sought key (site_in (lines_of (drop at site)))))
    (λ at h. rw (drop_of_length-le site h) (none-holds site))
    (λ at r l w next. rw (← site-cut l w key, l.line) (line-holds l key (site_line (line_here l w key)) 0 _ next))

pub site-holds : (site key : List ℕ) → Holds site (site_place site key) (sought key (site_definitions site))
unfolding site_place site_definitions
site-holds site key = site-from site key 0
