-- What the tests of mark_of and breaks_line say of a line. Assumes nothing.
use Prim.Native.Nat.{ℕ, suc, ◌≤◌, ◌<◌}
use mathlib.Core.Bool.{Bool, true, false, cond, not, and-false}
use mathlib.Core.List.{List, [], ◌∷◌}
use mathlib.Core.Path.{◌≡◌, refl, sym, ap, ◌∙◌}
use borrow.Author.Tests.{eq-eqb, ne_eqb, lt-ltb, le-ltb, not-true}
use Rattle.std.specs.List.{list_any}
use lib.ListN.{length, get_or, drop, drop_of_length-le}
use lib.Seq.{drop-cons}
use Rattle.text.specs.Marks.{is_blank, mark_of, is_comment, is_control, any_control, breaks_line}
use Rattle.text.specs.Blanks.{blank_len, skipped}
use Rattle.text.specs.declared.Mark.{Mark}
use Rattle.text.specs.declared.Mark.TheVariants.{Blank, Comment, Section, Plain}
use Rattle.text.proofs.Blanks.{skip-drop, skip-ends}

mark-skip : (s : List ℕ) → mark_of s ≡ mark_of (drop (blank_len s) s)
unfolding mark_of blank_len
mark-skip [] = refl
mark-skip (c ∷ s) = go (is_blank c) refl (mark-skip s)
  where
    go : (b : Bool) → is_blank c ≡ b → mark_of s ≡ mark_of (drop (blank_len s) s) → mark_of (c ∷ s) ≡ mark_of (drop (cond b (suc (blank_len s)) 0) (c ∷ s))
    go true e r = rw e r
    go false e r = refl

module _ (line : List ℕ) (first : ℕ) (p : first ≡ skipped line 0) where
  there : mark_of line ≡ mark_of (drop first line)
  there = mark-skip line ∙ ap mark_of (skip-drop line 0) ∙ rw p

  pub mark-none : length line ≤ first → Blank ≡ mark_of line
  unfolding mark_of
  mark-none h = sym (there ∙ rw (drop_of_length-le line h))

  module _ (h : first < length line) where
    here : drop first line ≡ get_or line first 0 ∷ drop (suc first) line
    here = drop-cons line first 0 h

    solid : is_blank (get_or line first 0) ≡ false
    solid = skip-ends line 0 (get_or line first 0) (drop (suc first) line) (rw (← p) here)

    pub mark-comment : get_or line first 0 ≡ 35 → Comment ≡ mark_of line
    unfolding mark_of
    mark-comment e = sym (there ∙ rw (here, solid, eq-eqb _ _ e))

    module _ (n : get_or line first 0 ≡ 35 → ⊥) where
      pub mark-section : get_or line first 0 ≡ 91 → Section ≡ mark_of line
      unfolding mark_of
      mark-section e = sym (there ∙ rw (here, solid, ne_eqb _ 35 n, eq-eqb _ 91 e))

      pub mark-plain : (get_or line first 0 ≡ 91 → ⊥) → Plain ≡ mark_of line
      unfolding mark_of
      mark-plain m = sym (there ∙ rw (here, solid, ne_eqb _ 35 n, ne_eqb _ 91 m))

pub any_list : (s : List ℕ) → list_any is_control s ≡ any_control s
unfolding any_control
any_list [] = refl
any_list (b ∷ s) = rw (any_list s)

module _ (line : List ℕ) where
  pub breaks-long : 1024 < length line → true ≡ breaks_line line
  unfolding breaks_line
  breaks-long h = rw (lt-ltb 1024 (length line) h)

  module _ (h : length line ≤ 1024) where
    -- a short clean line
    pub breaks-clean : (clean : Bool) → clean ≡ not (any_control line) → clean ≡ true → breaks_line line ≡ false
    unfolding breaks_line
    breaks-clean clean e f = rw (le-ltb 1024 (length line) h, not-true (any_control line) (sym e ∙ f), and-false)

    module _ (m : Mark) (e : m ≡ mark_of line) where
      pub breaks-other : (k : Mark) → m ≡ k → is_comment k ≡ false → any_control line ≡ breaks_line line
      unfolding breaks_line
      breaks-other k f n = rw (le-ltb 1024 (length line) h, ← e, f, n)
