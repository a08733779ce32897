-- What a line is by its first nonblank byte, and whether it may stand in a file at all.
use Rattle.std.specs.Prelude.{ℕ, Bool, true, false, cond, not, ◌&&◌, ◌||◌, List, [], ◌∷◌, eqb, leb, ltb, length, drop}
use Rattle.text.specs.Lines.{bare_of, line_at}
use Rattle.text.specs.declared.Piece.{Piece}
use Rattle.text.specs.declared.Mark.{Mark}
use Rattle.text.specs.declared.Mark.TheVariants.{Blank, Comment, Section, Plain}

-- ---- "Blanks are space and tab."
unfoldable pub is_blank : ℕ → Bool
is_blank c = eqb c 32 || eqb c 9

-- ---- "A line whose first nonblank is `#` is a comment, with `[` a section line." These are 35 and 91.
unfoldable pub mark_of : List ℕ → Mark
mark_of [] = Blank
mark_of (c ∷ s) = cond (is_blank c) (mark_of s) (cond (eqb c 35) Comment (cond (eqb c 91) Section Plain))

unfoldable pub is_comment : Mark → Bool
is_comment Blank = false
is_comment Comment = true
is_comment Section = false
is_comment Plain = false

-- ---- LINE: "line over 1,024 bytes, or a byte 0 to 31 or 127, other than tab, outside a comment"
unfoldable pub is_control : ℕ → Bool
is_control b = (leb b 31 && not (eqb b 9)) || eqb b 127

unfoldable pub any_control : List ℕ → Bool
any_control [] = false
any_control (b ∷ s) = is_control b || any_control s

unfoldable pub breaks_line : List ℕ → Bool
breaks_line line = ltb 1024 (length line) || (not (is_comment (mark_of line)) && any_control line)

-- ---- the line that starts at a place, and whether no such byte stands in it
unfoldable pub cut_at : List ℕ → ℕ → Piece
cut_at text at = record { stop = (line_at text at).stop; next = (line_at text at).next; clean = not (any_control (bare_of (drop at text))) }
