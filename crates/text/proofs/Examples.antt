-- Worked examples, computed from the definitions.
use mathlib.Core.Path.{◌≡◌, refl}
use mathlib.Core.Bool.{true, false}
use mathlib.Core.List.{[], ◌∷◌}
use Rattle.text.specs.Lines.{starts_lf, onto, lines_of, whole_lines_of, bare_len, pass_len, bare_of, line_at}
use Rattle.text.specs.Marks.{is_blank, mark_of, is_comment, is_control, any_control, breaks_line, cut_at}

-- 'a\r\n\nb': a CR before an LF belongs to the end, an empty line counts, the last line needs no LF
lines-ends : lines_of (97 ∷ 13 ∷ 10 ∷ 10 ∷ 98 ∷ []) ≡ (97 ∷ []) ∷ [] ∷ (98 ∷ []) ∷ []
unfolding starts_lf onto lines_of
lines-ends = refl

-- 'a\rb\r\r\n': a CR that no LF follows stays in the line, and behind the last LF there is no line
lines-returns : lines_of (97 ∷ 13 ∷ 98 ∷ 13 ∷ 13 ∷ 10 ∷ []) ≡ (97 ∷ 13 ∷ 98 ∷ 13 ∷ []) ∷ []
unfolding starts_lf onto lines_of
lines-returns = refl

-- 'a\r\n\nb' with its ends
lines-whole : whole_lines_of (97 ∷ 13 ∷ 10 ∷ 10 ∷ 98 ∷ []) ≡ (97 ∷ 13 ∷ 10 ∷ []) ∷ (10 ∷ []) ∷ (98 ∷ []) ∷ []
unfolding onto whole_lines_of
lines-whole = refl

-- a tab is allowed; a lone CR, a byte 31 and a byte 127 are not; in a comment anything is
breaks-tab : breaks_line (9 ∷ []) ≡ false
unfolding is_blank mark_of is_comment is_control any_control breaks_line
breaks-tab = refl

breaks-return : breaks_line (13 ∷ []) ≡ true
unfolding is_blank mark_of is_comment is_control any_control breaks_line
breaks-return = refl

breaks-31 : breaks_line (31 ∷ []) ≡ true
unfolding is_blank mark_of is_comment is_control any_control breaks_line
breaks-31 = refl

breaks-space : breaks_line (32 ∷ []) ≡ false
unfolding is_blank mark_of is_comment is_control any_control breaks_line
breaks-space = refl

breaks-127 : breaks_line (127 ∷ []) ≡ true
unfolding is_blank mark_of is_comment is_control any_control breaks_line
breaks-127 = refl

breaks-comment : breaks_line (32 ∷ 35 ∷ 127 ∷ []) ≡ false
unfolding is_blank mark_of is_comment is_control any_control breaks_line
breaks-comment = refl

-- 'a\t\r\n': a tab is allowed, and the CR is of the end; 'a\rb\n': this one is not
cut-clean : cut_at (97 ∷ 9 ∷ 13 ∷ 10 ∷ []) 0 ≡ record { stop = 2; next = 4; clean = true }
unfolding starts_lf bare_len pass_len bare_of line_at is_control any_control cut_at
cut-clean = refl

cut-unclean : cut_at (97 ∷ 13 ∷ 98 ∷ 10 ∷ []) 0 ≡ record { stop = 3; next = 4; clean = false }
unfolding starts_lf bare_len pass_len bare_of line_at is_control any_control cut_at
cut-unclean = refl
