-- A printed count, alone in a line, is read as a decimal that is worth the count. Assumes nothing.
use Rattle.std.proofs.Common.{Some}
use Prim.Native.Nat.{ℕ, ◌≤◌}
use mathlib.Core.Bool.{false}
use mathlib.Core.List.{◌++◌, append-nil}
use mathlib.Core.Path.{◌≡◌, ap, sym, ◌∙◌}
use native.Mathlib.Omega.{arith}
use lib.IntN.{pos}
use Rattle.text.specs.Marks.{mark_of}
use Rattle.text.specs.declared.Mark.TheVariants.{Plain}
use Rattle.signed.specs.Signed.{same_z}
use Rattle.decimals.specs.Decimal.{kept}
use Rattle.numeral.specs.Worth.{whole_of}
use Rattle.numeral.specs.declared.Decimal.{Decimal}
use Rattle.print.specs.Printed.{digits_of, number_text, power_text}
use Rattle.print.proofs.Naturals.{natural-back, natural-worth}
use Rattle.print.proofs.Figures.{digits-visible, digits-word}
use Rattle.shape_text.proofs.Reread.{Holds}
use Rattle.shape_text.proofs.Figures.{number-mark, word_holds}

-- what a count of further repeats is read as
abbrev pub repeats_of : ℕ → Decimal
repeats_of k = kept false k (pos 0)

-- ---- Digits, with the exponent 0 behind them, which is not printed
digits-alone : (n : ℕ) → number_text false n ++ power_text (pos 0) ≡ digits_of n
unfolding number_text power_text same_z
digits-alone n = append-nil (digits_of n)

count-mark : (n : ℕ) → mark_of (digits_of n) ≡ Plain
count-mark n = ap mark_of (sym (digits-alone n)) ∙ number-mark false n (power_text (pos 0))

-- ---- So the line holds the count
pub count-holds : (n : ℕ) → n ≤ 1000000 → Holds (digits_of n) (repeats_of n)
count-holds n h = word_holds (digits_of n) (repeats_of n) (natural-back n (omega arith)) (digits-word n) (digits-visible n) (count-mark n)

-- ---- What is read is worth the count
pub count-worth : (n : ℕ) → n ≤ 1000000 → whole_of (repeats_of n) 0 0 1000000 ≡ Some n
count-worth n h = natural-worth n 0 1000000 (omega arith) h
