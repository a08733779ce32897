-- A written shape reads back as the same samples, in either edition. Assumes nothing.
use Rattle.std.proofs.Common.{Ok}
use Prim.Native.Nat.{ℕ, ◌-◌, ◌*◌, ◌^◌, ◌≤◌}
use mathlib.Core.Bool.{Bool, true, false, cond, not}
use mathlib.Core.List.{List, ◌++◌, map}
use mathlib.Core.Path.{◌≡◌, refl, ap, ◌∙◌}
use native.Mathlib.Omega.{arith}
use borrow.Author.Tests.{ltb-true, eq-eqb, ne_eqb, le-leb, leb-true}
use lib.Dec.{leb, ltb}
use lib.IntN.{ℤ, pos}
use lib.ListN.{length, replicate, length-map}
use Rattle.text.specs.Lines.{lines_of}
use Rattle.text.proofs.Cases.{and_both}
use Rattle.numeral.specs.declared.Decimal.{Decimal}
use Rattle.print.proofs.Back.{sample_of}
use Rattle.shape.specs.Stored.{all_sound, values_of}
use Rattle.shape.specs.Samples.{is_plain}
use Rattle.expanding.specs.Expand.{Trace, sums_of, trace_of, samples_in, expands_to, expansion_of}
use Rattle.expanding.specs.Alone.{is_count, expanded_of, table_from, samples_after, table_of}
use Rattle.shape.specs.declared.Edition.{Edition}
use Rattle.shape.specs.declared.Edition.TheVariants.{V13, V14}
use Rattle.shape_text.specs.Written.{differences_from, runs_of, packed_lines, plain_lines, is_plain_text, stored_lines, ended_lines, text_of, all_within, is_writable}
use Rattle.shape_text.proofs.Reread.{HoldAll, hold-length, hold-reads}
use Rattle.shape_text.proofs.Longest.{AllIn, within_all, differences-all, differences-length, runs-longest, runs_values, runs-hold, plain-hold}
use Rattle.shape_text.proofs.Sums.{traced, traced-ends, traced-samples, sums-back, plain_back}
use Rattle.shape_text.proofs.Unrolled.{runs-fresh}

-- ---- What a text expands to, in an edition
pub record Expands (edition : Edition) (num : ℕ) (text : List ℕ) (t : Trace ℤ) : Type 0 where
  pub sound : all_sound (lines_of text) ≡ true
  pub trace : expansion_of edition num (values_of text) ≡ t

-- lines that hold some decimals, which are taken to be plain or packed
reads-expands : (edition : Edition) (num : ℕ) {ls : List (List ℕ)} {ds : List Decimal} (plain : Bool)
    → HoldAll ls ds → is_plain edition num (length ls) ≡ plain → Expands edition num (ended_lines ls) (trace_of plain ds)
unfolding expansion_of
reads-expands edition num plain h e =
    let r = hold-reads h in
    record { sound = r.sound; trace = rw (r.values, ← (hold-length h), e) }

-- ---- A writable shape
module _ (zs : List ℤ) (w : is_writable zs ≡ true) where
  limits : (is_count (length zs) ≡ true) × (all_within zs ≡ true)
  unfolding is_writable is_count
  limits = and_both (is_count (length zs)) (all_within zs) w

  few : length zs ≤ 1000000
  unfolding is_count
  few = leb-true (length zs) 1000000 (and_both (leb 1 (length zs)) (leb (length zs) 1000000) limits.0).1

  all_in : AllIn (10 ^ 17) zs
  all_in = within_all zs limits.1

  -- as packed lines
  differences-in : AllIn (2 * 10 ^ 17) (differences_from (pos 0) zs)
  differences-in = differences-all (pos 0) (omega arith) all_in

  differences-few : length (differences_from (pos 0) zs) ≤ 1000000
  differences-few = rw (differences-length (pos 0) zs) few

  packed-hold : HoldAll (packed_lines zs) (runs_values (runs_of (differences_from (pos 0) zs)))
  unfolding packed_lines
  packed-hold = runs-hold differences-few (runs-longest differences-in)

  packed-trace : trace_of false (runs_values (runs_of (differences_from (pos 0) zs))) ≡ traced zs
  unfolding trace_of
  packed-trace = ap (sums_of (pos 0)) (runs-fresh differences-few differences-in) ∙ sums-back (pos 0) (omega arith) all_in

  packed-expands : (edition : Edition) → is_plain edition (length zs) (length (packed_lines zs)) ≡ false
      → Expands edition (length zs) (ended_lines (packed_lines zs)) (traced zs)
  packed-expands edition e = rw (← packed-trace) (reads-expands edition (length zs) false packed-hold e)

  -- as plain lines
  plain-length : length (plain_lines zs) ≡ length zs
  plain-length = hold-length (plain-hold all_in) ∙ length-map zs sample_of

  plain-trace : trace_of true (map sample_of zs) ≡ traced zs
  unfolding trace_of
  plain-trace = plain_back all_in

  plain-expands : (edition : Edition) → is_plain edition (length zs) (length (plain_lines zs)) ≡ true
      → Expands edition (length zs) (ended_lines (plain_lines zs)) (traced zs)
  plain-expands edition e = rw (← plain-trace) (reads-expands edition (length zs) true (plain-hold all_in) e)

  -- as the edition has it: packed lines in 1.4 are fewer than the samples, so they are not taken to be plain
  pub written-expands : (edition : Edition) → Expands edition (length zs) (text_of edition zs) (traced zs)
  unfolding text_of stored_lines is_plain_text is_plain
  written-expands V13 = packed-expands V13 refl
  written-expands V14 = go (ltb (length (packed_lines zs)) (length zs)) refl
    where
      go : (b : Bool) → ltb (length (packed_lines zs)) (length zs) ≡ b
          → Expands V14 (length zs) (ended_lines (cond (not b) (plain_lines zs) (packed_lines zs))) (traced zs)
      go true e =
          let l = ltb-true (length (packed_lines zs)) (length zs) e in
          packed-expands V14 (ne_eqb (length (packed_lines zs)) (length zs) (λ (f : length (packed_lines zs) ≡ length zs). omega arith))
      go false e = plain-expands V14 (eq-eqb (length (plain_lines zs)) (length zs) plain-length)

-- ---- What is written reads back
pub written-samples : (edition : Edition) (zs : List ℤ) → is_writable zs ≡ true
    → (all_sound (lines_of (text_of edition zs)) ≡ true)
    × (expands_to (length zs) (expansion_of edition (length zs) (values_of (text_of edition zs))) ≡ true)
    × (samples_in (expansion_of edition (length zs) (values_of (text_of edition zs))) ≡ zs)
unfolding expands_to
written-samples edition zs w =
    let x = written-expands zs w edition in
    (x.sound, rw (x.trace, traced-ends zs, traced-samples zs) (eq-eqb (length zs) (length zs) refl), rw x.trace (traced-samples zs))

back-answer : (edition : Edition) (zs : List ℤ) → is_writable zs ≡ true → (room : ℕ) → length zs ≤ room
    → expanded_of edition (length zs) (text_of edition zs) room ≡ Ok (length zs)
unfolding expanded_of
back-answer edition zs w room h =
    let s = written-samples edition zs w in
    rw ((limits zs w).0, s.0, s.1, le-leb (length zs) room h)

back-table : (edition : Edition) (zs : List ℤ) → is_writable zs ≡ true → (room : ℕ) → length zs ≤ room
    → table_of edition (length zs) (text_of edition zs) room ≡ table_from zs room
unfolding table_of samples_after
back-table edition zs w room h = rw (back-answer edition zs w room h, (written-samples edition zs w).2)

pub written_back : (edition : Edition) (zs : List ℤ) → is_writable zs ≡ true → (room : ℕ) → length zs ≤ room
    → (expanded_of edition (length zs) (text_of edition zs) room ≡ Ok (length zs))
    × (table_of edition (length zs) (text_of edition zs) room ≡ zs ++ replicate (room - length zs) (pos 0))
unfolding table_from
written_back edition zs w room h = (back-answer edition zs w room h, back-table edition zs w room h)
