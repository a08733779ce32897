-- What is restated keeps the paper's limits on a line and on a file, and is as long as the answer says. Assumes nothing.
use Prim.Native.Nat.{ℕ, ◌-◌, ◌^◌, min, ◌≤◌}
use mathlib.Core.Bool.{Bool, true, false, true≢false}
use mathlib.Core.List.{List}
use mathlib.Core.Path.{◌≡◌, refl, sym, ap, ◌∙◌}
use native.Mathlib.Omega.{arith}
use borrow.Author.Tests.{leb-true}
use lib.IntN.{ℤ}
use lib.ListN.{length, take}
use lib.Seq.{take-append_seam}
use Rattle.shape.specs.declared.Edition.{Edition}
use Rattle.std.proofs.Common.{Err, Ok}
use Rattle.answers.specs.Outcome.{Answer}
use Rattle.reader.specs.Reading.{read_of, rows_out, samples_out}
use Rattle.sources.specs.Sources.{own_rasters, asked_for}
use Rattle.restater.specs.Answers.{rows_read, text_length, is_text}
use Rattle.restater.specs.Restating.{is_unsayable, text_of, fits, said, restated_from, restate_of, text_for, if_text, blank_bytes, laid_out, output_after, Restating}
use Rattle.restater.specs.Outcome.{Restated, Text}
use Rattle.restater.specs.declared.Unrestated.TheVariants.{Output, Unread, Unsayable}
use Rattle.restated_laws.specs.Limits.{ShortLines, Restates}
use Rattle.restated_laws.proofs.Cut.{short-lines}
use Rattle.restated_laws.proofs.Sections.{text-short}
use Rattle.restated_laws.proofs.Rows.{rows-small}

-- ---- LINE, whatever is restated
pub lines-within : (target : Edition) (file site : List ℕ) (room size n : ℕ) → ShortLines (text_of target file site (rows_out file site room size) n (samples_out file site room size))
lines-within target file site room size n =
    short-lines (text-short target (own_rasters file site).block.0 file site (rows_out file site room size) n (samples_out file site room size) (rows-small file site room size))

-- ---- the text of an answer fits the lent output and a file
record Sized (text : List ℕ) (r : Restated) (space : ℕ) : Type 0 where
  same : text_length r ≡ length text
  room : text_length r ≤ space
  size : text_length r ≤ 2 ^ 24

no_text : {A : Type 0} {r s : Restated} → r ≡ s → is_text s ≡ false → is_text r ≡ true → A
no_text e f t = absurd (true≢false (sym t ∙ ap is_text e ∙ f))

module _ (target : Edition) (file site : List ℕ) (rows samples : List ℤ) (space : ℕ) (r : Restated) (t : is_text r ≡ true) where
  said-sized : (n s : ℕ) → r ≡ said target file site rows n samples s space → Sized (text_of target file site rows (rows_read r) samples) r space
  unfolding said
  said-sized n s e = go (is_unsayable target file site rows n) (fits (text_of target file site rows n samples) space) refl refl
    where
      go : (b c : Bool) → is_unsayable target file site rows n ≡ b → fits (text_of target file site rows n samples) space ≡ c
          → Sized (text_of target file site rows (rows_read r) samples) r space
      go true c x y = no_text (rw x at e) refl t
      go false false x y = no_text (rw (x, y) at e) refl t
      go false true x y =
          let f : r ≡ Text n s (length (text_of target file site rows n samples)) = rw (x, y) at e in
          let m : text_length r ≡ length (text_of target file site rows n samples) = ap text_length f in
          let h = leb-true (length (text_of target file site rows n samples)) (min space (2 ^ 24)) y in
          record { same = rw (ap rows_read f) m; room = omega arith; size = omega arith }

  from-sized : (a : Answer) → r ≡ restated_from a target file site rows samples space → Sized (text_of target file site rows (rows_read r) samples) r space
  unfolding restated_from
  from-sized (Ok got) e = said-sized got.rows got.samples e
  from-sized (Err why) e = no_text e refl t

-- ---- A restated text is within the paper's limits, and within the lent output
module _ (target : Edition) (file site : List ℕ) (room size space : ℕ) where
  pub text-within : (r : Restated) → is_text r ≡ true → r ≡ restate_of target file site room size space → Restates (text_for r target file site room size) (text_length r) space
  unfolding restate_of
  text-within r t e =
      let z = from-sized target file site (rows_out file site room size) (samples_out file site room size) space r t (asked_for target file site (read_of file site room size)) e in
      let m = z.same in
      let h = z.size in
      record { same = m; room = z.room; limits = record { lines = lines-within target file site room size (rows_read r); size = omega arith } }

  pub restated-within : (n s len : ℕ) → restate_of target file site room size space ≡ Text n s len
      → Restates (text_of target file site (rows_out file site room size) n (samples_out file site room size)) len space
  restated-within n s len e = text-within (Text n s len) refl (sym e)

-- ---- The same of what restating leaves in the lent output: as many bytes of it as the answer says
laid-text : (r : Restated) (text none : List ℕ) (space : ℕ) → is_text r ≡ true → text_length r ≡ length text → take (text_length r) (if_text r (laid_out text space) none) ≡ text
laid-text (Ok got) text none space t e = rw e (take-append_seam text (blank_bytes (space - length text)))
laid-text (Err (Unread why)) text none space t e = absurd (true≢false (sym t))
laid-text (Err Unsayable) text none space t e = absurd (true≢false (sym t))
laid-text (Err Output) text none space t e = absurd (true≢false (sym t))

pub output-within : (target : Edition) (file site : List ℕ) (table l : List ℤ) (out : List ℕ) (r : Restated) (table' l' : List ℤ) (out' : List ℕ)
    → Restating target file site table l out r table' l' out' → is_text r ≡ true → Restates (take (text_length r) out') (text_length r) (length out)
unfolding output_after
output-within target file site table l out r table' l' out' x t =
    let w = text-within target file site (length table) (length l) (length out) r t x.answer in
    let o : out' ≡ if_text r (laid_out (text_for r target file site (length table) (length l)) (length out)) (blank_bytes (length out)) = rw (← x.answer) at x.output in
    rw (o, laid-text r (text_for r target file site (length table) (length l)) (blank_bytes (length out)) (length out) t w.same) w
