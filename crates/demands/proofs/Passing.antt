-- A file is accepted exactly when each question passes by itself, whatever the order. Assumes nothing.
use Prim.Native.Nat.{ℕ, ◌≤◌}
use mathlib.Core.Bool.{Bool, true, false, cond, true≢false}
use mathlib.Core.List.{List, [], ◌∷◌}
use mathlib.Core.Path.{◌≡◌, refl, sym}
use borrow.Author.Tests.{eqb-true, eq-eqb, ltb-false, le-ltb}
use lib.Dec.{eqb, ltb}
use lib.IntN.{ℤ}
use lib.ListN.{length}
use Rattle.shape.specs.declared.Edition.{Edition}
use Rattle.file.specs.Rows.{Placed, rows_of, scanned_of}
use Rattle.std.proofs.Common.{Err, Ok}
use Rattle.file.specs.Outcome.{Scanned, File}
use Rattle.repeats.specs.Repeats.{duplicate_of}
use Rattle.rasters.specs.Rasters.{rasters_of, lacks}
use Rattle.sampling.specs.Sampling.{first_failing}
use Rattle.rules.specs.Rules.{first_broken}
use Rattle.rules.specs.declared.Rule.{Rule}
use Rattle.rules.specs.declared.Rule.TheVariants.{Reference, Loop, Use, Align, Long, Outlasts}
use Rattle.answers.specs.Answers.{is_accepted}
use Rattle.answers.specs.declared.Refusal.{Refusal}
use Rattle.answers.specs.Outcome.{Answer, Accepted, Refused}
use Rattle.questions.specs.Asked.{is_big, any_block, is_missing, lacks_room, bad_site, in_order}
use Rattle.reader.specs.Reading.{rows_laid, samples_laid, first_refused, shapes_asked, texts_asked, file_asked, asked}

-- ---- one question, and what is asked behind it
peel : (b : Bool) (x : Refusal) (line : ℕ) (a : Answer) → is_accepted (cond b (Refused x line) a) ≡ true → (b ≡ false) × (is_accepted a ≡ true)
peel true x line a e = absurd (true≢false (sym e))
peel false x line a e = (refl, e)

peel-last : (b : Bool) (x : Refusal) (line : ℕ) (a : Answer) → is_accepted (cond b a (Refused x line)) ≡ true → (b ≡ true) × (is_accepted a ≡ true)
peel-last true x line a e = (refl, e)
peel-last false x line a e = absurd (true≢false (sym e))

-- ---- the rules, each by itself
module _ (first : Rule → ℕ) (n : ℕ) (rs : List Placed) (a : Answer) where
  abbrev Each : List Rule → Type 0
  Each [] = Unit
  Each (rule ∷ more) = (n ≤ first rule) × Each more

  each-passed : (l : List Rule) → is_accepted (first_refused l first n rs a) ≡ true → Each l
  unfolding first_refused
  each-passed [] e = tt
  each-passed (rule ∷ more) e = let p = peel (ltb (first rule) n) _ _ _ e in (ltb-false (first rule) n p.0, each-passed more p.1)

  rules-passed : is_accepted (first_refused in_order first n rs a) ≡ true → (rule : Rule) → n ≤ first rule
  unfolding in_order
  rules-passed e = pick (each-passed in_order e)
    where
      pick : Each (Reference ∷ Loop ∷ Use ∷ Align ∷ Long ∷ Outlasts ∷ []) → (rule : Rule) → n ≤ first rule
      pick p Reference = p.0
      pick p Loop = p.1.0
      pick p Use = p.1.1.0
      pick p Align = p.1.1.1.0
      pick p Long = p.1.1.1.1.0
      pick p Outlasts = p.1.1.1.1.1.0

  rules-back : ((rule : Rule) → n ≤ first rule) → (l : List Rule) → first_refused l first n rs a ≡ a
  unfolding first_refused
  rules-back p [] = refl
  rules-back p (rule ∷ more) = rw (le-ltb (first rule) n (p rule)) (rules-back p more)

-- ---- all questions, over lent tables that hold these numbers
pub record Passed (file site : List ℕ) (table l : List ℤ) (e : Edition) (n s : ℕ) (defined : Bool) : Type 0 where
  pub big : is_big file site ≡ false
  pub scanned : scanned_of file ≡ File e n s defined
  pub missing : is_missing e (any_block (rows_of file)) defined ≡ false
  pub room : lacks_room n s (length table) (length l) ≡ false
  pub site-fine : bad_site e site ≡ false
  pub again : duplicate_of file ≡ 0
  pub raster : lacks e (rasters_of e file site) ≡ false
  pub shapes : n ≤ first_failing e file (rows_laid file table) (length l) n
  pub rules : (rule : Rule) → n ≤ first_broken rule e (rasters_of e file site) (rows_laid file table) n (samples_laid e file (rows_laid file table) n l)

pub record PassedSome (file site : List ℕ) (table l : List ℤ) : Type 0 where
  pub edition : Edition
  pub n : ℕ
  pub s : ℕ
  pub defined : Bool
  pub passed : Passed file site table l edition n s defined

module _ (file site : List ℕ) (table l : List ℤ) where
  of-scanned : (scan : Scanned) → scanned_of file ≡ scan → is_big file site ≡ false → is_accepted (file_asked scan file site table l) ≡ true → PassedSome file site table l
  unfolding file_asked texts_asked shapes_asked
  of-scanned (Err why) q b e = absurd (true≢false (sym e))
  of-scanned (Ok got) q b e =
      let missing = peel (is_missing got.edition (any_block (rows_of file)) got.defined) _ _ _ e in
      let room = peel (lacks_room got.rows got.samples (length table) (length l)) _ _ _ missing.1 in
      let site-fine = peel (bad_site got.edition site) _ _ _ room.1 in
      let again = peel-last (eqb (duplicate_of file) 0) _ _ _ site-fine.1 in
      let raster = peel (lacks got.edition (rasters_of got.edition file site)) _ _ _ again.1 in
      let shapes = peel (ltb (first_failing got.edition file (rows_laid file table) (length l) got.rows) got.rows) _ _ _ raster.1 in
      record {
        edition = got.edition;
        n = got.rows;
        s = got.samples;
        defined = got.defined;
        passed = record {
          big = b;
          scanned = q;
          missing = missing.0;
          room = room.0;
          site-fine = site-fine.0;
          again = eqb-true (duplicate_of file) 0 again.0;
          raster = raster.0;
          shapes = ltb-false _ got.rows shapes.0;
          rules = rules-passed _ got.rows (rows_of file) _ shapes.1;
        };
      }

  -- ---- an accepted file passes them all, and one that passes them all is accepted
  pub accepted-passes : is_accepted (asked file site table l) ≡ true → PassedSome file site table l
  unfolding asked
  accepted-passes e = let p = peel (is_big file site) _ _ _ e in of-scanned (scanned_of file) refl p.0 p.1

  pub passed-accepted : {e : Edition} {n s : ℕ} {defined : Bool} → Passed file site table l e n s defined → asked file site table l ≡ Accepted n s
  unfolding asked file_asked texts_asked shapes_asked
  passed-accepted {e} {n} {s} {defined} p =
      rw (p.big, p.scanned, p.missing, p.room, p.site-fine, eq-eqb (duplicate_of file) 0 p.again, p.raster, le-ltb _ n p.shapes) (rules-back _ n (rows_of file) (Accepted n s) p.rules in_order)
