-- How reading all lines of a file ends, and what it then answers. Assumes nothing.
use Prim.Native.Nat.{ℕ}
use mathlib.Core.Bool.{Bool, true, false, true≢false}
use mathlib.Core.List.{List}
use mathlib.Core.Path.{◌≡◌, refl, sym, ap}
use lib.ListN.{length, get_or}
use Rattle.shape.specs.declared.Edition.{Edition}
use Rattle.places.specs.declared.State.{State}
use Rattle.file.specs.Whole.{Verdict, ended, stopped, verdict_of}
use Rattle.file.specs.Rows.{rows_of, answer_of, scanned_of}
use Rattle.std.proofs.Common.{Err, Ok}
use Rattle.file.specs.Outcome.{Scanned, File}

-- ---- a file that comes to its end
pub verdict-scanned : (file : List ℕ) (end : State) → verdict_of file ≡ ended end
    → scanned_of file ≡ File end.edition (length (rows_of file)) end.samples (get_or end.seen 2 false)
unfolding scanned_of answer_of
verdict-scanned file end e = rw e

-- ---- an answer that is no fault comes of an end
pub record Ends (file : List ℕ) (e : Edition) (n s : ℕ) (defined : Bool) : Type 0 where
  pub end : State
  pub verdict : verdict_of file ≡ ended end
  pub edition : e ≡ end.edition
  pub rows : n ≡ length (rows_of file)
  pub samples : s ≡ end.samples
  pub definitions : defined ≡ get_or end.seen 2 false

abbrev edition_of : Scanned → Edition → Edition
edition_of (Ok got) other = got.edition
edition_of (Err why) other = other

abbrev rows_in : Scanned → ℕ
rows_in (Ok got) = got.rows
rows_in (Err why) = 0

abbrev samples_in : Scanned → ℕ
samples_in (Ok got) = got.samples
samples_in (Err why) = 0

abbrev defined_in : Scanned → Bool
defined_in (Ok got) = got.defined
defined_in (Err why) = false

abbrev is_file : Scanned → Bool
is_file (Ok got) = true
is_file (Err why) = false

pub scanned-ends : (file : List ℕ) (e : Edition) (n s : ℕ) (defined : Bool) → scanned_of file ≡ File e n s defined → Ends file e n s defined
unfolding scanned_of answer_of
scanned-ends file e n s defined p = go (verdict_of file) refl p
  where
    go : (v : Verdict) → verdict_of file ≡ v → answer_of v (length (rows_of file)) ≡ File e n s defined → Ends file e n s defined
    go (ended end) q t =
        record {
          end = end;
          verdict = q;
          edition = sym (ap (λ (x : Scanned). edition_of x e) t);
          rows = sym (ap rows_in t);
          samples = sym (ap samples_in t);
          definitions = sym (ap defined_in t);
        }
    go (stopped fault line) q t = absurd (true≢false (sym (ap is_file t)))
