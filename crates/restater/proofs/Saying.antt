-- What restating answers at each of its returns, and what it leaves. Assumes nothing.
use Prim.Native.Nat.{ℕ, ◌-◌, ◌^◌, ◌≤◌, ◌<◌, min}
use mathlib.Core.Bool.{Bool, true, false, true≢false}
use mathlib.Core.List.{List}
use mathlib.Core.Path.{◌≡◌, refl, sym, ap, ◌∙◌}
use native.Mathlib.Omega.{arith}
use lib.IntN.{ℤ}
use lib.ListN.{length, take}
use borrow.Author.Tests.{le-leb, lt-leb}
use Rattle.output.specs.Over.{Put, cleared_from}
use Rattle.output.proofs.Over.{put_front, put-length}
use Rattle.output.proofs.Clear.{cleared-all}
use Rattle.unit.specs.declared.Rasters.{Rasters}
use Rattle.shape.specs.declared.Edition.{Edition}
use Rattle.needs.specs.Needs.{site_rasters}
use Rattle.sayable.specs.Sayable.{unsayable}
use Rattle.answers.specs.declared.Refusal.{Refusal}
use Rattle.answers.specs.Outcome.{Answer, Accepted as ReadAccepted, Refused as ReadRefused}
use Rattle.reader.specs.Reading.{Reading, zeros}
use Rattle.sources.specs.Sources.{own_rasters, asked_for}
use Rattle.restated.specs.Text.{restated_text}
use Rattle.restater.specs.Answers.{rows_read, text_length, is_text}
use Rattle.restater.specs.Restating.{text_of, said, restated_from, restate_of, fits, if_text, blank_bytes, laid_out, rows_after, samples_after, output_after, Restating}
use Rattle.restater.specs.Inside.{SaidJudged, AnswerJudged}
use Rattle.std.proofs.Common.{Err, Ok}
use Rattle.restater.specs.Outcome.{Restated, Text, Refused}
use Rattle.restater.specs.declared.Unrestated.TheVariants.{Output, Unread, Unsayable}

-- ---- an answer that is no text
no_text : {A : Type 0} → false ≡ true → A
no_text e = absurd (true≢false (sym e))

-- ---- UNSAYABLE and OUTPUT
module _ (target : Edition) (file site : List ℕ) (rows : List ℤ) (n : ℕ) (samples : List ℤ) (s : ℕ) (own at-site : Rasters) (p : own ≡ own_rasters file site) (q : at-site ≡ site_rasters site)
    (b : Bool) (u : b ≡ unsayable target own at-site rows n) where
  is-unsayable : unsayable target (own_rasters file site) (site_rasters site) rows n ≡ b
  is-unsayable = rw (← p, ← q) (sym u)

  pub said-unsayable : b ≡ true → (out : List ℕ) → SaidJudged target file site rows n samples s out (Err Unsayable) out
  unfolding said
  said-unsayable e out = record { answer = rw (is-unsayable, e); size = no_text; front = no_text; long = refl }

  module _ (e : b ≡ false) {out out' : List ℕ} {r : ℕ} (w : Put out 0 (restated_text target own.block.0 file site rows n samples) r out') where
    placed : Put out 0 (text_of target file site rows n samples) r out'
    placed = rw p at w

    pub said-output : min (length out') 16777216 < r → SaidJudged target file site rows n samples s out (Err Output) out'
    unfolding said
    said-output h =
        let g : min (length out) (2 ^ 24) < length (text_of target file site rows n samples) = omega (arith, placed.place, put-length placed) in
        record { answer = rw (is-unsayable, e, lt-leb (length (text_of target file site rows n samples)) (min (length out) (2 ^ 24)) g); size = no_text; front = no_text; long = put-length placed }

    pub said-text : r ≤ length out' → r ≤ 16777216 → SaidJudged target file site rows n samples s out (Text n s r) out'
    unfolding said
    said-text h k =
        let m : length out' ≡ length out = put-length placed in
        let f : r ≡ length (text_of target file site rows n samples) = omega (arith, placed.place, placed.room) in
        let g : length (text_of target file site rows n samples) ≤ min (length out) (2 ^ 24) = omega arith in
        record {
          answer = rw (is-unsayable, e, le-leb (length (text_of target file site rows n samples)) (min (length out) (2 ^ 24)) g, f);
          size = λ t. f;
          front = λ t. put_front placed (omega arith);
          long = m;
        }

-- ---- the refusal of the source, or what can be said of its rows
said-rows : (r : Restated) (target : Edition) (file site : List ℕ) (rows : List ℤ) (n : ℕ) (samples : List ℤ) (s space : ℕ) → r ≡ said target file site rows n samples s space → is_text r ≡ true → rows_read r ≡ n
unfolding said
said-rows r target file site rows n samples s space e t =
    go (unsayable target (own_rasters file site) (site_rasters site) rows n) (fits (text_of target file site rows n samples) space) refl refl
  where
    go : (b c : Bool) → unsayable target (own_rasters file site) (site_rasters site) rows n ≡ b → fits (text_of target file site rows n samples) space ≡ c → rows_read r ≡ n
    go true c x y = no_text (sym (ap is_text (rw x at e)) ∙ t)
    go false true x y = ap rows_read (rw (x, y) at e)
    go false false x y = no_text (sym (ap is_text (rw (x, y) at e)) ∙ t)

module _ (asked : Answer) (target : Edition) (file site : List ℕ) (rows samples : List ℤ) (out : List ℕ) where
  pub answer-said : (n s : ℕ) → asked ≡ ReadAccepted n s → (r : Restated) (out' : List ℕ) → SaidJudged target file site rows n samples s out r out'
      → AnswerJudged asked target file site rows samples out r out'
  unfolding restated_from
  answer-said n s e r out' j =
      record {
        answer = rw e j.answer;
        size = λ t. rw (said-rows r target file site rows n samples s (length out) j.answer t) (j.size t);
        front = λ t. rw (said-rows r target file site rows n samples s (length out) j.answer t) (j.front t);
        long = j.long;
      }

  pub answer-refused : (refusal : Refusal) (line : ℕ) → asked ≡ ReadRefused refusal line → AnswerJudged asked target file site rows samples out (Refused refusal line) out
  unfolding restated_from
  answer-refused refusal line e = record { answer = rw e; size = no_text; front = no_text; long = refl }

-- ---- the answer as a text or not
if-text : {A : Type 0} (r : Restated) (x y : A) → is_text r ≡ true → x ≡ if_text r x y
if-text (Ok got) x y e = refl
if-text (Err (Unread why)) x y e = no_text e
if-text (Err Unsayable) x y e = no_text e
if-text (Err Output) x y e = no_text e

if_none : {A : Type 0} (r : Restated) (x y : A) → is_text r ≡ false → y ≡ if_text r x y
if_none (Ok got) x y e = no_text (sym e)
if_none (Err (Unread why)) x y e = refl
if_none (Err Unsayable) x y e = refl
if_none (Err Output) x y e = refl

none-long : (r : Restated) → is_text r ≡ false → text_length r ≡ 0
none-long (Ok got) e = no_text (sym e)
none-long (Err (Unread why)) e = refl
none-long (Err Unsayable) e = refl
none-long (Err Output) e = refl

-- ---- what restating leaves
module _ (target : Edition) (file site : List ℕ) (table l : List ℤ) (out : List ℕ) (a : Answer) (table₁ l₁ : List ℤ) (p : Reading file site table l a table₁ l₁)
    (asked : Answer) (q : asked ≡ asked_for target file site a) (r : Restated) (out₁ : List ℕ) (j : AnswerJudged asked target file site table₁ l₁ out r out₁)
    (m : ℕ) (i : m ≡ text_length r) (out₂ : List ℕ) (z : out₂ ≡ cleared_from 0 m out₁) where
  same_answer : r ≡ restate_of target file site (length table) (length l) (length out)
  unfolding restate_of
  same_answer = rw (← p.answer, ← p.rows, ← p.samples, ← q) j.answer

  pub restated-text : is_text r ≡ true → Restating target file site table l out r table₁ l₁ out₂
  unfolding cleared_from rows_after samples_after output_after
  restated-text e =
      let f : take (text_length r) out₁ ≡ text_of target file site table₁ (rows_read r) l₁ = j.front e in
      let g : text_length r ≡ length (text_of target file site table₁ (rows_read r) l₁) = j.size e in
      let o : out₂ ≡ laid_out (text_of target file site table₁ (rows_read r) l₁) (length out) = rw (i, f, j.long, g) at z in
      record {
        answer = same_answer;
        rows = rw (← same_answer) (p.rows ∙ if-text r _ _ e);
        samples = rw (← same_answer) (p.samples ∙ if-text r _ _ e);
        output = rw (← same_answer) (rw (p.rows, p.samples) at o ∙ if-text r _ _ e);
      }

  pub restated-none : is_text r ≡ false → (table₂ l₂ : List ℤ) → table₂ ≡ zeros (length table₁) → l₂ ≡ zeros (length l₁) → length table₁ ≡ length table → length l₁ ≡ length l
      → Restating target file site table l out r table₂ l₂ out₂
  unfolding rows_after samples_after output_after
  restated-none e table₂ l₂ x y u v =
      let o : out₂ ≡ blank_bytes (length out) = rw (i ∙ none-long r e) at z ∙ cleared-all 0 out₁ ∙ ap blank_bytes j.long in
      record {
        answer = same_answer;
        rows = rw (← same_answer) (x ∙ ap zeros u ∙ if_none r _ _ e);
        samples = rw (← same_answer) (y ∙ ap zeros v ∙ if_none r _ _ e);
        output = rw (← same_answer) (o ∙ if_none r _ _ e);
      }
