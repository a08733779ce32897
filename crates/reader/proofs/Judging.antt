-- One question after another: what is answered where one is reached, and what the tables hold then. Assumes nothing.
use Prim.Native.Nat.{ℕ, ◌+◌, ◌-◌, ◌/◌, ◌≤◌, ◌<◌}
use mathlib.Core.Bool.{Bool, true, false, cond, true≢false}
use mathlib.Core.List.{List, [], ◌∷◌}
use mathlib.Core.Path.{◌≡◌, refl, sym, ap, ◌∙◌}
use mathlib.Core.Logic.{⊎_elim}
use native.Mathlib.Numerals.{add-one}
use native.Mathlib.Omega.{arith}
use borrow.Author.Tests.{eq-eqb, ne_eqb, lt-ltb, le-ltb, ltb-false}
use lib.Dec.{ltb}
use lib.IntN.{ℤ}
use lib.ListN.{length, drop, drop_of_length-le}
use lib.Seq.{drop-cons}
use Rattle.text.proofs.Cases.{true-or-false}
use Rattle.tables.specs.Tables.{is_again, NoneAgain}
use Rattle.tables.proofs.Found.{none-again}
use Rattle.duplicates.specs.Again.{by_row}
use Rattle.duplicates.proofs.Again.{duplicate-is}
use Rattle.unit.specs.declared.Rasters.{Rasters}
use Rattle.shape.specs.declared.Edition.{Edition}
use Rattle.places.specs.declared.Fault.{Fault}
use Rattle.columns.specs.Rows.{row_width}
use Rattle.file.specs.Rows.{Placed, rows_of, line_of, scanned_of}
use Rattle.file.specs.Outcome.{File, Fault as ScannedFault}
use Rattle.file_laws.proofs.Ending.{scanned-ends}
use Rattle.text.proofs.Lines.{or_left}
use Rattle.repeats.specs.Repeats.{duplicate_of}
use Rattle.repeats.proofs.Laid.{duplicate-laid}
use Rattle.duplicates.specs.Words.{duplicate_line}
use Rattle.rasters.specs.Rasters.{rasters_of, lacks}
use Rattle.sampling.specs.Sampling.{first_failing}
use Rattle.rules.specs.Filled.{filled}
use Rattle.rules.specs.declared.Rule.{Rule}
use Rattle.rules.specs.declared.Rule.TheVariants.{Outlasts}
use Rattle.answers.specs.Answers.{is_accepted}
use Rattle.answers.specs.declared.Refusal.{Refusal}
use Rattle.answers.specs.declared.Refusal.TheVariants.{Big, Missing, Room, Site, Duplicate, Raster, Shape}
use Rattle.std.proofs.Common.{Err, Ok}
use Rattle.answers.specs.Outcome.{Answer, Accepted, Refused}
use Rattle.questions.specs.Asked.{is_big, fault_refusal, any_block, is_missing, lacks_room, bad_site, in_order, rule_at, rule_refusal}
use Rattle.reader.specs.Reading.{rows_laid, samples_laid, first_refused, rules_asked, shapes_asked, texts_asked, file_asked, asked, rows_kept, samples_kept, zeros, if_accepted, read_of, rows_out, samples_out, Reading}
use Rattle.reader.specs.Inside.{Judged, RowsJudged, TextsJudged, FileJudged, AllJudged}

-- ---- a refusal says nothing of the tables
module _ {a : Answer} {kept samples table l : List ℤ} where
  pub judged-no : (x : Refusal) (line : ℕ) → Refused x line ≡ a → Judged a kept samples (Refused x line) table l
  judged-no x line e = record { answer = e; rows = λ (p : false ≡ true). absurd (true≢false (sym p)); values = λ (p : false ≡ true). absurd (true≢false (sym p)) }

  -- the same for another way to say the answer
  pub judged-as : {b : Answer} {r : Answer} → b ≡ a → Judged b kept samples r table l → Judged a kept samples r table l
  judged-as e j = record { answer = j.answer ∙ e; rows = j.rows; values = j.values }

-- ---- the rules, one after another; `first` is the first row that breaks one
module _ (first : Rule → ℕ) (n : ℕ) (rs : List Placed) (accepted : Answer) where
  abbrev pub RulesLeft : ℕ → Type 0
  RulesLeft i = first_refused (drop i in_order) first n rs accepted ≡ first_refused in_order first n rs accepted

  module _ (i : ℕ) (w : RulesLeft i) where
    module _ (h : i < 6) (rule : Rule) (p : rule ≡ rule_at i) (k : ℕ) (q : k ≡ first rule) where
      here : drop i in_order ≡ rule ∷ drop (i + 1) in_order
      unfolding in_order rule_at
      here = rw (p, add-one i) (drop-cons in_order i Outlasts h)

      one_more : cond (ltb k n) (Refused (rule_refusal rule) (line_of rs k)) (first_refused (drop (i + 1) in_order) first n rs accepted) ≡ first_refused in_order first n rs accepted
      unfolding first_refused
      one_more = rw q (sym (ap (λ (l : List Rule). first_refused l first n rs accepted) here)) ∙ w

      pub rule-broken : k < n → (x : Refusal) → x ≡ rule_refusal rule → (line : ℕ) → line ≡ line_of rs k → Refused x line ≡ first_refused in_order first n rs accepted
      rule-broken b x d line f = rw (d, f) (rw (lt-ltb k n b) at one_more)

      pub rule-kept : n ≤ k → RulesLeft (i + 1)
      rule-kept b = rw (le-ltb k n b) at one_more

    pub rules-kept : 6 ≤ i → accepted ≡ first_refused in_order first n rs accepted
    unfolding first_refused in_order
    rules-kept h = ap (λ (l : List Rule). first_refused l first n rs accepted) (sym (drop_of_length-le in_order h)) ∙ w

  -- where no rule is broken, none is refused
  pub rules-all-kept : ((rule : Rule) → n ≤ first rule) → accepted ≡ first_refused in_order first n rs accepted
  unfolding first_refused
  rules-all-kept h = go in_order
    where
      go : (l : List Rule) → accepted ≡ first_refused l first n rs accepted
      go [] = refl
      go (rule ∷ l) = rw (le-ltb (first rule) n (h rule)) (go l)

-- ---- SHAPE, and behind it the rules
module _ (e : Edition) (q : Rasters) (file : List ℕ) (n count : ℕ) (rows l : List ℤ) (k : ℕ) (p : k ≡ first_failing e file rows (length l) n) where
  pub shape-fails : k < n → (line : ℕ) → line ≡ line_of (rows_of file) k → Refused Shape line ≡ shapes_asked e q file rows n l (Accepted n count)
  unfolding shapes_asked
  shape-fails h line f = rw (f, ← p, lt-ltb k n h)

  module _ (h : n ≤ k) (l' : List ℤ) (s : l' ≡ samples_laid e file rows n l) (r : Answer) (a : r ≡ rules_asked e q file rows n l' (Accepted n count)) where
    shapes-hold : r ≡ shapes_asked e q file rows n l (Accepted n count)
    unfolding shapes_asked
    shapes-hold = rw (← p, le-ltb k n h, ← s) a

    pub rows-accepted : (rows' : List ℤ) → rows' ≡ filled e q rows n l' rows 0 n → RowsJudged e q file n count rows l r rows' l'
    rows-accepted rows' f = record { answer = shapes-hold; rows = λ y. rw (← s) f; values = λ y. s }

    pub rows-refused : is_accepted r ≡ false → (rows' : List ℤ) → RowsJudged e q file n count rows l r rows' l'
    rows-refused z rows' = record { answer = shapes-hold; rows = λ y. absurd (true≢false (sym y ∙ z)); values = λ y. s }

-- ---- SITE, DUPLICATE, RASTER, and behind them the rest
module _ (again : ℕ) (e : Edition) (file site : List ℕ) (n count : ℕ) (rows l : List ℤ) (b : Bool) (p : b ≡ bad_site e site) where
  pub site-bad : b ≡ true → Refused Site 0 ≡ texts_asked again e file site rows n l (Accepted n count)
  unfolding texts_asked
  site-bad h = rw (← p, h)

  module _ (h : b ≡ false) where
    module _ (line : ℕ) (m : line ≡ again) where
      pub met-again : (line ≡ 0 → ⊥) → Refused Duplicate line ≡ texts_asked again e file site rows n l (Accepted n count)
      unfolding texts_asked
      met-again z = rw (← p, h, ← m, ne_eqb line 0 z)

      module _ (z : line ≡ 0) (q : Rasters) (s : q ≡ rasters_of e file site) (t : Bool) (u : t ≡ lacks e q) where
        pub raster-lacks : t ≡ true → Refused Raster 0 ≡ texts_asked again e file site rows n l (Accepted n count)
        unfolding texts_asked
        raster-lacks y = rw (← p, h, ← m, eq-eqb line 0 z, ← s, ← u, y)

        texts-hold : t ≡ false → shapes_asked e q file rows n l (Accepted n count) ≡ texts_asked again e file site rows n l (Accepted n count)
        unfolding texts_asked
        texts-hold y = rw (← p, h, ← m, eq-eqb line 0 z, ← s, ← u, y)

        pub texts-judged : t ≡ false → {r : Answer} {rows' l' : List ℤ} → RowsJudged e q file n count rows l r rows' l'
            → Judged (texts_asked again e file site rows n l (Accepted n count)) (filled e (rasters_of e file site) rows n (samples_laid e file rows n l) rows 0 n) (samples_laid e file rows n l) r rows' l'
        texts-judged y j = record { answer = j.answer ∙ texts-hold y; rows = λ x. rw (← s) (j.rows x); values = j.values }

-- ---- the rows that were counted are the file's, and they fit where there is room
pub rows-counted : (file : List ℕ) (e : Edition) (n s : ℕ) (defined : Bool) → File e n s defined ≡ scanned_of file → n ≡ length (rows_of file)
rows-counted file e n s defined p = (scanned-ends file e n s defined (sym p)).rows

pub room-enough : (n s room size : ℕ) → lacks_room n s room size ≡ false → n ≤ room / row_width
unfolding lacks_room
room-enough n s room size e = ltb-false (room / row_width) n (or_left _ _ e)

-- where all rows are laid, the table tells what is met again
again-laid : (file : List ℕ) (table : List ℤ) (n : ℕ) → n ≡ length (rows_of file) → n ≤ length table / row_width → duplicate_line file (rows_laid file table) n ≡ duplicate_of file
again-laid file table n p h = rw p (duplicate-laid file table (rw (← p) h))

-- ---- MISSING and ROOM, and behind them the rest
module _ (file site : List ℕ) (table l : List ℤ) where
  pub line-faulty : (fault : Fault) (line : ℕ) → ScannedFault fault line ≡ scanned_of file → (x : Refusal) → x ≡ fault_refusal fault
      → Refused x line ≡ file_asked (scanned_of file) file site table l
  unfolding file_asked
  line-faulty fault line p x q = rw (← p, q)

  module _ (e : Edition) (n s : ℕ) (defined : Bool) (p : File e n s defined ≡ scanned_of file) where
    module _ (block : Bool) (k : block ≡ any_block (rows_of file)) (b : Bool) (q : b ≡ is_missing e block defined) where
      pub block-missing : b ≡ true → Refused Missing 0 ≡ file_asked (scanned_of file) file site table l
      unfolding file_asked
      block-missing h = rw (← p, ← k, ← q, h)

      module _ (h : b ≡ false) (room : ℕ) (m : room ≡ length table) (t : Bool) (u : t ≡ lacks_room n s room (length l)) where
        pub room-lacks : t ≡ true → Refused Room 0 ≡ file_asked (scanned_of file) file site table l
        unfolding file_asked
        room-lacks y = rw (← p, ← k, ← q, h, ← m, ← u, y)

        file-holds : t ≡ false → texts_asked (duplicate_of file) e file site (rows_laid file table) n l (Accepted n s) ≡ file_asked (scanned_of file) file site table l
        unfolding file_asked
        file-holds y = rw (← p, ← k, ← q, h, ← m, ← u, y)

        pub file-judged : t ≡ false → (rows : List ℤ) → rows ≡ rows_laid file table → {r : Answer} {rows' l' : List ℤ}
            → TextsJudged e file site n s rows l r rows' l' → FileJudged file site table l r rows' l'
        unfolding rows_kept samples_kept
        file-judged y rows g j =
            let d = again-laid file table n (rows-counted file e n s defined p) (rw (← m) (room-enough n s room (length l) (sym u ∙ y))) in
            record {
              answer = j.answer ∙ rw (g, d) (file-holds y);
              rows = λ x. rw (← p, ← g) (j.rows x);
              values = λ x. rw (← p, ← g) (j.values x);
            }

  -- ---- BIG, and behind it all the rest
  module _ (b : Bool) (p : b ≡ is_big file site) where
    pub too-big : b ≡ true → Refused Big 0 ≡ asked file site table l
    unfolding asked
    too-big h = rw (← p, h)

    pub all-judged : b ≡ false → {r : Answer} {rows' l' : List ℤ} → FileJudged file site table l r rows' l' → AllJudged file site table l r rows' l'
    unfolding asked
    all-judged h j = record { answer = j.answer ∙ rw (← p, h); rows = j.rows; values = j.values }

-- ---- what the tables hold in the end
if-accepted : (r : Answer) (kept none : List ℤ) → is_accepted r ≡ true → if_accepted r kept none ≡ kept
if-accepted (Ok got) kept none e = refl
if-accepted (Err why) kept none e = absurd (true≢false (sym e))

if-refused : (r : Answer) (kept none : List ℤ) → is_accepted r ≡ false → if_accepted r kept none ≡ none
if-refused (Ok got) kept none e = absurd (true≢false e)
if-refused (Err why) kept none e = refl

module _ (file site : List ℕ) (table l table₁ l₁ table' l' : List ℤ) (p : table₁ ≡ zeros (length table)) (q : l₁ ≡ zeros (length l)) (r : Answer) (j : AllJudged file site table₁ l₁ r table' l') where
  read_answer : r ≡ read_of file site (length table) (length l)
  unfolding read_of
  read_answer = j.answer ∙ rw (p, q)

  pub read-accepted : is_accepted r ≡ true → Reading file site table l r table' l'
  unfolding rows_out samples_out
  read-accepted h =
      record {
        answer = read_answer;
        rows = j.rows h ∙ rw (p, q, ← read_answer) (sym (if-accepted r _ _ h));
        samples = j.values h ∙ rw (p, q, ← read_answer) (sym (if-accepted r _ _ h));
      }

  module _ (h : is_accepted r ≡ false) (table₂ l₂ : List ℤ) (s : table₂ ≡ zeros (length table')) (t : l₂ ≡ zeros (length l')) (x : length table' ≡ length table₁) (y : length l' ≡ length l₁) where
    pub read-refused : length table₁ ≡ length table → length l₁ ≡ length l → Reading file site table l r table₂ l₂
    unfolding rows_out samples_out
    read-refused u v =
        record {
          answer = read_answer;
          rows = s ∙ rw (x, u, ← read_answer) (sym (if-refused r _ _ h));
          samples = t ∙ rw (y, v, ← read_answer) (sym (if-refused r _ _ h));
        }

-- ---- Where nothing is met again, no row repeats an ID of its class
pub none-again-of : (file : List ℕ) (rows : List ℤ) (n : ℕ) {again : ℕ} → n ≤ length (rows_of file) → again ≡ duplicate_line file rows n → again ≡ 0 → NoneAgain rows n
none-again-of file rows n few e z =
    none-again rows n
    (λ k h. ⊎_elim (λ (x : is_again rows k ≡ true). absurd ((duplicate-is file rows n few).none (sym e ∙ z) _ (by_row (record { k = k; there = h; again = x; here = refl })))) (λ x. x) (true-or-false (is_again rows k)))
