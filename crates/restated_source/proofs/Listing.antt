-- The rows of EXTENSIONS in a table of an accepted file, as a target that can say them writes and reads them. Assumes nothing.
use Prim.Native.Nat.{ℕ, suc, ◌+◌, ◌≤◌, ◌<◌}
use mathlib.Core.Bool.{Bool, true, false, cond, true≢false}
use mathlib.Core.List.{List, [], ◌∷◌}
use mathlib.Core.Path.{◌≡◌, refl, sym, ◌∙◌}
use native.Mathlib.Omega.{arith}
use borrow.Author.Tests.{eq-eqb, eqb-false}
use lib.Dec.{eqb}
use lib.IntN.{ℤ, pos}
use lib.ListN.{length}
use Rattle.signed.specs.Signed.{same_z}
use Rattle.print.specs.Printed.{signed_text}
use Rattle.shape.specs.declared.Edition.{Edition}
use Rattle.shape.specs.declared.Edition.TheVariants.{V13, V14}
use Rattle.columns.specs.Columns.{extension_kind, label_kind}
use Rattle.columns.specs.declared.Form.TheVariants.{Entry, Trigger}
use Rattle.columns.proofs.Widths.{row_fits}
use Rattle.heads.specs.Heads.{label_value}
use Rattle.tables.specs.Tables.{number_at}
use Rattle.places.specs.declared.Listed.{Listed}
use Rattle.places.specs.declared.Listed.TheVariants.{Entries}
use Rattle.file.specs.Rows.{Placed, rows_of}
use Rattle.file_tables.specs.Tables.{cells_of}
use Rattle.sayable.specs.Sayable.{is_kind, is_unknown, names_once}
use Rattle.extension_text.specs.Extensions.{has_listed}
use Rattle.restated_laws.proofs.ListedBack.{Listing, list-end, list-other, list-entry, list-extension, list-trigger, list-label}
use Rattle.restated_laws.proofs.TextBack.{ListedFrom, none-listed, some-listed}
use Rattle.restated_source.proofs.Labels.{value_before}
use Rattle.restated_source.proofs.Order.{ReadAt, other_row, entry_row, extension-row, trigger-row, label-row, InOrder, no_rows, one_more, rows-ordered}
use Rattle.restated_source.proofs.Held.{RowHolds, TableHolds, kind-held, is-kind, row_is, own_of, plain-numbers}

-- ---- What a target can say of labels and extensions
module _ (target : Edition) (rows : List ℤ) (count : ℕ) where
  pub record CanSay : Type 0 where
    pub known : (k : ℕ) → k < count → is_unknown rows k ≡ false
    pub no-once : target ≡ V13 → (k : ℕ) → k < count → names_once rows k ≡ false

value-said : (target : Edition) (increment : Bool) (label : ℕ) (field : List ℕ) → (target ≡ V13 → label ≡ 13 → ⊥) → label_value target increment label field ≡ label_value V14 increment label field
value-said V13 increment label field other = value_before increment label field (other refl)
value-said V14 increment label field other = refl

module _ (rows : List ℤ) (k : ℕ) where
  code-some : (code : ℕ) → number_at rows k 0 ≡ pos extension_kind → number_at rows k 2 ≡ pos code → is_unknown rows k ≡ false → 1 ≤ code
  unfolding is_unknown is_kind same_z
  code-some code e c u = let f : eqb code 0 ≡ false = rw (e, c) at u in let g = eqb-false code 0 f in omega arith

  not-once : (label : ℕ) → number_at rows k 0 ≡ pos label_kind → number_at rows k 4 ≡ pos label → names_once rows k ≡ false → label ≡ 13 → ⊥
  unfolding names_once is_kind same_z
  not-once label e c u q = true≢false (sym (eq-eqb label 13 q) ∙ (rw (e, c) at u))

-- ---- From a file's rows to the lines that say them
module _ (target : Edition) (rows : List ℤ) (count : ℕ) (can : CanSay target rows count) where
  record Lines (listed : Listed) (n k m : ℕ) : Type 0 where
    rs : List Placed
    last : Listed
    end : ℕ
    listing : Listing target rows listed n k m rs last end

  lines : {listed last : Listed} {n k m end : ℕ} {rs : List Placed} → Listing target rows listed n k m rs last end → Lines listed n k m
  lines x = record { rs = _; last = _; end = _; listing = x }

  one-row : {listed behind : Listed} {cells : List ℤ} → ReadAt listed cells behind → (n k m : ℕ) → k < count → RowHolds rows k cells → ((l : ℕ) → Lines behind l (suc k) m)
      → Lines listed n k (suc m)
  one-row {cells = cells} (other_row f) n k m h held rest =
      let other : (kind : ℕ) → 7 ≤ kind → kind ≤ 10 → is_kind rows k (pos kind) ≡ false = λ kind a b. unfold is_kind in rw (kind-held rows k cells held) (f kind a b) in
      lines (list-other (other 7 (omega arith) (omega arith)) (other 8 (omega arith) (omega arith)) (other 9 (omega arith) (omega arith)) (other 10 (omega arith) (omega arith)) (rest n).listing)
  one-row (entry_row vs r) n k m h held rest =
      let w = row_is rows k 7 vs (row_fits V14 Entry r) held in
      lines (list-entry (is-kind rows k 7 w.kind-is 7) (plain-numbers V14 target rows k Entry refl vs r w) (rest (suc n)).listing)
  one-row (extension-row type code a b c) n k m h held rest =
      let w = row_is rows k 8 (pos type ∷ pos code ∷ []) (omega arith) held in
      let kind = is-kind rows k 8 w.kind-is in
      let own = own_of w (λ (e : 8 ≡ 1). omega arith) in
      let two = own 1 (omega arith) in
      lines (list-extension type code (kind 7) (kind 8) (own 0 (omega arith)) two a b (code-some rows k code w.kind-is two (can.known k h)) c (rest (suc n)).listing)
  one-row (trigger-row vs r) n k m h held rest =
      let w = row_is rows k 9 vs (row_fits V14 Trigger r) held in
      let kind = is-kind rows k 9 w.kind-is in
      lines (list-trigger (kind 7) (kind 8) (kind 9) (plain-numbers V14 target rows k Trigger refl vs r w) (rest (suc n)).listing)
  one-row (label-row increment id label v a b c d g value) n k m h held rest =
      let w = row_is rows k 10 (pos id ∷ pos (cond increment 1 0) ∷ v ∷ pos label ∷ []) (omega arith) held in
      let kind = is-kind rows k 10 w.kind-is in
      let own = own_of w (λ (e : 10 ≡ 1). omega arith) in
      let four = own 3 (omega arith) in
      let other : target ≡ V13 → label ≡ 13 → ⊥ = λ e. not-once rows k label w.kind-is four (can.no-once e k h) in
      lines
      (list-label increment id label v (kind 7) (kind 8) (kind 9) (kind 10) (own 0 (omega arith)) (own 1 (omega arith)) (own 2 (omega arith)) four a b c d g
      (value-said target increment label (signed_text v) other ∙ value) (rest (suc n)).listing)

  all-rows : {listed : Listed} {rs : List Placed} → InOrder listed rs → (n k : ℕ) → k + length rs ≤ count → ((j : ℕ) → j < length rs → RowHolds rows (k + j) (cells_of rs j))
      → Lines listed n k (length rs)
  unfolding cells_of
  all-rows no_rows n k h held = record { rs = []; last = _; end = n; listing = list-end }
  all-rows (one_more {rs = rs} x t) n k h held =
      let here : k + 0 ≡ k = omega arith in
      one-row x n k (length rs) (omega arith) (rw here at (held 0 (omega arith)))
      (λ l. all-rows t l (suc k) (omega arith) (λ j (g : j < length rs). let next : k + suc j ≡ suc k + j = omega arith in rw next at (held (suc j) (omega arith))))

-- ---- EXTENSIONS of a restated text, from line n on
pub record SomeListed (target : Edition) (rows : List ℤ) (count n : ℕ) : Type 0 where
  pub rs : List Placed
  pub some : Bool
  pub last : Listed
  pub end : ℕ
  pub listed : ListedFrom target rows count n rs some last end

pub listed-from : (target : Edition) (file : List ℕ) (rows : List ℤ) → TableHolds rows (rows_of file) → CanSay target rows (length (rows_of file)) → (n : ℕ)
    → SomeListed target rows (length (rows_of file)) n
listed-from target file rows held can n = go (has_listed rows (length (rows_of file))) refl
  where
    go : (b : Bool) → has_listed rows (length (rows_of file)) ≡ b → SomeListed target rows (length (rows_of file)) n
    go true e =
        let x = all-rows target rows (length (rows_of file)) can (rows-ordered file) (suc n) 0 (omega arith) (λ j h. let here : 0 + j ≡ j = omega arith in rw here (held j h)) in
        record { rs = x.rs; some = true; last = x.last; end = suc x.end; listed = some-listed e x.listing }
    go false e = record { rs = []; some = false; last = Entries; end = n; listed = none-listed e }
