-- No word of a restated text is met again, where no key is said twice and no two rows of extensions have one code. Assumes nothing.
use Prim.Native.Nat.{ℕ, zero, suc, ◌+◌, ◌≤◌, ◌<◌}
use mathlib.Core.Bool.{Bool, true, false, cond}
use mathlib.Core.List.{List, [], ◌∷◌, ◌++◌, append-nil}
use mathlib.Core.Path.{◌≡◌, refl, sym, ap, subst, ◌∙◌}
use native.Mathlib.Omega.{arith}
use lib.IntN.{ℤ, pos, nat_abs}
use lib.ListN.{length, get_or}
use Rattle.text.specs.Words.{same_bytes, place_of}
use Rattle.text.proofs.Lines.{or_left, or_right}
use Rattle.text.proofs.Words.{same_false}
use Rattle.shape.specs.declared.Edition.{Edition}
use Rattle.columns.specs.Columns.{form_number, extension_kind, label_kind, shape_kind}
use Rattle.columns.specs.Rows.{padded}
use Rattle.columns.specs.declared.Form.{Form}
use Rattle.columns.specs.declared.Form.TheVariants.{Entry, Trigger}
use Rattle.heads.specs.Heads.{extension_names}
use Rattle.tables.specs.Tables.{number_at}
use Rattle.places.specs.declared.Listed.{Listed}
use Rattle.places.specs.declared.State.{State}
use Rattle.file.specs.Rows.{Placed, rows_of}
use Rattle.file_laws.proofs.Padded.{own-number}
use Rattle.definitions.specs.Definitions.{Definition, definitions_of, is_named, repeats}
use Rattle.duplicates.specs.declared.Sort.TheVariants.{Key, Name}
use Rattle.duplicates.specs.Words.{Word, sort_number, words_of}
use Rattle.duplicates.specs.Again.{word_no, WordAgain}
use Rattle.sayable.specs.Sayable.{is_kind}
use Rattle.restated.specs.Text.{restated_text}
use Rattle.restated_laws.proofs.ListedBack.{Listing, list-end, list-other, list-entry, list-extension, list-trigger, list-label}
use Rattle.restated_laws.proofs.ShapeBack.{behind_shape, shapes_given}
use Rattle.restated_laws.proofs.DefinedBack.{numbered}
use Rattle.restated_laws.proofs.DefinedSection.{said_definitions}
use Rattle.restated_laws.proofs.TextBack.{ListedFrom, none-listed, some-listed, delays_end, first-append, Readable}
use Rattle.restated_laws.proofs.WholeBack.{restated-rows, restated-definitions}
use Rattle.restated_shapes.proofs.Front.{AllCells, no_cells, more-cells, no-extension, first-all}
use Rattle.restated_shapes.proofs.Naming.{Names, names-none, names_key, names-name, names-other, names_of, NoCode, no_code, kind-no-code}

-- ---- Rows that have another code, and rows of which no two have the same
abbrev OtherCode : ℕ → List ℤ → Type 0
OtherCode code cells = get_or cells 0 (pos 0) ≡ pos extension_kind → get_or cells 2 (pos 0) ≡ pos code → ⊥

data CodesApart : List Placed → Type 0 where
  none_apart : CodesApart []
  more-apart : {r : Placed} {rs : List Placed}
      → ((code : ℕ) → get_or r.cells 0 (pos 0) ≡ pos extension_kind → get_or r.cells 2 (pos 0) ≡ pos code → AllCells (OtherCode code) rs) → CodesApart rs → CodesApart (r ∷ rs)

-- ---- No word is met again where no key and no code is
other-sort : Key ≡ Name → ⊥
other-sort e = let z : sort_number Key ≡ sort_number Name = ap sort_number e in omega arith

module _ (name : List ℕ) where
  name-absent : {ws : List Word} {ds : List Definition} {rs : List Placed} → Names ws ds rs → AllCells (OtherCode (place_of extension_names name)) rs → (j : ℕ) → j < length ws
      → (word_no ws j).sort ≡ Name → (word_no ws j).word ≡ name → ⊥
  name-absent names-none a j l s w = absurd (omega arith)
  name-absent (names_key n key value x) a zero l s w = other-sort s
  name-absent (names_key n key value x) a (suc j) l s w = name-absent x a j (omega arith) s w
  name-absent (names-name n own r c x) (more-cells p a) zero l s w = p c.kind (rw (← w) c.code)
  name-absent (names-name n own r c x) (more-cells p a) (suc j) l s w = name-absent x a j (omega arith) s w
  name-absent (names-other r o x) (more-cells p a) j l s w = name-absent x a j l s w

module _ (key : List ℕ) where
  key-absent : {ws : List Word} {ds : List Definition} {rs : List Placed} → Names ws ds rs → is_named key ds ≡ false → (j : ℕ) → j < length ws → (word_no ws j).sort ≡ Key
      → (word_no ws j).word ≡ key → ⊥
  unfolding is_named
  key-absent names-none a j l s w = absurd (omega arith)
  key-absent (names_key n own value {ds = ds} x) a zero l s w = same_false own key (or_left (same_bytes own key) (is_named key ds) a) w
  key-absent (names_key n own value {ds = ds} x) a (suc j) l s w = key-absent x (or_right (same_bytes own key) (is_named key ds) a) j (omega arith) s w
  key-absent (names-name n name r c x) a zero l s w = other-sort (sym s)
  key-absent (names-name n name r c x) a (suc j) l s w = key-absent x a j (omega arith) s w
  key-absent (names-other r o x) a j l s w = key-absent x a j l s w

names-once : {ws : List Word} {ds : List Definition} {rs : List Placed} → Names ws ds rs → repeats ds ≡ false → CodesApart rs → (i j : ℕ) → i < j → j < length ws
    → (word_no ws j).sort ≡ (word_no ws i).sort → (word_no ws j).word ≡ (word_no ws i).word → ⊥
unfolding repeats
names-once names-none d a i j l m s w = absurd (omega arith)
names-once (names_key n key value x) d a i zero l m s w = absurd (omega arith)
names-once (names_key n key value {ds = ds} x) d a zero (suc j) l m s w = key-absent key x (or_left (is_named key ds) (repeats ds) d) j (omega arith) s w
names-once (names_key n key value {ds = ds} x) d a (suc i) (suc j) l m s w = names-once x (or_right (is_named key ds) (repeats ds) d) a i j (omega arith) (omega arith) s w
names-once (names-name n name r c x) d (more-apart p a) i zero l m s w = absurd (omega arith)
names-once (names-name n name r c x) d (more-apart p a) zero (suc j) l m s w = name-absent name x (p (place_of extension_names name) c.kind c.code) j (omega arith) s w
names-once (names-name n name r c x) d (more-apart p a) (suc i) (suc j) l m s w = names-once x d a i j (omega arith) (omega arith) s w
names-once (names-other r o x) d (more-apart p a) i j l m s w = names-once x d a i j l m s w

none-again : (file : List ℕ) → repeats (definitions_of file) ≡ false → CodesApart (rows_of file) → (line : ℕ) → WordAgain (words_of file) line → ⊥
none-again file d a line g = names-once (names_of file) d a g.i g.j g.before g.there g.sort g.word

-- ---- Definitions keep their keys where their lines are numbered
named-numbered : (key : List ℕ) (n : ℕ) (ds : List Definition) → is_named key (numbered n ds) ≡ is_named key ds
unfolding is_named numbered
named-numbered key n [] = refl
named-numbered key n (d ∷ ds) = rw (named-numbered key (suc n) ds)

repeats-numbered : (n : ℕ) (ds : List Definition) → repeats (numbered n ds) ≡ repeats ds
unfolding repeats numbered
repeats-numbered n [] = refl
repeats-numbered n (d ∷ ds) = rw (named-numbered d.key (suc n) ds, repeats-numbered (suc n) ds)

-- ---- Rows without codes stand apart, and so do others behind them
front-other : {r : Placed} {rs : List Placed} {code : ℕ} → NoCode r.cells → AllCells (OtherCode code) rs → AllCells (OtherCode code) (r ∷ rs)
front-other {r} p a = more-cells (λ k c. no_code r.cells p k) a

front-apart : {r : Placed} {rs : List Placed} → NoCode r.cells → CodesApart rs → CodesApart (r ∷ rs)
front-apart {r} p a = more-apart (λ code k c. absurd (no_code r.cells p k)) a

other-codes : {rs : List Placed} → AllCells NoCode rs → (code : ℕ) → AllCells (OtherCode code) rs
other-codes no_cells code = no_cells
other-codes (more-cells p a) code = front-other p (other-codes a code)

apart-then : {rs ss : List Placed} → AllCells NoCode rs → CodesApart ss → CodesApart (rs ++ ss)
apart-then no_cells b = b
apart-then (more-cells p a) b = front-apart p (apart-then a b)

apart-all : {rs : List Placed} → AllCells NoCode rs → CodesApart rs
apart-all {rs} a = rw (append-nil rs) at (apart-then a none_apart)

columns-no-code : (form : Form) (vs : List ℤ) → NoCode (padded (form_number form) vs)
columns-no-code form vs = kind-no-code (form_number form) vs (no-extension form)

-- ---- No two of the rows of extensions have one code: those of EXTENSIONS, and rows without codes behind them
abbrev pub CodesOnce : List ℤ → ℕ → Type 0
CodesOnce rows count =
    (i j code : ℕ) → i < count → j < count → is_kind rows i (pos extension_kind) ≡ true → is_kind rows j (pos extension_kind) ≡ true → 1 ≤ code → number_at rows i 2 ≡ pos code → number_at rows j 2 ≡ pos code
    → i ≡ j

said-code : (type own code : ℕ) → get_or (padded extension_kind (pos type ∷ pos own ∷ [])) 2 (pos 0) ≡ pos code → own ≡ code
said-code type own code c = ap nat_abs (sym (own-number extension_kind (pos type ∷ pos own ∷ []) (omega arith) 1) ∙ c)

module _ (type own : ℕ) {n : ℕ} {rs : List Placed} where
  extension-other : (code : ℕ) → (own ≡ code → ⊥) → AllCells (OtherCode code) rs → AllCells (OtherCode code) (record { line = n; cells = padded extension_kind (pos type ∷ pos own ∷ []) } ∷ rs)
  extension-other code o a = more-cells (λ k c. o (said-code type own code c)) a

  extension-apart : AllCells (OtherCode own) rs → CodesApart rs → CodesApart (record { line = n; cells = padded extension_kind (pos type ∷ pos own ∷ []) } ∷ rs)
  extension-apart a b = more-apart (λ code k c. subst (λ (w : ℕ). AllCells (OtherCode w) rs) (said-code type own code c) a) b

module _ (rows : List ℤ) {ss : List Placed} (none : AllCells NoCode ss) where
  -- none of m rows from row k on has this code
  abbrev NoneHas : ℕ → ℕ → ℕ → Type 0
  NoneHas code k m = (j : ℕ) → k ≤ j → j < k + m → is_kind rows j (pos extension_kind) ≡ true → number_at rows j 2 ≡ pos code → ⊥

  later : (code k m : ℕ) → NoneHas code k (suc m) → NoneHas code (suc k) m
  later code k m f j g h = f j (omega arith) (omega arith)

  listing-other : {e : Edition} {listed last : Listed} {n k m end : ℕ} {rs : List Placed} → Listing e rows listed n k m rs last end → (code : ℕ) → NoneHas code k m → AllCells (OtherCode code) (rs ++ ss)
  listing-other list-end code f = other-codes none code
  listing-other (list-other {k = k} {m = m} a b c d x) code f = listing-other x code (later code k m f)
  listing-other (list-entry {k = k} {m = m} a r x) code f = front-other (columns-no-code Entry _) (listing-other x code (later code k m f))
  listing-other (list-extension {k = k} {m = m} type own a b t c l u o v x) code f =
      extension-other type own code (λ (e : own ≡ code). f k (omega arith) (omega arith) b (c ∙ ap pos e)) (listing-other x code (later code k m f))
  listing-other (list-trigger {k = k} {m = m} a b c r x) code f = front-other (columns-no-code Trigger _) (listing-other x code (later code k m f))
  listing-other (list-label {k = k} {m = m} increment id label v a b c d i r w y l u g o h value x) code f = front-other (kind-no-code label_kind _ refl) (listing-other x code (later code k m f))

  module _ (count : ℕ) (once : CodesOnce rows count) where
    listing-apart : {e : Edition} {listed last : Listed} {n k m end : ℕ} {rs : List Placed} → Listing e rows listed n k m rs last end → k + m ≤ count → CodesApart (rs ++ ss)
    listing-apart list-end f = apart-all none
    listing-apart (list-other a b c d x) f = listing-apart x (omega arith)
    listing-apart (list-entry a r x) f = front-apart (columns-no-code Entry _) (listing-apart x (omega arith))
    listing-apart (list-extension {k = k} {m = m} type own a b t c l u o v x) f =
        extension-apart type own
        (listing-other x own (λ j (g : suc k ≤ j) (h : j < suc k + m) i d. let y : k ≡ j = once k j own (omega arith) (omega arith) b i o c d in absurd (omega arith)))
        (listing-apart x (omega arith))
    listing-apart (list-trigger a b c r x) f = front-apart (columns-no-code Trigger _) (listing-apart x (omega arith))
    listing-apart (list-label increment id label v a b c d i r w y l u g o h value x) f = front-apart (kind-no-code label_kind _ refl) (listing-apart x (omega arith))

    listed-apart : {target : Edition} {n end : ℕ} {rs : List Placed} {b : Bool} {last : Listed} → ListedFrom target rows count n rs b last end → CodesApart (rs ++ ss)
    listed-apart (none-listed h) = apart-all none
    listed-apart (some-listed h x) = listing-apart x (omega arith)

shapes-no-code : (target : Edition) (rows samples : List ℤ) (st : State) (n k m : ℕ) → AllCells NoCode (shapes_given target rows samples st n k m)
unfolding shapes_given
shapes-no-code target rows samples st n k zero = no_cells
shapes-no-code target rows samples st n k (suc m) =
    go (is_kind rows k (pos shape_kind)) _ (kind-no-code shape_kind _ refl) (shapes-no-code target rows samples (behind_shape st (nat_abs (number_at rows k 2))) _ (suc k) m) (shapes-no-code target rows samples st n (suc k) m)
  where
    go : (b : Bool) (r : Placed) → NoCode r.cells → {rs ss : List Placed} → AllCells NoCode rs → AllCells NoCode ss → AllCells NoCode (cond b (r ∷ rs) ss)
    go true r p x y = more-cells p x
    go false r p x y = y

-- ---- A restated text
module _ (target : Edition) (raster : ℕ) (file site : List ℕ) (rows : List ℤ) (count : ℕ) (samples : List ℤ) where
  pub words-once : (r : Readable target raster file site rows count samples) {rs : List Placed} {b : Bool} {last : Listed} {end : ℕ}
      → ListedFrom target rows count (delays_end target raster file site rows count samples) rs b last end → repeats (said_definitions target file site) ≡ false → CodesOnce rows count
      → (line : ℕ) → WordAgain (words_of (restated_text target raster file site rows count samples)) line → ⊥
  words-once r {rs} x keys once =
      none-again (restated_text target raster file site rows count samples)
      (rw (restated-definitions target raster file site rows count samples r x) (repeats-numbered 7 (said_definitions target file site) ∙ keys))
      (rw (restated-rows target raster file site rows count samples r x, first-append target raster file site rows count samples [])
      (apart-then (first-all columns-no-code target raster file site rows count samples no_cells) (listed-apart rows (shapes-no-code target rows samples _ _ 0 count) count once x)))
