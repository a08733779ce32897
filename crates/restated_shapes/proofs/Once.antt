-- Where nothing is met again in a file, no key is said twice in its restated text, and no two of its rows of extensions have one known code. Assumes
-- nothing.
use Prim.Native.Nat.{ℕ, zero, suc, ◌≤◌, ◌<◌}
use mathlib.Core.Bool.{Bool, true, false, cond, ◌||◌, and-false, true≢false}
use mathlib.Core.List.{List, [], ◌∷◌, ◌++◌}
use mathlib.Core.Path.{◌≡◌, refl, sym, ap, ◌∙◌}
use native.Mathlib.Omega.{arith}
use borrow.Author.Tests.{eqb-true}
use lib.Dec.{eqb}
use lib.IntN.{ℤ, pos, nat_abs}
use lib.ListN.{length, get_or}
use Rattle.text.specs.Words.{same_bytes, place_from, place_of}
use Rattle.text.proofs.Lines.{or_left, or_right}
use Rattle.text.proofs.Words.{same_refl, same_true, same_false}
use Rattle.signed.proofs.Sign.{same_z-true}
use Rattle.unit.specs.declared.Rasters.{Rasters}
use Rattle.shape.specs.declared.Edition.{Edition}
use Rattle.shape.specs.declared.Edition.TheVariants.{V13, V14}
use Rattle.columns.specs.Columns.{extension_kind}
use Rattle.heads.specs.Heads.{extension_names}
use Rattle.tables.specs.Tables.{number_at}
use Rattle.file.specs.Rows.{Placed, rows_of}
use Rattle.file_tables.specs.Tables.{cells_of}
use Rattle.definitions.specs.Definitions.{Definition, definitions_of, site_definitions, is_named, repeats, sought}
use Rattle.rasters.specs.Rasters.{gradient_key, rf_key, adc_key, block_key}
use Rattle.duplicates.specs.declared.Sort.{Sort}
use Rattle.duplicates.specs.declared.Sort.TheVariants.{Key, Name}
use Rattle.duplicates.specs.Words.{Word, words_of}
use Rattle.duplicates.specs.Again.{word_no, WordAgain}
use Rattle.repeats.specs.Once.{Twice, by_word}
use Rattle.demands.specs.Keeping.{RowsHeld}
use Rattle.sayable.specs.Sayable.{is_kind}
use Rattle.restated_laws.proofs.DefinedBack.{AllDefining, none-defined, one-defined}
use Rattle.restated_laws.proofs.DefinedSection.{absent_of, added_of, said_definitions}
use Rattle.restated_laws.proofs.DefinedFound.{file-defining}
use Rattle.restated_shapes.proofs.Naming.{Names, names-none, names_key, names-name, names-other, names_of, NoCode, no_code}
use Rattle.restated_shapes.proofs.Words.{CodesOnce}

-- ---- Words of which none is met again: none of those behind a word is the same
abbrev NoWordAgain : List Word → Type 0
NoWordAgain ws = (line : ℕ) → WordAgain ws line → ⊥

-- a word of a sort for which something holds
record Met (sort : Sort) (Such : List ℕ → Type 0) (ws : List Word) : Type 0 where
  at : ℕ
  there : at < length ws
  is-of : (word_no ws at).sort ≡ sort
  such : Such (word_no ws at).word

met-behind : {sort : Sort} {Such : List ℕ → Type 0} {w : Word} {ws : List Word} → Met sort Such ws → Met sort Such (w ∷ ws)
met-behind m = let t = m.there in record { at = suc m.at; there = omega arith; is-of = m.is-of; such = m.such }

none-behind : {w : Word} {ws : List Word} → NoWordAgain (w ∷ ws) → NoWordAgain ws
none-behind a line g =
    let b = g.before in
    let t = g.there in
    a line (record { i = suc g.i; j = suc g.j; before = omega arith; there = omega arith; sort = g.sort; word = g.word; here = g.here })

none_first : {w : Word} {ws : List Word} → NoWordAgain (w ∷ ws) → Met w.sort (λ v. v ≡ w.word) ws → ⊥
none_first {w} {ws} a m =
    let t = m.there in
    a (word_no ws m.at).line (record { i = 0; j = suc m.at; before = omega arith; there = omega arith; sort = m.is-of; word = m.such; here = refl })

-- ---- Keys: no definition has the key of one before it
key-met : (key : List ℕ) {ws : List Word} {ds : List Definition} {rs : List Placed} → Names ws ds rs → is_named key ds ≡ true → Met Key (λ w. w ≡ key) ws
unfolding is_named
key-met key names-none e = absurd (true≢false (sym e))
key-met key (names_key n own value {ws = ws} {ds = ds} x) e = go (same_bytes own key) refl e (λ f. key-met key x f)
  where
    go : (b : Bool) → same_bytes own key ≡ b → b || is_named key ds ≡ true → (is_named key ds ≡ true → Met Key (λ w. w ≡ key) ws)
        → Met Key (λ w. w ≡ key) (record { line = n; sort = Key; word = own } ∷ ws)
    go true s f r = record { at = 0; there = omega arith; is-of = refl; such = same_true own key s }
    go false s f r = met-behind (r f)
key-met key (names-name n name r c x) e = met-behind (key-met key x e)
key-met key (names-other r o x) e = key-met key x e

keys-apart : {ws : List Word} {ds : List Definition} {rs : List Placed} → Names ws ds rs → NoWordAgain ws → repeats ds ≡ false
unfolding repeats
keys-apart names-none a = refl
keys-apart (names_key n key value {ds = ds} x) a = go (is_named key ds) refl (keys-apart x (none-behind a))
  where
    go : (b : Bool) → is_named key ds ≡ b → repeats ds ≡ false → b || repeats ds ≡ false
    go true e f = absurd (none_first a (key-met key x e))
    go false e f = f
keys-apart (names-name n name r c x) a = keys-apart x (none-behind a)
keys-apart (names-other r o x) a = keys-apart x a

-- ---- Codes: a name is known by its place, if it has one
place-low : (n : ℕ) (vs : List (List ℕ)) (w : List ℕ) → 1 ≤ place_from n vs w → n < place_from n vs w
unfolding place_from
place-low n [] w l = absurd (omega arith)
place-low n (v ∷ vs) w l = go (same_bytes v w) l (place-low (suc n) vs w)
  where
    go : (b : Bool) → 1 ≤ cond b (suc n) (place_from (suc n) vs w) → (1 ≤ place_from (suc n) vs w → suc n < place_from (suc n) vs w) → n < cond b (suc n) (place_from (suc n) vs w)
    go true h f = omega arith
    go false h f = let g = f h in omega arith

place-known : (n : ℕ) (vs : List (List ℕ)) (a b : List ℕ) → 1 ≤ place_from n vs a → place_from n vs a ≡ place_from n vs b → a ≡ b
unfolding place_from
place-known n [] a b l e = absurd (omega arith)
place-known n (v ∷ vs) a b l e = go (same_bytes v a) refl (same_bytes v b) refl l e (λ h f. place-known (suc n) vs a b h f)
  where
    low : (w : List ℕ) → suc n ≡ place_from (suc n) vs w → ⊥
    low w q = let g = place-low (suc n) vs w (omega arith) in omega arith

    go : (c : Bool) → same_bytes v a ≡ c → (d : Bool) → same_bytes v b ≡ d → 1 ≤ cond c (suc n) (place_from (suc n) vs a)
        → cond c (suc n) (place_from (suc n) vs a) ≡ cond d (suc n) (place_from (suc n) vs b)
        → (1 ≤ place_from (suc n) vs a → place_from (suc n) vs a ≡ place_from (suc n) vs b → a ≡ b) → a ≡ b
    go true p true q h f r = sym (same_true v a p) ∙ same_true v b q
    go true p false q h f r = absurd (low b f)
    go false p true q h f r = absurd (low a (sym f))
    go false p false q h f r = r h f

-- row k is of an extension with this code
pub record CodeAt (rs : List Placed) (k code : ℕ) : Type 0 where
  pub there : k < length rs
  pub kind : get_or (cells_of rs k) 0 (pos 0) ≡ pos extension_kind
  pub number : get_or (cells_of rs k) 2 (pos 0) ≡ pos code

code-behind : {r : Placed} {rs : List Placed} {k code : ℕ} → CodeAt (r ∷ rs) (suc k) code → CodeAt rs k code
unfolding cells_of
code-behind c = let t = c.there in record { there = omega arith; kind = c.kind; number = c.number }

module _ (code : ℕ) where
  none_here : {r : Placed} {rs : List Placed} → NoCode r.cells → CodeAt (r ∷ rs) 0 code → ⊥
  unfolding cells_of
  none_here {r} o c = no_code r.cells o c.kind

  own_code : (name : List ℕ) {r : Placed} {rs : List Placed} → get_or r.cells 2 (pos 0) ≡ pos (place_of extension_names name) → CodeAt (r ∷ rs) 0 code → place_of extension_names name ≡ code
  unfolding cells_of
  own_code name n c = ap nat_abs (sym n ∙ c.number)

  name-met : {ws : List Word} {ds : List Definition} {rs : List Placed} → Names ws ds rs → (k : ℕ) → CodeAt rs k code → Met Name (λ w. place_of extension_names w ≡ code) ws
  name-met names-none k c = let t = c.there in absurd (omega arith)
  name-met (names_key n key value x) k c = met-behind (name-met x k c)
  name-met (names-name n name r d x) zero c = record { at = 0; there = omega arith; is-of = refl; such = own_code name d.code c }
  name-met (names-name n name r d x) (suc k) c = met-behind (name-met x k (code-behind c))
  name-met (names-other r o x) zero c = absurd (none_here o c)
  name-met (names-other r o x) (suc k) c = name-met x k (code-behind c)

  module _ (known : 1 ≤ code) where
    name-first : {n : ℕ} {name : List ℕ} {ws : List Word} → NoWordAgain (record { line = n; sort = Name; word = name } ∷ ws) → place_of extension_names name ≡ code
        → Met Name (λ w. place_of extension_names w ≡ code) ws → ⊥
    name-first {name = name} {ws = ws} a e m =
        none_first a (record { at = m.at; there = m.there; is-of = m.is-of; such = place-known 0 extension_names (word_no ws m.at).word name (rw m.such known) (m.such ∙ sym e) })

    codes-apart : {ws : List Word} {ds : List Definition} {rs : List Placed} → Names ws ds rs → NoWordAgain ws → (i j : ℕ) → CodeAt rs i code → CodeAt rs j code → i ≡ j
    codes-apart names-none a i j c d = let t = c.there in absurd (omega arith)
    codes-apart (names_key n key value x) a i j c d = codes-apart x (none-behind a) i j c d
    codes-apart (names-name n name r y x) a zero zero c d = refl
    codes-apart (names-name n name r y x) a zero (suc j) c d = absurd (name-first a (own_code name y.code c) (name-met x j (code-behind d)))
    codes-apart (names-name n name r y x) a (suc i) zero c d = absurd (name-first a (own_code name y.code d) (name-met x i (code-behind c)))
    codes-apart (names-name n name r y x) a (suc i) (suc j) c d = ap suc (codes-apart x (none-behind a) i j (code-behind c) (code-behind d))
    codes-apart (names-other r o x) a zero j c d = absurd (none_here o c)
    codes-apart (names-other r o x) a (suc i) zero c d = absurd (none_here o d)
    codes-apart (names-other r o x) a (suc i) (suc j) c d = ap suc (codes-apart x a i j (code-behind c) (code-behind d))

-- ---- A definition that is added has a key that the file's own lack, and all added keys are different
unnamed : (key : List ℕ) {ds : List Definition} → AllDefining ds → length (sought key ds) ≡ 0 → is_named key ds ≡ false
unfolding sought is_named
unnamed key none-defined e = refl
unnamed key (one-defined {d} {ds} x q) e = go (same_bytes d.key key) e (λ f. unnamed key q f)
  where
    go : (b : Bool) → length (cond b d.value (sought key ds)) ≡ 0 → (length (sought key ds) ≡ 0 → is_named key ds ≡ false) → b || is_named key ds ≡ false
    go true f r = let w = x.worth in absurd (omega arith)
    go false f r = r f

named-append : (key : List ℕ) (ds es : List Definition) → is_named key ds ≡ false → is_named key es ≡ false → is_named key (ds ++ es) ≡ false
unfolding is_named
named-append key [] es p q = q
named-append key (d ∷ ds) es p q = rw (or_left (same_bytes d.key key) (is_named key ds) p) (named-append key ds es (or_right (same_bytes d.key key) (is_named key ds) p) q)

repeats-append : (ds es : List Definition) → repeats ds ≡ false → repeats es ≡ false → ((key : List ℕ) → is_named key ds ≡ true → is_named key es ≡ false) → repeats (ds ++ es) ≡ false
unfolding repeats is_named
repeats-append [] es p q f = q
repeats-append (d ∷ ds) es p q f =
    rw (named-append d.key ds es (or_left (is_named d.key ds) (repeats ds) p) (f d.key (rw (same_refl d.key))))
    (repeats-append ds es (or_right (is_named d.key ds) (repeats ds) p) q (λ key e. f key (either (same_bytes d.key key) e)))
  where
    either : (b : Bool) {c : Bool} → c ≡ true → b || c ≡ true
    either true e = refl
    either false e = e

module _ (own site : List Definition) where
  absent-one : (k : List ℕ) → repeats (absent_of own site k) ≡ false
  unfolding absent_of repeats is_named
  absent-one k = go (eqb (length (sought k own)) 0)
    where
      go : (b : Bool) → repeats (cond b (record { line = 0; key = k; value = sought k site } ∷ []) []) ≡ false
      go true = refl
      go false = refl

  -- what it may be named
  absent-named : (k key : List ℕ) → is_named key (absent_of own site k) ≡ true → (length (sought k own) ≡ 0) × (k ≡ key)
  unfolding absent_of is_named
  absent-named k key = go (eqb (length (sought k own)) 0) refl (same_bytes k key) refl
    where
      go : (b : Bool) → eqb (length (sought k own)) 0 ≡ b → (c : Bool) → same_bytes k key ≡ c → is_named key (cond b (record { line = 0; key = k; value = sought k site } ∷ []) []) ≡ true
          → (length (sought k own) ≡ 0) × (k ≡ key)
      go true p true q e = (eqb-true (length (sought k own)) 0 p, same_true k key q)
      go true p false q e = absurd (true≢false (sym e ∙ rw q))
      go false p c q e = absurd (true≢false (sym e))

  absent-not : (k key : List ℕ) → ((length (sought k own) ≡ 0) × (k ≡ key) → ⊥) → is_named key (absent_of own site k) ≡ false
  absent-not k key n = go (is_named key (absent_of own site k)) refl
    where
      go : (b : Bool) → is_named key (absent_of own site k) ≡ b → b ≡ false
      go true e = absurd (n (absent-named k key e))
      go false e = refl

  -- two different keys, and a key that the file has
  two-apart : (j k : List ℕ) → same_bytes k j ≡ false → (key : List ℕ) → is_named key (absent_of own site j) ≡ true → is_named key (absent_of own site k) ≡ false
  two-apart j k o key e = absent-not k key (λ p. same_false k j o (p.1 ∙ sym (absent-named j key e).1))

  own-apart : AllDefining own → (k key : List ℕ) → is_named key own ≡ true → is_named key (absent_of own site k) ≡ false
  own-apart all k key e = absent-not k key (λ p. true≢false (sym e ∙ unnamed key all (ap (λ (w : List ℕ). length (sought w own)) (sym p.1) ∙ p.0)))

  added-once : (target : Edition) → repeats (added_of target own site) ≡ false
  unfolding added_of gradient_key rf_key adc_key block_key same_bytes
  added-once V13 = unfold repeats in refl
  added-once V14 =
      repeats-append (absent_of own site gradient_key) _ (absent-one gradient_key)
      (repeats-append (absent_of own site rf_key) _ (absent-one rf_key)
      (repeats-append (absent_of own site adc_key) _ (absent-one adc_key) (absent-one block_key) (two-apart adc_key block_key refl))
      (λ key e. named-append key (absent_of own site adc_key) _ (two-apart rf_key adc_key refl key e) (two-apart rf_key block_key refl key e)))
      (λ key e. named-append key (absent_of own site rf_key) _ (two-apart gradient_key rf_key refl key e) (named-append key (absent_of own site adc_key) _ (two-apart gradient_key adc_key refl key e) (two-apart gradient_key block_key refl key e)))

  added-apart : AllDefining own → (target : Edition) (key : List ℕ) → is_named key own ≡ true → is_named key (added_of target own site) ≡ false
  unfolding added_of
  added-apart all V13 key e = unfold is_named in refl
  added-apart all V14 key e =
      named-append key (absent_of own site gradient_key) _ (own-apart all gradient_key key e)
      (named-append key (absent_of own site rf_key) _ (own-apart all rf_key key e) (named-append key (absent_of own site adc_key) _ (own-apart all adc_key key e) (own-apart all block_key key e)))

-- ---- A file in which nothing is met again
module _ (file : List ℕ) (once : (line : ℕ) → Twice file line → ⊥) where
  words-apart : NoWordAgain (words_of file)
  words-apart line g = once line (by_word g)

  pub keys-once : (target : Edition) (site : List ℕ) → repeats (said_definitions target file site) ≡ false
  unfolding said_definitions
  keys-once target site =
      repeats-append (definitions_of file) _ (keys-apart (names_of file) words-apart) (added-once (definitions_of file) (site_definitions site) target)
      (added-apart (definitions_of file) (site_definitions site) (file-defining file) target)

  pub file-codes-once : (code : ℕ) → 1 ≤ code → (i j : ℕ) → CodeAt (rows_of file) i code → CodeAt (rows_of file) j code → i ≡ j
  file-codes-once code known = codes-apart code known (names_of file) words-apart

  -- and so it is in a table that holds the kinds and the codes of its rows, as reading leaves it
  module _ (table : List ℤ) (kinds : (k : ℕ) → k < length (rows_of file) → number_at table k 0 ≡ get_or (cells_of (rows_of file) k) 0 (pos 0))
      (codes : (k : ℕ) → k < length (rows_of file) → number_at table k 2 ≡ get_or (cells_of (rows_of file) k) 2 (pos 0)) where
    code-held : (k code : ℕ) → k < length (rows_of file) → is_kind table k (pos extension_kind) ≡ true → number_at table k 2 ≡ pos code → CodeAt (rows_of file) k code
    unfolding is_kind
    code-held k code l s c = record { there = l; kind = sym (kinds k l) ∙ same_z-true (number_at table k 0) (pos extension_kind) s; number = sym (codes k l) ∙ c }

    pub codes-once : CodesOnce table (length (rows_of file))
    codes-once i j code l m s t known c d = file-codes-once code known i j (code-held i code l s c) (code-held j code m t d)

  pub held-codes-once : {e : Edition} {q : Rasters} {samples laid table : List ℤ} {room : ℕ} → RowsHeld e q (rows_of file) samples laid room table → CodesOnce table (length (rows_of file))
  held-codes-once {laid = laid} {table = table} h = codes-once table (λ k l. own k 0 l (omega arith) refl) (λ k l. own k 2 l (omega arith) refl)
    where
      own : (k c : ℕ) → k < length (rows_of file) → c < 12 → eqb c 9 ≡ false → number_at table k c ≡ get_or (cells_of (rows_of file) k) c (pos 0)
      own k c l m o = h.numbers k c l m ∙ rw (o, and-false)
