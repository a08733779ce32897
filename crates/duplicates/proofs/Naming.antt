-- Words sought line by line. Assumes nothing.
use Rattle.std.proofs.Common.{None, Option, Some}
use Prim.Native.Nat.{ℕ}
use mathlib.Core.Bool.{Bool, true, false, true≢false}
use mathlib.Core.List.{List, [], ◌++◌}
use mathlib.Core.Path.{◌≡◌, refl, sym, ◌∙◌}
use borrow.Author.Tests.{eq-eqb, ne_eqb}
use lib.IntN.{ℤ, pos}
use lib.ListN.{get_or}
use Rattle.text.specs.Words.{same_bytes}
use Rattle.signed.specs.Signed.{same_z}
use Rattle.places.specs.declared.Found.{Found}
use Rattle.places.specs.declared.Stepped.{Stepped}
use Rattle.duplicates.specs.declared.Sort.{Sort}
use Rattle.duplicates.specs.declared.Sort.TheVariants.{Name}
use Rattle.duplicates.specs.Words.{Word, row_names, found_names, once_of, word_of, words_in, word_at, sort_number, is_same, next_line}
use Rattle.duplicates.specs.Inside.{names_word}

-- ---- what a line names
pub names-extension : (kind : ℤ) → same_z kind (pos 8) ≡ true → Some Name ≡ row_names kind
unfolding row_names
names-extension kind e = rw e

pub names-nothing : (kind : ℤ) → same_z kind (pos 8) ≡ false → None ≡ row_names kind
unfolding row_names
names-nothing kind e = rw e

pub once-found : (s : Stepped) (found : Found) → s.found ≡ found → found_names found (get_or s.cells 0 (pos 0)) ≡ once_of s
unfolding once_of
once-found s found e = rw e

-- ---- whether a line names a word
module _ (line : List ℕ) (once : (Option Sort)) (sort : Sort) (word : List ℕ) where
  pub no-word : once ≡ None → false ≡ names_word line once sort word
  unfolding names_word
  no-word e = rw e

  module _ (own : Sort) (e : once ≡ Some own) where
    pub other-sort : (sort_number own ≡ sort_number sort → ⊥) → false ≡ names_word line once sort word
    unfolding names_word
    other-sort n = rw (e, ne_eqb (sort_number own) (sort_number sort) n)

    pub own-sort : sort_number own ≡ sort_number sort → same_bytes (word_of line own) word ≡ names_word line once sort word
    unfolding names_word
    own-sort p = rw (e, eq-eqb (sort_number own) (sort_number sort) p)

-- ---- a line's word in front of others
module _ (n : ℕ) (line : List ℕ) (rest : List Word) where
  next-hit : (once : (Option Sort)) (sort : Sort) (word : List ℕ) → names_word line once sort word ≡ true → n ≡ next_line sort word (words_in n line once ++ rest)
  unfolding words_in names_word is_same next_line
  next-hit None sort word h = absurd (true≢false (sym h))
  next-hit (Some own) sort word h = rw h

  next-miss : (once : (Option Sort)) (sort : Sort) (word : List ℕ) → names_word line once sort word ≡ false → next_line sort word rest ≡ next_line sort word (words_in n line once ++ rest)
  unfolding words_in names_word is_same next_line
  next-miss None sort word h = refl
  next-miss (Some own) sort word h = rw h

module _ (n : ℕ) (line : List ℕ) (s : Stepped) where
  module _ (sort : Sort) (word : List ℕ) (b : Bool) (q : b ≡ names_word line (once_of s) sort word) (rest : List Word) where
    pub naming-hit : b ≡ true → n ≡ next_line sort word (word_at n line s ++ rest)
    unfolding word_at
    naming-hit h = next-hit n line rest (once_of s) sort word (sym q ∙ h)

    pub naming-miss : b ≡ false → next_line sort word rest ≡ next_line sort word (word_at n line s ++ rest)
    unfolding word_at
    naming-miss h = next-miss n line rest (once_of s) sort word (sym q ∙ h)

-- ---- no word at all
pub no-next : (sort : Sort) (word : List ℕ) → next_line sort word [] ≡ 0
unfolding next_line
no-next sort word = refl
