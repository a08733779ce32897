-- A walk over the fields of a line: how many there are at most, which is the k-th, and which is a word. Assumes nothing.
use Rattle.std.proofs.Common.{ℕ, suc, ◌+◌, ◌≤◌, ◌≡◌, refl, ◌∙◌, Bool, true, false, cond, List, [], ◌∷◌, Option, None, Some, length, get_or, add-one, unwrap_or, Bor, arith}
use Rattle.std.specs.Option.{option_map}
use Rattle.std.specs.List.{slice_get, position_from}
use Rattle.std.specs.Iterator.{YieldsFirstBy}
use Rattle.std.proofs.lemmas.Option.{unwrap_or-slice_get}
use Rattle.std.proofs.lemmas.Iterator.{YieldsList}
use Rattle.std.proofs.lemmas.Iterator.Consumers.{YieldsList-from_first}
use Rattle.text.specs.Lines.{onto}
use Rattle.text.specs.Marks.{is_blank}
use Rattle.text.specs.Words.{same_bytes, place_from, place_of}
use Rattle.fields.specs.Fields.{ends_field, fields_of}
use Rattle.fields.specs.declared.FieldsIn.{FieldsIn}

pub fields-few : (s : List ℕ) → length (fields_of s) ≤ length s
unfolding fields_of onto
fields-few [] = omega arith
fields-few (c ∷ s) = go (is_blank c) (ends_field s) (fields_of s) (fields-few s)
  where
    go : (b e : Bool) (fs : List (List ℕ)) → length fs ≤ length s → length (cond b fs (cond e ((c ∷ []) ∷ fs) (onto c fs))) ≤ suc (length s)
    go true e fs h = omega arith
    go false true fs h = omega arith
    go false false [] h = omega arith
    go false false (f ∷ fs) h = omega arith

-- what an item holds
abbrev pub held : Bor (List ℕ) → List ℕ
held r = r.now

abbrev pub left : FieldsIn → List (List ℕ)
left s = fields_of s.0.now

pub walked : (s : FieldsIn) → YieldsList (YieldsFirstBy held left) held s (left s)
walked s = YieldsList-from_first held left (left s) refl

pub kth : (fs : List (List ℕ)) (k : ℕ) (r : Option (Bor (List ℕ))) (d : Bor (List ℕ)) → option_map held r ≡ slice_get fs k → held d ≡ [] → held (unwrap_or r d) ≡ get_or fs k []
kth fs k None d e p = p ∙ (rw (← e) at (unwrap_or-slice_get {X = List ℕ} fs k []))
kth fs k (Some x) d e p = rw (← e) at (unwrap_or-slice_get {X = List ℕ} fs k [])

-- a place from 0 on is one less than a place from 1 on, which leaves 0 for a word that is none of them
placed : (n : ℕ) (vs : List (List ℕ)) (w : List ℕ) → unwrap_or (option_map suc (position_from (λ v. same_bytes v w) n vs)) 0 ≡ place_from n vs w
unfolding place_from
placed n [] w = refl
placed n (v ∷ vs) w = go (same_bytes v w) (placed (suc n) vs w)
  where
    go : (b : Bool) → unwrap_or (option_map suc (position_from (λ v. same_bytes v w) (suc n) vs)) 0 ≡ place_from (suc n) vs w
        → unwrap_or (option_map suc (cond b (Some n) (position_from (λ v. same_bytes v w) (n + 1) vs))) 0 ≡ cond b (suc n) (place_from (suc n) vs w)
    go true e = refl
    go false e = rw (add-one n) e

pub place-is : (vs : List (List ℕ)) (w : List ℕ) (r s : Option ℕ) → r ≡ position_from (λ v. same_bytes v w) 0 vs → r ≡ s → unwrap_or (option_map suc s) 0 ≡ place_of vs w
place-is vs w r s p q = rw (← q, p) (placed 0 vs w)
