-- What an extension may be called, byte by byte; and what a flag's value is as a signed number. Assumes nothing.
use Rattle.std.proofs.Common.{ℕ, ◌<◌, ◌≡◌, ◌∙◌, refl, sym, ap, Bool, false, List, [], ◌∷◌, Option, Some, None, ℤ, pos, nat_abs, arith}
use Rattle.std.specs.List.{list_all}
use Rattle.signed.specs.Signed.{signed_of}
use Rattle.numeral.specs.Integer.{integer_of, signed_as}
use Rattle.numeral.proofs.Integer.{integer-inv, value-below}
use Rattle.heads.specs.Heads.{is_name_byte, all_name_bytes}

pub bytes_list : (s : List ℕ) → list_all is_name_byte s ≡ all_name_bytes s
unfolding all_name_bytes
bytes_list [] = refl
bytes_list (b ∷ s) = rw (bytes_list s)

-- ---- a flag: an integer of at most 10 digits
module _ (most : ℕ) (field : List ℕ) where
  pub flag-none : integer_of 0 most field ≡ None → None ≡ signed_as false (integer_of 0 most field)
  unfolding signed_as
  flag-none e = rw e

  module _ (n : ℕ) (e : integer_of 0 most field ≡ Some n) where
    pub flag-small : n < 10000000000
    flag-small = let i = integer-inv 0 most field n e in let w = i.worth in omega (arith, value-below field 10 i.all i.short)

    pub flag-some : {z : ℤ} → z ≡ pos n → Some z ≡ signed_as false (integer_of 0 most field)
    unfolding signed_as signed_of
    flag-some p = rw (e, p)
