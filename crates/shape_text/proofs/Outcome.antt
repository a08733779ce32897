-- What writing answers, and what it leaves in the lent output, at each of its returns. Assumes nothing.
use Rattle.shape_text.specs.declared.Unwritten.TheVariants.{Shape, Output}
use Rattle.std.proofs.Common.{Err, Ok}
use Prim.Native.Nat.{ℕ, ◌-◌, ◌≤◌, ◌<◌, ◌^◌, min}
use mathlib.Core.Bool.{Bool, true, false}
use mathlib.Core.List.{List, []}
use mathlib.Core.Path.{◌≡◌, ap, ◌∙◌}
use mathlib.Core.Logic.{⊎_elim}
use native.Mathlib.Omega.{arith}
use lib.Dec.{leb}
use lib.IntN.{ℤ}
use lib.ListN.{length, take, replicate}
use borrow.Author.Tests.{le-leb, lt-leb, le-ltb, lt-ltb}
use Rattle.output.specs.Over.{Put, cleared_from}
use Rattle.text.proofs.Cases.{lt-or-ge}
use Rattle.output.proofs.Over.{put_front, put-length}
use Rattle.shape.specs.declared.Edition.{Edition}
use Rattle.shape.specs.declared.Edition.TheVariants.{V13, V14}
use Rattle.shape_text.specs.Written.{is_plain_text, ended_lines, plain_lines, packed_lines, stored_lines, text_of, all_within, stored_text, is_writable, written_of, output_after, output_of, Writing}

-- ---- is_plain_text
pub plain-13 : {edition : Edition} (packed plain : ℕ) → edition ≡ V13 → false ≡ is_plain_text edition packed plain
unfolding is_plain_text
plain-13 packed plain e = rw e

pub plain-14 : {edition : Edition} (packed plain : ℕ) → edition ≡ V14 → leb plain packed ≡ is_plain_text edition packed plain
unfolding is_plain_text
plain-14 packed plain e =
    rw e
    (⊎_elim (λ (h : packed < plain). rw (lt-leb plain packed h, lt-ltb packed plain h))
    (λ (h : plain ≤ packed). rw (le-leb plain packed h, le-ltb packed plain h))
    (lt-or-ge packed plain))

-- ---- put_shape
module _ (edition : Edition) (zs : List ℤ) (packed : ℕ) (e : packed ≡ length (packed_lines zs)) where
  pub text-plain : {l l' : List ℕ} {at r : ℕ} → is_plain_text edition packed (length zs) ≡ true → Put l at (ended_lines (plain_lines zs)) r l' → Put l at (text_of edition zs) r l'
  unfolding text_of stored_lines
  text-plain h p = rw (← e, h) p

  pub text-packed : {l l' : List ℕ} {at r : ℕ} → is_plain_text edition packed (length zs) ≡ false → Put l at (ended_lines (packed_lines zs)) r l' → Put l at (text_of edition zs) r l'
  unfolding text_of stored_lines
  text-packed h p = rw (← e, h) p

-- ---- put_stored
module _ (edition : Edition) (zs : List ℤ) {b : Bool} (p : b ≡ all_within zs) where
  pub stored-within : b ≡ true → text_of edition zs ≡ stored_text edition zs
  unfolding stored_text
  stored-within e = rw (← p, e)

  pub stored-beyond : b ≡ false → [] ≡ stored_text edition zs
  unfolding stored_text
  stored-beyond e = rw (← p, e)

-- ---- write
cleared-all : (l : List ℕ) → cleared_from 0 0 l ≡ replicate (length l) 0
unfolding cleared_from
cleared-all l = let e : length l - 0 ≡ length l = omega arith in rw e

module _ (edition : Edition) (zs : List ℤ) where
  pub wrote-shape : {l l' : List ℕ} → is_writable zs ≡ false → l' ≡ cleared_from 0 0 l → Writing edition zs l (Err Shape) l'
  unfolding written_of output_of output_after
  wrote-shape {l} e c = record { answer = rw e; output = rw e (c ∙ cleared-all l) }

  module _ {l l₁ l' : List ℕ} {n : ℕ} (w : is_writable zs ≡ true) (p : Put l 0 (text_of edition zs) n l₁) where
    pub wrote-output : min (length l₁) 16777216 < n → l' ≡ cleared_from 0 0 l₁ → Writing edition zs l (Err Output) l'
    unfolding written_of output_of output_after
    wrote-output h c =
        let g : min (length l) (2 ^ 24) < length (text_of edition zs) = omega (arith, p.place, put-length p) in
        record {
          answer = rw (w, lt-leb (length (text_of edition zs)) (min (length l) (2 ^ 24)) g);
          output = rw (w, lt-leb (length (text_of edition zs)) (min (length l) (2 ^ 24)) g) (c ∙ cleared-all l₁ ∙ ap (λ (k : ℕ). replicate k 0) (put-length p));
        }

    pub wrote-text : n ≤ length l₁ → n ≤ 16777216 → l' ≡ cleared_from 0 n l₁ → Writing edition zs l (Ok n) l'
    unfolding written_of output_of output_after cleared_from
    wrote-text h k c =
        let e : n ≡ length (text_of edition zs) = omega (arith, p.place) in
        let m : length l₁ ≡ length l = put-length p in
        let g : length (text_of edition zs) ≤ min (length l) (2 ^ 24) = omega arith in
        let f : take n l₁ ≡ text_of edition zs = put_front p (omega arith) in
        record {
          answer = rw (w, le-leb (length (text_of edition zs)) (min (length l) (2 ^ 24)) g, e);
          output = rw (w, le-leb (length (text_of edition zs)) (min (length l) (2 ^ 24)) g) (rw (f, m, e) at c);
        }
