-- Demand 3, of the definitions and of the functions `read` and `restate` by their contracts. Assumes nothing.
use Prim.Native.Nat.{ℕ, ◌-◌, ◌^◌, ◌≤◌}
use mathlib.Core.Bool.{Bool, true, false, cond, true≢false}
use mathlib.Core.List.{List}
use mathlib.Core.Path.{◌≡◌, refl, sym, ap, subst, ◌∙◌}
use native.Mathlib.Omega.{arith}
use lib.IntN.{ℤ}
use lib.ListN.{length, take}
use lib.Seq.{take-append_seam}
use Rattle.shape.specs.declared.Edition.{Edition}
use Rattle.file.specs.Rows.{rows_of, scanned_of}
use Rattle.needs.specs.Needs.{site_rasters}
use Rattle.sayable.specs.Sayable.{unsayable}
use Rattle.answers.specs.Answers.{rows_used, is_accepted}
use Rattle.answers.specs.Outcome.{Answer, Accepted, Refused}
use Rattle.answers.specs.declared.Refusal.TheVariants.{Version}
use Rattle.reader.specs.Reading.{read_of, rows_out, samples_out, Reading}
use Rattle.sources.specs.Sources.{edition_in, own_rasters}
use Rattle.restater.specs.Answers.{is_text, text_length}
use Rattle.restater.specs.Restating.{restate_of, blank_bytes, rows_after, samples_after, output_after, Restating}
use Rattle.restater.specs.Outcome.{Restated, Text}
use Rattle.demands.specs.Keeping.{SoundSite, Keeps}
use Rattle.demands.specs.Refusing.{ListedOf, text_in, Outcome, site-at-fault, raster-missing, on-the-list, no_room, restated}
use Rattle.demands.specs.Replaying.{is_edition, read_by, EnoughRoom, played_in, PlaysSame, ThirdDemand, PlaysAgain}
use Rattle.demands.proofs.Exactly.{accepted-keeps, accepted-site, keeps-accepted}
use Rattle.demands.proofs.Refusing.{unsayable-listed, restate-outcome, restating-outcome}
use Rattle.plays_same.proofs.Back.{Sayable}
use Rattle.plays_same.proofs.Theorem.{sayable-plays}

-- ---- What is read by the target's rules alone is read
by-rules : (target : Edition) (text site : List ℕ) (room size n s : ℕ) → read_by target text site room size ≡ Accepted n s → read_of text site room size ≡ Accepted n s
unfolding read_by
by-rules target text site room size n s = go (is_edition target (edition_in (scanned_of text)))
  where
    go : (b : Bool) → cond b (read_of text site room size) (Refused Version 0) ≡ Accepted n s → read_of text site room size ≡ Accepted n s
    go true e = e
    go false e = absurd (true≢false (sym (ap is_accepted e)))

-- ---- For every file, site text and rooms with which reading accepts, and every target
module _ (target : Edition) (file site : List ℕ) (room size space n s : ℕ) (accepted : read_of file site room size ≡ Accepted n s) where
  is-accepted : is_accepted (read_of file site room size) ≡ true
  is-accepted = ap is_accepted accepted

  keeps : Keeps file site room size
  keeps = accepted-keeps file site room size is-accepted

  not-unsayable : (ListedOf target file site room size n → ⊥) → unsayable target (own_rasters file site) (site_rasters site) (rows_out file site room size) n ≡ false
  not-unsayable none = go (unsayable target (own_rasters file site) (site_rasters site) (rows_out file site room size) n) refl
    where
      go : (b : Bool) → unsayable target (own_rasters file site) (site_rasters site) (rows_out file site room size) n ≡ b → b ≡ false
      go true e = absurd (none (unsayable-listed (own_rasters file site) (site_rasters site) (rows_out file site room size) n target e))
      go false e = refl

  -- ---- What is known where restating gives a text
  record Said (r : Restated) : Type 0 where
    is : r ≡ Text n s (length (text_in target file site room size n))
    counted : n ≡ length (rows_of file)
    source : Sayable target file site room size
    small : length (text_in target file site room size n) ≤ 2 ^ 24

  said_of : {r : Restated} → Outcome target file site room size space n s r → is_text r ≡ true → Said r
  said_of (site-at-fault p) t = absurd (true≢false (sym t))
  said_of (raster-missing p q) t = absurd (true≢false (sym t))
  said_of (on-the-list p q l) t = absurd (true≢false (sym t))
  said_of (no_room p q l f) t = absurd (true≢false (sym t))
  said_of (restated p q l f) t =
      let sound : SoundSite site = record { small = accepted-site file site room size is-accepted; sound = p } in
      let many : n ≡ length (rows_of file) = ap rows_used (sym accepted ∙ keeps-accepted file site room size sound keeps) in
      let can = subst (λ (k : ℕ). unsayable target (own_rasters file site) (site_rasters site) (rows_out file site room size) k ≡ false) many (not-unsayable l) in
      record { is = refl; counted = many; source = record { sound = sound; keeps = keeps; rasters = q; sayable = can }; small = omega arith }

  module _ {r : Restated} (x : Said r) where
    -- ---- It plays the same
    said-plays : PlaysSame target file site room size (text_in target file site room size n)
    said-plays =
        subst (λ (k : ℕ). PlaysSame target file site room size (text_in target file site room size k)) (sym x.counted)
        (sayable-plays x.source (subst (λ (k : ℕ). length (text_in target file site room size k) ≤ 2 ^ 24) x.counted x.small))

    -- ---- where it stands in the output, and what the tables hold
    module _ (e : r ≡ restate_of target file site room size space) where
      said-front : take (text_length r) (output_after target file site room size space) ≡ text_in target file site room size n
      unfolding output_after
      said-front = rw (← e, x.is) (take-append_seam (text_in target file site room size n) (blank_bytes (space - length (text_in target file site room size n))))

      said-rows : rows_after target file site room size space ≡ rows_out file site room size
      unfolding rows_after
      said-rows = rw (← e, x.is)

      said-samples : samples_after target file site room size space ≡ samples_out file site room size
      unfolding samples_after
      said-samples = rw (← e, x.is)

  -- ---- 1: a text that restating gives plays the same
  pub restate-plays-same : is_text (restate_of target file site room size space) ≡ true → PlaysSame target file site room size (text_in target file site room size n)
  restate-plays-same t = said-plays (said_of (restate-outcome target file site room size space n s accepted) t)

-- ---- Demand 3 of `restate`, by its contract
module _ {target : Edition} {file site : List ℕ} {table l : List ℤ} {out : List ℕ} {r : Restated} {table' l' : List ℤ} {out' : List ℕ} (n s : ℕ)
    (accepted : read_of file site (length table) (length l) ≡ Accepted n s) (x : Restating target file site table l out r table' l' out') where
  abbrev outcome : Outcome target file site (length table) (length l) (length out) n s r
  outcome = restating-outcome n s x accepted

  known : is_text r ≡ true → Said target file site (length table) (length l) (length out) n s accepted r
  known t = said_of target file site (length table) (length l) (length out) n s accepted outcome t

  front-is : is_text r ≡ true → text_in target file site (length table) (length l) n ≡ take (text_length r) out'
  front-is t = sym (said-front target file site (length table) (length l) (length out) n s accepted (known t) x.answer) ∙ ap (take (text_length r)) (sym x.output)

  pub third-demand : ThirdDemand target file site (length table) (length l) (length out) n s r out'
  third-demand =
      record {
        outcome = outcome;
        plays = λ t. subst (PlaysSame target file site (length table) (length l)) (front-is t) (said-plays target file site (length table) (length l) (length out) n s accepted (known t));
      }

  -- ---- and of `read`, of what stands in front of the output, into tables with enough room
  pub plays-again : is_text r ≡ true → {rows₀ samples₀ : List ℤ} {a : Answer} {rows₁ samples₁ : List ℤ} → EnoughRoom (take (text_length r) out') (length rows₀) (length samples₀)
      → Reading (take (text_length r) out') site rows₀ samples₀ a rows₁ samples₁ → PlaysAgain (take (text_length r) out') site (own_rasters file site) table' n l' a rows₁ samples₁
  unfolding played_in
  plays-again t {rows₀} {samples₀} enough y =
      let p = third-demand.plays t in
      let rows_are = x.rows ∙ said-rows target file site (length table) (length l) (length out) n s accepted (known t) x.answer in
      let samples-are = x.samples ∙ said-samples target file site (length table) (length l) (length out) n s accepted (known t) x.answer in
      record {
        accepted = y.answer ∙ by-rules target (take (text_length r) out') site (length rows₀) (length samples₀) _ _ (p.accepted (length rows₀) (length samples₀) enough);
        same = rw (y.rows, y.samples, rows_are, samples-are, (known t).counted) (p.same (length rows₀) (length samples₀) enough);
      }
