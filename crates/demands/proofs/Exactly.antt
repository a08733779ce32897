-- "With sound site definitions, a file is accepted exactly when it keeps to the lent tables, the paper's limits and its own edition's rules .. The
-- tables then hold what those rules say, sample for sample." Assumes nothing.
use Prim.Native.Nat.{ℕ, ◌+◌, ◌/◌, ◌^◌, ◌≤◌, ◌<◌}
use mathlib.Core.Bool.{Bool, true, false}
use mathlib.Core.List.{List}
use mathlib.Core.Path.{◌≡◌, sym, ap, ◌∙◌}
use native.Mathlib.Omega.{arith}
use lib.IntN.{ℤ, pos}
use lib.ListN.{length, get_or, length-replicate}
use Rattle.unit.specs.declared.Rasters.{Rasters}
use Rattle.shape.specs.declared.Edition.{Edition}
use Rattle.shape.specs.declared.Edition.TheVariants.{V14}
use Rattle.columns.specs.Rows.{row_width}
use Rattle.places.specs.declared.State.{State}
use Rattle.file.specs.Whole.{verdict_of, ended}
use Rattle.file.specs.Rows.{rows_of}
use Rattle.file_laws.proofs.Ending.{verdict-scanned, scanned-ends}
use Rattle.file_laws.proofs.Stacking.{rows-stacked}
use Rattle.file_tables.proofs.Whole.{rows-twelve, rows-held, shape-room, shapes-apart}
use Rattle.exact_lengths.specs.Tables.{TablesIn}
use Rattle.tables.specs.Tables.{NoneAgain}
use Rattle.rasters.specs.Rasters.{rasters_of}
use Rattle.sampling.specs.Sampling.{is_shape_row, num_at, place_at, fails_at, first_failing, Apart}
use Rattle.repeats.proofs.Twice.{duplicate-of-is}
use Rattle.rules.specs.Rules.{is_broken, first_broken}
use Rattle.rules.specs.declared.Rule.{Rule}
use Rattle.rules.specs.declared.Rule.TheVariants.{Reference, Loop, Use, Align, Long, Outlasts}
use Rattle.answers.specs.Answers.{is_accepted}
use Rattle.answers.specs.Outcome.{Answer, Accepted}
use Rattle.questions.specs.Asked.{lacks_room}
use Rattle.reader.specs.Reading.{zeros, rows_laid, samples_laid, rows_kept, samples_kept, read_of, rows_out, samples_out, Reading}
use Rattle.reader.proofs.Judging.{room-enough}
use Rattle.demands.specs.Rules.{Follows}
use Rattle.demands.specs.Keeping.{SoundSite, sample_sum, Expands, SamplesHeld, Keeps, RowsHeld, SecondDemand}
use Rattle.demands.proofs.Passing.{Passed, accepted-passes, passed-accepted}
use Rattle.demands.proofs.Lines.{runs-verdict, verdict-runs}
use Rattle.demands.proofs.Ruling.{such-all, all-such, meets, dangles-not, chain-ends, loops-not, fits-of, of-fits, aligned-in, of-aligned-in, short-of, of-short, lasting-in, of-lasting-in}
use Rattle.demands.proofs.Samples.{stacked-sum, shape_of, of-shape, laid-held, held_same, held_in}
use Rattle.demands.proofs.Questions.{big-of, site-of, of-big, missing-block, missing-defined, of-missing, room-samples, of_room, of-site, of-once, none-twice, rasters-of, of-rasters, rasters-in}
use Rattle.demands.proofs.Tables.{rows-held-all}

-- ---- a file that comes to its end, small, with room for its rows and samples: what is known of its tables
module _ (file site : List ℕ) (room size : ℕ) (end : State) (verdict : verdict_of file ≡ ended end) (small : length file ≤ 2 ^ 24)
    (rows_fit : length (rows_of file) ≤ room / row_width) (samples-fit : end.samples ≤ size) where
  abbrev e : Edition
  e = end.edition

  abbrev n : ℕ
  n = length (rows_of file)

  abbrev rows : List ℤ
  rows = rows_laid file (zeros room)

  abbrev q : Rasters
  q = rasters_of e file site

  fits : n ≤ length (zeros room) / 12
  fits = rw (length-replicate room (pos 0)) rows_fit

  shape-fits : (k : ℕ) → k < n → is_shape_row rows k ≡ true → place_at rows k + num_at rows k ≤ length (zeros size)
  shape-fits k h s = let x = shape-room file end (zeros room) verdict small fits k h s in let y = length-replicate size (pos 0) in omega arith

  pub apart : Apart rows n
  apart = shapes-apart file end (zeros room) verdict small fits

  pub counted : end.samples ≡ sample_sum (rows_of file)
  counted = let h = stacked-sum (rows-stacked file end verdict small) in omega arith

  -- ---- SHAPE
  shapes-of : n ≤ first_failing e file rows (length (zeros size)) n → (k : ℕ) → k < n → is_shape_row rows k ≡ true → Expands e file rows k
  unfolding first_failing
  shapes-of none k h = shape_of e file rows (length (zeros size)) k (shape-fits k h) (such-all (fails_at e file rows (length (zeros size))) n none k h)

  pub of-shapes : ((k : ℕ) → k < n → is_shape_row rows k ≡ true → Expands e file rows k) → n ≤ first_failing e file rows (length (zeros size)) n
  unfolding first_failing
  of-shapes all = all-such (fails_at e file rows (length (zeros size))) n (λ k h. of-shape e file rows (length (zeros size)) k (shape-fits k h) (all k h))

  -- ---- REFERENCE to OUTLASTS
  module _ (samples : List ℤ) (held : SamplesHeld e file rows n size samples) (all : (k : ℕ) → k < n → is_shape_row rows k ≡ true → Expands e file rows k)
      (gradient : 1 ≤ q.gradient.0) (rf : 1 ≤ q.rf.0) (adc : e ≡ V14 → 1 ≤ q.adc.0) where
    tables : TablesIn e q rows n samples
    tables = record { rasters = rasters-in e file site; each = λ k h. rows-held file end (zeros room) verdict fits k h; values = held_in e file rows n size samples held all }

    abbrev Kept : Rule → Type 0
    Kept rule = (k : ℕ) → k < n → is_broken rule e q rows n samples k ≡ false

    follows_of : NoneAgain rows n → ((rule : Rule) → Kept rule) → Follows e q rows n samples
    unfolding is_broken
    follows_of once kept =
        record {
          references = λ k c h l x. meets e rows n k once (kept Reference k h) c l x;
          chains = λ k h p. chain-ends rows n k (kept Loop k h) p;
          uses = λ k h. fits-of rows n samples k (kept Use k h);
          aligned = λ v k h. aligned-in q rows k gradient rf e (rows-held file end (zeros room) verdict fits k h) adc (kept Align k h) v;
          short = λ k h p. short-of e q rows n samples k (kept Long k h) p;
          lasting = λ v k c h p l u. lasting-in q rows n samples k h e tables (kept Outlasts k h) v p c l u;
        }

    of-follows : Follows e q rows n samples → (rule : Rule) → Kept rule
    unfolding is_broken
    of-follows f Reference k h = dangles-not e rows n k (λ c l x. f.references k c h l x)
    of-follows f Loop k h = loops-not rows n k (λ p. f.chains k h p)
    of-follows f Use k h = of-fits rows n samples k (f.uses k h)
    of-follows f Align k h = of-aligned-in q rows k gradient rf e (rows-held file end (zeros room) verdict fits k h) adc (λ v. f.aligned v k h)
    of-follows f Long k h = of-short e q rows n samples k (λ p. f.short k h p)
    of-follows f Outlasts k h = of-lasting-in q rows n samples k h e tables (λ v p c l u. f.lasting v k c h p l u)

    -- the same of the first row that breaks each
    rules-of : NoneAgain rows n → ((rule : Rule) → n ≤ first_broken rule e q rows n samples) → Follows e q rows n samples
    unfolding first_broken
    rules-of once first = follows_of once (λ rule. such-all (is_broken rule e q rows n samples) n (first rule))

    of-rules : Follows e q rows n samples → (rule : Rule) → n ≤ first_broken rule e q rows n samples
    unfolding first_broken
    of-rules f rule = all-such (is_broken rule e q rows n samples) n (of-follows f rule)

-- ---- what passed, said of the state in which the file ends
passed-at : {file site : List ℕ} {table l : List ℤ} {e e' : Edition} {n n' s s' : ℕ} {d d' : Bool} → e ≡ e' → n ≡ n' → s ≡ s' → d ≡ d'
    → Passed file site table l e n s d → Passed file site table l e' n' s' d'
passed-at a b c f p = rw (a, b, c, f) at p

module _ (file site : List ℕ) (room size : ℕ) where
  abbrev PassedAt : State → Type 0
  PassedAt end = Passed file site (zeros room) (zeros size) end.edition (length (rows_of file)) end.samples (get_or end.seen 2 false)

  abbrev lacked : State → ℕ → ℕ → Bool
  lacked end a b = lacks_room (length (rows_of file)) end.samples a b

  module _ (end : State) (verdict : verdict_of file ≡ ended end) where
    keeps-of : PassedAt end → Keeps file site room size
    keeps-of p =
        let room-left : lacked end room size ≡ false = rw (length-replicate room (pos 0), length-replicate size (pos 0)) at p.room in
        let small = big-of file site p.big in
        let rows_fit = room-enough (length (rows_of file)) end.samples room size room-left in
        let samples-fit = room-samples (length (rows_of file)) end.samples room size room-left in
        let good = rasters-of end.edition (rasters_of end.edition file site) p.raster in
        let shapes = shapes-of file site room size end verdict small rows_fit samples-fit p.shapes in
        let held = laid-held end.edition file (rows_laid file (zeros room)) (length (rows_of file)) size (apart file site room size end verdict small rows_fit samples-fit) p.shapes shapes in
        let once = none-twice file (zeros room) (fits file site room size end verdict small rows_fit samples-fit) p.again in
        record {
          small = small;
          end = end;
          lines = verdict-runs file end verdict;
          block = missing-block (rows_of file) end.edition _ p.missing;
          definitions = missing-defined (rows_of file) end.edition _ p.missing;
          rows_fit = rows_fit;
          samples-fit = rw (← counted file site room size end verdict small rows_fit samples-fit) samples-fit;
          once = λ line t. (duplicate-of-is file).none p.again line t;
          rasters = good;
          shapes = shapes;
          samples = samples_laid end.edition file (rows_laid file (zeros room)) (length (rows_of file)) (zeros size);
          held = held;
          rules = rules-of file site room size end verdict small rows_fit samples-fit _ held shapes good.gradient good.rf good.adc once p.rules;
        }

  -- ---- "accepted exactly when it keeps to the lent tables, the paper's limits and its own edition's rules"
  pub accepted-keeps : is_accepted (read_of file site room size) ≡ true → Keeps file site room size
  unfolding read_of
  accepted-keeps a =
      let x = accepted-passes file site (zeros room) (zeros size) a in
      let ends = scanned-ends file x.edition x.n x.s x.defined x.passed.scanned in
      keeps-of ends.end ends.verdict (passed-at ends.edition ends.rows ends.samples ends.definitions x.passed)

  -- whatever is accepted came with a site text of at most 4,096 bytes
  pub accepted-site : is_accepted (read_of file site room size) ≡ true → length site ≤ 4096
  unfolding read_of
  accepted-site a = site-of file site (accepted-passes file site (zeros room) (zeros size) a).passed.big

  module _ (sound : SoundSite site) (k : Keeps file site room size) where
    verdict : verdict_of file ≡ ended k.end
    verdict = runs-verdict file k.lines

    samples-within : k.end.samples ≤ size
    samples-within = let h = stacked-sum (rows-stacked file k.end verdict k.small) in let m = k.samples-fit in omega arith

    laid-passes : length (rows_of file) ≤ first_failing k.end.edition file (rows_laid file (zeros room)) (length (zeros size)) (length (rows_of file))
    laid-passes = of-shapes file site room size k.end verdict k.small k.rows_fit samples-within k.shapes

    -- the samples that the rules speak of are those that are laid
    pub samples-same : k.samples ≡ samples_laid k.end.edition file (rows_laid file (zeros room)) (length (rows_of file)) (zeros size)
    samples-same =
        held_same k.end.edition file (rows_laid file (zeros room)) (length (rows_of file)) size k.samples _ k.held
        (laid-held k.end.edition file (rows_laid file (zeros room)) (length (rows_of file)) size (apart file site room size k.end verdict k.small k.rows_fit samples-within) laid-passes k.shapes)

    passed : PassedAt k.end
    passed =
        record {
          big = of-big file site k.small sound.small;
          scanned = verdict-scanned file k.end verdict;
          missing = of-missing (rows_of file) k.end.edition _ k.block k.definitions;
          room = rw (length-replicate room (pos 0), length-replicate size (pos 0)) (of_room (length (rows_of file)) k.end.samples room size k.rows_fit samples-within);
          site-fine = of-site k.end.edition site sound;
          again = of-once file k.once;
          raster = of-rasters k.end.edition _ k.rasters;
          shapes = laid-passes;
          rules =
              rw (← samples-same)
              (of-rules file site room size k.end verdict k.small k.rows_fit samples-within k.samples k.held k.shapes k.rasters.gradient k.rasters.rf k.rasters.adc k.rules);
        }

    pub keeps-accepted : read_of file site room size ≡ Accepted (length (rows_of file)) (sample_sum (rows_of file))
    unfolding read_of
    keeps-accepted =
        passed-accepted file site (zeros room) (zeros size) passed
        ∙ ap (λ (s : ℕ). Accepted (length (rows_of file)) s) (counted file site room size k.end verdict k.small k.rows_fit samples-within)

    -- ---- "The tables then hold what those rules say, sample for sample"
    pub samples-hold : samples_out file site room size ≡ k.samples
    unfolding samples_out samples_kept
    samples-hold = rw (keeps-accepted, verdict-scanned file k.end verdict) (sym samples-same)

    pub rows-hold : RowsHeld k.end.edition (rasters_of k.end.edition file site) (rows_of file) k.samples (rows_laid file (zeros room)) room (rows_out file site room size)
    unfolding rows_out rows_kept
    rows-hold =
        rw (keeps-accepted, verdict-scanned file k.end verdict, ← samples-same)
        (rows-held-all k.end.edition (rasters_of k.end.edition file site) (rows_of file) (rows-twelve file) room k.samples
        (fits file site room size k.end verdict k.small k.rows_fit samples-within)
        (λ i h p. k.rules.short i h p))

-- ---- Demand 2: whatever is read with sound site definitions into whatever tables
pub second-demand : (file site : List ℕ) (table l : List ℤ) (r : Answer) (table' l' : List ℤ) → SoundSite site → Reading file site table l r table' l'
    → SecondDemand file site table l r table' l'
second-demand file site table l r table' l' sound x =
    record {
      keeps = λ a. accepted-keeps file site (length table) (length l) (rw (← x.answer) a);
      accepts = λ k. x.answer ∙ keeps-accepted file site (length table) (length l) sound k;
      rows = λ k. rw x.rows (rows-hold file site (length table) (length l) sound k);
      samples = λ k. x.samples ∙ samples-hold file site (length table) (length l) sound k;
    }
