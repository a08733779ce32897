-- "With sound site definitions, a file is accepted exactly when it keeps to the lent tables, the paper's limits and its own edition's rules, 1.3 or
-- 1.4". What that means, and what the tables then hold.
use Rattle.std.specs.Prelude.{ℕ, suc, ◌+◌, ◌*◌, ◌/◌, ◌^◌, ◌≤◌, ◌<◌, true, false, cond, ◌&&◌, List, [], ◌∷◌, ◌≡◌, eqb, ℤ, pos, length, get_or, take, drop, Ok}
use Rattle.text.specs.Lines.{lines_of}
use Rattle.unit.specs.declared.Rasters.{Rasters}
use Rattle.expanding.specs.Alone.{expanded_of, table_of}
use Rattle.shape.specs.declared.Edition.{Edition}
use Rattle.shape.specs.declared.Edition.TheVariants.{V14}
use Rattle.columns.specs.Rows.{row_width}
use Rattle.places.specs.Places.{fresh, ending_of}
use Rattle.places.specs.declared.State.{State}
use Rattle.grammar.specs.Steps.{step_of}
use Rattle.file.specs.Whole.{is_fault}
use Rattle.file.specs.Rows.{Placed, rows_of}
use Rattle.file_laws.specs.Stacked.{shape_count}
use Rattle.file_tables.specs.Tables.{cells_of}
use Rattle.definitions.specs.Definitions.{site_fault}
use Rattle.rasters.specs.Rasters.{rasters_of}
use Rattle.tables.specs.Tables.{number_at}
use Rattle.blocks.specs.Blocks.{block_length, is_block}
use Rattle.sampling.specs.Sampling.{is_shape_row, text_at, num_at, place_at, Outside}
use Rattle.repeats.specs.Once.{Twice}
use Rattle.answers.specs.Answers.{is_accepted}
use Rattle.answers.specs.Outcome.{Answer, Accepted}
use Rattle.reader.specs.Reading.{zeros, rows_laid}
use Rattle.demands.specs.Rules.{Follows}

-- ---- "With sound site definitions"
pub record SoundSite (site : List ℕ) : Type 0 where
  pub small : length site ≤ 4096
  pub sound : site_fault site ≡ false

-- ---- "2 to 5 line by line": no line is at fault where it stands, and no row is due when the file ends, in this state
pub data Runs : State → ℕ → List (List ℕ) → State → Type 0 where
  at-end : {st : State} {n : ℕ} → is_fault (ending_of st.place) ≡ false → Runs st n [] st
  one_line : {st end : State} {n : ℕ} {l : List ℕ} {ls : List (List ℕ)} → is_fault (step_of st n l).found ≡ false → Runs (step_of st n l).next (suc n) ls end
      → Runs st n (l ∷ ls) end

-- ---- "no block row": a row's twelve numbers are a table of one row
pub record HasBlock (rs : List Placed) : Type 0 where
  pub k : ℕ
  pub there : k < length rs
  pub block : is_block (cells_of rs k) 0 ≡ true

-- ---- "the sum of num_samples"
unfoldable pub sample_sum : List Placed → ℕ
sample_sum [] = 0
sample_sum (r ∷ rs) = shape_count r.cells + sample_sum rs

-- ---- "In 1.4 all four .. In 1.3 the first two are needed": none of these is absent or bad, which is 0 ns
pub record RastersGood (e : Edition) (q : Rasters) : Type 0 where
  pub gradient : 1 ≤ q.gradient.0
  pub rf : 1 ≤ q.rf.0
  pub adc : e ≡ V14 → 1 ≤ q.adc.0
  pub block : e ≡ V14 → 1 ≤ q.block.0

-- ---- "each shape expands to its declared number of samples": its stored lines, by themselves
abbrev pub Expands : Edition → List ℕ → List ℤ → ℕ → Type 0
Expands e file rows k = expanded_of e (num_at rows k) (text_at file rows k) (num_at rows k) ≡ Ok (num_at rows k)

-- the samples of n rows, sample for sample: each shape's part holds what its stored lines expand to, and all else is zero
pub record SamplesHeld (e : Edition) (file : List ℕ) (rows : List ℤ) (n size : ℕ) (samples : List ℤ) : Type 0 where
  pub long : length samples ≡ size
  pub part : (k : ℕ) → k < n → is_shape_row rows k ≡ true
      → take (num_at rows k) (drop (place_at rows k) samples) ≡ table_of e (num_at rows k) (text_at file rows k) (num_at rows k)
  pub rest : (i : ℕ) → Outside rows n i → get_or samples i (pos 0) ≡ pos 0

-- ---- A file keeps to lent tables, with room numbers for rows and size samples, to the paper's limits and to its edition's rules
pub record Keeps (file site : List ℕ) (room size : ℕ) : Type 0 where
  -- "BIG: file over 2^24 bytes"
  pub small : length file ≤ 2 ^ 24
  -- LINE, VERSION, SECTION, FIELD; where the file ends, its edition is known
  pub end : State
  pub lines : Runs fresh 1 (lines_of file) end
  -- "MISSING: no block row; in 1.4 no `[DEFINITIONS]`"
  pub block : HasBlock (rows_of file)
  pub definitions : end.edition ≡ V14 → get_or end.seen 2 false ≡ true
  -- "ROOM: rows, or the sum of num_samples, exceed the lent tables"
  pub rows_fit : length (rows_of file) ≤ room / row_width
  pub samples-fit : sample_sum (rows_of file) ≤ size
  -- "DUPLICATE: an ID, type, extension name or definition key met again in its class"
  pub once : (line : ℕ) → Twice file line → ⊥
  -- "RASTER: a needed raster is absent or bad"
  pub rasters : RastersGood end.edition (rasters_of end.edition file site)
  -- "SHAPE: stored values don't expand"
  pub shapes : (k : ℕ) → k < length (rows_of file) → is_shape_row (rows_laid file (zeros room)) k ≡ true → Expands end.edition file (rows_laid file (zeros room)) k
  -- REFERENCE to OUTLASTS, of the rows and the samples
  pub samples : List ℤ
  pub held : SamplesHeld end.edition file (rows_laid file (zeros room)) (length (rows_of file)) size samples
  pub rules : Follows end.edition (rasters_of end.edition file site) (rows_laid file (zeros room)) (length (rows_of file)) samples

-- ---- "The tables then hold what those rules say": each row its own numbers, a block its ns besides as the tenth, and zero past them
pub record RowsHeld (e : Edition) (q : Rasters) (rs : List Placed) (samples rows : List ℤ) (room : ℕ) (table : List ℤ) : Type 0 where
  pub long : length table ≡ room
  pub numbers : (k c : ℕ) → k < length rs → c < row_width
      → number_at table k c ≡ cond (is_block rows k && eqb c 9) (pos (block_length e q rows (length rs) samples k)) (get_or (cells_of rs k) c (pos 0))
  pub rest : (i : ℕ) → length rs * row_width ≤ i → get_or table i (pos 0) ≡ pos 0

-- ---- Demand 2 of what reading answers and leaves: it accepts exactly what keeps to all this, counts what is there, and the tables hold it
pub record SecondDemand (file site : List ℕ) (table l : List ℤ) (r : Answer) (table' l' : List ℤ) : Type 0 where
  pub keeps : is_accepted r ≡ true → Keeps file site (length table) (length l)
  pub accepts : Keeps file site (length table) (length l) → r ≡ Accepted (length (rows_of file)) (sample_sum (rows_of file))
  pub rows : (k : Keeps file site (length table) (length l))
      → RowsHeld k.end.edition (rasters_of k.end.edition file site) (rows_of file) k.samples (rows_laid file (zeros (length table))) (length table) table'
  pub samples : (k : Keeps file site (length table) (length l)) → l' ≡ k.samples
