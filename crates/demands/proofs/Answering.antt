-- Demand 1: an answer for every input, and zeros after every refusal. Assumes nothing.
use Prim.Native.Nat.{ℕ, ◌≤◌}
use mathlib.Core.Bool.{Bool, true, false, cond, true≢false}
use mathlib.Core.List.{List, [], ◌∷◌}
use mathlib.Core.Path.{◌≡◌, refl, sym, ◌∙◌}
use native.Mathlib.Omega.{arith}
use lib.Dec.{eqb, ltb}
use lib.IntN.{ℤ}
use lib.ListN.{length}
use Rattle.places.specs.declared.Fault.{Fault}
use Rattle.places.specs.declared.Fault.TheVariants.{Line as LineFault, Version as VersionFault, Section as SectionFault, Field as FieldFault}
use Rattle.file.specs.Rows.{Placed, rows_of, scanned_of}
use Rattle.std.proofs.Common.{Err, Ok}
use Rattle.file.specs.Outcome.{Scanned}
use Rattle.rasters.specs.Rasters.{rasters_of, lacks}
use Rattle.sampling.specs.Sampling.{first_failing}
use Rattle.rules.specs.declared.Rule.{Rule}
use Rattle.rules.specs.declared.Rule.TheVariants.{Reference as ReferenceRule, Loop as LoopRule, Use as UseRule, Align as AlignRule, Long as LongRule, Outlasts as OutlastsRule}
use Rattle.answers.specs.Answers.{refusal_number, answer_number}
use Rattle.answers.specs.declared.Refusal.{Refusal}
use Rattle.answers.specs.declared.Refusal.TheVariants.{Big, Line, Version, Section, Field, Missing, Room, Site, Duplicate, Raster, Shape, Reference, Loop, Use, Align, Long, Outlasts}
use Rattle.answers.specs.Outcome.{Answer, Accepted, Refused}
use Rattle.repeats.specs.Repeats.{duplicate_of}
use Rattle.questions.specs.Asked.{is_big, any_block, is_missing, lacks_room, bad_site, fault_refusal, rule_refusal, in_order}
use Rattle.reader.specs.Reading.{rows_laid, first_refused, shapes_asked, texts_asked, file_asked, asked, zeros, if_accepted, read_of, rows_out, samples_out, Reading}
use Rattle.demands.specs.Answered.{gives_line, Answered, LeftZero, FirstDemand}

-- ---- each answer that is given
number-most : (x : Refusal) → refusal_number x ≤ 17
number-most Big = omega arith
number-most Line = omega arith
number-most Version = omega arith
number-most Section = omega arith
number-most Field = omega arith
number-most Missing = omega arith
number-most Room = omega arith
number-most Site = omega arith
number-most Duplicate = omega arith
number-most Raster = omega arith
number-most Shape = omega arith
number-most Reference = omega arith
number-most Loop = omega arith
number-most Use = omega arith
number-most Align = omega arith
number-most Long = omega arith
number-most Outlasts = omega arith

accepts : (n s : ℕ) → Answered (Accepted n s)
accepts n s = record { numbered = omega arith; lined = tt }

no_line : (x : Refusal) → Answered (Refused x 0)
no_line x = record { numbered = number-most x; lined = λ e. refl }

at-line : (x : Refusal) (line : ℕ) → gives_line x ≡ true → Answered (Refused x line)
at-line x line g = record { numbered = number-most x; lined = λ e. absurd (true≢false (sym g ∙ e)) }

by-test : (b : Bool) (x y : Answer) → Answered x → Answered y → Answered (cond b x y)
by-test true x y p q = p
by-test false x y p q = q

fault-line : (fault : Fault) → gives_line (fault_refusal fault) ≡ true
fault-line LineFault = refl
fault-line VersionFault = refl
fault-line SectionFault = refl
fault-line FieldFault = refl

rule-line : (rule : Rule) → gives_line (rule_refusal rule) ≡ true
rule-line ReferenceRule = refl
rule-line LoopRule = refl
rule-line UseRule = refl
rule-line AlignRule = refl
rule-line LongRule = refl
rule-line OutlastsRule = refl

-- ---- one question after another
rules-answer : (first : Rule → ℕ) (n : ℕ) (rs : List Placed) (a : Answer) → Answered a → (l : List Rule) → Answered (first_refused l first n rs a)
unfolding first_refused
rules-answer first n rs a p [] = p
rules-answer first n rs a p (rule ∷ more) = by-test (ltb (first rule) n) _ _ (at-line (rule_refusal rule) _ (rule-line rule)) (rules-answer first n rs a p more)

file-answers : (file site : List ℕ) (table l : List ℤ) (scan : Scanned) → Answered (file_asked scan file site table l)
unfolding file_asked texts_asked shapes_asked
file-answers file site table l (Err why) = at-line (fault_refusal why.fault) why.line (fault-line why.fault)
file-answers file site table l (Ok got) =
    by-test (is_missing got.edition (any_block (rows_of file)) got.defined) _ _ (no_line Missing)
    (by-test (lacks_room got.rows got.samples (length table) (length l)) _ _ (no_line Room)
    (by-test (bad_site got.edition site) _ _ (no_line Site)
    (by-test (eqb (duplicate_of file) 0) _ _
    (by-test (lacks got.edition (rasters_of got.edition file site)) _ _ (no_line Raster)
    (by-test (ltb (first_failing got.edition file (rows_laid file table) (length l) got.rows) got.rows) _ _ (at-line Shape _ refl) (rules-answer _ got.rows (rows_of file) (Accepted got.rows got.samples) (accepts got.rows got.samples) in_order)))
    (at-line Duplicate _ refl))))

read-answers : (file site : List ℕ) (room size : ℕ) → Answered (read_of file site room size)
unfolding read_of asked
read-answers file site room size = by-test (is_big file site) _ _ (no_line Big) (file-answers file site (zeros room) (zeros size) (scanned_of file))

-- ---- what a refusal leaves
left-zero : (r : Answer) (table l kept samples : List ℤ) → (answer_number r ≡ 0 → ⊥) → LeftZero table l r (if_accepted r kept (zeros (length table))) (if_accepted r samples (zeros (length l)))
left-zero (Ok got) table l kept samples z = absurd (z refl)
left-zero (Err why) table l kept samples z = record { no_rows = refl; no-samples = refl; rows = refl; samples = refl }

-- ---- Demand 1: whatever is read with whatever site into whatever tables, reading answers, and a refusal leaves zeros
pub first-demand : (file site : List ℕ) (table l : List ℤ) (r : Answer) (table' l' : List ℤ) → Reading file site table l r table' l' → FirstDemand table l r table' l'
unfolding rows_out samples_out
first-demand file site table l r table' l' x =
    record {
      answered = rw x.answer (read-answers file site (length table) (length l));
      zero = λ z. rw (x.rows, x.samples, ← x.answer) (left-zero r table l _ _ z);
    }

-- and there is such an answer for every input
pub every-answer : (file site : List ℕ) (table l : List ℤ) → Reading file site table l (read_of file site (length table) (length l)) (rows_out file site (length table) (length l)) (samples_out file site (length table) (length l))
every-answer file site table l = record { answer = refl; rows = refl; samples = refl }
