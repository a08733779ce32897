-- A shape sought line by line: what the lines that are left give, the whole search gives. Assumes nothing.
use Prim.Native.Nat.{ℕ, suc, ◌+◌, ◌-◌, ◌≤◌}
use mathlib.Core.Bool.{Bool, true, false, cond, ◌&&◌}
use mathlib.Core.List.{List}
use mathlib.Core.Path.{◌≡◌}
use native.Mathlib.Numerals.{add-one}
use native.Mathlib.Omega.{arith}
use lib.IntN.{ℤ, pos}
use lib.ListN.{length, get_or, take, drop, drop_of_length-le}
use Rattle.text.specs.Lines.{lines_of, whole_lines_of}
use Rattle.text.specs.Marks.{mark_of}
use Rattle.signed.specs.Signed.{same_z}
use Rattle.columns.specs.Columns.{shape_kind}
use Rattle.text.specs.declared.Line.{Line}
use Rattle.text.proofs.Cut.{LineAt, WholeAt}
use Rattle.grammar.specs.Parts.{no_part}
use Rattle.grammar.specs.Steps.{step_of}
use Rattle.grammar.proofs.Parts.{whole-ends}
use Rattle.places.specs.declared.Stepped.{Stepped}
use Rattle.places.specs.declared.State.{State}
use Rattle.file.specs.Whole.{is_fault, is_row}
use Rattle.passing.specs.Sound.{sound_from}
use Rattle.passing.specs.Passing.{passes_of}
use Rattle.passing.proofs.Over.{Gave, nothing, columns, Over}
use Rattle.passing.proofs.Sound.{sound-here, sound-next, sound-over, sound-behind}
use Rattle.stored.specs.Shapes.{is_shape}
use Rattle.stored.specs.Places.{values_part}
use Rattle.stored.specs.Inside.{id_of, is_wanted, passed_of, behind_from, sought_from, sought_of}
use Rattle.file.specs.declared.Walk.{Walk}
use Rattle.stored.proofs.Counted.{form-other}
use Rattle.stored.proofs.Stored.{behind-at}

-- ---- a line that is passed over is no shape
pub over-no-shape : (id : ℤ) (st : State) (s : Stepped) → Over st s → is_shape id s ≡ false
unfolding is_shape is_row same_z
over-no-shape id st s o = go o.gave
  where
    go : Gave s → is_row s.found && (same_z (get_or s.cells 0 (pos 0)) (pos shape_kind) && same_z (get_or s.cells 1 (pos 0)) id) ≡ false
    go (nothing e) = rw e
    go (columns form e k) = rw (e, k, form-other form)

pub over-passed : (walk : Walk) (s : Stepped) → Over walk.state s → (behind : ℕ)
    → passed_of walk s behind ≡ record { at = behind; lines = suc walk.lines; state = walk.state }
unfolding passed_of
over-passed walk s o behind = rw o.next

pub wanted-any : (any : Bool) (id : ℤ) (s : Stepped) → any ≡ true → is_shape (id_of s) s ≡ is_wanted any id s
unfolding is_wanted
wanted-any any id s e = rw e

pub wanted-one : (any : Bool) (id : ℤ) (s : Stepped) → any ≡ false → is_shape id s ≡ is_wanted any id s
unfolding is_wanted
wanted-one any id s e = rw e

not-wanted : (any : Bool) (id : ℤ) (st : State) (s : Stepped) → Over st s → is_wanted any id s ≡ false
unfolding is_wanted
not-wanted any id st s o = over-no-shape (cond any (id_of s) id) st s o

-- ---- the loop to the shape
pub record Seeking (file : List ℕ) (any : Bool) (id : ℤ) (from walk : Walk) : Type 0 where
  pub lines : walk.lines ≤ walk.at
  pub sound : sound_from walk.state (suc walk.lines) (lines_of (drop walk.at file)) ≡ true
  pub same : sought_of file walk any id ≡ sought_of file from any id

module _ (file : List ℕ) (any : Bool) (id : ℤ) (from walk : Walk) (k : Seeking file any id from walk) where
  module _ (r : Line) (l : LineAt file walk.at r) (w : WholeAt file walk.at r) where
    abbrev step : Stepped
    step = step_of walk.state (suc walk.lines) (take (r.stop - walk.at) (drop walk.at file))

    -- a line that is passed over
    pub seek-pass : passes_of walk.state.place (mark_of (take (r.stop - walk.at) (drop walk.at file))) ≡ true
        → Seeking file any id from (record { at = r.next; lines = walk.lines + 1; state = walk.state })
    unfolding sought_of sought_from
    seek-pass p =
        let a = k.lines in
        let b = l.further in
        let o = sound-over l walk.state (suc walk.lines) k.sound p in
        let e = sound-here l walk.state (suc walk.lines) k.sound in
        rw (add-one walk.lines)
        (record {
          lines = omega arith;
          sound = sound-behind l walk.state (suc walk.lines) k.sound p;
          same = rw (w.whole, w.bare, e, not-wanted any id walk.state step o, whole-ends l, over-passed walk step o r.next) at k.same;
        })

    -- a line that is read
    module _ (s : Stepped) (p : s ≡ step_of walk.state (walk.lines + 1) (take (r.stop - walk.at) (drop walk.at file))) (passed : Walk) (q : passed ≡ passed_of walk s r.next) where
      step_is : s ≡ step
      step_is = rw (add-one walk.lines) at p

      no-fault : is_fault s.found ≡ false
      no-fault = rw step_is (sound-here l walk.state (suc walk.lines) k.sound)

      pub seek_hit : is_wanted any id s ≡ true → (ended : Walk) → ended ≡ behind_from passed (whole_lines_of (drop passed.at file)) → (own : ℤ) → own ≡ id_of s
          → record { part = record { start = r.next; stop = ended.at }; id = own; walk = ended } ≡ sought_of file from any id
      unfolding sought_of sought_from values_part passed_of behind_from
      seek_hit f ended h own o =
          rw (h, q, o, behind-at (passed_of walk s r.next) (whole_lines_of (drop r.next file)))
          (rw (w.whole, w.bare, ← step_is, no-fault, f, whole-ends l) at k.same)

      pub seek-turn : is_wanted any id s ≡ false → Seeking file any id from passed
      unfolding sought_of sought_from passed_of
      seek-turn f =
          let a = k.lines in
          let b = l.further in
          rw q
          (record {
            lines = omega arith;
            sound = rw (← step_is) at (sound-next l walk.state (suc walk.lines) k.sound);
            same = rw (w.whole, w.bare, ← step_is, no-fault, f, whole-ends l) at k.same;
          })

  pub seek-end : length file ≤ walk.at → record { part = no_part; id = pos 0; walk = walk } ≡ sought_of file from any id
  unfolding sought_of sought_from whole_lines_of
  seek-end h = rw (drop_of_length-le file h) at k.same

-- the walk behind a line, as it is put together
pub passed_is : (walk : Walk) (s : Stepped) (behind : ℕ) → record { at = behind; lines = walk.lines + 1; state = s.next } ≡ passed_of walk s behind
unfolding passed_of
passed_is walk s behind = rw (add-one walk.lines)
