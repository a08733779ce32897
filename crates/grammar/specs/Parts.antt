-- A part of a text: what stands there, where it stands in a longer text, and the part that is none.
use Rattle.std.specs.Prelude.{ℕ, ◌+◌, ◌-◌, List, take, drop}
use Rattle.fields.specs.declared.Part.{Part}

-- the bytes from its start to before its stop
abbrev pub bytes_at : List ℕ → Part → List ℕ
bytes_at text p = take (p.stop - p.start) (drop p.start text)

-- a part of a line, in the text where the line starts at a place
unfoldable pub moved_by : ℕ → Part → Part
moved_by at p = record { start = at + p.start; stop = at + p.stop }

-- "empty if neither": no part at all
abbrev pub no_part : Part
no_part = record { start = 0; stop = 0 }
