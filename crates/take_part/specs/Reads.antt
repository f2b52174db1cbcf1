-- A part that is read.
use Rattle.std.specs.Prelude.{ℕ, List, length}
use Rattle.marks.specs.Forms.{flags}
use Rattle.parts.specs.Parts.{Stage, stage, fed}
use Rattle.parts.specs.Parts.Status.{going}
use Rattle.parts.specs.Forms.{in_form}
use Rattle.session.specs.declared.Session.{Session}
use Rattle.session.specs.Sessions.{going_of}

-- what the characters of a part make of a load that goes on: base, memory, marks in the form of the load, part
abbrev pub read_in : Session → ℕ → List ℕ → List ℕ → List ℕ → Stage
read_in s base memory marks part =
    in_form s.form (fed base (stage (going (going_of s)) memory (flags s.form (length memory) marks)) part)
