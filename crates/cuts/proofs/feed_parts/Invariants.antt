-- The parts of the characters that are left, fed behind those before, come to what all parts come to.
use Rattle.std.proofs.Common.{◌≡◌}
use Rattle.std.specs.Slice.Iter.{chunks_rest, chunks_size}
use Rattle.marks.specs.declared.Form.TheVariants.{Bytes}
use Rattle.parts.specs.Parts.{stage}
use Rattle.session.specs.Sessions.{status_of}
use Rattle.cuts.proofs.CutLaws.{Behind}
use Rattle.cuts.proofs.feed_parts.Given as goal

abbrev pub invariant-loop-part : goal.invariant-loop-part
invariant-loop-part l = record {
  by_size : chunks_size l.part-iterator ≡ l.size;
  behind : Behind l.base l.size l.text (stage (status_of l.fn.session) l.initial.memory l.initial.marks) (chunks_rest l.part-iterator)
      (stage (status_of l.s) l.memory l.marks);
  form : l.s.form ≡ Bytes;
}
