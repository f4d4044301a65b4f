-- Before each turn the label's bytes before the place stand behind the first six.
use Rattle.std.proofs.Common.{◌≡◌}
use Rattle.std.proofs.Math.Seq.{paste}
use Rattle.gate.proofs.form.put_record.Given as goal

abbrev pub invariant-loop-place : goal.invariant-loop-place
invariant-loop-place l = l.buffer ≡ paste l.initial.buffer 6 l.label l.place
