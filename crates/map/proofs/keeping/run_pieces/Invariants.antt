-- Before each piece the trace is `Going`, with the map kept so far.
use Rattle.std.proofs.Common.{◌-◌, length}
use Rattle.chip.specs.Run.{world}
use Rattle.map.proofs.RunLaws.{Running}
use Rattle.map.proofs.keeping.run_pieces.Given as goal

abbrev pub invariant-loop-i : goal.invariant-loop-i
invariant-loop-i l = Running l.trace l.fn.answers (world l.fn.chip l.fn.array) l.fn.map l.i l.chip l.array l.map l.answers

abbrev pub decreases-loop-i : goal.decreases-loop-i
decreases-loop-i l = length l.trace - l.i
