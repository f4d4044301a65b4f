-- Before each turn the trace is `Going`.
use Rattle.chip.specs.Run.{world}
use Rattle.trace.proofs.RunLaws.{Going}
use Rattle.trace.proofs.run_events.Given as goal

abbrev pub invariant-loop-i : goal.invariant-loop-i
invariant-loop-i l = Going l.trace l.fn.answers (world l.fn.chip l.fn.array) l.i l.chip l.array l.answers
