-- After k turns the array is `stored_to k`.
use Rattle.std.proofs.Common.{◌≡◌}
use Rattle.parts.specs.Wait.{stored_to, taking}
use Rattle.parts.proofs.wait.store.Given as goal

abbrev pub invariant-loop-k : goal.invariant-loop-k
invariant-loop-k l = l.array ≡ stored_to l.k l.fn.array l.start (taking l.places l.choices) l.bytes
