-- One turn is one place of `stored_to`. Assumes nothing.
use Rattle.std.proofs.Common.{refl, add-one}
use Rattle.parts.specs.Wait.{stored_to}
use Rattle.parts.proofs.wait.store.Goals as goal

pub loop-k-init : goal.loop-k-init
unfolding stored_to
loop-k-init c = refl

pub loop-k-preserved : goal.loop-k-preserved
unfolding stored_to
loop-k-preserved c = rw (add-one, c.put.ensures, c.is_chosen.ensures, c.loop-k.invariant) refl
