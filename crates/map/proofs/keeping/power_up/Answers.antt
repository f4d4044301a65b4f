-- What waited in a chip that is not refused is in its range, beside a whole array and a map. Assumes nothing.
use Rattle.std.proofs.Common.{ap, ◌∙◌}
use Rattle.refusals.specs.Refusals.{status_of}
use Rattle.chip.specs.declared.wire.Event.TheVariants.{PowerUp}
use Rattle.chip.proofs.EventLaws.{taken_of}
use Rattle.map.proofs.KeepLaws.{ended_taken, call_taken}
use Rattle.map.proofs.keeping.power_up.Goals as goal

pub follow-requires : goal.follow-requires
follow-requires c =
    let taken = call_taken (PowerUp c.args.choices) _ _ _ c.check.ensures c.with_map.ensures (ap status_of c.in_ok-with_map.was) in
    (rw c.ended_by-target.ensures (ended_taken _ _ _ taken.0), taken.1, c.power_up-answer.auto.array ∙ (taken_of _ _ taken.0).0)
