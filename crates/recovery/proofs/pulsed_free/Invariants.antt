-- Before pulse k the pulses still to come, 10 - k after it, lead where all ten lead.
use Rattle.std.proofs.Common.{◌≡◌, ◌≤◌, ◌-◌}
use Rattle.chip.specs.Event.{refusal}
use Rattle.chip.specs.Run.{world}
use Rattle.recovery.specs.Recovery.{pulsed, freed}
use Rattle.recovery.proofs.pulsed_free.Given as goal

abbrev pub invariant-loop-chip : goal.invariant-loop-chip
invariant-loop-chip l =
    (l.k ≤ 10)
    × (pulsed (10 - l.k) l.k l.pin (world l.chip l.array) ≡ freed l.pin (world l.fn.chip l.fn.array))
    × (refusal l.chip l.array ≡ 0)

abbrev pub decreases-loop-chip : goal.decreases-loop-chip
decreases-loop-chip l = 10 - l.k
