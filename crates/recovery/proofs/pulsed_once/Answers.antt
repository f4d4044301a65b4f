-- A run of its two event bytes. Assumes nothing.
use Rattle.std.proofs.Common.{refl, ap}
use Rattle.trace.specs.Trace.{Ran}
use Rattle.recovery.proofs.PulseLaws.{pulse_runs, run_pulse, ran_ok}
use Rattle.recovery.proofs.pulsed_once.Goals as goal

pub unwrap-requires : goal.unwrap-requires
unwrap-requires c = ran_ok _ _ _ c.run.ensures.value (rw c.pulse_bytes.ensures (pulse_runs _ _ _ _ c.requires refl))

pub returns : goal.returns
returns c =
    let chip = ap (λ (r : Ran). r.chip) c.run.ensures.value in
    rw (chip, c.run.ensures.array_after, c.pulse_bytes.ensures) (run_pulse _ _ _ _ c.requires refl)
