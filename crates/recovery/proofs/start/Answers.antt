-- A run of its event byte. Assumes nothing.
use Rattle.std.proofs.Common.{refl, ap}
use Rattle.trace.specs.Trace.{Ran}
use Rattle.recovery.proofs.PulseLaws.{start_runs, run_start, ran_ok}
use Rattle.recovery.proofs.start.Goals as goal

pub unwrap-requires : goal.unwrap-requires
unwrap-requires c = ran_ok _ _ _ c.run.ensures.value (rw c.start_bytes.ensures (start_runs _ _ _ _ c.requires refl))

pub returns : goal.returns
returns c =
    let chip = ap (λ (r : Ran). r.chip) c.run.ensures.value in
    rw (chip, c.run.ensures.array_after, c.start_bytes.ensures) (run_start _ _ _ _ c.requires refl)
