-- What a trace of one event byte is said to do, the event does, by `run_event`. Assumes nothing.
use Rattle.crepulanter.proofs.OneEvent.{run_event}
use Rattle.crepulanter.proofs.chips.crep_event.Goals as goal

pub returns : goal.returns
returns c = run_event _ _ _ _ _ _ _ c.crep_run-refused.ensures
