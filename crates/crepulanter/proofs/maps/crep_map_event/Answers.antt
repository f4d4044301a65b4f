-- What a trace of one event byte is said to do, the event does, by `map_run_event`. Assumes nothing.
use Rattle.crepulanter.proofs.OneEvent.{map_run_event}
use Rattle.crepulanter.proofs.maps.crep_map_event.Goals as goal

pub returns : goal.returns
returns c = map_run_event _ _ _ _ _ _ _ _ _ c.crep_map_run-refused.ensures
