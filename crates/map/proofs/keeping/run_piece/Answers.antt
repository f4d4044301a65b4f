-- The piece is run as a whole, and then its first event is followed. Assumes nothing.
use Rattle.std.proofs.Common.{ap, ◌∙◌}
use Rattle.refusals.proofs.Numbers.{taken as told_ok}
use Rattle.chip.specs.declared.wire.Event.{Event}
use Rattle.trace.specs.Trace.{Ran}
use Rattle.trace.proofs.RunLaws.{run_taken}
use Rattle.map.specs.Keeping.{ended}
use Rattle.map.proofs.KeepLaws.{ended_taken}
use Rattle.map.proofs.PieceLaws.{chip_left, array_left, map_left, told_left, array_whole}
use Rattle.map.proofs.keeping.run_piece.Goals as goal

pub unwrap-requires : goal.unwrap-requires
unwrap-requires c =
    let taken = c.requires.taken in
    told_ok c.run.result (ap (λ (r : Ran). r.refusal) c.run.ensures.value ∙ run_taken _ _ _ _ taken.chip taken.few taken.room taken.events)

pub follow-requires : goal.follow-requires
follow-requires c =
    let said = c.run.ensures in
    (rw c.ended_by-target.ensures (ended_taken _ _ _ c.requires.taken.chip), c.requires.taken.map, array_whole _ _ _ _ _ c.requires _ _ _ said.value said.array_after said.answers_after)

pub returns : goal.returns
returns c =
    let said = c.run.ensures in
    let target = c.ended_by-target.ensures ∙ ap (λ (e : Event). ended e c.args.chip.now) c.event_of.ensures in
    record {
      chip = chip_left _ _ _ _ _ c.requires _ _ _ said.value said.array_after said.answers_after;
      array_after = array_left _ _ _ _ _ c.requires _ _ _ said.value said.array_after said.answers_after;
      map_after = c.follow.ensures ∙ map_left _ _ _ _ _ c.requires _ _ _ said.value said.array_after said.answers_after _ target;
      answers_after = told_left _ _ _ _ _ c.requires _ _ _ said.value said.array_after said.answers_after;
    }
