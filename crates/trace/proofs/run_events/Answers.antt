-- Before each turn the trace is `Going`. Assumes nothing.
use Rattle.std.proofs.Common.{ap, arith}
use Rattle.chip.specs.Run.{World}
use Rattle.chip.specs.Transfer.{Moved}
use Rattle.trace.proofs.RunLaws.{going_again, going_ends}
use Rattle.trace.proofs.run_events.Goals as goal

pub loop-i-preserved : goal.loop-i-preserved
loop-i-preserved c =
    let chip = ap (λ (m : Moved). m.chip) c.next-note.ensures.0 in
    let note = ap (λ (m : Moved). m.note) c.next-note.ensures.0 in
    rw (c.answer_byte.ensures, c.note_or_0.ensures, chip, note, c.next-note.ensures.1, c.event_of.ensures)
    (going_again _ _ _ _ _ _ _ c.loop-i.invariant c.loop-i-test.true (omega arith))

pub returns : goal.returns
returns c =
    let end = going_ends _ _ _ _ _ _ _ c.loop-i.invariant c.loop-i-test.false in
    record {
      chip = ap (λ (w : World). w.chip) end.0;
      array_after = ap (λ (w : World). w.array) end.0;
      answers_after = end.1;
    }
