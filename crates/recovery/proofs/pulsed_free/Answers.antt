-- A pulse is the next of those to come; a high line, or the tenth, is the end. Assumes nothing.
use Rattle.std.proofs.Common.{sym, ap, ◌∙◌, ◌+◌, ◌-◌, arith}
use Rattle.chip.specs.Event.{refusal}
use Rattle.chip.specs.Run.{World}
use Rattle.recovery.specs.Recovery.{Freed, pulsed}
use Rattle.recovery.proofs.PulseLaws.{pulsed_high, pulsed_low, pulsed_tenth, pulse_taken}
use Rattle.recovery.proofs.pulsed_free.Goals as goal

pub loop-chip-preserved : goal.loop-chip-preserved
loop-chip-preserved c =
    let once = c.pulsed_once.ensures in
    let low = sym (ap (λ (w : World). w.chip.line) once) ∙ c.if-chip.false in
    let k = c.loop-chip.k in
    let pin = c.args.pin in (
      omega arith,
      ap (λ (w : World). pulsed (10 - (k + 1)) (k + 1) pin w) once ∙ sym (pulsed_low pin _ k (omega arith) low) ∙ c.loop-chip.invariant.1,
      ap (λ (w : World). refusal w.chip w.array) once ∙ pulse_taken pin _ c.loop-chip.invariant.2,
    )

pub returns-then-chip : goal.returns-then-chip
returns-then-chip c =
    let once = c.pulsed_once.ensures in
    let high = sym (ap (λ (w : World). w.chip.line) once) ∙ c.if-chip.true in
    let done = sym (pulsed_high _ _ (10 - c.loop-chip.k) c.loop-chip.k high) ∙ c.loop-chip.invariant.1 in
    (once ∙ ap (λ (f : Freed). f.world) done, ap (λ (f : Freed). f.pulses) done)

pub returns-then-k-eq10 : goal.returns-then-k-eq10
returns-then-k-eq10 c =
    let once = c.pulsed_once.ensures in
    let done = sym (pulsed_tenth _ _ c.loop-chip.k c.if-k-eq10.true) ∙ c.loop-chip.invariant.1 in
    (once ∙ ap (λ (f : Freed). f.world) done, ap (λ (f : Freed). f.pulses) done)
