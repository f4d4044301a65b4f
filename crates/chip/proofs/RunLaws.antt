-- What every event keeps, a row of events keeps: range, length, part, select and spoil byte, and under a high pin PPEN, BL and every locked byte.
-- Assumes nothing.
use mathlib.Core.Bool.{true, false, false≢true}
use mathlib.Core.Path.{◌≡◌, refl, sym, ap, ◌∙◌}
use mathlib.Core.List.{List}
use lib.ListN.{length}
use Rattle.parts.specs.Register.{has_register}
use Rattle.parts.proofs.RowLaws.{stepped_each, stepped_by}
use Rattle.chip.specs.Chip.{chip_fits}
use Rattle.chip.specs.Event.{next, refusal}
use Rattle.chip.specs.Run.{World, step, ran}
use Rattle.chip.specs.View.{pin_high, pins_high, is_locks, open_to, SameMake, SoundChip, PinGuards, GuardedBy}
use Rattle.chip.specs.declared.wire.Event.{Event}
use Rattle.chip.proofs.EventLaws.{next_taken}
use Rattle.chip.proofs.LockLaws.{Open, locked_kept, locks_kept, guarded_wait, next_sound}
use Rattle.chip.proofs.RangeLaws.{next_fits, next_same, AllBytes, next_bytes}
use Rattle.chip.proofs.ViewLaws.{next_length}

-- the range
pub ran_fits : (es : List Event) (w : World) → chip_fits w.chip ≡ true → chip_fits (ran es w).chip ≡ true
ran_fits es w h = stepped_by step (λ v. chip_fits v.chip ≡ true) (λ e v. unfold step in next_fits e v.chip v.array) es w h

-- the array's length
pub ran_length : (es : List Event) (w : World) → length (ran es w).array ≡ length w.array
ran_length es w =
    stepped_by step (λ v. length v.array ≡ length w.array) (λ e v h. unfold step in next_length e v.chip v.array ∙ h) es w refl

-- a row after what is not refused is not refused anywhere
pub ran_taken : (es : List Event) (w : World) → refusal w.chip w.array ≡ 0 → refusal (ran es w).chip (ran es w).array ≡ 0
ran_taken es w h = stepped_by step (λ v. refusal v.chip v.array ≡ 0) (λ e v. unfold step in next_taken e v.chip v.array) es w h

-- part, select and spoil byte
pub ran_same : (es : List Event) (w : World) → SameMake w.chip (ran es w).chip
ran_same es w =
    stepped_by step (λ v. SameMake w.chip v.chip)
    (λ e v h. unfold step in
    let same = next_same e v.chip v.array in
    (same.0 ∙ h.0, same.1 ∙ h.1, same.2 ∙ h.2))
    es w (refl, refl, refl)

-- bytes
pub ran_bytes : (es : List Event) (w : World) → AllBytes w.chip w.array → AllBytes (ran es w).chip (ran es w).array
ran_bytes es w h = stepped_by step (λ v. AllBytes v.chip v.array) (λ e v. unfold step in next_bytes e v.chip v.array) es w h

-- busy exactly where something waits, and no sector waits that is locked whatever the pin
pub ran_sound : (es : List Event) (w : World) → SoundChip w.chip → SoundChip (ran es w).chip
ran_sound es w h = stepped_by step (λ v. SoundChip v.chip) (λ e v. unfold step in next_sound e v.chip v.array) es w h

-- an event with the pin high keeps what is guarded
guarded_step : (before : World) → PinGuards before.chip → (e : Event) (w : World) → pin_high e ≡ true → GuardedBy before w → GuardedBy before (step e w)
unfolding step
guarded_step before guarded e w high g =
    record {
      part = same.0 ∙ g.part;
      select = same.1 ∙ g.select;
      ppen = keeps.0 ∙ g.ppen;
      bl = keeps.1 ∙ g.bl;
      unlocked = λ busy. rw (← g.part, ← g.bl) (waiting.0 busy);
      unmarked = waiting.1;
      bytes = λ a shut. locked_kept true e w.chip w.array open' a (rw (g.part, g.bl) shut) ∙ g.bytes a shut;
    }
  where
    same : SameMake w.chip (next e w.chip w.array).chip
    same = next_same e w.chip w.array

    open' : Open true w.chip
    open' busy = rw (g.part, g.bl) (g.unlocked busy)

    keeps : ((next e w.chip w.array).chip.register.ppen ≡ w.chip.register.ppen) × ((next e w.chip w.array).chip.register.bl ≡ w.chip.register.bl)
    keeps = locks_kept e w.chip w.array (λ other. g.unmarked)

    waiting : ((next e w.chip w.array).chip.busy ≡ true → open_to w.chip.part w.chip.register.bl true (next e w.chip w.array).chip.wait.target ≡ true)
        × ((next e w.chip w.array).chip.busy ≡ true → is_locks (next e w.chip w.array).chip.wait.target ≡ false)
    waiting = guarded_wait e w.chip w.array (λ has. g.ppen ∙ guarded (ap has_register (sym g.part) ∙ has)) high open' g.unmarked

-- over any row of events with the pin high, an idle chip that the pin guards keeps part, select, PPEN, BL and every locked byte
pub ran_guarded : (es : List Event) (w : World) → PinGuards w.chip → w.chip.busy ≡ false → pins_high es ≡ true → GuardedBy w (ran es w)
ran_guarded es w guarded idle high =
    stepped_each step pin_high (λ v. GuardedBy w v) (guarded_step w guarded) es w high
    (record {
      part = refl;
      select = refl;
      ppen = refl;
      bl = refl;
      unlocked = λ busy. absurd (false≢true (sym idle ∙ busy));
      unmarked = λ busy. absurd (false≢true (sym idle ∙ busy));
      bytes = λ a shut. refl;
    })
