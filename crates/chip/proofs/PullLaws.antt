-- A chip that pulls holds the line low, so no STOP comes to it. Its own pull is a START only where its last line is high, and no run makes such a
-- chip: a sample keeps the line with the pull after it, and a chip that turns busy is in standby. Assumes nothing.
use Prim.Native.Nat.{ℕ}
use mathlib.Core.Bool.{Bool, true, false, cond, not, false≢true}
use mathlib.Core.Path.{◌≡◌, refl, sym, ap, ◌∙◌}
use mathlib.Core.List.{List}
use Rattle.parts.specs.Phase.{phase_fits, phase_pulls}
use Rattle.parts.specs.declared.phase.Phase.TheVariants.{AckWrite}
use Rattle.parts.specs.Wait.{no_wait, every_place, target_fits}
use Rattle.parts.proofs.CondLaws.{cond_by, cond_false, and_right}
use Rattle.parts.proofs.RowLaws.{stepped_by}
use Rattle.chip.specs.Chip.{with_cycle, with_levels, chip_fits, pulls, cut_register, at_power_up, new_chip}
use Rattle.chip.specs.Event.{next, line_in, edge_in, program_done}
use Rattle.chip.specs.Run.{World, step, ran}
use Rattle.chip.specs.Stop.{effect_moved}
use Rattle.chip.specs.Transfer.{at_phase}
use Rattle.chip.specs.View.{is_stop, stops, Shows}
use Rattle.chip.specs.Wire.{line_of, edge_of}
use Rattle.chip.specs.declared.chip.Chip.{Chip}
use Rattle.chip.specs.declared.wire.Edge.TheVariants.{Quiet, Start}
use Rattle.chip.specs.declared.wire.Event.{Event}
use Rattle.chip.specs.declared.wire.Event.TheVariants.{Sample, ProgramDone, PowerUp}
use Rattle.chip.specs.declared.wire.Sample.{Sample as Levels}
use Rattle.chip.proofs.EventLaws.{busy_sample, sample_line}
use Rattle.chip.proofs.StepLaws.{next_by}

-- a low line makes no STOP, whatever the clock does and the line was
pub low_line : (scl scl' line : Bool) → is_stop (edge_of scl scl' line false) ≡ false
unfolding edge_of is_stop
low_line true true true = refl
low_line true true false = refl
low_line true false line = refl
low_line false true line = refl
low_line false false line = refl

-- in a sample in which the chip pulls the line is low
pub pulled_line : (c : Chip) (s : Levels) → pulls c ≡ true → line_in c s ≡ false
pulled_line c s pulling = rw pulling

-- no event is a STOP for a chip that pulls
pub pulling_unstopped : (e : Event) (c : Chip) → pulls c ≡ true → stops e c ≡ false
unfolding stops
pulling_unstopped (Sample s) c pulling = ap (λ line. is_stop (edge_of c.scl s.scl c.line line)) (pulled_line c s pulling) ∙ low_line c.scl s.scl c.line
pulling_unstopped ProgramDone c pulling = refl
pulling_unstopped (PowerUp choices) c pulling = refl

-- with SCL high before and now, a low line is a START where the line was high, and no edge where it was low
pub low_starts : (line : Bool) → edge_of true true line false ≡ cond line Start Quiet
unfolding edge_of
low_starts true = refl
low_starts false = refl

-- so its own pull is a START where the last line is high, and no edge where it is low
pub pulling_edge : (c : Chip) (s : Levels) → pulls c ≡ true → c.scl ≡ true → s.scl ≡ true → edge_in c s ≡ cond c.line Start Quiet
pulling_edge c s pulling before now = rw (pulling, before, now) (low_starts c.line)

-- such a chip can be handed in: in range, it pulls, and SCL and line are high
pub pulling_high : let c : Chip = with_levels (at_phase (new_chip 0 0) AckWrite) true true in
    (chip_fits c ≡ true) × (pulls c ≡ true) × (c.scl ≡ true) × (c.line ≡ true)
unfolding chip_fits phase_fits target_fits pulls phase_pulls
pulling_high = (refl, refl, refl, refl)

-- where its pull is on its line it is no edge
pub shown_edge : (c : Chip) (s : Levels) → Shows c → pulls c ≡ true → c.scl ≡ true → s.scl ≡ true → edge_in c s ≡ Quiet
unfolding pulls
shown_edge c s shows pulling before now =
    pulling_edge c s pulling before now ∙ cond_false c.line Start Quiet (shows (and_right (not c.busy) (phase_pulls c.phase) pulling)).1

-- an idle chip pulls where its phase does
pulls_so : (c : Chip) → c.busy ≡ false → phase_pulls c.phase ≡ true → pulls c ≡ true
unfolding pulls
pulls_so c idle pulling = rw (idle, pulling)

-- a chip that turns busy is in standby, so what an event leaves of an idle chip does not pull where it is busy
turned_busy : (e : Event) (c : Chip) (xs : List ℕ) → c.busy ≡ false → (next e c xs).chip.busy ≡ true → phase_pulls (next e c xs).chip.phase ≡ false
unfolding effect_moved phase_pulls
turned_busy e c xs idle =
    next_by (λ m ys. m.chip.busy ≡ true → phase_pulls m.chip.phase ≡ false) e c xs
    (λ m ys scl line quiet. quiet)
    (λ phase counter mark load note m busy. absurd (false≢true (sym idle ∙ busy)))
    (λ stopped marks busy. refl)
    (λ short counted stopped writable busy. refl)
    (λ done cycle busy. absurd (false≢true busy), λ up busy. refl)

-- a chip at power-up pulls nowhere
pub up_shows : (part select : ℕ) (ppen : Bool) (bl spoil : ℕ) → Shows (at_power_up part select ppen bl spoil)
unfolding phase_pulls
up_shows part select ppen bl spoil pulling = absurd (false≢true pulling)

-- an event leaves a chip whose pull is on its line another such
pub next_shows : (e : Event) (c : Chip) (xs : List ℕ) → Shows c → Shows (next e c xs).chip
next_shows (Sample s) c xs shows = shown
  where
    after : Chip
    after = (next (Sample s) c xs).chip

    low : phase_pulls after.phase ≡ true → after.busy ≡ false → after.line ≡ false
    low pulling idle = sample_line s c xs ∙ ap (λ pull. line_of pull s.sda) (pulls_so after idle pulling)

    idle_too : phase_pulls after.phase ≡ true → (busy : Bool) → after.busy ≡ busy → c.busy ≡ false → after.busy ≡ false
    idle_too pulling false b idle = b
    idle_too pulling true b idle = absurd (false≢true (sym (turned_busy (Sample s) c xs idle b) ∙ pulling))

    go : phase_pulls after.phase ≡ true → (busy : Bool) → c.busy ≡ busy → (after.busy ≡ false) × (after.line ≡ false)
    go pulling false b = (idle_too pulling after.busy refl b, low pulling (idle_too pulling after.busy refl b))
    go pulling true b = absurd (false≢true (sym (shows (sym (ap (λ m. phase_pulls m.chip.phase) (busy_sample s c xs b)) ∙ pulling)).0 ∙ b))

    shown : Shows after
    shown pulling = go pulling c.busy refl
next_shows ProgramDone c xs shows = unfold next program_done in cond_by Shows c.busy (with_cycle c (cut_register every_place c) false no_wait) c (λ b pulling. (refl, (shows pulling).1)) (λ b. shows)
next_shows (PowerUp choices) c xs shows = unfold next phase_pulls in (λ pulling. absurd (false≢true pulling))

-- and so does a row of events
pub ran_shows : (es : List Event) (w : World) → Shows w.chip → Shows (ran es w).chip
ran_shows es w h = stepped_by step (λ v. Shows v.chip) (λ e v. unfold step in next_shows e v.chip v.array) es w h
