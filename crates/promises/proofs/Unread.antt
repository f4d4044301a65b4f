-- What a part without a register carries of one is not read: two such chips that differ in register bits and mark alone answer every event alike, and stay so. One chip and
-- the same with these cleared are followed through each rule; two chips are compared by way of that one. Assumes nothing.
use Prim.Native.Nat.{ℕ, zero, suc, ◌+◌, ◌*◌}
use mathlib.Core.Bool.{Bool, true, false, cond}
use mathlib.Core.List.{List, [], ◌∷◌}
use mathlib.Core.Path.{◌≡◌, refl, sym, ap, ap₂, subst, ◌∙◌}
use lib.Dec.{eqb}
use lib.ListN.{length}
use Rattle.parts.specs.Load.{no_load}
use Rattle.parts.specs.Phase.{phase_fits}
use Rattle.parts.specs.Register.{has_register}
use Rattle.parts.specs.Rows.{stepped}
use Rattle.parts.specs.Sector.{sector_start}
use Rattle.parts.specs.Wait.{no_wait, target_fits}
use Rattle.parts.specs.declared.phase.Phase.{Phase}
use Rattle.parts.specs.declared.phase.Phase.TheVariants.{Standby, Slave, First, Second, Data, AckWrite, AckRead, AckFirst, AckByte, Sending, Waiting, Next}
use Rattle.chip.specs.Chip.{with_transfer, with_cycle, with_levels, chip_fits, pulls, cut_array, new_chip}
use Rattle.chip.specs.Event.{next, next_array, sampled, judged, reacted, line_in, edge_in, settled, program_done, refusal, answered, refused, event_answer, event_array}
use Rattle.chip.specs.Part.{selects, marked}
use Rattle.chip.specs.Run.{world, step, note_of, lines, notes}
use Rattle.chip.specs.Stop.{Effect, Nothing, Change, Store, Spoil, stop_effect, right_effect, array_effect, effect_moved}
use Rattle.chip.specs.Transfer.{Moved, quiet, at_phase, fall_in, slave_taken, address_taken, array_data, register_data, byte_begun, byte_ended}
use Rattle.chip.specs.Wire.{line_of}
use Rattle.chip.specs.declared.chip.Chip.{Chip}
use Rattle.chip.specs.declared.wire.Edge.{Edge}
use Rattle.chip.specs.declared.wire.Edge.TheVariants.{Quiet, Start, Stop, Rise, Fall}
use Rattle.chip.specs.declared.wire.Event.{Event}
use Rattle.chip.specs.declared.wire.Event.TheVariants.{Sample, ProgramDone, PowerUp}
use Rattle.chip.proofs.PartLaws.{unmarked, always_enabled, locked_by_pin}
use Rattle.chip.proofs.RangeLaws.{next_same}
use Rattle.promises.specs.Unread.{bare, Alike, AlikeAnswers, AlikeRuns}

-- the same note, and the same chip but for register and mark
record Same (m n : Moved) : Type 0 where
  chip : bare m.chip ≡ bare n.chip
  note : m.note ≡ n.note

-- of two chips with note 0
same_quiet : {c d : Chip} → bare c ≡ bare d → Same (quiet c) (quiet d)
same_quiet e = record { chip = e; note = refl }

-- by a test, each with its own
same_by : (b : Bool) {m m' n n' : Moved} → Same m n → Same m' n' → Same (cond b m m') (cond b n n')
same_by true first second = first
same_by false first second = second

bare_by : (b : Bool) (c c' d d' : Chip) → bare c ≡ bare d → bare c' ≡ bare d' → bare (cond b c c') ≡ bare (cond b d d')
bare_by true c c' d d' first second = first
bare_by false c c' d d' first second = second

module _ (c : Chip) (none : has_register c.part ≡ false) where
  -- the mark is not read
  no_mark : marked c.part c.mark ≡ false
  no_mark = unmarked c.part none c.mark

  -- a data byte is an array's, and taken
  data_same : (got : ℕ) → Same (cond (marked c.part c.mark) (register_data c got) (array_data c got)) (array_data (bare c) got)
  unfolding array_data
  data_same got = record { chip = rw (no_mark, always_enabled c.part none c.register.pel, always_enabled c.part none false); note = rw no_mark }

  -- a clock fall, phase by phase
  fall_same : (p : Phase) (xs : List ℕ) → Same (fall_in p c xs) (fall_in p (bare c) xs)
  unfolding fall_in slave_taken address_taken byte_begun byte_ended
  fall_same Standby xs = same_quiet refl
  fall_same (Slave bits got) xs = same_quiet (bare_by (eqb bits 8) (slave_taken c got) c (slave_taken (bare c) got) (bare c) refl refl)
  fall_same (First bits got) xs = same_quiet (bare_by (eqb bits 8) (at_phase c (AckFirst got)) c (at_phase (bare c) (AckFirst got)) (bare c) refl refl)
  fall_same (Second high bits got) xs =
      let address : ℕ = high * 256 + got in
      same_quiet (bare_by (eqb bits 8) (address_taken c address) c (address_taken (bare c) address) (bare c) (bare_by (selects c.part address) _ _ _ _ refl refl) refl)
  fall_same (Data bits got) xs = same_by (eqb bits 8) (data_same got) (same_quiet refl)
  fall_same AckWrite xs = same_quiet refl
  fall_same AckRead xs = same_quiet (rw no_mark)
  fall_same (AckFirst high) xs = same_quiet refl
  fall_same AckByte xs = same_quiet refl
  fall_same (Sending zero byte) xs = same_quiet (rw no_mark)
  fall_same (Sending (suc bit) byte) xs = same_quiet refl
  fall_same Waiting xs = same_quiet refl
  fall_same Next xs = same_quiet (rw no_mark)

  -- a stop has the same effect
  effect_same : (pin : Bool) → stop_effect c pin ≡ stop_effect (bare c) pin
  unfolding stop_effect right_effect array_effect
  effect_same pin = rw (no_mark, locked_by_pin c.part none c.register.bl 0 pin (sector_start c.counter))

  -- which does the same
  moved_same : (effect : Effect) → Same (effect_moved effect c) (effect_moved effect (bare c))
  unfolding effect_moved
  moved_same (Nothing note) = record { chip = refl; note = refl }
  moved_same (Change w) = record { chip = refl; note = refl }
  moved_same Store = record { chip = refl; note = refl }
  moved_same Spoil = record { chip = refl; note = refl }

  -- every edge
  react_same : (edge : Edge) (line pin : Bool) (xs : List ℕ) → Same (reacted edge c line pin xs) (reacted edge (bare c) line pin xs)
  unfolding reacted
  react_same Quiet line pin xs = same_quiet refl
  react_same Start line pin xs = record { chip = refl; note = refl }
  react_same Stop line pin xs = subst (λ (effect : Effect). Same (effect_moved (stop_effect c pin) c) (effect_moved effect (bare c))) (effect_same pin) (moved_same (stop_effect c pin))
  react_same Rise line pin xs = same_quiet refl
  react_same Fall line pin xs = fall_same c.phase xs

  -- the levels after it: the pull is the same
  settle_same : {m n : Moved} (scl sda : Bool) → Same m n → Same (settled m scl (line_of (pulls m.chip) sda)) (settled n scl (line_of (pulls n.chip) sda))
  unfolding pulls
  settle_same scl sda same = record { chip = ap (λ (d : Chip). with_levels d scl (line_of (pulls d) sda)) same.chip; note = same.note }

  -- every event
  next_bare : (e : Event) (xs : List ℕ) → Same (next e c xs) (next e (bare c) xs)
  unfolding next sampled judged program_done pulls
  next_bare (Sample s) xs = settle_same s.scl s.sda (same_by c.busy (same_quiet refl) (react_same (edge_in c s) (line_in c s) s.pin xs))
  next_bare ProgramDone xs = same_quiet (bare_by c.busy _ c _ (bare c) refl refl)
  next_bare (PowerUp choices) xs = same_quiet refl

  -- and the array
  array_bare : (e : Event) (xs : List ℕ) → next_array e c xs ≡ next_array e (bare c) xs
  unfolding next_array cut_array
  array_bare (Sample s) xs = refl
  array_bare ProgramDone xs = refl
  array_bare (PowerUp choices) xs = refl

module _ (c d : Chip) (alike : Alike c d) where
  -- neither has a register
  other_none : has_register d.part ≡ false
  other_none = ap (λ (b : Chip). has_register b.part) (sym alike.rest) ∙ alike.no_register

  module _ (e : Event) (xs : List ℕ) where
    -- one event: by way of the chip that both are without register and mark
    pub next_alike : Alike (next e c xs).chip (next e d xs).chip
    next_alike =
        record {
          no_register = ap has_register (next_same e c xs).0 ∙ alike.no_register;
          rest = (next_bare c alike.no_register e xs).chip ∙ ap (λ (b : Chip). bare (next e b xs).chip) alike.rest ∙ sym (next_bare d other_none e xs).chip;
        }

    pub note_alike : (next e c xs).note ≡ (next e d xs).note
    note_alike = (next_bare c alike.no_register e xs).note ∙ ap (λ (b : Chip). (next e b xs).note) alike.rest ∙ sym (next_bare d other_none e xs).note

    pub line_alike : (next e c xs).chip.line ≡ (next e d xs).chip.line
    line_alike = ap (λ (b : Chip). b.line) next_alike.rest

    pub array_alike : next_array e c xs ≡ next_array e d xs
    array_alike = array_bare c alike.no_register e xs ∙ ap (λ (b : Chip). next_array e b xs) alike.rest ∙ sym (array_bare d other_none e xs)

    -- Two X24F129 in range that differ in register bits and mark alone answer an event alike, over any array, and are alike afterwards
    pub answer_alike : chip_fits c ≡ true → chip_fits d ≡ true → AlikeAnswers (event_answer e c xs) (event_answer e d xs) (event_array e c xs) (event_array e d xs)
    unfolding event_answer event_array refusal
    answer_alike fits fits' = rw (fits, fits') (go (eqb (length xs) 16384))
      where
        go : (long : Bool) → let number : ℕ = cond long 0 1 in
            AlikeAnswers (cond (eqb number 0) (answered 0 (next e c xs)) (refused number c)) (cond (eqb number 0) (answered 0 (next e d xs)) (refused number d))
            (cond (eqb number 0) (next_array e c xs) xs) (cond (eqb number 0) (next_array e d xs) xs)
        go true = record { refusal = refl; line = line_alike; note = note_alike; array = array_alike; chips = next_alike }
        go false = record { refusal = refl; line = refl; note = refl; array = refl; chips = alike }

-- And so over every row of events
pub run_alike : (es : List Event) (c d : Chip) (xs : List ℕ) → Alike c d → AlikeRuns es (world c xs) (world d xs)
unfolding stepped lines notes step note_of
run_alike [] c d xs alike = record { heard = refl; told = refl; array = refl; chips = alike }
run_alike (e ∷ es) c d xs alike =
    let rest : AlikeRuns es (world (next e c xs).chip (next_array e c xs)) (world (next e d xs).chip (next_array e d xs)) =
    subst (λ (ys : List ℕ). AlikeRuns es (world (next e c xs).chip (next_array e c xs)) (world (next e d xs).chip ys)) (array_alike c d alike e xs)
    (run_alike es (next e c xs).chip (next e d xs).chip (next_array e c xs) (next_alike c d alike e xs)) in
    record {
      heard = ap₂ (λ (line : Bool) (l : List Bool). line ∷ l) (line_alike c d alike e xs) rest.heard;
      told = ap₂ (λ (note : ℕ) (l : List ℕ). note ∷ l) (note_alike c d alike e xs) rest.told;
      array = rest.array;
      chips = rest.chips;
    }

-- a new X24F129, with PPEN 1, BL 3, RPEL 1, PEL 1 and the mark
abbrev pub crammed : Chip
crammed = with_transfer (with_cycle (new_chip 2 0) (record { ppen = true; bl = 3; rpel = true; pel = true }) false no_wait) Standby 0x0000 true no_load

-- They speak of something: this one and a new one, both in range
pub alike_pair : (chip_fits (new_chip 2 0) ≡ true) × (chip_fits crammed ≡ true) × Alike (new_chip 2 0) crammed
unfolding chip_fits phase_fits target_fits
alike_pair = (refl, refl, record { no_register = refl; rest = refl })
