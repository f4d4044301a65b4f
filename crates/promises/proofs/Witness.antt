-- Demand 3 speaks of something, and what it takes is needed: on each part a concrete run that meets all of it, and runs that fail one hypothesis each and
-- lose a locked byte, three on the parts with a register and two on the part without. Assumes nothing.
use Prim.Native.Nat.{ℕ, zero, suc, ◌+◌, ◌%◌, ◌≤◌}
use mathlib.Core.Bool.{true, false, false≢true}
use mathlib.Core.List.{List, [], ◌∷◌, ◌++◌}
use mathlib.Core.Path.{◌≡◌, refl, subst, ◌∙◌}
use native.Mathlib.Omega.{arith}
use borrow.Author.Tests.{le-leb}
use lib.Dec.{leb-zero}
use lib.ListN.{length, length-set, length-replicate, set}
use Rattle.parts.specs.Load.{loaded}
use Rattle.parts.specs.Locks.{first_locked, locked}
use Rattle.parts.specs.Phase.{risen, phase_pulls}
use Rattle.parts.specs.Register.{has_register, written, latch_written, lock_written}
use Rattle.parts.specs.Rows.{every, stepped}
use Rattle.parts.specs.Sector.{Bytes, erased}
use Rattle.parts.specs.Wait.{stored_to, waits, reached, locks_taken}
use Rattle.parts.proofs.ByteLaws.{set_bytes, same_bytes}
use Rattle.parts.proofs.LockLaws.{locked_by_bl}
use Rattle.parts.proofs.RowLaws.{stepped_on}
use Rattle.chip.specs.Chip.{new_chip, pulls, cut_register, cut_array}
use Rattle.chip.specs.Event.{next, next_array, program_done, sampled, judged, reacted}
use Rattle.chip.specs.Run.{world, step, note_of, ran}
use Rattle.chip.specs.Stop.{stop_effect, right_effect, array_effect, rightly, effect_moved}
use Rattle.chip.specs.Transfer.{fall_in, slave_taken, address_taken, array_data, register_data, byte_begun, byte_ended}
use Rattle.chip.specs.View.{pin_high, pins_high, writes}
use Rattle.chip.specs.Wire.{edge_of, sample}
use Rattle.chip.specs.declared.wire.Event.{Event}
use Rattle.trace.specs.Bytes.{event_of}
use Rattle.trace.specs.Trace.{answers_of}
use Rattle.recovery.specs.Recovery.{pulse, pulsed, recovered}
use Rattle.promises.specs.Demand3.{FromPowerUp, free, heard, Protected, Promised}
use Rattle.messages.specs.Messages.{byte_sent, message, register_write}
use Rattle.messages.specs.RandomRead.{byte_taken, bytes_taken, random_read, highs, bits_in, held, bytes_read}
use Rattle.messages.specs.Wires.{spelled, played, clocks, byte_of}
use Rattle.promises.specs.Runs.{high, low_at_stop, register_set, attack, cut_read, edged, registered, protected, unprotected, unlocking, withstood, attacked, strike, struck, struck_later, plain, pin_withstood, pin_attacked, striking, ended_later, stopping, lows, Lost}
use Rattle.promises.proofs.Demand3.{demand_3}

-- the random read of two bytes from 3FFFh at select 5, as event bytes with the pin low: slave byte AAh, 3Fh, FFh, the restart, ABh, two bytes
pub read_spelled : spelled (λ k. false) (random_read 5 0x3fff 2)
    ≡ (2 ∷ 3 ∷ 0 ∷ 1 ∷ 2 ∷ 3 ∷ 0 ∷ 1 ∷ 2 ∷ 3 ∷ 0 ∷ 1 ∷ 2 ∷ 3 ∷ 0 ∷ 1 ∷ 2 ∷ 3
    ∷ 0 ∷ 1 ∷ 0 ∷ 1 ∷ 2 ∷ 3 ∷ 2 ∷ 3 ∷ 2 ∷ 3 ∷ 2 ∷ 3 ∷ 2 ∷ 3 ∷ 2 ∷ 3 ∷ 2 ∷ 3
    ∷ 2 ∷ 3 ∷ 2 ∷ 3 ∷ 2 ∷ 3 ∷ 2 ∷ 3 ∷ 2 ∷ 3 ∷ 2 ∷ 3 ∷ 2 ∷ 3 ∷ 2 ∷ 3 ∷ 2 ∷ 3
    ∷ 2 ∷ 3 ∷ 1
    ∷ 2 ∷ 3 ∷ 0 ∷ 1 ∷ 2 ∷ 3 ∷ 0 ∷ 1 ∷ 2 ∷ 3 ∷ 0 ∷ 1 ∷ 2 ∷ 3 ∷ 2 ∷ 3 ∷ 2 ∷ 3
    ∷ 2 ∷ 3 ∷ 2 ∷ 3 ∷ 2 ∷ 3 ∷ 2 ∷ 3 ∷ 2 ∷ 3 ∷ 2 ∷ 3 ∷ 2 ∷ 3 ∷ 2 ∷ 3 ∷ 0 ∷ 1
    ∷ 2 ∷ 3 ∷ 2 ∷ 3 ∷ 2 ∷ 3 ∷ 2 ∷ 3 ∷ 2 ∷ 3 ∷ 2 ∷ 3 ∷ 2 ∷ 3 ∷ 2 ∷ 3 ∷ 2 ∷ 3 ∷ [])
unfolding spelled random_read byte_sent byte_taken bytes_taken clocks
read_spelled = refl

-- what is computed of the runs of a part with a register
record Computed (part : ℕ) : Type 0 where
  has : has_register (protected part).chip.part ≡ true
  idle : (protected part).chip.busy ≡ false
  ppen : (protected part).chip.register.ppen ≡ true
  bl : (protected part).chip.register.bl ≡ 3
  first : first_locked (protected part).chip.part (protected part).chip.register.bl ≡ 0
  pins : pins_high withstood.noise ≡ true
  pulses : (free withstood (protected part)).pulses ≡ 10
  back : bytes_read 2 (heard withstood (protected part)) ≡ 0xa5 ∷ 0x00 ∷ []
  no_ppen : (unprotected part).chip.register.ppen ≡ false
  attack_pins : pins_high (attacked high).noise ≡ true
  no_ppen_lost : Lost (attacked high) (unprotected part) 0x00 (struck part)
  low_pins : lows (attacked low_at_stop).noise ≡ 1
  low_lost : Lost (attacked low_at_stop) (protected part) 0x00 (struck part)
  cycle : (unlocking part).chip.busy ≡ true
  cycle_ppen : (unlocking part).chip.register.ppen ≡ true
  later_pins : pins_high struck_later.noise ≡ true
  later_lost : Lost struck_later (unlocking part) 0x00 (struck part)

-- all of it at once, for each
computed : (part : ℕ) → part ≤ 1 → Computed part
unfolding stepped answers_of event_of spelled note_of step next next_array program_done cut_register cut_array waits reached locks_taken sampled judged reacted edge_of pulls phase_pulls risen fall_in slave_taken address_taken array_data register_data byte_begun byte_ended stop_effect right_effect array_effect rightly effect_moved first_locked written latch_written lock_written loaded stored_to clocks byte_sent byte_taken bytes_taken random_read highs bits_in byte_of held every pin_high pulse pulsed recovered register_set strike attack cut_read edged unlocking lows
computed zero h =
    record {
      has = refl;
      idle = refl;
      ppen = refl;
      bl = refl;
      first = refl;
      pins = refl;
      pulses = refl;
      back = refl;
      no_ppen = refl;
      attack_pins = refl;
      no_ppen_lost = record { locked_before = refl; held_before = refl; read_after = refl };
      low_pins = refl;
      low_lost = record { locked_before = refl; held_before = refl; read_after = refl };
      cycle = refl;
      cycle_ppen = refl;
      later_pins = refl;
      later_lost = record { locked_before = refl; held_before = refl; read_after = refl };
    }
computed (suc zero) h =
    record {
      has = refl;
      idle = refl;
      ppen = refl;
      bl = refl;
      first = refl;
      pins = refl;
      pulses = refl;
      back = refl;
      no_ppen = refl;
      attack_pins = refl;
      no_ppen_lost = record { locked_before = refl; held_before = refl; read_after = refl };
      low_pins = refl;
      low_lost = record { locked_before = refl; held_before = refl; read_after = refl };
      cycle = refl;
      cycle_ppen = refl;
      later_pins = refl;
      later_lost = record { locked_before = refl; held_before = refl; read_after = refl };
    }
computed (suc (suc part)) h = absurd (omega arith)

-- what is computed of the runs of the part without one
record ComputedPlain : Type 0 where
  pins : pins_high pin_withstood.noise ≡ true
  pulses : (free pin_withstood plain).pulses ≡ 10
  back : bytes_read 2 (heard pin_withstood plain) ≡ 0xff ∷ 0xa5 ∷ []
  low_pins : lows pin_attacked.noise ≡ 1
  low_lost : Lost pin_attacked plain 0xa5 0xff
  cycle : striking.chip.busy ≡ true
  later_pins : pins_high ended_later.noise ≡ true
  later_lost : Lost ended_later striking 0xa5 0xff
  stops : note_of (sample true true true) stopping ≡ 1
  shut : locked stopping.chip.part stopping.chip.register.bl true 0x3000 ≡ true

computed_plain : ComputedPlain
unfolding stepped answers_of event_of spelled note_of step next next_array program_done cut_register cut_array waits reached locks_taken sampled judged reacted edge_of pulls phase_pulls risen fall_in slave_taken address_taken array_data register_data byte_begun byte_ended stop_effect right_effect array_effect rightly effect_moved first_locked written latch_written lock_written loaded stored_to clocks byte_sent byte_taken bytes_taken random_read highs bits_in byte_of held every pin_high pulse pulsed recovered register_set strike attack cut_read edged striking stopping lows
computed_plain =
    record {
      pins = refl;
      pulses = refl;
      back = refl;
      low_pins = refl;
      low_lost = record { locked_before = refl; held_before = refl; read_after = refl };
      cycle = refl;
      later_pins = refl;
      later_lost = record { locked_before = refl; held_before = refl; read_after = refl };
      stops = refl;
      shut = refl;
    }

-- the array of the scenes is one of 16,384
edged_whole : length edged ≡ 16384
unfolding edged
edged_whole =
    let blank : List ℕ = erased in
    length-set (set blank 0x0000 0x00) 0x3fff 0xa5 ∙ length-set blank 0x0000 0x00 ∙ length-replicate {A = ℕ} 0x4000 0xff

-- bytes
edged_bytes : Bytes edged
unfolding edged
edged_bytes =
    set_bytes (set (erased) 0x0000 0x00) 0x3fff 0xa5
    (set_bytes (erased) 0x0000 0x00 (same_bytes 0x4000 0xff (omega arith)) (omega arith))
    (omega arith)

-- a new chip after any events is one run from power-up
ran_up : (part : ℕ) → part ≤ 2 → (es : List Event) → FromPowerUp (ran es (world (new_chip part 5) edged))
ran_up part h es =
    record {
      part = part;
      select = 5;
      ppen = false;
      bl = 0;
      spoil = 0xff;
      array = edged;
      run = es;
      part_in = h;
      select_in = omega arith;
      bl_in = omega arith;
      spoil_in = omega arith;
      array_whole = edged_whole;
      array_bytes = edged_bytes;
      after_run = refl;
    }

-- so is one with any register byte
registered_up : (part byte : ℕ) → part ≤ 1 → FromPowerUp (registered part byte)
registered_up part byte h = ran_up part (omega arith) (register_set 5 high byte)

-- and the one whose cycle will unlock it
unlocking_up : (part : ℕ) → part ≤ 1 → FromPowerUp (unlocking part)
unfolding unlocking
unlocking_up part h =
    subst FromPowerUp (stepped_on step (register_set 5 high 0x9a) (played high (register_write 5 0x06) ++ played low_at_stop (register_write 5 0x02)) (world (new_chip part 5) edged))
    (ran_up part (omega arith) (register_set 5 high 0x9a ++ (played high (register_write 5 0x06) ++ played low_at_stop (register_write 5 0x02))))

module _ (part : ℕ) (h : part ≤ 1) where
  -- the attack that is withstood meets all that demand 3 takes
  pub witness : FromPowerUp (protected part) × Protected withstood (protected part)
  witness = (
    registered_up part 0x9a h,
    record {
      idle = (computed part h).idle;
      ppen_set = λ has. (computed part h).ppen;
      region_locked = λ has e. absurd (omega (arith, (computed part h).bl));
      pin_is_high = (computed part h).pins;
      address_in = omega arith;
      stays_locked = λ k l. locked_by_bl (protected part).chip.part _ true _ (computed part h).has ∙ (rw (computed part h).first (leb-zero ((0x3fff + k) % 0x4000)));
    },
  )

  -- so it has all that demand 3 promises
  pub attack_promised : Promised withstood (protected part)
  attack_promised = demand_3 withstood (protected part) witness.0 witness.1

  -- it takes all ten pulses, and reads A5h and over the roll-over 00h
  pub attack_comes_out : ((free withstood (protected part)).pulses ≡ 10) × (bytes_read 2 (heard withstood (protected part)) ≡ 0xa5 ∷ 0x00 ∷ [])
  attack_comes_out = ((computed part h).pulses, (computed part h).back)

  -- with PPEN clear a locked byte is lost, though the pin is high in every sample: 00h becomes 55h or the spoil byte
  pub ppen_needed : FromPowerUp (unprotected part)
      × ((unprotected part).chip.register.ppen ≡ false)
      × (pins_high (attacked high).noise ≡ true)
      × Lost (attacked high) (unprotected part) 0x00 (struck part)
  ppen_needed = (registered_up part 0x1a h, (computed part h).no_ppen, (computed part h).attack_pins, (computed part h).no_ppen_lost)

  -- with PPEN set a locked byte is lost if the pin is low in one sample
  pub pin_needed : FromPowerUp (protected part)
      × ((protected part).chip.register.ppen ≡ true)
      × (lows (attacked low_at_stop).noise ≡ 1)
      × Lost (attacked low_at_stop) (protected part) 0x00 (struck part)
  pin_needed = (registered_up part 0x9a h, (computed part h).ppen, (computed part h).low_pins, (computed part h).low_lost)

  -- with a cycle in progress for which PPEN 0 and BL 0 wait a locked byte is lost, though PPEN is set and the pin is high in every sample
  pub idle_needed : FromPowerUp (unlocking part)
      × ((unlocking part).chip.busy ≡ true)
      × ((unlocking part).chip.register.ppen ≡ true)
      × (pins_high struck_later.noise ≡ true)
      × Lost struck_later (unlocking part) 0x00 (struck part)
  idle_needed = (unlocking_up part h, (computed part h).cycle, (computed part h).cycle_ppen, (computed part h).later_pins, (computed part h).later_lost)

-- The strike that an X24F129 withstands meets all that demand 3 takes: the pin high, and no bit of a register
pub pin_witness : FromPowerUp plain × Protected pin_withstood plain
unfolding stepped
pin_witness = (
  ran_up 2 (omega arith) [],
  record {
    idle = refl;
    ppen_set = λ has. absurd (false≢true has);
    region_locked = λ has. absurd (false≢true has);
    pin_is_high = computed_plain.pins;
    address_in = omega arith;
    stays_locked = λ k l. le-leb 0x3000 ((0x3ffe + k) % 0x4000) (omega arith);
  },
)

-- so it has all that demand 3 promises
pub pin_promised : Promised pin_withstood plain
pin_promised = demand_3 pin_withstood plain pin_witness.0 pin_witness.1

-- it takes all ten pulses, and reads FFh and A5h
pub pin_comes_out : ((free pin_withstood plain).pulses ≡ 10) × (bytes_read 2 (heard pin_withstood plain) ≡ 0xff ∷ 0xa5 ∷ [])
pin_comes_out = (computed_plain.pulses, computed_plain.back)

-- a locked byte of it is lost if the pin is low in one sample, the STOP's: A5h becomes the spoil byte
pub plain_pin_needed : FromPowerUp plain × (lows pin_attacked.noise ≡ 1) × Lost pin_attacked plain 0xa5 0xff
plain_pin_needed = (pin_witness.0, computed_plain.low_pins, computed_plain.low_lost)

-- and with a cycle in progress that began with the pin low, though the pin is high in every sample since
pub plain_idle_needed : FromPowerUp striking × (striking.chip.busy ≡ true) × (pins_high ended_later.noise ≡ true) × Lost ended_later striking 0xa5 0xff
unfolding striking
plain_idle_needed = (ran_up 2 (omega arith) (played low_at_stop (message 5 0x3fff (0x55 ∷ []))), computed_plain.cycle, computed_plain.later_pins, computed_plain.later_lost)

-- What a write keeps is there to keep: with the pin high 32 bytes are stored below 3000h, which is then locked
pub write_meets : (writes (note_of (sample true true true) stopping) ≡ true) × (locked stopping.chip.part stopping.chip.register.bl true 0x3000 ≡ true)
unfolding writes
write_meets = (rw computed_plain.stops, computed_plain.shut)
