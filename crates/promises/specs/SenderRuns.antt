-- Concrete runs of the sender: the record of worked case 4 for gate 17, chips that its events are for, and two for which they are not: one with RPEL set, and an
-- X24F129 where they are for a part with a register.
--
-- | Name | Meaning |
-- |---|---|
-- | `north_record`, `north17 part select` | the record of worked case 4; its events as gate 17's |
-- | `up part bl` | a chip at select 5 with PPEN set and spoil byte 00h, just powered up, over an array of FFh |
-- | `halfway part` | the sector of gate 17 where the power is lost behind the last STOP and places 0 to 15 are taken |
-- | `armed part` | a chip with PPEN 1, BL 3 and RPEL 1 |
-- | `Unlocks` | the events take PPEN and BL away, and leave no record |
-- | `Misses` | the events for this part spoil sector 511 of an X24F129, and leave no record |
use Rattle.std.specs.Prelude.{ℕ, ◌+◌, true, false, List, [], ◌∷◌, map, ◌≡◌, T, pos, replicate}
use Rattle.parts.specs.Sector.{sector_of, erased}
use Rattle.parts.specs.Wait.{first_half}
use Rattle.chip.specs.Chip.{at_power_up}
use Rattle.chip.specs.Run.{World, world, notes}
use Rattle.gate.specs.Writing.{written_of}
use Rattle.trace.specs.Bytes.{event_of}
use Rattle.trace.specs.Trace.{after}
use Rattle.messages.specs.Messages.{register_write}
use Rattle.sender.specs.Sending.{lead, sent_events}
use Rattle.promises.specs.Cases.{buffer, north, sent, fresh, locking, loud, agree, up_from, changes}
use Rattle.promises.specs.Sender.{cut_after}

-- closed 0, open 1,200, "NORTH"
abbrev pub north_record : List ℕ
north_record = written_of buffer (pos 0) (pos 1200) north

-- at this select
abbrev pub north17 : ℕ → ℕ → List ℕ
north17 part select = sent_events part select 17 north_record

-- as power-up leaves it
abbrev pub up : ℕ → ℕ → World
up part bl = world (at_power_up part 5 true bl 0x00) erased

-- all but the program-done, and then event byte 11
abbrev pub halfway : ℕ → List ℕ
halfway part = sector_of 17 (cut_after (lead part + 635) first_half part 5 17 north_record (up part 0)).array

-- run from power-up at select 0: 9Ah writes PPEN 1 and BL 3, and then 06h sets RPEL
abbrev pub armed : ℕ → World
armed part = sent (register_write 0 0x06) (locking 0x9a (fresh part))

-- the first message lets PPEN 0 and BL 0 wait; its cycle makes the chip deaf to the second, so note 2 is the only one, and the program-done at the end takes PPEN and BL
-- away
pub record Unlocks (part : ℕ) (w : World) : Type 0 where
  pub rpel_before : w.chip.register.rpel ≡ true
  pub ppen_before : w.chip.register.ppen ≡ true
  pub bl_before : w.chip.register.bl ≡ 3
  pub ppen_after : (after (north17 part 0) w).chip.register.ppen ≡ false
  pub bl_after : (after (north17 part 0) w).chip.register.bl ≡ 0
  pub told : loud (notes (map event_of (north17 part 0)) w) ≡ 2 ∷ []

-- A12: the first message is a load of one byte for 3FFFh; its cycle makes the chip deaf to the second, so note 5 is the only one, and the program-done at the end spoils
-- the sector. The spoil byte of these chips is 00h
pub record Misses (part : ℕ) : Type 0 where
  pub told : loud (notes (map event_of (north17 part 5)) (up 2 0)) ≡ 5 ∷ []
  pub spoilt : T (agree (sector_of 511 (after (north17 part 5) (up 2 0)).array) (replicate 32 0x00))
  pub changed : T (agree (changes erased (after (north17 part 5) (up 2 0)).array) (up_from 32 0x3fe0))
