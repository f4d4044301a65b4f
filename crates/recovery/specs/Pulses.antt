-- What is promised of recovery, in the words of its own definitions. (RULES R3, R4, R8.)
--
-- | Name | Meaning |
-- |---|---|
-- | `after_pulses n` | the world after n pulses |
-- | `FirstHigh` | the number of the first pulse with a high line after it, and the world there |
-- | `Unchanged` | two worlds with one array, part, select, register (PPEN, BL, RPEL and PEL), spoil byte, busy flag and wait |
use Rattle.std.specs.Prelude.{ℕ, zero, suc, ◌≤◌, ◌<◌, Bool, true, false, ◌≡◌}
use Rattle.chip.specs.Run.{World}
use Rattle.recovery.specs.Recovery.{pulse}

-- one after the other
unfoldable pub after_pulses : ℕ → Bool → World → World
after_pulses zero pin w = w
after_pulses (suc n) pin w = after_pulses n pin (pulse pin w)

-- R3, R4: the line is high there and was low after every pulse before; ten are enough
pub record FirstHigh (pin : Bool) (w : World) (number : ℕ) (left : World) : Type 0 where
  pub at_least : 1 ≤ number
  pub at_most : number ≤ 10
  pub there : left ≡ after_pulses number pin w
  pub high : left.chip.line ≡ true
  pub low_before : (n : ℕ) → 1 ≤ n → n < number → (after_pulses n pin w).chip.line ≡ false

-- R8: counter, mark, load, phase and levels may differ
pub record Unchanged (before after : World) : Type 0 where
  pub array : after.array ≡ before.array
  pub register : after.chip.register ≡ before.chip.register
  pub part : after.chip.part ≡ before.chip.part
  pub select : after.chip.select ≡ before.chip.select
  pub spoil : after.chip.spoil ≡ before.chip.spoil
  pub busy : after.chip.busy ≡ before.chip.busy
  pub waiting : after.chip.wait ≡ before.chip.wait
