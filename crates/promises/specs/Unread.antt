-- Chips that differ in what a part without a register does not read. (RULES C17, D9.)
--
-- | Name | Meaning |
-- |---|---|
-- | `bare c` | the chip with its register bits and its mark cleared |
-- | `Alike c d` | two chips of that part that differ in these alone |
-- | `AlikeAnswers` | two answers with their arrays: equal but for the chips, which are alike |
-- | `AlikeRuns es v w` | a row of events answers both alike, event by event, and leaves them so |
use Rattle.std.specs.Prelude.{ℕ, false, List, ◌≡◌}
use Rattle.parts.specs.Register.{has_register}
use Rattle.chip.specs.Chip.{with_transfer, with_cycle}
use Rattle.chip.specs.Run.{World, ran, lines, notes}
use Rattle.chip.specs.declared.chip.Chip.{Chip}
use Rattle.chip.specs.Event.{Answer}
use Rattle.chip.specs.declared.wire.Event.{Event}

-- C17: PPEN, BL, RPEL, PEL and the mark
abbrev pub bare : Chip → Chip
bare c =
    with_transfer (with_cycle c (record { ppen = false; bl = 0; rpel = false; pel = false }) c.busy c.wait) c.phase c.counter false c.load

-- all else is equal
pub record Alike (c d : Chip) : Type 0 where
  pub no_register : has_register c.part ≡ false
  pub rest : bare c ≡ bare d

-- D9: line, note, refusal and array
pub record AlikeAnswers (a b : Answer) (xs ys : List ℕ) : Type 0 where
  pub refusal : a.refusal ≡ b.refusal
  pub line : a.line ≡ b.line
  pub note : a.note ≡ b.note
  pub array : xs ≡ ys
  pub chips : Alike a.chip b.chip

-- D9: a row of events
pub record AlikeRuns (es : List Event) (v w : World) : Type 0 where
  pub heard : lines es v ≡ lines es w
  pub told : notes es v ≡ notes es w
  pub array : (ran es v).array ≡ (ran es w).array
  pub chips : Alike (ran es v).chip (ran es w).chip
