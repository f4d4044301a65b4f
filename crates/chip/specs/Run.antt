-- A chip with its array, and rows of events.
--
-- | Name | Meaning |
-- |---|---|
-- | `World`, `world` | a chip and its array |
-- | `step`, `note_of` | what an event leaves, and its note |
-- | `ran` | what a row of events leaves |
-- | `lines`, `notes` | the line after each event; each event's note |
use Rattle.std.specs.Prelude.{ℕ, Bool, List, [], ◌∷◌}
use Rattle.parts.specs.Rows.{stepped}
use Rattle.chip.specs.Event.{next, next_array}
use Rattle.chip.specs.declared.chip.Chip.{Chip}
use Rattle.chip.specs.declared.wire.Event.{Event}

-- a chip and its array
pub record World : Type 0 where
  pub chip : Chip
  pub array : List ℕ

-- the two of them
abbrev pub world : Chip → List ℕ → World
world c xs = record { chip = c; array = xs }

-- the line after it is the one that the chip keeps
unfoldable pub step : Event → World → World
step e w = record { chip = (next e w.chip w.array).chip; array = next_array e w.chip w.array }

-- its note
unfoldable pub note_of : Event → World → ℕ
note_of e w = (next e w.chip w.array).note

-- one after the other
abbrev pub ran : List Event → World → World
ran es w = stepped step es w

-- event by event
unfoldable pub lines : List Event → World → List Bool
lines [] w = []
lines (e ∷ es) w = (step e w).chip.line ∷ lines es (step e w)

unfoldable pub notes : List Event → World → List ℕ
notes [] w = []
notes (e ∷ es) w = note_of e w ∷ notes es (step e w)
