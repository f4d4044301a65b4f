-- The numbers of the notes. (RULES N0-N7.)
--
-- | Name | Meaning |
-- |---|---|
-- | `note_number` | the number of a note |
-- | `note_or_0` | the number of what is noted, 0 where nothing is |
use Rattle.std.specs.Prelude.{ℕ, Option, Some, None}
use Rattle.parts.specs.declared.note.Note.{Note}
use Rattle.parts.specs.declared.note.Note.TheVariants.{Store, Locks, Latch, Locked, Spoil, Refused, Dropped}

-- N1 to N7
abbrev pub note_number : Note → ℕ
note_number Store = 1
note_number Locks = 2
note_number Latch = 3
note_number Locked = 4
note_number Spoil = 5
note_number Refused = 6
note_number Dropped = 7

-- N0
abbrev pub note_or_0 : Option Note → ℕ
note_or_0 None = 0
note_or_0 (Some note) = note_number note
