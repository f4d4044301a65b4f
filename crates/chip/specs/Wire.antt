-- The line, and the edge that a sample makes of it. (RULES L2, L4, L5.)
--
-- | Name | Meaning |
-- |---|---|
-- | `line_of pull sda` | the line's level |
-- | `edge_of scl₀ scl line₀ line` | the edge between the last levels and these |
-- | `sample scl sda pin` | a sample as an event |
use Rattle.std.specs.Prelude.{Bool, true, false, not, ◌&&◌}
use Rattle.chip.specs.declared.wire.Edge.{Edge}
use Rattle.chip.specs.declared.wire.Edge.TheVariants.{Quiet, Start, Stop, Rise, Fall}
use Rattle.chip.specs.declared.wire.Event.{Event}
use Rattle.chip.specs.declared.wire.Event.TheVariants.{Sample}

-- L2: high where nobody pulls
abbrev pub line_of : Bool → Bool → Bool
line_of pulls sda = not pulls && sda

-- L4, L5: with SCL high before and now the line tells a START or a STOP; where SCL changed, only that counts (house). L8, L9: a pull of
-- the chip itself, or of a second master, is no exception (reading)
unfoldable pub edge_of : Bool → Bool → Bool → Bool → Edge
edge_of true true true false = Start
edge_of true true false true = Stop
edge_of true true true true = Quiet
edge_of true true false false = Quiet
edge_of false true before now = Rise
edge_of true false before now = Fall
edge_of false false before now = Quiet

-- E1: its clock, the master's data where false pulls, the protect pin
abbrev pub sample : Bool → Bool → Bool → Event
sample scl sda pin = Sample (record { scl = scl; sda = sda; pin = pin })
