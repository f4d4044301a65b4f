-- Histories of calls that keep a map, and what adding a gate leaves. (RULES V3, V6, D7.)
--
-- | Name | Meaning |
-- |---|---|
-- | `Call` | one event, or a trace with its answer buffer, of any chip |
-- | `Pair`, `pair` | an array and its map |
-- | `called call p` | what a call leaves of them, refused or not |
-- | `Added gate bytes xs m ys n` | a record was put into the first free sector: array and map before, array and map after |
use Rattle.std.specs.Prelude.{ℕ, ◌<◌, true, List, ◌≡◌}
use Rattle.chip.specs.declared.chip.Chip.{Chip}
use Rattle.chip.specs.declared.wire.Event.{Event}
use Rattle.map.specs.Finding.{Sector, first_free}
use Rattle.map.specs.Keeping.{answer_array, answer_map, trace_array, trace_map}
use Rattle.map.specs.Sectors.{bit_at, Beside}
use Rattle.promises.specs.Sender.{Wrote}

-- O13, O14: the entries that take a map
pub data Call : Type 0 where
  one : Chip → Event → Call
  row : Chip → List ℕ → List ℕ → Call

-- what they are lent, the one beside the other
pub record Pair : Type 0 where
  pub array : List ℕ
  pub map : List ℕ

abbrev pub pair : List ℕ → List ℕ → Pair
pair xs m = record { array = xs; map = m }

-- at exit
unfoldable pub called : Call → Pair → Pair
called (one c e) p = pair (answer_array e c p.array p.map) (answer_map e c p.array p.map)
called (row c bytes old) p = pair (trace_array c p.array p.map bytes old) (trace_map c p.array p.map bytes old)

-- V6: the sector holds the record and nothing beside it changed; the map is true, with this sector's bit set and the others as they were; the next free sector comes later
pub record Added (gate : ℕ) (bytes xs m ys n : List ℕ) : Type 0 where
  pub wrote : Wrote gate bytes xs ys
  pub kept : Beside ys n
  pub own : bit_at gate n ≡ true
  pub others : (k : ℕ) → k < 512 → (k ≡ gate → ⊥) → bit_at k n ≡ bit_at k m
  pub later : (k : ℕ) → first_free n ≡ Sector k → gate < k
