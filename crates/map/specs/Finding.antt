-- The first free sector: by the map alone, and by reading every record. (RULES V4, V5, F18, O12.)
--
-- | Name | Meaning |
-- |---|---|
-- | `first_from test k n` | the first of the n numbers from k on that passes a test, or k + n where none does |
-- | `Found` | what first free finds: a sector, none, or no map, with the number of the refusal |
-- | `found_as` | what an answer of the code stands for |
-- | `found_at k` | that sector; none where k is past the last |
-- | `first_free m` | the first sector whose bit is clear |
-- | `first_read xs` | the first sector whose record reads as free |
use Rattle.std.specs.Prelude.{ℕ, zero, suc, Bool, not, cond, List, eqb, ltb, length, Option, Some, None as Nowhere, Result, Ok, Err}
use Rattle.refusals.specs.Refusals.{number_of}
use Rattle.refusals.specs.declared.Refusal.{Refusal}
use Rattle.gate.specs.Answer.{says_free}
use Rattle.gate.specs.Reading.{read_of}
use Rattle.parts.specs.Sector.{sector_of}
use Rattle.map.specs.Sectors.{bit_at}

-- in rising order
unfoldable pub first_from : (ℕ → Bool) → ℕ → ℕ → ℕ
first_from test k zero = k
first_from test k (suc n) = cond (test k) k (first_from test (suc k) n)

-- V4, F18: the first free sector, 0-511; no sector is free; no map
pub data Found : Type 0 where
  Sector : ℕ → Found
  None : Found
  Refused : ℕ → Found

-- O12: as a caller has it
abbrev pub found_as : Result (Option ℕ) Refusal → Found
found_as (Ok (Some k)) = Sector k
found_as (Ok Nowhere) = None
found_as (Err refusal) = Refused (number_of refusal)

-- V4: none is an answer of its own
unfoldable pub found_at : ℕ → Found
found_at k = cond (ltb k 512) (Sector k) None

-- V4: from the map alone; O12: it checks 18
unfoldable pub first_free : List ℕ → Found
first_free m = cond (eqb (length m) 64) (found_at (first_from (λ k. not (bit_at k m)) 0 512)) (Refused 18)

-- V5: what a full reading finds
abbrev pub first_read : List ℕ → Found
first_read xs = found_at (first_from (λ k. says_free (read_of (sector_of k xs))) 0 512)
