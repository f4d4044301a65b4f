-- The map of the sectors in use: which bit is whose, when a map is true, how one sector is entered in it, and how it is built. (RULES V1-V3, F18, O12.)
--
-- | Name | Meaning |
-- |---|---|
-- | `used k xs` | the record of sector k is not free |
-- | `bit_at k m` | the bit of sector k in a map |
-- | `TrueMap xs m` | the map is true of this array |
-- | `Beside xs m` | a whole array, and a true map of bytes beside it |
-- | `with_bit byte bit on` | the byte with this bit set or cleared |
-- | `entered k xs m` | the map in which sector k's bit is set from the array |
-- | `entered_to n xs m` | the first n sectors, one after the other |
-- | `with_map number m` | a refusal with a map beside it: 18 follows 1 |
-- | `build_refusal`, `built_of` | 1, 18 or none, and the map at exit |
use Rattle.std.specs.Prelude.{ℕ, zero, suc, ◌+◌, ◌*◌, ◌/◌, ◌%◌, ◌^◌, ◌<◌, Bool, not, cond, List, ◌≡◌, eqb, length, get_or, set}
use Rattle.gate.specs.Reading.{is_free}
use Rattle.parts.specs.Phase.{weight, bit_of}
use Rattle.parts.specs.Sector.{sector_of, Bytes}
use Rattle.trace.specs.Trace.{unless}

-- V1: the record is not all FFh
abbrev pub used : ℕ → List ℕ → Bool
used k xs = not (is_free (sector_of k xs))

-- V1: sector k is bit k mod 8 of byte k div 8, bit 0 the lowest
abbrev pub bit_at : ℕ → List ℕ → Bool
bit_at k m = bit_of (get_or m (k / 8) 0) (k % 8)

-- V1: 64 bytes, and one bit a sector, set where its record is not all FFh
pub record TrueMap (xs m : List ℕ) : Type 0 where
  pub sized : length m ≡ 64
  pub bits : (k : ℕ) → k < 512 → bit_at k m ≡ used k xs

-- V3: what every event and every trace leaves so
pub record Beside (xs m : List ℕ) : Type 0 where
  pub whole : length xs ≡ 16384
  pub bytes : Bytes m
  pub map : TrueMap xs m

-- the bits above it, itself, the bits below it
unfoldable pub with_bit : ℕ → ℕ → Bool → ℕ
with_bit byte bit on = byte / 2 ^ (bit + 1) * 2 ^ (bit + 1) + weight on (2 ^ bit) + byte % 2 ^ bit

-- V3: its bit alone, set where it is used and cleared where it is free
unfoldable pub entered : ℕ → List ℕ → List ℕ → List ℕ
entered k xs m = set m (k / 8) (with_bit (get_or m (k / 8) 0) (k % 8) (used k xs))

-- from sector 0 on
unfoldable pub entered_to : ℕ → List ℕ → List ℕ → List ℕ
entered_to zero xs m = m
entered_to (suc k) xs m = entered k xs (entered_to k xs m)

-- F18, O12: 18 for a map that is not 64 bytes; it follows 1
unfoldable pub with_map : ℕ → List ℕ → ℕ
with_map number m = cond (eqb number 1) 1 (cond (eqb (length m) 64) number 18)

-- O12: building checks 1, 18
unfoldable pub build_refusal : List ℕ → List ℕ → ℕ
build_refusal xs m = with_map (cond (eqb (length xs) 16384) 0 1) m

-- V2: every sector is entered; O10: a refusal writes nothing
unfoldable pub built_of : List ℕ → List ℕ → List ℕ
built_of xs m = unless (build_refusal xs m) m (entered_to 512 xs m)
