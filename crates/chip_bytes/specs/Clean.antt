-- What a phase and what waits carry, and the bytes of a chip with all else cleared: the form in which a call that is
-- taken leaves them. (RULES K2.)
--
-- | Name | Meaning |
-- |---|---|
-- | `carries_bits` | phases whose bits and byte mean something: a byte is received or sent |
-- | `carries_high` | phases that keep the first address byte |
-- | `carries_sector` | the kind of what waits that has a number, places and bytes |
-- | `carries_locks` | the kind that has a PPEN and a BL |
-- | `cleared` | the bytes with 0 for what phase and kind do not carry |
-- | `Clean` | as many bytes as a chip has, that fit, the low bytes of the counter and of the waiting sector bytes, with nothing to clear |
-- | `has_places` | what waits is a sector, which has places and bytes |
-- | `Bare` | what waits has no place and zeros unless it is a sector |
-- | `Sized` | the load and what waits have 32 places and 32 bytes |
use Rattle.std.specs.Prelude.{ℕ, ◌-◌, ◌<◌, Bool, true, false, cond, ◌&&◌, ◌||◌, ◌≡◌, List, ◌∷◌, ◌++◌, eqb, leb, length, get_or, take, replicate}
use Rattle.parts.specs.Wait.{alone}
use Rattle.parts.specs.declared.wait.Target.{Target}
use Rattle.parts.specs.declared.wait.Target.TheVariants.{None, Sector, Locks}
use Rattle.parts.specs.declared.wait.Wait.{Wait}
use Rattle.chip.specs.declared.chip.Chip.{Chip}
use Rattle.chip_bytes.specs.At as at
use Rattle.chip_bytes.specs.State.{row, bytes_fit}

-- a slave, address or data byte, and the byte being sent
unfoldable pub carries_bits : ℕ → Bool
carries_bits phase = leb 1 phase && leb phase 4 || eqb phase 9

-- the second address byte, and the acknowledge of the first
unfoldable pub carries_high : ℕ → Bool
carries_high phase = eqb phase 3 || eqb phase 7

-- C16: a cycle of the array
abbrev pub carries_sector : ℕ → Bool
carries_sector kind = eqb kind 1

-- C16: a cycle of the register
abbrev pub carries_locks : ℕ → Bool
carries_locks kind = eqb kind 2

-- K2: a field that the phase, or the kind of what waits, does not carry comes back as 0
unfoldable pub cleared : List ℕ → List ℕ
cleared b =
    take at.bits b
    ++ (cond (carries_bits (get_or b at.phase 0)) (get_or b at.bits 0) 0
    ∷ cond (carries_bits (get_or b at.phase 0)) (get_or b at.byte 0) 0
    ∷ cond (carries_high (get_or b at.phase 0)) (get_or b at.high 0) 0
    ∷ (row (at.wait_high - at.count) at.count b
    ++ (cond (carries_sector (get_or b at.wait 0)) (get_or b at.wait_high 0) 0
    ∷ cond (carries_sector (get_or b at.wait 0)) (get_or b at.wait_low 0) 0
    ∷ cond (carries_locks (get_or b at.wait 0)) (get_or b at.wait_ppen 0) 0
    ∷ cond (carries_locks (get_or b at.wait 0)) (get_or b at.wait_bl 0) 0
    ∷ (cond (carries_sector (get_or b at.wait 0)) (row 32 at.wait_places b) (replicate 32 0)
    ++ cond (carries_sector (get_or b at.wait 0)) (row 32 at.wait_bytes b) (replicate 32 0)))))

-- K2: what packing a chip gives
pub record Clean (b : List ℕ) : Type 0 where
  pub sized : length b ≡ at.size
  pub fit : bytes_fit b ≡ true
  pub low : get_or b at.counter_low 0 < 256
  pub wait_low : get_or b at.wait_low 0 < 256
  pub clear : cleared b ≡ b

-- C16: places and bytes belong to a sector
unfoldable pub has_places : Target → Bool
has_places None = false
has_places (Sector k) = true
has_places (Locks ppen bl) = false

-- C16, K2: what unpacking does not read of a wait is not there; so it is in a new chip, in one from bytes, and after every event
abbrev pub Bare : Wait → Type 0
Bare w = has_places w.target ≡ false → w ≡ alone w.target

-- K1: as every chip of the code has
pub record Sized (c : Chip) : Type 0 where
  pub places : length c.load.places ≡ 32
  pub bytes : length c.load.bytes ≡ 32
  pub wait_places : length c.wait.places ≡ 32
  pub wait_bytes : length c.wait.bytes ≡ 32
