-- Addresses, sectors and the array: 16,384 addresses in 512 sectors of 32. (RULES C11, T14, T19.)
--
-- | Name | Meaning |
-- |---|---|
-- | `sector_start a` | the first address of the sector of a |
-- | `next_place a` | the next place of the same sector, the first after the last |
-- | `next_address a` | the next address, 0000h after 3FFFh |
-- | `sector_of k xs` | the 32 bytes of sector k |
-- | `Bytes xs` | a list of bytes |
-- | `erased` | an array of FFh |
use Rattle.std.specs.Prelude.{ℕ, ◌+◌, ◌*◌, ◌/◌, ◌%◌, ◌<◌, List, get_or, take, drop, replicate}

-- C11: the address with its low five bits cleared
abbrev pub sector_start : ℕ → ℕ
sector_start address = address / 32 * 32

-- T14: the low five bits rise by one and wrap, the rest stays
abbrev pub next_place : ℕ → ℕ
next_place address = address / 32 * 32 + (address + 1) % 32

-- T19: modulo 16,384
abbrev pub next_address : ℕ → ℕ
next_address address = (address + 1) % 0x4000

-- C11: sector k begins at address 32 k
abbrev pub sector_of : ℕ → List ℕ → List ℕ
sector_of k xs = take 32 (drop (k * 32) xs)

-- each below 100h
abbrev pub Bytes : List ℕ → Type 0
Bytes xs = (k : ℕ) → get_or xs k 0 < 0x100

-- as the chip comes, and as the bench has it
abbrev pub erased : List ℕ
erased = replicate 0x4000 0xff
