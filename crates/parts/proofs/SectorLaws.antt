-- Addresses and sectors, each fact once for any address; the bytes of a sector. Assumes nothing.
use Prim.Native.Nat.{ℕ, ◌+◌, ◌*◌, ◌%◌, ◌<◌, ◌≤◌}
use mathlib.Core.List.{List}
use mathlib.Core.Path.{◌≡◌, sym, ◌∙◌}
use native.Mathlib.Nat.{lt_of_lt_of_le, le_trans, le_of_eq, min-le_left}
use native.Mathlib.Omega.{arith}
use lib.ListN.{length, get_or, drop, length-take, length-drop}
use lib.Seq.{ext_get_or, get_or-take, get_or-drop, length-take-le}
use Rattle.parts.specs.Sector.{sector_start, next_place, next_address, sector_of}

-- an address is its sector's start and its low five bits
pub start_and_place : (a : ℕ) → sector_start a + a % 32 ≡ a
start_and_place a = omega arith

-- each of the 32 addresses from a sector's start is in that sector
pub start_within : (a k : ℕ) → k < 32 → sector_start (sector_start a + k) ≡ sector_start a
start_within a k h = omega arith

-- a sector's start is in its own sector
pub start_again : (a : ℕ) → sector_start (sector_start a) ≡ sector_start a
start_again a = omega arith

-- the counter's wrap stays in the sector
pub next_place_stays : (a : ℕ) → sector_start (next_place a) ≡ sector_start a
next_place_stays a = omega arith

-- a sector that begins in the array ends in it
pub sector_fits : (a : ℕ) → a ≤ 0x3fff → sector_start a + 32 ≤ 0x4000
sector_fits a h = omega arith

-- the next place of an address of the array is in the array
pub next_place_fits : (a : ℕ) → a ≤ 0x3fff → next_place a ≤ 0x3fff
next_place_fits a h = omega arith

-- the next address is in the array
pub next_address_fits : (a : ℕ) → next_address a ≤ 0x3fff
next_address_fits a = omega arith

-- a sector of a whole array is 32 bytes
pub sector_length : (k : ℕ) (xs : List ℕ) → k * 32 + 32 ≤ length xs → length (sector_of k xs) ≡ 32
sector_length k xs h = length-take-le 32 (drop (k * 32) xs) (simp length-drop (omega arith))

-- each of its bytes is the array's
pub sector_byte : (k : ℕ) (xs : List ℕ) (j : ℕ) → j < 32 → get_or (sector_of k xs) j 0 ≡ get_or xs (k * 32 + j) 0
sector_byte k xs j h = get_or-take 32 (drop (k * 32) xs) j 0 h ∙ get_or-drop (k * 32) xs j 0

-- where two arrays agree on the addresses of a sector, it is the same in both
pub sector_same : (k : ℕ) (xs ys : List ℕ) → length xs ≡ length ys → ((a : ℕ) → sector_start a ≡ k * 32 → get_or xs a 0 ≡ get_or ys a 0) → sector_of k xs ≡ sector_of k ys
sector_same k xs ys sized same =
    ext_get_or 0 (sector_of k xs) (sector_of k ys) (simp (length-take, length-drop, sized))
    (λ j h. let inside : j < 32 = lt_of_lt_of_le h (le_trans (le_of_eq (length-take 32 (drop (k * 32) xs))) (min-le_left 32 (length (drop (k * 32) xs)))) in
    sector_byte k xs j inside ∙ same (k * 32 + j) (omega arith) ∙ sym (sector_byte k ys j inside))
