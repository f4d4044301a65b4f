-- What is known of the first locked address without its table: where it lies past the table, how it is computed inside, and what holds of each entry
-- holds of it. Of all that is locked: a sector is locked whole, and the pin low locks nothing that the pin high does not. Assumes nothing.
use Prim.Native.Nat.{ℕ, zero, suc, ◌-◌, ◌*◌, ◌^◌, ◌%◌, ◌<◌, ◌≤◌}
use mathlib.Core.Bool.{Bool, true, false, cond, ◌&&◌}
use mathlib.Core.Path.{◌≡◌, refl, sym, ◌∙◌, ap₂}
use mathlib.Core.List.{[]}
use native.Mathlib.Nat.{le_trans, lt_of_not-le, not-le_of_lt}
use native.Mathlib.Omega.{arith}
use borrow.Author.Tests.{leb-true, leb-false, le-leb, lt-leb}
use lib.Dec.{leb}
use lib.Bits.{bit_and, and_le_l}
use lib.ListN.{get_or, get_or-eq_default}
use lib.Pow.{pow_mono}
use Rattle.parts.specs.Locks.{first_locked, lock_table, locked}
use Rattle.parts.specs.Register.{has_register}
use Rattle.parts.specs.Sector.{sector_start}
use Rattle.parts.proofs.SectorLaws.{start_again}

-- past the parts nothing is locked
pub first_past_part : (part bl : ℕ) → 1 < part → first_locked part bl ≡ 0x4000
unfolding first_locked
first_past_part part bl h = rw (get_or-eq_default lock_table [] {n = part} h)

-- a law that holds of each entry of the table holds of every first locked address
pub first_by : (P : ℕ → Type 0) → P 0x4000 → P 0x3000 → P 0x2000 → P 0x0000 → (part bl : ℕ) → P (first_locked part bl)
unfolding first_locked
first_by P none one two all zero zero = none
first_by P none one two all zero (suc zero) = one
first_by P none one two all zero (suc (suc zero)) = two
first_by P none one two all zero (suc (suc (suc zero))) = all
first_by P none one two all zero (suc (suc (suc (suc bl)))) = none
first_by P none one two all (suc zero) zero = none
first_by P none one two all (suc zero) (suc zero) = one
first_by P none one two all (suc zero) (suc (suc zero)) = two
first_by P none one two all (suc zero) (suc (suc (suc zero))) = all
first_by P none one two all (suc zero) (suc (suc (suc (suc bl)))) = none
first_by P none one two all (suc (suc part)) bl = none

-- past BL 3 nothing is locked
pub first_past_bl : (part bl : ℕ) → 3 < bl → first_locked part bl ≡ 0x4000
unfolding first_locked
first_past_bl zero bl h = get_or-eq_default (get_or lock_table 0 []) 0x4000 h
first_past_bl (suc zero) bl h = get_or-eq_default (get_or lock_table 1 []) 0x4000 h
first_past_bl (suc (suc part)) bl h = refl

-- 800h doubled BL times is within the array, whatever a mask keeps of it
pub doubled_fits : (bl mask : ℕ) → bl ≤ 3 → bit_and (0x800 * 2 ^ bl % 0x10000) mask ≤ 0x4000
doubled_fits bl mask b =
    let power : 2 ^ bl ≤ 8 = pow_mono b in
    le_trans (and_le_l (0x800 * 2 ^ bl % 0x10000) mask) (omega arith)

-- the table's rows are alike
first_alike : (part bl : ℕ) → part ≤ 1 → first_locked 0 bl ≡ first_locked part bl
unfolding first_locked
first_alike zero bl p = refl
first_alike (suc zero) bl p = refl
first_alike (suc (suc part)) bl p = absurd (omega arith)

-- through a mask that drops the 800h of BL 0 and keeps what BL 1, 2 and 3 lock, it is what lies from the first locked address on
pub first_computed : (mask : ℕ) → bit_and 0x800 mask ≡ 0 → bit_and 0x1000 mask ≡ 0x1000 → bit_and 0x2000 mask ≡ 0x2000 → bit_and 0x4000 mask ≡ 0x4000
    → (part bl : ℕ) → part ≤ 1 → bl ≤ 3 → 0x4000 - bit_and (0x800 * 2 ^ bl % 0x10000) mask ≡ first_locked part bl
unfolding first_locked
first_computed mask none one two all part bl p b = row bl b ∙ first_alike part bl p
  where
    row : (bl : ℕ) → bl ≤ 3 → 0x4000 - bit_and (0x800 * 2 ^ bl % 0x10000) mask ≡ first_locked 0 bl
    row zero b = rw none
    row (suc zero) b = rw one
    row (suc (suc zero)) b = rw two
    row (suc (suc (suc zero))) b = rw all
    row (suc (suc (suc (suc bl)))) b = absurd (omega arith)

-- a first locked address is the start of a sector
pub first_starts : (part bl : ℕ) → first_locked part bl % 32 ≡ 0
first_starts part bl = first_by (λ first. first % 32 ≡ 0) refl refl refl refl part bl

-- a test that is passed at each of two numbers or at neither
leb_same : (first a b : ℕ) → (first ≤ a → first ≤ b) → (first ≤ b → first ≤ a) → leb first a ≡ leb first b
leb_same first a b there back = go (leb first a) refl
  where
    go : (t : Bool) → leb first a ≡ t → t ≡ leb first b
    go true e = sym (le-leb first b (there (leb-true first a e)))
    go false e = sym (lt-leb first b (lt_of_not-le (λ h. not-le_of_lt (leb-false first a e) (back h))))

-- a locked sector is locked whole: of two addresses of one sector both are locked, or neither
pub locked_whole : (part bl : ℕ) (pin : Bool) (a b : ℕ) → sector_start a ≡ sector_start b → locked part bl pin a ≡ locked part bl pin b
locked_whole part bl pin a b same =
    let start : first_locked part bl % 32 ≡ 0 = first_starts part bl in
    ap₂ (λ (by-bl by-pin : Bool). cond (has_register part) by-bl (pin && by-pin))
    (leb_same (first_locked part bl) a b (omega arith) (omega arith)) (leb_same 0x3000 a b (omega arith) (omega arith))

-- an address is locked where its sector's start is
pub locked_from_start : (part bl : ℕ) (pin : Bool) (a : ℕ) → locked part bl pin (sector_start a) ≡ locked part bl pin a
locked_from_start part bl pin a = locked_whole part bl pin (sector_start a) a (start_again a)

-- what is open at a level of the pin is open with the pin low
pub open_low : (part bl : ℕ) (pin : Bool) (a : ℕ) → locked part bl pin a ≡ false → locked part bl false a ≡ false
open_low part bl pin a = go (has_register part)
  where
    go : (has : Bool) → cond has (leb (first_locked part bl) a) (pin && leb 0x3000 a) ≡ false → cond has (leb (first_locked part bl) a) false ≡ false
    go true unlocked = unlocked
    go false unlocked = refl

-- where there is a register the pin is not asked
pub locked_by_bl : (part bl : ℕ) (pin : Bool) (a : ℕ) → has_register part ≡ true → locked part bl pin a ≡ leb (first_locked part bl) a
locked_by_bl part bl pin a has = rw has
