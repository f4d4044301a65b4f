-- What is locked, said once over part, BL, pin and address. (RULES C12.)
--
-- | Name | Meaning |
-- |---|---|
-- | `lock_table` | for each part with a register, then for BL 0 to 3, the first locked address, 4000h where there is none |
-- | `first_locked part bl` | its entry; 4000h for a part or a BL that it does not have |
-- | `locked part bl pin a` | the address is locked, with the protect pin at this level |
use Rattle.std.specs.Prelude.{ℕ, Bool, cond, ◌&&◌, List, [], ◌∷◌, leb, get_or}
use Rattle.parts.specs.Register.{has_register}

-- C12: the X24128, then the X24F128
abbrev pub lock_table : List (List ℕ)
lock_table =
    (0x4000 ∷ 0x3000 ∷ 0x2000 ∷ 0x0000 ∷ [])
    ∷ (0x4000 ∷ 0x3000 ∷ 0x2000 ∷ 0x0000 ∷ [])
    ∷ []

-- where the lock begins
unfoldable pub first_locked : ℕ → ℕ → ℕ
first_locked part bl = get_or (get_or lock_table part []) bl 0x4000

-- C12: where there is a register, from the first locked address on, whatever the pin; where there is none, from 3000h on while the pin is high
abbrev pub locked : ℕ → ℕ → Bool → ℕ → Bool
locked part bl pin address = cond (has_register part) (leb (first_locked part bl) address) (pin && leb 0x3000 address)
