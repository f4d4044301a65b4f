-- What a part reads of its chip, one line for each rule that parts differ in: the register's address, the mark, PEL, the count. Where a flag
-- decides, it is tested before the part.
--
-- | Name | Meaning |
-- |---|---|
-- | `selects part address` | the address is the register's (RULES T10) |
-- | `marked part mark` | the register is selected, and not the array (C4) |
-- | `enabled part pel` | data for the array is taken (T12, T13) |
-- | `partial part count` | a load of this many bytes spoils its sector (S7) |
use Rattle.std.specs.Prelude.{ℕ, Bool, not, ◌&&◌, ◌||◌, eqb}
use Rattle.parts.specs.Register.{has_register}

-- without a register FFFFh is an address as any other
abbrev pub selects : ℕ → ℕ → Bool
selects part address = eqb address 0xffff && has_register part

-- the mark is not read,
abbrev pub marked : ℕ → Bool → Bool
marked part mark = mark && has_register part

-- and neither is PEL
abbrev pub enabled : ℕ → Bool → Bool
enabled part pel = pel || not (has_register part)

-- the X24128 takes a load of any length, the others whole sectors alone
abbrev pub partial : ℕ → ℕ → Bool
partial part count = not (eqb count 32) && not (eqb part 0)
