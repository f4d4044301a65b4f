-- The register: the byte that it reads as, and the ordered rules for a byte written to it. (RULES C1, T21, S13-S17.)
--
-- | Name | Meaning |
-- |---|---|
-- | `Written` | the outcome of a write: the register after it, what waits then, the note |
-- | `has_register part` | the part has a register |
-- | `register_byte` | the byte that a read sends |
-- | `written_as r target note` | such an outcome |
-- | `with_pel`, `with_rpel`, `with_locks` | the register with one bit set or cleared; with other PPEN and BL |
-- | `reserved`, `latch_written`, `lock_written` | rules 1, 2 and 3 |
-- | `written r byte pin` | what a byte does, with the protect pin at the stop |
use Rattle.std.specs.Prelude.{ℕ, ◌+◌, ◌*◌, ◌/◌, ◌%◌, Bool, true, false, cond, not, ◌&&◌, ◌||◌, eqb}
use Rattle.parts.specs.Phase.{weight, bit_of}
use Rattle.parts.specs.declared.register.Register.{Register}
use Rattle.parts.specs.declared.wait.Target.{Target}
use Rattle.parts.specs.declared.wait.Target.TheVariants.{None, Locks}

-- S13-S17: the register, what waits where a cycle began, and the note
pub record Written : Type 0 where
  pub register : Register
  pub target : Target
  pub note : ℕ

-- C1: the X24F129 has none, every other part has one
abbrev pub has_register : ℕ → Bool
has_register part = not (eqb part 2)

-- T21: from bit 7 down PPEN, 0, 0, BL1, BL0, RPEL, PEL, 0
abbrev pub register_byte : Register → ℕ
register_byte r = weight r.ppen 0x80 + r.bl % 4 * 8 + weight r.rpel 4 + weight r.pel 2

-- an outcome
abbrev pub written_as : Register → Target → ℕ → Written
written_as r target note = record { register = r; target = target; note = note }

-- one bit of the register
abbrev pub with_pel : Register → Bool → Register
with_pel r on = record { ppen = r.ppen; bl = r.bl; rpel = r.rpel; pel = on }

abbrev pub with_rpel : Register → Bool → Register
with_rpel r on = record { ppen = r.ppen; bl = r.bl; rpel = on; pel = r.pel }

-- U3: PPEN and BL; the two latches stay
abbrev pub with_locks : Register → Bool → ℕ → Register
with_locks r ppen bl = record { ppen = ppen; bl = bl; rpel = r.rpel; pel = r.pel }

-- S13, N6: rule 1, a byte with bit 0, 5 or 6 set is refused with note 6
abbrev pub reserved : ℕ → Bool
reserved byte = bit_of byte 0 || bit_of byte 5 || bit_of byte 6

-- S14, N3, N6: rule 2, RPEL clear: 00h and 02h write PEL, 06h sets RPEL where PEL is set; note 3, and 6 for any other byte
unfoldable pub latch_written : Register → ℕ → Written
latch_written r byte =
    cond (eqb byte 0x00) (written_as (with_pel r false) None 3)
    (cond (eqb byte 0x02) (written_as (with_pel r true) None 3)
    (cond (eqb byte 0x06 && r.pel) (written_as (with_rpel r true) None 3)
    (written_as r None 6)))

-- S15, S16, N2, N6: rule 3, RPEL set: low bits other than 010, or PPEN set and the pin high, are note 6; else RPEL is cleared and a cycle begins in which
-- PPEN and BL wait, note 2; until its end those in force are read (U9)
unfoldable pub lock_written : Register → ℕ → Bool → Written
lock_written r byte pin =
    cond (not (eqb (byte % 8) 0b010) || (r.ppen && pin)) (written_as r None 6)
    (written_as (with_rpel r false) (Locks (bit_of byte 7) (byte / 8 % 4)) 2)

-- the rules in their order
unfoldable pub written : Register → ℕ → Bool → Written
written r byte pin = cond (reserved byte) (written_as r None 6) (cond r.rpel (lock_written r byte pin) (latch_written r byte))
