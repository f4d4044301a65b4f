-- What a short load leaves for the record routines: a sector of spoil bytes, which is no gate's record. (RULES S7, G7, G11, D6.)
--
-- | Name | Meaning |
-- |---|---|
-- | `spoilt_as byte` | what reading answers to 32 times this byte: never a gate |
use Rattle.std.specs.Prelude.{ℕ, cond, eqb}
use Rattle.gate.specs.Answer.{Read, Free, Refused}

-- G7, F12, F13: FFh is a free record; A5h is the state byte, and then the sum is wrong; any other is not even that
abbrev pub spoilt_as : ℕ → Read
spoilt_as byte = cond (eqb byte 0xff) Free (cond (eqb byte 0xa5) (Refused 13) (Refused 12))
