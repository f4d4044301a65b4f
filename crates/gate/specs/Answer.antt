-- The number and values for each answer of reading, and which answer it is. (RULES G11, G13, G14, F12, O6, O9, O11.)
--
-- | Name | Meaning |
-- |---|---|
-- | `Read` | what reading answers: a good record, a free one, or the number of a refusal |
-- | `read_as` | what an answer of the code stands for |
-- | `zeros_of` | a number, with zeros for the limits, the travel and the label length |
-- | `given_of` | the number and the values of an answer |
-- | `needs_gate answer rest` | the refusal of an operation that needs a gate's record: what reading refuses, or else the rest |
-- | `is_good` | the answer is a good record |
-- | `says_free` | the answer is a free record |
-- | `refused_by` | the answer is the refusal of this number |
-- | `one_if` | 1 for a test that passes, else 0 |
-- | `outcomes` | how many of good, free, 12, 13 and 14 the answer is |
use Rattle.std.specs.Prelude.{ℕ, ◌+◌, Bool, true, false, cond, eqb, ℤ, pos, Option, Some, None, Result, Ok, Err}
use Rattle.refusals.specs.Refusals.{number_of}
use Rattle.refusals.specs.declared.Refusal.{Refusal}
use Rattle.gate.specs.declared.answer.Gate.{Gate}
use Rattle.gate.specs.declared.answer.Given.{Given}

-- G11: a good record with its limits, its travel and the length of its label as stored; a free one, all FFh; or a refusal
pub data Read : Type 0 where
  Good : ℤ → ℤ → ℤ → ℕ → Read
  Free : Read
  Refused : ℕ → Read

-- G11, G14: a gate is a good record, none a free one
abbrev pub read_as : Result (Option Gate) Refusal → Read
read_as (Ok (Some gate)) = Good gate.closed gate.opened gate.travel gate.length
read_as (Ok None) = Free
read_as (Err refusal) = Refused (number_of refusal)

-- O9: limits and travel 0, label length 0
abbrev pub zeros_of : ℕ → Given
zeros_of number = record { number = number; closed = pos 0; opened = pos 0; travel = pos 0; length = 0 }

-- G13, G14: a good record gives both limits, the travel and the label length; a free one gives zeros for them (our reading: and
-- the number 0, docs/DECISIONS.md)
abbrev pub given_of : Read → Given
given_of (Good closed opened travel n) = record { number = 0; closed = closed; opened = opened; travel = travel; length = n }
given_of Free = zeros_of 0
given_of (Refused number) = zeros_of number

-- F12, O6, O11: a free record is no gate and is refused with 12; the rest is asked of a good one
abbrev pub needs_gate : Read → ℕ → ℕ
needs_gate (Good c o t n) rest = rest
needs_gate Free rest = 12
needs_gate (Refused number) rest = number

-- G11: a good record
abbrev pub is_good : Read → Bool
is_good (Good c o t n) = true
is_good Free = false
is_good (Refused k) = false

-- G7, G14: a free record
abbrev pub says_free : Read → Bool
says_free (Good c o t n) = false
says_free Free = true
says_free (Refused k) = false

-- G11: the refusal of this number
abbrev pub refused_by : ℕ → Read → Bool
refused_by number (Good c o t n) = false
refused_by number Free = false
refused_by number (Refused k) = eqb k number

-- G11: one for each that the answer is
abbrev pub one_if : Bool → ℕ
one_if b = cond b 1 0

-- G11: how many of the five it is
abbrev pub outcomes : Read → ℕ
outcomes r = one_if (is_good r) + one_if (says_free r) + one_if (refused_by 12 r) + one_if (refused_by 13 r) + one_if (refused_by 14 r)
