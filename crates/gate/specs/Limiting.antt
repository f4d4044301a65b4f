-- New limits into a good record: the refusals in their order, and what the buffer holds afterwards. (RULES G17, G18, O6.)
--
-- | Name | Meaning |
-- |---|---|
-- | `limits_of` | the number that the operation answers: the first refusal that applies, or 0 |
-- | `relimited` | a record with other limits: bytes 4–29 as they are, and the sum anew |
-- | `limited_of` | what the buffer holds afterwards: that record, or after a refusal what it held |
use Rattle.std.specs.Prelude.{ℕ, cond, List, ◌++◌, eqb, ℤ, take, drop}
use Rattle.gate.specs.Limit.{limits_refusal}
use Rattle.gate.specs.Form.{limit_bytes, sealed_of}
use Rattle.gate.specs.Answer.{needs_gate}
use Rattle.gate.specs.Reading.{read_of}

-- O6, G17: 7, 12, 13, 14 as reading has them, then 10, 11 (our reading: a free record is 12 here, since it is no gate, docs/DECISIONS.md)
unfoldable pub limits_of : List ℕ → ℤ → ℤ → ℕ
limits_of bytes closed opened = needs_gate (read_of bytes) (limits_refusal closed opened)

-- G18: the limits in bytes 0–3, nothing else but the sum
unfoldable pub relimited : List ℕ → ℤ → ℤ → List ℕ
relimited bytes closed opened = sealed_of (limit_bytes closed opened ++ take 26 (drop 4 bytes))

-- O10, G18: no buffer is written
unfoldable pub limited_of : List ℕ → ℤ → ℤ → List ℕ
limited_of bytes closed opened = cond (eqb (limits_of bytes closed opened) 0) (relimited bytes closed opened) bytes
