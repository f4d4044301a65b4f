-- Writing a record: the refusals in their order, and what the buffer holds afterwards. (RULES G15, G16, F7-F11, O4.)
--
-- | Name | Meaning |
-- |---|---|
-- | `write_of` | the number that writing answers: the first refusal that applies, or 0 |
-- | `written_of` | what the buffer holds afterwards: the record, or after a refusal what it held |
use Rattle.std.specs.Prelude.{ℕ, cond, not, List, eqb, ltb, ℤ, length}
use Rattle.gate.specs.Limit.{limits_refusal}
use Rattle.gate.specs.Label.{is_label}
use Rattle.gate.specs.Form.{record_of}

-- O4, F7-F11, G15: writing a record checks 7, 8, 9, 10, 11
unfoldable pub write_of : List ℕ → ℤ → ℤ → List ℕ → ℕ
write_of buffer closed opened label =
    cond (not (eqb (length buffer) 32)) 7
    (cond (ltb 24 (length label)) 8
    (cond (not (is_label label)) 9
    (limits_refusal closed opened)))

-- O10, G16: no buffer is written
unfoldable pub written_of : List ℕ → ℤ → ℤ → List ℕ → List ℕ
written_of buffer closed opened label =
    cond (eqb (write_of buffer closed opened label) 0) (record_of closed opened label) buffer
