-- What reading a record and naming a gate answer to C. Writing answers as the gate's own `write_of` and `written_of` say, and new limits as
-- its `limits_of` and `limited_of`. (RULES K4, K6-K8.)
--
-- | Name | Meaning |
-- |---|---|
-- | `ReadSays` | the number of the refusal or 0, the four numbers of a good record or zeros, and 1 for a free record |
-- | `NameSays` | where the name shown lies, and 1 where that is in the record |
use Rattle.std.specs.Prelude.{ℕ, ◌≡◌, List, ℤ}
use Rattle.gate.specs.Answer.{given_of, says_free}
use Rattle.gate.specs.Naming.{span_of}
use Rattle.gate.specs.Reading.{read_of}
use Rattle.chip_bytes.specs.State.{flag_byte}

-- K4, K6: a refusal answers zeros
pub record ReadSays (bytes : List ℕ) (r : ℕ) (closed opened travel : ℤ) (label free : ℕ) : Type 0 where
  pub returned : r ≡ (given_of (read_of bytes)).number
  pub shut : closed ≡ (given_of (read_of bytes)).closed
  pub wide : opened ≡ (given_of (read_of bytes)).opened
  pub between : travel ≡ (given_of (read_of bytes)).travel
  pub labelled : label ≡ (given_of (read_of bytes)).length
  pub unused : free ≡ flag_byte (says_free (read_of bytes))

-- K7: it always answers
pub record NameSays (bytes standard : List ℕ) (r start count own : ℕ) : Type 0 where
  pub returned : r ≡ 0
  pub first : start ≡ (span_of bytes standard).start
  pub counted : count ≡ (span_of bytes standard).len
  pub within : own ≡ flag_byte (span_of bytes standard).own
