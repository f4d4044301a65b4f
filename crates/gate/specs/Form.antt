-- The thirty-two bytes of a record. (RULES G1-G6.)
--
-- | Name | Meaning |
-- |---|---|
-- | `limit_bytes` | bytes 0–3: the limits |
-- | `beside_label` | bytes 0–4: the limits and the state byte |
-- | `front_of` | bytes 0–5: the limits, the state byte and the label length |
-- | `padded_of` | bytes 6–29: the label, padded with spaces |
-- | `body_of` | bytes 0–29 |
-- | `sealed_of` | thirty bytes with their sum behind them |
-- | `record_of` | the record of two limits and a label |
use Rattle.std.specs.Prelude.{ℕ, ◌-◌, List, [], ◌∷◌, ◌++◌, ℤ, length, replicate}
use Rattle.gate.specs.Bytes.{total, bytes16}
use Rattle.gate.specs.Limit.{bits16}

-- G2: bytes 0–1 closed limit, 2–3 open limit
abbrev pub limit_bytes : ℤ → ℤ → List ℕ
limit_bytes closed opened = bytes16 (bits16 closed) ++ bytes16 (bits16 opened)

-- G3: the same, and 4 A5h
abbrev pub beside_label : ℤ → ℤ → List ℕ
beside_label closed opened = limit_bytes closed opened ++ (0xa5 ∷ [])

-- G4: the same, and 5 label length
abbrev pub front_of : ℤ → ℤ → ℕ → List ℕ
front_of closed opened n = beside_label closed opened ++ (n ∷ [])

-- G5: 6–29 label, padded with 20h
abbrev pub padded_of : List ℕ → List ℕ
padded_of label = label ++ replicate (24 - length label) 0x20

-- G2-G5: bytes 0–29
abbrev pub body_of : ℤ → ℤ → List ℕ → List ℕ
body_of closed opened label = front_of closed opened (length label) ++ padded_of label

-- G6: 30–31 sum of bytes 0–29, high byte first
abbrev pub sealed_of : List ℕ → List ℕ
sealed_of body = body ++ bytes16 (total body)

-- G1, G16: fixed 32 bytes
unfoldable pub record_of : ℤ → ℤ → List ℕ → List ℕ
record_of closed opened label = sealed_of (body_of closed opened label)
