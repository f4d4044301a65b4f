-- Reading a record: what stands where, and the refusals in their order. (RULES G2-G7, G11-G14, F12-F14, O5.)
--
-- | Name | Meaning |
-- |---|---|
-- | `closed_at`, `opened_at` | the limits that bytes 0–3 stand for |
-- | `state_at`, `length_at`, `sum_at` | the state byte, the label length and the sum, as stored |
-- | `label_at`, `padding_at` | the label, and the rest of its twenty-four places |
-- | `is_free` | a free record |
-- | `label_fits` | length, label and padding are as the layout has them |
-- | `good_of` | what a good record gives |
-- | `content_of` | what a record gives whose label fits |
-- | `read_of` | what reading answers |
use Rattle.std.specs.Prelude.{ℕ, ◌+◌, ◌-◌, Bool, cond, not, ◌&&◌, List, eqb, leb, ℤ, length, get_or, take, drop}
use Rattle.gate.specs.Bytes.{all, total, pair}
use Rattle.gate.specs.Limit.{limits_refusal, signed16, travel_of}
use Rattle.gate.specs.Label.{is_label}
use Rattle.gate.specs.Answer.{Read, Good, Free, Refused}

-- G2: bytes 0–1 closed limit
abbrev pub closed_at : List ℕ → ℤ
closed_at bytes = signed16 (pair (get_or bytes 0 0) (get_or bytes 1 0))

-- G2: 2–3 open limit
abbrev pub opened_at : List ℕ → ℤ
opened_at bytes = signed16 (pair (get_or bytes 2 0) (get_or bytes 3 0))

-- G3: 4 A5h
abbrev pub state_at : List ℕ → ℕ
state_at bytes = get_or bytes 4 0

-- G4: 5 label length
abbrev pub length_at : List ℕ → ℕ
length_at bytes = get_or bytes 5 0

-- G5: 6–29 label
abbrev pub label_at : List ℕ → List ℕ
label_at bytes = take (length_at bytes) (drop 6 bytes)

-- G5: padded with 20h
abbrev pub padding_at : List ℕ → List ℕ
padding_at bytes = take (24 - length_at bytes) (drop (6 + length_at bytes) bytes)

-- G6: 30–31 sum, high byte first
abbrev pub sum_at : List ℕ → ℕ
sum_at bytes = pair (get_or bytes 30 0) (get_or bytes 31 0)

-- G7: all FFh is a free record
unfoldable pub is_free : List ℕ → Bool
is_free bytes = all 0xff bytes

-- G12, F14: length, label, padding (our reading: the first `length_at` bytes are the label, all others of the
-- twenty-four the padding, docs/DECISIONS.md)
unfoldable pub label_fits : List ℕ → Bool
label_fits bytes = leb (length_at bytes) 24 && (is_label (label_at bytes) && all 0x20 (padding_at bytes))

-- G13: reading a good record gives both limits, the travel and the label length (our reading: as stored, docs/DECISIONS.md)
abbrev pub good_of : List ℕ → Read
good_of bytes = Good (closed_at bytes) (opened_at bytes) (travel_of (closed_at bytes) (opened_at bytes)) (length_at bytes)

-- G12, F14: the limits, the last that is checked (our reading: those that writing refuses,
-- docs/DECISIONS.md)
unfoldable pub content_of : List ℕ → Read
content_of bytes = cond (not (eqb (limits_refusal (closed_at bytes) (opened_at bytes)) 0)) (Refused 14) (good_of bytes)

-- O5, F7, F12-F14, G11: reading checks 7, then free, then 12, 13, 14
unfoldable pub read_of : List ℕ → Read
read_of bytes =
    cond (not (eqb (length bytes) 32)) (Refused 7)
    (cond (is_free bytes) Free
    (cond (not (eqb (state_at bytes) 0xa5)) (Refused 12)
    (cond (not (eqb (sum_at bytes) (total (take 30 bytes)))) (Refused 13)
    (cond (not (label_fits bytes)) (Refused 14)
    (content_of bytes)))))
