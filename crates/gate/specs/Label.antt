-- The label of a gate. (RULES G9, G20, F9.)
--
-- | Name | Meaning |
-- |---|---|
-- | `label_byte` | a byte that may stand in a label |
-- | `is_label` | each byte may stand in a label |
-- | `trimmed_length` | how many of the first n bytes are left without the spaces at their end |
use Rattle.std.specs.Prelude.{ℕ, zero, suc, Bool, cond, ◌&&◌, ◌||◌, List, eqb, leb, get_or}
use Rattle.gate.specs.Bytes.{each_byte}

-- G9, F9: a label byte lies in 20h–7Eh or in A1h–FEh (ISO 8859-1)
unfoldable pub label_byte : ℕ → Bool
label_byte b = (leb 0x20 b && leb b 0x7e) || (leb 0xa1 b && leb b 0xfe)

-- G9: a label holds label bytes alone
abbrev pub is_label : List ℕ → Bool
is_label bytes = each_byte label_byte bytes

-- G20: the label without its trailing spaces (our reading: a space is 20h alone, docs/DECISIONS.md)
unfoldable pub trimmed_length : List ℕ → ℕ → ℕ
trimmed_length label zero = 0
trimmed_length label (suc n) = cond (eqb (get_or label n 0) 0x20) (trimmed_length label n) (suc n)
