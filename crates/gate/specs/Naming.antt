-- The name shown: which of the two lent slices it lies in, from where, how many bytes, and the bytes. (RULES G19-G21.)
--
-- | Name | Meaning |
-- |---|---|
-- | `own_length` | how many bytes of the record's label are shown, 0 where none is |
-- | `span_of` | where the name lies: which slice, from where, how many bytes |
-- | `part_of` | the bytes of such a span |
-- | `name_of` | the name shown |
use Rattle.std.specs.Prelude.{ℕ, true, false, cond, List, eqb, length, take, drop}
use Rattle.gate.specs.Label.{trimmed_length}
use Rattle.gate.specs.Reading.{read_of}
use Rattle.gate.specs.Answer.{Read, Good, Free, Refused}
use Rattle.gate.specs.declared.answer.Shown.{Shown}

-- G20: the record's label without its trailing spaces; none where the record is free or refused
abbrev pub own_length : List ℕ → Read → ℕ
own_length bytes (Good c o t n) = trimmed_length (take n (drop 6 bytes)) n
own_length bytes Free = 0
own_length bytes (Refused k) = 0

-- G20, G21: that label, or the standard label, whole, where there is none or it is blank (our reading: blank is empty or 20h alone,
-- and the standard label is never checked, docs/DECISIONS.md)
unfoldable pub span_of : List ℕ → List ℕ → Shown
span_of bytes standard =
    cond (eqb (own_length bytes (read_of bytes)) 0)
    (record { own = false; start = 0; len = length standard })
    (record { own = true; start = 6; len = own_length bytes (read_of bytes) })

-- G19: a part of one of two lent slices
abbrev pub part_of : Shown → List ℕ → List ℕ → List ℕ
part_of shown bytes standard = take shown.len (drop shown.start (cond shown.own bytes standard))

-- G19: the name shown
abbrev pub name_of : List ℕ → List ℕ → List ℕ
name_of bytes standard = part_of (span_of bytes standard) bytes standard
