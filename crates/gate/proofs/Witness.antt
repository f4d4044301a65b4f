-- Worked case 4 meets what the theorems of this crate suppose: it can be written, what is written is a good record, and the record
-- takes other limits. So does a label with accents; and with 7Fh, A0h or FFh in it a label is refused.
-- Assumes nothing.
use mathlib.Core.Path.{◌≡◌, refl}
use mathlib.Core.Bool.{false}
use mathlib.Core.List.{List, [], ◌∷◌, ◌++◌}
use Prim.Native.Nat.{ℕ}
use native.Mathlib.Omega.{arith}
use lib.IntN.{pos}
use lib.ListN.{take, drop, replicate}
use Rattle.gate.specs.Limit.{in_range, same, bits16}
use Rattle.gate.specs.Label.{label_byte, trimmed_length}
use Rattle.gate.specs.Form.{record_of}
use Rattle.gate.specs.Writing.{write_of, written_of}
use Rattle.gate.specs.Reading.{read_of}
use Rattle.gate.specs.Limiting.{limits_of, limited_of}
use Rattle.gate.specs.Naming.{name_of}
use Rattle.gate.specs.Answer.{Good, Refused}
use Rattle.gate.proofs.Numbers.{pair_bytes}
use Rattle.gate.proofs.Labels.{label_erased, label_gap}
use Rattle.gate.proofs.RoundTrip.{written_read, bytes_below, read_written}
use Rattle.gate.proofs.BadBytes.{bad_written, bad_read}
use Rattle.gate.proofs.Trimming.{label_name}
use Rattle.gate.proofs.Limited.{limited_record, limited_read}

-- the label of worked case 4
abbrev north : List ℕ
north = 0x4e ∷ 0x4f ∷ 0x52 ∷ 0x54 ∷ 0x48 ∷ []

-- the buffer: a free record
abbrev free_record : List ℕ
free_record = replicate 32 0xff

-- what is written there
abbrev north_record : List ℕ
north_record = written_of free_record (pos 0) (pos 1200) north

-- it is not refused
pub north_taken : write_of free_record (pos 0) (pos 1200) north ≡ 0
unfolding write_of in_range same label_byte
north_taken = refl

-- and is read back
pub north_read : read_of north_record ≡ Good (pos 0) (pos 1200) (pos 1200) 5
north_read = written_read free_record (pos 0) (pos 1200) north north_taken

-- what was read, written again, gives the same bytes
pub north_restored : (write_of free_record (pos 0) (pos 1200) (take 5 (drop 6 north_record)) ≡ 0) × (written_of free_record (pos 0) (pos 1200) (take 5 (drop 6 north_record)) ≡ north_record)
unfolding written_of write_of record_of bits16 in_range same label_byte
north_restored = read_written north_record (bytes_below north_record refl) north_read free_record refl

-- the limits 100 and 200 are not refused
pub north_limits : limits_of north_record (pos 100) (pos 200) ≡ 0
unfolding limits_of in_range same
north_limits = rw north_read

-- they leave these bytes
pub north_limited : limited_of north_record (pos 100) (pos 200) ≡ (0x00 ∷ 0x64 ∷ 0x00 ∷ 0xc8 ∷ 0xa5 ∷ 0x05 ∷ north) ++ replicate 19 0x20 ++ (0x05 ∷ 0xc1 ∷ [])
unfolding written_of write_of record_of bits16 in_range same label_byte
north_limited = limited_record north_record (pos 100) (pos 200) north_limits

-- and are read back
pub north_reread : read_of (limited_of north_record (pos 100) (pos 200)) ≡ Good (pos 100) (pos 200) (pos 100) 5
north_reread = limited_read north_record (pos 100) (pos 200) north_limits north_read

-- the label Portón Núñez, in ISO 8859-1
abbrev porton : List ℕ
porton = 0x50 ∷ 0x6f ∷ 0x72 ∷ 0x74 ∷ 0xf3 ∷ 0x6e ∷ 0x20 ∷ 0x4e ∷ 0xfa ∷ 0xf1 ∷ 0x65 ∷ 0x7a ∷ []

-- it is not refused
pub porton_taken : write_of free_record (pos 0) (pos 1200) porton ≡ 0
unfolding write_of in_range same label_byte
porton_taken = refl

-- is read back
pub porton_read : read_of (written_of free_record (pos 0) (pos 1200) porton) ≡ Good (pos 0) (pos 1200) (pos 1200) 12
porton_read = written_read free_record (pos 0) (pos 1200) porton porton_taken

-- and shown
pub porton_shown : (standard : List ℕ) → name_of (written_of free_record (pos 0) (pos 1200) porton) standard ≡ porton
unfolding trimmed_length
porton_shown standard = label_name free_record (pos 0) (pos 1200) porton standard porton_taken 12 refl (λ e. omega (arith, e))

-- NORTH with another first byte, and its record, whatever the byte
abbrev spelt : ℕ → List ℕ
spelt b = b ∷ 0x4f ∷ 0x52 ∷ 0x54 ∷ 0x48 ∷ []

abbrev spelt_record : ℕ → List ℕ
spelt_record b = record_of (pos 0) (pos 1200) (spelt b)

-- it is refused with 9 when it is written and with 14 when it is read
abbrev SpeltRefused : ℕ → Type 0
SpeltRefused b = (write_of free_record (pos 0) (pos 1200) (spelt b) ≡ 9) × (read_of (spelt_record b) ≡ Refused 14)

-- where the byte may not stand in a label
spelt_refused : (b : ℕ) → label_byte b ≡ false → SpeltRefused b
unfolding record_of bits16
spelt_refused b bad = (
  (bad_written free_record (pos 0) (pos 1200) (spelt b) 0 refl (omega arith) (omega arith) bad).0,
  bad_read (spelt_record b) 0 refl (omega arith) bad refl (pair_bytes _),
)

-- as 7Fh, A0h and FFh may not
pub three_refused : SpeltRefused 0x7f × (SpeltRefused 0xa0 × SpeltRefused 0xff)
three_refused = (
  spelt_refused 0x7f (label_gap 0x7f (omega arith) (omega arith)),
  (spelt_refused 0xa0 (label_gap 0xa0 (omega arith) (omega arith)), spelt_refused 0xff label_erased),
)
