-- Where each field of a chip stands in its bytes, in the order of the C struct. A field that is added stands behind the last.
-- (RULES K1.)
--
-- | Name | Meaning |
-- |---|---|
-- | `part`, `select` | a byte each |
-- | `ppen`, `bl`, `rpel`, `pel` | the register: three flags, and BL |
-- | `counter_high`, `counter_low` | the address counter |
-- | `mark`, `busy`, `scl`, `line` | flags: the mark, busy, the last SCL, the last line |
-- | `phase`, `bits`, `byte`, `high` | the phase's number and what it carries |
-- | `count` | the load's count |
-- | `places` | a flag for each place of the sector |
-- | `load` | a byte for each place of the sector |
-- | `spoil` | the spoil byte |
-- | `wait` | the kind of what waits |
-- | `wait_high`, `wait_low` | the waiting sector |
-- | `wait_ppen`, `wait_bl` | the waiting PPEN, a flag, and the waiting BL |
-- | `wait_places` | a flag for each place of the waiting sector |
-- | `wait_bytes` | a byte for each place of the waiting sector |
-- | `size` | how many bytes a chip has |
use Rattle.std.specs.Prelude.{ℕ}

abbrev pub part : ℕ
part = 0

abbrev pub select : ℕ
select = 1

abbrev pub ppen : ℕ
ppen = 2

abbrev pub bl : ℕ
bl = 3

abbrev pub rpel : ℕ
rpel = 4

abbrev pub pel : ℕ
pel = 5

abbrev pub counter_high : ℕ
counter_high = 6

abbrev pub counter_low : ℕ
counter_low = 7

abbrev pub mark : ℕ
mark = 8

abbrev pub busy : ℕ
busy = 9

abbrev pub scl : ℕ
scl = 10

abbrev pub line : ℕ
line = 11

abbrev pub phase : ℕ
phase = 12

abbrev pub bits : ℕ
bits = 13

abbrev pub byte : ℕ
byte = 14

abbrev pub high : ℕ
high = 15

abbrev pub count : ℕ
count = 16

abbrev pub places : ℕ
places = 17

abbrev pub load : ℕ
load = 49

abbrev pub spoil : ℕ
spoil = 81

abbrev pub wait : ℕ
wait = 82

abbrev pub wait_high : ℕ
wait_high = 83

abbrev pub wait_low : ℕ
wait_low = 84

abbrev pub wait_ppen : ℕ
wait_ppen = 85

abbrev pub wait_bl : ℕ
wait_bl = 86

abbrev pub wait_places : ℕ
wait_places = 87

abbrev pub wait_bytes : ℕ
wait_bytes = 119

abbrev pub size : ℕ
size = 151
