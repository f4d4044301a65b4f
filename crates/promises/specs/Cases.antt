-- The worked cases 1-12, each a test that computes, and the four mistakes as tests that the wrong reading fails. A case of the chip is a run from
-- power-up, message by message, each clocked as case 13 clocks it, over an array of 16,384 bytes. (RULES, worked cases, and M1-M4.)
--
-- | Name | Meaning |
-- |---|---|
-- | `Case`, `holds` | a case: its number in the rules and its test; whether every test of a list passes |
-- | `agree` | two rows of numbers are equal |
-- | `up_from n first` | n numbers, one after the other |
-- | `samples`, `sent` | the events of wires with the pin at one level; what they leave, the pin low |
-- | `loud`, `told` | the notes other than 0, in order; those of wires |
-- | `reads address n` | the n bytes that a random read gives |
-- | `fresh part` | a new chip of a part with select 0, over an array of FFh |
-- | `pel_set`, `locking byte` | the same with PEL set; the same with PPEN and BL written, the cycle done |
-- | `changes` | the addresses at which two arrays differ |
-- | `buffer`, `north`, `travelled` | a free record as a buffer; the label of case 4; the travel that a written record is read with |
-- | `stored wires` | what a message leaves once its cycle is done |
-- | `zeroed spoil`, `leaves` | an X24F128 with this spoil byte over an array of 00h; what so many bytes at 0000h have it say, and leave |
-- | `begins` | a lock begins at an address |
-- | `hung`, `pulses_of` | a chip stopped in an acknowledge; the pulses that recovery reports |
-- | `pin_at_stop` | a write to the register with one pin level up to its STOP and another in it |
-- | `case_1` to `case_12`, `worked` | the cases; the list of them |
-- | `error_1` to `error_4`, `errors` | the errors; the list of them |
use Rattle.std.specs.Prelude.{ℕ, zero, suc, Bool, true, false, not, cond, ◌&&◌, List, [], ◌∷◌, ◌++◌, eqb, ℤ, pos, neg_ℤ, take, drop, set, replicate}
use Rattle.parts.specs.Locks.{locked}
use Rattle.parts.specs.Register.{register_byte}
use Rattle.parts.specs.Sector.{erased}
use Rattle.parts.specs.Wait.{every_place}
use Rattle.chip.specs.Chip.{with_spoil, new_chip}
use Rattle.chip.specs.Run.{World, world, step, ran, notes}
use Rattle.chip.specs.declared.wire.Event.{Event}
use Rattle.chip.specs.declared.wire.Event.TheVariants.{ProgramDone, PowerUp}
use Rattle.recovery.specs.Pulses.{after_pulses}
use Rattle.recovery.specs.Recovery.{recovery_answer}
use Rattle.gate.specs.Limit.{same}
use Rattle.gate.specs.Reading.{read_of}
use Rattle.gate.specs.Answer.{given_of}
use Rattle.gate.specs.Writing.{write_of, written_of}
use Rattle.messages.specs.Messages.{begin, message, register_write}
use Rattle.messages.specs.RandomRead.{random_read, bytes_read}
use Rattle.messages.specs.Wires.{Wires, wires_of, played, heard_of, clocks, bits_of}

-- its number, and whether its test passes
pub record Case : Type 0 where
  pub number : ℕ
  pub passes : Bool

-- a case by its number and test
abbrev case : ℕ → Bool → Case
case number passes = record { number = number; passes = passes }

-- every case of a list passes
abbrev pub holds : List Case → Bool
holds [] = true
holds (c ∷ cs) = c.passes && holds cs

-- two rows, place by place
abbrev pub agree : List ℕ → List ℕ → Bool
agree [] [] = true
agree [] (y ∷ ys) = false
agree (x ∷ xs) [] = false
agree (x ∷ xs) (y ∷ ys) = eqb x y && agree xs ys

-- first, first + 1 and so on
abbrev pub up_from : ℕ → ℕ → List ℕ
up_from zero first = []
up_from (suc n) first = first ∷ up_from n (suc first)

-- one sample for each
abbrev pub samples : Bool → List Wires → List Event
samples pin wires = played (λ k. pin) wires

-- chip and array after them
abbrev pub sent : List Wires → World → World
sent wires w = ran (samples false wires) w

-- note 0 says nothing
abbrev pub loud : List ℕ → List ℕ
loud [] = []
loud (note ∷ rest) = cond (eqb note 0) (loud rest) (note ∷ loud rest)

-- what wires have the chip say, the pin low
abbrev pub told : List Wires → World → List ℕ
told wires w = loud (notes (samples false wires) w)

-- START, then the random read; what is heard of the START's two events is no part of it
abbrev pub reads : ℕ → ℕ → World → List ℕ
reads address n w = bytes_read n (drop 2 (heard_of (λ k. false) (begin ++ random_read 0 address n) w))

-- a new chip is at power-up, with PPEN 0 and BL 0
abbrev pub fresh : ℕ → World
fresh part = world (new_chip part 0) erased

-- register byte 02h sets PEL
abbrev pub pel_set : World → World
pel_set w = sent (register_write 0 0x02) w

-- 02h, 06h, the byte, and the program-done that ends its cycle
abbrev pub locking : ℕ → World → World
locking byte w = step ProgramDone (sent (register_write 0 byte) (sent (register_write 0 0x06) (pel_set w)))

-- the same from an address on; where one array ends before the other, that is a change
abbrev changes_from : ℕ → List ℕ → List ℕ → List ℕ
changes_from at [] [] = []
changes_from at [] (y ∷ ys) = at ∷ []
changes_from at (x ∷ xs) [] = at ∷ []
changes_from at (x ∷ xs) (y ∷ ys) = let rest = changes_from (suc at) xs ys in cond (eqb x y) rest (at ∷ rest)

-- where the bytes before and after are not the same
abbrev pub changes : List ℕ → List ℕ → List ℕ
changes before after = changes_from 0 before after

-- 1. PPEN 1, BL 3, PEL 1 reads 9Ah: by the definition of the byte, and over the wires once 9Ah was written
abbrev pub case_1 : Bool
case_1 =
    eqb (register_byte (record { ppen = true; bl = 3; rpel = false; pel = true })) 0x9a
    && agree (reads 0xffff 1 (locking 0x9a (fresh 0))) (0x9a ∷ [])

-- 32 bytes of FFh
abbrev pub buffer : List ℕ
buffer = replicate 32 0xff

-- "NORTH"
abbrev pub north : List ℕ
north = 0x4e ∷ 0x4f ∷ 0x52 ∷ 0x54 ∷ 0x48 ∷ []

-- written, then read
abbrev pub travelled : ℤ → ℤ → ℤ
travelled closed opened = (given_of (read_of (written_of buffer closed opened north))).travel

-- 2. Closed 150, open -200: travel -350. Ends: -60,000 and 60,000
abbrev pub case_2 : Bool
case_2 =
    same (travelled (pos 150) (neg_ℤ (pos 200))) (neg_ℤ (pos 350))
    && same (travelled (pos 30000) (neg_ℤ (pos 30000))) (neg_ℤ (pos 60000))
    && same (travelled (neg_ℤ (pos 30000)) (pos 30000)) (pos 60000)

-- 3. -30,000 is 8AD0h, -1 is FFFFh; 30,001 refused 10: as either limit
abbrev pub case_3 : Bool
case_3 =
    agree (take 4 (written_of buffer (neg_ℤ (pos 30000)) (neg_ℤ (pos 1)) north)) (0x8a ∷ 0xd0 ∷ 0xff ∷ 0xff ∷ [])
    && eqb (write_of buffer (pos 30001) (pos 0) north) 10
    && eqb (write_of buffer (pos 0) (pos 30001) north) 10

-- 4. Closed 0, open 1,200, "NORTH": 00 00 04 B0 A5 05 4E 4F 52 54 48, nineteen 20h, 05 49
abbrev pub case_4 : Bool
case_4 =
    agree (written_of buffer (pos 0) (pos 1200) north)
    ((0x00 ∷ 0x00 ∷ 0x04 ∷ 0xb0 ∷ 0xa5 ∷ 0x05 ∷ 0x4e ∷ 0x4f ∷ 0x52 ∷ 0x54 ∷ 0x48 ∷ []) ++ replicate 19 0x20 ++ (0x05 ∷ 0x49 ∷ []))

-- 5. Label of 24 taken, 25 refused 8
abbrev pub case_5 : Bool
case_5 =
    eqb (write_of buffer (pos 0) (pos 1200) (replicate 24 0x41)) 0
    && eqb (write_of buffer (pos 0) (pos 1200) (replicate 25 0x41)) 8

-- T-05: a cycle reaches the array at its program-done
abbrev pub stored : List Wires → World → World
stored wires w = step ProgramDone (sent wires w)

-- 6. X24128, unlocked, PEL 1, 27 bytes at 0006h and a program-done: bytes 6-31 and byte 0 change, and no other of the array; they are the 27; counter 0001h
abbrev pub case_6 : Bool
case_6 =
    let after : World = stored (message 0 0x0006 (up_from 27 1)) (pel_set (fresh 0)) in
    agree (changes erased after.array) (0 ∷ up_from 26 6)
    && agree (take 32 after.array) (27 ∷ replicate 5 0xff ++ up_from 26 1)
    && eqb after.chip.counter 0x0001

-- an X24F128 with this spoil byte and PEL 1, over an array of 00h
abbrev pub zeroed : ℕ → World
zeroed spoil = pel_set (world (with_spoil (new_chip 1 0) spoil) (replicate 16384 0x00))

-- so many bytes at 0000h and a program-done: their note, and what the sector holds then; each of its bytes changes, and no other of the array
abbrev pub leaves : ℕ → World → ℕ → List ℕ → Bool
leaves n w note sector =
    let bytes : List Wires = message 0 0x0000 (up_from n 1) in
    agree (told bytes w) (note ∷ [])
    && agree (changes w.array (stored bytes w).array) (up_from 32 0)
    && agree (take 32 (stored bytes w).array) sector

-- 7. X24F128: 31 bytes note 5, 32 note 1, 33 note 5; 31 and 33 leave 32 spoil bytes, 32 leave the load
abbrev pub case_7 : Bool
case_7 =
    leaves 31 (zeroed 0xff) 5 (replicate 32 0xff)
    && leaves 31 (zeroed 0x5a) 5 (replicate 32 0x5a)
    && leaves 32 (zeroed 0x5a) 1 (up_from 32 1)
    && leaves 33 (zeroed 0x5a) 5 (replicate 32 0x5a)

-- the address is locked and the one below is not; so say the notes of 32 bytes written to each
abbrev pub begins : World → ℕ → ℕ → Bool
begins w first below =
    locked w.chip.part w.chip.register.bl false first
    && not (locked w.chip.part w.chip.register.bl false below)
    && agree (told (message 0 first (up_from 32 1)) w) (4 ∷ [])
    && agree (told (message 0 below (up_from 32 1)) w) (1 ∷ [])

-- 8. BL 1 locks 3000h and not 2FFFh; BL 2 locks 2000h and not 1FFFh: of both parts with a register, BL written by register bytes 0Ah and 12h
abbrev pub case_8 : Bool
case_8 =
    begins (locking 0x0a (fresh 0)) 0x3000 0x2fff
    && begins (locking 0x12 (fresh 0)) 0x2000 0x1fff
    && begins (locking 0x0a (fresh 1)) 0x3000 0x2fff
    && begins (locking 0x12 (fresh 1)) 0x2000 0x1fff

-- 9. Register 06h with PEL 0: note 6
abbrev pub case_9 : Bool
case_9 = agree (told (register_write 0 0x06) (fresh 0)) (6 ∷ []) && agree (told (register_write 0 0x06) (fresh 1)) (6 ∷ [])

-- 10. Read at 3FFFh, then 0000h
abbrev pub case_10 : Bool
case_10 = agree (reads 0x3fff 2 (world (new_chip 0 0) (set (set erased 0x3fff 0x12) 0x0000 0x34))) (0x12 ∷ 0x34 ∷ [])

-- START, the eight bits of slave byte A1h and these wires of its acknowledge; a new chip has the mark clear and counter 0000h
abbrev pub hung : List Wires → World
hung wires = sent (begin ++ clocks (bits_of 0xa1) ++ wires) (world (new_chip 0 0) (replicate 16384 0x00))

-- what recovery answers
abbrev pub pulses_of : World → ℕ
pulses_of w = (recovery_answer false w.chip w.array).pulses

-- 11. Mark clear, array byte at the counter 00h, slave byte A1h, stopped with SCL low in its acknowledge: 10 pulses
abbrev pub case_11 : Bool
case_11 = eqb (pulses_of (hung (wires_of 2 ∷ []))) 10

-- 12. The same, stopped with SCL high: 9
abbrev pub case_12 : Bool
case_12 = eqb (pulses_of (hung (wires_of 2 ∷ wires_of 3 ∷ []))) 9

-- the list of them
abbrev pub worked : List Case
worked =
    case 1 case_1
    ∷ case 2 case_2
    ∷ case 3 case_3
    ∷ case 4 case_4
    ∷ case 5 case_5
    ∷ case 6 case_6
    ∷ case 7 case_7
    ∷ case 8 case_8
    ∷ case 9 case_9
    ∷ case 10 case_10
    ∷ case 11 case_11
    ∷ case 12 case_12
    ∷ []

-- M1: Ten pulses taken for nine (case 11): after nine the line is low, after ten it is high
abbrev pub error_1 : Bool
error_1 =
    let stopped : World = hung (wires_of 2 ∷ []) in
    not (after_pulses 9 false stopped).chip.line && (after_pulses 10 false stopped).chip.line

-- M2: A STOP taken as rightly placed only with no bit received, so no write ever ends: case 13, 78 events and note 3 at event 77
abbrev pub error_2 : Bool
error_2 = agree (notes (PowerUp every_place ∷ samples false (register_write 0 0x02)) (fresh 0)) (replicate 77 0 ++ (3 ∷ []))

-- M3: A load that runs on into the next sector, or writes unloaded places: 27 bytes at 0026h change 0020h and 0026h-003Fh and no others
abbrev pub error_3 : Bool
error_3 = agree (changes erased (stored (message 0 0x0026 (up_from 27 1)) (pel_set (fresh 0))).array) (0x0020 ∷ up_from 26 0x0026)

-- the STOP is the last of 77 events
abbrev pub pin_at_stop : Bool → Bool → ℕ → List Event
pin_at_stop until at byte = samples until (take 76 (register_write 0 byte)) ++ samples at (drop 76 (register_write 0 byte))

-- M4: The protect pin read when PPEN was set and not at the STOP: PPEN was set with the pin high, and the register is then written where the pin is
-- low at the STOP alone, and not where it is high at the STOP alone
abbrev pub error_4 : Bool
error_4 =
    let protected : World = step ProgramDone (ran (samples true (register_write 0 0x8a)) (sent (register_write 0 0x06) (pel_set (fresh 0)))) in
    let ready : World = sent (register_write 0 0x06) protected in
    protected.chip.register.ppen
    && agree (loud (notes (pin_at_stop true false 0x02) ready)) (2 ∷ [])
    && agree (loud (notes (pin_at_stop false true 0x02) ready)) (6 ∷ [])

-- M1 to M4
abbrev pub errors : List Case
errors = case 1 error_1 ∷ case 2 error_2 ∷ case 3 error_3 ∷ case 4 error_4 ∷ []
