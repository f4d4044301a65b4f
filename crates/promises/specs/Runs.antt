-- Concrete runs for demand 3: on each part one that meets all that it takes, and others that fail one hypothesis each, three on the parts with a register and two on
-- the part without.
--
-- | Name | Meaning |
-- |---|---|
-- | `high`, `low_at_stop` | the pin high in every sample; low in the STOP of a register write alone |
-- | `register_set` | PEL, RPEL, then a register byte and its cycle |
-- | `strike` | 55h alone to an address and its cycle |
-- | `attack` | a register byte that clears PPEN and BL, then the strike |
-- | `struck part` | what this leaves at 0000h: 55h on the X24128, the spoil byte on the X24F128 |
-- | `cut_read` | a slave byte with read, cut with SCL low in its acknowledge |
-- | `edged` | an array of FFh with 00h at its first address and A5h at its last |
-- | `registered part`, `protected part`, `unprotected part` | a chip with a register byte, run from power-up; PPEN 1 and BL 3; PPEN 0 and BL 3 |
-- | `unlocking part` | the protected chip in a cycle for which PPEN 0 and BL 0 wait, let through by the pin low before |
-- | `withstood` | the attack with the pin high, a power-up and a cut read; two bytes read over the roll-over |
-- | `attacked` | the attack with these pins in its register byte; one byte read |
-- | `struck_later` | a program-done and the strike, the pin high; one byte read |
-- | `plain`, `pin_withstood` | a new X24F129; the strike at its last address with the pin high, a power-up and a cut read, two bytes read up to there |
-- | `pin_attacked`, `striking` | the same strike with the pin low in its STOP alone; its cycle not done |
-- | `ended_later` | a program-done; one byte read |
-- | `stopping` | the chip before the STOP of 32 bytes for 2FE0h, the sector before 3000h, the pin high |
-- | `lows` | how many samples have the pin low |
-- | `Lost` | a byte was locked before the noise, and the read returns another |
use Rattle.std.specs.Prelude.{ℕ, ◌+◌, Bool, true, false, not, cond, List, [], ◌∷◌, ◌++◌, ◌≡◌, eqb, set, take, replicate}
use Rattle.parts.specs.Locks.{locked}
use Rattle.parts.specs.Sector.{erased}
use Rattle.parts.specs.Wait.{first_half}
use Rattle.chip.specs.Chip.{new_chip}
use Rattle.chip.specs.Run.{World, world, ran}
use Rattle.chip.specs.View.{pin_high}
use Rattle.chip.specs.declared.wire.Event.{Event}
use Rattle.chip.specs.declared.wire.Event.TheVariants.{ProgramDone, PowerUp}
use Rattle.promises.specs.Demand3.{Scene, heard}
use Rattle.messages.specs.Messages.{begin, message, register_write, slave_byte}
use Rattle.messages.specs.RandomRead.{bytes_read, held}
use Rattle.messages.specs.Wires.{wires_of, played, clocks, bits_of}

-- the pin high in every sample
abbrev pub high : ℕ → Bool
high k = true

-- a register write has 77 samples, its STOP the last
abbrev pub low_at_stop : ℕ → Bool
low_at_stop k = not (eqb k 76)

-- 02h sets PEL, 06h RPEL; then the register byte, with these pins, and its cycle
unfoldable pub register_set : ℕ → (ℕ → Bool) → ℕ → List Event
register_set select pins byte =
    played high (register_write select 0x02)
    ++ played high (register_write select 0x06)
    ++ played pins (register_write select byte)
    ++ (ProgramDone ∷ [])

-- one byte, with these pins; its message has 77 samples too
unfoldable pub strike : ℕ → (ℕ → Bool) → ℕ → List Event
strike select pins address = played pins (message select address (0x55 ∷ [])) ++ (ProgramDone ∷ [])

-- 02h as a register byte is PPEN 0 and BL 0
unfoldable pub attack : ℕ → (ℕ → Bool) → List Event
attack select pins = register_set select pins 0x02 ++ strike select high 0x0000

-- S7, S9: one byte is stored by the X24128, and spoils the sector of an X24F128
abbrev pub struck : ℕ → ℕ
struck part = cond (eqb part 0) 0x55 0xff

-- case 11's cut: eight bits, and the low half of the ninth clock
unfoldable pub cut_read : ℕ → List Event
cut_read select = played high (begin ++ clocks (bits_of (slave_byte select true)) ++ (wires_of 2 ∷ []))

-- an array of 16,384 bytes
unfoldable pub edged : List ℕ
edged = set (set erased 0x0000 0x00) 0x3fff 0xa5

-- a new chip at select 5 with this register byte, run from power-up
abbrev pub registered : ℕ → ℕ → World
registered part byte = ran (register_set 5 high byte) (world (new_chip part 5) edged)

-- 9Ah is PPEN 1 and BL 3
abbrev pub protected : ℕ → World
protected part = registered part 0x9a

-- 1Ah is PPEN 0 and BL 3
abbrev pub unprotected : ℕ → World
unprotected part = registered part 0x1a

-- the same, in force: its cycle has not ended
unfoldable pub unlocking : ℕ → World
unlocking part = ran (played high (register_write 5 0x06) ++ played low_at_stop (register_write 5 0x02)) (protected part)

-- the attack with the pin high, a power-up, a cut read; then two bytes from 3FFFh
abbrev pub withstood : Scene
withstood = record { noise = attack 5 high ++ (PowerUp first_half ∷ []) ++ cut_read 5; pin = false; pins = λ k. false; address = 0x3fff; n = 2 }

-- the attack alone, with these pins in its register byte; then the byte at 0000h
abbrev pub attacked : (ℕ → Bool) → Scene
attacked pins = record { noise = attack 5 pins; pin = true; pins = high; address = 0x0000; n = 1 }

-- the cycle ends, and the byte comes; then the byte at 0000h
abbrev pub struck_later : Scene
struck_later = record { noise = ProgramDone ∷ strike 5 high 0x0000; pin = true; pins = high; address = 0x0000; n = 1 }

-- PPEN 0, BL 0: on an X24F129 no bit enables the pin
abbrev pub plain : World
plain = world (new_chip 2 5) edged

-- the strike with the pin high, a power-up, a cut read; then two bytes from 3FFEh
abbrev pub pin_withstood : Scene
pin_withstood = record { noise = strike 5 high 0x3fff ++ (PowerUp first_half ∷ []) ++ cut_read 5; pin = false; pins = λ k. false; address = 0x3ffe; n = 2 }

-- the strike alone, the pin low in its STOP; then the byte at 3FFFh
abbrev pub pin_attacked : Scene
pin_attacked = record { noise = strike 5 low_at_stop 0x3fff; pin = true; pins = high; address = 0x3fff; n = 1 }

-- the same up to its STOP: its cycle has not ended
unfoldable pub striking : World
striking = ran (played low_at_stop (message 5 0x3fff (0x55 ∷ []))) plain

-- it ends; then the byte at 3FFFh
abbrev pub ended_later : Scene
ended_later = record { noise = ProgramDone ∷ []; pin = true; pins = high; address = 0x3fff; n = 1 }

-- 35 bytes, and a STOP of three samples, but the last: 634 of 635
unfoldable pub stopping : World
stopping = ran (played high (take 634 (message 5 0x2fe0 (replicate 32 0x55)))) plain

-- the samples with the pin low, counted
unfoldable pub lows : List Event → ℕ
lows [] = 0
lows (e ∷ es) = cond (pin_high e) 0 1 + lows es

-- the byte at the scene's address was locked and held `kept`, and the read returns `read`
pub record Lost (s : Scene) (w : World) (kept read : ℕ) : Type 0 where
  pub locked_before : locked w.chip.part w.chip.register.bl true s.address ≡ true
  pub held_before : held w.array s.address 1 ≡ kept ∷ []
  pub read_after : bytes_read 1 (heard s w) ≡ read ∷ []
