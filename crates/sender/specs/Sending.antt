-- The sender: the event bytes that put a gate's record into its sector, when it refuses, and what the lent buffer holds afterwards.
-- (RULES A1-A5, F3, F15-F17, O11.)
--
-- | Name | Meaning |
-- |---|---|
-- | `Sent` | the number of a refusal or 0, and how many events were written |
-- | `sent_as` | what an answer of the code stands for |
-- | `low wires` | the event bytes of wires, with the protect pin low throughout |
-- | `pel_message part select` | the message that sets PEL, where the part has one |
-- | `lead part` | how many events that message takes |
-- | `event_count part` | how many events all that is sent takes |
-- | `sent_events part select gate bytes` | all that is sent: PEL set, the record written, program-done |
-- | `send_refusal part select gate bytes room` | the first refusal that applies, or 0 |
-- | `sent_of` | the answer: the refusal, and the number of events |
-- | `sent_buffer` | the lent buffer at exit |
-- | `over at new old` | a buffer in which new bytes stand from a place on |
use Rattle.std.specs.Prelude.{ℕ, ◌+◌, ◌*◌, false, cond, List, [], ◌∷◌, ◌++◌, ltb, length, take, drop, Result, Ok, Err}
use Rattle.refusals.specs.Refusals.{number_of}
use Rattle.refusals.specs.declared.Refusal.{Refusal}
use Rattle.gate.specs.Answer.{needs_gate}
use Rattle.gate.specs.Reading.{read_of}
use Rattle.parts.specs.Register.{has_register}
use Rattle.trace.specs.Trace.{unless}
use Rattle.messages.specs.Messages.{message, register_write}
use Rattle.messages.specs.Wires.{Wires, spelled}

-- A4, O9: the refusal and the number of events
pub record Sent : Type 0 where
  pub refusal : ℕ
  pub count : ℕ

-- O9: a refusal writes none
abbrev pub sent_as : Result ℕ Refusal → Sent
sent_as (Ok count) = record { refusal = 0; count = count }
sent_as (Err why) = record { refusal = number_of why; count = 0 }

-- A2: protect pin low throughout
abbrev pub low : List Wires → List ℕ
low wires = spelled (λ k. false) wires

-- A1: left out for the part that has no PEL
abbrev pub pel_message : ℕ → ℕ → List Wires
pel_message part select = cond (has_register part) (register_write select 0x02) []

-- A3: a message of four bytes, or none
abbrev pub lead : ℕ → ℕ
lead part = cond (has_register part) 77 0

-- A3: with the record's message and the program-done
abbrev pub event_count : ℕ → ℕ
event_count part = cond (has_register part) 713 636

-- A1, A3: set PEL, address, 32 bytes, stop, program-done; the address is 32 times the gate number
unfoldable pub sent_events : ℕ → ℕ → ℕ → List ℕ → List ℕ
sent_events part select gate bytes = low (pel_message part select ++ message select (gate * 32) bytes) ++ (8 ∷ [])

-- O11, F15-F17, F3: 7 and 12-14 by reading the record, free refused as 12, then 15 gate number above 511, 16 select above 7, 3 part above 2, 17 buffer too short
unfoldable pub send_refusal : ℕ → ℕ → ℕ → List ℕ → ℕ → ℕ
send_refusal part select gate bytes room =
    needs_gate (read_of bytes)
    (cond (ltb 511 gate) 15
    (cond (ltb 7 select) 16
    (cond (ltb 2 part) 3
    (cond (ltb room (event_count part)) 17
    0))))

-- A4: their number; O9: a refusal answers 0
unfoldable pub sent_of : ℕ → ℕ → ℕ → List ℕ → List ℕ → Sent
sent_of part select gate bytes old =
    record {
      refusal = send_refusal part select gate bytes (length old);
      count = unless (send_refusal part select gate bytes (length old)) 0 (event_count part);
    }

-- A5: buffer bytes past them stay; O10: a refusal writes none
unfoldable pub sent_buffer : ℕ → ℕ → ℕ → List ℕ → List ℕ → List ℕ
sent_buffer part select gate bytes old =
    unless (send_refusal part select gate bytes (length old)) old (sent_events part select gate bytes ++ drop (event_count part) old)

-- what stood there before goes, all else stays
abbrev pub over : ℕ → List ℕ → List ℕ → List ℕ
over at new old = take at old ++ new ++ drop (at + length new) old
