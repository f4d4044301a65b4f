-- What an answer of 0 says of what was given, and what two messages and a program-done are together. Assumes nothing.
use Prim.Native.Nat.{ℕ, ◌+◌, ◌*◌, ◌≤◌}
use mathlib.Core.Bool.{Bool, true, false, cond}
use mathlib.Core.List.{List, [], ◌∷◌, ◌++◌}
use mathlib.Core.Path.{◌≡◌, refl, sym, ap, ◌∙◌}
use native.Mathlib.Omega.{arith}
use borrow.Author.Tests.{ltb-false, le-ltb}
use lib.Dec.{ltb}
use lib.IntN.{ℤ}
use lib.ListN.{length, take, drop, length-append}
use lib.Seq.{take_at}
use Rattle.std.specs.Prelude.{Result, Ok, Err}
use Rattle.std.specs.Result.{result_unwrap_or}
use Rattle.refusals.specs.Refusals.{status_of}
use Rattle.refusals.specs.declared.Refusal.{Refusal}
use Rattle.refusals.proofs.Numbers.{same_refusal, never_0}
use Rattle.parts.specs.Register.{has_register}
use Rattle.parts.specs.Rows.{every}
use Rattle.parts.proofs.RowLaws.{every_on}
use Rattle.trace.specs.Bytes.{is_event, all_events}
use Rattle.trace.specs.Trace.{unless}
use Rattle.gate.specs.Reading.{read_of, good_of}
use Rattle.gate.specs.Writing.{write_of, written_of}
use Rattle.gate.proofs.Answers.{needs_good, good_length}
use Rattle.gate.proofs.RoundTrip.{written_read}
use Rattle.messages.specs.Messages.{message, register_write}
use Rattle.messages.specs.Wires.{Wires}
use Rattle.messages.proofs.Spelling.{spelled_events, message_length}
use Rattle.sender.specs.Sending.{Sent, sent_as, low, pel_message, lead, event_count, sent_events, send_refusal, sent_buffer}
use Rattle.sender.specs.declared.spelling.Writer.{Writer}
use Rattle.sender.specs.Writing.{Puts}
use Rattle.sender.proofs.Lows.{low_length}
use Rattle.sender.proofs.Writes.{puts_more, puts_on, puts_front}

-- two answers of the code that stand for the same are one
pub same_sent : (a b : Result ℕ Refusal) → sent_as a ≡ sent_as b → a ≡ b
same_sent (Ok m) (Ok n) e = ap (λ (s : Sent). Ok s.count) e
same_sent (Ok n) (Err why) e = absurd (never_0 why (sym (ap (λ (s : Sent). s.refusal) e)))
same_sent (Err why) (Ok n) e = absurd (never_0 why (ap (λ (s : Sent). s.refusal) e))
same_sent (Err a) (Err b) e = ap Err (same_refusal a b (ap (λ (s : Sent). s.refusal) e))

-- their refusal is what a call is told by
pub sent_refusal : (a : Result ℕ Refusal) → (sent_as a).refusal ≡ status_of a
sent_refusal (Ok count) = refl
sent_refusal (Err why) = refl

-- and their count is what is sent, or 0
pub sent_count : (a : Result ℕ Refusal) → (sent_as a).count ≡ result_unwrap_or a 0
sent_count (Ok count) = refl
sent_count (Err why) = refl

-- what can be sent
pub record Sendable (part select gate : ℕ) (bytes : List ℕ) (room : ℕ) : Type 0 where
  pub good : read_of bytes ≡ good_of bytes
  pub sized : length bytes ≡ 32
  pub gate_in : gate ≤ 511
  pub select_in : select ≤ 7
  pub part_in : part ≤ 2
  pub room_in : event_count part ≤ room

-- four tests that have all failed
tests : (a b c d : Bool) → ◌≡◌ {A = ℕ} (cond a 15 (cond b 16 (cond c 3 (cond d 17 0)))) 0 → (a ≡ false) × (b ≡ false) × (c ≡ false) × (d ≡ false)
tests true b c d e = absurd (omega arith)
tests false true c d e = absurd (omega arith)
tests false false true d e = absurd (omega arith)
tests false false false true e = absurd (omega arith)
tests false false false false e = (refl, refl, refl, refl)

-- an answer of 0 says that all is good
pub send_taken : (part select gate : ℕ) (bytes : List ℕ) (room : ℕ) → send_refusal part select gate bytes room ≡ 0 → Sendable part select gate bytes room
unfolding send_refusal
send_taken part select gate bytes room e =
    let good = needs_good bytes _ e in
    let t = tests (ltb 511 gate) (ltb 7 select) (ltb 2 part) (ltb room (event_count part)) (rw good at e) in
    record {
      good = good;
      sized = (good_length bytes good).0;
      gate_in = ltb-false 511 gate t.0;
      select_in = ltb-false 7 select t.1;
      part_in = ltb-false 2 part t.2;
      room_in = ltb-false room (event_count part) t.3;
    }

-- the message that sets PEL, 635 events of the record's and the program-done are all of them
pub lead_count : (part : ℕ) → event_count part ≡ lead part + 636
lead_count part = go (has_register part)
  where
    go : (has : Bool) → ◌≡◌ {A = ℕ} (cond has 713 636) (cond has 77 0 + 636)
    go true = refl
    go false = refl

-- it comes early
pub lead_most : (part : ℕ) → lead part ≤ 77
lead_most part = go (has_register part)
  where
    go : (has : Bool) → cond has 77 0 ≤ 77
    go true = omega arith
    go false = omega arith

-- the message that sets PEL takes 77 events where it is sent
pub pel_length : (part select : ℕ) → length (pel_message part select) ≡ lead part
pel_length part select = go (has_register part)
  where
    go : (has : Bool) → length (cond has (register_write select 0x02) []) ≡ cond has 77 0
    go true = message_length select 0xffff (0x02 ∷ [])
    go false = refl

-- and so do its bytes
pub lead_length : (part select : ℕ) → length (low (pel_message part select)) ≡ lead part
lead_length part select = low_length (pel_message part select) ∙ pel_length part select

module _ (part select gate : ℕ) (bytes : List ℕ) (sized : length bytes ≡ 32) where
  wires : List Wires
  wires = pel_message part select ++ message select (gate * 32) bytes

  -- the record's message takes 635 more
  wires_length : length wires ≡ lead part + 635
  unfolding wires
  wires_length =
      length-append (pel_message part select) (message select (gate * 32) bytes)
      ∙ omega (arith, pel_length part select, message_length select (gate * 32) bytes)

  -- all that is sent
  pub sent_length : length (sent_events part select gate bytes) ≡ event_count part
  unfolding sent_events wires
  sent_length = length-append (low wires) (8 ∷ []) ∙ omega (arith, low_length wires, wires_length, lead_count part)

  -- each is an event byte
  pub sent_events_law : all_events (sent_events part select gate bytes) ≡ true
  unfolding sent_events wires every
  sent_events_law =
      every_on is_event (low wires) (8 ∷ []) (spelled_events (λ k. false) wires) refl

  -- from the front on, the first message where it is sent, the second behind it, and a program-done: how many they are, and what the buffer holds
  pub all_sent : {start led told done : Writer} → start.end ≡ 0 → Puts start led (low (pel_message part select))
      → Puts led told (low (message select (gate * 32) bytes)) → Puts told done (8 ∷ [])
      → (done.end ≡ event_count part) × (done.events.now ≡ sent_events part select gate bytes ++ drop (event_count part) start.events.now)
  unfolding sent_events wires
  all_sent {start} {done} front p q r =
      let inside : start.end ≤ length start.events.now = omega arith in
      let all : Puts start done (sent_events part select gate bytes) = puts_more inside (puts_on (pel_message part select) (message select (gate * 32) bytes) inside p q) r in
      (omega (arith, all.end, sent_length), puts_front front all ∙ ap (λ (n : ℕ). sent_events part select gate bytes ++ drop n start.events.now) sent_length)

-- where sending is not refused, the buffer begins with what is sent
pub sent_front : (part select gate : ℕ) (bytes old : List ℕ) → send_refusal part select gate bytes (length old) ≡ 0
    → take (event_count part) (sent_buffer part select gate bytes old) ≡ sent_events part select gate bytes
unfolding sent_buffer unless
sent_front part select gate bytes old taken =
    let sized : length bytes ≡ 32 = (send_taken part select gate bytes (length old) taken).sized in
    rw taken (take_at (sent_events part select gate bytes) (drop (event_count part) old) (event_count part) (sent_length part select gate bytes sized))

-- what was written as a record can be sent
pub written_sent : (buffer : List ℕ) (closed opened : ℤ) (label : List ℕ) → write_of buffer closed opened label ≡ 0
    → (part select gate room : ℕ) → part ≤ 2 → select ≤ 7 → gate ≤ 511 → event_count part ≤ room
    → send_refusal part select gate (written_of buffer closed opened label) room ≡ 0
unfolding send_refusal
written_sent buffer closed opened label taken part select gate room part_in select_in gate_in room_in =
    rw (written_read buffer closed opened label taken, le-ltb 511 gate gate_in, le-ltb 7 select select_in, le-ltb 2 part part_in, le-ltb room (event_count part) room_in)
