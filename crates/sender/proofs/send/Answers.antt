-- An answer of 0 says what the two messages need, and what is written is all that is sent. Assumes nothing.
use Rattle.std.proofs.Common.{◌*◌, refl, sym, arith, rules}
use Rattle.messages.specs.Messages.{message}
use Rattle.messages.proofs.Spelling.{message_length}
use Rattle.trace.specs.Trace.{unless}
use Rattle.sender.specs.Sending.{sent_of, sent_buffer}
use Rattle.sender.proofs.Lows.{low_length}
use Rattle.sender.proofs.Sends.{send_taken, lead_count, lead_most, lead_length, all_sent}
use Rattle.sender.proofs.send.Goals as goal

pub returns-clause-events_after : goal.returns-clause-events_after
unfolding sent_buffer unless
returns-clause-events_after c =
    let a = c.args in
    let taken = sym c.in_ok-check.ensures in
    let s = send_taken _ _ _ _ _ taken in
    let sent = all_sent a.part a.select a.gate a.bytes.now s.sized refl c.lead.ensures c.message.ensures c.put.ensures in
    let same = sent.1 in
    simp taken (search (rules, same))

pub returns-clause-value : goal.returns-clause-value
unfolding sent_of unless
returns-clause-value c =
    let a = c.args in
    let taken = sym c.in_ok-check.ensures in
    let s = send_taken _ _ _ _ _ taken in
    let sent = all_sent a.part a.select a.gate a.bytes.now s.sized refl c.lead.ensures c.message.ensures c.put.ensures in
    simp (taken, sent.0)

pub message-requires : goal.message-requires
message-requires c =
    let a = c.args in
    let s = send_taken _ _ _ _ _ (sym c.in_ok-check.ensures) in
    (s.select_in, omega (arith, s.room_in, s.sized, c.lead.ensures.end, c.lead.ensures.room, lead_length a.part a.select, lead_count a.part))

pub put-requires : goal.put-requires
put-requires c =
    let a = c.args in
    let s = send_taken _ _ _ _ _ (sym c.in_ok-check.ensures) in
    let told = message a.select (a.gate * 32) a.bytes.now in
    omega (arith, s.room_in, s.sized, c.lead.ensures.end, c.lead.ensures.room, c.message.ensures.end, c.message.ensures.room, lead_length a.part a.select, low_length told, message_length a.select (a.gate * 32) a.bytes.now, lead_count a.part)

pub overflow_cast-result : goal.overflow_cast-result
overflow_cast-result c =
    let a = c.args in
    let s = send_taken _ _ _ _ _ (sym c.in_ok-check.ensures) in
    let sent = all_sent a.part a.select a.gate a.bytes.now s.sized refl c.lead.ensures c.message.ensures c.put.ensures in
    omega (arith, sent.0, lead_count a.part, lead_most a.part)
