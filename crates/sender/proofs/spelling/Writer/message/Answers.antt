-- The parts one behind the other are the message. Assumes nothing.
use Rattle.std.proofs.Common.{◌≡◌, ◌+◌, ◌*◌, ◌/◌, ◌%◌, false, ℕ, List, [], ◌∷◌, ◌++◌, get_or, sym, ap, arith}
use Rattle.messages.specs.Messages.{begin, end, bytes_sent, slave_byte}
use Rattle.messages.specs.Wires.{Wires, spelled}
use Rattle.sender.specs.Sending.{low}
use Rattle.sender.proofs.Lows.{bytes_on, row_length}
use Rattle.sender.proofs.Writes.{puts_same, puts_on}
use Rattle.sender.proofs.spelling.Writer.message.Goals as goal

pub bytes-requires-2 : goal.bytes-requires-2
bytes-requires-2 c =
    let be = c.to_be_bytes.result in
    let head : List ℕ = (0xa0 + c.args.select * 2) ∷ get_or be 0 0 ∷ get_or be 1 0 ∷ [] in
    omega (arith, c.put.ensures.end, c.put.ensures.room, c.bytes.ensures.end, c.bytes.ensures.room, row_length head)

pub put-requires-2 : goal.put-requires-2
put-requires-2 c =
    let be = c.to_be_bytes.result in
    let head : List ℕ = (0xa0 + c.args.select * 2) ∷ get_or be 0 0 ∷ get_or be 1 0 ∷ [] in
    omega (arith, c.put.ensures.end, c.put.ensures.room, c.bytes.ensures.end, c.bytes.ensures.room, c.bytes-2.ensures.end, c.bytes-2.ensures.room, row_length head, row_length c.args.bytes.now)

pub returns : goal.returns
unfolding spelled
returns c =
    let a = c.args in
    let bytes = a.bytes.now in
    let head : List ℕ = slave_byte a.select false ∷ a.address / 256 ∷ a.address % 256 ∷ [] in
    let slave : 0xa0 + a.select * 2 ≡ slave_byte a.select false = omega arith in
    let high : get_or c.to_be_bytes.result 0 0 ≡ a.address / 256 = rw c.to_be_bytes.ensures (omega (arith, c.ranges.address)) in
    let low_byte : get_or c.to_be_bytes.result 1 0 ≡ a.address % 256 = rw c.to_be_bytes.ensures (omega (arith, c.ranges.address)) in
    let first = puts_same c.bytes.ensures (λ i. low (bytes_sent (slave i ∷ high i ∷ low_byte i ∷ []))) in
    puts_same
    (puts_on ((begin ++ bytes_sent head) ++ bytes_sent bytes) end (omega arith)
    (puts_on (begin ++ bytes_sent head) (bytes_sent bytes) (omega arith) (puts_on begin (bytes_sent head) (omega arith) c.put.ensures first) c.bytes-2.ensures)
    c.put-2.ensures)
    (ap (λ (w : List Wires). low (begin ++ w ++ end)) (sym (bytes_on head bytes)))
