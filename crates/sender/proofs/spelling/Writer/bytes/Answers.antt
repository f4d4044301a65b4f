-- The bytes so far are a row, and each byte is put behind it. Assumes nothing.
use Rattle.std.proofs.Common.{ap, take, get_or, arith}
use Rattle.std.proofs.Math.Seq.{length-take-le}
use Rattle.messages.specs.Messages.{byte_sent, bytes_sent}
use Rattle.messages.specs.Wires.{spelled}
use Rattle.sender.specs.Sending.{low}
use Rattle.sender.proofs.Lows.{row_length, next_byte}
use Rattle.sender.proofs.Writes.{puts_none, puts_same, puts_on}
use Rattle.sender.proofs.spelling.Writer.bytes.Goals as goal

pub loop-byte-init : goal.loop-byte-init
unfolding spelled
loop-byte-init c = puts_none c.args.self.now

pub byte-requires : goal.byte-requires
byte-requires c =
    let bytes = c.args.bytes.now in
    let i = c.loop-byte.byte-index in
    omega (arith, c.loop-byte.invariant.end, c.loop-byte.invariant.room, row_length (take i bytes), length-take-le i bytes (omega arith))

pub loop-byte-preserved : goal.loop-byte-preserved
loop-byte-preserved c =
    let bytes = c.args.bytes.now in
    let i = c.loop-byte.byte-index in
    puts_same (puts_on (bytes_sent (take i bytes)) (byte_sent (get_or bytes i 0)) (omega arith) c.loop-byte.invariant c.byte.ensures) (ap low (next_byte bytes i c.loop-byte-test.true))
