-- Before each turn the bytes so far are written.
use Rattle.std.proofs.Common.{take}
use Rattle.messages.specs.Messages.{bytes_sent}
use Rattle.sender.specs.Sending.{low}
use Rattle.sender.specs.Writing.{Puts}
use Rattle.sender.proofs.spelling.Writer.bytes.Given as goal

abbrev pub invariant-loop-byte : goal.invariant-loop-byte
invariant-loop-byte l = Puts l.fn.self l.self (low (bytes_sent (take l.byte-index l.bytes)))
