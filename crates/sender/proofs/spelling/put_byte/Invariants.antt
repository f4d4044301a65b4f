-- Before each turn the clocks of the bits so far stand in front.
use Rattle.std.proofs.Common.{◌≡◌, ◌*◌, length, take}
use Rattle.messages.specs.Wires.{clocks, bits_of}
use Rattle.sender.specs.Sending.{low}
use Rattle.sender.proofs.spelling.put_byte.Given as goal

abbrev pub invariant-loop-k : goal.invariant-loop-k
invariant-loop-k l = (length l.events ≡ 18) × (take (l.k * 2) l.events ≡ low (clocks (take l.k (bits_of l.byte))))
