-- Each clock is put behind those of the bits so far, and the ninth ends the byte. Assumes nothing.
use Rattle.std.proofs.Common.{◌≡◌, ◌≤◌, ◌+◌, ◌-◌, ◌*◌, ◌∙◌, true, refl, sym, ap, take, length, arith}
use Rattle.std.proofs.Math.Seq.{take_all}
use Rattle.messages.specs.Messages.{byte_sent}
use Rattle.messages.specs.Wires.{spelled, clocks, bits_of}
use Rattle.parts.specs.Phase.{bit_of}
use Rattle.sender.specs.Sending.{low}
use Rattle.sender.proofs.Lows.{next_clock, clock_behind, clock_room}
use Rattle.sender.proofs.spelling.put_byte.Goals as goal

pub loop-k-init : goal.loop-k-init
unfolding clocks spelled
loop-k-init c = (c.requires, refl)

pub loop-k-preserved : goal.loop-k-preserved
loop-k-preserved c =
    let byte = c.args.byte in
    let k = c.loop-k.k in
    let events = c.loop-k.events in
    let kept = c.loop-k.invariant in
    let sda = c.bit_of.ensures in
    let room : k * 2 + 2 ≤ length events = omega (arith, kept.0) in (
      rw c.put_clock.ensures (clock_room events _ _ _) ∙ kept.0,
      rw (c.put_clock.ensures, c.from.ensures, sda) (clock_behind events k (bit_of byte (7 - k)) (clocks (take k (bits_of byte))) room kept.1)
          ∙ ap low (next_clock byte k c.loop-k-test.true),
    )

pub returns : goal.returns
unfolding byte_sent clocks
returns c =
    let byte = c.args.byte in
    let events = c.loop-k.events in
    let kept = c.loop-k.invariant in
    let end : c.loop-k.k ≡ 8 = omega arith in
    let front : take 16 events ≡ low (clocks (bits_of byte)) = (λ i. take (sym end i * 2) events) ∙ kept.1 ∙ (λ i. low (clocks (take (end i) (bits_of byte)))) in
    let all : length c.put_clock-2.new.events ≡ 18 = rw c.put_clock-2.ensures (clock_room events 16 _ _) ∙ kept.0 in
    sym (take_all 18 c.put_clock-2.new.events (omega (arith, all)))
    ∙ rw c.put_clock-2.ensures (clock_behind events 8 true (clocks (bits_of byte)) (omega (arith, kept.0)) front)
