-- After the last turn each byte is its flag's. Assumes nothing.
use Rattle.std.proofs.Common.{arith, false}
use Rattle.chip_bytes.specs.State.{flag_byte}
use Rattle.chip_bytes.proofs.Rows.{mapped}
use Rattle.chip_bytes.proofs.packing.flag_bytes.Goals as goal

pub returns : goal.returns
returns c =
    let kept = c.loop-place.invariant in
    mapped flag_byte c.args.flags.now c.loop-place.bytes false (omega (arith, kept.0)) (λ k inside. kept.1 k (omega arith))
