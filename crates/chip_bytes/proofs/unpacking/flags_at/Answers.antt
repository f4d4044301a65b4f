-- After the last turn each flag is its byte's, and the bytes are the part of the chip's that begins at the offset. Assumes nothing.
use Rattle.std.proofs.Common.{◌∙◌, ap, ℕ, List, length, map, arith}
use Rattle.chip_bytes.specs.State.{flag_of}
use Rattle.chip_bytes.proofs.Rows.{length_row, mapped, part_row}
use Rattle.chip_bytes.proofs.unpacking.flags_at.Goals as goal

pub returns : goal.returns
returns c =
    let kept = c.loop-place.invariant in
    let part = part_row 32 c.args.offset c.args.state.now (omega arith) in
    let long = ap length part ∙ length_row 32 c.args.offset c.args.state.now in
    mapped flag_of _ c.loop-place.flags 0 (omega (arith, kept.0, long)) (λ k inside. kept.1 k (omega (arith, inside, c.loop-place-test.false)))
    ∙ ap (λ (l : List ℕ). map flag_of l) part
