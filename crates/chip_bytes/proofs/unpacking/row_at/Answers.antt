-- The bytes that are copied are the part of the chip's that begins at the offset. Assumes nothing.
use Rattle.std.proofs.Common.{◌∙◌, arith}
use Rattle.chip_bytes.proofs.Rows.{part_row}
use Rattle.chip_bytes.proofs.unpacking.row_at.Goals as goal

pub returns : goal.returns
returns c = c.copy_from_slice.ensures.after ∙ part_row 32 c.args.offset c.args.state.now (omega arith)
