-- What is written is the end of the four last digits. Assumes nothing.
use Rattle.std.proofs.Common.{arith}
use Rattle.report.proofs.PageLaws.{puts_same}
use Rattle.report.proofs.TextLaws.{width_short, numeral_part}
use Rattle.report.proofs.Page.number.Goals as goal

pub overflow_sub-width : goal.overflow_sub-width
overflow_sub-width c = omega (arith, width_short c.args.n)

pub returns : goal.returns
returns c = puts_same c.text.ensures (numeral_part c.args.n c.width.ensures c.glyph.ensures c.glyph-2.ensures c.glyph-3.ensures c.glyph-4.ensures)
