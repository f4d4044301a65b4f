-- Heading, lines and count are written one behind the other, and 7 bytes a line leave room for each. Assumes nothing.
use Rattle.std.proofs.Common.{◌∙◌, ◌++◌, length, append_assoc, arith}
use Rattle.report.specs.Report.{answer_text}
use Rattle.report.specs.Text.{heading, lines_from, numeral, count_text, events_word}
use Rattle.report.proofs.PageLaws.{puts_more, puts_same}
use Rattle.report.proofs.TextLaws.{lines_short, numeral_short}
use Rattle.report.proofs.Page.answers.Goals as goal

pub number-requires : goal.number-requires
number-requires c = (omega (arith, c.text.ensures.end, c.lines.ensures.end, lines_short 0 c.args.answers.now), omega arith)

pub text-requires-2 : goal.text-requires-2
text-requires-2 c =
    omega (arith, c.text.ensures.end, c.lines.ensures.end, c.number.ensures.end, lines_short 0 c.args.answers.now, numeral_short (length c.args.answers.now))

pub returns : goal.returns
unfolding answer_text count_text
returns c =
    let lines = lines_from 0 c.args.answers.now in
    let count = numeral (length c.args.answers.now) in
    puts_same (puts_more (puts_more (puts_more c.text.ensures c.lines.ensures) c.number.ensures) c.text-2.ensures)
    (append_assoc (heading ++ lines) count events_word ∙ append_assoc heading lines (count ++ events_word))
