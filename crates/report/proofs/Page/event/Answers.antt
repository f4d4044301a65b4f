-- A line is its parts, one after the other. Assumes nothing.
use Rattle.std.proofs.Common.{◌∙◌, ◌∷◌, [], ◌++◌, ◌%◌, ◌/◌, append_assoc, arith}
use borrow.Author.Tests.{ne_eqb}
use Rattle.report.specs.Text.{numeral, event_line, note_line}
use Rattle.report.proofs.PageLaws.{puts_none, puts_more, puts_same}
use Rattle.report.proofs.TextLaws.{numeral_short}
use Rattle.report.proofs.Page.event.Goals as goal

pub text-requires : goal.text-requires
text-requires c = omega (arith, c.number.ensures.end, numeral_short c.args.position)

pub number-requires-then-note-ne0 : goal.number-requires-then-note-ne0
number-requires-then-note-ne0 c = (omega (arith, c.number.ensures.end, c.text.ensures.end, numeral_short c.args.position), omega arith)

pub text-requires-then-note-ne0 : goal.text-requires-then-note-ne0
text-requires-then-note-ne0 c = omega (arith, c.number.ensures.end, c.text.ensures.end, c.number-then-note-ne0.ensures.end, numeral_short)

pub returns-then-note-ne0 : goal.returns-then-note-ne0
unfolding event_line note_line
returns-then-note-ne0 c =
    let note = numeral (c.args.answer / 2 % 8) in
    let position = numeral c.args.position in
    puts_same (puts_more (puts_more (puts_more c.number.ensures c.text.ensures) c.number-then-note-ne0.ensures) c.text-then-note-ne0.ensures)
    (append_assoc (position ++ (0x20 ∷ [])) note (0x0a ∷ []) ∙ append_assoc position (0x20 ∷ []) (note ++ (0x0a ∷ [])) ∙ simp (ne_eqb _ _ c.if-note-ne0.true))

pub returns-else-note-ne0 : goal.returns-else-note-ne0
unfolding event_line
returns-else-note-ne0 c = puts_same (puts_none c.args.self.now) (simp c.if-note-ne0.false)
