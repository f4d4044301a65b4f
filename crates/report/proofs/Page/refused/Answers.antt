-- A refusal is its parts, one after the other. Assumes nothing.
use Rattle.std.proofs.Common.{◌∷◌, [], ap, ◌∙◌, append_assoc, arith}
use Rattle.report.specs.Text.{numeral, refused_word, refused_text}
use Rattle.report.proofs.PageLaws.{puts_more, puts_same}
use Rattle.report.proofs.TextLaws.{numeral_short}
use Rattle.report.proofs.Page.refused.Goals as goal

pub text-requires-2 : goal.text-requires-2
text-requires-2 c = omega (arith, c.text.ensures.end, c.number.ensures.end, numeral_short c.number-digits.result)

pub returns : goal.returns
unfolding refused_text
returns c =
    puts_same (puts_more (puts_more c.text.ensures c.number.ensures) c.text-2.ensures) (append_assoc refused_word (numeral c.number-digits.result) (0x0a ∷ []) ∙ ap refused_text c.number-digits.ensures)
