-- Where there is no register nothing is put. Assumes nothing.
use Rattle.std.proofs.Common.{sym, refl, ◌∙◌}
use Rattle.messages.specs.Wires.{spelled}
use Rattle.sender.proofs.Writes.{puts_none, puts_same}
use Rattle.sender.proofs.spelling.Writer.lead.Goals as goal

pub returns-else-has_register : goal.returns-else-has_register
unfolding spelled
returns-else-has_register c = puts_same (puts_none c.args.self.now) (rw (sym c.has_register.ensures ∙ c.if-has_register.false) refl)
