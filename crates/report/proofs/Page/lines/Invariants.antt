-- Before each turn the lines of the answers before the position are written.
use Rattle.std.proofs.Common.{take}
use Rattle.report.specs.Page.{Puts}
use Rattle.report.specs.Text.{lines_from}
use Rattle.report.proofs.Page.lines.Given as goal

abbrev pub invariant-loop-position : goal.invariant-loop-position
invariant-loop-position l = Puts l.fn.self l.self (lines_from 0 (take l.position l.answers))
