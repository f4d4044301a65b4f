-- A turn writes one line behind the others, and those of all answers are the last. Assumes nothing.
use Rattle.std.proofs.Common.{take, take_all, ap, arith}
use Rattle.std.proofs.Math.Seq.{length-take-le}
use Rattle.report.specs.Text.{lines_from}
use Rattle.report.proofs.PageLaws.{puts_none, puts_more, puts_same}
use Rattle.report.proofs.TextLaws.{lines_again, lines_short}
use Rattle.report.proofs.Page.lines.Goals as goal

pub event-requires : goal.event-requires
event-requires c =
    let position = c.loop-position.position in
    let answers = c.args.answers.now in
    (omega (arith, c.loop-position.invariant.end, lines_short 0 (take position answers), length-take-le position answers (omega arith)), omega arith)

pub loop-position-init : goal.loop-position-init
unfolding lines_from
loop-position-init c = puts_none c.args.self.now

pub loop-position-preserved : goal.loop-position-preserved
loop-position-preserved c =
    puts_same (puts_more c.loop-position.invariant c.event.ensures) (lines_again c.args.answers.now c.loop-position.position c.loop-position-test.true)

pub returns : goal.returns
returns c = puts_same c.loop-position.invariant (ap (lines_from 0) (take_all c.loop-position.position c.args.answers.now c.loop-position-test.false))
