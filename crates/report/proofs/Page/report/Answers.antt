-- What is written is the report. Assumes nothing.
use Rattle.std.proofs.Common.{ℕ, replicate, ap, ◌∙◌, sym, arith}
use Rattle.std.proofs.Math.ListN.{length-replicate}
use Rattle.refusals.specs.Refusals.{status_of}
use Rattle.refusals.proofs.Numbers.{never_0}
use Rattle.report.specs.Text.{refused_text}
use Rattle.report.proofs.PageLaws.{puts_same}
use Rattle.report.proofs.ReportLaws.{report_long, report_ran, report_refused}
use Rattle.report.proofs.Page.report.Goals as goal

pub returns-in-Ok : goal.returns-in-Ok
returns-in-Ok c =
    let ran = c.run.ensures in
    puts_same c.answers.ensures
    (report_ran c.args.chip c.args.trace.now (replicate 4096 0) (omega arith) (length-replicate {A = ℕ} 4096 0) c.erased-array.ensures ran.value (ap status_of c.in-Ok.is) ran.answers_after)

pub returns-in-Err : goal.returns-in-Err
returns-in-Err c =
    let told = ap status_of c.in-Err.is in
    puts_same c.refused-in-Err.ensures
    (ap refused_text (sym told)
    ∙ report_refused c.args.chip c.args.trace.now (replicate 4096 0) (omega arith) (length-replicate {A = ℕ} 4096 0) c.erased-array.ensures c.run.ensures.value (λ z. never_0 c.in-Err.refusal (sym told ∙ z)))

pub returns-then-long : goal.returns-then-long
returns-then-long c = puts_same c.refused.ensures (report_long c.args.chip c.args.trace.now (omega arith))
