-- The report is put at the start of the page. Assumes nothing.
use Rattle.std.proofs.Common.{◌∙◌, rules, arith}
use Rattle.report.proofs.TextLaws.{put_start}
use Rattle.report.proofs.ReportLaws.{report_room}
use Rattle.report.proofs.write_report.Goals as goal

pub returns-clause-value : goal.returns-clause-value
returns-clause-value c = omega (arith, c.report.ensures.end)

pub returns-clause-page_after : goal.returns-clause-page_after
returns-clause-page_after c =
    let put = c.report.ensures.bytes ∙ put_start c.args.page.now _ (omega (arith, c.told-page, report_room c.args.chip c.args.trace.now)) in
    search (rules, put)
