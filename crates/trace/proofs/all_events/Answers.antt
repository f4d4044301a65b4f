-- Each byte of the trace is asked. Assumes nothing.
use Rattle.std.proofs.Common.{◌∙◌, rules, tests}
use Rattle.std.proofs.lemmas.Iterator.{YieldsList-from_slice}
use Rattle.std.proofs.lemmas.Iterator.Search.{all_from_yields_List}
use Rattle.parts.proofs.RowLaws.{every_all}
use Rattle.trace.specs.Bytes.{is_event}
use Rattle.trace.proofs.all_events.Goals as goal

pub returns : goal.returns
returns c =
    all_from_yields_List is_event _ _ _ c.all.ensures.ran (YieldsList-from_slice c.args.trace.now cc) (λ x b q k. search (rules, tests))
    ∙ every_all is_event c.args.trace.now
