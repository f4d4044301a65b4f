use Rattle.std.proofs.Common.{sym, ◌∙◌, rules, tests}
use Rattle.std.proofs.lemmas.Iterator.{YieldsList-from_slice}
use Rattle.std.proofs.lemmas.Iterator.Search.{all_from_yields_List}
use Rattle.gate.specs.Label.{label_byte}
use Rattle.gate.proofs.Walks.{each_is}
use Rattle.gate.proofs.label.is_label.Goals as goal

pub returns : goal.returns
returns c =
    all_from_yields_List label_byte _ _ _ c.all.ensures.ran (YieldsList-from_slice c.args.s.now cc) (λ x b q k. search (rules, tests))
    ∙ sym (each_is label_byte c.args.s.now)
