use Rattle.std.proofs.Common.{ℕ, sym, ◌∙◌, eqb, rules, tests}
use Rattle.std.proofs.lemmas.Iterator.{YieldsList-from_slice}
use Rattle.std.proofs.lemmas.Iterator.Search.{all_from_yields_List}
use Rattle.gate.proofs.Walks.{each_is}
use Rattle.gate.proofs.bytes.all_are.Goals as goal

pub returns : goal.returns
returns c =
    let test = λ (x : ℕ). eqb x c.args.b in
    all_from_yields_List test _ _ _ c.all.ensures.ran (YieldsList-from_slice c.args.s.now cc) (λ x b q k. search (rules, tests))
    ∙ sym (each_is test c.args.s.now)
