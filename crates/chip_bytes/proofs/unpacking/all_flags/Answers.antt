-- `all` answers the test of every byte. Assumes nothing.
use Rattle.std.proofs.Common.{◌∙◌, rules, tests, leb}
use Rattle.std.proofs.lemmas.Iterator.{YieldsList-from_slice}
use Rattle.std.proofs.lemmas.Iterator.Search.{all_from_yields_List}
use Rattle.parts.proofs.RowLaws.{every_all}
use Rattle.chip_bytes.proofs.unpacking.all_flags.Goals as goal

pub returns : goal.returns
returns c =
    all_from_yields_List (λ byte. leb byte 1) _ _ c.all.result c.all.ensures.ran (YieldsList-from_slice c.args.bytes.now cc) (λ x b q k. search (rules, tests))
    ∙ every_all (λ byte. leb byte 1) c.args.bytes.now
