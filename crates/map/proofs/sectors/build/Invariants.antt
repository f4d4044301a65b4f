-- Before each turn the first k sectors are entered.
use Rattle.std.proofs.Common.{◌≡◌}
use Rattle.map.specs.Sectors.{entered_to, build_refusal}
use Rattle.map.proofs.sectors.build.Given as goal

abbrev pub invariant-loop-k : goal.invariant-loop-k
invariant-loop-k l = (l.map ≡ entered_to l.k l.array l.fn.map) × (build_refusal l.array l.fn.map ≡ 0)
