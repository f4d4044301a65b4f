-- An X24128 with select 0 can be made. Assumes nothing.
use Rattle.std.proofs.Common.{ap}
use Rattle.chip.specs.Chip.{Made, made}
use Rattle.chip.proofs.ToldLaws.{made_taken}
use Rattle.bench_x24128.proofs.main.Goals as goal

pub unwrap-chip-requires : goal.unwrap-chip-requires
unfolding made
unwrap-chip-requires c = made_taken c.new.result (ap (λ (m : Made). m.refusal) c.new.ensures)
