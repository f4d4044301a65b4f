-- A chip with busy, levels and phase as given, for proofs that go by them. Assumes nothing.
use mathlib.Core.Bool.{Bool}
use mathlib.Core.Path.{◌≡◌, sym}
use Rattle.parts.specs.declared.phase.Phase.{Phase}
use Rattle.chip.specs.Chip.{with_transfer, with_cycle, with_levels}
use Rattle.chip.specs.declared.chip.Chip.{Chip}

-- with its own a chip is itself
abbrev pub posed : Chip → Bool → Bool → Bool → Phase → Chip
posed c busy scl line phase = with_transfer (with_levels (with_cycle c c.register busy c.wait) scl line) phase c.counter c.mark c.load

-- with what they are known to be it is itself too
pub posed_so : (c : Chip) {busy scl line : Bool} {phase : Phase} → c.busy ≡ busy → c.scl ≡ scl → c.line ≡ line → c.phase ≡ phase → posed c busy scl line phase ≡ c
posed_so c b s l p i = posed c (sym b i) (sym s i) (sym l i) (sym p i)
