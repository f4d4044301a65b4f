-- What a recovery stands for has its whole answer, and the chip that it left. Assumes nothing.
use Rattle.std.specs.Prelude.{ℕ, ◌≡◌, Result, Ok, Err}
use Rattle.std.proofs.Common.{sym, ap}
use Rattle.refusals.specs.declared.Refusal.{Refusal}
use Rattle.refusals.proofs.Numbers.{same_refusal, never_0}
use Rattle.chip.specs.declared.chip.Chip.{Chip}
use Rattle.recovery.specs.Recovery.{Recovered, recovered_as}

pub same_recovered : (a b : Result ℕ Refusal) {c d : Chip} → recovered_as a c ≡ recovered_as b d → (a ≡ b) × (c ≡ d)
same_recovered (Ok n) (Ok m) e = (ap Ok (ap (λ (x : Recovered). x.pulses) e), ap (λ (x : Recovered). x.chip) e)
same_recovered (Ok n) (Err r) e = absurd (never_0 r (sym (ap (λ (x : Recovered). x.refusal) e)))
same_recovered (Err r) (Ok m) e = absurd (never_0 r (ap (λ (x : Recovered). x.refusal) e))
same_recovered (Err r) (Err s) e = (ap Err (same_refusal r s (ap (λ (x : Recovered). x.refusal) e)), ap (λ (x : Recovered). x.chip) e)
