-- What a clock rise keeps of a phase: its range, that what comes into a load is a byte, and the pull. Assumes nothing.
use Prim.Native.Nat.{ℕ, ◌+◌, ◌<◌}
use mathlib.Core.Bool.{Bool, true, false}
use mathlib.Core.Path.{◌≡◌, refl}
use native.Mathlib.Omega.{arith}
use borrow.Author.Tests.{ltb-true, le-leb}
use lib.Dec.{leb, ltb}
use Rattle.parts.specs.Phase.{phase_fits, phase_pulls, risen, received}
use Rattle.parts.specs.declared.phase.Phase.{Phase}
use Rattle.parts.specs.declared.phase.Phase.TheVariants.{Standby, Slave, First, Second, Data, AckWrite, AckRead, AckFirst, AckByte, Sending, Waiting, Next}
use Rattle.parts.proofs.CondLaws.{cond_by}

-- a receiving phase with one bit more, by what is made of bits and what was received
abbrev Bit : (Phase → Phase → Type 0) → Bool → (ℕ → ℕ → Phase) → Type 0
Bit Q bit at = (bits got : ℕ) → ltb bits 8 ≡ true → Q (at bits got) (at (bits + 1) (received got bit))

-- every clock rise leaves the phase, brings a bit, or hears the master's answer
risen_by_law : (Q : Phase → Phase → Type 0) (p : Phase) (bit : Bool) → ((q : Phase) → Q q q)
    → Bit Q bit Slave → Bit Q bit First → ((high : ℕ) → Bit Q bit (Second high)) → Bit Q bit Data → Q Waiting Standby → Q Waiting Next
    → Q p (risen p bit)
unfolding risen
risen_by_law Q Standby bit same slave first second byte high low = same Standby
risen_by_law Q (Slave bits got) bit same slave first second byte high low = cond_by (Q (Slave bits got)) (ltb bits 8) _ (Slave bits got) (slave bits got) (λ e. same (Slave bits got))
risen_by_law Q (First bits got) bit same slave first second byte high low = cond_by (Q (First bits got)) (ltb bits 8) _ (First bits got) (first bits got) (λ e. same (First bits got))
risen_by_law Q (Second at bits got) bit same slave first second byte high low = cond_by (Q (Second at bits got)) (ltb bits 8) _ (Second at bits got) (second at bits got) (λ e. same (Second at bits got))
risen_by_law Q (Data bits got) bit same slave first second byte high low = cond_by (Q (Data bits got)) (ltb bits 8) _ (Data bits got) (byte bits got) (λ e. same (Data bits got))
risen_by_law Q AckWrite bit same slave first second byte high low = same AckWrite
risen_by_law Q AckRead bit same slave first second byte high low = same AckRead
risen_by_law Q (AckFirst at) bit same slave first second byte high low = same (AckFirst at)
risen_by_law Q AckByte bit same slave first second byte high low = same AckByte
risen_by_law Q (Sending i sent) bit same slave first second byte high low = same (Sending i sent)
risen_by_law Q Waiting bit same slave first second byte high low = cond_by (Q Waiting) bit Standby Next (λ e. high) (λ e. low)
risen_by_law Q Next bit same slave first second byte high low = same Next

-- one bit more than fewer than 8 is at most 8
one_more : (bits : ℕ) → ltb bits 8 ≡ true → leb (bits + 1) 8 ≡ true
one_more bits e = le-leb (bits + 1) 8 (omega (arith, ltb-true bits 8 e))

-- a phase in range stays in range
pub risen_fits : (p : Phase) (bit : Bool) → phase_fits p ≡ true → phase_fits (risen p bit) ≡ true
unfolding phase_fits
risen_fits p bit =
    risen_by_law (λ q r. phase_fits q ≡ true → phase_fits r ≡ true) p bit (λ q h. h)
    (λ bits got e h. one_more bits e) (λ bits got e h. one_more bits e) (λ high bits got e h. one_more bits e) (λ bits got e h. one_more bits e)
    (λ h. refl) (λ h. refl)

-- what was received of a data byte, which alone reaches a load
unfoldable pub got_of : Phase → ℕ
got_of Standby = 0
got_of (Slave bits got) = 0
got_of (First bits got) = 0
got_of (Second high bits got) = 0
got_of (Data bits got) = got
got_of AckWrite = 0
got_of AckRead = 0
got_of (AckFirst high) = 0
got_of AckByte = 0
got_of (Sending bit byte) = 0
got_of Waiting = 0
got_of Next = 0

-- which is a byte
abbrev pub Small : Phase → Type 0
Small p = got_of p < 0x100

-- eight bits are a byte
pub risen_small : (p : Phase) (bit : Bool) → Small p → Small (risen p bit)
unfolding got_of
risen_small p bit =
    risen_by_law (λ q r. Small q → Small r) p bit (λ q h. h)
    (λ bits got e h. h) (λ bits got e h. h) (λ high bits got e h. h) (λ bits got e h. omega arith)
    (λ h. h) (λ h. h)

-- a phase in which the chip does not pull
abbrev pub Loose : Phase → Type 0
Loose p = phase_pulls p ≡ false

-- a clock rise changes no pull
pub risen_pulls : (p : Phase) (bit : Bool) → phase_pulls (risen p bit) ≡ phase_pulls p
unfolding phase_pulls
risen_pulls p bit =
    risen_by_law (λ q r. phase_pulls r ≡ phase_pulls q) p bit (λ q. refl)
    (λ bits got e. refl) (λ bits got e. refl) (λ high bits got e. refl) (λ bits got e. refl)
    refl refl
