-- Bytes that fit, unpacked and packed again, are the same bytes with what their phase and the kind of what waits do not carry cleared; a
-- packed chip has nothing to clear. Assumes nothing.
use Prim.Native.Nat.{ℕ, zero, suc, ◌+◌, ◌*◌, ◌/◌, ◌%◌, ◌<◌, ◌≤◌}
use mathlib.Core.Bool.{true, false, cond, false≢true}
use mathlib.Core.Path.{◌≡◌, refl, sym, ap, ap₂, ◌∙◌}
use mathlib.Core.List.{List, [], ◌∷◌, ◌++◌, map}
use native.Mathlib.Omega.{arith}
use borrow.Author.Tests.{leb-true, ne_eqb}
use lib.Dec.{leb, eqb}
use lib.ListN.{length, get_or, drop, replicate}
use lib.Seq.{take_all}
use Rattle.parts.proofs.CondLaws.{and_left, and_right}
use Rattle.chip.specs.declared.chip.Chip.{Chip}
use Rattle.chip_bytes.specs.At as at
use Rattle.chip_bytes.specs.Clean.{carries_bits, carries_high, carries_sector, carries_locks, cleared, Clean, Bare, Sized}
use Rattle.parts.specs.Rows.{every}
use Rattle.chip_bytes.specs.State.{row, flag_of, flag_byte, phase_of, phase_bytes, target_of, target_bytes, with_places, wait_bytes, all_flags, head_flags, wait_fits, bytes_fit, wait_of, chip_of, head_bytes, bytes_of}
use Rattle.chip_bytes.proofs.RoundTrip.{chip_back, packed_length, packed_fit, packed_low}
use Rattle.chip_bytes.proofs.Rows.{row_part}

-- a phase of a number up to 11 has that number, and keeps of three bytes what it carries
phase_cleared :
    (n bits byte high : ℕ)
    → n ≤ 11
    → phase_bytes (phase_of n bits byte high)
    ≡ n ∷ cond (carries_bits n) bits 0 ∷ cond (carries_bits n) byte 0 ∷ cond (carries_high n) high 0 ∷ []
unfolding phase_of phase_bytes carries_bits carries_high
phase_cleared zero bits byte high h = refl
phase_cleared (suc zero) bits byte high h = refl
phase_cleared (suc (suc zero)) bits byte high h = refl
phase_cleared (suc (suc (suc zero))) bits byte high h = refl
phase_cleared (suc (suc (suc (suc zero)))) bits byte high h = refl
phase_cleared (suc (suc (suc (suc (suc zero))))) bits byte high h = refl
phase_cleared (suc (suc (suc (suc (suc (suc zero)))))) bits byte high h = refl
phase_cleared (suc (suc (suc (suc (suc (suc (suc zero))))))) bits byte high h = refl
phase_cleared (suc (suc (suc (suc (suc (suc (suc (suc zero)))))))) bits byte high h = refl
phase_cleared (suc (suc (suc (suc (suc (suc (suc (suc (suc zero))))))))) bits byte high h = refl
phase_cleared (suc (suc (suc (suc (suc (suc (suc (suc (suc (suc zero)))))))))) bits byte high h = refl
phase_cleared (suc (suc (suc (suc (suc (suc (suc (suc (suc (suc (suc zero))))))))))) bits byte high h = refl
phase_cleared (suc (suc (suc (suc (suc (suc (suc (suc (suc (suc (suc (suc n)))))))))))) bits byte high h = absurd (omega arith)

-- a byte that is a flag's comes back, and so does each of a row
byte_back : (x : ℕ) → leb x 1 ≡ true → flag_byte (flag_of x) ≡ x
byte_back zero h = refl
byte_back (suc zero) h = refl
byte_back (suc (suc x)) h =
    let low : suc (suc x) ≤ 1 = leb-true (suc (suc x)) 1 h in
    absurd (omega arith)

bytes_back : (l : List ℕ) → all_flags l ≡ true → map flag_byte (map flag_of l) ≡ l
unfolding every
bytes_back [] h = refl
bytes_back (x ∷ l) h =
    ap₂ (λ (y : ℕ) (r : List ℕ). y ∷ r) (byte_back x (and_left (leb x 1) (all_flags l) h)) (bytes_back l (and_right (leb x 1) (all_flags l) h))

-- what waits of a kind up to 2 has that kind, and keeps of four bytes, places and bytes what it carries
wait_cleared :
    (kind high low ppen bl : ℕ) (places bytes : List ℕ)
    → wait_fits kind ppen places ≡ true
    → low < 256
    → wait_bytes (with_places (target_of kind high low ppen bl) places bytes)
    ≡ kind
    ∷ cond (carries_sector kind) high 0
    ∷ cond (carries_sector kind) low 0
    ∷ cond (carries_locks kind) ppen 0
    ∷ cond (carries_locks kind) bl 0
    ∷ (cond (carries_sector kind) places (replicate 32 0) ++ cond (carries_sector kind) bytes (replicate 32 0))
unfolding wait_fits target_of target_bytes with_places wait_bytes
wait_cleared zero high low ppen bl places bytes fits small = refl
wait_cleared (suc zero) high low ppen bl places bytes fits small =
    let above : (high * 256 + low) / 256 ≡ high = omega arith in
    let below : (high * 256 + low) % 256 ≡ low = omega arith in
    λ i. 1 ∷ above i ∷ below i ∷ 0 ∷ 0 ∷ (bytes_back places fits i ++ bytes)
wait_cleared (suc (suc zero)) high low ppen bl places bytes fits small =
    λ i. 2 ∷ 0 ∷ 0 ∷ byte_back ppen fits i ∷ bl ∷ (replicate 32 0 ++ replicate 32 0)
wait_cleared (suc (suc (suc kind))) high low ppen bl places bytes fits small =
    let above : (n : ℕ) → n ≤ 2 → eqb (suc (suc (suc kind))) n ≡ false = λ n h. ne_eqb (suc (suc (suc kind))) n (λ e. omega (arith, e)) in
    absurd (false≢true (rw (above 0 (omega arith), above 1 (omega arith), above 2 (omega arith)) at fits))

-- as many bytes as a chip has are their own row
row_whole : (b : List ℕ) → length b ≡ at.size → row at.size 0 b ≡ b
row_whole b long = row_part at.size 0 b (omega arith) ∙ take_all at.size b (omega arith)

-- bytes that fit, each at its offset: flags, the counter, the phase and what waits come back, and the rest is as it was
row_back :
    (b : List ℕ)
    → bytes_fit b ≡ true
    → get_or b at.counter_low 0 < 256
    → get_or b at.wait_low 0 < 256
    → bytes_of (chip_of b) ≡ cleared (row at.size 0 b)
unfolding bytes_fit chip_of wait_of bytes_of head_bytes cleared row
row_back b fits low wait-low =
    let some : List ℕ = head_flags b in
    let flags = and_right (leb (get_or b at.phase 0) 11) _ fits in
    let known = leb-true (get_or b at.phase 0) 11 (and_left (leb (get_or b at.phase 0) 11) _ fits) in
    let head = bytes_back some (and_left (all_flags some) _ flags) in
    let loaded = and_right (all_flags some) _ flags in
    let places = bytes_back (row 32 at.places b) (and_left (all_flags (row 32 at.places b)) _ loaded) in
    let waiting =
    wait_cleared (get_or b at.wait 0) (get_or b at.wait_high 0) (get_or b at.wait_low 0) (get_or b at.wait_ppen 0) (get_or b at.wait_bl 0) (row 32 at.wait_places b) (row 32 at.wait_bytes b)
    (and_right (all_flags (row 32 at.places b)) _ loaded) wait-low in
    let phase = phase_cleared (get_or b at.phase 0) (get_or b at.bits 0) (get_or b at.byte 0) (get_or b at.high 0) known in
    let above : (get_or b at.counter_high 0 * 256 + get_or b at.counter_low 0) / 256 ≡ get_or b at.counter_high 0 = omega arith in
    let below : (get_or b at.counter_high 0 * 256 + get_or b at.counter_low 0) % 256 ≡ get_or b at.counter_low 0 = omega arith in
    λ i.
    get_or b at.part 0 ∷ get_or b at.select 0 ∷ get_or (head i) 0 0 ∷ get_or b at.bl 0 ∷ get_or (head i) 1 0 ∷ get_or (head i) 2 0 ∷ above i ∷ below i
    ∷ (drop 3 (head i) ++ (get_or (phase i) 0 0 ∷ get_or (phase i) 1 0 ∷ get_or (phase i) 2 0 ∷ get_or (phase i) 3 0 ∷ get_or b at.count 0
    ∷ (places i ++ (row 32 at.load b ++ (get_or b at.spoil 0 ∷ waiting i)))))

-- unpacked and packed again, bytes that fit are cleared
pub clear_back :
    (b : List ℕ)
    → length b ≡ at.size
    → bytes_fit b ≡ true
    → get_or b at.counter_low 0 < 256
    → get_or b at.wait_low 0 < 256
    → bytes_of (chip_of b) ≡ cleared b
clear_back b long fits low wait-low = row_back b fits low wait-low ∙ ap cleared (row_whole b long)

-- so clean bytes come back as they were
pub clean_back : (b : List ℕ) → Clean b → bytes_of (chip_of b) ≡ b
clean_back b c = clear_back b c.sized c.fit c.low c.wait_low ∙ c.clear

-- and every packed chip is clean
pub packed_clean : (c : Chip) → Sized c → Bare c.wait → Clean (bytes_of c)
unfolding bytes_of head_bytes
packed_clean c sized bare =
    let low : c.counter % 256 < 256 = omega arith in
    let wait-low = packed_low c sized in
    record {
      sized = packed_length c sized;
      fit = packed_fit c sized;
      low = low;
      wait_low = wait-low;
      clear = sym (clear_back (bytes_of c) (packed_length c sized) (packed_fit c sized) low wait-low) ∙ ap bytes_of (chip_back c sized bare);
    }
