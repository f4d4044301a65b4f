-- The first number that passes a test, and the first free sector: which it is, what the answer says, and that reading every record finds the same. Assumes nothing.
use Prim.Native.Nat.{ℕ, zero, suc, ◌+◌, ◌*◌, ◌/◌, ◌%◌, ◌≤◌, ◌<◌}
use mathlib.Core.Bool.{Bool, true, false, not, cond, true≢false, not-not}
use mathlib.Core.List.{List}
use mathlib.Core.Path.{◌≡◌, refl, sym, ap, ◌∙◌}
use native.Mathlib.Decide.{ℕ_discrete, dec_lt}
use native.Mathlib.Omega.{arith}
use lib.Dec.{eqb, ltb}
use lib.ListN.{length, get_or, take}
use borrow.Author.Tests.{eq-eqb, ne_eqb, lt-ltb, ltb-true, ltb-false, not-true, not-false}
use Rattle.gate.specs.Answer.{Read, Free, Refused as Wrong, says_free}
use Rattle.gate.specs.Bytes.{total}
use Rattle.gate.specs.Limit.{limits_refusal}
use Rattle.gate.specs.Reading.{closed_at, opened_at, state_at, sum_at, is_free, label_fits, good_of, content_of, read_of}
use Rattle.parts.specs.Phase.{bit_of}
use Rattle.parts.specs.Sector.{sector_of}
use Rattle.parts.proofs.CondLaws.{cond_by}
use Rattle.parts.proofs.RowLaws.{below, each}
use Rattle.parts.proofs.SectorLaws.{sector_length}
use Rattle.map.specs.Sectors.{bit_at, TrueMap}
use Rattle.std.specs.Int.{w8, trailing_ones, bit_at as bit_value}
use Rattle.std.proofs.lemmas.Nat.Bits.{bit_at-trailing_ones}
use Rattle.std.specs.Prelude.{Option, Some, None as Nowhere, Result, Ok, Err}
use Rattle.refusals.specs.Refusals.{number_of}
use Rattle.refusals.specs.declared.Refusal.{Refusal}
use Rattle.refusals.proofs.Numbers.{same_refusal}
use Rattle.map.specs.Finding.{Found, found_as, Sector, None, Refused, first_from, found_at, first_free, first_read}
use Rattle.map.proofs.MapLaws.{bit_in}

-- r is the first of the n numbers from k on that passes, or k + n where none does
pub record First (test : ℕ → Bool) (k n r : ℕ) : Type 0 where
  pub from : k ≤ r
  pub to : r ≤ k + n
  pub before : (j : ℕ) → k ≤ j → j < r → test j ≡ false
  pub here : r < k + n → test r ≡ true

module _ (test : ℕ → Bool) where
  -- what fails at k and from there on to r fails from k on
  failed : (k r : ℕ) → test k ≡ false → ((j : ℕ) → suc k ≤ j → j < r → test j ≡ false) → (j : ℕ) → k ≤ j → j < r → test j ≡ false
  failed k r e rest j h l = go (ℕ_discrete j k)
    where
      go : Dec (j ≡ k) → test j ≡ false
      go (yes q) = rw q e
      go (no q) = rest j (omega arith) l

  -- what the definition finds is the first
  pub first_found : (n k : ℕ) → First test k n (first_from test k n)
  unfolding first_from
  first_found zero k =
      record {
        from = omega arith;
        to = omega arith;
        before = λ j h l. absurd (omega arith);
        here = λ h. absurd (omega arith);
      }
  first_found (suc n) k =
      let f = first_found n (suc k) in
      cond_by (First test k (suc n)) (test k) k (first_from test (suc k) n)
      (λ e. record { from = omega arith; to = omega arith; before = λ j h l. absurd (omega arith); here = λ h. e })
      (λ e. record { from = omega arith; to = omega arith; before = failed k _ e f.before; here = λ h. f.here (omega arith) })

  -- no later number is the first
  not_later : {k n r s : ℕ} → First test k n r → First test k n s → r < s → ⊥
  not_later {r = r} f g h = true≢false (sym (f.here (omega arith)) ∙ g.before r f.from h)

  -- there is one first
  pub first_only : (n k r : ℕ) → First test k n r → first_from test k n ≡ r
  first_only n k r f =
      let g = first_found n k in
      omega (arith, not_later f g, not_later g f)

-- a sector's bit is tested for the first that is free
abbrev pub free : List ℕ → ℕ → Bool
free m k = not (bit_at k m)

-- the bits of the first n sectors are set
abbrev pub AllSet : ℕ → List ℕ → Type 0
AllSet n m = (k : ℕ) → k < n → bit_at k m ≡ true

-- with n bits of the next byte
pub set_more : (m : List ℕ) (at n : ℕ) → n ≤ 8 → AllSet (at * 8) m → ((bit : ℕ) → bit < n → bit_of (get_or m at 0) bit ≡ true) → AllSet (at * 8 + n) m
set_more m at n few all bits k h = go (dec_lt k (at * 8))
  where
    go : Dec (k < at * 8) → bit_at k m ≡ true
    go (yes l) = all k l
    go (no l) =
        let here : k / 8 ≡ at = omega arith in
        rw here (bits (k % 8) (omega arith))

-- a bit that counts 1 is set
bit_set : (byte bit : ℕ) → bit < 8 → bit_value byte bit ≡ 1 → bit_of byte bit ≡ true
bit_set byte bit h one =
    let same : bit % 8 ≡ bit = omega arith in
    rw same (eq-eqb (bit_value byte bit) 1 one)

-- one that counts 0 is clear
bit_clear : (byte bit : ℕ) → bit < 8 → bit_value byte bit ≡ 0 → bit_of byte bit ≡ false
bit_clear byte bit h none =
    let same : bit % 8 ≡ bit = omega arith in
    rw same (ne_eqb (bit_value byte bit) 1 (λ e. absurd (omega (arith, e, none))))

-- of FFh each is set
pub set_all : (bit : ℕ) → bit < 8 → bit_of 0xff bit ≡ true
unfolding below
set_all = each 8 (bit_of 0xff) refl

-- the sectors before it are in use, it is free itself or is 512: the answer
pub found_at_law : (m : List ℕ) (k : ℕ) → length m ≡ 64 → k ≤ 512 → AllSet k m → (k < 512 → bit_at k m ≡ false) → first_free m ≡ found_at k
unfolding first_free
found_at_law m k size few all off =
    rw (eq-eqb (length m) 64 size)
    (ap found_at (first_only (free m) 512 0 k
    (record { from = omega arith; to = omega arith; before = λ j h l. rw (all j l); here = λ l. rw (off l) })))

-- a sector is the answer as it stands
found_sector : (k : ℕ) → k < 512 → found_at k ≡ Sector k
unfolding found_at
found_sector k h = rw (lt-ltb k 512 h)

-- after bytes of FFh, the lowest bit that is clear of another byte: the one after the ones that it ends with
pub found_in : (m : List ℕ) (at : ℕ) → length m ≡ 64 → at < 64 → AllSet (at * 8) m → get_or m at 0 < 255
    → first_free m ≡ Sector (at * 8 + trailing_ones w8 (get_or m at 0))
found_in m at size few all some =
    let byte = get_or m at 0 in
    let low = trailing_ones w8 byte in
    let l = bit_at-trailing_ones w8 byte (omega (arith, some)) in
    let small : low < 8 = l.0 in
    found_at_law m (at * 8 + low) size (omega arith) (set_more m at low (omega arith) all (λ j h. bit_set byte j (omega arith) (l.2 j h)))
    (λ h. bit_in m at low small ∙ bit_clear byte low small l.1)
    ∙ found_sector (at * 8 + low) (omega arith)

-- where each byte before one is FFh, its sectors are in use
pub full_before : (m : List ℕ) (at : ℕ) → ((i : ℕ) → i < at → get_or m i 0 ≡ 0xff) → AllSet (at * 8) m
full_before m at full k h = rw (full (k / 8) (omega arith)) (set_all (k % 8) (omega arith))

-- where each byte is, no sector is free
pub found_none : (m : List ℕ) → length m ≡ 64 → ((i : ℕ) → i < 64 → get_or m i 0 ≡ 0xff) → first_free m ≡ None
unfolding found_at
found_none m size full = found_at_law m 512 size (omega arith) (full_before m 64 full) (λ h. absurd (omega arith))

-- two tests that agree find the same
pub first_same : (t u : ℕ → Bool) (n k : ℕ) → ((j : ℕ) → k ≤ j → j < k + n → t j ≡ u j) → first_from t k n ≡ first_from u k n
unfolding first_from
first_same t u zero k same = refl
first_same t u (suc n) k same =
    rw (same k (omega arith) (omega arith), first_same t u n (suc k) (λ j h l. same j (omega arith) (omega arith)))

-- of 32 bytes, reading says free where all are FFh
pub read_free : (r : List ℕ) → length r ≡ 32 → says_free (read_of r) ≡ is_free r
unfolding read_of content_of
read_free r size =
    let Says : Read → Type 0 = λ x. says_free x ≡ is_free r in
    rw (eq-eqb (length r) 32 size)
    (cond_by Says (is_free r) Free _ sym
    (λ e. let no' : false ≡ is_free r = sym e in
    cond_by Says (not (eqb (state_at r) 0xa5)) (Wrong 12) _ (λ _. no')
    (λ _. cond_by Says (not (eqb (sum_at r) (total (take 30 r)))) (Wrong 13) _ (λ _. no')
    (λ _. cond_by Says (not (label_fits r)) (Wrong 14) _ (λ _. no')
    (λ _. cond_by Says (not (eqb (limits_refusal (closed_at r) (opened_at r)) 0)) (Wrong 14) (good_of r) (λ _. no') (λ _. no'))))))

-- V5: by a true map the first free sector is the one that reading every record finds
pub first_true : (xs m : List ℕ) → TrueMap xs m → length xs ≡ 16384 → first_free m ≡ first_read xs
unfolding first_free
first_true xs m t size =
    rw (eq-eqb (length m) 64 t.sized) (ap found_at (first_same (free m) (λ k. says_free (read_of (sector_of k xs))) 512 0 (λ k z h. agree k h)))
  where
    agree : (k : ℕ) → k < 512 → free m k ≡ says_free (read_of (sector_of k xs))
    agree k h =
        rw (t.bits k h) (not-not (is_free (sector_of k xs)) ∙ sym (read_free (sector_of k xs) (sector_length k xs (omega arith))))

module _ (m : List ℕ) where
  -- the number that is found
  abbrev number : ℕ
  number = first_from (free m) 0 512

  -- the sectors before it are in use
  before_number : AllSet number m
  before_number k h = not-false _ ((first_found (free m) 512 0).before k (omega arith) h)

  -- V4: the sector that is answered is free, and each before it is in use
  pub first_sector : (k : ℕ) → first_free m ≡ Sector k → (k < 512) × (bit_at k m ≡ false) × AllSet k m
  unfolding first_free found_at
  first_sector k e =
      let s = go (eqb (length m) 64) (ltb number 512) number e in
      let small = ltb-true number 512 s.0 in
      rw (← s.1) (small, not-true (bit_at number m) ((first_found (free m) 512 0).here small), before_number)
    where
      go : (a b : Bool) (n : ℕ) → cond a (cond b (Sector n) None) (Refused 18) ≡ Sector k → (b ≡ true) × (n ≡ k)
      go true true n q = (refl, cc)
      go true false n q = let z : ◌≡◌ {A = ℕ} 0 1 = cc in absurd (omega arith)
      go false b n q = let z : ◌≡◌ {A = ℕ} 0 1 = cc in absurd (omega arith)

  -- V4: where none is answered, every sector is in use
  pub first_none : first_free m ≡ None → AllSet 512 m
  unfolding first_free found_at
  first_none e k h = before_number k (omega (arith, ltb-false number 512 (go (eqb (length m) 64) (ltb number 512) number e)))
    where
      go : (a b : Bool) (n : ℕ) → cond a (cond b (Sector n) None) (Refused 18) ≡ None → b ≡ false
      go true true n q = let z : ◌≡◌ {A = ℕ} 0 1 = cc in absurd (omega arith)
      go true false n q = refl
      go false b n q = let z : ◌≡◌ {A = ℕ} 0 1 = cc in absurd (omega arith)

  -- F18: a map of another length is refused
  pub first_refused : (length m ≡ 64 → ⊥) → first_free m ≡ Refused 18
  unfolding first_free
  first_refused other = rw (ne_eqb (length m) 64 other)

-- what an answer of the code stands for has the whole answer: two that stand for one are one
pub same_found : (a b : Result (Option ℕ) Refusal) → found_as a ≡ found_as b → a ≡ b
same_found (Ok (Some j)) (Ok (Some k)) e = cc
same_found (Ok (Some j)) (Ok Nowhere) e = cc
same_found (Ok (Some j)) (Err r) e = cc
same_found (Ok Nowhere) (Ok (Some k)) e = cc
same_found (Ok Nowhere) (Ok Nowhere) e = refl
same_found (Ok Nowhere) (Err r) e = cc
same_found (Err r) (Ok (Some k)) e = cc
same_found (Err r) (Ok Nowhere) e = cc
same_found (Err r) (Err s) e = ap Err (same_refusal r s (number e))
  where
    number : ◌≡◌ {A = Found} (Refused (number_of r)) (Refused (number_of s)) → number_of r ≡ number_of s
    number e = cc
