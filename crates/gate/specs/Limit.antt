-- The two travel limits of a gate. (RULES G2, G8, G10, F10, F11.)
--
-- | Name | Meaning |
-- |---|---|
-- | `in_range` | a limit lies in -30,000..30,000 |
-- | `same` | two limits are equal |
-- | `limits_refusal` | the first refusal of two limits that applies, or 0 |
-- | `bits16` | the sixteen bits of a limit |
-- | `signed16` | the limit that sixteen bits stand for |
-- | `travel_of` | the travel between two limits |
use Rattle.std.specs.Prelude.{ℕ, suc, ◌-◌, Bool, false, cond, not, ◌&&◌, eqb, ltb, ℤ, pos, negsuc, neg_ℤ, ◌-ℤ◌}
use Rattle.std.specs.Int.Signed.{le_z}

-- G8, F10: a limit outside -30,000..30,000
unfoldable pub in_range : ℤ → Bool
in_range z = le_z (neg_ℤ (pos 30000)) z && le_z z (pos 30000)

-- G8, F11: equal limits
unfoldable pub same : ℤ → ℤ → Bool
same (pos a) (pos b) = eqb a b
same (pos a) (negsuc b) = false
same (negsuc a) (pos b) = false
same (negsuc a) (negsuc b) = eqb a b

-- F10, F11: 10, then 11
abbrev pub limits_refusal : ℤ → ℤ → ℕ
limits_refusal closed opened = cond (not (in_range closed && in_range opened)) 10 (cond (same closed opened) 11 0)

-- G2: both signed, two's complement
unfoldable pub bits16 : ℤ → ℕ
bits16 (pos n) = n
bits16 (negsuc n) = 0x10000 - suc n

-- G2: the same, read back
unfoldable pub signed16 : ℕ → ℤ
signed16 u = cond (ltb u 0x8000) (pos u) (negsuc (0x10000 - suc u))

-- G10: travel is open minus closed
abbrev pub travel_of : ℤ → ℤ → ℤ
travel_of closed opened = opened -ℤ closed
