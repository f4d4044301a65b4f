-- Lists of bytes stay lists of bytes: where one is set, where one stands many times. Assumes nothing.
use Prim.Native.Nat.{ℕ, zero, suc, ◌<◌}
use mathlib.Core.List.{List, [], ◌∷◌}
use native.Mathlib.Omega.{arith}
use lib.ListN.{set, replicate}
use Rattle.parts.specs.Sector.{Bytes}

-- one more in a list of bytes
pub set_bytes : (xs : List ℕ) (at byte : ℕ) → Bytes xs → byte < 0x100 → Bytes (set xs at byte)
set_bytes [] at byte h b k = h k
set_bytes (x ∷ xs) zero byte h b zero = b
set_bytes (x ∷ xs) zero byte h b (suc k) = h (suc k)
set_bytes (x ∷ xs) (suc at) byte h b zero = h zero
set_bytes (x ∷ xs) (suc at) byte h b (suc k) = set_bytes xs at byte (λ j. h (suc j)) b k

-- one byte many times
pub same_bytes : (n byte : ℕ) → byte < 0x100 → Bytes (replicate n byte)
same_bytes zero byte h k = omega arith
same_bytes (suc n) byte h zero = h
same_bytes (suc n) byte h (suc k) = same_bytes n byte h k
