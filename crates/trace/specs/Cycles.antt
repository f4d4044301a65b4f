-- How many cycles a row of events begins. (RULES U2, U3, U6.)
--
-- | Name | Meaning |
-- |---|---|
-- | `begins note` | the note says that a cycle has begun, of the array or of the register |
-- | `cycles notes` | how many of a row of notes say so |
-- | `Still es w` | a row of events leaves array, register, what waits and the busy flag, and none of them has a note |
use Rattle.std.specs.Prelude.{ℕ, ◌+◌, Bool, true, ◌||◌, List, [], ◌∷◌, ◌≡◌, eqb, length, replicate}
use Rattle.parts.specs.Phase.{weight}
use Rattle.chip.specs.Run.{World, ran, notes}
use Rattle.chip.specs.View.{writes}
use Rattle.chip.specs.declared.wire.Event.{Event}

-- N1, N2, N5: a store, a spoil, or PPEN and BL written
unfoldable pub begins : ℕ → Bool
begins note = writes note || eqb note 2

-- one by one
unfoldable pub cycles : List ℕ → ℕ
cycles [] = 0
cycles (note ∷ rest) = weight (begins note) 1 + cycles rest

-- U1, U2: the chip stays busy
pub record Still (es : List Event) (w : World) : Type 0 where
  pub array : (ran es w).array ≡ w.array
  pub register : (ran es w).chip.register ≡ w.chip.register
  pub waiting : (ran es w).chip.wait ≡ w.chip.wait
  pub busy : (ran es w).chip.busy ≡ true
  pub silent : notes es w ≡ replicate (length es) 0
