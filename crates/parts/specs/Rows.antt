-- Rows of anything: a test that each passes, and where steps lead one after the other, whatever is stepped.
--
-- | Name | Meaning |
-- |---|---|
-- | `every test row` | each of a row passes a test |
-- | `stepped step row w` | what a row of steps leaves of w |
use Rattle.std.specs.Prelude.{Bool, true, ◌&&◌, List, [], ◌∷◌}

-- an empty row passes
unfoldable pub every : {A : Type 0} → (A → Bool) → List A → Bool
every test [] = true
every test (x ∷ xs) = test x && every test xs

-- the first comes first
unfoldable pub stepped : {A W : Type 0} → (A → W → W) → List A → W → W
stepped step [] w = w
stepped step (x ∷ xs) w = stepped step xs (step x w)
