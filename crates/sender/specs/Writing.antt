-- A buffer of events, and what writing more of them leaves. (RULES A1, A2.)
--
-- | Name | Meaning |
-- |---|---|
-- | `Puts` | the same buffer with event bytes more, put where the written ones ended |
use Rattle.std.specs.Prelude.{ℕ, ◌+◌, ◌≡◌, List, length}
use Rattle.sender.specs.declared.spelling.Writer.{Writer}
use Rattle.sender.specs.Sending.{over}

pub record Puts (old new : Writer) (bytes : List ℕ) : Type 0 where
  pub same_buffer : new.events.ghost_name ≡ old.events.ghost_name
  pub room : length new.events.now ≡ length old.events.now
  pub end : new.end ≡ old.end + length bytes
  pub events : new.events.now ≡ over old.end bytes old.events.now
