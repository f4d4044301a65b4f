-- A page with a text on it, and what writing more of it leaves. (RULES P3-P7.)
--
-- | Name | Meaning |
-- |---|---|
-- | `Puts` | the same page with one text more, put where the text on it ended |
use Rattle.std.specs.Prelude.{ℕ, ◌+◌, ◌≡◌, List, length}
use Rattle.report.specs.declared.Page.{Page}
use Rattle.report.specs.Text.{put}

pub record Puts (old new : Page) (text : List ℕ) : Type 0 where
  pub same_page : new.bytes.ghost_name ≡ old.bytes.ghost_name
  pub end : new.end ≡ old.end + length text
  pub bytes : new.bytes.now ≡ put old.bytes.now old.end text
