-- What sending a gate's record answers to C. (RULES K9.)
--
-- | Name | Meaning |
-- |---|---|
-- | `SendSays` | the number of the refusal or 0, the trace at exit, and how many events were written |
use Rattle.std.specs.Prelude.{ℕ, ◌≡◌, List}
use Rattle.sender.specs.Sending.{sent_of, sent_buffer}

-- K9: a refusal leaves the trace and reports 0 events
pub record SendSays (part select gate : ℕ) (bytes old : List ℕ) (r : ℕ) (told : List ℕ) (events : ℕ) : Type 0 where
  pub returned : r ≡ (sent_of part select gate bytes old).refusal
  pub trace : told ≡ sent_buffer part select gate bytes old
  pub counted : events ≡ (sent_of part select gate bytes old).count
