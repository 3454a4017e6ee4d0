use Rattle.zone_replay.proofs.Cited.{◌≡◌, ℕ, Option, Some, None, Result, List, sym, ap, OsErr, silent, unless_silent, shown, show_pointer}
use Rattle.zone_replay.proofs.Cited.{Memory, unless_barred}

-- The bytes of a pointer's block.

pub shown-unless : (b : Option OsErr) (n : ℕ) (m after : Memory) (x : Result (List ℕ) OsErr)
    → unless_silent b (silent (show_pointer (Some n))) m ≡ (x, after)
    → shown x ≡ unless_barred b (shown (show_pointer (Some n) m.heap).0)
shown-unless None n m after x is = sym (ap (λ a. shown a.0) is)
shown-unless (Some code) n m after x is = sym (ap (λ a. shown a.0) is)
