use Rattle.desk.proofs.Cited.{◌≡◌, ℕ, ◌+◌, ◌-◌, ◌<◌, Bool, true, false, List, length, drop, slice_index_or, suc, max, ◌∙◌, ap, cond, arith}
use Rattle.desk.proofs.Cited.{at_drop_more, Event, Turn, Seat, seen, State, acted_at, each_turned, round, rounds, any_runs, longest_or}
use Rattle.desk.proofs.Cited.{after_event, after_events}

-- Loops over applications, rounds and events: what is done so far, followed by the rest, is the whole.

-- application i takes its turn, and the others behind it theirs
pub turned_next : (n i : ℕ) (s : State) → i < n
    → each_turned (n - i) i s ≡ each_turned (n - (i + 1)) (i + 1) (acted_at Turn i s)
turned_next n i s less =
    let more : n - i ≡ suc (n - (i + 1)) = omega (arith, less) in
    ap (λ (k : ℕ). each_turned k i s) more

-- a round, where any runs
pub round_next : (n i : ℕ) (s : State) → i < n → any_runs s ≡ true
    → rounds (suc (n - i)) s ≡ rounds (suc (n - (i + 1))) (round s)
round_next n i s less is =
    let more : n - i ≡ suc (n - (i + 1)) = omega (arith, less) in
    ap (λ (t : Bool). cond t (rounds (n - i) (round s)) s) is ∙ ap (λ (k : ℕ). rounds k (round s)) more

pub round_none : (k : ℕ) (s : State) → any_runs s ≡ false → rounds (suc k) s ≡ s
round_none k s is = ap (λ (t : Bool). cond t (rounds k (round s)) s) is

-- one more event
pub events_next : (events : List Event) (i : ℕ) (e : Event) (s : State) → i < length events
    → after_events (drop i events) s
    ≡ after_events (drop (i + 1) events) (after_event (slice_index_or events i e) s)
events_next events i e s less = at_drop_more (λ (es : List Event). after_events es s) events i e less

-- one more script
pub longest_next : {S : Type 0} (seats : List (Seat S)) (i : ℕ) (seat : Seat S) (most : ℕ) → i < length seats
    → longest_or most (seen (drop i seats))
    ≡ longest_or (max most (length (slice_index_or seats i seat).app.now.script.steps)) (seen (drop (i + 1) seats))
longest_next {S} seats i seat most less =
    at_drop_more (λ (xs : List (Seat S)). longest_or most (seen xs)) seats i seat less
