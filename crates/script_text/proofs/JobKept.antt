-- What is kept while a job is read.
use Rattle.script_text.proofs.Cited.{◌≡◌, ℕ, Bool, true, List, [], ◌∷◌, ◌++◌, length, Option, refl, ap, ◌∙◌, arith, ◌==◌, list_all}
use Rattle.script_text.proofs.Cited.{and_from, eqb-true, list_all-append, Event, Input, app_names, may_follow, all_follow, AreEventsOf}
use Rattle.script_text.proofs.Cited.{is_event_of, IsJobKept}
use Rattle.script_text.proofs.JobInputs.{follow_added}

-- no events are events of any applications
no_events : (inputs : List Input) (events : List Event) → (length events == 0) ≡ true → AreEventsOf inputs events
no_events inputs [] h = refl
no_events inputs (e ∷ events) h = let no : ⊥ = omega (arith, eqb-true (length (e ∷ events)) 0 h) in absurd no

-- one more input, before all events, that may follow the others
pub kept_with_input : (memory : Option ℕ) (inputs new : List Input) (input : Input) (events : List Event)
    → new ≡ inputs ++ input ∷ [] → IsJobKept memory inputs events → (length events == 0) ≡ true
    → may_follow inputs input ≡ true → IsJobKept memory new events
kept_with_input memory inputs new input events e kept none h = record {
  size = kept.size;
  order = ap (all_follow []) e ∙ follow_added [] inputs input ∙ and_from _ _ kept.order h;
  owners = no_events new events none;
}

-- one more event of these applications
pub kept_with_event : (memory : Option ℕ) (inputs : List Input) (events new : List Event) (event : Event)
    → new ≡ events ++ event ∷ [] → IsJobKept memory inputs events
    → is_event_of (length (app_names inputs)) event ≡ true → IsJobKept memory inputs new
kept_with_event memory inputs events new event e kept h = record {
  size = kept.size;
  order = kept.order;
  owners = ap (list_all passes) e ∙ list_all-append passes events (event ∷ []) ∙ and_from _ _ kept.owners (and_from _ _ h refl);
}
  where
    passes : Event → Bool
    passes = is_event_of (length (app_names inputs))
