use Rattle.applications.proofs.Cited.{◌≡◌, ◌∙◌, ◌++◌, ℕ, zero, suc, Bool, true, false, Option, List, [], ◌∷◌, refl, sym, ap, subst, cond}
use Rattle.applications.proofs.Cited.{map, arith, map-append, OsErr, Line, Glance, glance_of, glances, glances_after, glances_for}
use Rattle.applications.proofs.Cited.{glances_grown, glances_in, glances_try, AreSeen, Sight, sight_after, sight_of, CameRound, Course}
use Rattle.applications.proofs.Cited.{Event, Round, Ends, Again, after_asking, asked_for, continued, ended, event_of, grown, joined}
use Rattle.applications.proofs.Cited.{made_room, marked_for, most_rounds, round, stands, step, step_in, Blocks, Running, Tried, code_told}
use Rattle.applications.proofs.Cited.{once, Exit}
use Rattle.std.proofs.lemmas.List.{append_assoc, append-nil}
use Rattle.applications.specs.declared.stepping.Next.TheVariants as next

-- What an onlooker sees.

-- from one state to another the onlooker sees more
abbrev pub Adds : (List Glance → Type 0) → (List Glance → Type 0) → List Glance → Type 0
Adds old new more = (before : List Glance) → old before → new (before ++ more)

-- what was seen, before what is left to be seen, is all
pub record Sees (saw : List Glance → Type 0) (left all : List Glance) : Type 0 where
  pub so_far : List Glance
  pub seen : saw so_far
  pub whole : so_far ++ left ≡ all

pub all-seen : (saw : List Glance → Type 0) (all : List Glance) → Sees saw [] all → saw all
all-seen saw all s = subst saw (sym (append-nil s.so_far) ∙ s.whole) s.seen

-- a line of a grow-zone script
pub one-seen : (old new : List Glance → Type 0) (blocks : Blocks) (ls rest : List Line) (l : Line) (r next : Running) (code : OsErr)
    (all : List Glance) → ls ≡ l ∷ rest → next ≡ (once blocks l.call r).after → code ≡ code_told (once blocks l.call r).told
    → Adds old new (record { grown = true; line = l; code = code; after = next } ∷ [])
    → Sees old (glances_grown blocks ls r) all → Sees new (glances_grown blocks rest next) all
one-seen old new blocks ls rest l r next code all is went says looks s =
    let g : Glance = record { grown = true; line = l; code = code; after = next } in
    let same : g ≡ glance_of true l (once blocks l.call r) =
    (λ i. record { grown = true; line = l; code = says i; after = went i }) in
    record {
      so_far = s.so_far ++ (g ∷ []);
      seen = looks s.so_far s.seen;
      whole = append_assoc s.so_far (g ∷ []) (glances_grown blocks rest next)
          ∙ (λ i. s.so_far ++ (same i ∷ glances_grown blocks rest (went i)))
          ∙ ap (λ (x : List Line). s.so_far ++ glances_grown blocks x r) (sym is)
          ∙ s.whole;
    }

-- a try that found room
pub quiet-try : (saw : List Glance → Type 0) (blocks : Blocks) (l : Line) (t : Tried) → t.wants ≡ false
    → Adds saw saw (glances_try blocks l t)
quiet-try saw blocks l t quiet before seen =
    subst (λ (w : Bool). saw (before ++ cond w (glance_of false l t ∷ glances_for blocks l t.reading t.after) [])) (sym quiet)
    (subst saw (sym (append-nil before)) seen)

-- one that found no room, and the grow-zone script that was run for it
pub asked-try : (old mid new : List Glance → Type 0) (blocks : Blocks) (l : Line) (t : Tried) (after : Running) (code : OsErr)
    (reading : Option ℕ) → t.wants ≡ true → after ≡ t.after → code ≡ code_told t.told → reading ≡ t.reading
    → Adds old mid (record { grown = false; line = l; code = code; after = after } ∷ [])
    → Adds mid new (glances_for blocks l reading after) → Adds old new (glances_try blocks l t)
asked-try old mid new blocks l t after code reading wants went says reads looks more before seen =
    let g : Glance = record { grown = false; line = l; code = code; after = after } in
    subst (λ (w : Bool). new (before ++ cond w (glance_of false l t ∷ glances_for blocks l t.reading t.after) [])) (sym wants)
    (subst new (append_assoc before (g ∷ []) (glances_for blocks l reading after)
    ∙ (λ i. before ++ (record { grown = false; line = l; code = says i; after = went i }
    ∷ glances_for blocks l (reads i) (went i))))
    (more (before ++ (g ∷ [])) (looks before seen)))

-- where the call is tried again, the glances that are left are those of the rounds that are left
pub again-seen : (old new : List Glance → Type 0) (blocks : Blocks) (l : Line) (n k : ℕ) (r after : Running)
    (text written : List ℕ) (all : List Glance) → n ≡ suc k → CameRound (round blocks l r) next.Again text written after
    → Adds old new (glances_try blocks l (once blocks l.call r))
    → Sees old (glances_in n blocks l r) all → Sees new (glances_in k blocks l after) all
again-seen old new blocks l n k r after text written all more came looks s =
    by_round (round blocks l r) came (subst (λ (x : ℕ). Sees old (glances_in x blocks l r) all) more s)
  where
    tried : List Glance
    tried = glances_try blocks l (once blocks l.call r)

    by_round : (x : Round) → CameRound x next.Again text written after
        → Sees old (tried ++ glances_after x (glances_in k blocks l)) all → Sees new (glances_in k blocks l after) all
    by_round (Ends c) came s = absurd came
    by_round (Again c) came s = record {
      so_far = s.so_far ++ tried;
      seen = looks s.so_far s.seen;
      whole = append_assoc s.so_far tried (glances_in k blocks l after)
          ∙ ap (λ (x : Running). s.so_far ++ (tried ++ glances_in k blocks l x)) came.1
          ∙ s.whole;
    }

-- where the call has ended, all was seen
pub ended-seen : (old new : List Glance → Type 0) (blocks : Blocks) (l : Line) (n k : ℕ) (r after : Running) (exit : Option Exit)
    (text written : List ℕ) (all : List Glance) → n ≡ suc k
    → CameRound (round blocks l r) (next.Ended exit) text written after
    → Adds old new (glances_try blocks l (once blocks l.call r)) → Sees old (glances_in n blocks l r) all → new all
ended-seen old new blocks l n k r after exit text written all more came looks s =
    by_round (round blocks l r) came (subst (λ (x : ℕ). Sees old (glances_in x blocks l r) all) more s)
  where
    tried : List Glance
    tried = glances_try blocks l (once blocks l.call r)

    by_round : (x : Round) → CameRound x (next.Ended exit) text written after
        → Sees old (tried ++ glances_after x (glances_in k blocks l)) all → new all
    by_round (Ends c) came s =
        subst new (ap (λ (x : List Glance). s.so_far ++ x) (sym (append-nil tried)) ∙ s.whole) (looks s.so_far s.seen)
    by_round (Again c) came s = absurd came

-- what is seen of a grow-zone script is its tries
grown-seen : (blocks : Blocks) (ls : List Line) (r : Running)
    → map sight_after (grown blocks ls r).events ≡ map sight_of (glances_grown blocks ls r)
grown-seen blocks [] r = refl
grown-seen blocks (l ∷ script) r = ap (λ (later : List Sight). sight_of (glance_of true l (once blocks l.call r)) ∷ later)
    (grown-seen blocks script (once blocks l.call r).after)

-- so is what is seen of a try that found no room, and of what follows where the call is tried again
asked-seen : (tries tried : List Event) (seen looked : List Glance) (g : Glance) (e : Event) → sight_after e ≡ sight_of g
    → map sight_after tries ≡ map sight_of seen → AreSeen (map sight_after tried) (map sight_of looked)
    → AreSeen (map sight_after ((e ∷ tries) ++ tried)) (map sight_of ((g ∷ seen) ++ looked))
asked-seen tries tried seen looked g e one some s = record {
  rest = s.rest;
  whole = map-append sight_after (e ∷ tries) tried
      ∙ (λ i. (one i ∷ some i) ++ s.whole i)
      ∙ sym (append_assoc (map sight_of (g ∷ seen)) (map sight_of looked) s.rest)
      ∙ ap (λ (x : List Sight). x ++ s.rest) (sym (map-append sight_of (g ∷ seen) looked));
  few = s.few;
}

nothing-seen : AreSeen [] []
nothing-seen = record { rest = []; whole = refl; few = omega arith }

round-seen : (blocks : Blocks) (l : Line) (r : Running) (next : Running → Course) (later : Running → List Glance)
    → ((x : Running) → AreSeen (map sight_after (next x).events) (map sight_of (later x)))
    → AreSeen (map sight_after (continued (round blocks l r) next).events)
    (map sight_of (glances_try blocks l (once blocks l.call r) ++ glances_after (round blocks l r) later))
round-seen blocks l r next later follows = by_wants t.wants
  where
    t : Tried
    t = once blocks l.call r

    came : Course
    came = asked_for blocks l r t

    asking : Running
    asking = marked_for true l.call t.reading t.after

    tries : List Event
    tries = (grown blocks t.after.grow asking).events

    looked : List Glance
    looked = glance_of false l t ∷ glances_for blocks l t.reading t.after

    by_room : (made : Bool) → AreSeen
        (map sight_after (continued (cond made (Again came) (Ends (joined came (stands l t came.after)))) next).events)
        (map sight_of (looked ++ glances_after (cond made (Again came) (Ends (joined came (stands l t came.after)))) later))
    by_room false = asked-seen tries [] (glances_for blocks l t.reading t.after) [] (glance_of false l t) (event_of l r t) refl
        (grown-seen blocks t.after.grow asking) nothing-seen
    by_room true = asked-seen tries (next came.after).events (glances_for blocks l t.reading t.after) (later came.after)
        (glance_of false l t) (event_of l r t) refl (grown-seen blocks t.after.grow asking) (follows came.after)

    by_wants : (wants : Bool) → AreSeen
        (map sight_after (continued (cond wants (after_asking l t came) (Ends (ended l r t))) next).events)
        (map sight_of (cond wants looked [] ++ glances_after (cond wants (after_asking l t came) (Ends (ended l r t))) later))
    by_wants false = record { rest = sight_after (event_of l r t) ∷ []; whole = refl; few = omega arith }
    by_wants true = by_room (made_room t came)

-- and of a step
step-seen : (more : ℕ) (blocks : Blocks) (l : Line) (r : Running)
    → AreSeen (map sight_after (step_in more blocks l r).events) (map sight_of (glances_in more blocks l r))
step-seen zero blocks l r = nothing-seen
step-seen (suc more) blocks l r =
    round-seen blocks l r (step_in more blocks l) (glances_in more blocks l) (step-seen more blocks l)

pub tries_seen : (blocks : Blocks) (l : Line) (r : Running)
    → AreSeen (map sight_after (step blocks l r).events) (map sight_of (glances blocks l r))
tries_seen blocks l r = step-seen (most_rounds r) blocks l r
