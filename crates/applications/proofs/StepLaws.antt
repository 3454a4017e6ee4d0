use Rattle.applications.proofs.Cited.{◌≡◌, ℕ, Bool, true, false, zero, suc, List, [], ◌∷◌, refl, ap, ◌∙◌, cond, Option, Some, None}
use Rattle.applications.proofs.Cited.{same_Some, OsErr, Call, Told, Refused, holds, Line, Bindings, Running, Blocks, Tried, once, code_told}
use Rattle.applications.proofs.Cited.{Course, marked_for, grown, grown_for, asked_for, names_given, number_given, ended, stands, Round}
use Rattle.applications.proofs.Cited.{Ends, Again, made_room, after_asking, round, continued, step_in, step, joined, kept_anew, most_rounds}
use Rattle.applications.proofs.Cited.{EachStep, RefusedBinds}
use Rattle.mac_words.specs.declared.call.Call.TheVariants as call
use Rattle.applications.proofs.TryLaws.{once-names}

-- What holds of each step of a run; and which names are bound after it.

-- what holds of each step from a state of a kind, and leaves one of that kind, holds of each step of a run
pub each-step : (P : Line → Running → Type 0) (Kind : Running → Type 0) (blocks : Blocks)
    → ((l : Line) (r : Running) → Kind r → P l r × Kind (step blocks l r).after)
    → (lines : List Line) (r : Running) → Kind r → EachStep P blocks lines r
each-step P Kind blocks holds [] r kind = tt
each-step P Kind blocks holds (l ∷ lines) r kind =
    let both = holds l r kind in
    (both.0, λ goes_on. each-step P Kind blocks holds lines (step blocks l r).after both.1)

-- no line of a grow-zone script binds a name
pub grown-names : (blocks : Blocks) (script : List Line) (r : Running) → (grown blocks script r).after.names ≡ r.names
grown-names blocks [] r = refl
grown-names blocks (l ∷ script) r =
    grown-names blocks script (once blocks l.call r).after ∙ once-names blocks l.call r

marked_for-names : (busy : Bool) (c : Call) (reading : Option ℕ) (r : Running)
    → (marked_for busy c reading r).names ≡ r.names
marked_for-names busy (call.Control c) reading r = refl
marked_for-names busy (call.Resource c) reading r = refl
marked_for-names busy (call.Segment c) reading r = refl
marked_for-names busy (call.Heap c) reading r = refl

for-names : (blocks : Blocks) (l : Line) (reading : Option ℕ) (r : Running)
    → (grown_for blocks l reading r).after.names ≡ r.names
for-names blocks l reading r =
    marked_for-names false l.call reading (grown blocks r.grow (marked_for true l.call reading r)).after
    ∙ grown-names blocks r.grow (marked_for true l.call reading r) ∙ marked_for-names true l.call reading r

asked-names : (blocks : Blocks) (l : Line) (r : Running)
    → (asked_for blocks l r (once blocks l.call r)).after.names ≡ r.names
asked-names blocks l r =
    for-names blocks l (once blocks l.call r).reading (once blocks l.call r).after ∙ once-names blocks l.call r

-- where a call is refused no name is bound anew
names-kept : (c : Call) (names : Bindings) → names_given c None names ≡ names
names-kept c names = refl

-- nor where a code is kept anew
kept-names : (c : Call) (code : OsErr) (r : Running) → (kept_anew c code r).names ≡ r.names
kept-names (call.Heap c) code r = refl
kept-names (call.Resource c) code r = refl
kept-names (call.Segment c) code r = refl
kept-names (call.Control c) code r = refl

-- a call that is refused binds nothing
abbrev Binds : Bindings → Course → Type 0
Binds names c = (code : OsErr) → c.told ≡ Some (Refused code) → c.after.names ≡ names

abbrev RoundBinds : Bindings → Round → Type 0
RoundBinds names (Ends c) = Binds names c
RoundBinds names (Again c) = c.after.names ≡ names

round-binds : (blocks : Blocks) (l : Line) (r : Running) → RoundBinds r.names (round blocks l r)
round-binds blocks l r = by_want t.wants
  where
    t : Tried
    t = once blocks l.call r

    came : Course
    came = asked_for blocks l r t

    by_room : (rose : Bool)
        → RoundBinds r.names (cond rose (Again came) (Ends (joined came (stands l t came.after))))
    by_room true = asked-names blocks l r
    by_room false = λ code tells. kept-names l.call (code_told t.told) came.after ∙ asked-names blocks l r

    by_want : (wants : Bool) → RoundBinds r.names (cond wants (after_asking l t came) (Ends (ended l r t)))
    by_want true = by_room (made_room t came)
    by_want false = λ code tells.
        ap (λ (told : Told). names_given l.call (number_given told) t.after.names)
        (same_Some t.told (Refused code) tells)
        ∙ names-kept l.call t.after.names
        ∙ once-names blocks l.call r

continued-binds : (names : Bindings) (x : Round) (next : Running → Course) → RoundBinds names x
    → ((r : Running) → r.names ≡ names → Binds names (next r)) → Binds names (continued x next)
continued-binds names (Ends c) next binds more = binds
continued-binds names (Again c) next same more = more c.after same

step_in-binds : (most : ℕ) (blocks : Blocks) (l : Line) (r : Running) (names : Bindings) → r.names ≡ names
    → Binds names (step_in most blocks l r)
step_in-binds zero blocks l r names same = λ code tells. same
step_in-binds (suc more) blocks l r names same =
    continued-binds names (round blocks l r) (step_in more blocks l)
    (from-round (round blocks l r) (round-binds blocks l r))
    (λ x is. step_in-binds more blocks l x names is)
  where
    from-round : (x : Round) → RoundBinds r.names x → RoundBinds names x
    from-round (Ends c) binds = λ code tells. binds code tells ∙ same
    from-round (Again c) is = is ∙ same

-- and so of each step of a run
pub binds-no-name : (blocks : Blocks) (lines : List Line) (r : Running) → RefusedBinds blocks lines r
binds-no-name blocks lines r = each-step
    (λ l r. (code : OsErr) → (step blocks l r).told ≡ Some (Refused code) → (step blocks l r).after.names ≡ r.names)
    (λ r. Unit {0}) blocks (λ l r u. (step_in-binds (most_rounds r) blocks l r r.names refl, tt)) lines r tt
