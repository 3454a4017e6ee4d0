use Rattle.job_tasks.proofs.Cited.{◌≡◌, ◌∙◌, ℕ, List, Err, map, rules, subst, length-map, message_of, source_given, IsTaken, IsUntaken}
use Rattle.job_tasks.proofs.Cited.{Unread, Untaken, told_err}
use Rattle.job_tasks.proofs.playing.take.Goals as goal

-- a file was not read
pub returns-in_err-texts-clause-untaken : goal.returns-in_err-texts-clause-untaken
returns-in_err-texts-clause-untaken g c =
    let same : c.from_residual.result ≡ Err c.in_err-texts.field-0.0 = search rules in
    told_err _ _ _ same (Unread c.in_err-texts.ensures.stopped)

-- all were read, and make an application
pub returns-in-Ok-clause-taken : goal.returns-in-Ok-clause-taken
returns-in-Ok-clause-taken g c =
    let texts : List (List ℕ) = map (λ text. text.items) c.in_ok-texts.texts.items in
    let all : map (λ text. text.items) c.as_slice.result.now ≡ texts = search rules in (
      length-map c.in_ok-texts.texts.items (λ text. text.items) ∙ c.in_ok-texts.ensures.count,
      c.in_ok-texts.ensures.read,
      subst (λ l. IsTaken c.args.play.now l c.in-Ok.player.job c.in-Ok.player.app (map source_given c.in-Ok.player.sources.items))
          all c.in-Ok.ensures.taken,
    )

-- or none
pub returns-in-Err-clause-untaken : goal.returns-in-Err-clause-untaken
returns-in-Err-clause-untaken g c =
    let texts : List (List ℕ) = map (λ text. text.items) c.in_ok-texts.texts.items in
    let all : map (λ text. text.items) c.as_slice.result.now ≡ texts = search rules in
    Untaken texts c.in_ok-texts.ensures.read
    (subst (λ l. IsUntaken c.args.play.now l (message_of c.in-Err.fault)) all c.in-Err.ensures.fault)
