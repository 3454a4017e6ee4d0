use Rattle.job_tasks.proofs.Cited.{◌≡◌, ◌∙◌, List, ℕ, Err, ap, map, refl, subst, rules, Outcome, outcome_seen, and_then, message_of}
use Rattle.job_tasks.proofs.Cited.{GivenSource, source_given, sources_unless, IsUnwell, NotRun, Unspoken, Run, writes_for, written_of}
use Rattle.job_tasks.proofs.Cited.{told_err}
use Rattle.fork_tasks.specs.declared.fault.ToolFault.TheVariants.{HostMemory as NoMemory}
use Rattle.job_tasks.proofs.running.leave.Goals as goal

-- the run did not begin
pub returns-in_err-outcome-clause-unleft : goal.returns-in_err-outcome-clause-unleft
returns-in_err-outcome-clause-unleft g c =
    let same : c.from_residual-in_err-outcome.result ≡ Err c.in_err-outcome.field-0.0 = search rules in
    told_err _ _ _ same (NotRun c.in_err-outcome.ensures.unheard refl c.in_err-outcome.ensures.fault)

-- there was no memory for the words
pub returns-in_err-told-clause-unleft : goal.returns-in_err-told-clause-unleft
returns-in_err-told-clause-unleft g c =
    let same : c.from_residual-in_err-told.result ≡ Err NoMemory = search rules in
    told_err _ _ NoMemory same (Unspoken (outcome_seen c.in_ok-outcome.outcome) c.in_ok-outcome.ensures.outcome
    c.in_ok-outcome.ensures.heard refl refl)

-- what the run leaves was not written to its end, or the run stopped
pub returns-in_err-written-clause-unleft : goal.returns-in_err-written-clause-unleft
returns-in_err-written-clause-unleft g c =
    let same : c.from_residual-in_err-written.result ≡ Err c.in_err-written.field-0.0 = search rules in
    let sources : map source_given c.sources_unless-sources.result.now
    ≡ sources_unless c.args.errand.now.bare (map source_given c.args.gathered.now.sources.items) = search rules in
    let texts : c.deref.result.now ≡ c.args.gathered.now.scripts.items = search rules in
    let unwell : List GivenSource → Outcome → Type 0 = λ s o. IsUnwell c.args.errand.now.out.now s o
    (g.H.Host.accesses c.args.host.now) (g.H.Host.accesses c.written.new.host) (message_of c.in_err-written.field-0.0) in
    told_err _ _ _ same (Run (outcome_seen c.in_ok-outcome.outcome) c.in_ok-outcome.ensures.outcome
    c.in_ok-outcome.ensures.heard
    (subst (λ o. unwell (sources_unless c.args.errand.now.bare (map source_given c.args.gathered.now.sources.items)) o)
    (c.in_ok-told.ensures ∙ ap (λ ts. written_of c.args.errand.now.in_words c.args.gathered.now.job (map (λ t. t.items) ts)
    (outcome_seen c.in_ok-outcome.outcome)) texts)
    (subst (λ s. unwell s (outcome_seen c.in_ok-told.told)) sources c.in_err-written.ensures.unwell)))

pub returns-clause-left : goal.returns-clause-left
returns-clause-left g c =
    let sources : map source_given c.sources_unless-sources.result.now
    ≡ sources_unless c.args.errand.now.bare (map source_given c.args.gathered.now.sources.items) = search rules in
    let texts : c.deref.result.now ≡ c.args.gathered.now.scripts.items = search rules in
    let made : List GivenSource → Outcome → Type 0 = λ s o. g.H.Host.accesses c.written.new.host
    ≡ and_then (g.H.Host.accesses c.args.host.now) (writes_for c.args.errand.now.out.now s o) in (
      outcome_seen c.in_ok-outcome.outcome,
      search rules,
      c.in_ok-outcome.ensures.outcome,
      c.in_ok-outcome.ensures.heard,
      subst (λ o. made (sources_unless c.args.errand.now.bare (map source_given c.args.gathered.now.sources.items)) o)
          (c.in_ok-told.ensures ∙ ap (λ ts. written_of c.args.errand.now.in_words c.args.gathered.now.job (map (λ t. t.items) ts)
          (outcome_seen c.in_ok-outcome.outcome)) texts)
          (subst (λ s. made s (outcome_seen c.in_ok-told.told)) sources c.in_ok-written.ensures.written),
    )
