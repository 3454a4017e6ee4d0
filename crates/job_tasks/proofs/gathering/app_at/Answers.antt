use Rattle.job_tasks.proofs.Cited.{◌≡◌, ◌∷◌, ◌∙◌, [], Option, List, ℕ, Err, ap, rules, message_of, Access, Read, and_then, reads_at}
use Rattle.job_tasks.proofs.Cited.{fork_found, script_found, app_found, one_more, ends_err, stops_from}
use Rattle.fork_tasks.specs.declared.fault.ToolFault.TheVariants.{HostMemory}
use Rattle.job_tasks.proofs.Stops.{stop_given}
use Rattle.job_tasks.proofs.Forks.{app_unread, app_stop, app_there, app_made}
use Rattle.job_tasks.proofs.gathering.app_at.Goals as goal

-- the fork was read, and then the script
both : (a b : Option (List Access)) (fork script bytes : List ℕ) (texts : List (List ℕ))
    → b ≡ and_then a (Read fork bytes ∷ [])
    → and_then b (reads_at (script ∷ []) texts) ≡ and_then a (reads_at (fork ∷ script ∷ []) (bytes ∷ texts))
both a b fork script bytes texts first = ap (λ x. and_then x (reads_at (script ∷ []) texts)) first ∙ one_more a _ _

pub returns-in_err-bytes-clause-app : goal.returns-in_err-bytes-clause-app
returns-in_err-bytes-clause-app g c =
    let same : c.from_residual.result ≡ Err c.in_err-bytes.field-0.0 = search rules in
    let found = c.in_err-bytes.ensures.stop in
    let h = app_unread c.args.name.now.0.items c.args.fork.now c.args.script.now _ _ _ found.0 found.1 found.2 in
    (h.0, ends_err _ _ _ _ same h.1, stop_given app_found _ _ _ same h.2)

pub returns-in_err-script-clause-app : goal.returns-in_err-script-clause-app
returns-in_err-script-clause-app g c =
    let found = c.in_ok-bytes.ensures.fork in
    let h = c.in_err-script.ensures.script in
    let same : c.from_residual-in_err-script.result ≡ Err c.in_err-script.field-0.0 = search rules in (
      found.0 ∷ h.0,
      ends_err _ _ _ _ same (stops_from _ _ _ _ (both _ _ c.args.fork.now c.args.script.now found.0 h.0 found.1) h.1),
      stop_given app_found _ _ _ same (app_stop c.args.name.now.0.items c.args.fork.now c.args.script.now found.0
          (fork_found c.in_ok-bytes.bytes) h.0 (message_of c.in_err-script.field-0.0) found.2 h.2),
    )

pub returns-in_err-label_copy-clause-app : goal.returns-in_err-label_copy-clause-app
returns-in_err-label_copy-clause-app g c =
    let found = c.in_ok-bytes.ensures.fork in
    let h = c.in_ok-script.ensures.script in
    let same : c.from_residual-in_err-label_copy.result ≡ Err HostMemory = search rules in (
      found.0 ∷ h.0,
      ends_err _ _ _ _ same (h.1 ∙ both _ _ c.args.fork.now c.args.script.now found.0 h.0 found.1),
      stop_given app_found _ _ _ same tt,
    )

pub returns-clause-app : goal.returns-clause-app
returns-clause-app g c =
    let found = c.in_ok-bytes.ensures.fork in
    let h = c.in_ok-script.ensures.script in (
      found.0 ∷ h.0,
      h.1 ∙ both _ _ c.args.fork.now c.args.script.now found.0 h.0 found.1,
      app_there c.args.name.now.0.items c.args.fork.now c.args.script.now found.0 (fork_found c.in_ok-bytes.bytes) h.0
          (script_found c.in_ok-script.script) _ found.2 h.2
          (app_made _ _ _ (script_found c.in_ok-script.script) _ (search rules)),
    )
