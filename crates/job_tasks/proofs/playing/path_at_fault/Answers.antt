use Rattle.job_tasks.proofs.Cited.{◌≡◌, ◌∙◌, List, ℕ, Some, IfOk, map, sym, ap, subst, rules, system_in, AppFork, part_seen, path_at_fault}
use Rattle.std.proofs.Common.{option_map}
use Rattle.job_tasks.proofs.Played.{system_read, system_unread}
use Rattle.job_tasks.proofs.playing.path_at_fault.Goals as goal
use Rattle.job_tasks.proofs.playing.path_at_fault.Goals.{in-Ok, in-Err-File, in-Err-HostMemory}

pub returns : goal.returns
returns c =
    let parts : List AppFork = map part_seen c.args.parts.now in
    let fault : List ℕ = path_at_fault parts (system_in (option_map (λ fork. fork.items) c.args.system.now)) in
    let given : Some c.deref.result.now ≡ option_map (λ fork. fork.items) c.args.system.now = search rules in
    let same : path_at_fault parts (system_in (Some c.deref.result.now)) ≡ fault =
    ap (λ s. path_at_fault parts (system_in s)) given in
    elim c.match-content_of_fork.branch [
      | in-Ok w ↦ subst (λ r. IfOk r (λ path. path.now ≡ fault)) (sym w.result-is)
          (w.own_path-in-Ok.ensures ∙ system_read parts c.deref.result.now _ w.in-Ok.ensures.content ∙ same)
      | in-Err-File w ↦ subst (λ r. IfOk r (λ path. path.now ≡ fault)) (sym w.result-is)
          (w.system_path.ensures ∙ system_unread parts c.deref.result.now w.in-Err-File.field-0-0 (search rules) ∙ same)
      | in-Err-HostMemory w ↦ subst (λ r. IfOk r (λ path. path.now ≡ fault)) (sym w.result-is) tt
    ]
