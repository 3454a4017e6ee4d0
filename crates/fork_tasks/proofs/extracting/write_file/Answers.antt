use Rattle.fork_tasks.proofs.Cited.{◌≡◌, ◌∙◌, Err, ap, rules, view_file, write_message}
use Rattle.fork_tasks.specs.declared.fault.ToolFault.TheVariants.{HostMemory}
use Rattle.fork_tasks.proofs.Accesses.{told_err}
use Rattle.fork_tasks.proofs.Extracted.{not_written, not_reported}
use Rattle.fork_tasks.proofs.extracting.write_file.Goals as goal

-- the host is out of memory as the fault is reported
pub returns-in_err-unwritten-in-Err-clause-stopped : goal.returns-in_err-unwritten-in-Err-clause-stopped
returns-in_err-unwritten-in-Err-clause-stopped g c =
    let same : c.from_residual.result ≡ Err HostMemory = search rules in
    told_err _ _ _ same (not_reported (view_file c.args.file.now) c.as_str.result.now c.as_slice.result.now
    c.in-Err.error _ _ c.in-Err.ensures.front (search rules) (search rules))

pub returns-in_ok-unwritten-in-Err-clause-stopped : goal.returns-in_ok-unwritten-in-Err-clause-stopped
returns-in_ok-unwritten-in-Err-clause-stopped g c =
    let path : c.as_str-in-Err.result.now ≡ (view_file c.args.file.now).path = search rules in
    not_written (view_file c.args.file.now) c.as_str.result.now c.as_slice.result.now c.in-Err.error _ _ _
    c.in-Err.ensures.front (search rules) (search rules)
    (c.in_ok-unwritten-in-Err.ensures ∙ ap (λ p. write_message p c.in-Err.error) path)
