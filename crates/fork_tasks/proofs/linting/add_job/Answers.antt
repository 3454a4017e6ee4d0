use Rattle.fork_tasks.proofs.Cited.{on_ok_weaker}
use Rattle.fork_tasks.proofs.Linted.{found_lines, found_clean}
use Rattle.fork_tasks.proofs.linting.add_job.Goals as goal

pub returns-clause-text : goal.returns-clause-text
returns-clause-text c =
    on_ok_weaker c.add_faults.result (λ h. found_lines c.args.path.now _ _ _ c.in_ok-faults.faults.items
    c.as_slice.result.now c.in_ok-faults.ensures c.as_slice.ensures.value h) c.add_faults.ensures.text

pub returns-clause-clean : goal.returns-clause-clean
returns-clause-clean c =
    on_ok_weaker c.add_faults.result (λ h. found_clean _ _ _ c.in_ok-faults.faults.items
    c.as_slice.result.now c.in_ok-faults.ensures c.as_slice.ensures.value h) c.add_faults.ensures.clean
