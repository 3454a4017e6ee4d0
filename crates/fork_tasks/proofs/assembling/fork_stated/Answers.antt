use Rattle.fork_tasks.proofs.Cited.{◌≡◌, [], Err, refl, rules, types_of, Faulty, assembled}
use Rattle.fork_tasks.proofs.Assembled.{refused_alone}
use Rattle.fork_tasks.proofs.assembling.fork_stated.Goals as goal

-- the source is at fault, and names no files
pub returns-in_ok-fork_fault-in-Err-File-clause-stopped : goal.returns-in_ok-fork_fault-in-Err-File-clause-stopped
returns-in_ok-fork_fault-in-Err-File-clause-stopped g c =
    let is : assembled (types_of c.args.types.now) [] c.args.text.now ≡ Err (Faulty c.in-Err-File.fault) = search rules in
    refused_alone c.args.path.now _ c.args.text.now c.in-Err-File.fault _ _ _ is refl
    c.in_ok-fork_fault-in-Err-File.ensures
