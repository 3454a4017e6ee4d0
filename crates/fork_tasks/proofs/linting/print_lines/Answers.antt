use Rattle.fork_tasks.proofs.Cited.{◌≡◌, [], Err, map, rules, subst, sym, types_of, Adds, AreLinted, lines_by}
use Rattle.fork_tasks.proofs.Accesses.{told_err}
use Rattle.fork_tasks.proofs.Linted.{unprinted}
use Rattle.fork_tasks.proofs.linting.print_lines.Goals as goal

pub returns-in_err-deliver-clause-undone : goal.returns-in_err-deliver-clause-undone
returns-in_err-deliver-clause-undone g c =
    let same : c.from_residual-in_err-deliver.result ≡ Err c.in_err-deliver.field-0.0 = search rules in
    let seen = c.in_ok-lines.ensures.seen in
    let faulty = lines_by c.args.asked (types_of c.args.types.now) in
    told_err _ _ _ same (unprinted faulty (map (λ path. path.now) c.args.paths.now) seen.0 _ _ _ _ _ _ _ _
    c.in_ok-lines.ensures.silent seen.1 seen.2.made
    (subst (λ t. Adds (AreLinted faulty seen.0) [] t) (sym c.as_slice.ensures.value) seen.2.lines)
    c.in_err-deliver.ensures.undelivered)
