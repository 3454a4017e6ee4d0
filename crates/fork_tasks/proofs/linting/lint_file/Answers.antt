use Rattle.fork_tasks.proofs.Cited.{◌≡◌, [], ◌∷◌, rules, types_of, Failed, and_then, lines_by}
use Rattle.fork_tasks.proofs.Linted.{unread_linted}
use Rattle.fork_tasks.proofs.linting.lint_file.Goals as goal

-- the file can't be read
pub returns-in-Err-CannotRead-clause-seen : goal.returns-in-Err-CannotRead-clause-seen
returns-in-Err-CannotRead-clause-seen g c =
    let refused : g.H.Host.accesses c.read.new.self ≡ and_then (g.H.Host.accesses c.args.host.now) (Failed c.args.path.now ∷ []) =
    search rules in
    unread_linted (lines_by c.args.asked (types_of c.args.types.now)) c.args.path.now c.add_unread.result _ _ _ _ _ _ refused
    c.add_unread.ensures.text c.add_unread.ensures.clean
