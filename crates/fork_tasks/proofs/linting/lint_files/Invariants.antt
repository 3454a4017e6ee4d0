use Rattle.fork_tasks.proofs.Cited.{◌≡◌, [], true, drop, map, types_of, lines_by}
use Rattle.fork_tasks.proofs.Linted.{Come}
use Rattle.fork_tasks.proofs.linting.lint_files.Given as goal

-- nothing is printed, and the files so far are read
abbrev pub invariant-loop-path : goal.invariant-loop-path
invariant-loop-path g l = record {
  silent : g.H.Host.printed l.host ≡ g.H.Host.printed l.fn.host;
  come : Come (lines_by l.asked (types_of l.types)) (map (λ path. path.now) l.paths) (map (λ path. path.now) (drop l.path-index l.paths))
      (g.H.Host.accesses l.fn.host) (g.H.Host.accesses l.host) [] l.lines.text.items true l.lines.clean;
}
