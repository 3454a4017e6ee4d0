use Rattle.fork_tasks.proofs.Cited.{◌≡◌, [], true, drop, map, AreSurveyed}
use Rattle.fork_tasks.proofs.Surveyed.{Come}
use Rattle.fork_tasks.proofs.surveying.surveyed.Given as goal

-- nothing is printed, and the paths so far are surveyed
abbrev pub invariant-loop-path : goal.invariant-loop-path
invariant-loop-path g l = record {
  silent : g.H.Host.printed l.host ≡ g.H.Host.printed l.fn.host;
  come : Come AreSurveyed l.why (map (λ path. path.now) l.paths)
      (map (λ path. path.now) (drop l.path-index l.paths))
      (g.H.Host.accesses l.fn.host) (g.H.Host.accesses l.host) [] l.lines.text.items true l.lines.good;
}
