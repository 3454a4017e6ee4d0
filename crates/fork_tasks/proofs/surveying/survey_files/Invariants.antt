use Rattle.fork_tasks.proofs.Cited.{◌≡◌, drop, map, string_bytes, AreSeen}
use Rattle.fork_tasks.proofs.Surveyed.{Come}
use Rattle.fork_tasks.proofs.surveying.survey_files.Given as goal

-- nothing is printed, and the files so far are seen
abbrev pub invariant-loop-file : goal.invariant-loop-file
invariant-loop-file g l = record {
  silent : g.H.Host.printed l.host ≡ g.H.Host.printed l.fn.host;
  come : Come AreSeen l.why (map string_bytes l.files) (map string_bytes (drop l.file-index l.files))
      (g.H.Host.accesses l.fn.host) (g.H.Host.accesses l.host)
      l.fn.lines.text.items l.lines.text.items l.fn.lines.good l.lines.good;
}
