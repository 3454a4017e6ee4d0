use Rattle.fork_tasks.proofs.Cited.{◌≡◌, drop, map, view_file, write_in}
use Rattle.fork_tasks.proofs.Writes.{Made}
use Rattle.fork_tasks.proofs.extracting.write_files.Given as goal

-- nothing is printed, and the files so far are written
abbrev pub invariant-loop-file : goal.invariant-loop-file
invariant-loop-file g l = record {
  silent : g.H.Host.printed l.host ≡ g.H.Host.printed l.fn.host;
  made : Made (map write_in (map view_file l.files)) (map write_in (map view_file (drop l.file-index l.files)))
      (g.H.Host.accesses l.fn.host) (g.H.Host.accesses l.host);
}
