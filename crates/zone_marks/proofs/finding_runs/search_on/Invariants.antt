use Rattle.zone_marks.proofs.Cited.{◌≡◌, ◌+◌, ◌≤◌, ◌<◌, ◌^◌, length, sizes, scan_from, opened, spared, left_in}
use Rattle.zone_marks.proofs.finding_runs.search_on.Given as goal

-- the search through what is still to come gives the place
abbrev pub invariant-loop-scan : goal.invariant-loop-scan
invariant-loop-scan l = record {
  above : scan_from l.number l.bytes (spared l.sparing) l.scan (opened l.sparing l.walk)
      ≡ scan_from l.number l.bytes (spared l.sparing) l.fn.scan (opened l.sparing (left_in l.fn.scan.place l.sound.part.bytes));
  bytes : l.scan.place + sizes l.walk < 2 ^ 32;
  free : l.scan.free ≤ l.scan.place;
}

abbrev pub decreases-loop-scan : goal.decreases-loop-scan
decreases-loop-scan l = length l.walk
