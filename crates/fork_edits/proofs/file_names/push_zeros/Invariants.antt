use Rattle.fork_edits.proofs.Cited.{◌≡◌, ◌++◌, ◌-◌, replicate, string_bytes}
use Rattle.fork_edits.proofs.file_names.push_zeros.Given as goal

abbrev pub invariant-loop : goal.invariant-loop
invariant-loop l =
    string_bytes l.text ++ replicate (l.count - l.counter) 48 ≡ string_bytes l.fn.text ++ replicate l.count 48
