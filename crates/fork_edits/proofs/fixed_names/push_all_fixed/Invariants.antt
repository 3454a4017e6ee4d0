use Rattle.fork_edits.proofs.Cited.{◌≡◌, ◌++◌, drop, false, string_bytes, fixed_bytes}
use Rattle.fork_edits.proofs.fixed_names.push_all_fixed.Given as goal

abbrev pub invariant-loop-byte : goal.invariant-loop-byte
invariant-loop-byte l = string_bytes l.text ++ fixed_bytes l.small (drop l.byte-index l.bytes)
    ≡ string_bytes l.fn.text ++ fixed_bytes false l.bytes
