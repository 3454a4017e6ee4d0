use Rattle.fork_edits.proofs.Cited.{◌≡◌, ◌++◌, drop, flat_map, string_bytes, safe_byte}
use Rattle.fork_edits.proofs.file_names.push_all_safe.Given as goal

abbrev pub invariant-loop-byte : goal.invariant-loop-byte
invariant-loop-byte l =
    string_bytes l.text ++ flat_map safe_byte (drop l.byte-index l.bytes)
    ≡ string_bytes l.fn.text ++ flat_map safe_byte l.bytes
