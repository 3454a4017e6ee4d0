use Rattle.fork_edits.proofs.Cited.{◌≡◌, ◌++◌, drop, string_bytes, list_all, is_file_byte}
use Rattle.fork_edits.proofs.listing.push_file.Given as goal

abbrev pub invariant-loop-byte : goal.invariant-loop-byte
invariant-loop-byte l = record {
  tested : list_all is_file_byte (drop l.byte-index l.text) ≡ list_all is_file_byte l.text;
  pushed : string_bytes l.file ++ drop l.byte-index l.text ≡ string_bytes l.fn.file ++ l.text;
}
