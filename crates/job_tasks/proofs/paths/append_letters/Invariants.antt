use Rattle.job_tasks.proofs.Cited.{◌≡◌, ◌≤◌, ◌+◌, ◌*◌, ◌++◌, drop, string_bytes, string_len, string_capacity, encode_utf8_all}
use Rattle.job_tasks.proofs.paths.append_letters.Given as goal

-- the path, with the letters to come, is the whole, and there is room for these
abbrev pub invariant-loop-letter : goal.invariant-loop-letter
invariant-loop-letter l = record {
  text : string_bytes l.path ++ encode_utf8_all (drop l.letter-index l.letters)
      ≡ string_bytes l.fn.path ++ encode_utf8_all l.letters;
  len : string_len l.path ≤ string_len l.fn.path + 2 * l.letter-index;
  capacity : string_capacity l.fn.path ≤ string_capacity l.path;
}
