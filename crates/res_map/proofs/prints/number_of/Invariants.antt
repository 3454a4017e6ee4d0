use Rattle.res_map.proofs.Cited.{◌≡◌, drop, str_to_ascii_lowercase, with_bytes}
use Rattle.res_map.proofs.prints.number_of.Given as goal

-- with the bytes that are left, the number is that of all
abbrev pub invariant-loop-byte : goal.invariant-loop-byte
invariant-loop-byte l = with_bytes l.n (str_to_ascii_lowercase (drop l.byte-index l.name))
    ≡ with_bytes 0 (str_to_ascii_lowercase l.fn.name)
