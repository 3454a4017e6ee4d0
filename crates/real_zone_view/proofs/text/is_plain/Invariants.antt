use Rattle.real_zone_view.proofs.Cited.{◌≡◌, drop, list_all, is_plain}
use Rattle.real_zone_view.proofs.text.is_plain.Given as goal

-- all are plain where those that are left are
abbrev pub invariant-loop-byte : goal.invariant-loop-byte
invariant-loop-byte l = list_all is_plain (drop l.byte-index l.bytes) ≡ list_all is_plain l.bytes
