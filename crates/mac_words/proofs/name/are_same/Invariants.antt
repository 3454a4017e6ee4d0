use Rattle.std.proofs.Common.{◌≡◌, drop}
use Rattle.std.specs.Prelude.{bytes_eq}
use Rattle.mac_words.proofs.name.are_same.Given as goal

-- what follows is the same just where all is the same
abbrev pub invariant-loop-index : goal.invariant-loop-index
invariant-loop-index l = bytes_eq (drop l.index l.one) (drop l.index l.other) ≡ bytes_eq l.one l.other
