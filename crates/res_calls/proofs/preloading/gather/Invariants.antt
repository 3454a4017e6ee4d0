use Rattle.res_calls.proofs.Cited.{◌≡◌, ◌++◌, map, drop, wanted_as, wanted_of}
use Rattle.res_calls.proofs.preloading.gather.Given as goal

-- what was gathered, and then what is wanted of the rest, is all that is wanted
abbrev pub invariant-loop-i : goal.invariant-loop-i
invariant-loop-i l =
    map wanted_as l.wanted.items ++ wanted_of (drop l.i l.file.references) ≡ wanted_of l.file.references
