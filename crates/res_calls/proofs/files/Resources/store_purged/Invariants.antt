use Rattle.res_calls.proofs.Cited.{◌≡◌, map, stored_gone, view_purged}
use Rattle.res_calls.proofs.files.Resources.store_purged.Given as goal

-- what is left to be stored gives what all of it gives of the resources as they were
abbrev pub invariant-loop-block : goal.invariant-loop-block
invariant-loop-block l =
    stored_gone (map view_purged l.block-iterator.rest.items) l.self
    ≡ stored_gone (map view_purged l.initial.block-iterator.rest.items) l.initial.self
