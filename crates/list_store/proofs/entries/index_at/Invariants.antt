use Rattle.list_store.proofs.Cited.{◌≡◌, take, drop, spot_at, blocks_of, raised_by}
use Rattle.list_store.proofs.entries.index_at.Given as goal

-- the rest of the entries gives the spot
abbrev pub invariant-loop-i : goal.invariant-loop-i
invariant-loop-i l = raised_by (take l.i (blocks_of l.entries)) (spot_at l.rest (drop l.i (blocks_of l.entries)))
    ≡ spot_at l.place (blocks_of l.entries)
