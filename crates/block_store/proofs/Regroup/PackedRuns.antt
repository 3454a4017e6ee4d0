use Rattle.block_store.proofs.Cited.{ℕ, ◌+◌, ◌==◌, Bool, List, Option, Some, None, cond, map, length, Block, count, is_mover, Segments}
use Rattle.block_store.proofs.Cited.{Stretch, lowered_in_run, lowered_in_runs, has_block, stretches}

-- What a walk counts of packed runs.

-- the runs above the lowest one
abbrev pub higher : Segments → List (List Block)
higher s = map (λ (p : Stretch). p.run) s.rest

-- how many blocks are to move, where a Free block stands below or not
abbrev pub to_move : Bool → Segments → ℕ
to_move free s = cond free (count is_mover s.first) (lowered_in_run s.first)
    + lowered_in_runs (length (higher s)) (higher s)

-- how many runs have a block that isn't counted yet, where the lowest run counts as `first` if it has one
abbrev pub uncounted : ℕ → Segments → ℕ
uncounted first s = cond (has_block s.first) first 0 + stretches (length (higher s)) (higher s)

-- what the walk comes to, from where it has counted n
abbrev pub packed_from : ℕ → ℕ → Bool → Segments → Option ℕ
packed_from n first free s = cond (to_move free s == 0) (Some (n + uncounted first s)) None
