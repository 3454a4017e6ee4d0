use Rattle.block_store.proofs.Cited.{ℕ, ◌+◌, Bool, List, map, Option, max, Block, sizes, free_sum, segments, Segments, Stretch}
use Rattle.block_store.proofs.Cited.{lowest_purged, count_of, largest, place_behind, beyond}

-- where the run above the lowest one begins, seen from a place on
abbrev pub run_behind : ℕ → List Block → Option ℕ
run_behind place bs = place_behind (place + sizes (segments bs).first) (beyond (segments bs).rest)

-- the most Free bytes of a run, where the lowest one has so many below
abbrev pub largest_from : ℕ → Segments → ℕ
largest_from free s = max (free + free_sum s.first) (largest free_sum (map (λ (p : Stretch). p.run) s.rest))

-- the Free bytes of the lowest run, where the k lowest blocks that may go are purged
abbrev pub free_first : ℕ → (Block → Bool) → Segments → ℕ
free_first k sp s = free_sum (lowest_purged k sp s.first)

-- how many blocks of the lowest run may go
abbrev pub goes_first : (Block → Bool) → Segments → ℕ
goes_first sp s = count_of sp s.first
