use Rattle.std.specs.Prelude.{ℕ, ◌+◌, Bool, true, false, not, ◌&&◌, List, [], ◌∷◌, max, if◌then◌else◌}
use Rattle.block_store.specs.Walk.{seen_size}
use Rattle.block_store.specs.declared.sparing.Seen.{Seen}
use Rattle.block_store.specs.declared.sparing.Seen.TheVariants as see

-- A pass over the runs of a zone.

-- The block may be part of a run.
abbrev pub in_run : Seen → Bool
in_run (see.Free n) = true
in_run (see.Nonrelocatable n) = false
in_run see.Masters = false
in_run (see.Relocatable id flags n) = not flags.locked

-- The number of bytes of a block that are free, or would be if the block were purged.
abbrev pub could_be_free : Seen → ℕ
could_be_free (see.Free n) = n
could_be_free (see.Nonrelocatable n) = 0
could_be_free see.Masters = 0
could_be_free (see.Relocatable id flags n) =
    if not flags.locked && flags.purgeable then seen_size (see.Relocatable id flags n) else 0

-- The greatest of a number, and of the bytes of each run, where the first run has some already.
abbrev pub pass : ℕ → ℕ → List Seen → ℕ
pass run best [] = max best run
pass run best (b ∷ above) = if in_run b then pass (run + could_be_free b) best above else pass 0 (max best run) above
