use Rattle.std.specs.Prelude.{ℕ, List, [], ◌∷◌, if◌then◌else◌}
use Rattle.block_store.specs.Block.{Block, is_relocatable, content_of}

-- The bytes of the blocks of the handle h in a zone, the lowest first: of one block at most where no handle has two.
abbrev pub bytes_in : ℕ → List Block → List (List ℕ)
bytes_in h [] = []
bytes_in h (b ∷ above) = if is_relocatable h b then content_of b ∷ bytes_in h above else bytes_in h above
