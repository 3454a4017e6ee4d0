use Rattle.std.specs.Prelude.{ℕ, ◌+◌, ◌*◌, ◌==◌, ◌&&◌, nat_le, Bool, true, List, [], ◌∷◌}
use Rattle.std.specs.List.{list_all}
pub use Rattle.plain_laws.specs.Bytes.{AreBytes}
use Rattle.rez_types.specs.Fields.{Part, Field, Run, Declaration}
use Rattle.rez_types.specs.Decoding.{width_of}

-- Declarations whose runs are whole bytes, as those of each sound one are; and bytes.

-- The bits of parts.
abbrev pub bits_in : List Part → ℕ
bits_in [] = 0
bits_in (p ∷ parts) = width_of p + bits_in parts

-- The parts of a run have just the bits of its bytes, of which there are at most four.
abbrev pub is_whole : Field → Bool
is_whole (Run bytes parts) = nat_le bytes 4 && bits_in parts == 8 * bytes
is_whole field = true

-- All runs of a declaration do.
abbrev pub has_whole_runs : Declaration → Bool
has_whole_runs d = list_all is_whole d.fields && list_all (λ fields. list_all is_whole fields) d.blocks
