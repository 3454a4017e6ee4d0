-- What a zone in bytes has beside its blocks.
use Rattle.std.specs.Prelude.{◌≡◌, ℕ, ◌*◌, length}
use Rattle.raw_region.specs.Memory.{Bytes}
use Rattle.block_store.specs.Block.{count, is_masters}
use Rattle.block_store.specs.Rest.{Rest}
use Rattle.zone_bytes.specs.Decode.{zone_in}
use Rattle.zone_bytes.specs.Table.{slot_in}

-- A part keeps its place and its length.
abbrev pub KeepsPlace : Bytes → Bytes → Type 0
KeepsPlace old new = (new.home ≡ old.home) × (new.at ≡ old.at) × (length new.bytes ≡ length old.bytes)

-- The slots that the bytes spell, with the given numbers of unused slots, of moves and of placings, and the number of
-- all slots and the window of the part.
abbrev pub rest_in : Bytes → ℕ → ℕ → ℕ → Rest
rest_in part unused moves placed = record {
  slots = slot_in part.bytes;
  unused = unused;
  all = 64 * count is_masters (zone_in part.bytes);
  moves = moves;
  placed = placed;
  window = record { home = part.home; window = record { at = part.at; len = length part.bytes } };
}
