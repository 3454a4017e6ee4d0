-- The fields of a `Part`, and what holds of them.
use Rattle.std.specs.Prelude.{◌≡◌, ◌<◌, ◌%◌}
use denote.RawPtr.{◌+ₚ◌}
use Rattle.raw_region.specs.Memory.{Bytes}
use Rattle.raw_region.specs.declared.part.Part.TheInside.{Inside}
use Rattle.raw_region.specs.declared.region.TheConstants.{UNIT}

abbrev pub part_view : Inside → Bytes
part_view p = record { home = p.home; at = p.at; bytes = p.bytes.items }

-- The bytes of a part lie at its place in the region; a part has at least one byte, and their number is a multiple of
-- `UNIT`.
abbrev pub IsPart : Inside → Type 0
IsPart p = (p.bytes.ptr ≡ p.home +ₚ p.at) × (0 < p.bytes.len) × (p.bytes.len % UNIT ≡ 0)
