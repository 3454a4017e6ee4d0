use Rattle.std.specs.Prelude.{ℕ, List}
use Rattle.real_zone.specs.Numbers.{number}
use Rattle.real_zone.specs.declared.zone_record.ZoneRecord.{ZoneRecord}

-- The zone record: 52 bytes at the zone's address, after which the first block stands (heapData).
-- Inside Macintosh: Memory, chapter 2, "Heap Zones" (the data type Zone).
unfoldable pub record_of : List ℕ → ZoneRecord
record_of bytes = record {
  limit = number 4 0 bytes;
  purge_pointer = number 4 4 bytes;
  first_free_master = number 4 8 bytes;
  free_bytes = number 4 12 bytes;
  grow_zone = number 4 16 bytes;
  more_masters = number 2 20 bytes;
  flags = number 2 22 bytes;
  relocatable = number 2 24 bytes;
  most_relocatable = number 2 26 bytes;
  nonrelocatable = number 2 28 bytes;
  most_nonrelocatable = number 2 30 bytes;
  empty = number 2 32 bytes;
  handles = number 2 34 bytes;
  least_free_bytes = number 4 36 bytes;
  purge_procedure = number 4 40 bytes;
  spare_pointer = number 4 44 bytes;
  allocation_pointer = number 4 48 bytes;
}
