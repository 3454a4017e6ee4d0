-- The value and the invariant of a `RawZone`.
use Rattle.raw_zone.specs.Held.{Held}
use Rattle.zone_bytes.proofs.Laws.Lawful.{lawful-bytes}
use Rattle.zone_marks.specs.Marked.{IsMarked}
use Rattle.raw_zone.specs.declared.zone.RawZone.TheInside.{Inside}

abbrev pub held : Inside → Held
held z = record {
  part = z.sound.part;
  first = z.sound.first;
  unused = z.sound.unused;
  free = z.free;
  moves = z.moves;
  placings = z.placings;
  lawful = ∣ lawful-bytes z.sound.part.bytes z.sound.first z.sound.unused z.sound.sound ∣₁;
}

abbrev pub IsRawZone : Inside → Type 0
IsRawZone z = IsMarked z.sound.part.bytes z.free z.purgeable z.marks
