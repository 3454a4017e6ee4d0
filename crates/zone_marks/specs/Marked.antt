-- Landmarks of the zone that bytes spell.
use Rattle.std.specs.Prelude.{◌≡◌, ℕ, List}
use Rattle.block_store.specs.Block.{Block, free_sum}
use Rattle.zone_bytes.specs.Decode.{zone_in}
use Rattle.zone_marks.specs.Marks.{AreMarks, AreGroups, above_all}
use Rattle.zone_marks.specs.Purgeable.{NoneGoes}
use Rattle.zone_bytes.specs.PurgeableBytes.{purgeable_sum}
use Rattle.zone_marks.specs.declared.keeping.Landmarks.{Landmarks}

-- The landmarks are those of the zone, and the groups are those of the landmarks' groups.
abbrev pub AreMarked : Landmarks → List Block → Type 0
AreMarked landmarks zone = AreMarks above_all zone landmarks.marks.items × AreGroups landmarks.groups.items landmarks.marks.items

-- So they are, and no block below the place that is kept with them may be purged.
abbrev pub AreOf : Landmarks → List Block → Type 0
AreOf landmarks zone = AreMarked landmarks zone × NoneGoes landmarks.lowest zone

-- `free` bytes of the zone that bytes spell are free, `purgeable` of them would be freed by purges, and the landmarks are
-- those of the zone.
pub record IsMarked (xs : List ℕ) (free purgeable : ℕ) (landmarks : Landmarks) : Type 0 where
  pub free_is : free ≡ free_sum (zone_in xs)
  pub purgeable_is : purgeable ≡ purgeable_sum (zone_in xs)
  pub marked : AreOf landmarks (zone_in xs)
