use Rattle.std.specs.Prelude.{ℕ, Option, Some, None, List, [], ◌∷◌, ◌++◌, codes, decimal, if◌then◌else◌}
use Rattle.std.specs.List.{flat_map}
use Rattle.std.specs.Fmt.{signed_decimal}
use Rattle.byteorder.specs.Endian.{big_number}
use Rattle.mac_words.specs.declared.name.OsType.{OsType}
use Rattle.mac_roman.specs.declared.charset.Charset.TheVariants.{Ascii}
use Rattle.fork_format.specs.Canonical.{canon, fits}
use Rattle.fork_format.specs.Content.{Content}
use Rattle.fork_format.specs.Fork.{content_of}
use Rattle.fork_edits.specs.Texts.{type_text}
use Rattle.fork_rules.specs.declared.rules.ResourceKey.{ResourceKey}
use Rattle.fork_rules.specs.declared.rules.Rule.{Rule}
use Rattle.fork_rules.specs.declared.rules.Rule.TheVariants as rule
use Rattle.fork_rules.specs.declared.rules.Broken.{Broken}
use Rattle.fork_rules.specs.declared.regions.Region.{Region}
use Rattle.fork_rules.specs.declared.regions.Region.TheVariants as region
use Rattle.fork_rules.specs.Breaking.{broken}
use Rattle.fork_rules.specs.Regions.{differences}

-- What a fork is, in words: the rule that it breaks, or the regions in which it differs from the canonical fork.

-- A type.
abbrev pub kind_text : OsType → List ℕ
kind_text ty = type_text Ascii (big_number 4 ty.0)

-- A type and an ID.
abbrev pub resource_text : ResourceKey → List ℕ
resource_text key = kind_text key.ty ++ codes " " ++ signed_decimal key.id

-- A rule that is broken.
abbrev pub rule_text : Rule → List ℕ
rule_text rule.HeaderCutOff = codes "the header is cut off"
rule_text rule.DataOutside = codes "the resource data lies outside the fork"
rule_text rule.MapOutside = codes "the map lies outside the fork"
rule_text rule.MapTooShort = codes "the map has fewer than 30 bytes"
rule_text rule.TypeListOutside = codes "the type list lies outside the map"
rule_text rule.EntriesOutside = codes "the entries of the type list lie outside the map"
rule_text rule.TooManyReferences = codes "there are more than 65536 references"
rule_text (rule.ReferenceOutside ty) = codes "a reference of " ++ kind_text ty ++ codes " lies outside the map"
rule_text (rule.NameOutside key) = codes "the name of " ++ resource_text key ++ codes " lies outside the map"
rule_text (rule.DatumOutside key) = codes "the data of " ++ resource_text key ++ codes " lies outside the resource data"
rule_text rule.TooMuchData = codes "there are more than 134217728 bytes of data"

-- A broken rule, and where it is broken.
abbrev pub damaged_text : Broken → List ℕ
damaged_text b = codes "damaged: " ++ rule_text b.rule ++ codes ", at " ++ decimal b.at

-- A region.
abbrev pub region_text : Region → List ℕ
region_text region.DataOffset = codes "offset of the resource data"
region_text region.MapOffset = codes "offset of the map"
region_text region.DataLength = codes "length of the resource data"
region_text region.MapLength = codes "length of the map"
region_text region.Area = codes "bytes after the header"
region_text region.Data = codes "resource data"
region_text region.HeaderCopy = codes "copy of the header"
region_text region.NextMap = codes "handle to the next map"
region_text region.FileNumber = codes "file reference number"
region_text region.MapAttributes = codes "map attributes"
region_text region.TypeListOffset = codes "offset of the type list"
region_text region.NameListOffset = codes "offset of the name list"
region_text region.TypeCount = codes "number of types"
region_text region.Types = codes "types"
region_text region.Counts = codes "numbers of resources"
region_text region.ListOffsets = codes "offsets of the reference lists"
region_text region.Ids = codes "IDs"
region_text region.NameOffsets = codes "offsets of the names"
region_text region.Attributes = codes "resource attributes"
region_text region.DatumOffsets = codes "offsets of the data"
region_text region.Handles = codes "handles to resources"
region_text region.Names = codes "name list"
region_text region.Rest = codes "bytes after the map"

-- One more region, after a comma.
abbrev pub next_text : Region → List ℕ
next_text r = codes ", " ++ region_text r

-- The regions in which a fork differs from the canonical fork of its content; with none it is the canonical fork.
abbrev pub accepted_text : List Region → List ℕ
accepted_text [] = codes "canonical"
accepted_text (r ∷ regions) = codes "accepted: " ++ region_text r ++ flat_map next_text regions

-- A fork of a content: what differs from its canonical fork, if it has one.
abbrev pub form_text : Content → List ℕ → List ℕ
form_text c bytes = if fits c then accepted_text (differences bytes (canon c)) else codes "accepted: no canonical fork"

-- A fork, if it is whole.
abbrev pub whole_text : Option Broken → List ℕ → List ℕ
whole_text (Some b) bytes = damaged_text b
whole_text None bytes = form_text (content_of bytes) bytes

-- What bytes are, and why.
abbrev pub why_text : List ℕ → List ℕ
why_text bytes = whole_text (broken bytes) bytes
