use Rattle.std.specs.Prelude.{List, [], ◌∷◌, ◌++◌, ℕ, codes}
use Rattle.std.specs.List.{flat_map}
use Rattle.real_zone.specs.declared.fault.Rule.{Rule}
use Rattle.real_zone.specs.declared.fault.Rule.TheVariants as rule
use Rattle.real_zone.specs.declared.fault.Damage.{Damage}
use Rattle.real_zone_view.specs.declared.style.Fields.{Fields}
use Rattle.real_zone_view.specs.declared.style.Fields.TheVariants as fields
use Rattle.real_zone_view.specs.Fields.{hex_text}

-- What is wrong with a zone, as MacsBug's heap check says it.

-- The words for a rule that is broken.
abbrev pub rule_text : Rule → List ℕ
rule_text rule.ZonePointer = codes "zone pointer is bad"
rule_text rule.Limit = codes "BkLim is bad"
rule_text rule.HeapLength = codes "BkLim does not agree with heap length"
rule_text rule.BlockType = codes "block type is bad"
rule_text rule.BlockLength = codes "block length is bad"
rule_text rule.SizeCorrection = codes "size correction is bad"
rule_text rule.ZoneOfBlock = codes "nonrelocatable block: pointer to zone is bad"
rule_text rule.RelativeHandle = codes "relative handle is bad"
rule_text rule.MasterPointer = codes "master pointer does not point at block"
rule_text rule.FreeMaster = codes "free master pointer list is bad"
rule_text rule.EndlessList = codes "free master pointer list has no end"
rule_text rule.FreeBytes = codes "zcbFree does not agree with the free blocks"

-- The line of a rule that is broken: at which address, and which.
unfoldable pub damage_text : Damage → List ℕ
damage_text damage = hex_text damage.address ++ codes ": " ++ rule_text damage.rule ++ codes "\n"

-- The lines of all.
abbrev pub damages_text : List Damage → List ℕ
damages_text damages = flat_map damage_text damages

-- What the list of a zone ends with: where the zone is damaged, the line of the first rule that is broken. In columns it stands below an
-- empty line.
abbrev pub before_address : Fields → List ℕ
before_address fields.Columns = codes "\ndamaged at "
before_address fields.Tabs = codes "damaged\t"

abbrev pub after_address : Fields → List ℕ
after_address fields.Columns = codes ": "
after_address fields.Tabs = codes "\t"

abbrev pub damaged_line : Fields → Damage → List ℕ
damaged_line f damage =
    before_address f ++ hex_text damage.address ++ after_address f ++ rule_text damage.rule ++ codes "\n"

unfoldable pub damaged_text : Fields → List Damage → List ℕ
damaged_text f [] = []
damaged_text f (damage ∷ damages) = damaged_line f damage
