use Rattle.std.specs.Prelude.{ℕ, zero, suc, ◌+◌, ◌-◌, ◌*◌, ◌/◌, ◌==◌, ◌||◌, Bool, true, false, nat_le, nat_lt, if◌then◌else◌}
use Rattle.std.specs.Prelude.{List, [], ◌∷◌, ◌++◌, length, Option, Some, None}
use Rattle.std.specs.List.{flat_map}
use Rattle.real_zone.specs.Numbers.{number}
use Rattle.real_zone.specs.Zone.{is_zone_at, has_record, from_zone, limit_of}
use Rattle.real_zone.specs.declared.form.Form.{Form}
use Rattle.real_zone.specs.declared.form.Form.TheVariants as form
use Rattle.real_zone.specs.declared.finding.FoundZone.{FoundZone}
use Rattle.real_zone.specs.declared.finding.ZoneGlobal.{ZoneGlobal}
use Rattle.real_zone.specs.declared.finding.ZoneGlobal.TheVariants as global

-- The zones that stand in a dump. The low-memory globals SysZone (2A6) and ApplZone (2AA) have the addresses of two of them.
-- Inside Macintosh: Memory, chapter 2, "The System Global Variables".

-- The form in which a zone stands at an address. A zone of blocks has one form alone; where the record is all there is, so that no
-- header tells it, the zone counts as one of 24 bits.
unfoldable pub form_at : List ℕ → ℕ → ℕ → Option Form
form_at dump base zone =
    if is_zone_at form.Bits24 dump base zone then Some form.Bits24
    else if is_zone_at form.Bits32 dump base zone then Some form.Bits32
    else None

-- A zone of a form that was found at an address, if one was.
abbrev pub found_with : ℕ → Option Form → List FoundZone
found_with zone None = []
found_with zone (Some form) = record { address = zone; form = form } ∷ []

-- The zone that stands at an address, if one does.
unfoldable pub found_at : List ℕ → ℕ → ℕ → List FoundZone
found_at dump base zone = found_with zone (form_at dump base zone)

-- The long at an address, if it lies in the dump.
unfoldable pub long_at : List ℕ → ℕ → ℕ → Option ℕ
long_at dump base address =
    if nat_lt address base then None
    else if nat_le (address - base + 4) (length dump) then Some (number 4 (address - base) dump)
    else None

-- The addresses of the system zone and of the application zone, in the low-memory globals SysZone and ApplZone.
abbrev pub system_zone : List ℕ → ℕ → Option ℕ
system_zone dump base = long_at dump base 0x2A6

abbrev pub application_zone : List ℕ → ℕ → Option ℕ
application_zone dump base = long_at dump base 0x2AA

-- A global names an address.
abbrev pub names : Option ℕ → ℕ → Bool
names None address = false
names (Some named) address = named == address

-- The zone that a global names.
unfoldable pub found_named : List ℕ → ℕ → Option ℕ → List FoundZone
found_named dump base None = []
found_named dump base (Some zone) = found_at dump base zone

-- Two globals say the same.
abbrev pub are_same : Option ℕ → Option ℕ → Bool
are_same None None = true
are_same None (Some b) = false
are_same (Some a) None = false
are_same (Some a) (Some b) = a == b

-- The zones that the globals name, each of them once.
unfoldable pub found_globals : List ℕ → ℕ → List FoundZone
found_globals dump base =
    found_named dump base (system_zone dump base)
    ++ (if are_same (system_zone dump base) (application_zone dump base) then []
    else found_named dump base (application_zone dump base))

-- The zone that stands at an address which no global names.
unfoldable pub found_unnamed : List ℕ → ℕ → ℕ → List FoundZone
found_unnamed dump base zone =
    if names (system_zone dump base) zone || names (application_zone dump base) zone then [] else found_at dump base zone

-- So many addresses, each 4 after the one before it.
unfoldable pub fourths : ℕ → ℕ → List ℕ
fourths zero address = []
fourths (suc n) address = address ∷ fourths n (address + 4)

-- The multiples of 4 from the beginning of a dump on, one for each four bytes.
abbrev pub multiples : List ℕ → ℕ → List ℕ
multiples dump base = fourths (length dump / 4) ((base + 3) / 4 * 4)

-- The zones that stand at multiples of 4 and that no global names.
abbrev pub found_others : List ℕ → ℕ → List FoundZone
found_others dump base = flat_map (found_unnamed dump base) (multiples dump base)

-- The zones that stand in a dump: first those that the globals name, and then the others in the order of their addresses.
abbrev pub zones_in : List ℕ → ℕ → List FoundZone
zones_in dump base = found_globals dump base ++ found_others dump base

-- The global that names an address, SysZone where both do.
unfoldable pub global_of : List ℕ → ℕ → ℕ → Option ZoneGlobal
global_of dump base zone =
    if names (system_zone dump base) zone then Some global.SysZone
    else if names (application_zone dump base) zone then Some global.ApplZone
    else None

-- The size of a zone: from its zone record up to bkLim.
unfoldable pub zone_size : Form → List ℕ → ℕ → ℕ → ℕ
zone_size form dump base zone =
    if has_record dump base zone then limit_of form (from_zone dump base zone) - zone else 0
