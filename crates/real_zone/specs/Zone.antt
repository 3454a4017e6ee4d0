use Rattle.std.specs.Prelude.{◌≡◌, ℕ, ◌+◌, ◌-◌, ◌==◌, Bool, false, nat_le, nat_lt, not, ◌&&◌, if◌then◌else◌, ⊤}
use Rattle.std.specs.Prelude.{List, [], ◌∷◌, ◌++◌, length, take, drop, Some}
use Rattle.std.specs.List.{list_all}
use Rattle.real_zone.specs.Numbers.{number}
use Rattle.real_zone.specs.Lists.{first, is_empty}
use Rattle.real_zone.specs.Form.{address_in}
use Rattle.real_zone.specs.Blocks.{block_places, is_tiled, free_bytes}
use Rattle.real_zone.specs.Rules.{broken, keeps_rules, damages_of_blocks}
use Rattle.real_zone.specs.Masters.{damages_of_list}
use Rattle.real_zone.specs.declared.form.Form.{Form}
use Rattle.real_zone.specs.declared.fault.Rule.TheVariants as rule
use Rattle.real_zone.specs.declared.fault.Damage.{Damage}
use Rattle.real_zone.specs.declared.fault.ZoneFault.{ZoneFault}
use Rattle.real_zone.specs.declared.fault.ZoneFault.TheVariants as fault

-- A zone in the bytes of a dump, and what is wrong with it.
-- Inside Macintosh: Memory, chapter 2, "Heap Zones"; MacsBug's heap check (HC).

-- The bytes from a zone record up to its bkLim are a zone at an address: each block keeps its rules, so the blocks tile the zone, and
-- a relocatable block and its master pointer name each other; the list of free master pointers stays in nonrelocatable blocks and
-- ends; and zcbFree is the sum of the free blocks' sizes.
unfoldable pub is_zone : Form → ℕ → List ℕ → Bool
is_zone form zone bytes =
    list_all (keeps_rules form zone bytes) (block_places form bytes)
    && is_empty (damages_of_list form zone bytes)
    && number 4 12 bytes == free_bytes form bytes

-- What is wrong with the number of free bytes in the zone record, zcbFree.
abbrev pub damages_of_sum : Form → ℕ → List ℕ → List Damage
damages_of_sum form zone bytes =
    if number 4 12 bytes == free_bytes form bytes then [] else broken zone rule.FreeBytes ∷ []

-- What is wrong with the bytes of a zone at an address: the blocks in their order and then, where these tile the zone, the list of
-- free master pointers and the number of free bytes.
unfoldable pub damages_of_zone : Form → ℕ → List ℕ → List Damage
damages_of_zone form zone bytes =
    damages_of_blocks form zone bytes
    ++ (if is_tiled form bytes then damages_of_list form zone bytes ++ damages_of_sum form zone bytes else [])

-- The zone record lies in a dump, whose first byte stands at an address.
abbrev pub has_record : List ℕ → ℕ → ℕ → Bool
has_record dump base zone = if nat_lt zone base then false else nat_le (zone - base + 52) (length dump)

-- The bytes of a dump from the zone's address on.
abbrev pub from_zone : List ℕ → ℕ → ℕ → List ℕ
from_zone dump base zone = drop (zone - base) dump

-- The address where the blocks end: bkLim.
abbrev pub limit_of : Form → List ℕ → ℕ
limit_of form bytes = address_in form (number 4 0 bytes)

-- The blocks end in the bytes from the zone on, and not below heapData.
abbrev pub has_limit : Form → ℕ → List ℕ → Bool
has_limit form zone bytes =
    if nat_lt (limit_of form bytes) (zone + 52) then false else nat_le (limit_of form bytes - zone) (length bytes)

-- The bytes of the zone itself, among those from the zone on.
abbrev pub zone_part : Form → ℕ → List ℕ → List ℕ
zone_part form zone bytes = take (limit_of form bytes - zone) bytes

-- The bytes of the zone at an address in a dump.
abbrev pub zone_bytes : Form → List ℕ → ℕ → ℕ → List ℕ
zone_bytes form dump base zone = zone_part form zone (from_zone dump base zone)

-- A zone record lies in a dump, and its bkLim is one, so that blocks can be looked for; they may be damaged.
abbrev pub is_laid : Form → List ℕ → ℕ → ℕ → Bool
is_laid form dump base zone = has_record dump base zone && has_limit form zone (from_zone dump base zone)

-- What is wrong with a zone in the bytes from its address on.
abbrev pub damages_from : Form → ℕ → List ℕ → List Damage
damages_from form zone bytes =
    if not (has_limit form zone bytes) then broken zone rule.Limit ∷ []
    else damages_of_zone form zone (zone_part form zone bytes)

-- What is wrong with a zone in a dump.
unfoldable pub damages : Form → List ℕ → ℕ → ℕ → List Damage
damages form dump base zone =
    if not (has_record dump base zone) then broken zone rule.ZonePointer ∷ []
    else damages_from form zone (from_zone dump base zone)

-- A zone stands at an address in a dump.
unfoldable pub is_zone_at : Form → List ℕ → ℕ → ℕ → Bool
is_zone_at form dump base zone =
    has_record dump base zone
    && has_limit form zone (from_zone dump base zone)
    && is_zone form zone (zone_bytes form dump base zone)

-- A fault is the first thing that is wrong, unless the host is out of memory, of which nothing is said.
abbrev pub Tells : ZoneFault → List Damage → Type 0
Tells fault.HostMemory found = ⊤
Tells (fault.Damaged damage) found = first found ≡ Some damage

-- And it says that no zone stands there.
abbrev pub Denies : ZoneFault → Bool → Type 0
Denies fault.HostMemory stands = ⊤
Denies (fault.Damaged damage) stands = stands ≡ false
