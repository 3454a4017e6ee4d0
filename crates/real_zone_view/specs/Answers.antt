use Rattle.std.specs.Prelude.{◌≡◌, ℕ, ◌+◌, nat_lt, not, Bool, true, if◌then◌else◌, Option, Some, None}
use Rattle.std.specs.Prelude.{List, ◌++◌, length}
use Rattle.real_zone.specs.Lists.{first, is_empty}
use Rattle.real_zone.specs.Rules.{broken}
use Rattle.real_zone.specs.Zone.{has_record, is_laid, zone_bytes, damages}
use Rattle.real_zone.specs.Finding.{zones_in, zone_size}
use Rattle.real_zone.specs.Judging.{judged_form}
use Rattle.real_zone.specs.declared.fault.Rule.TheVariants as rule
use Rattle.real_zone.specs.declared.fault.Damage.{Damage}
use Rattle.real_zone.specs.declared.form.Form.{Form}
use Rattle.zone_scripts.specs.Copied.{parts_in, fits}
use Rattle.zone_scripts.specs.Text.{script_text}
use Rattle.real_zone_view.specs.declared.style.Style.{Style}
use Rattle.real_zone_view.specs.declared.dump.Place.{Place}
use Rattle.real_zone_view.specs.declared.dump.Question.{Question}
use Rattle.real_zone_view.specs.declared.dump.Question.TheVariants.{List as Lists, Draw, Script, Check, Find}
use Rattle.real_zone_view.specs.declared.dump.DumpView.{DumpView}
use Rattle.real_zone_view.specs.declared.dump.DumpFault.{DumpFault}
use Rattle.real_zone_view.specs.declared.dump.DumpFault.TheVariants.{TooLong, Outside, Damaged, TooLarge}
use Rattle.real_zone_view.specs.declared.dump.ViewFault.{ViewFault}
use Rattle.real_zone_view.specs.declared.dump.ViewFault.TheVariants.{Dump, HostMemory}
use Rattle.real_zone_view.specs.Text.{title_text}
use Rattle.real_zone_view.specs.Totals.{zone_text}
use Rattle.real_zone_view.specs.Damages.{damages_text, damaged_text}
use Rattle.real_zone_view.specs.Finds.{finds_text}
use Rattle.real_zone_view.specs.Picture.{zone_picture}

-- What is answered to a question about a dump, and when there is no answer.

-- The form in which a zone is judged: the one that is given, or the one that the dump shows.
abbrev pub given_or : Option Form → Form → Form
given_or None judged = judged
given_or (Some form) judged = form

abbrev pub form_for : Place → List ℕ → ℕ → Form
form_for place dump base = given_or place.form (judged_form dump base place.address)

-- The list of a zone: its blocks, if it is damaged those that are passed, and their totals; and the first rule that it breaks, if it
-- breaks one.
abbrev pub list_text : Style → Form → List ℕ → ℕ → ℕ → List ℕ
list_text style form dump base zone =
    title_text style form zone (zone_size form dump base zone) ++ zone_text style form zone (zone_bytes form dump base zone)
    ++ damaged_text style.fields (damages form dump base zone)

-- The picture of a zone.
abbrev pub drawn : Form → List ℕ → ℕ → ℕ → List ℕ
drawn form dump base zone =
    zone_picture form zone (zone_size form dump base zone) (zone_bytes form dump base zone) (damages form dump base zone)

-- The script of a zone.
abbrev pub scripted : Form → List ℕ → ℕ → ℕ → List ℕ
scripted form dump base zone = script_text form zone (parts_in form zone (zone_bytes form dump base zone))

-- The text of the answer: the list of the zone, its picture, or its script; a line for each rule that is broken; or the zones that stand in
-- the dump.
abbrev pub answer_to : Question → ℕ → List ℕ → List ℕ
answer_to (Lists place style) base dump = list_text style (form_for place dump base) dump base place.address
answer_to (Draw place) base dump = drawn (form_for place dump base) dump base place.address
answer_to (Script place) base dump = scripted (form_for place dump base) dump base place.address
answer_to (Check place) base dump = damages_text (damages (form_for place dump base) dump base place.address)
answer_to (Find style) base dump = finds_text style dump base (zones_in dump base)

abbrev pub answer_text : DumpView → List ℕ → List ℕ
answer_text asked dump = answer_to asked.question asked.base dump

-- Nothing is wrong with the zone, or one was found.
abbrev pub is_good_to : Question → ℕ → List ℕ → Bool
is_good_to (Lists place style) base dump = is_empty (damages (form_for place dump base) dump base place.address)
is_good_to (Draw place) base dump = is_empty (damages (form_for place dump base) dump base place.address)
is_good_to (Script place) base dump = true
is_good_to (Check place) base dump = is_empty (damages (form_for place dump base) dump base place.address)
is_good_to (Find style) base dump = not (is_empty (zones_in dump base))

abbrev pub is_good : DumpView → List ℕ → Bool
is_good asked dump = is_good_to asked.question asked.base dump

-- Why there is no answer: the dump goes past the last address; the zone record would not lie in the dump; or, where blocks are to be
-- listed or drawn, its bkLim is bad, so that no block can be looked for. There is a script only of a zone that breaks no rule, and whose
-- blocks have room in a partition.
abbrev pub record_fault : List ℕ → ℕ → ℕ → Option DumpFault
record_fault dump base zone = if has_record dump base zone then None else Some (Outside zone)

abbrev pub zone_fault : Form → List ℕ → ℕ → ℕ → Option DumpFault
zone_fault form dump base zone =
    if not (has_record dump base zone) then Some (Outside zone)
    else if is_laid form dump base zone then None
    else Some (Damaged (broken zone rule.Limit))

abbrev pub room_fault : Form → ℕ → List ℕ → Option DumpFault
room_fault form zone bytes = if fits (parts_in form zone bytes) then None else Some (TooLarge zone)

abbrev pub damage_or : Option Damage → Option DumpFault → Option DumpFault
damage_or None other = other
damage_or (Some damage) other = Some (Damaged damage)

abbrev pub script_fault : Form → List ℕ → ℕ → ℕ → Option DumpFault
script_fault form dump base zone =
    damage_or (first (damages form dump base zone)) (room_fault form zone (zone_bytes form dump base zone))

abbrev pub fault_to : Question → ℕ → List ℕ → Option DumpFault
fault_to (Lists place style) base dump = zone_fault (form_for place dump base) dump base place.address
fault_to (Draw place) base dump = zone_fault (form_for place dump base) dump base place.address
fault_to (Script place) base dump = script_fault (form_for place dump base) dump base place.address
fault_to (Check place) base dump = record_fault dump base place.address
fault_to (Find style) base dump = None

unfoldable pub dump_fault : DumpView → List ℕ → Option DumpFault
dump_fault asked dump =
    if nat_lt 0x100000000 (asked.base + length dump) then Some TooLong else fault_to asked.question asked.base dump

-- A fault is that of the dump, unless the host is out of memory, of which nothing is said.
abbrev pub Tells : ViewFault → Option DumpFault → Type 0
Tells HostMemory told = Unit {0}
Tells (Dump fault) told = told ≡ Some fault
