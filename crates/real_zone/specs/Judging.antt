use Rattle.std.specs.Prelude.{ℕ, nat_lt, not, if◌then◌else◌, List, length, Option, Some, None}
use Rattle.real_zone.specs.Blocks.{block_places}
use Rattle.real_zone.specs.Zone.{has_record, has_limit, from_zone, zone_bytes}
use Rattle.real_zone.specs.Finding.{form_at}
use Rattle.real_zone.specs.declared.form.Form.{Form}
use Rattle.real_zone.specs.declared.form.Form.TheVariants as form

-- The form in which a zone is judged whose form nobody gives, though it may be damaged.

-- How many blocks of a zone stand one at the end of the other, up to bkLim or to one whose length is bad.
unfoldable pub reached : Form → List ℕ → ℕ → ℕ → ℕ
reached form dump base zone =
    if not (has_record dump base zone) then 0
    else if not (has_limit form zone (from_zone dump base zone)) then 0
    else length (block_places form (zone_bytes form dump base zone))

-- The form in which more blocks stand, that of 24 bits where they are as many: one of the other form ends the walk soon, since a header
-- that is read so has another length.
unfoldable pub likely_form : List ℕ → ℕ → ℕ → Form
likely_form dump base zone =
    if nat_lt (reached form.Bits24 dump base zone) (reached form.Bits32 dump base zone) then form.Bits32 else form.Bits24

-- The form in which a zone is judged: the one in which it stands, or else the likely one.
abbrev pub found_or : Option Form → Form → Form
found_or None likely = likely
found_or (Some form) likely = form

unfoldable pub judged_form : List ℕ → ℕ → ℕ → Form
judged_form dump base zone = found_or (form_at dump base zone) (likely_form dump base zone)
