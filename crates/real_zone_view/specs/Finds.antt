use Rattle.std.specs.Prelude.{ℕ, Option, Some, None, List, ◌++◌, codes}
use Rattle.std.specs.List.{flat_map}
use Rattle.real_zone.specs.Finding.{global_of, zone_size}
use Rattle.real_zone.specs.declared.finding.FoundZone.{FoundZone}
use Rattle.real_zone.specs.declared.finding.ZoneGlobal.{ZoneGlobal}
use Rattle.real_zone.specs.declared.finding.ZoneGlobal.TheVariants as global
use Rattle.real_zone_view.specs.declared.style.Style.{Style}
use Rattle.real_zone_view.specs.Fields.{hex_text, left_field, right_field, size_field}
use Rattle.real_zone_view.specs.Text.{begin, titled, bits_text}

-- The zones that were found in a dump, a line for each.

-- The name of the global that has the address of a zone.
abbrev pub global_text : Option ZoneGlobal → List ℕ
global_text None = codes "-"
global_text (Some global.SysZone) = codes "SysZone"
global_text (Some global.ApplZone) = codes "ApplZone"

-- The line of a zone: its address, its size, the bits of its addresses, and the global that has its address.
unfoldable pub find_text : Style → List ℕ → ℕ → FoundZone → List ℕ
find_text style dump base found =
    begin style.fields (codes "zone") ++ hex_text found.address
    ++ size_field style 10 (zone_size found.form dump base found.address)
    ++ right_field style.fields 5 (bits_text found.form)
    ++ left_field style.fields 0 (global_text (global_of dump base found.address)) ++ codes "\n"

-- The lines of all, with titles above them.
unfoldable pub finds_text : Style → List ℕ → ℕ → List FoundZone → List ℕ
finds_text style dump base zones =
    titled style.fields (codes "address       size bits global\n") ++ flat_map (find_text style dump base) zones
