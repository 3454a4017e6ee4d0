use Rattle.std.specs.Prelude.{ℕ, List}
use Rattle.real_zone.specs.Zone.{zone_bytes}
use Rattle.real_zone_view.specs.Answers.{form_for}
use Rattle.real_zone_view.specs.declared.dump.DumpView.{DumpView}
use Rattle.real_zone_view.specs.declared.dump.Place.{Place}
use Rattle.real_zone_view.specs.declared.dump.Question.TheVariants.{Script}
use Rattle.zone_scripts.specs.Copied.{parts_in}
use Rattle.zone_scripts.specs.Parts.{Part}

-- The question for a script of a zone in a dump, whose first byte stands at an address: `macmem zone --script` asks it.
abbrev pub asks_script : ℕ → Place → DumpView
asks_script base place = record { base = base; question = Script place }

-- The parts for the blocks of that zone.
abbrev pub parts_at : ℕ → Place → List ℕ → List Part
parts_at base place dump =
    parts_in (form_for place dump base) place.address (zone_bytes (form_for place dump base) dump base place.address)
