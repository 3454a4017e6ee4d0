-- Windows of a region in which zones are opened.
use Rattle.std.specs.Prelude.{◌≡◌}
use Rattle.memory_windows.specs.declared.Window.{Window}
use Rattle.block_store.specs.Rest.{Site}
use Rattle.raw_region.specs.Memory.{Whole}

-- A store at this site lies in the window `w` of the region.
abbrev pub LiesIn : Whole → Window → Site → Type 0
LiesIn region w site = (site.home ≡ region.home) × (site.window ≡ w)
