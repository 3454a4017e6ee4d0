use Rattle.std.specs.Prelude.{ℕ, List, ◌++◌}
use Rattle.zone_drawing.specs.declared.choice.Choice.{Choice}
use Rattle.zone_drawing.specs.declared.digits.Digits.{Digits}
use Rattle.zone_drawing.specs.declared.listing.Listing.{Listing}
use Rattle.zone_drawing.specs.declared.style.Style.{Style}
use Rattle.zone_drawing.specs.declared.totals.Largest.{Largest}
use Rattle.zone_drawing.specs.Choice.{chosen}
use Rattle.zone_drawing.specs.Line.{Line}
use Rattle.zone_drawing.specs.Text.{head_text, lines_text}
use Rattle.zone_drawing.specs.Totals.{totals_text, after_text}

-- A zone as it is listed: the lines of the blocks that are chosen, and the totals of the whole zone, since what could be
-- allocated is not to be said of a part of it.

-- The blocks that are chosen, with titles.
abbrev pub blocks_text : Digits → Choice → Style → List Line → List ℕ
blocks_text d c s lines = head_text s ++ lines_text d s (chosen c lines)

-- A zone after a step.
abbrev pub zone_text : Listing → List Line → Largest → List ℕ → List ℕ
zone_text x lines l step =
    blocks_text x.digits x.choice x.style lines ++ totals_text x.digits x.style lines l ++ after_text x.style step
