use Rattle.std.specs.Prelude.{ℕ, List, map, option_map}
use Rattle.transcript_words.specs.declared.source.Source.{Source}
use Rattle.transcript_words.specs.declared.changes.Placed.{Placed}
use Rattle.transcript_words.specs.declared.changes.Standing.{Standing}
use Rattle.transcript_words.specs.Changes as changes

-- What is lent or kept, as values.

abbrev pub view_lines : Source → List (List ℕ)
view_lines s = map (λ l. l.now) s.lines.items

abbrev pub view_placed : Placed → changes.Placed
view_placed p = record { number = p.number; place = p.place; name = option_map (λ n. n.0.items) p.name }

abbrev pub view_standing : Standing → changes.Standing
view_standing s = record { blocks = map view_placed s.blocks.items; handles = s.handles.items }
