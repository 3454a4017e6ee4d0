use Rattle.std.specs.Prelude.{ℕ, Option, Some, None, map, option_map}
use Rattle.std.specs.BTreeMap.{BTreeMap, get}
use Rattle.std.specs.Ordering.{nat_cmp}
use Rattle.zone_drawing.specs.Line.{Known, Line, no_tag}
use Rattle.zone_drawing.specs.Line as view
use Rattle.zone_drawing.specs.Steps as steps
use Rattle.zone_drawing.specs.declared.line.BlockLine.{BlockLine}
use Rattle.zone_drawing.specs.declared.line.KeptLine.{KeptLine}
use Rattle.zone_drawing.specs.declared.line.Moment.{Moment}
use Rattle.zone_drawing.specs.declared.line.Tag.{Tag}

-- Lines of blocks, and what is known of handles and pointers, as values: without the places where names lie in memory.

abbrev pub view_tag : Tag → view.Tag
view_tag t = record { name = option_map (λ n. n.now.0.items) t.name; owner = t.owner; number = t.number }

abbrev pub view_line : BlockLine → Line
view_line l = record {
  place = l.place;
  size = l.size;
  shape = l.shape;
  bytes = l.bytes;
  tag = view_tag l.tag;
}

abbrev pub view_kept : KeptLine → Line
view_kept l = record {
  place = l.place;
  size = l.size;
  shape = l.shape;
  bytes = l.bytes;
  tag = record { name = option_map (λ n. n.0.items) l.name; owner = l.owner; number = l.number };
}

abbrev pub view_moment : Moment → steps.Moment
view_moment m = record { number = m.number; caption = m.caption.items; passed = m.passed; lines = map view_kept m.lines.items }

-- What a map has of a handle or a pointer; nothing is known of one that is not in the map.
abbrev pub tag_in : Option Tag → view.Tag
tag_in None = no_tag
tag_in (Some t) = view_tag t

-- What two maps have of the handles of slots and of the pointers to places.
abbrev pub known_by : BTreeMap ℕ Tag → BTreeMap ℕ Tag → Known
known_by handles pointers = record {
  handle = λ slot. tag_in (get nat_cmp handles slot);
  pointer = λ place. tag_in (get nat_cmp pointers place);
}
