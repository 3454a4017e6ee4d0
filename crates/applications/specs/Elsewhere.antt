use Rattle.std.specs.Prelude.{map}
use Rattle.std.specs.Option.{option_map}
use Rattle.block_store.specs.Rest.{Site}
use Rattle.applications.specs.Trying.{Running}
use Rattle.applications.specs.Step.{Event, LineEnd, Course}

-- An application whose partition lies elsewhere: the place of the partition has no part in what the application does.

-- The application with its partition at another place.
abbrev pub moved : Site → Running → Running
moved site r = record r { memory = record r.memory { window = site } }

-- The try, the end of a line, and the course, of the application with its partition at that place.
abbrev pub event_elsewhere : Site → Event → Event
event_elsewhere site e = record e { before = moved site e.before; after = moved site e.after }

abbrev pub line_end_elsewhere : Site → LineEnd → LineEnd
line_end_elsewhere site e = record e { try = option_map (event_elsewhere site) e.try }

abbrev pub course_elsewhere : Site → Course → Course
course_elsewhere site c = record c {
  events = map (event_elsewhere site) c.events;
  line_ends = map (line_end_elsewhere site) c.line_ends;
  after = moved site c.after;
}
