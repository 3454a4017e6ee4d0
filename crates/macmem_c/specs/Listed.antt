use Rattle.std.specs.Prelude.{ℕ, is_some, List, length, map, Result, Ok}
use Rattle.fork_edits.specs.Resources.{rows}
use Rattle.fork_edits.specs.Resources as edits
use Rattle.fork_commands.specs.Faults.{made_then}
use Rattle.fork_commands.specs.Reading.{content_in}
use Rattle.fork_commands.specs.declared.fault.FileFault.{FileFault}
use Rattle.macmem_c.specs.declared.rows.Row.{Row}

-- The resources of a fork, as C has them.

-- A resource, as C has it.
abbrev pub row_as : edits.Row → Row
row_as row = record {
  size = length row.resource.datum;
  kind = row.kind;
  id = row.resource.id;
  attrs = row.resource.attrs;
  has_name = is_some row.resource.name;
}

-- The resources of the fork in the bytes of a file, in their order.
abbrev pub listed : List ℕ → Result (List Row) FileFault
listed file = made_then (content_in file) (λ content. Ok (map row_as (rows content.groups)))
