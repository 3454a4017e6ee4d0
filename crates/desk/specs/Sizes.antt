use Rattle.std.specs.Prelude.{ℕ, ◌-◌, ◌%◌, min, nat_lt, negsuc, Option, Some, None, List, length, if◌then◌else◌}
use Rattle.fork_format.specs.Fork.{number}
use Rattle.res_calls.specs.Files.{Resources}
use Rattle.res_calls.specs.Own.{own_datum}

-- The sizes of the partition that a launch asks for. Macintosh Toolbox Essentials, chapter 2, "The Size Resource".

pub record Sizes : Type 0 where
  pub preferred : ℕ
  pub minimum : ℕ

-- 'SIZE' as a number.
abbrev pub size_type : ℕ
size_type = 0x53495A45

-- The size of a partition for a size that was asked for: rounded down to a multiple of 16, but at least 512.
abbrev pub rounded : ℕ → ℕ
rounded n = if nat_lt n 512 then 512 else n - n % 16

-- The minimum size; one above the preferred size is read as the preferred size.
abbrev pub capped : ℕ → ℕ → ℕ
capped preferred minimum = min preferred minimum

-- The sizes in the stored data of a 'SIZE' resource: flags (2 bytes), the preferred size (4) and the minimum (4). If
-- there is no such resource, or it is shorter, both sizes are 512 kilobytes.
-- See decision 107 (the sizes of 'SIZE' -1 are mended, not refused).
abbrev pub sizes_read : List ℕ → Sizes
sizes_read datum = record {
  preferred = rounded (number 4 2 datum);
  minimum = capped (rounded (number 4 2 datum)) (rounded (number 4 6 datum));
}

abbrev pub usual_sizes : Sizes
usual_sizes = record { preferred = 524288; minimum = 524288 }

abbrev pub sizes_in : Option (List ℕ) → Sizes
sizes_in None = usual_sizes
sizes_in (Some datum) = if nat_lt (length datum) 10 then usual_sizes else sizes_read datum

-- The sizes that an application asks for: those of its 'SIZE' -1.
abbrev pub sizes_of : Resources → Sizes
sizes_of resources = sizes_in (own_datum size_type (negsuc 0) resources)

-- The sizes of a partition for which just one size is given.
abbrev pub just : ℕ → Sizes
just size = record { preferred = rounded size; minimum = rounded size }

-- The sizes that a launch asks for: just the size that is given for the application; if none is given, those of its
-- 'SIZE' -1.
abbrev pub sizes_asked : Option ℕ → Resources → Sizes
sizes_asked None resources = sizes_of resources
sizes_asked (Some size) resources = just size
