use Rattle.std.specs.Prelude.{◌≡◌, ℕ, ℤ, Result, Err}
use Rattle.byteorder.specs.Endian.{big_number}
use Rattle.fork_format.specs.Content.{Content}
use Rattle.fork_edits.specs.declared.merging.MergeFault.{MergeFault}
use Rattle.fork_edits.specs.declared.merging.MergeFault.TheVariants.{InBoth, HostMemory}

-- Why two contents could not be merged.

-- The fault is that of two contents; where the host is out of memory nothing is said of them.
abbrev pub StopsMerge : MergeFault → Result Content (ℕ × ℤ) → Type 0
StopsMerge (InBoth ty id) made = made ≡ Err (big_number 4 ty.0, id)
StopsMerge HostMemory made = Unit {0}
