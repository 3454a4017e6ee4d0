use Rattle.std.specs.Prelude.{◌≡◌, ℕ, ℤ, Bool, None, List, Result, Err}
use Rattle.fork_commands.specs.declared.fault.FileFault.{FileFault}
use Rattle.fork_commands.specs.declared.pair.Place.{Place}
use Rattle.fork_commands.specs.declared.pair.Setting.{Setting}
use Rattle.fork_commands.specs.declared.work.ResourceKey.{ResourceKey}
use Rattle.fork_commands.specs.Pairs.{Made, Names, Gives}
use Rattle.macmem_c.specs.Faults.{IsFault, is_second}
use Rattle.macmem_c.specs.Handed.{Hands}
use Rattle.macmem_c.specs.declared.faults.Fault.{Fault}

-- What is made of two files for C.

-- A resource is set to bytes: one that is there keeps its name and attributes.
abbrev pub setting_of : ResourceKey → Setting
setting_of key = record { key = key; name = None; attrs = None }

-- These bytes are what was to be made, whatever the names of the files, and what the files hold differs so.
abbrev pub IsPaired : Result Made (Place × FileFault) → Bool → List ℕ → Type 0
IsPaired wanted differs bytes = (names : Names) × Gives names wanted bytes differs

-- These bytes are what was to be made.
abbrev pub IsCombined : Result Made (Place × FileFault) → List ℕ → Type 0
IsCombined wanted bytes = (differs : Bool) × IsPaired wanted differs bytes

-- The bytes of a file are at fault, and C has the fault.
pub record IsUnpaired (wanted : Result Made (Place × FileFault)) (has : Fault) : Type 0 where
  pub place : Place
  pub fault : FileFault
  pub is_refused : wanted ≡ Err (place, fault)
  pub is_told : IsFault fault (is_second place) has

-- What C has once something was to be made of two files.
abbrev pub Combines : Result Made (Place × FileFault) → List ℕ → ℕ → Fault → List ℕ → ℕ → Fault → ℤ → Type 0
Combines wanted = Hands (IsCombined wanted) (IsUnpaired wanted)
