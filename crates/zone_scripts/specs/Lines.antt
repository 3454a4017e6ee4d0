use Rattle.std.specs.Prelude.{ℕ, List, [], ◌∷◌, ◌++◌, replicate, if◌then◌else◌, ◌≡◌, false, bytes_eq}
use Rattle.std.specs.List.{flat_map}
use Rattle.block_store.specs.declared.flags.Flags.{Flags}
use Rattle.zone_scripts.specs.Hex.{hex_text}
use Rattle.zone_scripts.specs.Parts.{Part, Relocated, Fixed, Gap, more_masters}

-- The calls of a script that makes a zone. Inside Macintosh: Memory, chapter 2, "Memory Manager Routines".

-- A call, with the name that it binds or that stands for its handle or pointer.
pub data Line : Type 0 where
  MoreMasters : Line
  NewHandle : (name : List ℕ) (size : ℕ) → Line
  NewPtr : (name : List ℕ) (size : ℕ) → Line
  HLock : (name : List ℕ) → Line
  HPurge : (name : List ℕ) → Line
  HUnlock : (name : List ℕ) → Line
  DisposePtr : (name : List ℕ) → Line

-- The name of a part: of a handle that of its master pointer's address, of another block that of the block's address.
abbrev pub named : ℕ → ℕ → List ℕ
named letter address = letter ∷ hex_text address

abbrev pub name_of : Part → List ℕ
name_of (Relocated master flags size) = named 104 master
name_of (Fixed address size) = named 112 address
name_of (Gap address size) = named 102 address

-- A handle's block is made purgeable, and is unlocked, where the block of the dump is so.
abbrev pub purging : List ℕ → Flags → List Line
purging name flags = if flags.purgeable then HPurge name ∷ [] else []

abbrev pub unlocking : List ℕ → Flags → List Line
unlocking name flags = if flags.locked then [] else HUnlock name ∷ []

-- The calls that make the block of a part above all others. A relocatable block is locked first, so that the next nonrelocatable one
-- stands above it and not below; a nonrelocatable block holds the place of a free one.
abbrev pub making : Part → List Line
making (Relocated master flags size) = NewHandle (named 104 master) size ∷ HLock (named 104 master) ∷ purging (named 104 master) flags
making (Fixed address size) = NewPtr (named 112 address) size ∷ []
making (Gap address size) = NewPtr (named 102 address) size ∷ []

-- The calls after all blocks are made: blocks are unlocked, and what holds the place of a free block is disposed of.
abbrev pub ending : Part → List Line
ending (Relocated master flags size) = unlocking (named 104 master) flags
ending (Fixed address size) = []
ending (Gap address size) = DisposePtr (named 102 address) ∷ []

-- The script of some parts.
abbrev pub lines_of : List Part → List Line
lines_of parts = replicate (more_masters parts) MoreMasters ++ flat_map making parts ++ flat_map ending parts

-- The names of the parts differ: a name is that of none of the parts that follow.
abbrev pub Others : List ℕ → List Part → Type 0
Others name [] = Unit {0}
Others name (p ∷ parts) = (bytes_eq (name_of p) name ≡ false) × Others name parts

abbrev pub NamesDiffer : List Part → Type 0
NamesDiffer [] = Unit {0}
NamesDiffer (p ∷ parts) = Others (name_of p) parts × NamesDiffer parts
