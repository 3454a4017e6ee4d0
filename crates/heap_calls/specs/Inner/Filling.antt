use Rattle.std.specs.Prelude.{◌≡◌, ℕ, Bool, ◌⊎◌, Option, None, Result, Ok, Err, List, ◌∷◌, ◌++◌}
use Rattle.std.specs.Option.{IfSome}
use Rattle.mac_words.specs.Size.{phys}
use Rattle.block_store.specs.declared.flags.Flags.{Flags}
use Rattle.block_store.specs.Block.{Block, Relocatable, is_relocatable}
use Rattle.block_store.specs.Room.{spot}
use Rattle.heap_calls.specs.State.{State, Resource, Memory}
use Rattle.heap_calls.specs.Inside.{cast, resource_role, new_inside, number_if}
use Rattle.heap_calls.specs.declared.filling.Filling.{Filling}
use Rattle.heap_calls.specs.declared.refusal.Refusal.{Refusal}

-- Blocks with given flags and bytes.

-- n is the number of bytes that the block is to have; or no block can have that number, nor n.
abbrev pub IsSizeOf : ℕ → ℕ → Type 0
IsSizeOf wanted n = (n ≡ wanted) ⊎ ((phys n ≡ None) × (phys wanted ≡ None))

-- The block of a slot has these flags and bytes in place of its own.
abbrev pub IsReplaced : ℕ → Flags → List ℕ → List Block → List Block → Type 0
IsReplaced slot flags x zone zone' = IfSome (spot (is_relocatable slot) zone) (λ s.
    zone' ≡ s.below ++ Relocatable slot flags x ∷ s.above)

-- The heap in which the new handle, if one was made, is a resource's.
abbrev pub owned_by : Bool → Result ℕ Refusal → State → State
owned_by guarded (Ok number) s = cast (λ _. resource_role guarded) number s
owned_by guarded (Err refusal) s = s

-- The flags and the bytes of a resource that is to be made.
abbrev pub wanted_as : Filling → Flags × List ℕ
wanted_as w = (w.flags, w.bytes.now)

-- The next resource was made, or found no room.
abbrev pub IsNext : Flags → List ℕ → Memory → Option ℕ → Memory → Type 0
IsNext flags x old number new = (number_if (new_inside Resource flags x old).0 ≡ number)
    × ((new_inside Resource flags x old).1 ≡ new)
