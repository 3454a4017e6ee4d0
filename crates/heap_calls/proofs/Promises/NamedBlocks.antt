use Rattle.heap_calls.proofs.Cited.{◌≡◌, ℕ, Bool, Option, Some, None, Ok, refl, ◌∙◌, ap, slice_get, Block, is_relocatable}
use Rattle.heap_calls.proofs.Cited.{is_nonrelocatable, spot, Meaning, State, Held, pointed, named_block, block_named}
use Rattle.heap_calls.specs.State as names
use Rattle.heap_calls.proofs.Promises.Knowing.{look_up-spot, pointed_at-spot}

-- The block of a handle or a pointer is where its number stands.

pub named-spot : (name : Option ℕ) (s : State) (held : Held) → block_named name s ≡ Ok held
    → (test : Block → Bool) × (spot test s.zone ≡ Some held.at)
named-spot None s held e = cc
named-spot (Some k) s held e = by_name (slice_get s.names k) refl e
  where
    by_name : (o : Option Meaning) → slice_get s.names k ≡ o → named_block k o s ≡ Ok held
        → (test : Block → Bool) × (spot test s.zone ≡ Some held.at)
    by_name None is e = (is_relocatable k, (look_up-spot k s held e).0)
    by_name (Some (names.Handle role)) is e = (is_relocatable k, (look_up-spot k s held e).0)
    by_name (Some names.Pointer) is e =
        (is_nonrelocatable k, (pointed_at-spot k s held (ap (λ (o : Option Meaning). pointed k o s) is ∙ e)).0)
    by_name (Some names.Disposed) is e = (is_relocatable k, (look_up-spot k s held e).0)
