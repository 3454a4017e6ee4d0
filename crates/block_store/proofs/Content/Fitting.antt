use Rattle.block_store.proofs.Cited.{ℕ, ◌≤◌, Option, None, Some, IsSomeAnd, IsTrue, size, is_room, Spot}
use Rattle.block_store.proofs.Zone.Spots.{room-size}

-- The entry at a place, and a block that fits into it.

-- a Free block has room
pub room-fits : (p : ℕ) (o : Option Spot) → IsSomeAnd o (λ s. IsTrue (is_room p s.here))
    → IsSomeAnd o (λ s. p ≤ size s.here)
room-fits p None room = absurd room
room-fits p (Some s) room = room-size p s.here room
