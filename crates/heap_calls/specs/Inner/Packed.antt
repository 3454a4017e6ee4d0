use Rattle.std.specs.Prelude.{◌≡◌, ℕ}
use Rattle.block_store.specs.Rest.{Rest, IsRest, counted}

-- How many blocks the packing of a store moves down, and that it places none.

-- n blocks were moved down.
abbrev pub Packs : ℕ → Rest → Rest → Type 0
Packs n old new = new.moves ≡ counted old.moves n

-- No block was moved down.
abbrev pub PacksNone : Rest → Rest → Type 0
PacksNone old new = new.moves ≡ old.moves

-- All that a store has beside its blocks is as it was, but for the count of placings.
abbrev pub KeepsAllButPlaced : Rest → Rest → Type 0
KeepsAllButPlaced old new = IsRest (record old { placed = new.placed }) new
