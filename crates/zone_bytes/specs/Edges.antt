-- Edges of blocks that are noted while the blocks are moved, and landmarks that are laid by them.
use Rattle.std.specs.Prelude.{◌≡◌, ℕ, ◌+◌, ◌<◌, ◌⊎◌, true, List, [], ◌∷◌, ◌++◌, get_or}
use Rattle.block_store.specs.Block.{Block, size, sizes, is_mover}
use Rattle.zone_bytes.specs.Layout.{Each}
use Rattle.zone_bytes.specs.declared.edges.Edges.{Edges}

-- One of the blocks from the place `at` on begins at `place`.
abbrev pub Starts : ℕ → ℕ → List Block → Type 0
Starts place at [] = ⊥
Starts place at (b ∷ above) = (place ≡ at) ⊎ Starts place (at + size b) above

-- One of the blocks from the place `at` on begins at each edge.
-- See decision 150 (packing notes edges, and landmarks are laid by them).
abbrev pub AreEdges : Edges → ℕ → List Block → Type 0
AreEdges edges at blocks = (number : ℕ) → number < edges.count → Starts (get_or edges.places.items number 0) at blocks

-- Where blocks that end at `place` had the edges `old`, these and `blocks` above them have the edges `new`.
abbrev pub Noted : Edges → Edges → ℕ → List Block → Type 0
Noted old new place blocks = (base : ℕ) (before : List Block) → base + sizes before ≡ place →
    AreEdges old base before → AreEdges new base (before ++ blocks)

abbrev pub IsMover : Block → Type 0
IsMover b = is_mover b ≡ true

-- Movable blocks lie one after another from the place `base` on, and some of them begin at the edges.
pub record ArePacked (edges : Edges) (base : ℕ) (zone : List Block) : Type 0 where
  pub below : List Block
  pub movers : List Block
  pub above : List Block
  pub is : zone ≡ below ++ (movers ++ above)
  pub low : sizes below ≡ base
  pub solid : Each IsMover movers
  pub edges_are : AreEdges edges base movers

-- There are no edges, or the edges are of blocks that lie packed from `base` on.
abbrev pub ByEdges : Edges → ℕ → List Block → Type 0
ByEdges edges base zone = AreEdges edges base [] ⊎ ArePacked edges base zone
