use Rattle.zone_bytes.proofs.Cited.{◌+◌, ◌-◌, ◌≡◌, ◌∷◌, ◌++◌, [], ℕ, List, length, Block, sizes, AreEdges}
use Rattle.zone_bytes.proofs.edges.Edges.pass.Given as goal

abbrev pub invariant-loop-self : goal.invariant-loop-self
invariant-loop-self l = (base : ℕ) (before : List Block) (block : Block) → base + sizes before ≡ l.fn.place
    → AreEdges l.initial.self base before → AreEdges l.self base (before ++ block ∷ [])

abbrev pub decreases-loop-self : goal.decreases-loop-self
decreases-loop-self l = length l.self.places.items - l.self.count
