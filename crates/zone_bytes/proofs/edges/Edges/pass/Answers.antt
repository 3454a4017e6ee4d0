use Rattle.zone_bytes.proofs.Cited.{◌≡◌, ℕ, ◌+◌, ◌<◌, inl, inr, List, [], rules, ◌∷◌, ◌++◌, length, get_or, set, arith, Block, size, sizes}
use Rattle.zone_bytes.proofs.Cited.{Starts, AreEdges, Edges}
use Rattle.zone_bytes.proofs.edges.Edges.pass.Goals as goal

-- where blocks begin
starts-left : (p x : ℕ) (below above : List Block) → Starts p x below → Starts p x (below ++ above)
starts-left p x [] above s = absurd s
starts-left p x (b ∷ below) above (inl e) = inl e
starts-left p x (b ∷ below) above (inr s) = inr (starts-left p (x + size b) below above s)

starts-last : (p x : ℕ) (before : List Block) (block : Block) → x + sizes before ≡ p → Starts p x (before ++ block ∷ [])
starts-last p x [] block e = inl (omega arith)
starts-last p x (b ∷ before) block e = inr (starts-last p (x + size b) before block (omega arith))

edges-more : (e : Edges) (base : ℕ) (below above : List Block) → AreEdges e base below
    → AreEdges e base (below ++ above)
edges-more e base below above a n l = starts-left _ _ _ _ (a n l)

-- one more edge
edges-next : (e : Edges) (place base : ℕ) (blocks : List Block) → e.count < length e.places.items
    → Starts place base blocks → AreEdges e base blocks → (n : ℕ) → n < e.count + 1
    → Starts (get_or (set e.places.items e.count place) n 0) base blocks
edges-next e place base blocks l s a n u = search rules

pub loop-self-init : goal.loop-self-init
loop-self-init c = λ base before block e a. edges-more c.args.self.now base before (block ∷ []) a

pub loop-self-preserved : goal.loop-self-preserved
loop-self-preserved c = grind (arith, edges-next, starts-last)
