-- Landmarks that are laid anew, one after another, and by edges which were noted while blocks were moved.
use Rattle.zone_marks.proofs.Cited.{IsMark, AreMarks, AtMost, between, next_of, no_mark, above_all, ◌<◌, set, length-set, ◌≡◌, ℕ, ◌+◌, ◌≤◌}
use Rattle.zone_marks.proofs.Cited.{◌⊎◌, inl, inr, List, [], ◌∷◌, ◌++◌, length, take, drop, max, refl, sym, ap, ◌∙◌, subst, arith, cases_lt}
use Rattle.zone_marks.proofs.Cited.{false≢true, drop_all, drop_more, drop-drop, drop-set, take_more_set, Block, Free, Relocatable, size}
use Rattle.zone_marks.proofs.Cited.{sizes, free_of, Each, Starts, AreEdges, IsMover, ByEdges, IsBare, AreLaid, AtEach, Begins, Landmark}
use Rattle.zone_marks.proofs.Cited.{Edges, counted, join, one, stretch_of, Runs, Whole}
use Rattle.zone_marks.proofs.Marks.Between.{between-append, between-each, between-none, none-below, none-above}
use Rattle.zone_marks.proofs.Marks.Lowering.{mark-begins, mark-first, marks-join, marks-parted}
use Rattle.zone_marks.proofs.Marks.Passing.{at-each, at-append, at-all, begins-left, begins-right, begins-within}
use Rattle.zone_marks.proofs.Stretches.Monoid.{join-unit_left, stretch_of-append}

-- the greater of two places is one of them
pub either-is : (p q r : ℕ) → r ≡ max p q → (r ≡ p) ⊎ (r ≡ q)
either-is p q r e = elim (cases_lt p q) [
  | inl l ↦ inr (omega arith)
  | inr l ↦ inl (omega arith)
]

starts-begins : (p x : ℕ) (blocks : List Block) → Starts p x blocks → Begins p x blocks
starts-begins p x [] s = absurd s
starts-begins p x (b ∷ blocks) (inl e) = inl e
starts-begins p x (b ∷ blocks) (inr s) = inr (starts-begins p (x + size b) blocks s)

-- blocks that may move have no Free byte and end no run
mover-free : (b : Block) → IsMover b → free_of b ≡ 0
mover-free (Free n) m = absurd (false≢true m)
mover-free _ m = refl

mover-one : (b : Block) → IsMover b → one b ≡ Whole 0
mover-one (Relocatable id flags content) m = ap (λ t. counted t 0) m
mover-one _ m = absurd (false≢true m)

movers-bare : (lo hi x : ℕ) (movers : List Block) → Each IsMover movers → AtEach (AtMost 0 lo hi) x movers
movers-bare lo hi x [] m = tt
movers-bare lo hi x (b ∷ movers) m = (λ l h. (omega (arith, mover-free)), movers-bare lo hi (x + size b) movers m.1)

movers-runs : (lo hi x : ℕ) (movers : List Block) → Each IsMover movers → stretch_of (between lo hi x movers) ≡ Whole 0
movers-runs lo hi = between-each lo hi (λ x bs k. Each IsMover bs → stretch_of k ≡ Whole 0) (λ x m. refl)
    (λ x b bs k l h r m. ap (λ s. join s (stretch_of k)) (mover-one b m.0) ∙ join-unit_left _ ∙ r m.1)
    (λ x b bs k o r m. r m.1)

-- blocks that come to nothing in runs, beside others that do
bare-both : (a b : List Block) → stretch_of a ≡ Whole 0 → stretch_of b ≡ Whole 0 → stretch_of (a ++ b) ≡ Whole 0
bare-both a b e f = stretch_of-append a b ∙ ap (λ s. join s (stretch_of b)) e ∙ ap (join (Whole 0)) f

module _ (base : ℕ) (below movers above : List Block) (low : sizes below ≡ base) (solid : Each IsMover movers) where
  abbrev zone : List Block
  zone = below ++ (movers ++ above)

  bare-same : (p q : ℕ) → p ≡ q → IsBare p q zone
  bare-same p q e = grind (arith, at-all, between-none)

  bare-within : (p q : ℕ) → base ≤ p → q ≤ base + sizes movers → IsBare p q zone
  bare-within p q l h =
      let R = AtMost 0 p q in
      let x = 0 + sizes below in (
        at-append R 0 _ _ (at-each R 0 _ (grind arith)) (at-append R x _ _ (movers-bare p q x _ solid)
            (at-all R _ _ (λ y b u. λ m n. absurd (omega arith)))),
        ap stretch_of (between-append p q 0 _ _ ∙ ap (λ k. between p q 0 below ++ k) (between-append p q x _ _))
            ∙ bare-both (between p q 0 below) (between p q x movers ++ between p q (x + sizes movers) above)
            ((none-below p q 0 below (omega arith)).same Runs) (grind (arith, bare-both, movers-runs, none-above)),
      )

-- an edge of the blocks that lie packed
module _ (edges : Edges) (base : ℕ) (zone : List Block) (a : ByEdges edges base zone) (place : ℕ)
    (s : (x : ℕ) (blocks : List Block) → AreEdges edges x blocks → Starts place x blocks) where
  pub edge-begins : Begins place 0 zone
  edge-begins = grind (arith, begins-right, begins-left, starts-begins)

  -- from the bottom of these blocks on nothing else lies up to it
  pub edge-bare : (at edge : ℕ) → (edge ≡ at) ⊎ (edge ≡ place) → base ≤ at → IsBare at edge zone
  edge-bare at edge o l = elim a [
    | inl n ↦ absurd (s base [] n)
    | inr p ↦ subst (IsBare at edge) (sym p.is) (elim o [
      | inl e ↦ bare-same base p.below p.movers p.above p.low p.solid at edge (sym e)
      | inr e ↦ bare-within _ _ _ p.above p.low p.solid _ _ l (let w = (begins-within _ _ _ (starts-begins _ _ _
          (s base p.movers p.edges_are))).1 in omega arith)
    ])
  ]

-- the landmark at an index is to be laid where it is
pub laid-there : (zone : List Block) (marks : List Landmark) (index at : ℕ) → index ≤ length marks
    → at ≡ next_of above_all (drop index marks) → AreMarks above_all zone marks → AreLaid index at zone marks
laid-there zone marks index at l e a =
    let p = marks-parted above_all zone marks index a in
    record {
      below = subst (λ n. AreMarks n zone (take index marks)) (sym e) p.0;
      above = p.1;
      inside = l;
      begins = λ m. subst (λ n. Begins n 0 zone) (sym (e ∙ mark-first _ _ _ no_mark m))
          (mark-begins _ _ _ _ no_mark m a);
      last = λ k. e ∙ ap (next_of above_all) (drop_all index marks (omega arith));
    }

-- one more is laid
pub laid-next : (zone : List Block) (marks : List Landmark) (index at to : ℕ) (m : Landmark)
    → AreLaid index at zone marks → index < length marks → m.at ≡ at → IsMark to zone m
    → (index + 1 < length marks → Begins to 0 zone) → (index + 1 ≡ length marks → to ≡ above_all)
    → AreLaid (index + 1) to zone (set marks index m)
laid-next zone marks index at to m a l e i begins last =
    let n = length-set marks index m in
    let b = marks-join to zone (take index marks) (m ∷ [])
    (subst (λ k. AreMarks k zone (take index marks)) (sym e) a.below) (i, tt) in
    let t = take_more_set marks index m l in
    let d = sym (drop-drop 1 index (set marks index m)) ∙ ap (drop 1) (drop-set marks index m l) in
    let u = (subst (AreMarks above_all zone) (drop_more marks index no_mark l) a.above).1 in
    grind arith
