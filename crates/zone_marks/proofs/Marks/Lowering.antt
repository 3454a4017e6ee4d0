-- Landmarks once a stretch of the zone became another.
use Rattle.zone_marks.proofs.Cited.{stretch_by, length-set, ◌≡◌, ℕ, ◌+◌, ◌-◌, ◌≤◌, ◌<◌, ◌⊎◌, inl, inr, List, [], ◌∷◌, ◌++◌, sym, refl, ap}
use Rattle.zone_marks.proofs.Cited.{◌∙◌, subst, arith, length, take, drop, take-append-drop, get_or, set, replicate, zero, suc, drop_all}
use Rattle.zone_marks.proofs.Cited.{take_more, take-set, drop-set, drop_more, drop-drop, Block, size, sizes, zone_in, IsSound, left_in}
use Rattle.zone_marks.proofs.Cited.{IsOnWay, AtEach, Begins, Replaced, AtMost, AreMarks, AreTold, IsMark, IsTally, Lowered, Measures}
use Rattle.zone_marks.proofs.Cited.{between, next_of, no_mark, Landmark, Tally, Measured, Counting, way-above, left-above, above_all}
use Rattle.zone_marks.proofs.Cited.{GREATEST_ZONE, free_of-le}
use Rattle.zone_marks.specs.declared.landmark.Tally.TheVariants as tally
use Rattle.zone_marks.specs.declared.stretch.Counting.TheVariants as counting
use Rattle.zone_marks.proofs.Marks.Groups.{unknown}
use Rattle.zone_marks.proofs.Marks.Passing.{at-each, at-map, at-append, at-left, at-right, begins-here, begins-left}
use Rattle.zone_marks.proofs.Marks.Passing.{begins-right, begins-either, begins-within, parts}
use Rattle.zone_marks.proofs.Marks.Between.{CountAlike, alike-as, tally-as}
use Rattle.zone_marks.proofs.Marks.Between.{between-append, none-below, none-above, told-both}
use Rattle.zone_marks.proofs.Stretches.Monoid.{stretch_by-append}

-- the first of some landmarks is no higher than where they end
pub marks-below : (end : ℕ) (zone : List Block) (marks : List Landmark) → AreMarks end zone marks → next_of end marks
    ≤ end
marks-below end zone [] a = omega arith
marks-below end zone (m ∷ marks) a = let n = marks-below _ _ marks a.1 in let o = a.0.order in omega arith

-- places that rise still rise once they are lowered
pub lowered-order : (lo hi a b p q : ℕ) → a ≤ b → Lowered lo hi a p → Lowered lo hi b q → p ≤ q
lowered-order lo hi a b p q l m n = grind arith

module _ (lo hi : ℕ) (old new : List Block) (z : Replaced lo hi old new) where
  at-low : Begins lo 0 new
  at-low = let e = begins-here lo (z.there ++ z.above) in grind (arith, begins-right)

  at-high : Begins hi 0 new
  at-high = let e = begins-here hi z.above in let s = z.span in grind (arith, begins-right)

  pub begins-lowered : (at now : ℕ) → Lowered lo hi at now → Begins at 0 old → Begins now 0 new
  begins-lowered at now w b =
      let e = begins-either at 0 z.below (z.here ++ z.above) (subst (Begins at 0) z.was b) in
      grind (arith, begins-either, begins-within, begins-left, begins-right, at-low, at-high)

  -- the bound of a stretch, where it is no less than the blocks that became others
  bound-lowered : (most most' at next at' above : ℕ) → Lowered lo hi at at' → Lowered lo hi next above → most ≤ most'
      → (at' ≤ lo → lo < above → hi - lo ≤ most') → AtEach (AtMost most at next) 0 old
      → AtEach (AtMost most' at' above) 0 new
  bound-lowered most most' at next at' above a n m k e =
      let R = AtMost most at next in
      let S = AtMost most' at' above in
      let w = subst (AtEach R 0) z.was e in
      let s = z.span in
      let r = at-right R (0 + sizes z.below) z.here z.above (at-right R 0 z.below (z.here ++ z.above) w) in
      subst (AtEach S 0) (sym z.is) (at-append S 0 _ _
      (at-map R S 0 _ (λ p b l u. (grind arith)) (at-left R 0 _ _ w)) (at-append S _ _ _
      (at-each S _ _ (λ p b l u. (grind arith))) (at-map R S _ _
      (λ p b l u. (omega arith)) (subst (λ q. AtEach R (0 + sizes z.below + q) z.above) (sym s) r))))

  -- the blocks of a stretch apart from those that became others
  apart-alike : (a c : ℕ) → (hi ≤ a) ⊎ (c ≤ lo) → CountAlike (between a c 0 new) (between a c 0 old)
  apart-alike a c e =
      let h = none z.here (omega arith) in
      let t = none z.there (omega arith) in
      grind (arith, between-append, stretch_by-append)
    where
      none : (blocks : List Block) → sizes blocks ≤ sizes z.here → CountAlike (between a c (0 + sizes z.below) blocks)
          []
      none blocks s = elim e [
        | inl k ↦ none-below a c (0 + sizes z.below) blocks (omega arith)
        | inr k ↦ record { same = λ w. ap (stretch_by w) (none-above a c (0 + sizes z.below) blocks (omega arith)) }
      ]

  -- a landmark is one of the new zone, where its bound is no less than the blocks that became others
  pub mark-lowered : (m now : Landmark) (next above : ℕ) → IsMark next old m → Lowered lo hi m.at now.at
      → Lowered lo hi next above → m.most ≤ now.most → (now.at ≤ lo → lo < above → hi - lo ≤ now.most)
      → AreTold now.tally (between now.at above 0 new) → IsMark above new now
  mark-lowered m now next above i a n l k t =
      let b = bound-lowered m.most now.most m.at next now.at above a n l k i.most in
      grind (arith, begins-lowered, lowered-order)

  -- and stays one, where its stretch is apart from them
  pub mark-apart : (m : Landmark) (next above : ℕ) → (hi ≤ m.at) ⊎ (next ≤ lo) → Lowered lo hi next above
      → IsMark next old m → IsMark above new m
  mark-apart m next above e n i =
      let o = i.order in
      let same : next ≡ above = grind arith in
      mark-lowered m m next above i (grind arith) n (omega arith) (grind arith)
      (subst (λ k. AreTold m.tally (between m.at k 0 new)) same (alike-as _ _ _ (apart-alike _ _ e) i.tells))

  -- so do landmarks above the blocks, and landmarks below them
  pub marks-apart : (end : ℕ) (marks : List Landmark) → (hi ≤ next_of end marks) ⊎ (end ≤ lo) → AreMarks end old marks
      → AreMarks end new marks
  marks-apart end [] e a = tt
  marks-apart end (m ∷ marks) e a =
      let n = marks-below end old marks a.1 in
      let o = a.0.order in
      (mark-apart m _ _ (grind arith) (grind arith) a.0, marks-apart end marks (grind arith) a.1)

-- landmarks of the zone that bytes spell
module _ (xs : List ℕ) (first unused : ℕ) (i : IsSound xs first unused) where
  pub begins-way : (p : ℕ) → Begins p 0 (zone_in xs) → IsOnWay p xs
  begins-way p b = let r = parts p 0 _ b in
      way-above xs first unused i r.below r.above p r.is (omega arith)

  -- the zone is what is below a place and what is left from there on
  pub record Seen (p : ℕ) : Type 0 where
    pub below : List Block
    pub is : zone_in xs ≡ below ++ left_in p xs
    pub low : sizes below ≡ p

  pub seen-from : (p : ℕ) → Begins p 0 (zone_in xs) → Seen p
  seen-from p b =
      let r = parts p 0 (zone_in xs) b in
      let k : sizes r.below ≡ p = omega arith in
      let l = left-above xs first unused i r.below r.above p r.is k in grind arith

  pub begins-further : (p q : ℕ) → Begins p 0 (zone_in xs) → Begins q p (left_in p xs) → Begins q 0 (zone_in xs)
  begins-further p q b e = grind (arith, seen-from, begins-right)

  -- what is known of blocks from a place on
  pub one-here : (w : Counting) (t : Tally) (p to : ℕ) → Begins p 0 (zone_in xs)
      → IsTally w t (between p to p (left_in p xs)) → IsTally w t (between p to 0 (zone_in xs))
  one-here w t p to b e =
      let s = seen-from p b in
      let n = none-below p to 0 s.below (omega arith) in
      tally-as w t _ _ (grind (arith, between-append, stretch_by-append)) e

  -- what walks over the blocks from a place on find makes a landmark there
  pub mark-measured : (at to : ℕ) (m : Measured) (spaces : Tally) → Begins at 0 (zone_in xs) → at ≤ to
      → Measures at to at (left_in at xs) m → IsTally counting.Spaces spaces (between at to at (left_in at xs))
      → IsMark to (zone_in xs)
      (record { at = at; most = m.most; tally = record { runs = tally.Known m.runs; spaces = spaces } })
  mark-measured at to m spaces b o r s =
      let e = r.most in
      let t = told-both _ _ _ (one-here counting.Runs (tally.Known m.runs) at to b r.runs)
      (one-here counting.Spaces spaces at to b s) in
      grind (arith, seen-from, at-append, at-each)

-- landmarks one after another
pub marks-split : (end : ℕ) (zone : List Block) (front back : List Landmark) → AreMarks end zone (front ++ back)
    → AreMarks (next_of end back) zone front × AreMarks end zone back
marks-split end zone [] back a = (tt, a)
marks-split end zone (n ∷ []) back a = ((a.0, tt), a.1)
marks-split end zone (n ∷ k ∷ front) back a = let r = marks-split end zone (k ∷ front) back a.1 in ((a.0, r.0), r.1)

pub marks-join : (end : ℕ) (zone : List Block) (front back : List Landmark) → AreMarks (next_of end back) zone front
    → AreMarks end zone back → AreMarks end zone (front ++ back)
marks-join end zone [] back a b = b
marks-join end zone (n ∷ []) back a b = (a.0, b)
marks-join end zone (n ∷ k ∷ front) back a b = (a.0, marks-join _ _ (k ∷ front) back a.1 b)

-- landmarks in two parts
pub marks-parted : (end : ℕ) (zone : List Block) (marks : List Landmark) (n : ℕ) → AreMarks end zone marks
    → AreMarks (next_of end (drop n marks)) zone (take n marks) × AreMarks end zone (drop n marks)
marks-parted end zone marks n a = marks-split _ _ _ _ (subst (AreMarks end zone) (sym (take-append-drop n marks)) a)

pub marks-whole : (end : ℕ) (zone : List Block) (marks : List Landmark) (n at : ℕ) → at ≡ next_of end (drop n marks)
    → AreMarks at zone (take n marks) → AreMarks end zone (drop n marks) → AreMarks end zone marks
marks-whole end zone marks n at e a b = grind (arith, take-append-drop, marks-join)

-- the landmark at an index, as the first of those from there on
pub mark-first : (end : ℕ) (marks : List Landmark) (i : ℕ) (d : Landmark) → i < length marks
    → next_of end (drop i marks) ≡ (get_or marks i d).at
mark-first end marks i d l = ap (next_of end) (drop_more marks i d l)

-- the landmark at an index
pub mark-at : (end : ℕ) (zone : List Block) (marks : List Landmark) (i : ℕ) (d : Landmark) → i < length marks
    → AreMarks end zone marks → IsMark (next_of end (drop (i + 1) marks)) zone (get_or marks i d)
mark-at end zone marks i d l a = (subst (AreMarks end zone) (drop_more marks i d l) (marks-parted _ _ _ i a).1).0

pub mark-begins : (end : ℕ) (zone : List Block) (marks : List Landmark) (i : ℕ) (d : Landmark) → i < length marks
    → AreMarks end zone marks → Begins (get_or marks i d).at 0 zone
mark-begins end zone marks i d l a = (mark-at end zone marks i d l a).begins

-- landmarks stand in order of place
pub mark-order : (end : ℕ) (zone : List Block) (marks : List Landmark) (i j : ℕ) (d : Landmark) → i ≤ j → j < length marks
    → AreMarks end zone marks → (get_or marks i d).at ≤ (get_or marks j d).at
mark-order end zone [] i j d l k a = absurd (omega (arith, k))
mark-order end zone (m ∷ marks) zero zero d l k a = omega arith
mark-order end zone (m ∷ []) i (suc j) d l k a = absurd (omega (arith, k))
mark-order end zone (m ∷ n ∷ marks) zero (suc j) d l k a = grind (arith, mark-order end zone (n ∷ marks) 0 j d)
mark-order end zone (m ∷ marks) (suc i) (suc j) d l k a = mark-order end zone marks i j d (omega arith) (omega arith) a.1
mark-order end zone (m ∷ marks) (suc i) zero d l k a = absurd (omega (arith, l))

-- so many landmarks from an index on
pub marks-in : (end : ℕ) (zone : List Block) (marks : List Landmark) (low n : ℕ) → AreMarks end zone marks
    → AreMarks (next_of end (drop (low + n) marks)) zone (take n (drop low marks))
marks-in end zone marks low n a = subst (λ k. AreMarks (next_of end k) zone (take n (drop low marks)))
    (drop-drop n low marks) (marks-parted _ _ (drop low marks) n (marks-parted end zone marks low a).1).0

pub next-in : (end : ℕ) (marks : List Landmark) (low n : ℕ)
    → next_of (next_of end (drop (low + n) marks)) (take n (drop low marks)) ≡ next_of end (drop low marks)
next-in end marks low n = ap (λ k. next_of (next_of end k) (take n (drop low marks))) (sym (drop-drop n low marks))
    ∙ of n (drop low marks)
  where
    of : (n : ℕ) (l : List Landmark) → next_of (next_of end (drop n l)) (take n l) ≡ next_of end l
    of zero l = refl
    of (suc n) [] = refl
    of (suc n) (m ∷ l) = refl

-- where blocks end
pub begins-end : (x : ℕ) (blocks : List Block) → Begins (x + sizes blocks) x blocks
begins-end x [] = omega arith
begins-end x (b ∷ blocks) = inr (let e = begins-end (x + size b) blocks in grind arith)

-- nothing known is known of any blocks
pub told-unknown : (blocks : List Block) → AreTold unknown blocks
told-unknown blocks counting.Runs = tt
told-unknown blocks counting.Spaces = tt

-- landmarks that all stand at the bottom, with nothing known
pub unlaid-marks : (zone : List Block) → sizes zone ≤ GREATEST_ZONE → (n : ℕ)
    → AreMarks above_all zone (replicate n (record { at = 0; most = above_all; tally = unknown }))
unlaid-marks zone l zero = tt
unlaid-marks zone l (suc n) = (
  record {
    begins = begins-here 0 zone;
    most = at-each (AtMost above_all 0 _) 0 _ (λ p b _ u _ _. omega (arith, free_of-le));
    tells = told-unknown _;
    order = omega arith;
  },
  unlaid-marks zone l n,
)

-- those below an index are of the zone before some blocks became others, and those from there on of the zone after
pub record Changing (lo hi next above left : ℕ) (new : List Block) (marks : List Landmark) : Type 0 where
  pub inside : left ≤ length marks
  pub old : List Block
  pub changed : Replaced lo hi old new
  pub is : Lowered lo hi next above
  pub low : AreMarks next old (take left marks)
  pub high : AreMarks above_all new (drop left marks)
  pub first : above ≡ next_of above_all (drop left marks)

module _ (lo hi : ℕ) (new : List Block) where
  pub changing-start : (old : List Block) → Replaced lo hi old new → (above left : ℕ) (marks : List Landmark)
      → above ≡ next_of above_all (drop left marks) → hi ≤ next_of above_all (drop left marks)
      → left ≤ length marks → AreMarks above_all old marks → Changing lo hi above above left new marks
  changing-start old z above left marks e u l a =
      let r = marks-parted above_all old marks left a in
      record {
        inside = l;
        old = old;
        changed = z;
        is = inr (refl, inr (omega arith));
        low = subst (λ k. AreMarks k old (take left marks)) (sym e) r.0;
        high = marks-apart lo hi old new z above_all (drop left marks) (inl u) r.1;
        first = e;
      }

  module _ (next above left : ℕ) (marks : List Landmark) (g : Changing lo hi next above left new marks) where
    -- the last of the landmarks of the old zone
    pub last-mark : 0 < left → AreMarks (get_or marks (left - 1) no_mark).at g.old (take (left - 1) marks)
        × IsMark next g.old (get_or marks (left - 1) no_mark)
    last-mark s =
        let r = marks-split _ _ _ (get_or marks (left - 1) no_mark ∷ []) (subst (AreMarks next g.old)
        (ap (λ k. take k marks) (sym (omega arith)) ∙ take_more marks (left - 1) no_mark (omega arith)) g.low) in
        (r.0, r.1.0)

    pub changing-step : 0 < left → (m : Landmark)
        → Lowered lo hi (get_or marks (left - 1) no_mark).at m.at → IsMark above new m
        → Changing lo hi (get_or marks (left - 1) no_mark).at m.at (left - 1) new (set marks (left - 1) m)
    changing-step s m w i =
        let n = length-set marks (left - 1) m in
        let at = (get_or marks (left - 1) no_mark).at in
        let q = drop-set marks (left - 1) m (omega arith) ∙ ap (λ k. m ∷ drop k marks) (omega arith) in
        record {
          inside = omega arith;
          old = g.old;
          changed = g.changed;
          is = w;
          low = subst (AreMarks at g.old) (sym (take-set marks (left - 1) m)) (last-mark s).0;
          high = subst (AreMarks above_all new) (sym q) (subst (λ k. IsMark k new m) g.first i, g.high);
          first = sym (ap (next_of above_all) q);
        }

    -- the landmarks below the stretch aren't gone over
    pub changing-done : (left ≤ 0) ⊎ (above < lo) → AreMarks above_all new marks
    changing-done (inl l) = grind arith
    changing-done (inr b) =
        let w = g.is in
        let same : next ≡ above = grind arith in
        marks-whole _ _ _ _ _ g.first (subst (λ k. AreMarks k new (take left marks)) same
        (marks-apart _ _ _ _ g.changed _ _ (inr (omega arith)) g.low)) g.high

-- where landmarks stand
pub ruleset mark_places = (mark-first, mark-begins, begins-here, drop_all)
