-- Room that is found stretch by stretch.
use Rattle.zone_marks.proofs.Marks.Lowering.{mark-begins, marks-in, next-in, mark-at, seen-from, begins-further}
use Rattle.zone_marks.proofs.Marks.Lowering.{mark-first}
use Rattle.zone_marks.proofs.Cited.{marks_in, AtMost, NoRoom, NoneBelow, AreMarks, AreGroups, RoomAt, next_of, no_group, no_mark, ◌≡◌, ℕ}
use Rattle.zone_marks.proofs.Cited.{true, false, ◌+◌, ◌≤◌, ◌<◌, Option, Some, None, List, [], ◌∷◌, ◌++◌, sym, refl, ap, ◌∙◌, subst, arith}
use Rattle.zone_marks.proofs.Cited.{cond, suc, ◌*◌, length, drop, get_or, rules, drop_all, option_map, IfSome, MatchOption, Block, size}
use Rattle.zone_marks.proofs.Cited.{sizes, is_room, Spot, spot, spot_at, raised, FindsLowest, Apart, apart-tidied, apart-size, spot_at-spot}
use Rattle.zone_marks.proofs.Cited.{zone_in, IsSound, left_in, AtEach, Begins, Group, Landmark, GROUP, sizes-length, above_all}
use Rattle.zone_marks.proofs.Marks.Passing.{at-map, at-all, at-append, at-both, at-left}

filled : (x : ℕ) (blocks : List Block) → Apart blocks → AtEach (λ _ b. 0 < size b) x blocks
filled x [] a = tt
filled x (b ∷ blocks) a = (apart-size b _ a.0, filled (x + size b) blocks a.1)

-- a bound says where no room is
pub bound-room : (most bytes lo hi : ℕ) (x : ℕ) (blocks : List Block) → most < bytes
    → AtEach (AtMost most lo hi) x blocks → AtEach (NoRoom bytes lo hi) x blocks
bound-room most bytes lo hi x blocks l e = grind (arith, at-map)

-- past blocks that are no room
spot-past : (bytes x : ℕ) (below : List Block) (b : Block) (above : List Block)
    → AtEach (λ _ c. is_room bytes c ≡ false) x below → is_room bytes b ≡ true
    → spot (is_room bytes) (below ++ b ∷ above) ≡ Some (record { below = below; here = b; above = above })
spot-past bytes x [] b above n r = grind arith
spot-past bytes x (c ∷ below) b above n r =
    ap (λ v. cond v (Some (record { below = []; here = c; above = below ++ b ∷ above })) (option_map (raised c)
    (spot (is_room bytes) (below ++ b ∷ above)))) n.0
    ∙ ap (option_map (raised c)) (spot-past _ (x + size c) _ b _ n.1 r)

spot-none : (bytes x : ℕ) (blocks : List Block) → AtEach (λ _ c. is_room bytes c ≡ false) x blocks
    → spot (is_room bytes) blocks ≡ None
spot-none bytes x [] n = refl
spot-none bytes x (c ∷ blocks) n = let z = n.0 in let e = spot-none _ (x + size c) blocks n.1 in grind arith

module _ (xs : List ℕ) (first unused : ℕ) (i : IsSound xs first unused) (bytes : ℕ) where
  -- blocks that end where the search begins
  none-below : (below above : List Block) (p : ℕ) → zone_in xs ≡ below ++ above → sizes below ≡ p
      → AtEach (NoRoom bytes 0 p) 0 (zone_in xs) → AtEach (λ _ c. is_room bytes c ≡ false) 0 below
  none-below below above p z l n =
      at-map (λ q c. (0 < size c) × NoRoom bytes 0 p q c) (λ _ c. is_room bytes c ≡ false) 0 _
      (λ q c v u r. let s = r.0 in r.1 (omega arith) (omega arith))
      (at-left (λ q c. (0 < size c) × NoRoom bytes 0 p q c) 0 _ _
      (subst (AtEach (λ q c. (0 < size c) × NoRoom bytes 0 p q c) 0) z
      (at-both (λ _ c. 0 < size c) (NoRoom bytes 0 p) (λ q c. (0 < size c) × NoRoom bytes 0 p q c) 0 _
      (λ q c s r. (s, r)) (filled 0 _ (apart-tidied (zone_in xs) i.tidied)) n)))

  -- one stretch more
  pub none-further : (p to : ℕ) → Begins p 0 (zone_in xs) → AtEach (NoRoom bytes 0 p) 0 (zone_in xs)
      → AtEach (NoRoom bytes p to) p (left_in p xs) → AtEach (NoRoom bytes 0 to) 0 (zone_in xs)
  none-further p to b n e =
      let s = seen-from xs first unused i p b in
      let S = NoRoom bytes 0 to in
      subst (AtEach S 0) (sym s.is) (at-append S 0 _ _
      (at-map (λ _ c. is_room bytes c ≡ false) S 0 _ (λ q c _ _ r _ _. r) (none-below _ _ p s.is s.low n))
      (grind (arith, at-map)))

  pub none-whole : (p to : ℕ) → AtEach (NoRoom bytes 0 p) 0 (zone_in xs) → AtEach (NoRoom bytes p to) 0 (zone_in xs)
      → AtEach (NoRoom bytes 0 to) 0 (zone_in xs)
  none-whole p to n e = grind (arith, at-both)

  -- the lowest one
  pub lowest-found : (p place : ℕ) → Begins p 0 (zone_in xs) → AtEach (NoRoom bytes 0 p) 0 (zone_in xs)
      → Begins place p (left_in p xs) → AtEach (NoRoom bytes p place) p (left_in p xs) → RoomAt bytes place xs
      → FindsLowest (is_room bytes) (zone_in xs) (Some place)
  lowest-found p place b n e f r =
      let s = seen-from xs first unused i place (begins-further xs first unused i p place b e) in
      let t : Spot = record { below = s.below; here = r.here; above = r.above } in
      let found = ap (spot (is_room bytes)) (s.is ∙ ap (λ k. s.below ++ k) r.is) ∙ spot-past bytes 0 s.below r.here
      r.above (none-below s.below (left_in place xs) place s.is s.low (none-further p place b n f)) r.room in (
        t,
        found,
        subst (λ q. spot_at q (zone_in xs) ≡ Some t) s.low (spot_at-spot (is_room bytes) _ t (apart-tidied (zone_in xs)
            i.tidied) found),
        s.low,
      )

  -- and where there is none
  pub none-found : AtEach (NoRoom bytes 0 above_all) 0 (zone_in xs) → spot (is_room bytes) (zone_in xs) ≡ None
  none-found n = spot-none _ 0 _ (at-map (NoRoom bytes 0 above_all) (λ _ c. is_room bytes c ≡ false) 0 _
      (grind (arith, sizes-length)) n)

  pub nothing-below : AtEach (NoRoom bytes 0 0) 0 (zone_in xs)
  nothing-below = at-all (NoRoom bytes 0 0) 0 (zone_in xs) (λ q c _ _ h. absurd (omega arith))

-- what an answer gives, where another is known of it
pub if-none : (o : Option ℕ) (A B : Type 0) → (A → B) → MatchOption o A (λ _. Unit {0}) → MatchOption o B (λ _. Unit {0})
if-none None A B f a = f a
if-none (Some p) A B f a = tt

pub if-three : (o : Option ℕ) (P Q R S : ℕ → Type 0) → ((p : ℕ) → P p → Q p → R p → S p) → IfSome o P → IfSome o Q
    → IfSome o R → IfSome o S
if-three None P Q R S f p q r = tt
if-three (Some n) P Q R S f p q r = f n p q r

-- the stretch of a landmark that notes less
pub stretch-room : (bytes : ℕ) (zone : List Block) (marks : List Landmark) (index : ℕ) → index < length marks
    → AreMarks above_all zone marks → (get_or marks index no_mark).most < bytes
    → AtEach (NoRoom bytes (get_or marks index no_mark).at (next_of above_all (drop (index + 1) marks))) 0 zone
stretch-room bytes zone marks index u a l =
    bound-room _ _ _ _ 0 _ l (mark-at _ _ marks index no_mark u a).most

-- no room lies in the zone, once none lies below any landmark
pub none-past : (bytes : ℕ) (zone : List Block) (marks : List Landmark) (index : ℕ) → length marks ≤ index
    → NoneBelow bytes zone marks index → AtEach (NoRoom bytes 0 above_all) 0 zone
none-past bytes zone marks index l n = grind (arith, drop_all)

module _ (xs : List ℕ) (first unused : ℕ) (i : IsSound xs first unused) (bytes : ℕ) where
  -- over landmarks that note less
  none-along : (end : ℕ) (marks : List Landmark) → AreMarks end (zone_in xs) marks
      → ((j : ℕ) → j < length marks → (get_or marks j no_mark).most < bytes)
      → AtEach (NoRoom bytes 0 (next_of end marks)) 0 (zone_in xs) → AtEach (NoRoom bytes 0 end) 0 (zone_in xs)
  none-along end [] a f n = n
  none-along end (m ∷ marks) a f n = none-along end marks a.1 (λ j l. f (suc j) (omega arith))
      (none-whole _ _ _ i bytes _ _ n (bound-room _ _ _ _ 0 _ (f 0 (omega arith)) a.0.most))

  -- over one landmark that notes less
  pub none-next : (marks : List Landmark) → AreMarks above_all (zone_in xs) marks → (index : ℕ)
      → index < length marks → (get_or marks index no_mark).most < bytes
      → NoneBelow bytes (zone_in xs) marks index → NoneBelow bytes (zone_in xs) marks (index + 1)
  none-next marks a index u l n = none-whole _ _ _ i _ _ _ (grind (arith, mark-first)) (stretch-room _ _ _ _ u a l)

  -- over a group whose top is less
  pub none-group : (marks : List Landmark) → AreMarks above_all (zone_in xs) marks → (groups : List Group)
      → AreGroups groups marks → (group : ℕ) → group < length groups → (get_or groups group no_group).most < bytes
      → NoneBelow bytes (zone_in xs) marks (GROUP * group) → NoneBelow bytes (zone_in xs) marks (GROUP * (group + 1))
  none-group marks a groups t group u l n = subst (NoneBelow bytes (zone_in xs) marks) (search rules)
      (none-along _ (marks_in group marks) (marks-in above_all (zone_in xs) marks (GROUP * group) GROUP a)
      (λ j k. omega (arith, (t.each group u).most j k, l)) (subst (λ k. AtEach (NoRoom bytes 0 k) 0 (zone_in xs))
      (sym (next-in above_all marks (GROUP * group) GROUP)) n))

-- what a search stretch by stretch owes
pub ruleset room_steps = (stretch-room, mark-begins)
