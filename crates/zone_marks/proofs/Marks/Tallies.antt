-- What landmarks know of the blocks of all of them.
use Rattle.zone_marks.proofs.Cited.{AreOfZone, AreMarks, IsTally, between, join_tallies, known_load, next_of, no_mark, tally_of, told, ◌≡◌}
use Rattle.zone_marks.proofs.Cited.{ℕ, ◌+◌, ◌≤◌, ◌<◌, inl, inr, Bool, true, false, ◌&&◌, cond, nat_le, nat_lt, List, [], ◌∷◌, ◌++◌, length}
use Rattle.zone_marks.proofs.Cited.{take, drop, get_or, take-append-drop, refl, sym, ap, ◌∙◌, subst, arith, cases_lt, le-leb, lt-leb}
use Rattle.zone_marks.proofs.Cited.{lt-ltb, take_more, Block, size, sizes, zone_in, IsSound, Landmark, Tally, sizes-length, span-append}
use Rattle.zone_marks.proofs.Cited.{stretch_by, load, Counting, Stretch, Whole, above_all}
use Rattle.zone_marks.specs.declared.landmark.Tally.TheVariants as tally
use Rattle.zone_marks.proofs.Marks.Between.{between-few, between-none, none-above}
use Rattle.zone_marks.proofs.Marks.Lowering.{mark-at, mark-first, marks-below, marks-parted}
use Rattle.zone_marks.proofs.Stretches.Monoid.{counted-none, join-assoc, join-unit_left, join-unit_right, stretch_by-append}
use Rattle.zone_marks.proofs.Stretches.Sums.{load-counted}

-- tallies are joined as what they tell
tallies-left : (t : Tally) → join_tallies (tally.Known (Whole 0)) t ≡ t
tallies-left (tally.Known runs) = ap tally.Known (join-unit_left _)
tallies-left tally.Unknown = refl

tallies-right : (t : Tally) → join_tallies t (tally.Known (Whole 0)) ≡ t
tallies-right (tally.Known runs) = ap tally.Known (join-unit_right _)
tallies-right tally.Unknown = refl

tallies-assoc : (r s t : Tally) → join_tallies (join_tallies r s) t ≡ join_tallies r (join_tallies s t)
tallies-assoc (tally.Known a) (tally.Known b) (tally.Known c) = ap tally.Known (join-assoc a b c)
tallies-assoc (tally.Known a) (tally.Known b) tally.Unknown = refl
tallies-assoc (tally.Known a) tally.Unknown t = refl
tallies-assoc tally.Unknown s t = refl

tally_of-append : (w : Counting) (xs ys : List Landmark)
    → tally_of w (xs ++ ys) ≡ join_tallies (tally_of w xs) (tally_of w ys)
tally_of-append w [] ys = sym (tallies-left _)
tally_of-append w (m ∷ xs) ys = ap (join_tallies (told w m.tally)) (tally_of-append w xs ys)
    ∙ sym (tallies-assoc _ _ _)

pub tally_of-more : (w : Counting) (marks : List Landmark) (i : ℕ) → i < length marks
    → tally_of w (take (i + 1) marks) ≡ join_tallies (tally_of w (take i marks)) (told w (get_or marks i no_mark).tally)
tally_of-more w marks i l = ap (tally_of w) (take_more marks i no_mark l) ∙ tally_of-append w _ _
    ∙ ap (join_tallies (tally_of w (take i marks))) (tallies-right _)

-- where one landmark tells nothing, all of them tell nothing
pub tally_of-unknown : (w : Counting) (marks : List Landmark) (i : ℕ) (s : Stretch) → i < length marks
    → tally_of w (take i marks) ≡ tally.Known s → told w (get_or marks i no_mark).tally ≡ tally.Unknown
    → tally_of w marks ≡ tally.Unknown
tally_of-unknown w marks i s l k u =
    ap (tally_of w) (sym (take-append-drop (i + 1) marks)) ∙ tally_of-append w _ _
    ∙ ap (λ t. join_tallies t (tally_of w (drop (i + 1) marks)))
    (tally_of-more w _ i l ∙ ap (λ t. join_tallies t (told w (get_or marks i no_mark).tally)) k
    ∙ ap (join_tallies (tally.Known s)) u)

-- two stretches, of which one begins where the other ends
between-low : (a b c x : ℕ) (bs : List Block) → a ≤ x → b ≤ x → between a c x bs ≡ between b c x bs
between-low a b c x [] l m = refl
between-low a b c x (k ∷ bs) l m = rw (le-leb a x l) (rw (le-leb b x m)
    (ap (λ q. cond (nat_lt x c) (k ∷ q) q) (between-low a b c (x + size k) bs (omega arith) (omega arith))))

pub between-join : (a b c x : ℕ) (bs : List Block) → a ≤ b → b ≤ c
    → between a c x bs ≡ between a b x bs ++ between b c x bs
between-join a b c x [] l m = refl
between-join a b c x (k ∷ bs) l m = elim (cases_lt x b) [
  | inl h ↦ rw (lt-leb b x h) (rw (lt-ltb x b h) (rw (lt-ltb x c (omega arith))
      (either (nat_le a x) (between-join a b c (x + size k) bs l m))))
  | inr h ↦ between-low a b c x (k ∷ bs) (omega arith) h
      ∙ ap (λ q. q ++ between b c x (k ∷ bs)) (sym (none-above a b x (k ∷ bs) h))
]
  where
    either : (t : Bool) → between a c (x + size k) bs ≡ between a b (x + size k) bs ++ between b c (x + size k) bs
        → cond (t && true) (k ∷ between a c (x + size k) bs) (between a c (x + size k) bs)
        ≡ cond (t && true) (k ∷ between a b (x + size k) bs) (between a b (x + size k) bs) ++ between b c (x + size k) bs
    either true e = ap (λ q. k ∷ q) e
    either false e = e

tally-join : (w : Counting) (s t : Tally) (xs ys : List Block) → IsTally w s xs → IsTally w t ys
    → IsTally w (join_tallies s t) (xs ++ ys)
tally-join w (tally.Known a) (tally.Known b) xs ys e f = grind (arith, stretch_by-append)
tally-join w _ _ xs ys e f = tt

tally-load : (w : Counting) (t : Tally) (xs : List Block) → IsTally w t xs → known_load t ≤ sizes xs
tally-load w (tally.Known stretch) xs e = omega (arith, load-counted, ap load e)
tally-load w tally.Unknown xs e = omega arith

-- what landmarks know together is of the blocks from the first of them to where they end
pub group-tally : (w : Counting) (end : ℕ) (zone : List Block) (marks : List Landmark) → AreMarks end zone marks
    → IsTally w (tally_of w marks) (between (next_of end marks) end 0 zone)
group-tally w end zone [] a = ap (stretch_by w) (between-none _ _ (omega arith) 0 zone) ∙ counted-none w
group-tally w end zone (m ∷ marks) a =
    let o = a.0.order in
    subst (IsTally w _) (grind (arith, between-join, marks-below))
    (tally-join w (told w m.tally) (tally_of w marks) _ _ (a.0.tells w) (group-tally w end zone marks a.1))

-- they hold no more in sum than the zone
pub loads-fit : (w : Counting) (end : ℕ) (zone : List Block) (marks : List Landmark) (i : ℕ) → i < length marks
    → AreMarks end zone marks
    → known_load (tally_of w (take i marks)) + known_load (told w (get_or marks i no_mark).tally) ≤ sizes zone
loads-fit w end zone marks i l a =
    let m = get_or marks i no_mark in
    let at = mark-at end zone marks i no_mark l a in
    let low = subst (λ k. AreMarks k zone (take i marks)) (mark-first end marks i no_mark l)
    (marks-parted _ _ _ i a).0 in
    let from = next_of m.at (take i marks) in
    let to = next_of end (drop (i + 1) marks) in
    omega (
      arith,
      tally-load w _ (between from m.at 0 zone) (group-tally w m.at zone _ low),
      tally-load w _ (between m.at to 0 zone) (at.tells w),
      ap sizes (between-join from m.at to 0 zone (marks-below m.at zone _ low) at.order),
      span-append (between from m.at 0 zone),
      between-few from to 0 zone,
    )

pub marks-of : (xs : List ℕ) (first unused : ℕ) → IsSound xs first unused → (marks : List Landmark)
    → AreMarks above_all (zone_in xs) marks → AreOfZone marks
marks-of xs first unused i marks a = (above_all, zone_in xs, omega (arith, sizes-length), a)
