use Rattle.heap_calls.proofs.Cited.{◌≡◌, ℕ, ◌+◌, ◌-◌, ◌≤◌, ◌<◌, zero, suc, Bool, true, false, not, ◌==◌, List, [], ◌∷◌, ◌++◌, refl, sym}
use Rattle.heap_calls.proofs.Cited.{◌∙◌, ap, subst, cond, arith, Option, Some, None, is_some, nat_le, append_assoc, option_map}
use Rattle.heap_calls.proofs.Cited.{IfSome, IsSome, IsSomeAnd, IsTrue, none-some, same_Some, cond-true, cond-false, or_parts, le-leb}
use Rattle.heap_calls.proofs.Cited.{leb-true, nat_tests, IsMost, enough_above, padded}
use Rattle.heap_calls.proofs.Cited.{phys, Block, Free, Nonrelocatable, Masters, Relocatable, size, sizes, free_sum, free_of, free, is_room}
use Rattle.heap_calls.proofs.Cited.{add, tidy, resized, has, has_free, in_run, movers, low, with_run, RunSpot, run_raised, run_at, run_from}
use Rattle.heap_calls.proofs.Cited.{segments, Segments, joined, Stretch, Spot, raised, spot, spot_at, may_be_purged, lowest_purged, purge}
use Rattle.heap_calls.proofs.Cited.{count_of, growth, taken, grow_up, beyond, least_or_last, spared, is_same, run_above, purges_for}
use Rattle.heap_calls.proofs.Cited.{Sparing, seen, Seen, total-tidy, has-tidy, total-append, Apart, apart-tidied, apart-tidy, tidy-apart}
use Rattle.heap_calls.proofs.Cited.{apart-size, apart-next, barrier-alone, apart-above, joined-segments, joined-is, length-resized}
use Rattle.heap_calls.proofs.Cited.{some_and, is_some-map, spot_at-below, barrier-size, none-lowest_purged, room_at}
use Rattle.heap_calls.proofs.Cited.{above_taken, pushed_up}
use Rattle.std.proofs.lemmas.List.{append-nil}
use Rattle.moves.specs.Moves as moves
use Rattle.heap_calls.proofs.Room.Searching.{count-le}
use Rattle.heap_calls.proofs.Same.Growing.{same-resized}
use Rattle.heap_calls.proofs.Numbering.Changing.{spot_at-is}

-- Growth of a block where it stands.

-- the block above the one at a place
pub room-above : (d place : ℕ) (zone : List Block) (s : Spot) → spot_at place zone ≡ Some s → 0 < size s.here
    → room_at d (spot_at (place + size s.here) zone) ≡ is_some (taken d s.above)
room-above d place [] s e pos = absurd (none-some _ e)
room-above d place (b ∷ above) s e pos = cases (place == 0) refl (nat_le (size b) place) refl
    (spot_at (place - size b) above) refl (λ s is pos. room-above d (place - size b) above s is pos) e
  where
    raised-room : (o : Option Spot) → room_at d (option_map (raised b) o) ≡ room_at d o
    raised-room None = refl
    raised-room (Some s) = refl

    bottom : (above : List Block) → room_at d (spot_at 0 above) ≡ is_some (taken d above)
    bottom [] = refl
    bottom (x ∷ above) = either (is_room d x)
      where
        either : (t : Bool) → t ≡ is_some (cond t (Some (free (size x - d) ++ above)) None)
        either true = refl
        either false = refl

    next : (n : ℕ) → 0 < n → place ≤ n → size b ≤ n → spot_at n (b ∷ above)
        ≡ option_map (raised b) (spot_at (n - size b) above)
    next n pos le fits = cond-false (n == 0) _ _ (grind (arith, nat_tests))
        ∙ cond-true (nat_le (size b) n) _ _ (le-leb (size b) n fits)

    cases : (t : Bool) → (place == 0) ≡ t → (u : Bool) → nat_le (size b) place ≡ u → (o : Option Spot)
        → spot_at (place - size b) above ≡ o
        → ((s : Spot) → spot_at (place - size b) above ≡ Some s → 0 < size s.here
        → room_at d (spot_at (place - size b + size s.here) above) ≡ is_some (taken d s.above))
        → cond t (Some (record { below = []; here = b; above = above })) (cond u (option_map (raised b) o) None)
        ≡ Some s → room_at d (spot_at (place + size s.here) (b ∷ above)) ≡ is_some (taken d s.above)
    cases true at u fits o is rest e =
        let zero_place : place ≡ 0 = grind (arith, nat_tests, at) in
        let same : size b ≡ size s.here = ap (λ (s : Spot). size s.here) (same_Some _ _ e) in
        ap (room_at d) (next (place + size s.here) (omega (arith, pos)) (omega arith) (omega (arith, same)))
        ∙ raised-room (spot_at (place + size s.here - size b) above)
        ∙ ap (λ n. room_at d (spot_at n above)) (let z : place + size s.here - size b
        ≡ 0 = omega (arith, zero_place, same) in z)
        ∙ bottom above ∙ ap (λ (s : Spot). is_some (taken d s.above)) (same_Some _ _ e)
    cases false at false fits o is rest e = absurd (none-some _ e)
    cases false at true fits None is rest e = absurd (none-some _ e)
    cases false at true fits (Some s') is rest e =
        let same : size s'.here ≡ size s.here = ap (λ (s : Spot). size s.here) (same_Some _ _ e) in
        let le : size b ≤ place = leb-true (size b) place fits in
        ap (room_at d) (next (place + size s.here) (omega (arith, pos)) (omega arith) (omega (arith, le)))
        ∙ raised-room (spot_at (place + size s.here - size b) above)
        ∙ ap (λ n. room_at d (spot_at n above)) (let z : place + size s.here - size b
        ≡ place - size b + size s'.here = omega (arith, same, le) in z)
        ∙ rest s' is (omega (arith, same, pos))
        ∙ ap (λ (s : Spot). is_some (taken d s.above)) (same_Some _ _ e)

-- a spot doesn't see what is above it
pub spot_at-above : (place : ℕ) (zone : List Block) (s : Spot) → spot_at place zone ≡ Some s → (above : List Block)
    → spot_at place (s.below ++ s.here ∷ above) ≡ Some (record { below = s.below; here = s.here; above = above })
spot_at-above place [] s e xs = absurd (none-some _ e)
spot_at-above place (b ∷ above) s e xs = cases (place == 0) refl (nat_le (size b) place) refl
    (spot_at (place - size b) above) refl (λ s is. spot_at-above (place - size b) above s is xs) e
  where
    cases : (t : Bool) → (place == 0) ≡ t → (u : Bool) → nat_le (size b) place ≡ u → (o : Option Spot)
        → spot_at (place - size b) above ≡ o
        → ((s : Spot) → spot_at (place - size b) above ≡ Some s → spot_at (place - size b) (s.below ++ s.here ∷ xs)
        ≡ Some (record { below = s.below; here = s.here; above = xs }))
        → cond t (Some (record { below = []; here = b; above = above })) (cond u (option_map (raised b) o) None)
        ≡ Some s → spot_at place (s.below ++ s.here ∷ xs) ≡ Some
        (record { below = s.below; here = s.here; above = xs })
    cases true at u fits o is rest e =
        let P : Spot → Type 0 = λ s. spot_at place (s.below ++ s.here ∷ xs)
        ≡ Some (record { below = s.below; here = s.here; above = xs }) in
        subst P (same_Some _ _ e) (cond-true (place == 0) _ _ at)
    cases false at false fits o is rest e = absurd (none-some _ e)
    cases false at true fits None is rest e = absurd (none-some _ e)
    cases false at true fits (Some s') is rest e =
        let P : Spot → Type 0 = λ s. spot_at place (s.below ++ s.here ∷ xs)
        ≡ Some (record { below = s.below; here = s.here; above = xs }) in
        subst P (same_Some _ _ e) (cond-false (place == 0) _ _ at ∙ cond-true (nat_le (size b) place) _ _ fits
        ∙ ap (option_map (raised b)) (rest s' is))

-- a block that ends a run
abbrev pub ends_run : Block → Bool
ends_run b = not (in_run b)

no_free : (n : ℕ) → ends_run (Free n) ≡ false
no_free n = refl

pub first-beyond : (zone : List Block) → zone ≡ (segments zone).first ++ beyond (segments zone).rest
first-beyond zone = sym (joined-segments zone) ∙ joined-is (segments zone).first (segments zone).rest

-- no block of the first run ends it
first-run : (zone : List Block) → has ends_run (segments zone).first ≡ false
first-run [] = refl
first-run (b ∷ above) = cases (in_run b) refl (segments above) (first-run above)
  where
    cases : (t : Bool) → in_run b ≡ t → (s : Segments) → has ends_run s.first ≡ false
        → has ends_run (cond {A = Segments} t (record { first = b ∷ s.first; rest = s.rest })
        (record { first = []; rest = record { barrier = b; run = s.first } ∷ s.rest })).first ≡ false
    cases true is s none = rw (is, none) refl
    cases false is s none = refl

-- what is beyond the first run has no run before its first barrier
segments-beyond : (zone : List Block) → segments (beyond (segments zone).rest)
    ≡ record { first = []; rest = (segments zone).rest }
segments-beyond [] = refl
segments-beyond (b ∷ above) = cases (in_run b) refl (segments-beyond above)
  where
    put : Bool → Segments → Segments
    put t s = cond t (record { first = b ∷ s.first; rest = s.rest })
        (record { first = []; rest = record { barrier = b; run = s.first } ∷ s.rest })

    cases : (t : Bool) → in_run b ≡ t → segments (beyond (segments above).rest)
        ≡ record { first = []; rest = (segments above).rest } → segments (beyond (put t (segments above)).rest)
        ≡ record { first = []; rest = (put t (segments above)).rest }
    cases true is rest = rest
    cases false is rest = ap (λ z. put (in_run b) (segments z)) (joined-segments above)
        ∙ ap (λ t. put t (segments above)) is

-- another run in place of the first
segments-run : (run above : List Block) → has ends_run run ≡ false
    → segments (run ++ above) ≡ record { first = run ++ (segments above).first; rest = (segments above).rest }
segments-run [] above none = refl
segments-run (b ∷ run) above none = cases (in_run b) (or_parts (ends_run b) (has ends_run run) none)
    (segments-run run above)
  where
    cases : (t : Bool) → (not t ≡ false) × (has ends_run run ≡ false)
        → (has ends_run run ≡ false → segments (run ++ above) ≡ record {
          first = run
              ++ (segments above).first;
          rest = (segments above).rest;
        })
        → cond {A = Segments} t (record {
          first = b ∷ (segments (run ++ above)).first;
          rest =
              (segments (run ++ above)).rest;
        }) (record {
          first = [];
          rest =
              record { barrier = b; run = (segments (run ++ above)).first } ∷ (segments (run ++ above)).rest;
        })
        ≡ record { first = b ∷ (run ++ (segments above).first); rest = (segments above).rest }
    cases true parts more = ap (λ (s : Segments). record { first = b ∷ s.first; rest = s.rest }) (more parts.1)
    cases false parts more = let f : true ≡ false = parts.0 in cc

pub segments-other : (run zone : List Block) → has ends_run run ≡ false
    → segments (run ++ beyond (segments zone).rest) ≡ record { first = run; rest = (segments zone).rest }
segments-other run zone none =
    segments-run run (beyond (segments zone).rest) none
    ∙ ap (λ (s : Segments). record { first = run ++ s.first; rest = s.rest }) (segments-beyond zone)
    ∙ ap (λ l. record { first = l; rest = (segments zone).rest }) (append-nil run)

-- the run that begins above a block that ends one
run_at-bottom : (run : List Block) (parts : List Stretch) → run_from 0 run parts
    ≡ Some (record { below = []; run = run; above = beyond parts })
run_at-bottom run [] = refl
run_at-bottom run (p ∷ parts) = refl

run_from-more : (x : Block) (place : ℕ) (run : List Block) (parts : List Stretch) → 0 < place
    → run_from (size x + place) (x ∷ run) parts ≡ option_map (run_raised (x ∷ [])) (run_from place run parts)
run_from-more x place run [] pos =
    cond-false (size x + place == 0) _ _ (grind (arith, nat_tests))
    ∙ sym (ap (option_map (run_raised (x ∷ []))) (cond-false (place == 0) _ _ (grind (arith, nat_tests))))
run_from-more x place run (p ∷ parts) pos =
    cond-false (size x + place == 0) _ _ (grind (arith, nat_tests))
    ∙ same (nat_le (size x + sizes (run ++ p.barrier ∷ [])) (size x + place))
    (nat_le (sizes (run ++ p.barrier ∷ [])) place) (grind (arith, nat_tests))
    ∙ sym (ap (option_map (run_raised (x ∷ []))) (cond-false (place == 0) _ _ (grind (arith, nat_tests))))
  where
    raise-both : (o : Option RunSpot) → option_map (run_raised (x ∷ (run ++ p.barrier ∷ []))) o
        ≡ option_map (run_raised (x ∷ [])) (option_map (run_raised (run ++ p.barrier ∷ [])) o)
    raise-both None = refl
    raise-both (Some r) = refl

    same : (t u : Bool) → t ≡ u → cond t (option_map (run_raised (x ∷ (run ++ p.barrier ∷ [])))
        (run_from (size x + place - (size x + sizes (run ++ p.barrier ∷ []))) p.run parts)) None
        ≡ option_map (run_raised (x ∷ [])) (cond u (option_map (run_raised (run ++ p.barrier ∷ []))
        (run_from (place - sizes (run ++ p.barrier ∷ [])) p.run parts)) None)
    same true true e =
        ap (λ n. option_map (run_raised (x ∷ (run ++ p.barrier ∷ []))) (run_from n p.run parts))
        (let z : size x + place - (size x + sizes (run ++ p.barrier ∷ []))
        ≡ place - sizes (run ++ p.barrier ∷ []) = omega arith in z)
        ∙ raise-both (run_from (place - sizes (run ++ p.barrier ∷ [])) p.run parts)
    same false false e = refl
    same true false e = let f : true ≡ false = e in cc
    same false true e = let f : false ≡ true = e in cc

run_from-past : (x : Block) (place : ℕ) (run : List Block) (parts : List Stretch) → 0 < size x + place
    → run_from (size x + place) [] (record { barrier = x; run = run } ∷ parts)
    ≡ option_map (run_raised (x ∷ [])) (run_from place run parts)
run_from-past x place run parts pos =
    cond-false (size x + place == 0) _ _ (grind (arith, nat_tests))
    ∙ cond-true (nat_le (size x + 0) (size x + place)) _ _ (le-leb (size x + 0) (size x + place) (omega arith))
    ∙ ap (λ n. option_map (run_raised (x ∷ [])) (run_from n run parts))
    (let z : size x + place - (size x + 0) ≡ place = omega arith in z)

run_at-more : (x : Block) (place : ℕ) (zone : List Block) → 0 < place
    → run_at (size x + place) (x ∷ zone) ≡ option_map (run_raised (x ∷ [])) (run_at place zone)
run_at-more x place zone pos = cases (in_run x)
  where
    put : Bool → Segments
    put t = cond t (record { first = x ∷ (segments zone).first; rest = (segments zone).rest })
        (record { first = []; rest = record { barrier = x; run = (segments zone).first } ∷ (segments zone).rest })

    cases : (t : Bool) → run_from (size x + place) (put t).first (put t).rest
        ≡ option_map (run_raised (x ∷ [])) (run_at place zone)
    cases true = run_from-more x place (segments zone).first (segments zone).rest pos
    cases false = run_from-past x place (segments zone).first (segments zone).rest (omega (arith, pos))

pub run_at-above : (below : List Block) (b : Block) (above : List Block) → in_run b ≡ false → 0 < size b
    → run_at (sizes below + size b) (below ++ b ∷ above) ≡ Some
    (record { below = below ++ b ∷ []; run = (segments above).first; above = beyond (segments above).rest })
run_at-above [] b above ends pos =
    ap (λ (s : Segments). run_from (0 + size b) s.first s.rest) (put (in_run b) ends)
    ∙ ap (λ n. run_from n [] (record { barrier = b; run = (segments above).first } ∷ (segments above).rest))
    (let z : 0 + size b ≡ size b + 0 = omega arith in z)
    ∙ run_from-past b 0 (segments above).first (segments above).rest (omega (arith, pos))
    ∙ ap (option_map (run_raised (b ∷ []))) (run_at-bottom (segments above).first (segments above).rest)
  where
    put : (t : Bool) → t ≡ false → cond {A = Segments} t (record
        { first = b ∷ (segments above).first; rest = (segments above).rest })
        (record { first = []; rest = record { barrier = b; run = (segments above).first } ∷ (segments above).rest })
        ≡ record { first = []; rest = record { barrier = b; run = (segments above).first } ∷ (segments above).rest }
    put true e = let f : true ≡ false = e in cc
    put false e = refl
run_at-above (x ∷ below) b above ends pos =
    ap (λ n. run_at n (x ∷ (below ++ b ∷ above))) (let z : size x + sizes below + size b
    ≡ size x + (sizes below + size b) = omega arith in z)
    ∙ run_at-more x (sizes below + size b) (below ++ b ∷ above) (omega (arith, pos))
    ∙ ap (option_map (run_raised (x ∷ []))) (run_at-above below b above ends pos)

-- What is packed upward.

-- blocks that don't begin with one of a run
abbrev Ended : List Block → Type 0
Ended [] = Unit {0}
Ended (b ∷ above) = in_run b ≡ false

free-alone : (n : ℕ) (above : List Block) → Ended above → add (Free (suc n)) above ≡ Free (suc n) ∷ above
free-alone n [] e = refl
free-alone n (Free m ∷ above) e = let f : true ≡ false = e in cc
free-alone n (Nonrelocatable id content ∷ above) e = refl
free-alone n (Masters ∷ above) e = refl
free-alone n (Relocatable id flags content ∷ above) e = refl

add-front : (b : Block) (xs above : List Block) → Ended above → add b (xs ++ above) ≡ add b xs ++ above
add-front (Free zero) xs above e = refl
add-front (Free (suc n)) [] above e = free-alone n above e
add-front (Free (suc n)) (Free m ∷ xs) above e = refl
add-front (Free (suc n)) (Nonrelocatable id content ∷ xs) above e = refl
add-front (Free (suc n)) (Masters ∷ xs) above e = refl
add-front (Free (suc n)) (Relocatable id flags content ∷ xs) above e = refl
add-front (Nonrelocatable id content) xs above e = refl
add-front Masters xs above e = refl
add-front (Relocatable id flags content) xs above e = refl

tidy-front : (xs above : List Block) → Ended above → tidy above ≡ above → tidy (xs ++ above) ≡ tidy xs ++ above
tidy-front [] above ended tidied = tidied
tidy-front (x ∷ xs) above ended tidied = ap (add x) (tidy-front xs above ended tidied)
    ∙ add-front x (tidy xs) above ended

-- what is below a block that ends a run stays apart, whatever is above it
kept-below : (below : List Block) (b : Block) (above : List Block) → in_run b ≡ false → Apart (below ++ b ∷ above)
    → (xs : List Block) → tidy (below ++ b ∷ xs) ≡ below ++ b ∷ tidy xs
kept-below [] b above ends a xs = barrier-alone b (tidy xs) ends
kept-below (c ∷ []) b above ends a xs = ap (add c) (barrier-alone b (tidy xs) ends) ∙ apart-next c b above (tidy xs) a.0
kept-below (c ∷ d ∷ below) b above ends a xs = ap (add c) (kept-below (d ∷ below) b above ends a.1 xs)
    ∙ apart-next c d (below ++ b ∷ above) (below ++ b ∷ tidy xs) a.0

beyond-ended : (zone : List Block) → Ended (beyond (segments zone).rest)
beyond-ended [] = tt
beyond-ended (b ∷ above) = cases (in_run b) refl (segments above) (beyond-ended above)
  where
    cases : (t : Bool) → in_run b ≡ t → (s : Segments) → Ended (beyond s.rest)
        → Ended (beyond (cond {A = Segments} t (record { first = b ∷ s.first; rest = s.rest })
        (record { first = []; rest = record { barrier = b; run = s.first } ∷ s.rest })).rest)
    cases true is s e = e
    cases false is s e = is

beyond-tidy : (zone : List Block) → Apart zone → tidy (beyond (segments zone).rest) ≡ beyond (segments zone).rest
beyond-tidy zone a = tidy-apart (beyond (segments zone).rest)
    (apart-above (segments zone).first (beyond (segments zone).rest) (subst Apart (first-beyond zone) a))

-- no block above the first run goes while one of it may
lowest_purged-front : (k : ℕ) (sp : Block → Bool) (xs above : List Block) → k ≤ count_of sp xs
    → lowest_purged k sp (xs ++ above) ≡ lowest_purged k sp xs ++ above
lowest_purged-front zero sp xs above le = refl
lowest_purged-front (suc k) sp [] above le = absurd (let z : suc k ≤ 0 = le in omega arith)
lowest_purged-front (suc k) sp (b ∷ xs) above le = cases (may_be_purged sp b) le (lowest_purged-front k sp xs above)
    (lowest_purged-front (suc k) sp xs above)
  where
    cases : (t : Bool) → suc k ≤ cond {A = ℕ} t 1 0 + count_of sp xs
        → (k ≤ count_of sp xs → lowest_purged k sp (xs ++ above) ≡ lowest_purged k sp xs ++ above)
        → (suc k ≤ count_of sp xs → lowest_purged (suc k) sp (xs ++ above) ≡ lowest_purged (suc k) sp xs ++ above)
        → cond t (Free (size b) ∷ lowest_purged k sp (xs ++ above)) (b ∷ lowest_purged (suc k) sp (xs ++ above))
        ≡ cond t (Free (size b) ∷ lowest_purged k sp xs) (b ∷ lowest_purged (suc k) sp xs) ++ above
    cases true le less same = ap (λ l. Free (size b) ∷ l) (less (let z : suc k ≤ 1 + count_of sp xs = le in
        omega arith))
    cases false le less same = ap (λ l. b ∷ l) (same (let z : suc k ≤ 0 + count_of sp xs = le in omega arith))

-- a packed run is tidy
tidy-movers : (run : List Block) (n : ℕ) → tidy (movers run ++ free n) ≡ movers run ++ free n
tidy-movers [] zero = refl
tidy-movers [] (suc n) = refl
tidy-movers (Free m ∷ run) n = tidy-movers run n
tidy-movers (Nonrelocatable id content ∷ run) n = tidy-movers run n
tidy-movers (Masters ∷ run) n = tidy-movers run n
tidy-movers (Relocatable id flags content ∷ run) n = cases (not flags.locked) (tidy-movers run n)
  where
    cases : (t : Bool) → tidy (movers run ++ free n) ≡ movers run ++ free n
        → tidy (cond t (Relocatable id flags content ∷ movers run) (movers run) ++ free n)
        ≡ cond t (Relocatable id flags content ∷ movers run) (movers run) ++ free n
    cases true e = ap (λ l. Relocatable id flags content ∷ l) e
    cases false e = e

-- d Free bytes below others are taken
taken-added : (d : ℕ) → 0 < d → (above : List Block) → Apart above → taken d (add (Free d) above) ≡ Some above
taken-added zero pos above a = absurd (let z : 0 < 0 = pos in omega arith)
taken-added (suc d) pos above a = cases above a
  where
    all : (n : ℕ) (bs : List Block) → n ≡ suc d → cond (nat_le (suc d) n) (Some (free (n - suc d) ++ bs)) None ≡ Some bs
    all n bs e = cond-true (nat_le (suc d) n) _ _ (le-leb (suc d) n (omega (arith, e)))
        ∙ ap (λ m. Some (free m ++ bs)) (let z : n - suc d ≡ 0 = omega (arith, e) in z)

    some : (m : ℕ) (bs : List Block) → 0 < m → free m ++ bs ≡ Free m ∷ bs
    some zero bs pos = absurd (let z : 0 < 0 = pos in omega arith)
    some (suc m) bs pos = refl

    cases : (above : List Block) → Apart above → taken (suc d) (add (Free (suc d)) above) ≡ Some above
    cases [] a = all (suc d) [] refl
    cases (Free m ∷ above) a =
        let pos : 0 < m = apart-size (Free m) above a.0 in
        cond-true (nat_le (suc d) (suc d + m)) _ _ (le-leb (suc d) (suc d + m) (omega arith))
        ∙ ap (λ n. Some (free n ++ above)) (let z : suc d + m - suc d ≡ m = omega arith in z)
        ∙ ap Some (some m above pos)
    cases (Nonrelocatable id content ∷ above) a = all (suc d) (Nonrelocatable id content ∷ above) refl
    cases (Masters ∷ above) a = all (suc d) (Masters ∷ above) refl
    cases (Relocatable id flags content ∷ above) a = all (suc d) (Relocatable id flags content ∷ above) refl

-- a block that ends a run, in a tidy zone
module _ (below : List Block) (b : Block) (above : List Block) (ends : in_run b ≡ false) (pos : 0 < size b)
    (apart : Apart (below ++ b ∷ above)) where
  high : Apart above
  high = apart-above (b ∷ []) above (apart-above below (b ∷ above) apart)

  -- the run above it, after k of its blocks went
  abbrev pub run_left : ℕ → (Block → Bool) → List Block
  run_left k sp = purge k sp (segments above).first

  pub run_left-is : (k : ℕ) (sp : Block → Bool) → has ends_run (run_left k sp) ≡ false
  run_left-is k sp = has-tidy ends_run no_free (lowest_purged k sp (segments above).first)
      ∙ none-lowest_purged ends_run sp no_free k (segments above).first (first-run above)

  -- the zone after k of them went
  pub after-purge : (k : ℕ) (sp : Block → Bool) → k ≤ count_of sp (segments above).first
      → tidy (below ++ b ∷ lowest_purged k sp above) ≡ below ++ b ∷ (run_left k sp ++ beyond (segments above).rest)
  after-purge k sp le =
      kept-below below b above ends apart (lowest_purged k sp above)
      ∙ ap (λ l. below ++ b ∷ tidy l) (ap (lowest_purged k sp) (first-beyond above)
      ∙ lowest_purged-front k sp (segments above).first (beyond (segments above).rest) le)
      ∙ ap (λ l. below ++ b ∷ l) (tidy-front (lowest_purged k sp (segments above).first) (beyond (segments above).rest)
      (beyond-ended above) (beyond-tidy above high))

  -- the run above it then
  pub run-then : (k : ℕ) (sp : Block → Bool) → run_at (sizes below + size b)
      (below ++ b ∷ (run_left k sp ++ beyond (segments above).rest))
      ≡ Some (record { below = below ++ b ∷ []; run = run_left k sp; above = beyond (segments above).rest })
  run-then k sp =
      run_at-above below b (run_left k sp ++ beyond (segments above).rest) ends pos
      ∙ ap (λ (s : Segments). Some (record { below = below ++ b ∷ []; run = s.first; above = beyond s.rest }))
      (segments-other (run_left k sp) above (run_left-is k sp))

  -- without d bytes it stays tidy
  above_taken-tidy : (d k : ℕ) (sp : Block → Bool) → tidy ((movers (run_left k sp)
      ++ free (free_sum (run_left k sp) - d)) ++ beyond (segments above).rest)
      ≡ above_taken d (run_left k sp) (segments above).rest
  above_taken-tidy d k sp =
      tidy-front (movers (run_left k sp) ++ free (free_sum (run_left k sp) - d)) (beyond (segments above).rest)
      (beyond-ended above) (beyond-tidy above high)
      ∙ ap (λ l. l ++ beyond (segments above).rest) (tidy-movers (run_left k sp) (free_sum (run_left k sp) - d))
      ∙ sym (joined-is (movers (run_left k sp) ++ free (free_sum (run_left k sp) - d)) (segments above).rest)

  -- the zone after that run was packed upward
  pub after-raise : (d k : ℕ) (sp : Block → Bool) → tidy (with_run (low (Free d))
      (record { below = below ++ b ∷ []; run = run_left k sp; above = beyond (segments above).rest })) ≡ below
      ++ b ∷ pushed_up d k sp above
  after-raise d k sp =
      ap tidy (append_assoc (below ++ b ∷ []) (low (Free d) (run_left k sp)) (beyond (segments above).rest)
      ∙ append_assoc below (b ∷ []) (low (Free d) (run_left k sp) ++ beyond (segments above).rest))
      ∙ kept-below below b above ends apart (low (Free d) (run_left k sp) ++ beyond (segments above).rest)
      ∙ ap (λ l. below ++ b ∷ add (Free d) l) (above_taken-tidy d k sp)

  -- the Free bytes are there to be taken
  pub then-taken : (d k : ℕ) (sp : Block → Bool) → 0 < d → taken d (pushed_up d k sp above)
      ≡ Some (above_taken d (run_left k sp) (segments above).rest)
  then-taken d k sp some = taken-added d some (above_taken d (run_left k sp) (segments above).rest)
      (subst Apart (above_taken-tidy d k sp) (apart-tidy ((movers (run_left k sp)
      ++ free (free_sum (run_left k sp) - d)) ++ beyond (segments above).rest)))

-- what holds of a spot
pub some_spot : (o : Option Spot) → IsSome o → (s : Spot) × (o ≡ Some s)
some_spot None p = let f : false ≡ true = p in cc
some_spot (Some s) p = (s, refl)

pub spot_if : (o : Option Spot) (s : Spot) (P : Spot → Type 0) → o ≡ Some s → IfSome o P → P s
spot_if o s P e p = let Q : Option Spot → Type 0 = λ o. IfSome o P in subst Q e p

pub same_spot : (o : Option Spot) (s : Spot) (P : Spot → Type 0) → o ≡ Some s → IsSomeAnd o P → P s
same_spot o s P e p = let Q : Option Spot → Type 0 = λ o. IsSomeAnd o P in subst Q e p

pub some_if : (o : Option Spot) (s : Spot) (P : Spot → Type 0) → o ≡ Some s → P s → IfSome o P
some_if o s P e p = let Q : Option Spot → Type 0 = λ o. IfSome o P in subst Q (sym e) p

pub seen-some : (o : Option Spot) (x : Seen) → option_map (λ (s : Spot). seen s.here) o ≡ Some x → (s : Spot)
    × (o ≡ Some s) × (x ≡ seen s.here)
seen-some None x e = absurd (none-some _ e)
seen-some (Some s) x e = (s, refl, sym (same_Some _ _ e))

-- the bytes up to the end of a block
pub spot-small : (place : ℕ) (zone : List Block) (s : Spot) → spot_at place zone ≡ Some s
    → place + size s.here ≤ sizes zone
spot-small place zone s e =
    let all : sizes zone ≡ sizes s.below + (size s.here + sizes s.above) = ap sizes (spot_at-is place zone s e)
    ∙ total-append size s.below (s.here ∷ s.above) in
    omega (arith, spot_at-below place zone s e)

-- the run above the block at a place, which was emptied so far that it has d Free bytes
module _ (place : ℕ) (zone : List Block) (tidied : tidy zone ≡ zone) (s : Spot) (at : spot_at place zone ≡ Some s)
    (ends : in_run s.here ≡ false) (k : ℕ) (sp : Block → Bool) (le : k ≤ count_of sp (segments s.above).first)
    (zone' : List Block) (emptied' : zone' ≡ tidy (s.below ++ s.here ∷ lowest_purged k sp s.above)) (d : ℕ) where
  apart-at : Apart (s.below ++ s.here ∷ s.above)
  apart-at = subst Apart (spot_at-is place zone s at) (apart-tidied zone tidied)

  run-at : run_at (place + size s.here) zone' ≡ Some (record {
    below = s.below
        ++ s.here ∷ [];
    run = purge k sp (segments s.above).first;
    above = beyond (segments s.above).rest;
  })
  run-at =
      ap (run_at (place + size s.here)) (emptied' ∙ after-purge s.below s.here s.above ends (barrier-size s.here ends)
      apart-at k sp le)
      ∙ ap (λ n. run_at (n + size s.here) (s.below ++ s.here ∷ (purge k sp (segments s.above).first
      ++ beyond (segments s.above).rest))) (sym (spot_at-below place zone s at))
      ∙ run-then s.below s.here s.above ends (barrier-size s.here ends) apart-at k sp

  pub raise-allowed : has_free d (purge k sp (segments s.above).first) ≡ true
      → IsSomeAnd (run_at (place + size s.here) zone') (λ r. IsTrue (has_free d r.run))
  raise-allowed has = let Q : Option RunSpot → Type 0 = λ o. IsSomeAnd o (λ r. IsTrue (has_free d r.run)) in
      subst Q (sym run-at) has

  pub raised-is : (after : List Block) → IfSome (run_at (place + size s.here) zone')
      (λ r. after ≡ tidy (with_run (low (Free d)) r)) → after ≡ s.below ++ s.here ∷ pushed_up d k sp s.above
  raised-is after h =
      let Q : Option RunSpot → Type 0 = λ o. IfSome o (λ r. after ≡ tidy (with_run (low (Free d)) r)) in
      let is : after ≡ tidy (with_run (low (Free d)) (record {
        below = s.below
            ++ s.here ∷ [];
        run = purge k sp (segments s.above).first;
        above = beyond (segments s.above).rest;
      })) = subst
      Q run-at h in
      is ∙ after-raise s.below s.here s.above ends (barrier-size s.here ends) apart-at d k sp

-- a block above which k blocks were emptied, so that the run there has d Free bytes
pub record PurgedAbove (place taken d k : ℕ) (sp : Block → Bool) (zone zone' : List Block) : Type 0 where
  pub s : Spot
  pub at : spot_at place zone ≡ Some s
  pub size_is : taken ≡ size s.here
  pub left : zone' ≡ tidy (s.below ++ s.here ∷ lowest_purged k sp s.above)
  pub allowed : IsSomeAnd (run_at (place + taken) zone') (λ r. IsTrue (has_free d r.run))
  pub raised : (after : List Block)
      → IfSome (run_at (place + taken) zone') (λ r. after ≡ tidy (with_run (low (Free d)) r))
      → IfSome (spot_at place zone) (λ s. after ≡ s.below ++ s.here ∷ pushed_up d k sp s.above)

pub purged_above : (place taken d k : ℕ) (sp : Block → Bool) (zone zone' : List Block) → tidy zone ≡ zone
    → IsSomeAnd (spot_at place zone) (λ s. (in_run s.here ≡ false) × (taken ≡ size s.here))
    → IsSomeAnd (spot_at place zone) (λ s. (k ≤ count_of sp (segments s.above).first)
    × (has_free d (purge k sp (segments s.above).first) ≡ true))
    → IfSome (spot_at place zone) (λ s. zone' ≡ tidy (s.below ++ s.here ∷ lowest_purged k sp s.above))
    → PurgedAbove place taken d k sp zone zone'
purged_above place taken d k sp zone zone' tidied still room done =
    let stays = some_and (spot_at place zone) _ still in
    let s : Spot = stays.0 in
    let Has : Spot → Type 0 = λ s. (k ≤ count_of sp (segments s.above).first)
    × (has_free d (purge k sp (segments s.above).first) ≡ true) in
    let has : Has s = same_spot (spot_at place zone) s Has stays.1 room in
    let left = spot_if (spot_at place zone) s (λ s. zone' ≡ tidy (s.below ++ s.here ∷ lowest_purged k sp s.above))
    stays.1
    done in
    let Allowed : ℕ → Type 0 = λ n. IsSomeAnd (run_at (place + n) zone') (λ r. IsTrue (has_free d r.run)) in
    record {
      s = s;
      at = stays.1;
      size_is = stays.2.1;
      left = left;
      allowed = subst Allowed (sym stays.2.1)
          (raise-allowed place zone tidied s stays.1 stays.2.0 k sp has.0 zone' left d has.1);
      raised = λ after raised.
          let Raised : ℕ → Type 0 = λ n. IfSome (run_at (place + n) zone')
          (λ r. after ≡ tidy (with_run (low (Free d)) r)) in
          some_if (spot_at place zone) s (λ s. after ≡ s.below ++ s.here ∷ pushed_up d k sp s.above) stays.1
          (raised-is place zone tidied s stays.1 stays.2.0 k sp has.0 zone' left d after
          (subst Raised stays.2.1 raised));
    }

-- a run has d Free bytes, or doesn't
pub has_free-purged : (d k : ℕ) (sp : Block → Bool) (run : List Block)
    → has_free d (purge k sp run) ≡ has_free d (lowest_purged k sp run)
has_free-purged d k sp run = ap (nat_le d) (total-tidy free_of (λ n m. refl) (lowest_purged k sp run))

-- a block that grows comes to the size that is wanted
pub resized-size : (n : ℕ) (b : Block) → size b < size (resized n b) → size (resized n b) ≡ padded n
resized-size n (Free m) less = absurd (let z : m < m = less in omega arith)
resized-size n (Nonrelocatable id content) less = ap padded (length-resized n content)
resized-size n Masters less = absurd (let z : 272 < 272 = less in omega arith)
resized-size n (Relocatable id flags content) less = ap padded (length-resized n content)

-- the Free bytes right above serve
pub up-allowed : (new : Block) (s : Spot) → is_some (taken (growth new s) s.above) ≡ true → IsSome (grow_up new s)
up-allowed new s e = is_some-map (λ above. s.below ++ new ∷ above) (taken (growth new s) s.above) ∙ e

pub up-made : (new : Block) (s : Spot) (zone' : List Block) → is_some (taken (growth new s) s.above) ≡ true
    → IfSome (grow_up new s) (λ after. zone' ≡ after) → grow_up new s ≡ Some zone'
up-made new s zone' e h = cases (grow_up new s) (up-allowed new s e) h
  where
    cases : (o : Option (List Block)) → is_some o ≡ true → IfSome o (λ after. zone' ≡ after) → o ≡ Some zone'
    cases None is h = let f : false ≡ true = is in cc
    cases (Some after) is h = ap Some (sym h)

-- or don't
pub not-up : (new : Block) (s : Spot) → is_some (taken (growth new s) s.above) ≡ false
    → is_some (grow_up new s) ≡ false
not-up new s e = is_some-map (λ above. s.below ++ new ∷ above) (taken (growth new s) s.above) ∙ e

-- the spot after the run above it was packed upward
abbrev pub pushed : ℕ → ℕ → (Block → Bool) → Spot → Spot
pushed d k sp s = record { below = s.below; here = s.here; above = pushed_up d k sp s.above }

module _ (place : ℕ) (zone : List Block) (tidied : tidy zone ≡ zone) (s : Spot) (at : spot_at place zone ≡ Some s)
    (ends : in_run s.here ≡ false) (k : ℕ) (sp : Block → Bool) (new : Block) (less : size s.here < size new) where
  up-pushed : grow_up new (pushed (growth new s) k sp s) ≡ Some
      (s.below ++ new ∷ above_taken (growth new s) (purge k sp (segments s.above).first) (segments s.above).rest)
  up-pushed =
      ap (option_map (λ above. s.below ++ new ∷ above))
      (then-taken s.below s.here s.above ends (barrier-size s.here ends)
      (subst Apart (spot_at-is place zone s at) (apart-tidied zone tidied)) (growth new s) k sp
      (omega (arith, less)))

  pub pushed-allowed : IsSome (grow_up new (pushed (growth new s) k sp s))
  pushed-allowed = ap is_some up-pushed

  -- the zone is that in which the block grew into the run
  pub pushed-made : (zone' : List Block) → IfSome (grow_up new (pushed (growth new s) k sp s)) (λ after. zone' ≡ after)
      → (grow_up new (pushed (growth new s) k sp s) ≡ Some zone') × (zone' ≡ moves.pushed k sp new s)
  pushed-made zone' h =
      let Q : Option (List Block) → Type 0 = λ o. IfSome o (λ after. zone' ≡ after) in
      let is : zone' ≡ moves.pushed k sp new s = subst Q up-pushed h in
      (up-pushed ∙ ap Some (sym is), is)

-- what a look at the run above a spot tells, and the least number of purges in it that gives d Free bytes
pub above-seen : (d k most : ℕ) (n : Sparing) (o : Option Spot) (r : Bool) → IsMost most n o
    → IfSome o (λ s. r ≡ has_free d (lowest_purged k (spared n) (segments s.above).first)) → r ≡ enough_above d k n o
above-seen d k most n None r is h = absurd is
above-seen d k most n (Some s) r is h = h ∙ sym (has_free-purged d k (spared n) (segments s.above).first)

pub above-least : (d k most : ℕ) (n : Sparing) (o : Option Spot)
    → IfSome o (λ s. most ≡ count_of (spared n) (segments s.above).first)
    → k ≡ least_or_last (λ j. enough_above d j n o) most
    → IfSome o (λ s. k ≡ purges_for (has_free d) (spared n) (segments s.above).first)
above-least d k most n None all e = tt
above-least d k most n (Some s) all e = e ∙ ap (least_or_last (λ j. enough_above d j n (Some s))) all

pub above-there : (d k : ℕ) (n : Sparing) (o : Option Spot) (r : Bool) → r ≡ enough_above d k n o
    → IfSome o (λ s. r ≡ has_free d (run_above k (spared n) s))
above-there d k n None r e = tt
above-there d k n (Some s) r e = e

-- no more blocks go from the run above a place than the zone has bytes
pub most-above : (place : ℕ) (n : Sparing) (zone : List Block) (most : ℕ) → IsMost most n (spot_at place zone)
    → most ≤ sizes zone
most-above place n zone most h =
    let sp = spared n in
    let found = some_and (spot_at place zone) (λ s. most ≡ count_of sp (segments s.above).first) h in
    let s : Spot = found.0 in
    let is : most ≡ count_of sp (segments s.above).first = found.2 in
    let a : sizes zone ≡ sizes (s.below ++ s.here ∷ s.above) = ap sizes (spot_at-is place zone s found.1) in
    let b : sizes (s.below ++ s.here ∷ s.above) ≡ sizes s.below + sizes (s.here ∷ s.above) =
    total-append size s.below (s.here ∷ s.above) in
    let c : sizes (joined (segments s.above).first (segments s.above).rest) ≡ sizes s.above =
    ap sizes (joined-segments s.above) in
    let d : sizes (joined (segments s.above).first (segments s.above).rest)
    ≡ sizes ((segments s.above).first ++ beyond (segments s.above).rest) =
    ap sizes (joined-is (segments s.above).first (segments s.above).rest) in
    let e : sizes ((segments s.above).first ++ beyond (segments s.above).rest)
    ≡ sizes (segments s.above).first + sizes (beyond (segments s.above).rest) =
    total-append size (segments s.above).first (beyond (segments s.above).rest) in
    omega (arith, is, count-le sp (segments s.above).first, a, b, c, d, e)

-- what is known of a block that is to grow: where it is, by how much, and whether the Free block right above it serves
pub record Grows (place : ℕ) (zone : List Block) (n more : ℕ) (up : Bool) : Type 0 where
  pub s : Spot
  pub at : spot_at place zone ≡ Some s
  pub here : spot (is_same (resized n s.here)) zone ≡ Some s
  pub ends : in_run s.here ≡ false
  pub less : size s.here < size (resized n s.here)
  pub more_is : more ≡ growth (resized n s.here) s
  pub up_is : up ≡ is_some (taken (growth (resized n s.here) s) s.above)

pub grows : (place : ℕ) (zone : List Block) (n bytes wanted : ℕ) (up : Bool)
    → IsSomeAnd (spot_at place zone) (λ s. in_run s.here ≡ false)
    → IsSomeAnd (spot_at place zone) (λ s. spot (is_same s.here) zone ≡ Some s)
    → IsSomeAnd (spot_at place zone) (λ s. size s.here < size (resized n s.here))
    → IfSome (spot_at place zone) (λ s. bytes ≡ size s.here) → wanted ≡ padded n
    → up ≡ room_at (wanted - bytes) (spot_at (place + bytes) zone) → Grows place zone n (wanted - bytes) up
grows place zone n bytes wanted up still lowest more is size_is up_is =
    let found = some_and (spot_at place zone) (λ s. in_run s.here ≡ false) still in
    let s = found.0 in
    let less : size s.here < size (resized n s.here) = same_spot (spot_at place zone) s
    (λ s. size s.here < size (resized n s.here)) found.1 more in
    let here : bytes ≡ size s.here = spot_if (spot_at place zone) s (λ s. bytes ≡ size s.here) found.1 is in
    let new : wanted ≡ size (resized n s.here) = size_is ∙ sym (resized-size n s.here less) in
    let by : wanted - bytes ≡ growth (resized n s.here) s = ap (λ n. n - bytes) new
    ∙ ap (λ m. size (resized n s.here) - m) here in
    record {
      s = s;
      at = found.1;
      here = ap (λ t. spot t zone) (same-resized n s.here)
          ∙ same_spot (spot_at place zone) s (λ s. spot (is_same s.here) zone ≡ Some s) found.1 lowest;
      ends = found.2;
      less = less;
      more_is = by;
      up_is = up_is ∙ ap (λ d. room_at d (spot_at (place + bytes) zone)) by
          ∙ ap (λ m. room_at (growth (resized n s.here) s) (spot_at (place + m) zone)) here
          ∙ room-above (growth (resized n s.here) s) place zone s found.1 (barrier-size s.here found.2);
    }

-- what a spot is
pub spot_and : (o : Option Spot) (s : Spot) (P : Spot → Type 0) → o ≡ Some s → P s → IsSomeAnd o P
spot_and o s P e p = let Q : Option Spot → Type 0 = λ o. IsSomeAnd o P in subst Q (sym e) p

-- a content that a block can have
pub phys-fits : (n : ℕ) → IsSome (phys n) → n ≤ 2147483616
phys-fits n is = cases (nat_le n 2147483616) refl is
  where
    cases : (t : Bool) → nat_le n 2147483616 ≡ t → is_some (cond t (Some (padded n)) None) ≡ true → n ≤ 2147483616
    cases true e is = leb-true n 2147483616 e
    cases false e is = let f : false ≡ true = is in cc
