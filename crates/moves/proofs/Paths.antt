use Rattle.moves.proofs.Cited.{◌≡◌, ℕ, ◌+◌, Bool, true, false, List, [], ◌∷◌, ◌++◌, refl, sym, ◌∙◌, ap, cond, arith, is_some, append_assoc}
use Rattle.moves.proofs.Cited.{Block, Masters, purge, Move, Search, Purge, Base, Did, untouched, and_then, moved, one, did, Sought, no_room}
use Rattle.moves.proofs.Cited.{sought, purges_for, seek, seek_slot, then_seek, around}

-- A path and then another does what the two do; what is known of each move of a path.

-- nothing, and then more
pub untouched-then : (zone : List Block) (d : Did) → and_then (untouched zone) d ≡ d
untouched-then zone d =
    let s : 0 + d.searches ≡ d.searches = omega arith in
    let l : 0 + d.lowered ≡ d.lowered = omega arith in
    λ i. record { zone = d.zone; searches = s i; lowered = l i; gone = d.gone }

-- three things, one after the other
then-assoc : (a b c : Did) → and_then (and_then a b) c ≡ and_then a (and_then b c)
then-assoc a b c =
    let s : a.searches + b.searches + c.searches ≡ a.searches + (b.searches + c.searches) = omega arith in
    let l : a.lowered + b.lowered + c.lowered ≡ a.lowered + (b.lowered + c.lowered) = omega arith in
    let g = append_assoc a.gone b.gone c.gone in
    λ i. record { zone = c.zone; searches = s i; lowered = l i; gone = g i }

pub did-append : (spared : Block → Bool) (p q : List Move) (zone : List Block)
    → did spared (p ++ q) zone ≡ and_then (did spared p zone) (did spared q (did spared p zone).zone)
did-append spared [] q zone = sym (untouched-then zone (did spared q zone))
did-append spared (m ∷ p) q zone =
    let now = one spared m zone in
    ap (and_then now) (did-append spared p q now.zone)
    ∙ sym (then-assoc now (did spared p now.zone) (did spared q (did spared p now.zone).zone))

-- what must be known of each move of a path, in the zone in which it is made
abbrev pub Along : (Move → List Block → Type 0) → (Block → Bool) → List Move → List Block → Type 0
Along M spared [] zone = Unit {0}
Along M spared (m ∷ path) zone = M m zone × Along M spared path (one spared m zone).zone

module _ (M : Move → List Block → Type 0) (spared : Block → Bool)
  where
    pub along-append : (a b : List Move) (zone : List Block) → Along M spared a zone
        → Along M spared b (did spared a zone).zone → Along M spared (a ++ b) zone
    along-append [] b zone first later = later
    along-append (m ∷ a) b zone first later = (first.0, along-append a b (one spared m zone).zone first.1 later)

    -- a search that is made in one case
    pub along-if : (t : Bool) (r : Sought) (zone : List Block) → Along M spared r.path zone
        → Along M spared (cond t r no_room).path zone
    along-if true r zone all = all
    along-if false r zone all = tt

    -- a path after a search, where room was found
    pub along-then : (first : Sought) (next : List Block → Sought) (zone : List Block) → Along M spared first.path zone
        → ((z : List Block) → Along M spared (next z).path z)
        → Along M spared (then_seek spared zone first next).path zone
    along-then first next zone before each = cases first.found
      where
        more : Sought
        more = next (did spared first.path zone).zone

        cases : (t : Bool) → Along M spared
            (cond t (record { found = more.found; path = first.path ++ more.path }) first).path zone
        cases true = along-append first.path more.path zone before (each (did spared first.path zone).zone)
        cases false = before

    pub along-later : (later : List Move) (r : Sought) (zone : List Block) → Along M spared r.path zone
        → (r.found ≡ true → Along M spared later (did spared r.path zone).zone)
        → Along M spared (around [] later r).path zone
    along-later later r zone before after = cases r.found after
      where
        cases : (t : Bool) → (t ≡ true → Along M spared later (did spared r.path zone).zone)
            → Along M spared (cond t (r.path ++ later) r.path) zone
        cases true after = along-append r.path later zone before (after refl)
        cases false after = before

module _ (M : Move → List Block → Type 0) (spared : Block → Bool) (searches : (n : ℕ) (z : List Block) → M (Search n) z)
    (purges : (k : ℕ) (z : List Block) → M (Purge k) z)
  where
    pub along-sought : (k : ℕ) (found : Bool) (taking : List Move) (zone : List Block)
        → (found ≡ true → Along M spared taking zone) → Along M spared (sought k found taking).path zone
    along-sought k true taking zone all = (searches (k + 1) zone, all refl)
    along-sought k false taking zone all = (searches (k + 1) zone, tt)

    pub along-seek : (m : Move) → ((z : List Block) → M m z) → (zone : List Block)
        → Along M spared (seek m spared zone).path zone
    along-seek m each zone =
        let k = purges_for (λ z. is_some (moved spared m z)) spared zone in
        along-sought k (is_some (moved spared m (purge k spared zone))) (Purge k ∷ m ∷ []) zone
        (λ found. (purges k zone, (each (purge k spared zone), tt)))

    pub along-slot : ((z : List Block) → M (Base Masters) z) → (unused : Bool) (zone : List Block)
        → Along M spared (seek_slot unused spared zone).path zone
    along-slot each true zone = tt
    along-slot each false zone = along-seek (Base Masters) each zone
