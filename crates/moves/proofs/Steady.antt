use Rattle.moves.proofs.Cited.{◌≡◌, ℕ, ◌+◌, ◌-◌, ◌≤◌, Bool, true, false, List, [], ◌∷◌, ◌++◌, refl, sym, ◌∙◌, ap, arith, cond, Option, Some}
use Rattle.moves.proofs.Cited.{None, option_map, unwrap_or, option_and_then, cond-false, option_and_then_some, written, Block, Free, size}
use Rattle.moves.proofs.Cited.{sizes, total, free, free_sum, count, is_mover, is_relocatable, content_of, with_content, in_run, segments}
use Rattle.moves.proofs.Cited.{joined, movers, Spot, spot, filled, put_in_place, put_at_base, growth, grow_up, grow_mover, beyond, OneRun}
use Rattle.moves.proofs.Cited.{one-run, Alike, stands, locks, unlocked-run, sizes-free, sizes-movers, alike-then, alike-append, alike-cons}
use Rattle.moves.proofs.Cited.{alike-heads, alike-refl, alike-purged, alike-put, alike-based, alike-moved, alike-grown_up, alike-filled}
use Rattle.moves.proofs.Cited.{alike-freed, purged-le, filtered, freely, spot-is, total-append, joined-segments, joined-is, segments-loose}
use Rattle.moves.proofs.Cited.{Move, Search, Purge, Put, Base, Grow, Extend, Push, Cut, Drop, Write, is_same, pushed, run_above, rewritten}
use Rattle.moves.proofs.Cited.{one, did}
use Rattle.moves.proofs.Conserved.{same-free}
use Rattle.moves.proofs.Paths.{Along}

-- A path leaves the lowest block that is seen where it is: one that no run has, so one that is locked or never moves.

module _ (seen : Block → Bool) (rigid : (b : Block) → in_run b ≡ true → seen b ≡ false) (spared : Block → Bool)
  where
    -- a block at the spot of the one that it becomes
    abbrev AtSpot : (Block → Bool) → (Spot → Type 0) → List Block → Type 0
    AtSpot test says zone = (s : Spot) → spot test zone ≡ Some s → says s

    -- what must be known of a move in a zone
    abbrev pub Stays : Move → List Block → Type 0
    Stays (Put new) zone = seen new ≡ false
    Stays (Base new) zone = seen new ≡ false
    Stays (Grow new) zone = (seen new ≡ false) × ((b : Block) → is_same new b ≡ true → seen b ≡ false)
        × (count (is_same new) zone ≤ 1) × AtSpot (is_same new) (λ s. size s.here ≤ size new) zone
    Stays (Extend new) zone = AtSpot (is_same new) (λ s. (seen s.here ≡ seen new) × (size s.here ≤ size new)) zone
    Stays (Push new k) zone = AtSpot (is_same new) (λ s. (seen s.here ≡ seen new) × (size s.here ≤ size new)
        × (growth new s ≤ free_sum (run_above k spared s))) zone
    Stays (Cut new) zone = AtSpot (is_same new) (λ s. (seen s.here ≡ seen new) × (size new ≤ size s.here)) zone
    Stays (Drop h) zone = (b : Block) → is_relocatable h b ≡ true → seen b ≡ false
    Stays (Write h i x) zone = AtSpot (is_relocatable h) (λ s. let now : Block =
        with_content (written i x (content_of s.here)) s.here in (seen s.here ≡ seen now) × (size s.here ≡ size now)) zone
    Stays move zone = Unit {0}

    abbrev pub PathStays : List Move → List Block → Type 0
    PathStays path zone = Along Stays spared path zone

    -- a move by what it leaves
    left : (o : Option (List Block)) (zone : List Block) → ((z : List Block) → o ≡ Some z → Alike seen zone z)
        → Alike seen zone (unwrap_or o zone)
    left None zone each = (refl, refl)
    left (Some z) zone each = each z refl

    -- a block that grows into the run above it
    pushes : (k : ℕ) (new : Block) (s : Spot) → seen s.here ≡ seen new → size s.here ≤ size new
        → growth new s ≤ free_sum (run_above k spared s)
        → Alike seen (s.below ++ s.here ∷ s.above) (pushed k spared new s)
    pushes k new s same less enough =
        let parts = segments s.above in
        let packed = run_above k spared s in
        let room = free_sum packed - growth new s in
        let after : List Block = movers packed ++ free room in
        let one : OneRun parts.first = one-run parts.first (segments-loose s.above).0 in
        let one_left : OneRun packed = (let p = purged-le (λ (b : Block). cond {A = ℕ} (in_run b) 0 1) (λ n. refl) k
        spared parts.first in omega arith) in
        let few = unlocked-run seen rigid parts.first one in
        let few_left = unlocked-run seen rigid packed one_left in
        let few_after : total (locks seen) after ≤ 0 = (let f = filtered (locks seen) unseen is_mover packed in omega (
          arith,
          total-append (locks seen) (movers packed) (free room),
          freely (locks seen) unseen room,
        )) in
        let sizes_same : size s.here + sizes parts.first ≡ size new + sizes after =
        (let p = (alike-purged seen rigid k spared parts.first).0 in omega (
          arith,
          total-append size (movers packed) (free room),
          sizes-free room,
          sizes-movers packed one_left,
        )) in
        let run = alike-heads seen rigid s.here new parts.first after same few few_after sizes_same in
        let all = alike-append seen rigid (s.here ∷ parts.first) (new ∷ after) (beyond parts.rest) (beyond parts.rest)
        run (alike-refl seen rigid (beyond parts.rest)) in
        let before : s.above ≡ parts.first ++ beyond parts.rest =
        sym (joined-segments s.above) ∙ joined-is parts.first parts.rest in
        let behind = sym (joined-is after parts.rest) in
        alike-append seen rigid s.below s.below (s.here ∷ s.above) (new ∷ joined after parts.rest)
        (alike-refl seen rigid s.below) (
          ap (λ l. sizes (s.here ∷ l)) before ∙ all.0 ∙ ap (λ l. sizes (new ∷ l)) behind,
          ap (λ l. stands seen (s.here ∷ l)) before ∙ all.1 ∙ ap (λ l. stands seen (new ∷ l)) behind,
        )
      where
        unseen : (n : ℕ) → locks seen (Free n) ≡ 0
        unseen n = cond-false (seen (Free n)) 1 0 (rigid (Free n) refl)

    -- what stands at a spot becomes something else
    at-spot : (test : Block → Bool) (change : Spot → List Block) (zone : List Block)
        → ((s : Spot) → spot test zone ≡ Some s → Alike seen (s.below ++ s.here ∷ s.above) (change s))
        → Alike seen zone (unwrap_or (option_map change (spot test zone)) zone)
    at-spot test change zone each = cases (spot test zone) refl
      where
        cases : (o : Option Spot) → spot test zone ≡ o → Alike seen zone (unwrap_or (option_map change o) zone)
        cases None found = (refl, refl)
        cases (Some s) found =
            let a = each s found in
            let is = spot-is test zone s found in
            (ap sizes is ∙ a.0, ap (stands seen) is ∙ a.1)

    one-steady : (m : Move) (zone : List Block) → Stays m zone → Alike seen zone (one spared m zone).zone
    one-steady (Search n) zone stays = (refl, refl)
    one-steady (Purge k) zone stays = alike-purged seen rigid k spared zone
    one-steady (Put new) zone stays = left (put_in_place new zone) zone (alike-put seen rigid new stays zone)
    one-steady (Base new) zone stays = left (put_at_base new zone) zone (alike-based seen rigid new stays zone)
    one-steady (Grow new) zone stays = left (grow_mover (is_same new) new zone) zone
        (λ z e. alike-moved seen rigid (is_same new) (same-free new) stays.1 new stays.0 zone z stays.3
        stays.2 e)
    one-steady (Extend new) zone stays = left (option_and_then (grow_up new) (spot (is_same new) zone)) zone
        (λ z e. option_and_then_some (grow_up new) (spot (is_same new) zone) z e
        (λ s found up. alike-grown_up seen rigid zone z s new (spot-is (is_same new) zone s found) (stays s found).0
        (stays s found).1 up))
    one-steady (Push new k) zone stays = at-spot (is_same new) (pushed k spared new) zone
        (λ s found. let known = stays s found in pushes k new s known.0 known.1 known.2)
    one-steady (Cut new) zone stays = at-spot (is_same new) (filled new) zone
        (λ s found. alike-filled seen rigid (s.below ++ s.here ∷ s.above) new s refl (stays s found).0
        (stays s found).1)
    one-steady (Drop h) zone stays = alike-freed seen rigid (is_relocatable h) stays zone
    one-steady (Write h i x) zone stays = at-spot (is_relocatable h) (rewritten i x) zone
        (λ s found. let now = with_content (written i x (content_of s.here)) s.here in
        alike-append seen rigid s.below s.below (s.here ∷ s.above) (now ∷ s.above) (alike-refl seen rigid s.below)
        (alike-cons seen rigid s.here now s.above s.above (stays s found).0 (stays s found).1
        (alike-refl seen rigid s.above)))

    pub steady : (path : List Move) (zone : List Block) → PathStays path zone
        → Alike seen zone (did spared path zone).zone
    steady [] zone stays = (refl, refl)
    steady (m ∷ path) zone stays =
        let now = (one spared m zone).zone in
        alike-then seen rigid zone now (did spared path now).zone (one-steady m zone stays.0) (steady path now stays.1)
