use Rattle.moves.proofs.Cited.{◌≡◌, ℕ, ◌-◌, zero, suc, Bool, true, false, ◌&&◌, List, [], ◌∷◌, ◌++◌, refl, sym, ◌∙◌, ap, cond, map, filter}
use Rattle.moves.proofs.Cited.{Option, Some, None, is_some, map-append, option_map, unwrap_or, option_and_then, is_some-map, written, Block}
use Rattle.moves.proofs.Cited.{Free, Nonrelocatable, Masters, Relocatable, size, free_of, free_sum, free, is_mover, is_room, is_relocatable}
use Rattle.moves.proofs.Cited.{content_of, with_content, tidy, rename, rename_block, RunSpot, run_spot, change_run, has, has_free, high}
use Rattle.moves.proofs.Cited.{low, movers, others, segments, joined, Spot, spot, rename_spot, filled, place, may_be_purged, growth}
use Rattle.moves.proofs.Cited.{grow_up, lowered_in_run, size-rename, free_of-rename, free-rename, total-rename, filter-rename}
use Rattle.moves.proofs.Cited.{is_mover-rename, is_room-rename, is_purgeable-rename, tidy-rename, spot-rename, filled-rename}
use Rattle.moves.proofs.Cited.{segments-rename, joined-rename, rename_stretch, rename_run_spot, run_spot-rename, change_run-rename}
use Rattle.moves.proofs.Cited.{has_free-rename, place-rename, put_in_place-rename, purge-rename, freed-rename, has-rename, others-rename}
use Rattle.moves.proofs.Cited.{grow_up-rename, grow_mover-rename, Move, Search, Purge, Put, Base, Grow, Extend, Push, Cut, Drop, Write}
use Rattle.moves.proofs.Cited.{is_same, run_above, pushed, rewritten, moved, lowest_gone, gone_above, gone_by, lowered_in, place_lowers}
use Rattle.moves.proofs.Cited.{last_lowers, growth_lowers, lowered_by, searches_by, and_then, one, did, rename_move, rename_did}

-- Neither a path nor what it does sees the names of blocks, where two blocks that it tells apart have two names.

-- what must be known of the names of a move's block
abbrev pub Apart : (ℕ → ℕ) → (ℕ → ℕ) → Block → Type 0
Apart f g new = (b : Block) → is_same (rename_block f g new) (rename_block f g b) ≡ is_same new b

abbrev ApartHandle : (ℕ → ℕ) → (ℕ → ℕ) → ℕ → Type 0
ApartHandle f g h = (b : Block) → is_relocatable (f h) (rename_block f g b) ≡ is_relocatable h b

abbrev pub Names : (ℕ → ℕ) → (ℕ → ℕ) → Move → Type 0
Names f g (Grow new) = Apart f g new
Names f g (Extend new) = Apart f g new
Names f g (Push new k) = Apart f g new
Names f g (Cut new) = Apart f g new
Names f g (Drop h) = ApartHandle f g h
Names f g (Write h i x) = ApartHandle f g h
Names f g move = Unit {0}

abbrev pub PathNames : (ℕ → ℕ) → (ℕ → ℕ) → List Move → Type 0
PathNames f g [] = Unit {0}
PathNames f g (m ∷ path) = Names f g m × PathNames f g path

module _ (f g : ℕ → ℕ)
  where
    free_sum-rename : (run : List Block) → free_sum (rename f g run) ≡ free_sum run
    free_sum-rename run = total-rename f g free_of free_of (free_of-rename f g) run

    low-rename : (new : Block) (run : List Block) → low (rename_block f g new) (rename f g run) ≡ rename f g (low new run)
    low-rename new run =
        rw (filter-rename f g is_mover is_mover (is_mover-rename f g) run, free_sum-rename run, size-rename f g new)
        (ap (λ l. rename_block f g new ∷ l) (ap (λ l. rename f g (movers run) ++ l)
        (sym (free-rename f g (free_sum run - size new))) ∙ sym (map-append (rename_block f g) (movers run)
        (free (free_sum run - size new)))))

    high-rename : (p q : Block → Bool) → ((b : Block) → p (rename_block f g b) ≡ q b) → (run : List Block)
        → high p (rename f g run) ≡ rename f g (high q run)
    high-rename p q same run =
        rw (others-rename f g p q same run, free_sum-rename run, filter-rename f g p q same run)
        (ap (λ l. rename f g (others q run) ++ l ++ rename f g (filter q run)) (sym (free-rename f g (free_sum run)))
        ∙ ap (λ l. l ++ rename f g (filter q run)) (sym (map-append (rename_block f g) (others q run)
        (free (free_sum run)))) ∙ sym (map-append (rename_block f g) (others q run ++ free (free_sum run))
        (filter q run)))

    lowered_in_run-rename : (run : List Block) → lowered_in_run (rename f g run) ≡ lowered_in_run run
    lowered_in_run-rename [] = refl
    lowered_in_run-rename (Free n ∷ run) = total-rename f g (λ (b : Block). cond {A = ℕ} (is_mover b) 1 0)
        (λ (b : Block). cond {A = ℕ} (is_mover b) 1 0) (λ b. rw (is_mover-rename f g b) refl) run
    lowered_in_run-rename (Nonrelocatable id content ∷ run) = lowered_in_run-rename run
    lowered_in_run-rename (Masters ∷ run) = lowered_in_run-rename run
    lowered_in_run-rename (Relocatable id flags content ∷ run) = lowered_in_run-rename run

    written-rename : (i : ℕ) (x : List ℕ) (b : Block)
        → with_content (written i x (content_of (rename_block f g b))) (rename_block f g b)
        ≡ rename_block f g (with_content (written i x (content_of b)) b)
    written-rename i x (Free n) = refl
    written-rename i x (Nonrelocatable id content) = refl
    written-rename i x Masters = refl
    written-rename i x (Relocatable id flags content) = refl

    -- what is or is not there
    map-rename : {A : Type 0} (change change' : A → List Block) (names : A → A)
        → ((a : A) → change (names a) ≡ rename f g (change' a)) → (o : Option A)
        → option_map change (option_map names o) ≡ option_map (rename f g) (option_map change' o)
    map-rename change change' names same None = refl
    map-rename change change' names same (Some a) = ap Some (same a)

    or-rename : (o : Option (List Block)) (zone : List Block)
        → unwrap_or (option_map (rename f g) o) (rename f g zone) ≡ rename f g (unwrap_or o zone)
    or-rename None zone = refl
    or-rename (Some z) zone = refl

    pub growth-rename : (new : Block) (s : Spot) → growth (rename_block f g new) (rename_spot f g s) ≡ growth new s
    growth-rename new s = rw (size-rename f g new, size-rename f g s.here) refl

module _ (f g : ℕ → ℕ) (p q : Block → Bool) (spares : (b : Block) → p (rename_block f g b) ≡ q b)
  where
    pub above-rename : (k : ℕ) (s : Spot) → run_above k p (rename_spot f g s) ≡ rename f g (run_above k q s)
    above-rename k s = rw (segments-rename f g s.above) (purge-rename f g p q spares k (segments s.above).first)

    pushed-rename : (k : ℕ) (new : Block) (s : Spot)
        → pushed k p (rename_block f g new) (rename_spot f g s) ≡ rename f g (pushed k q new s)
    pushed-rename k new s =
        let run = run_above k q s in
        let left : List Block = movers run ++ free (free_sum run - growth new s) in
        rw (
          segments-rename f g s.above,
          purge-rename f g p q spares k (segments s.above).first,
          filter-rename f g is_mover is_mover (is_mover-rename f g) run,
          free_sum-rename f g run,
          size-rename f g new,
          size-rename f g s.here,
        )
        (ap (λ l. rename f g s.below ++ rename_block f g new ∷ joined (rename f g (movers run) ++ l)
        (map (rename_stretch f g) (segments s.above).rest)) (sym (free-rename f g (free_sum run - growth new s)))
        ∙ ap (λ l. rename f g s.below ++ rename_block f g new ∷ joined l (map (rename_stretch f g)
        (segments s.above).rest)) (sym (map-append (rename_block f g) (movers run)
        (free (free_sum run - growth new s))))
        ∙ ap (λ l. rename f g s.below ++ rename_block f g new ∷ l) (joined-rename f g left (segments s.above).rest)
        ∙ sym (map-append (rename_block f g) s.below (new ∷ joined left (segments s.above).rest)))

    pub moved-rename : (m : Move) → Names f g m → (zone : List Block)
        → moved p (rename_move f g m) (rename f g zone) ≡ option_map (rename f g) (moved q m zone)
    moved-rename (Search n) same zone = refl
    moved-rename (Purge k) same zone = ap Some (purge-rename f g p q spares k zone)
    moved-rename (Put new) same zone = put_in_place-rename f g new zone
    moved-rename (Base new) same zone =
        ap (λ (n : ℕ). option_map tidy (change_run (has_free n) (low (rename_block f g new)) (rename f g zone)))
        (size-rename f g new)
        ∙ ap (option_map tidy) (change_run-rename f g (has_free (size new)) (has_free (size new))
        (low (rename_block f g new)) (low new) (has_free-rename f g (size new)) (low-rename f g new) zone)
        ∙ map-rename f g tidy tidy (rename f g) (tidy-rename f g) (change_run (has_free (size new)) (low new) zone)
    moved-rename (Grow new) same zone =
        grow_mover-rename f g (is_same (rename_block f g new)) (is_same new) same new zone
    moved-rename (Extend new) same zone =
        ap (option_and_then (grow_up (rename_block f g new))) (spot-rename f g (is_same (rename_block f g new))
        (is_same new) same zone) ∙ cases (spot (is_same new) zone)
      where
        cases : (o : Option Spot) → option_and_then (grow_up (rename_block f g new)) (option_map (rename_spot f g) o)
            ≡ option_map (rename f g) (option_and_then (grow_up new) o)
        cases None = refl
        cases (Some s) = grow_up-rename f g new s
    moved-rename (Push new k) same zone =
        ap (option_map (pushed k p (rename_block f g new))) (spot-rename f g (is_same (rename_block f g new))
        (is_same new) same zone)
        ∙ map-rename f g (pushed k p (rename_block f g new)) (pushed k q new) (rename_spot f g) (pushed-rename k new)
        (spot (is_same new) zone)
    moved-rename (Cut new) same zone =
        ap (option_map (filled (rename_block f g new))) (spot-rename f g (is_same (rename_block f g new))
        (is_same new) same zone)
        ∙ map-rename f g (filled (rename_block f g new)) (filled new) (rename_spot f g) (filled-rename f g new)
        (spot (is_same new) zone)
    moved-rename (Drop h) same zone = ap Some (freed-rename f g (is_relocatable (f h)) (is_relocatable h) same zone)
    moved-rename (Write h i x) same zone =
        ap (option_map (rewritten i x)) (spot-rename f g (is_relocatable (f h)) (is_relocatable h) same zone)
        ∙ map-rename f g (rewritten i x) (rewritten i x) (rename_spot f g) at (spot (is_relocatable h) zone)
      where
        at : (s : Spot) → rewritten i x (rename_spot f g s) ≡ rename f g (rewritten i x s)
        at s = ap (λ b. rename f g s.below ++ b ∷ rename f g s.above) (written-rename f g i x s.here)
            ∙ sym (map-append (rename_block f g) s.below (with_content (written i x (content_of s.here)) s.here ∷ s.above))

    gone-rename : (k : ℕ) (bs : List Block) → lowest_gone k p (rename f g bs) ≡ rename f g (lowest_gone k q bs)
    gone-rename zero bs = refl
    gone-rename (suc k) [] = refl
    gone-rename (suc k) (b ∷ bs) = rw (is_purgeable-rename f g b, spares b, gone-rename k bs, gone-rename (suc k) bs)
        (cases (may_be_purged q b))
      where
        cases : (t : Bool) → cond t (rename_block f g b ∷ rename f g (lowest_gone k q bs))
            (rename f g (lowest_gone (suc k) q bs)) ≡ rename f g (cond t (b ∷ lowest_gone k q bs)
            (lowest_gone (suc k) q bs))
        cases true = refl
        cases false = refl

    gone_by-rename : (m : Move) → Names f g m → (zone : List Block)
        → gone_by p (rename_move f g m) (rename f g zone) ≡ rename f g (gone_by q m zone)
    gone_by-rename (Search n) same zone = refl
    gone_by-rename (Purge k) same zone = gone-rename k zone
    gone_by-rename (Put new) same zone = refl
    gone_by-rename (Base new) same zone = refl
    gone_by-rename (Grow new) same zone = refl
    gone_by-rename (Extend new) same zone = refl
    gone_by-rename (Push new k) same zone =
        ap (gone_above k p) (spot-rename f g (is_same (rename_block f g new)) (is_same new) same zone)
        ∙ cases (spot (is_same new) zone)
      where
        cases : (o : Option Spot) → gone_above k p (option_map (rename_spot f g) o) ≡ rename f g (gone_above k q o)
        cases None = refl
        cases (Some s) = rw (segments-rename f g s.above) (gone-rename k (segments s.above).first)
    gone_by-rename (Cut new) same zone = refl
    gone_by-rename (Drop h) same zone = refl
    gone_by-rename (Write h i x) same zone = refl

    -- the blocks that are moved down
    place_lowers-rename : (n : ℕ) (zone : List Block) → place_lowers n (rename f g zone) ≡ place_lowers n zone
    place_lowers-rename n zone =
        rw (
          spot-rename f g (is_room n) (is_room n) (is_room-rename f g n) zone,
          is_some-map (rename_spot f g) (spot (is_room n) zone),
          run_spot-rename f g (has_free n) (has_free n) (has_free-rename f g n) zone,
        ) (ap (λ (k : ℕ). cond (is_some (spot (is_room n) zone)) 0 k) (cases (run_spot (has_free n) zone)))
      where
        cases : (o : Option RunSpot) → lowered_in (option_map (rename_run_spot f g) o) ≡ lowered_in o
        cases None = refl
        cases (Some r) = lowered_in_run-rename f g r.run

    last-rename : (t u : Block → Bool) → ((b : Block) → t (rename_block f g b) ≡ u b) → (o : Option RunSpot)
        → last_lowers t (option_map (rename_run_spot f g) o) ≡ last_lowers u o
    last-rename t u same None = refl
    last-rename t u same (Some r) = ap lowered_in_run (high-rename f g t u same r.run)
        ∙ lowered_in_run-rename f g (high u r.run)

    growth_lowers-rename : (new : Block) → Apart f g new → (zone : List Block) (o : Option Spot)
        → growth_lowers (rename_block f g new) (rename f g zone) (option_map (rename_spot f g) o)
        ≡ growth_lowers new zone o
    growth_lowers-rename new same zone None = refl
    growth_lowers-rename new same zone (Some s) =
        let t = is_same (rename_block f g new) in
        let u = is_same new in
        let up : is_some (grow_up (rename_block f g new) (rename_spot f g s)) ≡ is_some (grow_up new s) =
        ap is_some (grow_up-rename f g new s) ∙ is_some-map (rename f g) (grow_up new s) in
        let there : is_some (place (size (rename_block f g new)) (rename f g zone)) ≡ is_some (place (size new) zone) =
        ap (λ n. is_some (place n (rename f g zone))) (size-rename f g new) ∙ ap is_some (place-rename f g (size new) zone)
        ∙ is_some-map (rename_spot f g) (place (size new) zone) in
        let away : place_lowers (size (rename_block f g new)) (rename f g zone) ≡ place_lowers (size new) zone =
        ap (λ n. place_lowers n (rename f g zone)) (size-rename f g new) ∙ place_lowers-rename (size new) zone in
        let last : last_lowers t (run_spot (λ run. has t run
        && has_free (growth (rename_block f g new) (rename_spot f g s)) run) (rename f g zone))
        ≡ last_lowers u (run_spot (λ run. has u run && has_free (growth new s) run) zone) =
        ap (last_lowers t) (run_spot-rename f g (λ run. has t run
        && has_free (growth (rename_block f g new) (rename_spot f g s)) run)
        (λ run. has u run && has_free (growth new s) run)
        (λ run. rw (growth-rename f g new s, has-rename f g t u same run, has_free-rename f g (growth new s) run) refl)
        zone) ∙ last-rename t u same (run_spot (λ run. has u run && has_free (growth new s) run) zone) in
        λ i. cond {A = ℕ} (up i) 0 (cond {A = ℕ} (there i) (away i) (last i))

    lowered-rename : (m : Move) → Names f g m → (zone : List Block)
        → lowered_by (rename_move f g m) (rename f g zone) ≡ lowered_by m zone
    lowered-rename (Search n) same zone = refl
    lowered-rename (Purge k) same zone = refl
    lowered-rename (Put new) same zone = ap (λ n. place_lowers n (rename f g zone)) (size-rename f g new)
        ∙ place_lowers-rename (size new) zone
    lowered-rename (Base new) same zone = refl
    lowered-rename (Grow new) same zone =
        ap (growth_lowers (rename_block f g new) (rename f g zone)) (spot-rename f g (is_same (rename_block f g new))
        (is_same new) same zone) ∙ growth_lowers-rename new same zone (spot (is_same new) zone)
    lowered-rename (Extend new) same zone = refl
    lowered-rename (Push new k) same zone = refl
    lowered-rename (Cut new) same zone = refl
    lowered-rename (Drop h) same zone = refl
    lowered-rename (Write h i x) same zone = refl

    searches-rename : (m : Move) → searches_by (rename_move f g m) ≡ searches_by m
    searches-rename (Search n) = refl
    searches-rename (Purge k) = refl
    searches-rename (Put new) = refl
    searches-rename (Base new) = refl
    searches-rename (Grow new) = refl
    searches-rename (Extend new) = refl
    searches-rename (Push new k) = refl
    searches-rename (Cut new) = refl
    searches-rename (Drop h) = refl
    searches-rename (Write h i x) = refl

    one-rename : (m : Move) → Names f g m → (zone : List Block)
        → one p (rename_move f g m) (rename f g zone) ≡ rename_did f g (one q m zone)
    one-rename m same zone =
        let z = ap (λ o. unwrap_or o (rename f g zone)) (moved-rename m same zone)
        ∙ or-rename f g (moved q m zone) zone in
        let s = searches-rename m in
        let l = lowered-rename m same zone in
        let w = gone_by-rename m same zone in
        λ i. record { zone = z i; searches = s i; lowered = l i; gone = w i }

    pub did-rename : (path : List Move) → PathNames f g path → (zone : List Block)
        → did p (map (rename_move f g) path) (rename f g zone) ≡ rename_did f g (did q path zone)
    did-rename [] same zone = refl
    did-rename (m ∷ path) same zone =
        let now = one q m zone in
        let more = did q path now.zone in
        let w = sym (map-append (rename_block f g) now.gone more.gone) in
        ap (λ d. and_then d (did p (map (rename_move f g) path) d.zone)) (one-rename m same.0 zone)
        ∙ ap (and_then (rename_did f g now)) (did-rename path same.1 now.zone)
        ∙ (λ i. record (rename_did f g (and_then now more)) { gone = w i })
