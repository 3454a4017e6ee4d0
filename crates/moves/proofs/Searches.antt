use Rattle.moves.proofs.Cited.{◌≡◌, ℕ, Bool, true, false, List, [], ◌∷◌, ◌++◌, refl, sym, ◌∙◌, ap, cond, map, is_some, nat_le, map-append}
use Rattle.moves.proofs.Cited.{phys, is_some-map, Block, Masters, size, is_mover, resized, rename, rename_block, has_free, segments, Spot}
use Rattle.moves.proofs.Cited.{rename_spot, may_be_purged, purge, count_of, growth, grow_up, least_or_last, size-rename, total-rename}
use Rattle.moves.proofs.Cited.{is_mover-rename, is_purgeable-rename, purge-rename, segments-rename, has_free-rename, grow_up-rename}
use Rattle.moves.proofs.Cited.{resized-rename, Move, Purge, Put, Base, Grow, Extend, Push, Cut, Did, did, moved, rename_move, Sought}
use Rattle.moves.proofs.Cited.{no_room, at_hand, sought, purges_for, seek, if_fits, seek_slot, then_seek, seek_in_place, seek_resized}
use Rattle.moves.proofs.Cited.{seek_size, rename_sought}
use Rattle.moves.proofs.Renamed.{Apart, Names, PathNames, growth-rename, moved-rename, did-rename}

-- No search sees the names of blocks.

module _ (f g : ℕ → ℕ) (p q : Block → Bool) (spares : (b : Block) → p (rename_block f g b) ≡ q b)
  where
    purges-rename : (there there' : List Block → Bool) → ((bs : List Block) → there (rename f g bs) ≡ there' bs)
        → (zone : List Block) → purges_for there p (rename f g zone) ≡ purges_for there' q zone
    purges-rename there there' same zone =
        let most : count_of p (rename f g zone) ≡ count_of q zone =
        total-rename f g (λ (b : Block). cond {A = ℕ} (may_be_purged p b) 1 0)
        (λ (b : Block). cond {A = ℕ} (may_be_purged q b) 1 0) (λ b. rw (is_purgeable-rename f g b, spares b) refl) zone in
        ap (least_or_last (λ k. there (purge k p (rename f g zone)))) most
        ∙ ap (λ (t : ℕ → Bool). least_or_last t (count_of q zone))
        (λ i k. (ap there (purge-rename f g p q spares k zone) ∙ same (purge k q zone)) i)

    sought-rename : (k : ℕ) (t : Bool) (path : List Move)
        → sought k t (map (rename_move f g) path) ≡ rename_sought f g (sought k t path)
    sought-rename k true path = refl
    sought-rename k false path = refl

    pub seek-rename : (m : Move) → Names f g m → (zone : List Block)
        → seek (rename_move f g m) p (rename f g zone) ≡ rename_sought f g (seek m q zone)
    seek-rename m same zone =
        let k = purges_for there' q zone in
        ap (λ (n : ℕ). sought n (there (purge n p (rename f g zone))) (Purge n ∷ rename_move f g m ∷ []))
        (purges-rename there there' as_there zone)
        ∙ ap (λ t. sought k t (Purge k ∷ rename_move f g m ∷ [])) (ap there (purge-rename f g p q spares k zone)
        ∙ as_there (purge k q zone))
        ∙ sought-rename k (there' (purge k q zone)) (Purge k ∷ m ∷ [])
      where
        there : List Block → Bool
        there z = is_some (moved p (rename_move f g m) z)

        there' : List Block → Bool
        there' z = is_some (moved q m z)

        as_there : (z : List Block) → there (rename f g z) ≡ there' z
        as_there z = ap is_some (moved-rename f g p q spares m same z) ∙ is_some-map (rename f g) (moved q m z)

    fits-rename : (n : ℕ) (r : Sought) → if_fits n (rename_sought f g r) ≡ rename_sought f g (if_fits n r)
    fits-rename n r = cases (is_some (phys n))
      where
        cases : (t : Bool) → cond t (rename_sought f g r) no_room ≡ rename_sought f g (cond t r no_room)
        cases true = refl
        cases false = refl

    pub slot-rename : (unused : Bool) (zone : List Block)
        → seek_slot unused p (rename f g zone) ≡ rename_sought f g (seek_slot unused q zone)
    slot-rename true zone = refl
    slot-rename false zone = seek-rename (Base Masters) tt zone

    pub block-rename : (n : ℕ) (new : Block) (zone : List Block)
        → if_fits n (seek (Put (rename_block f g new)) p (rename f g zone))
        ≡ rename_sought f g (if_fits n (seek (Put new) q zone))
    block-rename n new zone = ap (if_fits n) (seek-rename (Put new) tt zone) ∙ fits-rename n (seek (Put new) q zone)

    pub in_place-rename : (new : Block) (s : Spot)
        → seek_in_place (rename_block f g new) p (rename_spot f g s) ≡ rename_sought f g (seek_in_place new q s)
    in_place-rename new s =
        let d = growth new s in
        let run = (segments s.above).first in
        let k = purges_for (has_free d) q run in
        let up : is_some (grow_up (rename_block f g new) (rename_spot f g s)) ≡ is_some (grow_up new s) =
        ap is_some (grow_up-rename f g new s) ∙ is_some-map (rename f g) (grow_up new s) in
        ap (λ t. cond t (sought 0 true (Extend (rename_block f g new) ∷ [])) (pushes
        (growth (rename_block f g new) (rename_spot f g s)) (segments (rename f g s.above)).first)) up
        ∙ ap (λ (d : ℕ). cond (is_some (grow_up new s)) (sought 0 true (Extend (rename_block f g new) ∷ []))
        (pushes d (segments (rename f g s.above)).first)) (growth-rename f g new s)
        ∙ ap (λ r. cond (is_some (grow_up new s)) (sought 0 true (Extend (rename_block f g new) ∷ [])) (pushes d r.first))
        (segments-rename f g s.above)
        ∙ ap (cond (is_some (grow_up new s)) (sought 0 true (Extend (rename_block f g new) ∷ []))) (
        ap (λ (n : ℕ). sought n (has_free d (purge n p (rename f g run))) (Push (rename_block f g new) n ∷ []))
        (purges-rename (has_free d) (has_free d) (has_free-rename f g d) run)
        ∙ ap (λ t. sought k t (Push (rename_block f g new) k ∷ [])) (ap (has_free d)
        (purge-rename f g p q spares k run) ∙ has_free-rename f g d (purge k q run))
        ∙ sought-rename k (has_free d (purge k q run)) (Push new k ∷ []))
        ∙ cases (is_some (grow_up new s)) (sought k (has_free d (purge k q run)) (Push new k ∷ []))
      where
        pushes : ℕ → List Block → Sought
        pushes d run = sought (purges_for (has_free d) p run) (has_free d (purge (purges_for (has_free d) p run) p run))
            (Push (rename_block f g new) (purges_for (has_free d) p run) ∷ [])

        cases : (t : Bool) (r : Sought) → cond t (sought 0 true (Extend (rename_block f g new) ∷ [])) (rename_sought f g r)
            ≡ rename_sought f g (cond t (sought 0 true (Extend new ∷ [])) r)
        cases true r = refl
        cases false r = refl

    pub resized_at-rename : (new : Block) → Apart f g new → (zone : List Block) (s : Spot)
        → seek_resized (rename_block f g new) p (rename f g zone) (rename_spot f g s)
        ≡ rename_sought f g (seek_resized new q zone s)
    resized_at-rename new same zone s =
        ap (λ t. chosen t (is_mover (rename_block f g s.here)) (seek (Grow (rename_block f g new)) p (rename f g zone))
        (seek_in_place (rename_block f g new) p (rename_spot f g s)))
        (ap (λ n. nat_le n (size (rename_block f g s.here))) (size-rename f g new)
        ∙ ap (nat_le (size new)) (size-rename f g s.here))
        ∙ ap (λ u. chosen small u (seek (Grow (rename_block f g new)) p (rename f g zone))
        (seek_in_place (rename_block f g new) p (rename_spot f g s))) (is_mover-rename f g s.here)
        ∙ ap (λ r. chosen small (is_mover s.here) r (seek_in_place (rename_block f g new) p (rename_spot f g s)))
        (seek-rename (Grow new) same zone)
        ∙ ap (chosen small (is_mover s.here) (rename_sought f g (seek (Grow new) q zone))) (in_place-rename new s)
        ∙ cases small (is_mover s.here) (seek (Grow new) q zone) (seek_in_place new q s)
      where
        small : Bool
        small = nat_le (size new) (size s.here)

        chosen : Bool → Bool → Sought → Sought → Sought
        chosen t u a b = cond t (at_hand (Cut (rename_block f g new) ∷ [])) (cond u a b)

        cases : (t u : Bool) (a b : Sought) → chosen t u (rename_sought f g a) (rename_sought f g b)
            ≡ rename_sought f g (cond t (at_hand (Cut new ∷ [])) (cond u a b))
        cases true u a b = refl
        cases false true a b = refl
        cases false false a b = refl

    -- a block that gets another size
    pub size_at-rename : (n : ℕ) (zone : List Block) (s : Spot) → Apart f g (resized n s.here)
        → seek_size n p (rename f g zone) (rename_spot f g s) ≡ rename_sought f g (seek_size n q zone s)
    size_at-rename n zone s same =
        ap (λ b. if_fits n (seek_resized b p (rename f g zone) (rename_spot f g s))) (resized-rename f g n s.here)
        ∙ ap (if_fits n) (resized_at-rename (resized n s.here) same zone s)
        ∙ fits-rename n (seek_resized (resized n s.here) q zone s)

    -- one search after another
    pub then-rename : (first : Sought) → PathNames f g first.path → (next next' : List Block → Sought)
        → ((bs : List Block) → next (rename f g bs) ≡ rename_sought f g (next' bs)) → (zone : List Block)
        → then_seek p (rename f g zone) (rename_sought f g first) next
        ≡ rename_sought f g (then_seek q zone first next')
    then-rename first names next next' same zone =
        ap (λ (d : Did). then_so (next d.zone)) (did-rename f g p q spares first.path names zone)
        ∙ ap then_so (same (did q first.path zone).zone)
        ∙ cases first.found (next' (did q first.path zone).zone)
      where
        then_so : Sought → Sought
        then_so n = cond first.found (record { found = n.found; path = map (rename_move f g) first.path ++ n.path })
            (rename_sought f g first)

        cases : (t : Bool) (n : Sought) → cond t (record {
          found = n.found;
          path = map (rename_move f g) first.path ++ map (rename_move f g) n.path;
        }) (rename_sought f g first)
            ≡ rename_sought f g (cond t (record { found = n.found; path = first.path ++ n.path }) first)
        cases true n = ap (λ l. let s : Sought = record { found = n.found; path = l } in s)
            (sym (map-append (rename_move f g) first.path n.path))
        cases false n = refl
