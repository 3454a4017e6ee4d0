use Rattle.block_store.proofs.Cited.{◌≡◌, ℕ, ◌-◌, zero, suc, Bool, true, false, not, ◌&&◌, List, [], ◌∷◌, ◌++◌, refl, sym, ◌∙◌, ap, cond}
use Rattle.block_store.proofs.Cited.{map, Option, Some, None, filter, map-append, option_map, option_or, option_and_then, Block, Free}
use Rattle.block_store.proofs.Cited.{Nonrelocatable, Masters, Relocatable, size, total, free_sum, free_of, rename, rename_block, free}
use Rattle.block_store.proofs.Cited.{is_mover, is_room, is_purgeable, add, tidy, settle, in_run, Stretch, Segments, segments, joined}
use Rattle.block_store.proofs.Cited.{RunSpot, run_raised, lowest_run, run_spot, with_run, change_run, has_free, has, others, Spot}
use Rattle.block_store.proofs.Cited.{rename_spot, spot, raised, filled, place, put_in_place, lowest_purged, purge, count_of, least, room}
use Rattle.block_store.proofs.Cited.{growth, taken, grow_up, freed, move_away, grow_last, grow_mover}

-- renaming leaves what a block takes
pub size-rename : (f g : ℕ → ℕ) (b : Block) → size (rename_block f g b) ≡ size b
size-rename f g (Free n) = refl
size-rename f g (Nonrelocatable id content) = refl
size-rename f g Masters = refl
size-rename f g (Relocatable id flags content) = refl

pub free_of-rename : (f g : ℕ → ℕ) (b : Block) → free_of (rename_block f g b) ≡ free_of b
free_of-rename f g (Free n) = refl
free_of-rename f g (Nonrelocatable id content) = refl
free_of-rename f g Masters = refl
free_of-rename f g (Relocatable id flags content) = refl

pub is_mover-rename : (f g : ℕ → ℕ) (b : Block) → is_mover (rename_block f g b) ≡ is_mover b
is_mover-rename f g (Free n) = refl
is_mover-rename f g (Nonrelocatable id content) = refl
is_mover-rename f g Masters = refl
is_mover-rename f g (Relocatable id flags content) = refl

pub is_room-rename : (f g : ℕ → ℕ) (p : ℕ) (b : Block) → is_room p (rename_block f g b) ≡ is_room p b
is_room-rename f g p (Free n) = refl
is_room-rename f g p (Nonrelocatable id content) = refl
is_room-rename f g p Masters = refl
is_room-rename f g p (Relocatable id flags content) = refl

-- a total over blocks that doesn't see names
pub total-rename : (f g : ℕ → ℕ) (of of' : Block → ℕ) → ((b : Block) → of (rename_block f g b) ≡ of' b)
    → (bs : List Block) → total of (rename f g bs) ≡ total of' bs
total-rename f g of of' same [] = refl
total-rename f g of of' same (b ∷ bs) = rw (same b, total-rename f g of of' same bs) refl

-- a filter that doesn't see names
pub filter-rename : (f g : ℕ → ℕ) (p q : Block → Bool) → ((b : Block) → p (rename_block f g b) ≡ q b)
    → (bs : List Block) → filter p (rename f g bs) ≡ rename f g (filter q bs)
filter-rename f g p q same [] = refl
filter-rename f g p q same (b ∷ bs) = rw (same b, filter-rename f g p q same bs)
    (elim (q b) as (λ t. cond t (rename_block f g b ∷ rename f g (filter q bs)) (rename f g (filter q bs))
    ≡ rename f g (cond t (b ∷ filter q bs) (filter q bs))) [ true ↦ refl | false ↦ refl ])

pub free-rename : (f g : ℕ → ℕ) (n : ℕ) → rename f g (free n) ≡ free n
free-rename f g zero = refl
free-rename f g (suc n) = refl

-- settling sees no names
pub settle-rename : (f g : ℕ → ℕ) (run : List Block) → settle (rename f g run) ≡ rename f g (settle run)
settle-rename f g run =
    rw (
      filter-rename f g is_mover is_mover (is_mover-rename f g) run,
      total-rename f g free_of free_of
          (free_of-rename f g) run,
      map-append,
      free-rename f g (free_sum run),
    ) refl

pub add-rename : (f g : ℕ → ℕ) (b : Block) (bs : List Block)
    → add (rename_block f g b) (rename f g bs) ≡ rename f g (add b bs)
add-rename f g (Free zero) bs = refl
add-rename f g (Free (suc n)) [] = refl
add-rename f g (Free (suc n)) (Free m ∷ bs) = refl
add-rename f g (Free (suc n)) (Nonrelocatable id content ∷ bs) = refl
add-rename f g (Free (suc n)) (Masters ∷ bs) = refl
add-rename f g (Free (suc n)) (Relocatable id flags content ∷ bs) = refl
add-rename f g (Nonrelocatable id content) bs = refl
add-rename f g Masters bs = refl
add-rename f g (Relocatable id flags content) bs = refl

pub tidy-rename : (f g : ℕ → ℕ) (bs : List Block) → tidy (rename f g bs) ≡ rename f g (tidy bs)
tidy-rename f g [] = refl
tidy-rename f g (b ∷ bs) = ap (add (rename_block f g b)) (tidy-rename f g bs) ∙ add-rename f g b (tidy bs)

-- the lowest block that passes a test that doesn't see names
pub spot-rename : (f g : ℕ → ℕ) (p q : Block → Bool) → ((b : Block) → p (rename_block f g b) ≡ q b) → (bs : List Block)
    → spot p (rename f g bs) ≡ option_map (rename_spot f g) (spot q bs)
spot-rename f g p q same [] = refl
spot-rename f g p q same (b ∷ bs) = rw (same b, spot-rename f g p q same bs) (cases (q b) (spot q bs))
  where
    cases : (t : Bool) (o : Option Spot) → cond t (Some (record
        { below = []; here = rename_block f g b; above = rename f g bs }))
        (option_map (raised (rename_block f g b)) (option_map (rename_spot f g) o))
        ≡ option_map (rename_spot f g) (cond t (Some (record { below = []; here = b; above = bs }))
        (option_map (raised b) o))
    cases true o = refl
    cases false None = refl
    cases false (Some s) = refl

pub filled-rename : (f g : ℕ → ℕ) (new : Block) (s : Spot) → filled (rename_block f g new) (rename_spot f g s)
    ≡ rename f g (filled new s)
filled-rename f g new s = rw (size-rename f g new, size-rename f g s.here)
    (ap tidy (sym (map-append (rename_block f g) s.below (new ∷ Free (size s.here - size new) ∷ s.above)))
    ∙ tidy-rename f g (s.below ++ new ∷ Free (size s.here - size new) ∷ s.above))

pub in_run-rename : (f g : ℕ → ℕ) (b : Block) → in_run (rename_block f g b) ≡ in_run b
in_run-rename f g (Free n) = refl
in_run-rename f g (Nonrelocatable id content) = refl
in_run-rename f g Masters = refl
in_run-rename f g (Relocatable id flags content) = refl

abbrev pub rename_stretch : (ℕ → ℕ) → (ℕ → ℕ) → Stretch → Stretch
rename_stretch f g p = record { barrier = rename_block f g p.barrier; run = rename f g p.run }

abbrev pub rename_segments : (ℕ → ℕ) → (ℕ → ℕ) → Segments → Segments
rename_segments f g s = record { first = rename f g s.first; rest = map (rename_stretch f g) s.rest }

pub segments-rename : (f g : ℕ → ℕ) (bs : List Block) → segments (rename f g bs) ≡ rename_segments f g (segments bs)
segments-rename f g [] = refl
segments-rename f g (b ∷ bs) = rw (segments-rename f g bs, in_run-rename f g b) (cases (in_run b))
  where
    cases : (t : Bool) → cond t (let s : Segments = record {
      first = rename_block f g b
          ∷ rename f g (segments bs).first;
      rest = map (rename_stretch f g) (segments bs).rest;
    } in
        s) (record {
          first = [];
          rest = record { barrier = rename_block f g b; run = rename f g (segments bs).first }
              ∷ map (rename_stretch f g) (segments bs).rest;
        })
        ≡ rename_segments f g (cond t (record { first = b ∷ (segments bs).first; rest = (segments bs).rest })
        (record { first = []; rest = record { barrier = b; run = (segments bs).first } ∷ (segments bs).rest }))
    cases true = refl
    cases false = refl

pub joined-rename : (f g : ℕ → ℕ) (run : List Block) (rest : List Stretch)
    → joined (rename f g run) (map (rename_stretch f g) rest) ≡ rename f g (joined run rest)
joined-rename f g run [] = refl
joined-rename f g run (p ∷ rest) = rw (joined-rename f g p.run rest)
    (sym (map-append (rename_block f g) run (p.barrier ∷ joined p.run rest)))

abbrev pub rename_run_spot : (ℕ → ℕ) → (ℕ → ℕ) → RunSpot → RunSpot
rename_run_spot f g r = record { below = rename f g r.below; run = rename f g r.run; above = rename f g r.above }

-- the lowest run that passes a test that doesn't see names
pub lowest_run-rename : (f g : ℕ → ℕ) (p q : List Block → Bool) → ((r : List Block) → p (rename f g r) ≡ q r)
    → (run : List Block) (rest : List Stretch) → lowest_run p (rename f g run) (map (rename_stretch f g) rest)
    ≡ option_map (rename_run_spot f g) (lowest_run q run rest)
lowest_run-rename f g p q same run [] = rw (same run) (cases (q run))
  where
    cases : (t : Bool) → cond t (Some (record { below = []; run = rename f g run; above = [] })) None
        ≡ option_map (rename_run_spot f g) (cond t (Some (record { below = []; run = run; above = [] })) None)
    cases true = refl
    cases false = refl
lowest_run-rename f g p q same run (part ∷ rest) =
    rw (same run, lowest_run-rename f g p q same part.run rest, joined-rename f g part.run rest)
    (cases (q run) (lowest_run q part.run rest))
  where
    cases : (t : Bool) (o : Option RunSpot) → cond t (Some (record {
      below = [];
      run = rename f g run;
      above = rename_block f g part.barrier
          ∷ rename f g (joined part.run rest);
    })) (option_map (run_raised
        (rename f g run ++ rename_block f g part.barrier ∷ [])) (option_map (rename_run_spot f g) o))
        ≡ option_map (rename_run_spot f g) (cond t (Some (record
        { below = []; run = run; above = part.barrier ∷ joined part.run rest }))
        (option_map (run_raised (run ++ part.barrier ∷ [])) o))
    cases true o = refl
    cases false None = refl
    cases false (Some r) = ap (λ l. Some (record { below = l; run = rename f g r.run; above = rename f g r.above }))
        (ap (λ l. l ++ rename f g r.below) (sym (map-append (rename_block f g) run (part.barrier ∷ [])))
        ∙ sym (map-append (rename_block f g) (run ++ part.barrier ∷ []) r.below))

pub run_spot-rename : (f g : ℕ → ℕ) (p q : List Block → Bool) → ((r : List Block) → p (rename f g r) ≡ q r)
    → (bs : List Block) → run_spot p (rename f g bs) ≡ option_map (rename_run_spot f g) (run_spot q bs)
run_spot-rename f g p q same bs = ap (λ s. lowest_run p s.first s.rest) (segments-rename f g bs)
    ∙ lowest_run-rename f g p q same (segments bs).first (segments bs).rest

-- a change of the lowest run that passes, where neither test nor change sees names
pub change_run-rename : (f g : ℕ → ℕ) (p q : List Block → Bool) (c d : List Block → List Block)
    → ((r : List Block) → p (rename f g r) ≡ q r) → ((r : List Block) → c (rename f g r) ≡ rename f g (d r))
    → (bs : List Block) → change_run p c (rename f g bs) ≡ option_map (rename f g) (change_run q d bs)
change_run-rename f g p q c d same changes bs = ap (option_map (with_run c)) (run_spot-rename f g p q same bs)
    ∙ cases (run_spot q bs)
  where
    cases : (o : Option RunSpot) → option_map (with_run c) (option_map (rename_run_spot f g) o)
        ≡ option_map (rename f g) (option_map (with_run d) o)
    cases None = refl
    cases (Some r) = rw (changes r.run) (ap Some (ap (λ l. l ++ rename f g r.above)
        (sym (map-append (rename_block f g) r.below (d r.run))) ∙ sym
        (map-append (rename_block f g) (r.below ++ d r.run) r.above)))

pub has_free-rename : (f g : ℕ → ℕ) (p : ℕ) (run : List Block) → has_free p (rename f g run) ≡ has_free p run
has_free-rename f g p run = rw (total-rename f g free_of free_of (free_of-rename f g) run) refl

-- the place of a block sees no names
pub place-rename : (f g : ℕ → ℕ) (p : ℕ) (bs : List Block) → place p (rename f g bs)
    ≡ option_map (rename_spot f g) (place p bs)
place-rename f g p bs =
    rw (
      spot-rename f g (is_room p) (is_room p) (is_room-rename f g p) bs,
      change_run-rename f g (has_free p)
          (has_free p) settle settle (has_free-rename f g p) (settle-rename f g) bs,
    )
    (cases (spot (is_room p) bs) (change_run (has_free p) settle bs))
  where
    cases : (o : Option Spot) (z : Option (List Block)) → option_or (option_map (rename_spot f g) o)
        (option_and_then (spot (is_room p)) (option_map tidy (option_map (rename f g) z)))
        ≡ option_map (rename_spot f g) (option_or o (option_and_then (spot (is_room p)) (option_map tidy z)))
    cases (Some s) z = refl
    cases None None = refl
    cases None (Some zone) = ap (spot (is_room p)) (tidy-rename f g zone)
        ∙ spot-rename f g (is_room p) (is_room p) (is_room-rename f g p) (tidy zone)

pub put_in_place-rename : (f g : ℕ → ℕ) (new : Block) (bs : List Block)
    → put_in_place (rename_block f g new) (rename f g bs) ≡ option_map (rename f g) (put_in_place new bs)
put_in_place-rename f g new bs = rw (size-rename f g new, place-rename f g (size new) bs) (cases (place (size new) bs))
  where
    cases : (o : Option Spot) → option_map (filled (rename_block f g new)) (option_map (rename_spot f g) o)
        ≡ option_map (rename f g) (option_map (filled new) o)
    cases None = refl
    cases (Some s) = ap Some (filled-rename f g new s)

pub is_purgeable-rename : (f g : ℕ → ℕ) (b : Block) → is_purgeable (rename_block f g b) ≡ is_purgeable b
is_purgeable-rename f g (Free n) = refl
is_purgeable-rename f g (Nonrelocatable id content) = refl
is_purgeable-rename f g Masters = refl
is_purgeable-rename f g (Relocatable id flags content) = refl

pub lowest_purged-rename : (f g : ℕ → ℕ) (p q : Block → Bool) → ((b : Block) → p (rename_block f g b) ≡ q b)
    → (k : ℕ) (bs : List Block) → lowest_purged k p (rename f g bs) ≡ rename f g (lowest_purged k q bs)
lowest_purged-rename f g p q same zero bs = refl
lowest_purged-rename f g p q same (suc k) [] = refl
lowest_purged-rename f g p q same (suc k) (b ∷ bs) =
    rw (
      same b,
      is_purgeable-rename f g b,
      size-rename f g b,
      lowest_purged-rename f g p q same k bs,
      lowest_purged-rename f g p q
          same (suc k) bs,
    ) (cases (is_purgeable b && not (q b)))
  where
    cases : (t : Bool) → cond t (Free (size b) ∷ rename f g (lowest_purged k q bs))
        (rename_block f g b ∷ rename f g (lowest_purged (suc k) q bs))
        ≡ rename f g (cond t (Free (size b) ∷ lowest_purged k q bs) (b ∷ lowest_purged (suc k) q bs))
    cases true = refl
    cases false = refl

pub purge-rename : (f g : ℕ → ℕ) (p q : Block → Bool) → ((b : Block) → p (rename_block f g b) ≡ q b)
    → (k : ℕ) (bs : List Block) → purge k p (rename f g bs) ≡ rename f g (purge k q bs)
purge-rename f g p q same k bs = ap tidy (lowest_purged-rename f g p q same k bs) ∙ tidy-rename f g
    (lowest_purged k q bs)

-- the least answer of renamed trials is the renamed least answer
pub least-rename : (f g : ℕ → ℕ) (a b : ℕ → Option (List Block)) → ((k : ℕ) → a k ≡ option_map (rename f g) (b k))
    → (n : ℕ) → least a n ≡ option_map (rename f g) (least b n)
least-rename f g a b same zero = same zero
least-rename f g a b same (suc n) = rw (
  same zero,
  least-rename f g (λ k. a (suc k)) (λ k. b (suc k))
      (λ k. same (suc k)) n,
) (cases (b zero))
  where
    cases : (o : Option (List Block)) → option_or (option_map (rename f g) o)
        (option_map (rename f g) (least (λ k. b (suc k)) n)) ≡ option_map (rename f g)
        (option_or o (least (λ k. b (suc k)) n))
    cases None = refl
    cases (Some zone) = refl

-- room for a block sees names only in what is spared and in the trial
pub room-rename : (f g : ℕ → ℕ) (p q : Block → Bool) (try try' : List Block → Option (List Block))
    → ((b : Block) → p (rename_block f g b) ≡ q b) → ((bs : List Block)
    → try (rename f g bs) ≡ option_map (rename f g) (try' bs))
    → (bs : List Block) → room try p (rename f g bs) ≡ option_map (rename f g) (room try' q bs)
room-rename f g p q try try' same tries bs =
    ap (least (λ k. try (purge k p (rename f g bs)))) (counts bs)
    ∙ least-rename f g _ _ (λ k. ap try (purge-rename f g p q same k bs) ∙ tries (purge k q bs)) (count_of q bs)
  where
    counts : (bs : List Block) → count_of p (rename f g bs) ≡ count_of q bs
    counts bs = total-rename f g (λ b. cond (is_purgeable b && not (p b)) 1 0)
        (λ b. cond (is_purgeable b && not (q b)) 1 0)
        (λ b. rw (is_purgeable-rename f g b, same b) refl) bs

pub taken-rename : (f g : ℕ → ℕ) (d : ℕ) (bs : List Block) → taken d (rename f g bs)
    ≡ option_map (rename f g) (taken d bs)
taken-rename f g d [] = refl
taken-rename f g d (b ∷ bs) = rw (is_room-rename f g d b, size-rename f g b) (cases (is_room d b))
  where
    cases : (t : Bool) → cond t (Some (free (size b - d) ++ rename f g bs)) None
        ≡ option_map (rename f g) (cond t (Some (free (size b - d) ++ bs)) None)
    cases true = ap Some (ap (λ l. l ++ rename f g bs) (sym (free-rename f g (size b - d)))
        ∙ sym (map-append (rename_block f g) (free (size b - d)) bs))
    cases false = refl

-- a zone that goes on with another list above
above-rename : (f g : ℕ → ℕ) (new : Block) (below : List Block) (o : Option (List Block))
    → option_map (λ above. rename f g below ++ rename_block f g new ∷ above) (option_map (rename f g) o)
    ≡ option_map (rename f g) (option_map (λ above. below ++ new ∷ above) o)
above-rename f g new below None = refl
above-rename f g new below (Some above) = ap Some (sym (map-append (rename_block f g) below (new ∷ above)))

pub grow_up-rename : (f g : ℕ → ℕ) (new : Block) (s : Spot) → grow_up (rename_block f g new) (rename_spot f g s)
    ≡ option_map (rename f g) (grow_up new s)
grow_up-rename f g new s = rw (
  size-rename f g new,
  size-rename f g s.here,
  taken-rename f g (size new - size s.here)
      s.above,
) (above-rename f g new s.below (taken (growth new s) s.above))

pub freed-rename : (f g : ℕ → ℕ) (p q : Block → Bool) → ((b : Block) → p (rename_block f g b) ≡ q b) → (bs : List Block)
    → freed p (rename f g bs) ≡ rename f g (freed q bs)
freed-rename f g p q same [] = refl
freed-rename f g p q same (b ∷ bs) = rw (same b, size-rename f g b, freed-rename f g p q same bs) (cases (q b))
  where
    cases : (t : Bool) → cond t (Free (size b)) (rename_block f g b) ∷ rename f g (freed q bs)
        ≡ rename_block f g (cond t (Free (size b)) b) ∷ rename f g (freed q bs)
    cases true = refl
    cases false = refl

pub move_away-rename : (f g : ℕ → ℕ) (p q : Block → Bool) → ((b : Block) → p (rename_block f g b) ≡ q b)
    → (new : Block) (bs : List Block)
    → move_away p (rename_block f g new) (rename f g bs) ≡ option_map (rename f g) (move_away q new bs)
move_away-rename f g p q same new bs =
    ap (option_map moved) (ap (λ n. place n (rename f g bs)) (size-rename f g new) ∙ place-rename f g (size new) bs)
    ∙ cases (place (size new) bs)
  where
    moved : Spot → List Block
    moved s = filled (rename_block f g new) (record { below = freed p s.below; here = s.here; above = freed p s.above })

    cases : (o : Option Spot) → option_map moved (option_map (rename_spot f g) o)
        ≡ option_map (rename f g) (option_map (λ (s : Spot). filled new
        (record { below = freed q s.below; here = s.here; above = freed q s.above })) o)
    cases None = refl
    cases (Some s) = rw (freed-rename f g p q same s.below, freed-rename f g p q same s.above)
        (ap Some (filled-rename f g new (record { below = freed q s.below; here = s.here; above = freed q s.above })))

pub has-rename : (f g : ℕ → ℕ) (p q : Block → Bool) → ((b : Block) → p (rename_block f g b) ≡ q b) → (bs : List Block)
    → has p (rename f g bs) ≡ has q bs
has-rename f g p q same [] = refl
has-rename f g p q same (b ∷ bs) = rw (same b, has-rename f g p q same bs) refl

pub others-rename : (f g : ℕ → ℕ) (p q : Block → Bool) → ((b : Block) → p (rename_block f g b) ≡ q b)
    → (bs : List Block) → others p (rename f g bs) ≡ rename f g (others q bs)
others-rename f g p q same bs = filter-rename f g (λ b. is_mover b && not (p b)) (λ b. is_mover b && not (q b))
    (λ b. rw (is_mover-rename f g b, same b) refl) bs

pub grow_last-rename : (f g : ℕ → ℕ) (p q : Block → Bool) → ((b : Block) → p (rename_block f g b) ≡ q b)
    → (new : Block) (d : ℕ) (bs : List Block)
    → grow_last p (rename_block f g new) d (rename f g bs) ≡ option_map (rename f g) (grow_last q new d bs)
grow_last-rename f g p q same new d bs =
    change_run-rename f g (λ run. has p run && has_free d run) (λ run. has q run && has_free d run)
    (λ run. others p run ++ rename_block f g new ∷ free (free_sum run - d))
    (λ run. others q run ++ new ∷ free (free_sum run - d))
    (λ run. rw (has-rename f g p q same run, has_free-rename f g d run) refl)
    (λ run. rw (others-rename f g p q same run, total-rename f g free_of free_of (free_of-rename f g) run)
    (ap (λ l. rename f g (others q run) ++ rename_block f g new ∷ l) (sym (free-rename f g (free_sum run - d)))
    ∙ sym (map-append (rename_block f g) (others q run) (new ∷ free (free_sum run - d)))))
    bs

pub grow_mover-rename : (f g : ℕ → ℕ) (p q : Block → Bool) → ((b : Block) → p (rename_block f g b) ≡ q b)
    → (new : Block) (bs : List Block)
    → grow_mover p (rename_block f g new) (rename f g bs) ≡ option_map (rename f g) (grow_mover q new bs)
grow_mover-rename f g p q same new bs = rw (spot-rename f g p q same bs) (cases (spot q bs))
  where
    choice : (a b c : Option (List Block)) → option_or (option_map (rename f g) a)
        (option_or (option_map (rename f g) b) (option_map (rename f g) c))
        ≡ option_map (rename f g) (option_or a (option_or b c))
    choice (Some a) b c = refl
    choice None (Some b) c = refl
    choice None None c = refl

    cases : (o : Option Spot) → option_and_then (λ (s : Spot). option_or (grow_up (rename_block f g new) s)
        (option_or (move_away p (rename_block f g new) (rename f g bs))
        (grow_last p (rename_block f g new) (growth (rename_block f g new) s) (rename f g bs))))
        (option_map (rename_spot f g) o)
        ≡ option_map (rename f g) (option_and_then (λ (s : Spot). option_or (grow_up new s)
        (option_or (move_away q new bs) (grow_last q new (growth new s) bs))) o)
    cases None = refl
    cases (Some s) =
        ap (λ a. option_or a (option_or (move_away p (rename_block f g new) (rename f g bs))
        (grow_last p (rename_block f g new) (growth (rename_block f g new) (rename_spot f g s)) (rename f g bs))))
        (grow_up-rename f g new s)
        ∙ ap (λ b. option_or (option_map (rename f g) (grow_up new s))
        (option_or b (grow_last p (rename_block f g new) (growth (rename_block f g new) (rename_spot f g s))
        (rename f g bs)))) (move_away-rename f g p q same new bs)
        ∙ ap (λ n. option_or (option_map (rename f g) (grow_up new s))
        (option_or (option_map (rename f g) (move_away q new bs))
        (grow_last p (rename_block f g new) n (rename f g bs))))
        (ap (λ n. n - size (rename_block f g s.here)) (size-rename f g new)
        ∙ ap (λ n. size new - n) (size-rename f g s.here))
        ∙ ap (λ c. option_or (option_map (rename f g) (grow_up new s))
        (option_or (option_map (rename f g) (move_away q new bs)) c))
        (grow_last-rename f g p q same new (growth new s) bs)
        ∙ choice (grow_up new s) (move_away q new bs) (grow_last q new (growth new s) bs)
