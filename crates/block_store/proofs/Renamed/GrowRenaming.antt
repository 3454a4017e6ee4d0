use Rattle.block_store.proofs.Cited.{◌≡◌, ℕ, ◌-◌, Bool, true, false, List, ◌∷◌, ◌++◌, refl, sym, ◌∙◌, ap, cond, map, Option, Some, None}
use Rattle.block_store.proofs.Cited.{nat_le, map-append, option_map, option_or, option_and_then, Block, Free, Nonrelocatable, Masters}
use Rattle.block_store.proofs.Cited.{Relocatable, size, free_sum, free_of, free, rename, rename_block, is_mover, resized, Stretch, segments}
use Rattle.block_store.proofs.Cited.{joined, has_free, movers, Spot, rename_spot, spot, filled, room, growth, grow_up, taken_low}
use Rattle.block_store.proofs.Cited.{grow_nonrelocatable, grow_mover, grow_at, grow}
use Rattle.block_store.proofs.Renamed.Renaming.{size-rename, free_of-rename, is_mover-rename, total-rename}
use Rattle.block_store.proofs.Renamed.Renaming.{filter-rename, free-rename, spot-rename, filled-rename, rename_stretch}
use Rattle.block_store.proofs.Renamed.Renaming.{segments-rename, joined-rename, has_free-rename, room-rename}
use Rattle.block_store.proofs.Renamed.Renaming.{grow_up-rename, grow_mover-rename}

-- Growth sees no names.

pub resized-rename : (f g : ℕ → ℕ) (n : ℕ) (b : Block) → resized n (rename_block f g b) ≡ rename_block f g (resized n b)
resized-rename f g n (Free m) = refl
resized-rename f g n (Nonrelocatable id content) = refl
resized-rename f g n Masters = refl
resized-rename f g n (Relocatable id flags content) = refl

growth-rename : (f g : ℕ → ℕ) (new : Block) (s : Spot) → growth (rename_block f g new) (rename_spot f g s)
    ≡ growth new s
growth-rename f g new s = ap (λ n. n - size (rename_block f g s.here)) (size-rename f g new)
    ∙ ap (λ n. size new - n) (size-rename f g s.here)

-- a trial that leaves a run as it is
run-rename : (f g : ℕ → ℕ) (d : ℕ) (run : List Block) → cond (has_free d (rename f g run)) (Some (rename f g run)) None
    ≡ option_map (rename f g) (cond (has_free d run) (Some run) None)
run-rename f g d run = ap (λ t. cond t (Some (rename f g run)) None) (has_free-rename f g d run)
    ∙ cases (has_free d run)
  where
    cases : (t : Bool) → cond t (Some (rename f g run)) None ≡ option_map (rename f g) (cond t (Some run) None)
    cases true = refl
    cases false = refl

-- a run packed upward without so many of its Free bytes
packed-rename : (f g : ℕ → ℕ) (d : ℕ) (run : List Block) (rest : List Stretch)
    → joined (movers (rename f g run) ++ free (free_sum (rename f g run) - d)) (map (rename_stretch f g) rest)
    ≡ rename f g (joined (movers run ++ free (free_sum run - d)) rest)
packed-rename f g d run rest =
    ap (λ l. joined (l ++ free (free_sum (rename f g run) - d)) (map (rename_stretch f g) rest))
    (filter-rename f g is_mover is_mover (is_mover-rename f g) run)
    ∙ ap (λ n. joined (rename f g (movers run) ++ free (n - d)) (map (rename_stretch f g) rest))
    (total-rename f g free_of free_of (free_of-rename f g) run)
    ∙ ap (λ l. joined (rename f g (movers run) ++ l) (map (rename_stretch f g) rest))
    (sym (free-rename f g (free_sum run - d)))
    ∙ ap (λ l. joined l (map (rename_stretch f g) rest)) (sym (map-append (rename_block f g) (movers run)
    (free (free_sum run - d))))
    ∙ joined-rename f g (movers run ++ free (free_sum run - d)) rest

pub taken_low-rename : (f g : ℕ → ℕ) (p q : Block → Bool) → ((b : Block) → p (rename_block f g b) ≡ q b)
    → (d : ℕ) (above : List Block) → taken_low d p (rename f g above) ≡ option_map (rename f g) (taken_low d q above)
taken_low-rename f g p q same d above =
    rw (segments-rename f g above)
    (ap (option_map (λ run. joined (movers run ++ free (free_sum run - d))
    (map (rename_stretch f g) (segments above).rest)))
    (room-rename f g p q (λ run. cond (has_free d run) (Some run) None) (λ run. cond (has_free d run) (Some run) None)
    same (run-rename f g d) (segments above).first)
    ∙ cases (room (λ run. cond (has_free d run) (Some run) None) q (segments above).first))
  where
    cases : (o : Option (List Block)) → option_map (λ run. joined (movers run ++ free (free_sum run - d))
        (map (rename_stretch f g) (segments above).rest)) (option_map (rename f g) o)
        ≡ option_map (rename f g) (option_map (λ run. joined (movers run ++ free (free_sum run - d))
        (segments above).rest) o)
    cases None = refl
    cases (Some run) = ap Some (packed-rename f g d run (segments above).rest)

pub grow_nonrelocatable-rename : (f g : ℕ → ℕ) (p q : Block → Bool) → ((b : Block) → p (rename_block f g b) ≡ q b)
    → (new : Block) (s : Spot)
    → grow_nonrelocatable p (rename_block f g new) (rename_spot f g s) ≡ option_map (rename f g) (grow_nonrelocatable q new s)
grow_nonrelocatable-rename f g p q same new s =
    ap (λ o. option_or o (option_map (λ above. rename f g s.below ++ rename_block f g new ∷ above)
    (taken_low (growth (rename_block f g new) (rename_spot f g s)) p (rename f g s.above))))
    (grow_up-rename f g new s)
    ∙ ap (λ n. option_or (option_map (rename f g) (grow_up new s))
    (option_map (λ above. rename f g s.below ++ rename_block f g new ∷ above) (taken_low n p (rename f g s.above))))
    (growth-rename f g new s)
    ∙ ap (λ o. option_or (option_map (rename f g) (grow_up new s))
    (option_map (λ above. rename f g s.below ++ rename_block f g new ∷ above) o))
    (taken_low-rename f g p q same (growth new s) s.above)
    ∙ choice (grow_up new s) (taken_low (growth new s) q s.above)
  where
    choice : (a o : Option (List Block)) → option_or (option_map (rename f g) a)
        (option_map (λ above. rename f g s.below ++ rename_block f g new ∷ above) (option_map (rename f g) o))
        ≡ option_map (rename f g) (option_or a (option_map (λ above. s.below ++ new ∷ above) o))
    choice (Some a) o = refl
    choice None None = refl
    choice None (Some above) = ap Some (sym (map-append (rename_block f g) s.below (new ∷ above)))

pub grow_at-rename : (f g : ℕ → ℕ) (p q r t : Block → Bool) → ((b : Block) → p (rename_block f g b) ≡ q b)
    → ((b : Block) → r (rename_block f g b) ≡ t b) → (new : Block) (zone : List Block) (s : Spot)
    → grow_at p r (rename_block f g new) (rename f g zone) (rename_spot f g s)
    ≡ option_map (rename f g) (grow_at q t new zone s)
grow_at-rename f g p q r t same spares new zone s =
    ap (λ u. grown u (is_mover (rename_block f g s.here))) (ap (λ n. nat_le n (size (rename_block f g s.here)))
    (size-rename f g new) ∙ ap (nat_le (size new)) (size-rename f g s.here))
    ∙ ap (grown (nat_le (size new) (size s.here))) (is_mover-rename f g s.here)
    ∙ cases (nat_le (size new) (size s.here)) (is_mover s.here)
  where
    grown : Bool → Bool → Option (List Block)
    grown u v = cond u (Some (filled (rename_block f g new) (rename_spot f g s)))
        (cond v (room (grow_mover p (rename_block f g new)) r (rename f g zone))
        (grow_nonrelocatable r (rename_block f g new) (rename_spot f g s)))

    cases : (u v : Bool) → grown u v
        ≡ option_map (rename f g) (cond u (Some (filled new s)) (cond v (room (grow_mover q new) t zone)
        (grow_nonrelocatable t new s)))
    cases true v = ap Some (filled-rename f g new s)
    cases false true = room-rename f g r t (grow_mover p (rename_block f g new)) (grow_mover q new) spares
        (grow_mover-rename f g p q same new) zone
    cases false false = grow_nonrelocatable-rename f g r t spares new s

pub grow-rename : (f g : ℕ → ℕ) (p q r t : Block → Bool) → ((b : Block) → p (rename_block f g b) ≡ q b)
    → ((b : Block) → r (rename_block f g b) ≡ t b) → (n : ℕ) (zone : List Block)
    → grow p r n (rename f g zone) ≡ option_map (rename f g) (grow q t n zone)
grow-rename f g p q r t same spares n zone = ap (option_and_then
    (λ s. grow_at p r (resized n s.here) (rename f g zone) s)) (spot-rename f g p q same zone) ∙ cases (spot q zone)
  where
    cases : (o : Option Spot) → option_and_then (λ (s : Spot). grow_at p r (resized n s.here) (rename f g zone) s)
        (option_map (rename_spot f g) o) ≡ option_map (rename f g)
        (option_and_then (λ (s : Spot). grow_at q t (resized n s.here) zone s) o)
    cases None = refl
    cases (Some s) = ap (λ b. grow_at p r b (rename f g zone) (rename_spot f g s)) (resized-rename f g n s.here)
        ∙ grow_at-rename f g p q r t same spares (resized n s.here) zone s
