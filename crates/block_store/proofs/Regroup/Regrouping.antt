use Rattle.block_store.proofs.Cited.{◌≡◌, ℕ, ◌-◌, zero, suc, Bool, true, false, not, ◌&&◌, ◌==◌, List, [], ◌∷◌, ◌++◌, refl, sym, ◌∙◌, ap}
use Rattle.block_store.proofs.Cited.{subst, cond, Option, Some, None, filter, nat_le, append_assoc, append-nil, none-some, same_Some}
use Rattle.block_store.proofs.Cited.{cond-true, cond-false, option_map, Block, Free, Nonrelocatable, Masters, Relocatable, sizes, free_sum}
use Rattle.block_store.proofs.Cited.{free, is_mover, add, tidy, in_run, others, high, settle, RunSpot, run_raised, run_from, run_at}
use Rattle.block_store.proofs.Cited.{segments, Segments, joined, Stretch, Loose}
use Rattle.block_store.proofs.Zone.Apart.{Apart, tidy-apart, apart-tidied, apart-next, longer, barrier-alone}
use Rattle.block_store.proofs.Zone.Apart.{apart-above}
use Rattle.block_store.proofs.Zone.Zones.{joined-segments}
use Rattle.block_store.proofs.Regroup.Parts.{AreParts, in-parts, segments-part, segments-joined, in-free}
use Rattle.block_store.proofs.Regroup.Packed.{loose-append}
use Rattle.block_store.proofs.Zone.Passing.{filter-keeps}
use Rattle.block_store.proofs.Zone.Joining.{apart-front}

-- Another order of the blocks of a run, in the zone.

pub all-filter : (p : Block → Bool) (xs : List Block) → Loose xs → Loose (filter p xs)
all-filter = filter-keeps Loose tt (λ b bs a. a.1) (λ b bs cs a rest. (a.0, rest))

-- the same spot with another run
abbrev pub changed : List Block → RunSpot → RunSpot
changed run r = record r { run = run }

-- the zone with another run at the spot
abbrev pub put_run : List Block → RunSpot → List Block
put_run run r = r.below ++ run ++ r.above

regroup : (run : List Block) (b : Block) (below run' above : List Block)
    → ((run ++ b ∷ []) ++ below) ++ run' ++ above ≡ run ++ b ∷ (below ++ run' ++ above)
regroup run b below run' above =
    ap (λ l. l ++ above) (append_assoc (run ++ b ∷ []) below run') ∙ append_assoc (run ++ b ∷ []) (below ++ run') above
    ∙ append_assoc run (b ∷ []) (below ++ run' ++ above)

-- what is known of the run that stands at a place
pub record IsRun (place : ℕ) (run : List Block) (parts : List Stretch) (r : RunSpot) : Type 0 where
  -- another run may stand there
  pub change : (run' : List Block) → Loose run' → run_at place (put_run run' r) ≡ Some (changed run' r)
  pub apart : Apart (joined run parts) → (run' : List Block) → Apart run' → Apart (put_run run' r)

add-barrier : (b c : Block) (l : List Block) → in_run c ≡ false → add b [] ≡ b ∷ [] → add b (c ∷ l) ≡ b ∷ c ∷ l
add-barrier (Free zero) c l out e = absurd (longer (Free zero) [] e)
add-barrier (Free (suc n)) (Free k) l out e = let f : true ≡ false = out in cc
add-barrier (Free (suc n)) (Nonrelocatable id content) l out e = refl
add-barrier (Free (suc n)) Masters l out e = refl
add-barrier (Free (suc n)) (Relocatable id flags content) l out e = refl
add-barrier (Nonrelocatable id content) c l out e = refl
add-barrier Masters c l out e = refl
add-barrier (Relocatable id flags content) c l out e = refl

-- a run, a block that ends it, and what is above
apart-run : (run : List Block) (b : Block) (above : List Block) → Apart run → in_run b ≡ false → Apart above
    → Apart (run ++ b ∷ above)
apart-run [] b above a out c = (barrier-alone b above out, c)
apart-run (x ∷ []) b above a out c = (add-barrier x b above out a.0, (barrier-alone b above out, c))
apart-run (x ∷ y ∷ run) b above a out c = (
  apart-next x y run (run ++ b ∷ above) a.0,
  apart-run (y ∷ run) b above a.1
      out c,
)

run_from-is : (place : ℕ) (run : List Block) (parts : List Stretch) (r : RunSpot) → Loose run → AreParts parts
    → run_from place run parts ≡ Some r → IsRun place run parts r
run_from-is place run [] r all each e = cases (place == 0) refl e
  where
    here : RunSpot
    here = record { below = []; run = run; above = [] }

    lowest : (place == 0) ≡ true → IsRun place run [] here
    lowest is = record {
      change = λ run' all'. ap (run_at place) (append-nil run')
          ∙ ap (λ (s : Segments). run_from place s.first s.rest) (segments-joined run' [] all' tt)
          ∙ cond-true (place == 0) _ _ is;
      apart = λ a run' a'. subst Apart (sym (append-nil run')) a';
    }

    cases : (t : Bool) → (place == 0) ≡ t → cond t (Some here) None ≡ Some r → IsRun place run [] r
    cases true is e = subst (IsRun place run []) (same_Some _ _ e) (lowest is)
    cases false is e = absurd (none-some _ e)
run_from-is place run (p ∷ parts) r all each e =
    cases (place == 0) refl (nat_le (sizes low) place) refl (run_from (place - sizes low) p.run parts)
    (λ r' e'. run_from-is (place - sizes low) p.run parts r' each.1 each.2 e') e
  where
    low : List Block
    low = run ++ p.barrier ∷ []

    here : RunSpot
    here = record { below = []; run = run; above = p.barrier ∷ joined p.run parts }

    lowest : (place == 0) ≡ true → IsRun place run (p ∷ parts) here
    lowest is = record {
      change = λ run' all'. ap (λ (s : Segments). run_from place s.first s.rest)
          (segments-joined run' (p ∷ parts) all' each) ∙ cond-true (place == 0) _ _ is;
      apart = λ a run' a'. apart-run run' p.barrier (joined p.run parts) a' each.0
          (apart-above run (p.barrier ∷ joined p.run parts) a).1;
    }

    higher : (place == 0) ≡ false → nat_le (sizes low) place ≡ true → (r' : RunSpot)
        → IsRun (place - sizes low) p.run parts r' → IsRun place run (p ∷ parts) (run_raised low r')
    higher not_is fits r' known = record {
      change = λ run' all'.
          ap (run_at place) (regroup run p.barrier r'.below run' r'.above)
          ∙ ap (λ (s : Segments). run_from place s.first s.rest) (segments-part run p.barrier (put_run run' r') all
          each.0)
          ∙ cond-false (place == 0) _ _ not_is ∙ cond-true (nat_le (sizes low) place) _ _ fits
          ∙ ap (option_map (run_raised low)) (known.change run' all');
      apart = λ a run' a'.
          subst Apart (sym (regroup run p.barrier r'.below run' r'.above))
          (apart-run run p.barrier (put_run run' r') (apart-front run (p.barrier ∷ joined p.run parts) a) each.0
          (known.apart (apart-above run (p.barrier ∷ joined p.run parts) a).1 run' a'));
    }

    cases : (t : Bool) → (place == 0) ≡ t → (u : Bool) → nat_le (sizes low) place ≡ u → (o : Option RunSpot)
        → ((r' : RunSpot) → o ≡ Some r' → IsRun (place - sizes low) p.run parts r')
        → cond t (Some here) (cond u (option_map (run_raised low) o) None) ≡ Some r → IsRun place run (p ∷ parts) r
    cases true is u fits o known e = subst (IsRun place run (p ∷ parts)) (same_Some _ _ e) (lowest is)
    cases false is true fits None known e = absurd (none-some _ e)
    cases false is true fits (Some r') known e = subst (IsRun place run (p ∷ parts)) (same_Some _ _ e)
        (higher is fits r' (known r' refl))
    cases false is false fits o known e = absurd (none-some _ e)

known : (place : ℕ) (zone : List Block) (r : RunSpot) → run_at place zone ≡ Some r
    → IsRun place (segments zone).first (segments zone).rest r
known place zone r e = run_from-is place (segments zone).first (segments zone).rest r (in-parts zone).0
    (in-parts zone).1 e

-- another run stands at the same place
pub run_at-change : (place : ℕ) (zone : List Block) (r : RunSpot) → run_at place zone ≡ Some r → (run' : List Block)
    → Loose run' → run_at place (put_run run' r) ≡ Some (changed run' r)
run_at-change place zone r e run' all' = (known place zone r e).change run' all'

-- and nothing is to be joined
pub tidy-change : (place : ℕ) (zone : List Block) (r : RunSpot) → run_at place zone ≡ Some r → tidy zone ≡ zone
    → (run' : List Block) → Apart run' → tidy (put_run run' r) ≡ put_run run' r
tidy-change place zone r e tidied run' a' =
    tidy-apart (put_run run' r) ((known place zone r e).apart (subst Apart (sym (joined-segments zone))
    (apart-tidied zone tidied)) run' a')

-- a block that passes a test that no Free block passes stands alone
pub alone : (p : Block → Bool) → ((n : ℕ) → p (Free n) ≡ false) → (b : Block) (above : List Block) → p b ≡ true
    → add b above ≡ b ∷ above
alone p none (Free n) above e = let f : true ≡ false = sym e ∙ none n in cc
alone p none (Nonrelocatable id content) above e = refl
alone p none Masters above e = refl
alone p none (Relocatable id flags content) above e = refl

pub apart-filter : (p : Block → Bool) → ((n : ℕ) → p (Free n) ≡ false) → (run above : List Block) → Apart above
    → Apart (filter p run ++ above)
apart-filter p none [] above a = a
apart-filter p none (b ∷ run) above a = cases (p b) refl (apart-filter p none run above a)
  where
    cases : (t : Bool) → p b ≡ t → Apart (filter p run ++ above)
        → Apart (cond t (b ∷ filter p run) (filter p run) ++ above)
    cases true e rest = (alone p none b (filter p run ++ above) e, rest)
    cases false e rest = rest

add-filter : (n : ℕ) (p : Block → Bool) → ((n : ℕ) → p (Free n) ≡ false) → (run : List Block)
    → add (Free (suc n)) (filter p run) ≡ Free (suc n) ∷ filter p run
add-filter n p none [] = refl
add-filter n p none (b ∷ run) = cases (p b) refl (add-filter n p none run)
  where
    one : (b : Block) → p b ≡ true → (l : List Block) → add (Free (suc n)) (b ∷ l) ≡ Free (suc n) ∷ b ∷ l
    one (Free m) e l = let f : true ≡ false = sym e ∙ none m in cc
    one (Nonrelocatable id content) e l = refl
    one Masters e l = refl
    one (Relocatable id flags content) e l = refl

    cases : (t : Bool) → p b ≡ t → add (Free (suc n)) (filter p run) ≡ Free (suc n) ∷ filter p run
        → add (Free (suc n)) (cond t (b ∷ filter p run) (filter p run))
        ≡ Free (suc n) ∷ cond t (b ∷ filter p run) (filter p run)
    cases true e rest = one b e (filter p run)
    cases false e rest = rest

apart-filtered : (p : Block → Bool) → ((n : ℕ) → p (Free n) ≡ false) → (run : List Block) → Apart (filter p run)
apart-filtered p none run = subst Apart (append-nil (filter p run)) (apart-filter p none run [] tt)

apart-free : (n : ℕ) (p : Block → Bool) → ((n : ℕ) → p (Free n) ≡ false) → (run : List Block)
    → Apart (free n ++ filter p run)
apart-free zero p none run = apart-filtered p none run
apart-free (suc n) p none run = (add-filter n p none run, apart-filtered p none run)

-- the blocks of a packed run stand apart
pub apart-settle : (run : List Block) → Apart (settle run)
apart-settle run = apart-filter is_mover (λ n. refl) run (free (free_sum run))
    (subst Apart (append-nil (free (free_sum run))) (apart-free (free_sum run) is_mover (λ n. refl) []))

pub apart-high : (test : Block → Bool) → ((n : ℕ) → test (Free n) ≡ false) → (run : List Block) → Apart (high test run)
apart-high test none run =
    subst Apart (sym (append_assoc (others test run) (free (free_sum run)) (filter test run)))
    (apart-filter (λ b. is_mover b && not (test b)) (λ n. refl) run (free (free_sum run) ++ filter test run)
    (apart-free (free_sum run) test none run))

pub all-high : (test : Block → Bool) (run : List Block) → Loose run → Loose (high test run)
all-high test run all =
    loose-append (others test run ++ free (free_sum run)) (filter test run)
    (loose-append (others test run) (free (free_sum run)) (all-filter (λ b. is_mover b && not (test b)) run all)
    (in-free (free_sum run)))
    (all-filter test run all)
