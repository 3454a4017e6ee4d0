use Rattle.block_store.proofs.Cited.{◌≡◌, ℕ, zero, suc, Bool, true, false, List, [], ◌∷◌, ◌++◌, refl, sym, ◌∙◌, ap, cond, append-nil}
use Rattle.block_store.proofs.Cited.{cond-true, cond-false, Block, Free, Nonrelocatable, Masters, Relocatable, free_sum, free, is_mover}
use Rattle.block_store.proofs.Cited.{in_run, Stretch, Segments, put_below, segments, joined, movers, settle, Loose}

-- A zone as its runs and the blocks that end them.

-- each part is a block that ends a run, and the run above it
abbrev pub AreParts : List Stretch → Type 0
AreParts [] = Unit {0}
AreParts (p ∷ parts) = (in_run p.barrier ≡ false) × (Loose p.run) × (AreParts parts)

-- a zone is cut into such parts
pub in-parts : (zone : List Block) → (Loose (segments zone).first) × (AreParts (segments zone).rest)
in-parts [] = (tt, tt)
in-parts (b ∷ above) = cases (in_run b) refl (segments above) (in-parts above)
  where
    cases : (t : Bool) → in_run b ≡ t → (s : Segments) → (Loose s.first) × (AreParts s.rest)
        → let put : Segments = cond t (record { first = b ∷ s.first; rest = s.rest })
        (record { first = []; rest = record { barrier = b; run = s.first } ∷ s.rest }) in
        (Loose put.first) × (AreParts put.rest)
    cases true e s all = ((e, all.0), all.1)
    cases false e s all = (tt, (e, all.0, all.1))

segments-run : (run above : List Block) → Loose run → segments (run ++ above)
    ≡ record { first = run ++ (segments above).first; rest = (segments above).rest }
segments-run [] above r = refl
segments-run (b ∷ run) above r = ap (put_below b) (segments-run run above r.1) ∙ cond-true (in_run b) _ _ r.0

pub segments-part : (run : List Block) (b : Block) (above : List Block) → Loose run → in_run b ≡ false
    → segments (run ++ b ∷ above) ≡ record {
      first = run;
      rest = record { barrier = b; run = (segments above).first }
          ∷ (segments above).rest;
    }
segments-part run b above r e =
    segments-run run (b ∷ above) r
    ∙ ap (λ (s : Segments). let t : Segments = record { first = run ++ s.first; rest = s.rest } in
    t) (cond-false (in_run b) _ _ e)
    ∙ ap (λ l. let t : Segments = record {
      first = l;
      rest = record { barrier = b; run = (segments above).first }
          ∷ (segments above).rest;
    } in t) (append-nil run)

pub segments-alone : (run : List Block) → Loose run → segments run ≡ record { first = run; rest = [] }
segments-alone run r =
    ap segments (sym (append-nil run)) ∙ segments-run run [] r
    ∙ ap (λ l. let t : Segments = record { first = l; rest = [] } in t) (append-nil run)

pub segments-joined : (run : List Block) (parts : List Stretch) → Loose run → AreParts parts
    → segments (joined run parts) ≡ record { first = run; rest = parts }
segments-joined run [] r a = segments-alone run r
segments-joined run (p ∷ parts) r a =
    segments-part run p.barrier (joined p.run parts) r a.0
    ∙ ap (λ (s : Segments). let t : Segments = record {
      first = run;
      rest =
          record { barrier = p.barrier; run = s.first } ∷ s.rest;
    } in t) (segments-joined p.run parts a.1 a.2)

-- a settled run is a run
pub mover-in : (b : Block) → is_mover b ≡ true → in_run b ≡ true
mover-in (Free n) e = refl
mover-in (Nonrelocatable id content) e = e
mover-in Masters e = e
mover-in (Relocatable id flags content) e = e

in-movers : (run above : List Block) → Loose above → Loose (movers run ++ above)
in-movers [] above r = r
in-movers (b ∷ run) above r = cases (is_mover b) refl (in-movers run above r)
  where
    cases : (t : Bool) → is_mover b ≡ t → Loose (movers run ++ above)
        → Loose (cond t (b ∷ movers run) (movers run) ++ above)
    cases true e rest = (mover-in b e, rest)
    cases false e rest = rest

pub in-free : (n : ℕ) → Loose (free n)
in-free zero = tt
in-free (suc n) = (refl, tt)

pub in-settle : (run : List Block) → Loose (settle run)
in-settle run = in-movers run (free (free_sum run)) (in-free (free_sum run))
