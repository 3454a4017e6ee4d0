use Rattle.zone_replay.proofs.Cited.{◌≡◌, ℕ, ◌+◌, List, [], ◌∷◌, map, max, refl, sym, ap, ◌∙◌, length, BTreeMap, get, Bor, nat_cmp, padded}
use Rattle.zone_replay.proofs.Cited.{Label, Block, Free, Nonrelocatable, Masters, Relocatable, rename, rename_block, total, Placed, largest}
use Rattle.zone_replay.proofs.Cited.{runs, seen, MASTERS_SIZE, total-rename, runs-rename, largest_free-rename, largest_run-rename, Running}
use Rattle.zone_replay.proofs.Cited.{Tag, Known, line, lines, could_be_free, largest_of, Owner, tag, tag_by, given, name_of, owner_of}
use Rattle.zone_replay.proofs.Cited.{named_by, block_lines, zone_lines}

-- A zone whose blocks are named by slot or place, and the zone with its blocks named by number.

-- the lines of the one are those of the other
pub lines-numbered : (by_place : Known) (known : ℕ → Tag) (f g : ℕ → ℕ)
    → ((slot : ℕ) → by_place.handle slot ≡ known (f slot)) → ((place : ℕ) → by_place.pointer place ≡ known (g place))
    → (place : ℕ) (zone : List Block) → Placed place zone
    → lines by_place place (map seen zone) ≡ block_lines known place (rename f g zone)
lines-numbered by_place known f g handles pointers place [] placed = refl
lines-numbered by_place known f g handles pointers place (Free n ∷ above) placed =
    ap (λ rest. line by_place place (seen (Free n)) ∷ rest)
    (lines-numbered by_place known f g handles pointers (place + n) above placed)
lines-numbered by_place known f g handles pointers place (Masters ∷ above) placed =
    ap (λ rest. line by_place place (seen Masters) ∷ rest)
    (lines-numbered by_place known f g handles pointers (place + MASTERS_SIZE) above placed)
lines-numbered by_place known f g handles pointers place (Nonrelocatable id content ∷ above) placed =
    (λ i. record (line by_place place (seen (Nonrelocatable id content))) {
      tag = (pointers place ∙ ap (λ p. known (g p)) (sym placed.0)) i;
    } ∷ lines-numbered by_place known f g handles pointers (place + padded (length content)) above placed.1 i)
lines-numbered by_place known f g handles pointers place (Relocatable id flags content ∷ above) placed =
    (λ i. record (line by_place place (seen (Relocatable id flags content))) { tag = handles id i }
    ∷ lines-numbered by_place known f g handles pointers (place + padded (length content)) above placed i)

-- and what could be allocated sees no names
purged-rename : (f g : ℕ → ℕ) (b : Block) → could_be_free (rename_block f g b) ≡ could_be_free b
purged-rename f g (Free n) = refl
purged-rename f g (Nonrelocatable id content) = refl
purged-rename f g Masters = refl
purged-rename f g (Relocatable id flags content) = refl

largest-runs : (f g : ℕ → ℕ) (rs : List (List Block))
    → largest (total could_be_free) (map (rename f g) rs) ≡ largest (total could_be_free) rs
largest-runs f g [] = refl
largest-runs f g (run ∷ rs) = ap (λ n. max n (largest (total could_be_free) (map (rename f g) rs)))
    (total-rename f g could_be_free could_be_free (purged-rename f g) run)
    ∙ ap (max (total could_be_free run)) (largest-runs f g rs)

pub largest-numbered : (f g : ℕ → ℕ) (zone : List Block) → largest_of zone ≡ largest_of (rename f g zone)
largest-numbered f g zone = sym (λ i. record {
  now = largest_free-rename f g zone i;
  compacted = largest_run-rename f g zone i;
  purged = (ap (largest (total could_be_free)) (runs-rename f g zone) ∙ largest-runs f g (runs zone)) i;
})

-- what maps have of the numbers of an application is what is known of them
pub lines-known : (names : BTreeMap ℕ (Bor Label)) (owners : BTreeMap ℕ Owner) (r : Running)
    → ((n : ℕ) → named_by (get nat_cmp names n) ≡ name_of n r.names)
    → ((n : ℕ) → get nat_cmp owners n ≡ owner_of n r.resources.chain) → (zone : List Block)
    → zone_lines (tag_by names owners) zone ≡ zone_lines (tag r) zone
lines-known names owners r named owned zone =
    ap (λ known. zone_lines known zone) (λ i n. record { name = named n i; owner = owned n i; number = given n })
