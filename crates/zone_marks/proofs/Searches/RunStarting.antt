-- A search for a run that begins above blocks that stay.
use Rattle.zone_marks.proofs.Marks.Lowering.{begins-end}
use Rattle.zone_marks.proofs.Cited.{◌≡◌, ℕ, ◌+◌, ◌≤◌, Bool, true, false, map, Option, Some, None, List, [], ◌∷◌, ◌++◌, refl, sym, ap, ◌∙◌}
use Rattle.zone_marks.proofs.Cited.{subst, arith, map-append, Block, size, free_of, met_after, scan_runs, FindsLowestRun, count_of}
use Rattle.zone_marks.proofs.Cited.{has_free, most_purges, opened, purged, spared, RunScan, Sparing, scan-is, finds_run, total-append}
use Rattle.zone_marks.proofs.Cited.{serves, Begins, zone_in, MayStart, NoneGoes, Stays, IsKnown, begun, finds_in, finds_purging, left_in}
use Rattle.zone_marks.proofs.Cited.{left-zone, all_purged, emptied}
use Rattle.block_store.specs.declared.sparing.Sparing.TheVariants as sparing
use Rattle.zone_marks.proofs.Bounds.Going.{count-none}
use Rattle.zone_marks.proofs.Marks.Passing.{at-left, begins-left}
use Rattle.zone_marks.proofs.Stretches.Fewest.{first-is}
use Rattle.zone_marks.proofs.Stretches.Monoid.{join-unit_left}
use Rattle.zone_marks.proofs.Stretches.Searching.{emptied-none, past-short, scan-emptied}

-- what a search from the bottom finds
pub found-lowest : (bytes purges : ℕ) (n : Sparing) (xs : List ℕ) (zone : List Block) (found : Option ℕ)
    → purged purges n (zone_in xs) ≡ zone → found ≡ finds_purging bytes n (begun 0 purges) xs
    → FindsLowestRun (has_free bytes) zone found
found-lowest bytes purges n xs zone found z e =
    finds_run (has_free bytes) zone found (grind (arith, left-zone, scan-is))

-- with no purges left, it doesn't matter which blocks are spared
found-any : (bytes : ℕ) (sp sq : Block → Bool) (start free : ℕ) (met : Bool) (place : ℕ) (blocks : List Block)
    → scan_runs None bytes sp 0 start free met place blocks ≡ scan_runs None bytes sq 0 start free met place blocks
found-any bytes sp sq start free met place [] = refl
found-any bytes sp sq start free met place (b ∷ above) = cc (
  found-any bytes sp sq start (free + free_of b) (met_after None met b) (place + size b) above,
  found-any bytes sp sq (place + size b) 0 true (place + size b) above,
)

-- a search that is known goes on as one from the bottom does
pub known-same : (bytes to : ℕ) (xs : List ℕ) (r : RunScan) (k : IsKnown bytes to xs r) (above : List Block)
    → finds_in bytes sparing.Nothing (begun 0 0) (k.done ++ above) ≡ finds_in bytes sparing.Nothing r above
known-same bytes to xs r k above =
    let s = past-short bytes (spared sparing.Nothing) 0 0 0 k.done above in
    let up = k.piece.up in
    let is = k.is in
    let short = k.short in
    grind (arith, join-unit_left)

pub known-finds : (bytes to : ℕ) (xs : List ℕ) (r : RunScan) → IsKnown bytes to xs r
    → finds_purging bytes sparing.Nothing (begun 0 0) xs ≡ finds_purging bytes sparing.Nothing r xs
known-finds bytes to xs r k = let s = known-same bytes to xs r k (left_in r.place xs) in let p = k.piece.is in grind arith

module _ (xs : List ℕ) (from : ℕ) (m : MayStart from (zone_in xs)) (bytes purges : ℕ) (n : Sparing)
    (all : most_purges n (zone_in xs) ≤ purges) (plain : (zone : List Block) → opened n zone ≡ zone) (r : RunScan)
    (k : IsKnown bytes from xs r) where
  abbrev above : List Block
  above = left_in r.place xs

  abbrev each : Block → Block
  each = emptied (spared n)

  parts : zone_in xs ≡ k.done ++ above
  parts = sym (left-zone xs) ∙ k.piece.is

  -- none of the blocks below may be purged
  none-below : count_of (spared n) k.done ≤ 0
  none-below =
      let e = ap (count_of (spared n)) (sym (plain k.done)) ∙ count-none n _ 0 _
      (at-left (Stays m.bound) 0 _ _ (subst (NoneGoes m.bound) parts m.none)) (grind arith) in
      omega arith

  pub reached-lowest : (found : Option ℕ) → found
      ≡ finds_purging bytes n
      (record { left = purges; start = r.start; free = r.free; met = r.met; place = r.place }) xs
      → FindsLowestRun (has_free bytes) (all_purged n (zone_in xs)) found
  reached-lowest found e =
      let z : map each (opened n (zone_in xs)) ≡ k.done ++ map each above
      = grind (arith, map-append, parts, emptied-none, none-below) in
      finds_run (has_free bytes) (all_purged n (zone_in xs)) found
      (e ∙ sym (let few : count_of (spared n) above ≤ purges
      = omega (arith, all, ap (count_of (spared n)) (plain (zone_in xs) ∙ parts), total-append) in
      grind (arith, found-any, scan-emptied)) ∙ sym (known-same bytes from xs r k (map each above))
      ∙ ap (finds_in bytes sparing.Nothing (begun 0 0)) (sym z)
      ∙ scan-is None bytes sparing.Nothing 0 (map each (opened n (zone_in xs))))

-- where a run begins that has enough first
pub first_begins : (bytes run : ℕ) (n : Sparing) (xs : List ℕ)
    → FindsLowestRun (has_free bytes) (all_purged n (zone_in xs)) (Some run) → serves bytes n (zone_in xs) 0 ≡ false
    → Begins run 0 (zone_in xs)
first_begins bytes run n xs f u =
    let r = first-is bytes run n (zone_in xs) f u in let e = begins-end 0 r.low in grind (arith, begins-left)
