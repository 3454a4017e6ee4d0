-- The run of a slot's block, by where a search for any run is that has come to the block or below it.
use Rattle.zone_marks.proofs.Cited.{◌≡◌, ℕ, ◌≤◌, ◌&&◌, Bool, false, Option, Some, List, [], ◌∷◌, ◌++◌, refl, sym, ap, ◌∙◌, arith, Block}
use Rattle.zone_marks.proofs.Cited.{is_relocatable, sizes, FindsLowestRun, scan_from, scan_runs, suits, Spot, spot, has, has_free, purged}
use Rattle.zone_marks.proofs.Cited.{spared, RunScan, Nothing, scan-is, suits-slot, finds_run, Apart, apart-size, IfSome, zone_in, left_in}
use Rattle.zone_marks.proofs.Cited.{left-zone, IsKnown}
use Rattle.zone_marks.proofs.Stretches.Monoid.{join-unit_left}
use Rattle.zone_marks.proofs.Stretches.Searching.{past-others}

pub slot-run : (bytes to : ℕ) (xs : List ℕ) (r : RunScan) (k : IsKnown bytes to xs r) (number p : ℕ) (found : Option ℕ)
    → has (is_relocatable number) k.done ≡ false → purged 0 Nothing (zone_in xs) ≡ zone_in xs
    → found ≡ scan_from (Some number) p (spared Nothing)
    (record { left = r.left; start = r.start; free = r.free; met = false; place = r.place }) (left_in r.place xs)
    → FindsLowestRun (λ run. has (is_relocatable number) run && has_free p run) (zone_in xs) found
slot-run bytes to xs r k number p found n z e =
    let zone : zone_in xs ≡ k.done ++ left_in r.place xs = sym (left-zone xs) ∙ k.piece.is in
    let t = past-others p (spared Nothing) number 0 0 0 k.done (left_in r.place xs) n in
    let s = rw z at (scan-is (Some number) p Nothing 0 (zone_in xs)) in
    let whole = ap (scan_runs (Some number) p (spared Nothing) 0 0 0 false 0) (sym zone) ∙ s in
    let up = k.piece.up in
    let is = k.is in
    rw (← suits-slot number p) (finds_run (suits (Some number) p) (zone_in xs) found (grind (arith, join-unit_left)))

-- the lowest block that passes a test lies above others
pub none-there : (test : Block → Bool) (done rest : List Block) → Apart (done ++ rest)
    → IfSome (spot test (done ++ rest)) (λ (s : Spot). sizes done ≤ sizes s.below) → has test done ≡ false
none-there test [] rest a h = refl
none-there test (b ∷ done) rest a h = grind (arith, none-there test done, apart-size)
