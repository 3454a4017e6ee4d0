use Rattle.heap_calls.proofs.Cited.{◌≡◌, ℕ, ◌+◌, ◌≤◌, ◌<◌, true, false, List, [], refl, sym, ◌∙◌, ap, arith, length, phys, Flags, Block}
use Rattle.heap_calls.proofs.Cited.{Free, Nonrelocatable, Masters, Relocatable, sizes, total, count, is_purgeable, is_relocatable}
use Rattle.heap_calls.proofs.Cited.{with_content, resized, runs, GREATEST_ZONE, settled-le, settled-all, State, Memory, nothing, purgeable}
use Rattle.heap_calls.proofs.Cited.{blocks_purged, purged_all, Asked, answered, row, gone_at, Gone, gone_of, Weighs, PutsNone, and_parts}
use Rattle.heap_calls.proofs.Cited.{purge, gone, did, puts-none, Step}
use Rattle.heap_calls.specs.State as names
use Rattle.heap_calls.specs.Row.{purged_by}
use Rattle.heap_calls.proofs.Rows.Shapes.{by-kind}
use Rattle.heap_calls.proofs.Rows.Along.{row-along}
use Rattle.heap_calls.proofs.Rows.Weighing.{Renews, allows-weighs, allows-puts}
use Rattle.heap_calls.proofs.Rows.Telling.{path-even, path-row-even}
use Rattle.heap_calls.proofs.Promises.EmptyingLaws.{purges}
use Rattle.heap_calls.proofs.Steps.Ways.{path_of, Puts, step-along, gone-along}
use Rattle.heap_calls.proofs.Steps.Survival.{weighs}
use Rattle.heap_calls.proofs.ToldGone.Sums.{Adds, purged-is}

-- What each call's row leaves, and what is told of blocks that are purged for it, come to just what the zone came to.

-- the blocks that a call's row purges, where no busy name bars it
abbrev pub row_gone : Asked → State → List Gone
row_gone a s = purged_by (row a) s

module _ (m : Memory) (of : Block → ℕ) (none : (k : ℕ) → of (Free k) ≡ 0) (masters : of Masters ≡ 0)
    (pointers : (id : ℕ) (content : List ℕ) → of (Nonrelocatable id content) ≡ 0)
    (fresh : (flags : Flags) (content : List ℕ) → of (Relocatable (length m.heap.names) flags content) ≡ 0)
    (told : List Gone → ℕ) (nil : told [] ≡ 0) (adds : Adds told)
    (goes : (b : Block) → is_purgeable b ≡ true → told (gone_of (length m.heap.names) b) ≡ of b)
    (sized : (k : ℕ) (b : Block) → of b ≡ of (resized k b))
    (filled : (x : List ℕ) (b : Block) → of b ≡ of (with_content x b))
    (once : (h : ℕ) → h < length m.heap.names → count (is_relocatable h) m.heap.zone ≤ 1)
    (small : sizes m.heap.zone ≤ GREATEST_ZONE)
  where
    abbrev n : ℕ
    n = length m.heap.names

    -- so many purges
    purged-even : (k : ℕ) → total of (purge k nothing m.heap.zone) + told (gone n k nothing m.heap.zone)
        ≡ total of m.heap.zone
    purged-even k = purged-is n of none told nil adds nothing (λ b may. goes b (and_parts (is_purgeable b) true may).0) k
        m.heap.zone

    -- each call that may purge
    pub rows-even : (a : Asked) → purges a ≡ true → Renews of a
        → total of (answered a m).1.heap.zone + told (row_gone a m.heap) ≡ total of m.heap.zone
    rows-even a = by-kind (λ b. purges b ≡ true → Renews of b
        → total of (answered b m).1.heap.zone + told (row_gone b m.heap) ≡ total of m.heap.zone)
        (λ b path purging own. path-row-even of none told nil adds m goes (row b) path
        (row-along (λ sp. PutsNone of) m.heap b (allows-puts of none masters pointers b m.heap fresh own))
        (row-along (λ sp. Weighs of) m.heap b (allows-weighs of sized filled b m.heap once own)))
        (λ k purging own. purged-even (blocks_purged (phys k) m.heap.zone))
        (λ purging own.
        let left : List Block = purged_all m.heap.zone in
        let p = purged-even (purgeable m.heap.zone) in
        let a = settled-all of none (length (runs left)) left in
        let l = settled-le of none (length (runs left)) left in
        omega (arith, p))
        (λ b quiet purging own. let f : false ≡ true = sym quiet ∙ purging in cc) a

    -- the path of each step of the Resource Manager
    pub step-even : (step : Step) → Puts (PutsNone of) step m.heap
        → total of (did nothing (path_of step m.heap) m.heap.zone).zone + told (gone_at step m) ≡ total of m.heap.zone
    step-even step unseen =
        let path = path_of step m.heap in
        omega (
          arith,
          ap told (gone-along step m),
          path-even n of none told nil adds goes nothing path m.heap.zone
              (puts-none of nothing path m.heap.zone
              (step-along (PutsNone of) (λ n z. refl) (λ k z. refl) (λ z. masters) step m.heap unseen))
              (step-along (Weighs of) (λ n z. tt) (λ k z. tt) (λ z. tt) step m.heap (weighs of step m.heap)),
        )
