use Rattle.heap_calls.proofs.Cited.{◌≡◌, ℕ, ◌+◌, ◌-◌, ◌≤◌, Bool, List, length, refl, sym, ◌∙◌, ap, cond, arith, Option, None, Result, Ok}
use Rattle.heap_calls.proofs.Cited.{subst, phys, OsErr, NO_ERR, Block, sizes, free_sum, rename, runs, purge, may_be_purged, least_or_last}
use Rattle.heap_calls.proofs.Cited.{runs_settled, has_room, largest_free, settled, compacted, Rest, counted, IsRest, purge-all}
use Rattle.heap_calls.proofs.Cited.{total-rename, is_purgeable-rename, purge-rename, least_or_last-le, least_or_last-none, Log, Anchor}
use Rattle.heap_calls.proofs.Cited.{State, Memory, nothing, silent, noting, searching, purgeable, blocks_purged, purged_all, purge_mem}
use Rattle.heap_calls.proofs.Cited.{purge_space, max_mem, purge_mem_searches, state_of, memory_of, handle_number, pointer_number}
use Rattle.heap_calls.proofs.Cited.{GREATEST_ZONE, runs-few, sized_reply, length-map}
use Rattle.block_store.specs.declared.sparing.Sparing.TheVariants as sparing
use Rattle.heap_calls.proofs.Room.Searching.{most-le}
use Rattle.heap_calls.proofs.Numbering.Largest.{has_room-rename, largest_free-rename, runs-rename, settled-rename}
use Rattle.heap_calls.proofs.Numbering.Changing.{silent-kept, free_sum-rename}
use Rattle.heap_calls.proofs.Numbering.Largest.{told_most, most-told}

-- Purging sees no names.

-- a count of searches fits
pub runs_settled-few : (p : Option ℕ) (zone : List Block) → runs_settled p zone ≤ sizes zone + 1
runs_settled-few p zone = omega (
  arith,
  least_or_last-le (λ k. has_room p (settled k zone)) (length (runs zone)),
  runs-few zone,
)

pub blocks_purged-few : (p : Option ℕ) (zone : List Block) → blocks_purged p zone ≤ sizes zone
blocks_purged-few p zone = omega (
  arith,
  least_or_last-le (λ k. has_room p (purge k nothing zone)) (purgeable zone),
  most-le sparing.Nothing zone,
)

pub purgeable-rename : (f g : ℕ → ℕ) (zone : List Block) → purgeable (rename f g zone) ≡ purgeable zone
purgeable-rename f g zone = total-rename f g (λ b. cond (may_be_purged nothing b) 1 0)
    (λ b. cond (may_be_purged nothing b) 1 0)
    (λ b. rw (is_purgeable-rename f g b) refl) zone

pub blocks_purged-rename : (f g : ℕ → ℕ) (p : Option ℕ) (zone : List Block)
    → blocks_purged p (rename f g zone) ≡ blocks_purged p zone
blocks_purged-rename f g p zone =
    ap (λ (test : ℕ → Bool). least_or_last test (purgeable (rename f g zone)))
    (λ i k. (ap (has_room p) (purge-rename f g nothing nothing (λ b. refl) k zone)
    ∙ has_room-rename f g p (purge k nothing zone)) i)
    ∙ ap (least_or_last (λ k. has_room p (purge k nothing zone))) (purgeable-rename f g zone)

-- the zone in which blocks were purged for a size
pub purged_for-rename : (f g : ℕ → ℕ) (p : Option ℕ) (zone : List Block)
    → purge (blocks_purged p (rename f g zone)) nothing (rename f g zone)
    ≡ rename f g (purge (blocks_purged p zone) nothing zone)
purged_for-rename f g p zone = ap (λ k. purge k nothing (rename f g zone)) (blocks_purged-rename f g p zone)
    ∙ purge-rename f g nothing nothing (λ b. refl) (blocks_purged p zone) zone

pub purged_all-rename : (f g : ℕ → ℕ) (zone : List Block) → purged_all (rename f g zone) ≡ rename f g (purged_all zone)
purged_all-rename f g zone = ap (λ k. purge k nothing (rename f g zone)) (purgeable-rename f g zone)
    ∙ purge-rename f g nothing nothing (λ b. refl) (purgeable zone) zone

-- all that may be purged is, where no fewer purges are asked for than there can be; no zone has more blocks than bytes
pub all-gone : (zone : List Block) → sizes zone ≤ GREATEST_ZONE → purgeable zone ≤ GREATEST_ZONE
all-gone zone small = omega (arith, most-le sparing.Nothing zone, small)

pub purged_all-is : (zone zone' : List Block) (k : ℕ) → purgeable zone ≤ k → zone' ≡ purge k nothing zone
    → zone' ≡ purged_all zone
purged_all-is zone zone' k le is = is ∙ purge-all nothing zone k le

-- a call that looked for room so many times
pub searching-done : {T : Type 0} (n m : ℕ) (a : Result T OsErr × Memory) (r : Result T OsErr) (mid new : Memory)
    → a ≡ (r, mid) → n ≡ m → new ≡ record mid { log = record mid.log { searches = counted mid.log.searches m } }
    → searching n a ≡ (r, new)
searching-done n m a r mid new is same e = ap (searching n) is ∙ ap (λ k. searching k (r, mid)) same
    ∙ ap (λ (m : Memory). (r, m)) (sym e)

-- the answer of PurgeMem, where so many blocks were emptied
pub purge_mem-done : (value : Memory) (n : ℕ) (zone zone' : List Block) (rest rest' : Rest) (es : List Anchor)
    (log : Log) (served : Bool) → memory_of zone rest es log ≡ value
    → zone' ≡ purge (blocks_purged (phys n) zone) nothing zone
    → IsRest rest rest' → served ≡ has_room (phys n) zone' → silent (purge_mem n) value
    ≡ (sized_reply served, memory_of zone' rest' es log)
purge_mem-done value n zone zone' rest rest' es log served is done now room =
    let state : State = state_of zone rest.slots es in
    silent-kept (purge_mem n) value zone zone' rest rest' es log (sized_reply served) is
    (ap (λ z. (sized_reply (has_room (phys n) z), record state { zone = z }))
    (purged_for-rename f g (phys n) zone ∙ ap (rename f g) (sym done))
    ∙ ap (λ t. (sized_reply t, record state { zone = rename f g zone' }))
    (has_room-rename f g (phys n) zone' ∙ sym room)) now
  where
    f : ℕ → ℕ
    f = handle_number es

    g : ℕ → ℕ
    g = pointer_number es

pub purge_mem_searches-is : (value : Memory) (n : ℕ) (zone : List Block) (rest : Rest) (es : List Anchor) (log : Log)
    → memory_of zone rest es log ≡ value → purge_mem_searches n value.heap ≡ blocks_purged (phys n) zone + 1
purge_mem_searches-is value n zone rest es log is =
    ap (λ (m : Memory). purge_mem_searches n m.heap) (sym is) ∙ ap (λ k. k + 1)
    (blocks_purged-rename (handle_number es) (pointer_number es) (phys n) zone)

-- the answer of PurgeSpace
pub purge_space-done : (value : Memory) (zone all : List Block) (rest : Rest) (es : List Anchor) (log : Log)
    (total bytes most : ℕ) → memory_of zone rest es log ≡ value → all ≡ purged_all zone
    → total ≡ free_sum all → bytes ≡ largest_free all → most ≡ bytes - 16
    → noting purge_space value ≡ (Ok (total, most), memory_of zone rest es (record log { code = NO_ERR }))
purge_space-done value zone all rest es log total bytes most is done sum free less =
    let P : Memory → Type 0 = λ m. noting purge_space m ≡ (
      Ok (total, most),
      memory_of zone rest es
          (record log { code = NO_ERR }),
    ) in
    let after : Memory = memory_of zone rest es (record log { code = NO_ERR }) in
    subst P is
    (ap (λ (z : List Block). (Ok (free_sum z, largest_free z - 16), after))
    (purged_all-rename (handle_number es) (pointer_number es) zone
    ∙ ap (rename (handle_number es) (pointer_number es)) (sym done))
    ∙ ap (λ (k : ℕ). (Ok (k, largest_free (rename (handle_number es) (pointer_number es) all) - 16), after))
    (free_sum-rename (handle_number es) (pointer_number es) all ∙ sym sum)
    ∙ ap (λ (k : ℕ). (Ok (total, k), after)) (ap (λ k. k - 16)
    (largest_free-rename (handle_number es) (pointer_number es) all ∙ sym free) ∙ sym less))

-- the zone with all runs settled
abbrev pub settled_all : List Block → List Block
settled_all zone = settled (length (runs zone)) zone

settled_all-rename : (f g : ℕ → ℕ) (zone : List Block) → settled_all (rename f g zone) ≡ rename f g (settled_all zone)
settled_all-rename f g zone = ap (λ k. settled k (rename f g zone))
    (ap length (runs-rename f g zone) ∙ length-map (runs zone) (rename f g))
    ∙ settled-rename f g (length (runs zone)) zone

-- the answer of MaxMem
pub max_mem-done : (value : Memory) (zone all zone' : List Block) (rest rest' : Rest) (es : List Anchor) (log : Log)
    (bytes most : ℕ) → memory_of zone rest es log ≡ value → all ≡ purged_all zone → zone' ≡ compacted None all
    → IsRest rest rest' → bytes ≡ largest_free zone' → most ≡ bytes - 16
    → noting max_mem value ≡ (Ok most, memory_of zone' rest' es (record log { code = NO_ERR }))
max_mem-done value zone all zone' rest rest' es log bytes most is done packed now free less =
    let f : ℕ → ℕ = handle_number es in
    let g : ℕ → ℕ = pointer_number es in
    let end : settled_all all ≡ zone' = ap (λ k. settled k all) (sym (least_or_last-none (length (runs all))))
    ∙ sym packed in
    most-told max_mem value zone zone' rest rest' es log bytes most is
    (ap (told_most (state_of zone rest.slots es))
    (ap settled_all (purged_all-rename f g zone ∙ ap (rename f g) (sym done)) ∙ settled_all-rename f g all
    ∙ ap (rename f g) end)) now free less
