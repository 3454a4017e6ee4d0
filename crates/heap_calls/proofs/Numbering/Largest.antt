use Rattle.heap_calls.proofs.Cited.{◌≡◌, ℕ, ◌-◌, zero, suc, Bool, List, [], ◌∷◌, ◌++◌, length, refl, sym, ◌∙◌, ap, map, Option, Some, None}
use Rattle.heap_calls.proofs.Cited.{max, Result, Ok, map-append, length-map, Block, free_of, free_sum, is_room, rename, rename_block}
use Rattle.heap_calls.proofs.Cited.{Stretch, Segments, segments, runs, settle, largest, largest_free, largest_run, settled_runs, settled}
use Rattle.heap_calls.proofs.Cited.{least_or_last, has_room, runs_settled, compacted, free_of-rename, total-rename, is_room-rename}
use Rattle.heap_calls.proofs.Cited.{has-rename, settle-rename, joined-rename, segments-rename, rename_stretch, Rest, IsRest, phys, Log}
use Rattle.heap_calls.proofs.Cited.{OsErr, NO_ERR, State, Memory, Answer, compact_mem, noting, code_of, Anchor, stretches, state_of}
use Rattle.heap_calls.proofs.Cited.{memory_of, handle_number, pointer_number}
use Rattle.heap_calls.proofs.Room.Stretches.{stretches-rename}
use Rattle.heap_calls.proofs.Numbering.Changing.{silent-kept}

-- The largest that can be had, and compaction, see no names.

pub largest_free-rename : (f g : ℕ → ℕ) (zone : List Block) → largest_free (rename f g zone) ≡ largest_free zone
largest_free-rename f g [] = refl
largest_free-rename f g (b ∷ zone) = ap (λ n. max n (largest_free (rename f g zone))) (free_of-rename f g b)
    ∙ ap (max (free_of b)) (largest_free-rename f g zone)

parts-rename : (f g : ℕ → ℕ) (parts : List Stretch) → map (λ (p : Stretch). p.run) (map (rename_stretch f g) parts)
    ≡ map (rename f g) (map (λ (p : Stretch). p.run) parts)
parts-rename f g [] = refl
parts-rename f g (p ∷ parts) = ap (λ l. rename f g p.run ∷ l) (parts-rename f g parts)

pub runs-rename : (f g : ℕ → ℕ) (zone : List Block) → runs (rename f g zone) ≡ map (rename f g) (runs zone)
runs-rename f g zone =
    ap (λ (s : Segments). s.first ∷ map (λ (p : Stretch). p.run) s.rest) (segments-rename f g zone)
    ∙ ap (λ l. rename f g (segments zone).first ∷ l) (parts-rename f g (segments zone).rest)

largest-runs : (f g : ℕ → ℕ) (rs : List (List Block)) → largest free_sum (map (rename f g) rs) ≡ largest free_sum rs
largest-runs f g [] = refl
largest-runs f g (run ∷ rs) = ap (λ n. max n (largest free_sum (map (rename f g) rs)))
    (total-rename f g free_of free_of (free_of-rename f g) run) ∙ ap (max (free_sum run)) (largest-runs f g rs)

pub largest_run-rename : (f g : ℕ → ℕ) (zone : List Block) → largest_run (rename f g zone) ≡ largest_run zone
largest_run-rename f g zone = ap (largest free_sum) (runs-rename f g zone) ∙ largest-runs f g (runs zone)

settled_runs-rename : (f g : ℕ → ℕ) (k : ℕ) (run : List Block) (parts : List Stretch)
    → settled_runs k (rename f g run) (map (rename_stretch f g) parts) ≡ rename f g (settled_runs k run parts)
settled_runs-rename f g zero run parts = joined-rename f g run parts
settled_runs-rename f g (suc k) run [] = settle-rename f g run
settled_runs-rename f g (suc k) run (p ∷ parts) =
    ap (λ l. l ++ rename_block f g p.barrier ∷ settled_runs k (rename f g p.run) (map (rename_stretch f g) parts))
    (settle-rename f g run)
    ∙ ap (λ l. rename f g (settle run) ++ rename_block f g p.barrier ∷ l) (settled_runs-rename f g k p.run parts)
    ∙ sym (map-append (rename_block f g) (settle run) (p.barrier ∷ settled_runs k p.run parts))

pub settled-rename : (f g : ℕ → ℕ) (k : ℕ) (zone : List Block)
    → settled k (rename f g zone) ≡ rename f g (settled k zone)
settled-rename f g k zone = ap (λ (s : Segments). settled_runs k s.first s.rest) (segments-rename f g zone)
    ∙ settled_runs-rename f g k (segments zone).first (segments zone).rest

pub has_room-rename : (f g : ℕ → ℕ) (p : Option ℕ) (zone : List Block) → has_room p (rename f g zone) ≡ has_room p zone
has_room-rename f g None zone = refl
has_room-rename f g (Some p) zone = has-rename f g (is_room p) (is_room p) (is_room-rename f g p) zone

pub runs_settled-rename : (f g : ℕ → ℕ) (p : Option ℕ) (zone : List Block)
    → runs_settled p (rename f g zone) ≡ runs_settled p zone
runs_settled-rename f g p zone =
    ap (λ (test : ℕ → Bool). least_or_last test (length (runs (rename f g zone))))
    (λ i k. (ap (has_room p) (settled-rename f g k zone) ∙ has_room-rename f g p (settled k zone)) i)
    ∙ ap (least_or_last (λ k. has_room p (settled k zone))) (ap length (runs-rename f g zone)
    ∙ length-map (runs zone) (rename f g))

-- and the runs among them that have a block
pub settled_stretches-rename : (f g : ℕ → ℕ) (p : Option ℕ) (zone : List Block)
    → stretches (runs_settled p (rename f g zone)) (runs (rename f g zone))
    ≡ stretches (runs_settled p zone) (runs zone)
settled_stretches-rename f g p zone =
    ap (λ k. stretches k (runs (rename f g zone))) (runs_settled-rename f g p zone)
    ∙ ap (stretches (runs_settled p zone)) (runs-rename f g zone)
    ∙ stretches-rename f g (runs_settled p zone) (runs zone)

pub compacted-rename : (f g : ℕ → ℕ) (p : Option ℕ) (zone : List Block)
    → compacted p (rename f g zone) ≡ rename f g (compacted p zone)
compacted-rename f g p zone = ap (λ k. settled k (rename f g zone)) (runs_settled-rename f g p zone)
    ∙ settled-rename f g (runs_settled p zone) zone

-- what a call answers that tells the most that can be had of the zone that it leaves
abbrev pub told_most : State → List Block → Answer ℕ
told_most s zone = (Ok (largest_free zone - 16), record s { zone = zone })

pub most-told : (row : State → Answer ℕ) (value : Memory) (zone zone' : List Block) (rest rest' : Rest)
    (es : List Anchor) (log : Log) (bytes most : ℕ) → memory_of zone rest es log ≡ value
    → row (state_of zone rest.slots es)
    ≡ told_most (state_of zone rest.slots es) (rename (handle_number es) (pointer_number es) zone')
    → IsRest rest rest' → bytes ≡ largest_free zone' → most ≡ bytes - 16
    → noting row value ≡ (Ok most, memory_of zone' rest' es (record log { code = NO_ERR }))
most-told row value zone zone' rest rest' es log bytes most is done now free less =
    let left : State = record (state_of zone rest.slots es) {
      zone = rename (handle_number es) (pointer_number es) zone';
    } in
    ap noted (silent-kept row value zone zone' rest rest' es log (Ok most) is
    (done ∙ ap (λ (k : ℕ). (Ok k, left)) (ap (λ k. k - 16)
    (largest_free-rename (handle_number es) (pointer_number es) zone' ∙ sym free) ∙ sym less)) now)
  where
    noted : Result ℕ OsErr × Memory → Result ℕ OsErr × Memory
    noted a = (a.0, record a.1 { log = record a.1.log { code = code_of a.0 } })

-- the answer of CompactMem, where so many runs were settled
pub compact_mem-done : (value : Memory) (n : ℕ) (zone zone' : List Block) (rest rest' : Rest) (es : List Anchor)
    (log : Log) (bytes most : ℕ) → memory_of zone rest es log ≡ value → zone' ≡ compacted (phys n) zone
    → IsRest rest rest'
    → bytes ≡ largest_free zone' → most ≡ bytes - 16 → noting (compact_mem n) value
    ≡ (Ok most, memory_of zone' rest' es (record log { code = NO_ERR }))
compact_mem-done value n zone zone' rest rest' es log bytes most is done now free less =
    let f : ℕ → ℕ = handle_number es in
    let g : ℕ → ℕ = pointer_number es in
    most-told (compact_mem n) value zone zone' rest rest' es log bytes most is
    (ap (told_most (state_of zone rest.slots es)) (compacted-rename f g (phys n) zone ∙ ap (rename f g) (sym done)))
    now free less
