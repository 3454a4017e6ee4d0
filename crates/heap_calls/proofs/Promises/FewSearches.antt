use Rattle.heap_calls.proofs.Cited.{◌≡◌, ℕ, ◌+◌, ◌≤◌, ◌<◌, ◌^◌, zero, suc, Bool, true, false, List, [], ◌∷◌, ◌++◌, length, refl, sym, ◌∙◌}
use Rattle.heap_calls.proofs.Cited.{ap, cond, map, arith, Option, Some, None, Ok, replicate, phys, Block, Free, Nonrelocatable, Masters}
use Rattle.heap_calls.proofs.Cited.{Relocatable, size, count, fresh, is_masters, is_relocatable, is_nonrelocatable, no_flags, Stretch}
use Rattle.heap_calls.proofs.Cited.{Segments, in_run, has_free, segments, runs, Spot, spot, put_at_base, purge, lowest_purged}
use Rattle.heap_calls.proofs.Cited.{may_be_purged, count_of, freed, beyond, has_room, runs_settled, counted, spot-is, joined-segments}
use Rattle.heap_calls.proofs.Cited.{joined-is, least_or_last-le, State, Memory, Held, nothing, look_up, handle_at, purgeable, stretches}
use Rattle.heap_calls.proofs.Cited.{compact_mem_searches, Asked, answered, Row, row, answer_of, searches_of, counted-none, row_searches}
use Rattle.heap_calls.proofs.Cited.{append-nil, subst, total, resized, total-append, Move, Put, Base, Drop, Write, Did, did, Sought}
use Rattle.heap_calls.proofs.Cited.{no_room, seek, if_fits, seek_slot, seek_size, seek_resized, around, did-append, Refuses, seek-refused}
use Rattle.heap_calls.proofs.Cited.{fits-refused, seek-few, resized-few, work, is_unused, next_block, then_seek, sought, purges_for, Purge}
use Rattle.heap_calls.proofs.Cited.{unwrap_or, Meaning, Handle, Plain, tidied, freed-is, unless-le, based-le}
use Rattle.std.specs.Prelude.{is_some}
use Rattle.heap_calls.specs.Row as table
use Rattle.heap_calls.specs.Table as asked
use Rattle.heap_calls.specs.Rows as rows
use Rattle.heap_calls.proofs.Same.Resizing.{held-spot, pointer-spot}
use Rattle.heap_calls.proofs.Rows.Shapes.{ForPath, Shapes, by-shape}

-- A call searches for room no more often than once for each block and once more.

-- no more blocks pass than there are
count-length : (test : Block → Bool) (bs : List Block) → count test bs ≤ length bs
count-length test [] = omega arith
count-length test (b ∷ bs) = cases (test b) (count-length test bs)
  where
    cases : (t : Bool) → count test bs ≤ length bs → cond {A = ℕ} t 1 0 + count test bs ≤ length (b ∷ bs)
    cases true r = omega arith
    cases false r = omega arith

-- a Masters block is never emptied
goes-stays : (sp : Block → Bool) (bs : List Block) → count_of sp bs + count is_masters bs ≤ length bs
goes-stays sp [] = omega arith
goes-stays sp (Free n ∷ bs) = let r = goes-stays sp bs in omega arith
goes-stays sp (Nonrelocatable id content ∷ bs) = let r = goes-stays sp bs in omega arith
goes-stays sp (Masters ∷ bs) = let r = goes-stays sp bs in omega arith
goes-stays sp (Relocatable id flags content ∷ bs) = cases (may_be_purged sp (Relocatable id flags content))
    (goes-stays sp bs)
  where
    cases : (t : Bool) → count_of sp bs + count is_masters bs ≤ length bs
        → (cond {A = ℕ} t 1 0 + count_of sp bs) + (0 + count is_masters bs) ≤ length (Relocatable id flags content ∷ bs)
    cases true r = omega arith
    cases false r = omega arith

pub goes-le : (sp : Block → Bool) (zone : List Block) → 0 < count is_masters zone → count_of sp zone + 1 ≤ length zone
goes-le sp zone masters = let g = goes-stays sp zone in omega arith

-- blocks that were emptied can't be purged once more
goes-lowest_purged : (k : ℕ) (sp : Block → Bool) (bs : List Block) → k ≤ count_of sp bs
    → count_of sp (lowest_purged k sp bs) + k ≡ count_of sp bs
goes-lowest_purged zero sp bs le = omega arith
goes-lowest_purged (suc k) sp [] le = absurd (let f : suc k ≤ 0 = le in omega arith)
goes-lowest_purged (suc k) sp (b ∷ bs) le = cases (may_be_purged sp b) refl le (goes-lowest_purged k sp bs)
    (goes-lowest_purged (suc k) sp bs)
  where
    cases : (t : Bool) → may_be_purged sp b ≡ t → suc k ≤ cond {A = ℕ} t 1 0 + count_of sp bs
        → (k ≤ count_of sp bs → count_of sp (lowest_purged k sp bs) + k ≡ count_of sp bs)
        → (suc k ≤ count_of sp bs → count_of sp (lowest_purged (suc k) sp bs) + suc k ≡ count_of sp bs)
        → count_of sp (cond t (Free (size b) ∷ lowest_purged k sp bs) (b ∷ lowest_purged (suc k) sp bs)) + suc k
        ≡ cond {A = ℕ} t 1 0 + count_of sp bs
    cases true e le less same = let r = less (omega arith) in omega arith
    cases false e le less same = let r = same (omega arith) in
        let z : cond {A = ℕ} (may_be_purged sp b) 1 0 ≡ 0 = ap {B = ℕ} (λ (t : Bool). cond t 1 0) e in omega arith

goes-purged : (k : ℕ) (sp : Block → Bool) (zone : List Block) → k ≤ count_of sp zone
    → count_of sp (purge k sp zone) + k ≡ count_of sp zone
goes-purged k sp zone le = let e = goes-lowest_purged k sp zone le in
    omega (arith, tidied (λ (b : Block). cond {A = ℕ} (may_be_purged sp b) 1 0) (λ n. refl) (lowest_purged k sp zone))

-- a slot and then a block: what was emptied for the slot isn't there for the block
slot-few : (sp : Block → Bool) (block : List Block → Sought)
    → ((z : List Block) → (did sp (block z).path z).searches ≤ count_of sp z + 1) → (unused : Bool) (zone : List Block)
    → (did sp (then_seek sp zone (seek_slot unused sp zone) block).path zone).searches ≤ count_of sp zone + 2
slot-few sp block few true zone = let f = few zone in omega arith
slot-few sp block few false zone = cases (put_at_base Masters ready) refl
  where
    k : ℕ
    k = purges_for (λ z. is_some (put_at_base Masters z)) sp zone

    ready : List Block
    ready = purge k sp zone

    le : k ≤ count_of sp zone
    le = least_or_last-le (λ j. is_some (put_at_base Masters (purge j sp zone))) (count_of sp zone)

    cases : (o : Option (List Block)) → put_at_base Masters ready ≡ o
        → (did sp (then_seek sp zone (sought k (is_some o) (Purge k ∷ Base Masters ∷ [])) block).path zone).searches
        ≤ count_of sp zone + 2
    cases None e = omega (arith, le)
    cases (Some z) e = omega (
      arith,
      few (unwrap_or (put_at_base Masters ready) ready),
      ap (λ o. count_of sp (unwrap_or o ready)) e,
      goes-purged k sp zone le,
      based-le (λ (b : Block). cond {A = ℕ} (may_be_purged sp b) 1 0) (λ n. refl) Masters (has_free 272) ready z e,
    )

-- a search where the block at a spot gets another size
size-few : (sp : Block → Bool) (n : ℕ) (zone : List Block) (s : Spot) (test : Block → Bool) → spot test zone ≡ Some s
    → (did sp (seek_size n sp zone s).path zone).searches ≤ length zone + 1
size-few sp n zone s test found = cases (is_some (phys n))
  where
    within : count_of sp (segments s.above).first ≤ count_of sp zone
    within =
        let goes : Block → ℕ = λ b. cond {A = ℕ} (may_be_purged sp b) 1 0 in
        omega (
          arith,
          ap (total goes) (spot-is test zone s found),
          total-append goes s.below (s.here ∷ s.above),
          ap (total goes) (sym (joined-segments s.above) ∙ joined-is (segments s.above).first (segments s.above).rest),
          total-append goes (segments s.above).first (beyond (segments s.above).rest),
        )

    cases : (t : Bool) → (did sp (cond t (seek_resized (resized n s.here) sp zone s) no_room).path zone).searches
        ≤ length zone + 1
    cases true =
        let few = resized-few sp (resized n s.here) zone s within in
        let most = count-length (may_be_purged sp) zone in
        omega arith
    cases false = omega arith

-- what is written after it is no search
written-few : (sp : Block → Bool) (h i : ℕ) (x : List ℕ) (r : Sought) (zone : List Block)
    → (did sp (around [] (Write h i x ∷ []) r).path zone).searches ≡ (did sp r.path zone).searches
written-few sp h i x r zone = cases r.found
  where
    cases : (t : Bool) → (did sp (cond t (r.path ++ Write h i x ∷ []) r.path) zone).searches
        ≡ (did sp r.path zone).searches
    cases true = let d = ap (λ (d : Did). d.searches) (did-append sp r.path (Write h i x ∷ []) zone) in omega arith
    cases false = refl

-- a search where a handle's block is freed before
freed-few : (h : ℕ) (r : Sought) → Refuses nothing r → (zone : List Block)
    → (did nothing (around (Drop h ∷ []) [] r).path zone).searches
    ≡ (did nothing r.path (freed (is_relocatable h) zone)).searches
freed-few h r only zone = cases r.found refl
  where
    cases : (t : Bool) → r.found ≡ t → (did nothing (cond t (Drop h ∷ r.path ++ []) r.path) zone).searches
        ≡ (did nothing r.path (freed (is_relocatable h) zone)).searches
    cases true e =
        let same = ap (λ (path : List Move). (did nothing path (freed (is_relocatable h) zone)).searches)
        (append-nil r.path) in
        omega (arith, same)
    cases false e = ap (λ (d : Did). d.searches) ((only e).1 zone)
        ∙ sym (ap (λ (d : Did). d.searches) ((only e).1 (freed (is_relocatable h) zone)))

-- a search for a place at the base of a run
base-few : (new : Block) (zone : List Block) → 0 < count is_masters zone
    → (did nothing (seek (Base new) nothing zone).path zone).searches ≤ length zone + 1
base-few new zone masters =
    let few = seek-few nothing (Base new) (λ z. refl) zone in
    let most = goes-le nothing zone masters in
    omega arith

-- a handle's block, or a pointer's
handle-few : (handle : Option ℕ) (s : State) (held : Held) → look_up handle s ≡ Ok held → (sp : Block → Bool) (n : ℕ)
    → (did sp (seek_size n sp s.zone held.at).path s.zone).searches ≤ length s.zone + 1
handle-few handle s held e sp n =
    size-few sp n s.zone held.at (is_relocatable held.number) (held-spot (handle_at handle s) s held e)

sized-few : (to : Option ℕ) (s : State) (held : Held) → look_up to s ≡ Ok held → (sp : Block → Bool) (n i : ℕ)
    (x : List ℕ) → (work (rows.sized_written sp held n i x s) s).searches ≤ length s.zone + 1
sized-few to s held e sp n i x =
    subst (λ (k : ℕ). k ≤ length s.zone + 1)
    (sym (written-few sp held.number i x (seek_size n sp s.zone held.at) s.zone)) (handle-few to s held e sp n)

-- no more runs have a block than there are blocks that runs are made of
stretches-blocks : (k : ℕ) (zone : List Block) → stretches k (runs zone) ≤ count in_run zone
stretches-blocks zero zone = omega arith
stretches-blocks (suc k) [] = none k
  where
    none : (k : ℕ) → 0 + stretches k [] ≤ 0
    none zero = omega arith
    none (suc k) = omega arith
stretches-blocks (suc k) (b ∷ zone) = cases (in_run b) (segments zone) (stretches-blocks (suc k) zone)
    (stretches-blocks k zone)
  where
    cases : (t : Bool) (s : Segments) → stretches (suc k) (s.first ∷ map (λ (p : Stretch). p.run) s.rest) ≤ count in_run
        zone → stretches k (s.first ∷ map (λ (p : Stretch). p.run) s.rest) ≤ count in_run zone
        → let put : Segments = cond t (record { first = b ∷ s.first; rest = s.rest })
        (record { first = []; rest = record { barrier = b; run = s.first } ∷ s.rest }) in
        stretches (suc k) (put.first ∷ map (λ (p : Stretch). p.run) put.rest) ≤ cond {A = ℕ} t 1 0 + count in_run zone
    cases true s more less = let fewer : stretches k (map (λ (p : Stretch). p.run) s.rest) ≤ stretches (suc k)
        (s.first ∷ map (λ (p : Stretch). p.run) s.rest) = omega arith in omega arith
    cases false s more less = omega arith

-- a compaction
compact-few : (n : ℕ) (s : State) → compact_mem_searches n s ≤ length s.zone + 1
compact-few n s =
    let few = stretches-blocks (runs_settled (phys n) s.zone) s.zone in
    let most = count-length in_run s.zone in
    omega arith

-- a call that doesn't search
pub unsearched : (zone : List Block) (n : ℕ) → n < 2 ^ 64 → (k : ℕ) × (k ≤ length zone + 1) × (n ≡ counted n k)
unsearched zone n fits = (0, omega arith, sym (counted-none n))

-- a search for the place of a block, if it fits
pub fits-few : (sp : Block → Bool) (new : Block) (fits : Bool) (zone : List Block)
    → (did sp (cond fits (seek (Put new) sp zone) no_room).path zone).searches ≤ count_of sp zone + 1
fits-few sp new true zone = seek-few sp (Put new) (λ z. refl) zone
fits-few sp new false zone = omega arith

-- a new handle with a block
pub made-few : (name : Meaning) (sp : Block → Bool) (block : List Block → Sought)
    → ((z : List Block) → (did sp (block z).path z).searches ≤ count_of sp z + 1) → (s : State)
    → 0 < count is_masters s.zone → (work (rows.made name sp block s) s).searches ≤ length s.zone + 1
made-few name sp block few s masters =
    omega (arith, slot-few sp block few (is_unused s) s.zone, goes-le sp s.zone masters)

-- each path
shapes-few : (a : Asked) (s : State) → 0 < count is_masters s.zone
    → Shapes (λ (T : Type 0) d. (work d s).searches ≤ length s.zone + 1) s a
shapes-few a s masters = record {
  refuses = λ left T code. omega arith;
  makes = λ sp left fits bytes. made-few (Handle Plain) sp (λ z. cond fits (seek (Put (next_block bytes s)) sp z) no_room)
      (fits-few sp (next_block bytes s) fits) s masters;
  empties = λ left. empty (is_unused s);
  points = λ left fits bytes. point fits (Nonrelocatable (length s.names) bytes);
  masters = λ left. base-few Masters s.zone masters;
  reserves = λ left p. base-few (Free p) s.zone masters;
  nowhere = λ left. omega arith;
  sizes = λ left handle held e n. handle-few handle s held e (is_relocatable held.number) n;
  pointers = λ left pointer held e n.
      size-few nothing n s.zone held.at (is_nonrelocatable held.number) (pointer-spot pointer s held e);
  writes = λ left sp handle held e spares n i x within. sized-few handle s held e sp n i x;
  replies = λ T U value d few. few;
  rests = λ T value sp. omega arith;
  renews = λ left h n is loose. subst (λ (k : ℕ). k ≤ length s.zone + 1)
      (sym (freed-few h (again h n) (fits-refused nothing n _ (seek-refused nothing (new h n) (freed (is_relocatable h)
      s.zone))) s.zone)) (looks h n (is_some (phys n)));
}
  where
    empty : (t : Bool) → (did nothing (seek_slot t nothing s.zone).path s.zone).searches ≤ length s.zone + 1
    empty true = omega arith
    empty false = base-few Masters s.zone masters

    point : (t : Bool) (new : Block) → (did nothing (cond t (seek (Base new) nothing s.zone) no_room).path s.zone).searches
        ≤ length s.zone + 1
    point true new = base-few new s.zone masters
    point false new = omega arith

    new : ℕ → ℕ → Move
    new h n = Put (Relocatable h no_flags (replicate n 0))

    again : ℕ → ℕ → Sought
    again h n = if_fits n (seek (new h n) nothing (freed (is_relocatable h) s.zone))

    looks : (h n : ℕ) (t : Bool) → (did nothing (cond t (seek (new h n) nothing (freed (is_relocatable h) s.zone))
        no_room).path (freed (is_relocatable h) s.zone)).searches ≤ length s.zone + 1
    looks h n true =
        let goes : Block → ℕ = λ b. cond {A = ℕ} (may_be_purged nothing b) 1 0 in
        let r = seek-few nothing (new h n) (λ z. refl) (freed (is_relocatable h) s.zone) in
        let u = unless-le (is_relocatable h) goes s.zone in
        let g = goes-le nothing s.zone masters in
        omega (arith, freed-is goes (λ m. refl) (is_relocatable h) s.zone)
    looks h n false = omega arith

-- so it does in each row that is a path; no other row searches, but those of CompactMem and PurgeMem
abbrev seeks : Row → Bool
seeks (table.Seeks bar tell searches gone call) = true
seeks (table.Compacts moves searches call) = true
seeks (table.Leaves left r) = seeks r
seeks r = false

few-by : (r : Row) (s : State) (most : ℕ) → seeks r ≡ false → ForPath (λ (T : Type 0) d. (work d s).searches ≤ most) r s
    → searches_of r s ≤ most
few-by (table.Plain bar tell call) s most e few = omega arith
few-by (table.Quiet bar tell call) s most e few = omega arith
few-by (table.Does bar tell does) s most e few = few
few-by (table.Seeks bar tell searches gone call) s most e few = let f : true ≡ false = e in cc
few-by (table.Compacts moves searches call) s most e few = let f : true ≡ false = e in cc
few-by table.PurgesAll s most e few = omega arith
few-by table.LastCode s most e few = omega arith
few-by (table.Leaves left r) s most e few = few-by r s most e few

-- the row of a call searches at most once more than there are blocks, where one is a Masters block
pub row_few : (a : Asked) (m : Memory) → 0 < count is_masters m.heap.zone
    → row_searches a m.heap ≤ length m.heap.zone + 1
row_few (asked.CompactMem n) m masters = compact-few n m.heap
row_few (asked.PurgeMem n) m masters =
    let zone = m.heap.zone in
    let l = least_or_last-le (λ k. has_room (phys n) (purge k nothing zone)) (purgeable zone) in
    let g = goes-le nothing zone masters in
    omega arith
row_few a m masters =
    few-by (row a) m.heap (length m.heap.zone + 1) refl (by-shape _ m.heap a (shapes-few a m.heap masters))

-- and counts its searches
searched-by : (r : Row) (m : Memory) → (answer_of r m).1.log.searches
    ≡ counted m.log.searches (searches_of r m.heap)
searched-by (table.Plain bar tell call) m = sym (counted-none m.log.searches)
searched-by (table.Quiet bar tell call) m = sym (counted-none m.log.searches)
searched-by (table.Does bar tell does) m = refl
searched-by (table.Seeks bar tell searches gone call) m = refl
searched-by (table.Compacts moves searches call) m = refl
searched-by table.PurgesAll m = sym (counted-none m.log.searches)
searched-by table.LastCode m = sym (counted-none m.log.searches)
searched-by (table.Leaves left r) m = searched-by r m

pub row_searched : (a : Asked) (m : Memory) → (answered a m).1.log.searches
    ≡ counted m.log.searches (row_searches a m.heap)
row_searched a m = searched-by (row a) m

-- the row of a call searches so often
abbrev pub RowSearchesFew : Asked → Memory → Type 0
RowSearchesFew a m =
    0 < count is_masters m.heap.zone → m.log.searches < 2 ^ 64
    → (n : ℕ) × (n ≤ length m.heap.zone + 1) × ((answered a m).1.log.searches ≡ counted m.log.searches n)

-- no call searches more often
pub searches_few : (a : Asked) (m : Memory) → RowSearchesFew a m
searches_few a m masters fits = (row_searches a m.heap, row_few a m masters, row_searched a m)

-- a compaction that never serves searches once for each run with a block, and once more
abbrev searches_in : List Block → ℕ
searches_in zone = compact_mem_searches 2147483647 (record { zone = zone; names = [] })

one_run_and_once_more : searches_in (fresh 1024) ≡ 2
one_run_and_once_more = refl

no_run_has_a_block : searches_in (Masters ∷ []) ≡ 1
no_run_has_a_block = refl

-- packed runs are looked at too, and those with no Free block
each_run_with_a_block : searches_in
    (Masters ∷ Free 32 ∷ Masters ∷ Masters ∷ Relocatable 0 no_flags [] ∷ Nonrelocatable 0 [] ∷ []) ≡ 3
each_run_with_a_block = refl

-- it ends where a block has room
one_run_before_it_serves : compact_mem_searches 16
    (record {
      zone = Masters ∷ Masters ∷ Free 16 ∷ Relocatable 0 no_flags [] ∷ Free 16 ∷ Masters ∷ Free 16 ∷ [];
      names = [];
    }) ≡ 2
one_run_before_it_serves = refl

no_run_where_it_has_room : compact_mem_searches 16 (record { zone = fresh 1024; names = [] }) ≡ 1
no_run_where_it_has_room = refl
