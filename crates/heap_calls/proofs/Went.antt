use Rattle.heap_calls.proofs.Cited.{◌≡◌, ℕ, Bool, true, false, List, [], ◌∷◌, ◌++◌, length, map, Option, Some, None, Result, Err, refl, sym}
use Rattle.heap_calls.proofs.Cited.{◌∙◌, ap, subst, cond, is_some, length-map, phys, OsErr, MEM_FULL, Block, Free}
use Rattle.heap_calls.proofs.Cited.{rename, rename_block, purge, Rest, counted, counted-none, Move, Purge}
use Rattle.heap_calls.proofs.Cited.{Base, Did, did, moved, one, rename_move, rename_did, Sought, no_room, sought, purges_for, seek}
use Rattle.heap_calls.proofs.Cited.{rename_sought, Along, along-seek, Names, PathNames, did-rename, seek-rename, State, Memory, Meaning}
use Rattle.heap_calls.proofs.Cited.{nothing, Done, work, doing_silently, purges_made, reply_of, changed, room_for, heap_after, purged_by}
use Rattle.heap_calls.proofs.Cited.{told_blocks, reserve_mem, Anchor, Log, GainsSlots, state_of, memory_of, seek_slot, along-slot}
use Rattle.heap_calls.proofs.Cited.{gone_by, lowest_gone, told_along}
use Rattle.heap_calls.proofs.Cited.{name_of, handle_number, pointer_number, Agrees, KeepsNonrelocatable, KeepsAllButPlaced, sized_reply}
use Rattle.heap_calls.proofs.Cited.{Went}
use Rattle.moves.specs.Moves as moves
use Rattle.heap_calls.specs.Rows.{given, refused}
use Rattle.heap_calls.proofs.NewBlocks.NewHandles.{names-more, agrees-more}
use Rattle.heap_calls.proofs.Numbering.Changing.{names-same, agrees-kept}

-- What a store did for a call is what the path of the call does in the heap.

-- the answer of a call, by what its path did
pub doing-is : {T : Type 0} (call : State → Done T) (value : Memory) (zone zone' : List Block) (rest rest' : Rest)
    (es es' : List Anchor) (log log' : Log) (r : Result T OsErr) (d : Did) → memory_of zone rest es log ≡ value
    → work (call (state_of zone rest.slots es)) (state_of zone rest.slots es)
    ≡ rename_did (handle_number es') (pointer_number es') d → (call (state_of zone rest.slots es)).reply ≡ r
    → (call (state_of zone rest.slots es)).names ≡ map (name_of rest'.slots) es'
    → zone' ≡ d.zone → rest'.moves ≡ counted rest.moves d.lowered
    → log' ≡ record log { searches = counted log.searches d.searches } → rest'.window ≡ rest.window
    → doing_silently call value ≡ (r, memory_of zone' rest' es' log')
doing-is {T = T} call value zone zone' rest rest' es es' log log' r d is worked replies named blocks moved now lies =
    let P : Memory → Type 0 = λ m. doing_silently {T = T} call m ≡ (r, memory_of zone' rest' es' log') in
    let mid : Memory = record {
      heap = record { zone = rename (handle_number es') (pointer_number es') d.zone; names = map (name_of rest'.slots) es' };
      log = record log { searches = counted log.searches d.searches };
      moves = counted rest.moves d.lowered;
      window = rest.window;
    } in
    let done : doing_silently call (memory_of zone rest es log) ≡ (r, mid) = λ i. (
      replies i,
      record {
        heap = record { zone = (worked i).zone; names = named i };
        log = record log { searches = counted log.searches (worked i).searches };
        moves = counted rest.moves (worked i).lowered;
        window = rest.window;
      },
    ) in
    let kept : mid ≡ memory_of zone' rest' es' log' = λ i. record {
      heap = record {
        zone = rename (handle_number es') (pointer_number es') (sym blocks i);
        names = map (name_of rest'.slots) es';
      };
      log = sym now i;
      moves = sym moved i;
      window = sym lies i;
    } in
    subst P is (done ∙ ap (λ (m : Memory). (r, m)) kept)

-- a call that is refused changes nothing, and purges nothing
pub refused-is : {T : Type 0} (call : State → Done T) (code : OsErr) (value : Memory)
    → call value.heap ≡ refused code value.heap → doing_silently call value ≡ (Err code, value)
refused-is {T = T} call code value row =
    let Answer : Type 0 = Result T OsErr × Memory in
    let of : Done T → Answer = λ d. (
      d.reply,
      record value {
        heap = heap_after d value.heap;
        log = record value.log { searches = counted value.log.searches (work d value.heap).searches };
        moves = counted value.moves (work d value.heap).lowered;
      },
    ) in
    ap of row
    ∙ ap (λ (k : ℕ). let a : Answer = (
      Err code,
      record value {
        log = record value.log { searches = k };
        moves = counted value.moves 0;
      },
    ) in a) (counted-none value.log.searches)
    ∙ ap (λ (k : ℕ). let a : Answer = (Err code, record value { moves = k }) in a) (counted-none value.moves)

pub refused-gone : {T : Type 0} (call : State → Done T) (code : OsErr) (s : State) → call s ≡ refused code s
    → purges_made call s ≡ []
refused-gone {T = T} call code s row = ap (λ (d : Done T). purged_by d s) row

-- a search that finds no room takes the path of any other that finds none
pub seek-any : (p : Block → Bool) (m n : Move) → ((z : List Block) → is_some (moved p n z) ≡ is_some (moved p m z))
    → (zone : List Block) → (seek m p zone).found ≡ false → seek m p zone ≡ seek n p zone
seek-any p m n sees zone none =
    cases k (there (purge k p zone)) none
    ∙ sym (ap (λ t. sought (purges_for t p zone) (t (purge (purges_for t p zone) p zone)) (Purge (purges_for t p zone)
    ∷ n ∷ [])) (λ i z. sees z i))
  where
    there : List Block → Bool
    there z = is_some (moved p m z)

    k : ℕ
    k = purges_for there p zone

    cases : (k : ℕ) (t : Bool) → t ≡ false → sought k t (Purge k ∷ m ∷ []) ≡ sought k t (Purge k ∷ n ∷ [])
    cases k true e = let never : true ≡ false = e in cc
    cases k false e = refl

-- a search that is made in one case, by names
pub fits-rename : (f g : ℕ → ℕ) (t : Bool) (r : Sought)
    → cond t (rename_sought f g r) no_room ≡ rename_sought f g (cond t r no_room)
fits-rename f g true r = refl
fits-rename f g false r = refl

-- a path names each block of its moves
pub path-names : (f g : ℕ → ℕ) (spared : Block → Bool) (path : List Move) (zone : List Block)
    → Along (λ m z. Names f g m) spared path zone → PathNames f g path
path-names f g spared [] zone all = tt
path-names f g spared (m ∷ path) zone all = (all.0, path-names f g spared path (one spared m zone).zone all.1)

pub seek-names : (f g : ℕ → ℕ) (p : Block → Bool) (m : Move) → Names f g m → (zone : List Block)
    → PathNames f g (seek m p zone).path
seek-names f g p m names zone = path-names f g p (seek m p zone).path zone
    (along-seek (λ m z. Names f g m) p (λ n z. tt) (λ k z. tt) m (λ z. names) zone)

-- a search for an unused master pointer
module _ (f g : ℕ → ℕ) (q : Block → Bool) (unused : Bool) (zone : List Block)
  where
    pub slot-along : Along (λ m z. Names f g m) q (seek_slot unused q zone).path zone
    slot-along = along-slot (λ m z. Names f g m) q (λ n z. tt) (λ k z. tt) (λ z. tt) unused zone

    pub slot-names : PathNames f g (seek_slot unused q zone).path
    slot-names = path-names f g q (seek_slot unused q zone).path zone slot-along

-- a search takes blocks that go as any other that finds room where it does
pub gone-alike : (p : Block → Bool) (m n : Move) → ((z : List Block) → gone_by p m z ≡ [])
    → ((z : List Block) → gone_by p n z ≡ []) → ((z : List Block) → is_some (moved p n z) ≡ is_some (moved p m z))
    → (zone : List Block) → (did p (seek m p zone).path zone).gone ≡ (did p (seek n p zone).path zone).gone
gone-alike p m n still still' sees zone =
    cases (there (purge k p zone))
    ∙ sym (ap (λ t. (did p (sought (purges_for t p zone) (t (purge (purges_for t p zone) p zone)) (Purge
    (purges_for t p zone) ∷ n ∷ [])).path zone).gone) (λ i z. sees z i))
  where
    there : List Block → Bool
    there z = is_some (moved p m z)

    k : ℕ
    k = purges_for there p zone

    cases : (t : Bool) → (did p (sought k t (Purge k ∷ m ∷ [])).path zone).gone
        ≡ (did p (sought k t (Purge k ∷ n ∷ [])).path zone).gone
    cases true = ap (λ l. lowest_gone k p zone ++ (l ++ [])) (still (purge k p zone) ∙ sym (still' (purge k p zone)))
    cases false = refl

-- a call for what isn't found
module _ {T : Type 0} (zone : List Block) (rest : Rest) (es : List Anchor) (log : Log) (value : Memory)
    (is : memory_of zone rest es log ≡ value) (call : State → Done T) (code : OsErr)
    (row : call (state_of zone rest.slots es) ≡ refused code (state_of zone rest.slots es))
  where
    row_as : call value.heap ≡ refused code value.heap
    row_as = subst (λ (m : Memory). call m.heap ≡ refused code m.heap) is row

    pub unfound-is : doing_silently call value ≡ (Err code, value)
    unfound-is = refused-is call code value row_as

    pub unfound-gone : purges_made call value.heap ≡ []
    unfound-gone = refused-gone call code value.heap row_as

module _ (zone : List Block) (rest : Rest) (es : List Anchor) (log : Log) (value : Memory)
    (is : memory_of zone rest es log ≡ value) (zone' : List Block) (rest' : Rest)
  where
    abbrev s : State
    s = state_of zone rest.slots es

    abbrev f : ℕ → ℕ
    f = handle_number es

    abbrev g : ℕ → ℕ
    g = pointer_number es

    -- the names and the place are what they were
    abbrev Stays : Type 0
    Stays = (map (name_of rest'.slots) es ≡ map (name_of rest.slots) es) × (rest'.window ≡ rest.window)

    -- a call that changes the zone where there is room
    pub changed-is : (call : State → Done (Unit {0})) (spared spared' : Block → Bool)
        → ((b : Block) → spared (rename_block f g b) ≡ spared' b) → (p : Sought) → PathNames f g p.path
        → call s ≡ changed spared (rename_sought f g p) s → (found : Bool) (n : ℕ)
        → Went spared' zone p found n zone' rest rest' → Stays → doing_silently call value
        ≡ (sized_reply found, memory_of zone' rest' es (record log { searches = counted log.searches n }))
    changed-is call spared spared' spares p names row found n did stays =
        doing-is call value zone zone' rest rest' es es log (record log { searches = counted log.searches n })
        (sized_reply found) (moves.did spared' p.path zone) is
        (ap (λ (d : Done (Unit {0})). work d s) row ∙ did-rename f g spared spared' spares p.path names zone)
        (ap (λ (d : Done (Unit {0})). d.reply) row ∙ ap sized_reply (sym did.finds))
        (ap (λ (d : Done (Unit {0})). d.names) row ∙ sym stays.0) did.leaves did.lowers
        (ap (λ (k : ℕ). let l : Log = record log { searches = counted log.searches k } in l) did.looks) stays.1

    -- what it purges
    pub changed-gone : (call : State → Done (Unit {0})) (spared spared' : Block → Bool)
        → ((b : Block) → spared (rename_block f g b) ≡ spared' b) → (p : Sought) → PathNames f g p.path
        → call s ≡ changed spared (rename_sought f g p) s
        → told_blocks (length es) (rename f g (did spared' p.path zone).gone) ≡ purges_made call value.heap
    changed-gone call spared spared' spares p names row =
        ap (λ (k : ℕ). told_blocks k (rename f g (did spared' p.path zone).gone)) (sym (length-map es (name_of rest.slots)))
        ∙ sym (ap (λ (d : Done (Unit {0})). purged_by d s) row
        ∙ ap (λ (d : Did). told_blocks (length s.names) d.gone) (did-rename f g spared spared' spares p.path names zone))
        ∙ ap (λ (m : Memory). purges_made call m.heap) is

    -- a call that gives a new number where there is room, by the entries with the new one
    pub given-is : (call : State → Done ℕ) (name : Meaning) (spared spared' : Block → Bool) (es' : List Anchor)
        → ((b : Block) → spared (rename_block (handle_number es') (pointer_number es') b) ≡ spared' b)
        → (p : Sought) → PathNames (handle_number es') (pointer_number es') p.path
        → rename (handle_number es') (pointer_number es') zone ≡ s.zone
        → call s ≡ given name spared (rename_sought (handle_number es') (pointer_number es') p) s → (found : Bool) (n : ℕ)
        → Went spared' zone p found n zone' rest rest'
        → map (name_of rest'.slots) es' ≡ cond found (s.names ++ name ∷ []) s.names → rest'.window ≡ rest.window
        → doing_silently call value
        ≡ (reply_of found (length es), memory_of zone' rest' es' (record log { searches = counted log.searches n }))
    given-is call name spared spared' es' spares p names kept row found n did named lies =
        let f' = handle_number es' in
        let g' = pointer_number es' in
        doing-is call value zone zone' rest rest' es es' log (record log { searches = counted log.searches n })
        (reply_of found (length es)) (moves.did spared' p.path zone) is
        (ap (λ (d : Done ℕ). work d s) row ∙ ap (moves.did spared (map (rename_move f' g') p.path)) (sym kept)
        ∙ did-rename f' g' spared spared' spares p.path names zone)
        (ap (λ (d : Done ℕ). d.reply) row ∙ ap (λ (t : Bool). reply_of t (length s.names)) (sym did.finds)
        ∙ ap (reply_of found) (length-map es (name_of rest.slots)))
        (ap (λ (d : Done ℕ). d.names) row ∙ ap (λ (t : Bool). cond t (s.names ++ name ∷ []) s.names) (sym did.finds)
        ∙ sym named) did.leaves did.lowers
        (ap (λ (k : ℕ). let l : Log = record log { searches = counted log.searches k } in l) did.looks) lies

    -- one that makes room at the base of a run, and what it purges
    module _ (call : State → Done (Unit {0})) (new : Block) (same : rename_block f g new ≡ new)
        (row : call s ≡ changed nothing (seek (Base new) nothing s.zone) s)
      where
        named : call s ≡ changed nothing (rename_sought f g (seek (Base new) nothing zone)) s
        named = row ∙ ap (λ (r : Sought). changed nothing r s) (ap (λ (b : Block). seek (Base b) nothing s.zone) (sym same)
            ∙ seek-rename f g nothing nothing (λ b. refl) (Base new) tt zone)

        pub base-is : (found : Bool) (n : ℕ) → Went nothing zone (seek (Base new) nothing zone) found n zone' rest rest'
            → Stays → doing_silently call value
            ≡ (sized_reply found, memory_of zone' rest' es (record log { searches = counted log.searches n }))
        base-is = changed-is call nothing nothing (λ b. refl) (seek (Base new) nothing zone)
            (seek-names f g nothing (Base new) tt zone) named

        pub base-gone : told_along es nothing (seek (Base new) nothing zone) zone ≡ purges_made call value.heap
        base-gone = changed-gone call nothing nothing (λ b. refl) (seek (Base new) nothing zone)
            (seek-names f g nothing (Base new) tt zone) named

    -- the names are kept where the slots are, or where there are more
    pub kept-stays : KeepsAllButPlaced rest rest' → Stays
    kept-stays now = (names-same rest.slots rest'.slots es (λ h k t at. now.slots k), now.window)

    pub gains-stays : Agrees zone rest es → (place : Option ℕ) → GainsSlots place rest rest' → Stays
    gains-stays agrees None now = (names-same rest.slots rest'.slots es (λ h k t at. now.slots k), now.window)
    gains-stays agrees (Some place) now = (names-more rest rest' es agrees now.0, now.0.window)

    pub gains-agrees : Agrees zone rest es → KeepsNonrelocatable zone zone' → (place : Option ℕ)
        → GainsSlots place rest rest' → Agrees zone' rest' es
    gains-agrees agrees nonrelocatable None now = agrees-kept zone zone' rest rest' es agrees nonrelocatable now
    gains-agrees agrees nonrelocatable (Some place) now = agrees-more zone' rest rest' es agrees nonrelocatable now.0

-- ReserveMem, where a block can have the size
pub reserves : (bytes p : ℕ) (s : State) → phys bytes ≡ Some p
    → reserve_mem bytes s ≡ changed nothing (seek (Base (Free p)) nothing s.zone) s
reserves bytes p s fits = ap (λ (o : Option ℕ). changed nothing (room_for o s.zone) s) fits

-- and where no block can
pub reserve-row : (bytes : ℕ) (s : State) → phys bytes ≡ None → reserve_mem bytes s ≡ refused MEM_FULL s
reserve-row bytes s large = ap (λ (o : Option ℕ). changed nothing (room_for o s.zone) s) large
