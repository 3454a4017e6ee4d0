use Rattle.heap_calls.proofs.Cited.{◌≡◌, ℕ, ◌+◌, ◌≤◌, ◌<◌, zero, suc, Bool, true, false, List, [], ◌∷◌, ◌++◌, refl, sym, ◌∙◌, ap}
use Rattle.heap_calls.proofs.Cited.{subst, cond, arith, Option, Some, None, Result, IfOk, is_some, unwrap_or, option_map, option_and_then}
use Rattle.heap_calls.proofs.Cited.{nat_le, le-leb, lt-leb, cond-true, cond-false, append-nil, phys, Block, size, is_mover, resized, Rest}
use Rattle.heap_calls.proofs.Cited.{counted, counted-none, has_free, segments, Spot, spot, filled, purge, count_of, may_be_purged, growth}
use Rattle.heap_calls.proofs.Cited.{grow_up, spared, Sparing, Move, Purge, Grow, Extend, Push, Cut, Did, did, moved, gone_by}
use Rattle.heap_calls.proofs.Cited.{lowered_by, searches_by, lowest_gone, gone_above, is_same, run_above, Sought, at_hand, no_room, sought}
use Rattle.heap_calls.proofs.Cited.{around, purges_for, seek, seek_in_place, seek_size, seek_resized, did-append, Anchor, Grown, OpensNone}
use Rattle.heap_calls.proofs.Cited.{freed, nothing, untouched-then, Drop}
use Rattle.heap_calls.proofs.Cited.{Gone, gone_named, gone_from, Went, told_named, told_along, at_spot, seek_sized, length, Write}
use Rattle.heap_calls.proofs.Cited.{written_in}
use Rattle.heap_calls.proofs.Cited.{Refuses, is_relocatable, length_of, seek_longer, seek_still, spot_at}
use Rattle.heap_calls.specs.Inner.Appending.{behind}
use Rattle.heap_calls.proofs.Cited.{opened, opened_block, map, map-id, Free, false≢true}
use Rattle.block_store.specs.declared.sparing.Sparing.TheVariants as sparing
use Rattle.moves.specs.Moves as moves

-- What a store did is what the path of its search does.

-- the same of a path that is equal
pub went-as : {E : Type 0} (r : Result Grown E) (sp : Block → Bool) (zone zone' : List Block) (rest rest' : Rest)
    (p q : Sought) → q ≡ p → IfOk r (λ g. Went sp zone p g.done g.searches zone' rest rest')
    → IfOk r (λ g. Went sp zone q g.done g.searches zone' rest rest')
went-as {E = E} r sp zone zone' rest rest' p q same went =
    let P : Sought → Type 0 = λ p. IfOk r (λ g. Went sp zone p g.done g.searches zone' rest rest') in
    subst P (sym same) went

-- no room is sought
pub went-nowhere : (sp : Block → Bool) (zone : List Block) (rest : Rest) → Went sp zone no_room false 0 zone rest rest
went-nowhere sp zone rest = record { finds = refl; leaves = refl; looks = refl; lowers = sym (counted-none rest.moves) }

-- where no room is found the zone is as it was
pub went-refused : {sp : Block → Bool} {zone : List Block} {p : Sought} {found : Bool} {n : ℕ} {zone' : List Block}
    {rest rest' : Rest} → Refuses sp p → Went sp zone p found n zone' rest rest' → found ≡ false → zone' ≡ zone
went-refused {zone = zone} only w is = w.leaves ∙ ap (λ (d : Did). d.zone) ((only (sym w.finds ∙ is)).1 zone)

-- A search for the place of a move that itself neither searches nor purges, after the least number of purges.
module _ (sp : Block → Bool) (zone : List Block) (m : Move) (quiet : searches_by m ≡ 0)
    (still : (z : List Block) → gone_by sp m z ≡ []) (k : ℕ)
    (least : k ≡ purges_for (λ z. is_some (moved sp m z)) sp zone)
  where
    abbrev ready : List Block
    ready = purge k sp zone

    path-is : (t : Bool) → is_some (moved sp m ready) ≡ t → seek m sp zone ≡ sought k t (Purge k ∷ m ∷ [])
    path-is t is =
        ap (λ (j : ℕ). sought j (is_some (moved sp m (purge j sp zone))) (Purge j ∷ m ∷ [])) (sym least)
        ∙ ap (λ (u : Bool). sought k u (Purge k ∷ m ∷ [])) is

    -- there is none
    pub went-none : is_some (moved sp m ready) ≡ false → (rest : Rest)
        → Went sp zone (seek m sp zone) false (k + 1) zone rest rest
    went-none is rest = subst (λ (p : Sought). Went sp zone p false (k + 1) zone rest rest) (sym (path-is false is))
        (record { finds = refl; leaves = refl; looks = omega arith; lowers = sym (counted-none rest.moves) })

    pub gone-none : is_some (moved sp m ready) ≡ false → (did sp (seek m sp zone).path zone).gone ≡ []
    gone-none is = ap (λ (p : Sought). (did sp p.path zone).gone) (path-is false is)

    -- there is one
    pub went-some : (zone' : List Block) → moved sp m ready ≡ Some zone' → (rest rest' : Rest)
        → rest'.moves ≡ counted rest.moves (lowered_by m ready)
        → Went sp zone (seek m sp zone) true (k + 1) zone' rest rest'
    went-some zone' done rest rest' packs =
        subst (λ (p : Sought). Went sp zone p true (k + 1) zone' rest rest') (sym (path-is true (ap is_some done)))
        (record {
          finds = refl;
          leaves = sym (ap (λ o. unwrap_or o ready) done);
          looks = omega (arith, quiet);
          lowers = packs ∙ ap (counted rest.moves) (omega arith);
        })

    pub gone-some : is_some (moved sp m ready) ≡ true
        → (did sp (seek m sp zone).path zone).gone ≡ lowest_gone k sp zone
    gone-some is = ap (λ (p : Sought). (did sp p.path zone).gone) (path-is true is)
        ∙ ap (λ l. lowest_gone k sp zone ++ (l ++ [])) (still ready) ∙ append-nil (lowest_gone k sp zone)

-- A move after what is found, which itself neither searches nor moves blocks down nor purges.
module _ (sp : Block → Bool) (zone : List Block) (p : Sought) (m : Move) (quiet : searches_by m ≡ 0)
    (low : (z : List Block) → lowered_by m z ≡ 0) (still : (z : List Block) → gone_by sp m z ≡ [])
  where
    abbrev now : Did
    now = did sp p.path zone

    abbrev more : Did
    more = did sp (around [] (m ∷ []) p).path zone

    pub went-later : {n : ℕ} {zone1 zone' : List Block} {rest rest1 rest' : Rest} → Went sp zone p true n zone1 rest rest1
        → zone' ≡ unwrap_or (moved sp m zone1) zone1 → rest'.moves ≡ rest1.moves
        → Went sp zone (around [] (m ∷ []) p) true n zone' rest rest'
    went-later {n = n} {zone' = zone'} {rest = rest} {rest' = rest'} w changes same =
        let d : more ≡ moves.and_then now (did sp (m ∷ []) now.zone) =
        ap (λ t. did sp (cond t (p.path ++ m ∷ []) p.path) zone) (sym w.finds) ∙ did-append sp p.path (m ∷ []) zone in
        let looks : more.searches ≡ now.searches + (searches_by m + 0) = ap (λ (x : Did). x.searches) d in
        let lowers : more.lowered ≡ now.lowered + (lowered_by m now.zone + 0) = ap (λ (x : Did). x.lowered) d in
        let none = low now.zone in
        record {
          finds = w.finds;
          leaves = changes ∙ ap (λ z. unwrap_or (moved sp m z) z) w.leaves ∙ sym (ap (λ (x : Did). x.zone) d);
          looks = (let l = w.looks in omega arith);
          lowers = same ∙ w.lowers ∙ ap (counted rest.moves) (omega arith);
        }

    pub went-no_later : {n : ℕ} {zone' : List Block} {rest rest' : Rest} → Went sp zone p false n zone' rest rest'
        → Went sp zone (around [] (m ∷ []) p) false n zone' rest rest'
    went-no_later {rest = rest} w =
        let d : more ≡ now = ap (λ t. did sp (cond t (p.path ++ m ∷ []) p.path) zone) (sym w.finds) in
        record {
          finds = w.finds;
          leaves = w.leaves ∙ sym (ap (λ (x : Did). x.zone) d);
          looks = w.looks ∙ sym (ap (λ (x : Did). x.searches) d);
          lowers = w.lowers ∙ ap (counted rest.moves) (sym (ap (λ (x : Did). x.lowered) d));
        }

    pub gone-later : more.gone ≡ now.gone
    gone-later = cases p.found
      where
        cases : (t : Bool) → (did sp (cond t (p.path ++ m ∷ []) p.path) zone).gone ≡ now.gone
        cases true = ap (λ (x : Did). x.gone) (did-append sp p.path (m ∷ []) zone)
            ∙ ap (λ l. now.gone ++ (l ++ [])) (still now.zone) ∙ append-nil now.gone
        cases false = refl

-- A block that is freed before what is sought.
module _ (h : ℕ) (zone : List Block) (p : Sought) (only : Refuses nothing p)
  where
    abbrev freed_zone : List Block
    freed_zone = freed (is_relocatable h) zone

    dropped-is : (t : Bool) → p.found ≡ t → did nothing (around (Drop h ∷ []) [] p).path zone
        ≡ record (did nothing p.path freed_zone) { zone = cond t (did nothing p.path freed_zone).zone zone }
    dropped-is true some =
        ap (λ t. did nothing (cond t (Drop h ∷ p.path ++ []) p.path) zone) some
        ∙ ap (λ l. did nothing (Drop h ∷ l) zone) (append-nil p.path)
        ∙ untouched-then freed_zone (did nothing p.path freed_zone)
    dropped-is false none =
        ap (λ t. did nothing (cond t (Drop h ∷ p.path ++ []) p.path) zone) none ∙ (only none).1 zone
        ∙ sym (ap (λ (d : Did). let e : Did = record d { zone = zone } in e) ((only none).1 freed_zone))

    pub went-dropped : {found : Bool} {n : ℕ} {zone1 : List Block} {rest rest' : Rest} (zone' : List Block)
        → Went nothing freed_zone p found n zone1 rest rest' → zone' ≡ cond found zone1 zone
        → Went nothing zone (around (Drop h ∷ []) [] p) found n zone' rest rest'
    went-dropped {zone1 = zone1} {rest = rest} zone' w same =
        let d = dropped-is p.found refl in
        record {
          finds = w.finds;
          leaves = same ∙ ap (λ t. cond t zone1 zone) w.finds ∙ ap (λ z. cond p.found z zone) w.leaves
              ∙ sym (ap (λ (x : Did). x.zone) d);
          looks = w.looks ∙ sym (ap (λ (x : Did). x.searches) d);
          lowers = w.lowers ∙ ap (counted rest.moves) (sym (ap (λ (x : Did). x.lowered) d));
        }

    pub gone-dropped : (did nothing p.path freed_zone).gone ≡ (did nothing (around (Drop h ∷ []) [] p).path zone).gone
    gone-dropped = sym (ap (λ (x : Did). x.gone) (dropped-is p.found refl))

-- The search for another size of the block at a spot.
module _ (test : Block → Bool) (n : ℕ) (sp : Block → Bool) (zone : List Block) (s : Spot)
    (found : spot test zone ≡ Some s)
  where
    pub sized-at : seek_sized test n sp zone ≡ seek_size n sp zone s
    sized-at = ap (at_spot (seek_size n sp zone)) found

    module _ (fits : is_some (phys n) ≡ true)
      where
        abbrev new : Block
        new = resized n s.here

        sized-is : seek_sized test n sp zone ≡ seek_resized new sp zone s
        sized-is = sized-at ∙ cond-true (is_some (phys n)) _ _ fits

        -- it is cut
        pub sized-cut : size new ≤ size s.here → seek_sized test n sp zone ≡ at_hand (Cut new ∷ [])
        sized-cut less = sized-is ∙ cond-true (nat_le (size new) (size s.here)) _ _ (le-leb (size new) (size s.here) less)

        -- or grows, and may move or stays
        pub sized-moves : size s.here < size new → is_mover s.here ≡ true
            → seek_sized test n sp zone ≡ seek (Grow new) sp zone
        sized-moves more mover =
            sized-is ∙ cond-false (nat_le (size new) (size s.here)) _ _ (lt-leb (size new) (size s.here) more)
            ∙ cond-true (is_mover s.here) _ _ mover

        pub sized-stays : size s.here < size new → is_mover s.here ≡ false
            → seek_sized test n sp zone ≡ seek_in_place new sp s
        sized-stays more mover =
            sized-is ∙ cond-false (nat_le (size new) (size s.here)) _ _ (lt-leb (size new) (size s.here) more)
            ∙ cond-false (is_mover s.here) _ _ mover

-- no block can have the size
pub sized-large : (test : Block → Bool) (n : ℕ) (sp : Block → Bool) (zone : List Block) → is_some (phys n) ≡ false
    → seek_sized test n sp zone ≡ no_room
sized-large test n sp zone large = cases (spot test zone)
  where
    cases : (o : Option Spot) → at_spot (seek_size n sp zone) o ≡ no_room
    cases None = refl
    cases (Some s) = cond-false (is_some (phys n)) _ _ large

-- a block at its spot that is cut
pub went-cut : (new : Block) (sp : Block → Bool) (zone : List Block) (s : Spot) → spot (is_same new) zone ≡ Some s
    → (rest rest' : Rest) → rest'.moves ≡ rest.moves → (zone' : List Block) → zone' ≡ filled new s
    → Went sp zone (at_hand (Cut new ∷ [])) true 0 zone' rest rest'
went-cut new sp zone s here rest rest' kept zone' done = record {
  finds = refl;
  leaves = done ∙ sym (ap (λ o. unwrap_or (option_map (filled new) o) zone) here);
  looks = refl;
  lowers = kept ∙ sym (counted-none rest.moves);
}

-- The search for the growth of the block at a place, where it stands.
module _ (place n : ℕ) (sp : Block → Bool) (zone : List Block) (s : Spot) (at : spot_at place zone ≡ Some s)
    (here : spot (is_same (resized n s.here)) zone ≡ Some s)
  where
    abbrev still : Block
    still = resized n s.here

    path-still : (p : Sought) → seek_in_place still sp s ≡ p → seek_still place n sp zone ≡ p
    path-still p is = ap (at_spot (λ s. seek_in_place (resized n s.here) sp s)) at ∙ is

    -- into the free block above it
    up-is : is_some (grow_up still s) ≡ true → seek_still place n sp zone ≡ sought 0 true (Extend still ∷ [])
    up-is up = path-still (sought 0 true (Extend still ∷ [])) (cond-true (is_some (grow_up still s)) _ _ up)

    pub went-up : (rest rest' : Rest) → rest'.moves ≡ rest.moves → (zone' : List Block) → grow_up still s ≡ Some zone'
        → Went sp zone (seek_still place n sp zone) true 1 zone' rest rest'
    went-up rest rest' kept zone' grew =
        subst (λ (p : Sought). Went sp zone p true 1 zone' rest rest') (sym (up-is (ap is_some grew))) (record {
          finds = refl;
          leaves = sym (ap (λ o. unwrap_or (option_and_then (grow_up still) o) zone) here ∙ ap (λ o. unwrap_or o zone) grew);
          looks = refl;
          lowers = kept ∙ sym (counted-none rest.moves);
        })

    pub told-up : (es : List Anchor) → is_some (grow_up still s) ≡ true
        → told_along es sp (seek_still place n sp zone) zone ≡ []
    told-up es up = ap (λ (p : Sought). told_along es sp p zone) (up-is up)

    -- or into the run above it
    module _ (k : ℕ) (least : k ≡ purges_for (has_free (growth still s)) sp (segments s.above).first)
        (not_up : is_some (grow_up still s) ≡ false)
      where
        push-is : (t : Bool) → has_free (growth still s) (run_above k sp s) ≡ t
            → seek_still place n sp zone ≡ sought k t (Push still k ∷ [])
        push-is t is = path-still (sought k t (Push still k ∷ []))
            (cond-false (is_some (grow_up still s)) _ _ not_up
            ∙ ap (λ (j : ℕ). sought j (has_free (growth still s) (run_above j sp s)) (Push still j ∷ [])) (sym least)
            ∙ ap (λ (u : Bool). sought k u (Push still k ∷ [])) is)

        module _ (is : has_free (growth still s) (run_above k sp s) ≡ true)
          where
            pub went-pushed : (rest rest' : Rest) → rest'.moves ≡ rest.moves → (zone' : List Block)
                → zone' ≡ moves.pushed k sp still s
                → Went sp zone (seek_still place n sp zone) true (k + 1) zone' rest rest'
            went-pushed rest rest' kept zone' done =
                subst (λ (p : Sought). Went sp zone p true (k + 1) zone' rest rest') (sym (push-is true is)) (record {
                  finds = refl;
                  leaves = done ∙ sym (ap (λ o. unwrap_or (option_map (moves.pushed k sp still) o) zone) here);
                  looks = omega arith;
                  lowers = kept ∙ sym (counted-none rest.moves);
                })

            pub told-pushed : (es : List Anchor) → told_along es sp (seek_still place n sp zone) zone
                ≡ told_named es (lowest_gone k sp (segments s.above).first)
            told-pushed es = ap (λ (p : Sought). told_along es sp p zone) (push-is true is)
                ∙ ap (λ o. told_named es (gone_above k sp o ++ [])) here
                ∙ ap (told_named es) (append-nil (lowest_gone k sp (segments s.above).first))

        module _ (is : has_free (growth still s) (run_above k sp s) ≡ false)
          where
            pub went-unpushed : (rest : Rest) → Went sp zone (seek_still place n sp zone) false (k + 1) zone rest rest
            went-unpushed rest = subst (λ (p : Sought). Went sp zone p false (k + 1) zone rest rest)
                (sym (push-is false is))
                (record { finds = refl; leaves = refl; looks = omega arith; lowers = sym (counted-none rest.moves) })

            pub told-unpushed : (es : List Anchor) → told_along es sp (seek_still place n sp zone) zone ≡ []
            told-unpushed es = ap (λ (p : Sought). told_along es sp p zone) (push-is false is)

-- a search sees each block first as it sees the zone
pub opened-each : (sparing : Sparing) (zone : List Block) → opened sparing zone ≡ map (opened_block sparing) zone
opened-each sparing.Nothing zone = sym (map-id zone)
opened-each (sparing.One slot) zone = sym (map-id zone)
opened-each (sparing.Two slot other) zone = sym (map-id zone)
opened-each (sparing.Freed slot) zone = refl

-- a block that may be purged doesn't count as free
opened-goes : (sparing : Sparing) (b : Block) → may_be_purged (spared sparing) (opened_block sparing b) ≡ true
    → opened_block sparing b ≡ b
opened-goes sparing.Nothing b goes = refl
opened-goes (sparing.One slot) b goes = refl
opened-goes (sparing.Two slot other) b goes = refl
opened-goes (sparing.Freed slot) b goes = cases (is_relocatable slot b) goes
  where
    cases : (t : Bool) → may_be_purged (λ b. false) (cond t (Free (size b)) b) ≡ true → cond t (Free (size b)) b ≡ b
    cases true goes = absurd (false≢true goes)
    cases false goes = refl

-- What a store tells of the blocks that go is told by the numbers of their handles.
goes-each : (es : List Anchor) (nd : Sparing) (k : ℕ) (bs : List Block)
    → gone_from es nd k bs ≡ told_named es (lowest_gone k (spared nd) (map (opened_block nd) bs))
goes-each es nd zero bs = refl
goes-each es nd (suc k) [] = refl
goes-each es nd (suc k) (b ∷ bs) = rw (goes-each es nd k bs, goes-each es nd (suc k) bs)
    (cases (may_be_purged (spared nd) (opened_block nd b)) refl)
  where
    named : ℕ → List Gone
    named k = told_named es (lowest_gone k (spared nd) (map (opened_block nd) bs))

    cases : (t : Bool) → may_be_purged (spared nd) (opened_block nd b) ≡ t
        → cond t (gone_named es b ++ named k) (named (suc k)) ≡ told_named es (cond t (opened_block nd b
        ∷ lowest_gone k (spared nd) (map (opened_block nd) bs)) (lowest_gone (suc k) (spared nd) (map (opened_block nd) bs)))
    cases true is = ap (λ b. gone_named es b ++ named k) (sym (opened-goes nd b is))
    cases false is = refl

pub goes-opened : (es : List Anchor) (nd : Sparing) (k : ℕ) (zone : List Block)
    → gone_from es nd k zone ≡ told_named es (lowest_gone k (spared nd) (opened nd zone))
goes-opened es nd k zone = goes-each es nd k zone
    ∙ ap (λ z. told_named es (lowest_gone k (spared nd) z)) (sym (opened-each nd zone))

pub goes-named : (es : List Anchor) (nd : Sparing) → OpensNone nd → (k : ℕ) (bs : List Block)
    → gone_from es nd k bs ≡ told_named es (lowest_gone k (spared nd) bs)
goes-named es nd whole k bs = goes-each es nd k bs
    ∙ ap (λ z. told_named es (lowest_gone k (spared nd) z)) ((λ i. map (λ b. whole b i) bs) ∙ map-id bs)

-- the k lowest blocks are those of the first part, where so many may go there
pub gone-first : (k : ℕ) (sp : Block → Bool) (first more : List Block) → k ≤ count_of sp first
    → lowest_gone k sp (first ++ more) ≡ lowest_gone k sp first
gone-first zero sp first more le = refl
gone-first (suc k) sp [] more le = absurd (let z : suc k ≤ 0 = le in omega arith)
gone-first (suc k) sp (b ∷ first) more le =
    cases (may_be_purged sp b) le (gone-first k sp first more) (gone-first (suc k) sp first more)
  where
    cases : (t : Bool) → suc k ≤ cond {A = ℕ} t 1 0 + count_of sp first
        → (k ≤ count_of sp first → lowest_gone k sp (first ++ more) ≡ lowest_gone k sp first)
        → (suc k ≤ count_of sp first → lowest_gone (suc k) sp (first ++ more) ≡ lowest_gone (suc k) sp first)
        → cond t (b ∷ lowest_gone k sp (first ++ more)) (lowest_gone (suc k) sp (first ++ more))
        ≡ cond t (b ∷ lowest_gone k sp first) (lowest_gone (suc k) sp first)
    cases true le goes stays = ap (λ l. b ∷ l) (goes (let z : suc k ≤ 1 + count_of sp first = le in omega arith))
    cases false le goes stays = stays (let z : suc k ≤ 0 + count_of sp first = le in omega arith)

-- bytes written into the block of a slot after what is found
module _ (slot : ℕ) (x : List ℕ) (sp : Block → Bool) (zone : List Block)
  where
    abbrev len : ℕ
    len = length_of slot zone

    abbrev sized : Sought
    sized = seek_sized (is_relocatable slot) (len + length x) sp zone

    pub went-longer : {n : ℕ} {zone1 zone' : List Block} {rest rest1 rest' : Rest}
        → Went sp zone sized true n zone1 rest rest1 → zone' ≡ behind slot len x zone1 → rest'.moves ≡ rest1.moves
        → Went sp zone (seek_longer slot x sp zone) true n zone' rest rest'
    went-longer {zone1 = zone1} w is same =
        went-later sp zone sized (Write slot len x) refl (λ z. refl) (λ z. refl) w
        (is ∙ by_spot zone1 (spot (is_relocatable slot) zone1)) same
      where
        by_spot : (z : List Block) (o : Option Spot)
            → written_in slot len x z o ≡ unwrap_or (option_map (moves.rewritten len x) o) z
        by_spot z None = refl
        by_spot z (Some t) = refl

    pub went-no_longer : {n : ℕ} {zone' : List Block} {rest rest' : Rest} → Went sp zone sized false n zone' rest rest'
        → Went sp zone (seek_longer slot x sp zone) false n zone' rest rest'
    went-no_longer w = went-no_later sp zone sized (Write slot len x) refl (λ z. refl) (λ z. refl) w

    pub told-longer : (es : List Anchor)
        → told_along es sp sized zone ≡ told_along es sp (seek_longer slot x sp zone) zone
    told-longer es =
        ap (told_named es) (sym (gone-later sp zone sized (Write slot len x) refl (λ z. refl) (λ z. refl)))
