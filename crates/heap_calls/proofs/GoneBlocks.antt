use Rattle.heap_calls.proofs.Cited.{◌≡◌, ℕ, ◌+◌, ◌-◌, ◌≤◌, ◌<◌, zero, suc, Bool, true, false, ◌&&◌, List, [], ◌∷◌, ◌++◌, length, drop}
use Rattle.heap_calls.proofs.Cited.{slice_index_or, inl, inr, append_assoc, append-nil, refl, sym, ◌∙◌, ap, cond, arith, Option, Some, None}
use Rattle.heap_calls.proofs.Cited.{subst, ◌*◌, cond-true, cond-false, nat_tests, at_drop_more, length-map, none-some, option_map, Block}
use Rattle.heap_calls.proofs.Cited.{Free, Nonrelocatable, Masters, Relocatable, size, sizes, is_purgeable, content_of, rename, rename_block}
use Rattle.heap_calls.proofs.Cited.{tidy, IsEdge, Spot, spot_at, may_be_purged, spared, opened_block, seen, Flags, Sparing, Nothing}
use Rattle.heap_calls.proofs.Cited.{spot_at-below, spot_at-is, Apart, apart-tidied, spot_at-parted, spot-end, total-append}
use Rattle.heap_calls.proofs.Cited.{is_purgeable-rename, Anchor, Rest, Log, Memory, nothing, gone_of, gone, slot_gone, slot_made}
use Rattle.heap_calls.proofs.Cited.{slotted_zone, Did, did, rename_did, Sought, seek_slot, slot-rename, did-rename, State, same_Some, count}
use Rattle.heap_calls.proofs.Cited.{is_masters, number_from, handle_number, pointer_number, leads_to, name_of, memory_of, state_of, Agrees}
use Rattle.heap_calls.proofs.Cited.{IsNumberOf, gone_named, gone_from, from_spot, blocks_from, zone_slot_gone, some_left, seek_unused}
use Rattle.heap_calls.proofs.Cited.{told_blocks, zone_slotted}
use Rattle.std.specs.Prelude.{nat_lt}
use Rattle.block_store.specs.declared.sparing.Seen.TheVariants as see
use Rattle.heap_calls.proofs.NewBlocks.NewHandles.{unused-is}
use Rattle.heap_calls.proofs.Went.{slot-names}

-- What a sink is told of blocks that are purged.

-- the number of a slot's handle, one entry on
pub number_here : (entries : List Anchor) (i slot : ℕ) (e : Anchor) → i < length entries
    → leads_to slot (slice_index_or entries i e) ≡ true → number_from i (leads_to slot) (drop i entries) ≡ i
number_here entries i slot e less is =
    at_drop_more (λ (es : List Anchor). number_from i (leads_to slot) es) entries i e less
    ∙ cond-true (leads_to slot (slice_index_or entries i e)) i _ is

-- Where blocks stand apart, those from a place on are the ones above those that end there.
from-between : (below above : List Block) → Apart (below ++ above) → blocks_from (sizes below) (below ++ above) ≡ above
from-between below [] a =
    ap from_spot (ap (spot_at (sizes below)) (append-nil below)
    ∙ spot-end below (subst Apart (append-nil below) a))
from-between below (b ∷ above) a = ap from_spot (spot_at-parted below b above a)

pub from-behind : (place : ℕ) (zone : List Block) (s : Spot) → tidy zone ≡ zone → spot_at place zone ≡ Some s
    → blocks_from (place + size s.here) zone ≡ s.above
from-behind place zone s tidied at =
    let whole : (s.below ++ s.here ∷ []) ++ s.above ≡ zone = append_assoc s.below (s.here ∷ []) s.above
    ∙ spot_at-is place zone s at in
    let all : sizes (s.below ++ s.here ∷ []) ≡ sizes s.below + (size s.here + 0) =
    total-append size s.below (s.here ∷ []) in
    let here : sizes s.below ≡ place = spot_at-below place zone s at in
    let end : place + size s.here ≡ sizes (s.below ++ s.here ∷ []) = omega arith in
    ap (λ n. blocks_from n zone) end ∙ ap (blocks_from (sizes (s.below ++ s.here ∷ []))) (sym whole)
    ∙ from-between (s.below ++ s.here ∷ []) s.above (subst Apart (sym whole) (apart-tidied zone tidied))

-- no block is told of where none is left
pub gone_from-none : (entries : List Anchor) (sparing : Sparing) (k : ℕ) → gone_from entries sparing k [] ≡ []
gone_from-none entries sparing zero = refl
gone_from-none entries sparing (suc k) = refl

pub gone_from-end : (entries : List Anchor) (sparing : Sparing) (k place : ℕ) (zone : List Block)
    → spot_at place zone ≡ None → gone_from entries sparing k (blocks_from place zone) ≡ []
gone_from-end entries sparing k place zone e = ap (λ o. gone_from entries sparing k (from_spot o)) e
    ∙ gone_from-none entries sparing k

-- one block on: it is purged, or it stays
pub gone_from-goes : (entries : List Anchor) (sparing : Sparing) (k k' place place' : ℕ) (zone : List Block) (s : Spot)
    → 0 < k → tidy zone ≡ zone → spot_at place zone ≡ Some s
    → may_be_purged (spared sparing) (opened_block sparing s.here) ≡ true → k' ≡ k - 1 → place' ≡ place + size s.here
    → gone_from entries sparing k (blocks_from place zone)
    ≡ gone_named entries s.here ++ gone_from entries sparing k' (blocks_from place' zone)
gone_from-goes entries sparing zero k' place place' zone s some tidied at goes less on = absurd (omega (arith, some))
gone_from-goes entries sparing (suc k) k' place place' zone s some tidied at goes less on =
    ap (λ o. gone_from entries sparing (suc k) (from_spot o)) at
    ∙ cond-true (may_be_purged (spared sparing) (opened_block sparing s.here)) _ _ goes
    ∙ ap (λ n. gone_named entries s.here ++ gone_from entries sparing n s.above)
    (let z : k ≡ k' = omega (arith, less) in z)
    ∙ ap (λ bs. gone_named entries s.here ++ gone_from entries sparing k' bs)
    (sym (ap (λ n. blocks_from n zone) on ∙ from-behind place zone s tidied at))

pub gone_from-stays : (entries : List Anchor) (sparing : Sparing) (k place place' : ℕ) (zone : List Block) (s : Spot)
    → 0 < k → tidy zone ≡ zone → spot_at place zone ≡ Some s
    → may_be_purged (spared sparing) (opened_block sparing s.here) ≡ false → place' ≡ place + size s.here
    → gone_from entries sparing k (blocks_from place zone) ≡ gone_from entries sparing k (blocks_from place' zone)
gone_from-stays entries sparing zero place place' zone s some tidied at stays on = absurd (omega (arith, some))
gone_from-stays entries sparing (suc k) place place' zone s some tidied at stays on =
    ap (λ o. gone_from entries sparing (suc k) (from_spot o)) at
    ∙ cond-false (may_be_purged (spared sparing) (opened_block sparing s.here)) _ _ stays
    ∙ ap (gone_from entries sparing (suc k))
    (sym (ap (λ n. blocks_from n zone) on ∙ from-behind place zone s tidied at))

-- the blocks of a store that are purged are those of its heap
pub gone-named : (entries : List Anchor) (k : ℕ) (blocks : List Block)
    → gone (length entries) k nothing (rename (handle_number entries) (pointer_number entries) blocks)
    ≡ gone_from entries Nothing k blocks
gone-named entries zero blocks = refl
gone-named entries (suc k) [] = refl
gone-named entries (suc k) (b ∷ above) =
    ap (λ t. cond t (gone_named entries b ++ gone (length entries) k nothing
    (rename (handle_number entries) (pointer_number entries) above))
    (gone (length entries) (suc k) nothing (rename (handle_number entries) (pointer_number entries) above)))
    (ap (λ t. t && true) (is_purgeable-rename (handle_number entries) (pointer_number entries) b))
    ∙ ap (λ l. cond (is_purgeable b && true) (gone_named entries b ++ l)
    (gone (length entries) (suc k) nothing (rename (handle_number entries) (pointer_number entries) above)))
    (gone-named entries k above)
    ∙ ap (λ l. cond (is_purgeable b && true) (gone_named entries b ++ gone_from entries Nothing k above) l)
    (gone-named entries (suc k) above)

-- a handle's block is told of by the handle's number
pub told-number : (entries : List Anchor) (b : Block) (slot n number : ℕ) (flags : Flags) → see.Relocatable slot flags n
    ≡ seen b → IsNumberOf slot entries (Some number) → gone_named entries b ≡ (number, content_of b) ∷ []
told-number entries (Free m) slot n number flags e is = cc
told-number entries (Nonrelocatable id content) slot n number flags e is = cc
told-number entries Masters slot n number flags e is = cc
told-number entries (Relocatable id own content) slot n number flags e is =
    let same : slot ≡ id = cc in
    let named : handle_number entries id ≡ number = ap (handle_number entries) (sym same) ∙ is.0 in
    cond-true (nat_lt (handle_number entries id) (length entries)) _ _ (grind (arith, nat_tests, is.1))
    ∙ ap (λ k. (k, content) ∷ []) named

-- and one without a handle isn't
pub told-nothing : (entries : List Anchor) (b : Block) (slot n : ℕ) (flags : Flags) → see.Relocatable slot flags n
    ≡ seen b → IsNumberOf slot entries None → gone_named entries b ≡ []
told-nothing entries (Free m) slot n flags e is = cc
told-nothing entries (Nonrelocatable id content) slot n flags e is = cc
told-nothing entries Masters slot n flags e is = cc
told-nothing entries (Relocatable id own content) slot n flags e is =
    let same : slot ≡ id = cc in
    let most : length entries ≤ handle_number entries id = subst (λ k. length entries ≤ handle_number entries k) same
    is in
    cond-false (nat_lt (handle_number entries id) (length entries)) _ _ (grind (arith, nat_tests, most))

-- no block is seen where there is none
pub unseen : (o : Option Spot) → option_map (λ (s : Spot). seen s.here) o ≡ None → o ≡ None
unseen None e = refl
unseen (Some s) e = absurd (none-some _ (sym e))

-- from the bottom on there are all blocks
pub from-bottom : (zone : List Block) → blocks_from 0 zone ≡ zone
from-bottom [] = refl
from-bottom (b ∷ above) = refl

pub edge-bottom : (zone : List Block) → IsEdge 0 zone
edge-bottom [] = inr refl
edge-bottom (b ∷ above) = inl refl

-- so many blocks of a store that are purged are those of its heap, from the bottom on
pub told-all : (value : Memory) (zone : List Block) (rest : Rest) (es : List Anchor) (log : Log) (k k' : ℕ)
    → memory_of zone rest es log ≡ value → k ≡ k'
    → gone_from es Nothing k zone ≡ gone (length value.heap.names) k' nothing value.heap.zone
told-all value zone rest es log k k' is same =
    sym (gone-named es k zone)
    ∙ ap (λ n. gone n k nothing (rename (handle_number es) (pointer_number es) zone))
    (sym (length-map es (name_of rest.slots)))
    ∙ ap (λ (m : Memory). gone (length m.heap.names) k nothing m.heap.zone) is
    ∙ ap (λ n. gone (length value.heap.names) n nothing value.heap.zone) same

-- what is told of one list of blocks and of another
pub told-append : (n : ℕ) (xs ys : List Block) → told_blocks n (xs ++ ys) ≡ told_blocks n xs ++ told_blocks n ys
told-append n [] ys = refl
told-append n (b ∷ xs) ys = ap (λ l. gone_of n b ++ l) (told-append n xs ys)
    ∙ sym (append_assoc (gone_of n b) (told_blocks n xs) (told_blocks n ys))

-- what is done for an unused master pointer, where the names that a search spares are those of slots
module _ (zone : List Block) (rest : Rest) (es : List Anchor) (masters : rest.all ≡ 64 * count is_masters zone)
    (agrees : Agrees zone rest es) (sp : Block → Bool) (sparing : Sparing)
    (same : (b : Block) → sp (rename_block (handle_number es) (pointer_number es) b) ≡ spared sparing b)
  where
    abbrev f : ℕ → ℕ
    f = handle_number es

    abbrev g : ℕ → ℕ
    g = pointer_number es

    abbrev s : State
    s = state_of zone rest.slots es

    abbrev slot : Sought
    slot = seek_unused sparing rest.unused zone

    slot_made-is : slot_made sp s ≡ rename_did f g (did (spared sparing) slot.path zone)
    slot_made-is =
        let left = some_left rest.unused in
        ap (λ t. did sp (seek_slot t sp s.zone).path s.zone) (unused-is zone rest es masters agrees)
        ∙ ap (λ (r : Sought). did sp r.path s.zone) (slot-rename f g sp (spared sparing) same left zone)
        ∙ did-rename f g sp (spared sparing) same slot.path (slot-names f g (spared sparing) left zone) zone

    -- the blocks that are purged for it, and the zone that is left
    pub slot_gone-is : zone_slot_gone es sparing rest.unused zone ≡ slot_gone sp s
    slot_gone-is =
        ap (λ (k : ℕ). told_blocks k (rename f g (did (spared sparing) slot.path zone).gone))
        (sym (length-map es (name_of rest.slots)))
        ∙ sym (ap (λ (d : Did). told_blocks (length s.names) d.gone) slot_made-is)

    pub slotted_zone-is : (zone' : List Block) → zone_slotted sparing rest.unused zone ≡ Some zone'
        → slotted_zone sp s ≡ rename f g zone'
    slotted_zone-is zone' ready = ap (λ (d : Did). d.zone) slot_made-is ∙ ap (rename f g) (by_found slot.found ready)
      where
        by_found : (t : Bool) → cond t (Some (did (spared sparing) slot.path zone).zone) None ≡ Some zone'
            → (did (spared sparing) slot.path zone).zone ≡ zone'
        by_found true e = same_Some _ _ e
        by_found false e = absurd (none-some _ e)
