use Rattle.heap_calls.proofs.Cited.{Went, ◌≡◌, ℕ, ◌*◌, ◌≤◌, ◌<◌, zero, suc, Bool, true, false, List, [], ◌∷◌, ◌++◌, length, refl, sym, ◌∙◌}
use Rattle.heap_calls.proofs.Cited.{ap, subst, cond, arith, Option, Some, None, is_some, slice_get, Ok, Err, option_map, ok_or, unwrap_or}
use Rattle.heap_calls.proofs.Cited.{none-some, le-leb, phys, padded, OsErr, NIL_HANDLE, Block, Relocatable, count, is_masters, sizes}
use Rattle.heap_calls.proofs.Cited.{is_relocatable, no_flags, content_of, rename, rename_block, Spot, spot, rename_spot, has, is_used, Rest}
use Rattle.heap_calls.proofs.Cited.{counted, GREATEST_ZONE, spot-passes, Put, seek, State, Memory, Held, look_up, copying_zone}
use Rattle.heap_calls.proofs.Cited.{doing_silently, purges_made, next_block, hand_to_hand, Anchor, Found, Log, slot_of, entered, number_of}
use Rattle.heap_calls.proofs.Cited.{zone_slotted, state_of, memory_of, handle_number, pointer_number, no_number, Agrees, zone_slot_gone}
use Rattle.heap_calls.proofs.Cited.{HasSlot, bytes_of, seek_new, fresh_block, told_along, length-replicate, some_left, copying_gone}
use Rattle.block_store.specs.declared.sparing.Sparing.TheVariants as sparing
use Rattle.heap_calls.specs.Rows.{refused, for_found, made}
use Rattle.heap_calls.specs.declared.anchor.Anchor.TheVariants.{Handle}
use Rattle.heap_calls.specs.State as names
use Rattle.heap_calls.proofs.GoneBlocks.{slot_gone-is, slotted_zone-is}
use Rattle.heap_calls.proofs.Made.{made-agrees, made-is, made-gone}
use Rattle.heap_calls.proofs.NewBlocks.Seeking.{seek_made}
use Rattle.heap_calls.proofs.Numbering.Answering.{slot_of-ok, look_up-by, held, content_of-rename, place-small, header-fits}
use Rattle.heap_calls.proofs.Numbering.Numbers.{is_relocatable-number}

-- HandToHand.

-- the bytes of a block are no more than the zone's
pub source-few : (zone : List Block) (slot : ℕ) (s : Spot) → spot (is_relocatable slot) zone ≡ Some s
    → sizes zone ≤ GREATEST_ZONE → length (content_of s.here) ≤ GREATEST_ZONE
source-few zone slot s is small =
    let high = place-small zone slot s is in
    let header = header-fits slot s.here (spot-passes (is_relocatable slot) zone s is) in
    omega (arith, high, small, header)

get-push : (es : List Anchor) (e : Anchor) (h : ℕ) (x : Anchor) → slice_get es h ≡ Some x
    → slice_get (es ++ e ∷ []) h ≡ Some x
get-push [] e h x at = absurd (none-some _ at)
get-push (y ∷ es) e zero x at = at
get-push (y ∷ es) e (suc h) x at = get-push es e h x at

-- a handle whose block was emptied
pub copy-nil : (zone : List Block) (rest : Rest) (es : List Anchor) (handle : Option ℕ) (h source : ℕ) {guarded : Bool}
    → handle ≡ Some h → slice_get es h ≡ Some (Handle source guarded) → Agrees zone rest es → h < no_number
    → spot (is_relocatable source) zone ≡ None → look_up handle (state_of zone rest.slots es) ≡ Err NIL_HANDLE
copy-nil zone rest es handle h source is at agrees small none =
    look_up-by zone rest.slots es handle h source is at agrees.apart small
    ∙ ap (λ o. ok_or (option_map (held h) (option_map (rename_spot (handle_number es) (pointer_number es)) o))
    NIL_HANDLE) none

-- what is answered for it, or for a name that is no handle's
pub copy-none : (handle : Option ℕ) (s : State) (code : OsErr) → look_up handle s ≡ Err code
    → hand_to_hand handle s ≡ refused code s
copy-none handle s code none = ap (λ r. for_found r s (λ (x : Held). made (names.Handle names.Plain) (is_relocatable x.number)
    (seek (Put (next_block (content_of x.at.here) s)) (is_relocatable x.number)) s)) none

-- the handle of a slot that was looked up in a copy of the entries
pub slot-in : (es copy : List Anchor) (handle : Option ℕ) (f : Found) → copy ≡ es → slot_of handle copy ≡ Ok f
    → (handle ≡ Some f.number) × (slice_get es f.number ≡ Some (Handle f.slot f.guarded))
slot-in es copy handle f same e =
    let is = slot_of-ok handle copy f e in
    (is.0, ap (λ l. slice_get l f.number) (sym same) ∙ is.1)

-- the handle that is copied: its entry, and its block of n bytes
pub record Copied (zone : List Block) (es : List Anchor) (handle : Option ℕ) (f : Found) (n : ℕ) : Type 0 where
  pub is : handle ≡ Some f.number
  pub at : slice_get es f.number ≡ Some (Handle f.slot f.guarded)
  pub small : f.number < no_number
  pub a : Spot
  pub block : spot (is_relocatable f.slot) zone ≡ Some a
  pub long : length (content_of a.here) ≡ n
  pub few : n ≤ GREATEST_ZONE

module _ (zone : List Block) (rest : Rest) (es : List Anchor) (masters : rest.all ≡ 64 * count is_masters zone)
    (agrees : Agrees zone rest es) (handle : Option ℕ) (f : Found) (n : ℕ) (k : Copied zone es handle f n)
  where
    abbrev s : State
    s = state_of zone rest.slots es

    abbrev bytes : List ℕ
    bytes = content_of k.a.here

    abbrev own : Block → Bool
    own = is_relocatable f.number

    found : look_up handle s ≡ Ok (held f.number (rename_spot (handle_number es) (pointer_number es) k.a))
    found =
        look_up-by zone rest.slots es handle f.number f.slot k.is k.at agrees.apart k.small
        ∙ ap (λ o. ok_or (option_map (held f.number) (option_map (rename_spot (handle_number es) (pointer_number es)) o))
        NIL_HANDLE) k.block

    spares : (b : Block) → own (rename_block (handle_number es) (pointer_number es) b) ≡ is_relocatable f.slot b
    spares = is_relocatable-number es f.number f.slot k.at agrees.apart k.small

    -- a block has a size that blocks can have
    fits : (m : ℕ) → m ≡ n → is_some (phys m) ≡ true
    fits m same = ap (λ t. is_some (cond t (Some (padded m)) None)) (le-leb m 2147483616 (omega (arith, k.few)))

    row : hand_to_hand handle s ≡ made (names.Handle names.Plain) own (seek (Put (next_block bytes s)) own) s
    row =
        ap (λ r. for_found r s (λ (x : Held). made (names.Handle names.Plain) (is_relocatable x.number)
        (seek (Put (next_block (content_of x.at.here) s)) (is_relocatable x.number)) s)) found
        ∙ ap (λ x. made (names.Handle names.Plain) own (seek (Put (next_block x s)) own) s)
        (content_of-rename (handle_number es) (pointer_number es) k.a.here)

    -- what is answered
    module _ (fresh : (j : ℕ) → is_used (rest.slots j) ≡ false → has (is_relocatable j) zone ≡ false) (log : Log)
        (value : Memory) (is : memory_of zone rest es log ≡ value) (zone' : List Block) (rest' : Rest)
        (slot : Option ℕ) (m : ℕ)
      where
        stays : (slot : Option ℕ) → slice_get (entered slot es) f.number ≡ Some (Handle f.slot f.guarded)
        stays None = k.at
        stays (Some j) = get-push es (Handle j false) f.number (Handle f.slot f.guarded) k.at

        pub copied-answer : HasSlot slot rest rest' → Went (is_relocatable f.slot) zone
            (seek_new (sparing.One f.slot) rest.unused n (Relocatable (unwrap_or slot 0) no_flags
            (bytes_of (spot (is_relocatable f.slot) zone))) zone) (is_some slot) m zone' rest rest'
            → doing_silently (hand_to_hand handle) value ≡ (
              number_of slot es,
              memory_of zone' rest' (entered slot es) (record log { searches = counted log.searches m }),
            )
        copied-answer had did =
            let apart = made-agrees zone rest es masters agrees fresh rest' zone (λ j. refl) slot had in
            let P : List ℕ → Bool → Type 0 = λ x t. Went (is_relocatable f.slot) zone
            (seek_made (is_relocatable f.slot) (some_left rest.unused) (Relocatable (unwrap_or slot 0) no_flags x) t zone)
            (is_some slot) m zone' rest rest' in
            made-is zone rest es masters agrees fresh rest' log value is zone' own (is_relocatable f.slot)
            (hand_to_hand handle) m slot had
            (is_relocatable-number (entered slot es) f.number f.slot (stays slot) apart.apart k.small) no_flags bytes true
            row (subst (P bytes) (fits n refl) (subst (λ x. P x (is_some (phys n))) (ap bytes_of k.block) did))

    -- what is purged, for the master pointer and for the block
    pub copied-gone : told_along es (is_relocatable f.slot) (seek_new (sparing.One f.slot) rest.unused n
        (fresh_block 0 n) zone) zone ≡ purges_made (hand_to_hand handle) s
    copied-gone =
        ap (λ t. told_along es (is_relocatable f.slot) (seek_made (is_relocatable f.slot) (some_left rest.unused)
        (fresh_block 0 n) t zone) zone) (fits n refl)
        ∙ made-gone zone rest es masters agrees own (is_relocatable f.slot) spares (hand_to_hand handle) (fresh_block 0 n)
        (next_block bytes s) true (ap padded (length-replicate n 0 ∙ sym k.long)) row

    -- for the master pointer, and the zone that is left then
    pub copying_gone-is : zone_slot_gone es (sparing.One f.slot) rest.unused zone ≡ copying_gone (look_up handle s) s
    copying_gone-is =
        slot_gone-is zone rest es masters agrees own (sparing.One f.slot) spares ∙ sym (ap (λ r. copying_gone r s) found)

    pub copying_zone-is : (zone' : List Block) → zone_slotted (sparing.One f.slot) rest.unused zone ≡ Some zone'
        → copying_zone (look_up handle s) s ≡ rename (handle_number es) (pointer_number es) zone'
    copying_zone-is zone' ready =
        ap (λ r. copying_zone r s) found
        ∙ slotted_zone-is zone rest es masters agrees own (sparing.One f.slot) spares zone' ready
