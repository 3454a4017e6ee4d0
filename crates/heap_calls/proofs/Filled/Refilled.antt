use Rattle.heap_calls.proofs.Cited.{◌≡◌, ℕ, Bool, false, List, [], length, refl, sym, ◌∙◌, ap, Some, Result, Err, is_some, slice_get}
use Rattle.heap_calls.proofs.Cited.{replicate, length-replicate, phys, padded, OsErr, Flags, Block, Relocatable, is_relocatable}
use Rattle.heap_calls.proofs.Cited.{rename_block, has, has-rename, Rest, Nothing, Put, seek, if_fits, seek-rename, Anchor, Log, State}
use Rattle.heap_calls.proofs.Cited.{Memory, Known, nothing, for_found, refused, handle_at, has_block, refill, Done, changed, fresh_block}
use Rattle.heap_calls.proofs.Cited.{seek_block, told_along, told_named, state_of, memory_of, handle_number, pointer_number}
use Rattle.heap_calls.specs.declared.anchor.Anchor.TheVariants.{Handle}
use Rattle.heap_calls.specs.Rows as rows
use Rattle.heap_calls.proofs.NewBlocks.Seeking.{fits-alike}
use Rattle.heap_calls.proofs.Numbering.Loosening.{handle_at-by}
use Rattle.heap_calls.proofs.Numbering.Numbers.{Apart, handle_number-at}
use Rattle.heap_calls.proofs.Sizes.Grown.{IsCall, fits-names}
use Rattle.heap_calls.proofs.Went.{seek-names, fits-rename}

-- A block for an empty handle.

-- an empty handle's slot has no block
pub slot-emptied : (value : Memory) (zone : List Block) (rest : Rest) (es : List Anchor) (log : Log) (h slot : ℕ)
    → memory_of zone rest es log ≡ value
    → ((b : Block) → is_relocatable h (rename_block (handle_number es) (pointer_number es) b) ≡ is_relocatable slot b)
    → has_block h value.heap ≡ false → has (is_relocatable slot) zone ≡ false
slot-emptied value zone rest es log h slot is same gone =
    sym (has-rename (handle_number es) (pointer_number es) (is_relocatable h) (is_relocatable slot) same zone)
    ∙ ap (λ (m : Memory). has_block h m.heap) is ∙ gone

module _ (h : ℕ) (flags : Flags) (x : List ℕ)
  where
    abbrev sized : padded (length (replicate {A = ℕ} (length x) 0)) ≡ padded (length x)
    sized = ap padded (length-replicate (length x) 0)

    pub refilled-told : (slot : ℕ) (zone : List Block) (es : List Anchor)
        → told_along es nothing (seek_block Nothing (length x) (fresh_block 0 (length x)) zone) zone
        ≡ told_along es nothing (seek_block Nothing (length x) (Relocatable slot flags x) zone) zone
    refilled-told slot zone es = ap (told_named es) (fits-alike nothing (fresh_block 0 (length x)) (Relocatable slot flags x)
        sized (is_some (phys (length x))) zone)

    -- the path by the handle's number, and none where there is no such handle
    module _ (zone : List Block) (rest : Rest) (es : List Anchor)
      where
        abbrev s : State
        s = state_of zone rest.slots es

        abbrev by_number : Result Known OsErr → Done (Unit {0})
        by_number r = rows.for_found r s (λ (k : Known). changed nothing (if_fits (length x)
            (seek (Put (Relocatable k.number flags x)) nothing s.zone)) s)

        pub refill-none : (code : OsErr) → handle_at (Some h) s ≡ Err code → refill h flags x s ≡ rows.refused code s
        refill-none code none = ap by_number none

        pub refill-call : (slot : ℕ) {guarded : Bool} → slice_get es h ≡ Some (Handle slot guarded) → Apart es
            → IsCall zone rest es (refill h flags x) nothing Nothing (seek_block Nothing (length x) (Relocatable slot flags x) zone)
        refill-call slot at apart =
            let f = handle_number es in
            let g = pointer_number es in
            let new = Relocatable slot flags x in
            let fits = is_some (phys (length x)) in record {
              spares = λ b. refl;
              names = fits-names f g fits (seek (Put new) nothing zone) (seek-names f g nothing (Put new) tt zone);
              row = ap by_number (handle_at-by zone rest.slots es (Some h) h slot refl at)
                  ∙ ap (λ (k : ℕ). changed nothing (if_fits (length x) (seek (Put (Relocatable k flags x)) nothing s.zone)) s)
                  (sym (handle_number-at es h slot at apart))
                  ∙ ap (λ r. changed nothing (if_fits (length x) r) s)
                  (seek-rename f g nothing nothing (λ b. refl) (Put new) tt zone)
                  ∙ ap (λ r. changed nothing r s) (fits-rename f g fits (seek (Put new) nothing zone));
            }
