use Rattle.heap_calls.proofs.Cited.{Bool, ◌≡◌, ℕ, ◌+◌, ◌≤◌, ◌<◌, true, List, ◌∷◌, ◌++◌, length, refl, sym, ◌∙◌, ap, arith, Option, Some}
use Rattle.heap_calls.proofs.Cited.{None, Result, Ok, Err, slice_get, subst, slice_get-map, option_map, ok_or, IfSome, OsErr, Log}
use Rattle.heap_calls.proofs.Cited.{NIL_HANDLE, WRONG_ZONE, Block, Free, Nonrelocatable, Masters, Relocatable, size, sizes, rename}
use Rattle.heap_calls.proofs.Cited.{rename_block, is_relocatable, content_of, with_content, Slot, Rest, Spot, spot, spot_at, rename_spot}
use Rattle.heap_calls.proofs.Cited.{spot-rename, total-rename, size-rename, spot-is, total-append, State, Memory, Answer, Held, look_up}
use Rattle.heap_calls.proofs.Cited.{held_at, handle_at, known_as, for_found, on_block, noting, silent, code_of, slot_at, slot_of, found}
use Rattle.heap_calls.proofs.Cited.{FindsBlock, FindsHeld, Found, Anchor, state_of, memory_of, name_of, handle_number, pointer_number}
use Rattle.heap_calls.proofs.Cited.{no_number}
use Rattle.heap_calls.specs.declared.anchor.Anchor.TheVariants.{Handle, Pointer, Disposed}
use Rattle.heap_calls.proofs.Numbering.Numbers.{Apart, is_relocatable-number}

-- a call that was noted: the code of its answer is kept
pub noted : {T : Type 0} (call : State → Answer T) (old mid new : Memory) (r : Result T OsErr)
    → silent call old ≡ (r, mid) → new ≡ record mid { log = record mid.log { code = code_of r } }
    → noting call old ≡ (r, new)
noted {T = T} call old mid new r is e =
    (λ i. ((is i).0, record ((is i).1) { log = record ((is i).1.log) { code = code_of {T = T} ((is i).0) } }))
    ∙ ap (λ (m : Memory). (r, m)) (sym e)

-- a slot was found where the entry is its handle's
slot_at-ok : (h : ℕ) (o : Option Anchor) (f : Found) → slot_at h o ≡ Ok f
    → (o ≡ Some (Handle f.slot f.guarded)) × (f.number ≡ h)
slot_at-ok h None f e = cc
slot_at-ok h (Some (Handle s g)) f e = let same : found h s g ≡ f = cc in
    (ap (λ (x : Found). Some (Handle x.slot x.guarded)) same, ap (λ (x : Found). x.number) (sym same))
slot_at-ok h (Some (Pointer p)) f e = cc
slot_at-ok h (Some Disposed) f e = cc

pub slot_of-ok : (handle : Option ℕ) (es : List Anchor) (f : Found) → slot_of handle es ≡ Ok f
    → (handle ≡ Some f.number) × (slice_get es f.number ≡ Some (Handle f.slot f.guarded))
slot_of-ok None es f e = cc
slot_of-ok (Some h) es f e = let p = slot_at-ok h (slice_get es h) f e in
    (ap Some (sym p.1), ap (slice_get es) p.1 ∙ p.0)

-- the block of a handle, by the store's spot of its slot
abbrev pub held : ℕ → Spot → Held
held h s = record { number = h; at = s }

pub look_up-by : (zone : List Block) (slots : ℕ → Slot) (es : List Anchor) (handle : Option ℕ) (h slot : ℕ)
    {guarded : Bool} → handle ≡ Some h → slice_get es h ≡ Some (Handle slot guarded) → Apart es → h < no_number
    → look_up handle (state_of zone slots es) ≡ ok_or (option_map (held h)
    (option_map (rename_spot (handle_number es) (pointer_number es)) (spot (is_relocatable slot) zone))) NIL_HANDLE
look_up-by zone slots es handle h slot is at apart small =
    ap (λ o. look_up o (state_of zone slots es)) is
    ∙ ap (λ o. held_at (known_as h o) (state_of zone slots es))
    (slice_get-map (name_of slots) es h ∙ ap (option_map (name_of slots)) at)
    ∙ ap (λ o. ok_or (option_map (held h) o) NIL_HANDLE) (spot-rename (handle_number es) (pointer_number es)
    (is_relocatable h) (is_relocatable slot) (is_relocatable-number es h slot at apart small) zone)

-- a name that is no handle's
pub handle_at-refused : (zone : List Block) (slots : ℕ → Slot) (es : List Anchor) (handle : Option ℕ) (code : OsErr)
    → slot_of handle es ≡ Err code → handle_at handle (state_of zone slots es) ≡ Err code
handle_at-refused zone slots es None code e = let same : NIL_HANDLE ≡ code = cc in ap Err same
handle_at-refused zone slots es (Some h) code e = ap (known_as h) (slice_get-map (name_of slots) es h)
    ∙ cases (slice_get es h) e
  where
    cases : (o : Option Anchor) → slot_at h o ≡ Err code → known_as h (option_map (name_of slots) o) ≡ Err code
    cases None e = let same : NIL_HANDLE ≡ code = cc in ap Err same
    cases (Some (Handle slot guarded)) e = cc
    cases (Some (Pointer p)) e = let same : WRONG_ZONE ≡ code = cc in ap Err same
    cases (Some Disposed) e = let same : WRONG_ZONE ≡ code = cc in ap Err same

pub look_up-refused : (zone : List Block) (slots : ℕ → Slot) (es : List Anchor) (handle : Option ℕ) (code : OsErr)
    → slot_of handle es ≡ Err code → look_up handle (state_of zone slots es) ≡ Err code
look_up-refused zone slots es handle code e = ap (λ k. held_at k (state_of zone slots es))
    (handle_at-refused zone slots es handle code e)

pub content_of-rename : (f g : ℕ → ℕ) (b : Block) → content_of (rename_block f g b) ≡ content_of b
content_of-rename f g (Free n) = refl
content_of-rename f g (Nonrelocatable id content) = refl
content_of-rename f g Masters = refl
content_of-rename f g (Relocatable id flags content) = refl

pub with_content-rename : (f g : ℕ → ℕ) (x : List ℕ) (b : Block)
    → with_content x (rename_block f g b) ≡ rename_block f g (with_content x b)
with_content-rename f g x (Free n) = refl
with_content-rename f g x (Nonrelocatable id content) = refl
with_content-rename f g x Masters = refl
with_content-rename f g x (Relocatable id flags content) = refl

pub sizes-rename : (f g : ℕ → ℕ) (bs : List Block) → sizes (rename f g bs) ≡ sizes bs
sizes-rename f g bs = total-rename f g size size (size-rename f g) bs

-- a block of a handle ends within the zone
pub place-small : (zone : List Block) (slot : ℕ) (s : Spot) → spot (is_relocatable slot) zone ≡ Some s
    → sizes s.below + size s.here ≤ sizes zone
place-small zone slot s is =
    let e : sizes zone ≡ sizes (s.below ++ s.here ∷ s.above) = ap sizes (spot-is (is_relocatable slot) zone s is) in
    let a : sizes (s.below ++ s.here ∷ s.above) ≡ sizes s.below + sizes (s.here ∷ s.above) =
    total-append size s.below (s.here ∷ s.above) in
    omega arith

pub header-fits : (slot : ℕ) (b : Block) → is_relocatable slot b ≡ true → length (content_of b) + 16 ≤ size b
header-fits slot (Free n) e = cc
header-fits slot (Nonrelocatable id content) e = cc
header-fits slot Masters e = cc
header-fits slot (Relocatable id flags content) e = omega arith

-- what was found for a handle, as it is looked up
pub finds-block : (zone : List Block) (slots : ℕ → Slot) (es : List Anchor) (handle : Option ℕ) (r : Result ℕ OsErr)
    → FindsBlock zone slots es handle r → FindsHeld (look_up handle (state_of zone slots es)) zone es r
finds-block zone slots es handle (Ok place) found = found
finds-block zone slots es handle (Err code) found = found

-- a call that is refused for what was looked up
pub refused_by : {T : Type 0} (look : State → Result Held OsErr) (code : OsErr) (zone : List Block) (rest : Rest)
    (es : List Anchor) (log : Log) (value : Memory) → memory_of zone rest es log ≡ value
    → FindsHeld (look (state_of zone rest.slots es)) zone es (Err code) → (answer : State → Held → Answer T)
    → silent (λ s. for_found (look s) s (answer s)) value ≡ (Err code, value)
refused_by {T = T} look code zone rest es log value is found answer =
    let P : Memory → Type 0 = λ m. silent {T = T} (λ s. for_found (look s) s (answer s)) m ≡ (Err code, m) in
    subst P is (ap (λ r. let a : Answer T = for_found r (state_of zone rest.slots es)
    (answer (state_of zone rest.slots es)) in (a.0, record (memory_of zone rest es log) { heap = a.1 })) found)

-- what a call answers at the block that was looked up
pub on_held : {T : Type 0} (look : State → Result Held OsErr) (zone : List Block) (rest : Rest) (es : List Anchor)
    (log : Log) (value : Memory) (k : Held) → memory_of zone rest es log ≡ value
    → look (state_of zone rest.slots es) ≡ Ok k → (answer : State → Held → Answer T)
    → silent (λ s. for_found (look s) s (answer s)) value ≡ (
      (answer value.heap k).0,
      record value
          { heap = (answer value.heap k).1 },
    )
on_held {T = T} look zone rest es log value k is found answer =
    let P : Memory → Type 0 = λ m. silent {T = T} (λ s. for_found (look s) s (answer s)) m
    ≡ ((answer m.heap k).0, record m { heap = (answer m.heap k).1 }) in
    subst P is (ap (λ r. let a : Answer T = for_found r (state_of zone rest.slots es)
    (answer (state_of zone rest.slots es)) in (a.0, record (memory_of zone rest es log) { heap = a.1 })) found)

-- the same for what was found for a handle
pub refused_for : {T : Type 0} (code : OsErr) (zone : List Block) (rest : Rest) (es : List Anchor) (log : Log)
    (handle : Option ℕ) (value : Memory) → memory_of zone rest es log ≡ value
    → FindsBlock zone rest.slots es handle (Err code) → (answer : State → Held → Answer T)
    → silent (λ s. on_block handle s (answer s)) value ≡ (Err code, value)
refused_for code zone rest es log handle value is found answer =
    refused_by (look_up handle) code zone rest es log value is found answer

-- what a call answers at the block that was found for a handle
pub on_found : {T : Type 0} (zone : List Block) (rest : Rest) (es : List Anchor) (log : Log) (handle : Option ℕ)
    (value : Memory) (k : Held) → memory_of zone rest es log ≡ value
    → look_up handle (state_of zone rest.slots es) ≡ Ok k → (answer : State → Held → Answer T)
    → silent (λ s. on_block handle s (answer s)) value ≡ (
      (answer value.heap k).0,
      record value
          { heap = (answer value.heap k).1 },
    )
on_found zone rest es log handle value k is found answer =
    on_held (look_up handle) zone rest es log value k is found answer

-- where the block of a place is known
pub at_place : (place : ℕ) (zone : List Block) (s : Spot) (P : Spot → Type 0) → spot_at place zone ≡ Some s
    → IfSome (spot_at place zone) P → P s
at_place place zone s P is holds = let Q : Option Spot → Type 0 = λ o. IfSome o P in subst Q is holds

-- the same for a copy of the entries
pub found_in : (zone : List Block) (slots : ℕ → Slot) (es es' : List Anchor) (handle : Option ℕ) (r : Result ℕ OsErr)
    → es' ≡ es → FindsBlock zone slots es' handle r → FindsBlock zone slots es handle r
found_in zone slots es es' handle r same found = let P : List Anchor → Type 0 = λ l. FindsBlock zone slots l handle r in
    subst P same found
