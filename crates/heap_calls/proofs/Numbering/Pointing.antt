use Rattle.heap_calls.proofs.Cited.{is_used, ◌≡◌, ℕ, ◌+◌, ◌-◌, ◌≤◌, ◌<◌, Bool, true, false, ◌||◌, ◌==◌, List, [], ◌∷◌, ◌++◌, length, refl}
use Rattle.heap_calls.proofs.Cited.{sym, ◌∙◌, ap, map, arith, Option, Some, None, Result, Ok, Err, slice_get, slice_set, count_by, subst}
use Rattle.heap_calls.proofs.Cited.{nat_le, map-set, same_Some, slice_get-map, cond-true, cond-false, false≢true, or_parts, Decides-eqb}
use Rattle.heap_calls.proofs.Cited.{nat_tests, option_map, ok_or, IsSome, IfSome, OsErr, NIL_HANDLE, WRONG_ZONE, Block, Free}
use Rattle.heap_calls.proofs.Cited.{Nonrelocatable, Masters, Relocatable, size, sizes, tidy, rename, rename_block, is_nonrelocatable}
use Rattle.heap_calls.proofs.Cited.{content_of, has, Placed, Slot, Rest, KeepsSlots, Spot, spot, spot_at, raised, rename_spot, freed}
use Rattle.heap_calls.proofs.Cited.{GREATEST_ZONE, Apart, apart-tidied, apart-size, spot-rename, freed-rename, tidy-rename, has-tidy}
use Rattle.heap_calls.proofs.Cited.{has-freed, spot-passes, spot-is, total-append, not_nonrelocatable-other, State, Memory, uses_slot, Held}
use Rattle.heap_calls.proofs.Cited.{look_up, for_found, silent, pointed, pointed_at, named_block, block_named, dispose_pointer}
use Rattle.heap_calls.proofs.Cited.{get_pointer_size, pointer_zone, target, target_at, target_of, FindsHeld, Log, Anchor, state_of}
use Rattle.heap_calls.proofs.Cited.{memory_of, name_of, handle_number, pointer_number, leads_to, points_to, no_number, Agrees}
use Rattle.heap_calls.specs.State as names
use Rattle.heap_calls.specs.declared.anchor.Target.{Target}
use Rattle.heap_calls.specs.declared.anchor.Anchor.TheVariants.{Handle, Pointer, Disposed}
use Rattle.heap_calls.proofs.Numbering.Answering.{held, at_place, content_of-rename, on_held}
use Rattle.heap_calls.proofs.Numbering.Numbers.{flipped, same_test, number_from-at, number_from-found, leads_to-same}
use Rattle.heap_calls.proofs.Numbering.Changing.{number_from-set, names-same, state-left, without-other, handle-stays}
use Rattle.heap_calls.proofs.Numbering.Changing.{pointer-stays, used-without}
use Rattle.heap_calls.proofs.Room.Staying.{nonrelocatable-tidy, nonrelocatable-freed_other}

-- Pointers, by the places of their blocks.

-- where the nonrelocatable block of a place is, seen in blocks that begin at a base
pub record IsThere (place base : ℕ) (zone : List Block) : Type 0 where
  pub s : Spot
  pub found : spot (is_nonrelocatable place) zone ≡ Some s
  pub at : spot_at (place - base) zone ≡ Some s
  pub distance : base + sizes s.below ≡ place

pub nonrelocatable-there : (place base : ℕ) (zone : List Block) → Placed base zone → Apart zone
    → has (is_nonrelocatable place) zone ≡ true → IsThere place base zone
nonrelocatable-there place base [] placed apart e = absurd (false≢true e)
nonrelocatable-there place base (b ∷ above) placed apart e = start b placed (apart-size b above apart.0) e
    (λ k placed e. nonrelocatable-there place k above placed apart.1 e)
  where
    -- the block is above the first one
    further : (b : Block) → is_nonrelocatable place b ≡ false → 0 < size b → IsThere place (base + size b) above
        → IsThere place base (b ∷ above)
    further b other some r = record {
      s = raised b r.s;
      found = cond-false (is_nonrelocatable place b) _ _ other ∙ ap (option_map (raised b)) r.found;
      at =
          let d = r.distance in
          let first : (place - base == 0) ≡ false = grind (arith, nat_tests) in
          let fits : nat_le (size b) (place - base) ≡ true = grind (arith, nat_tests) in
          let same : place - base - size b ≡ place - (base + size b) = omega arith in
          cond-false (place - base == 0) _ _ first ∙ cond-true (nat_le (size b) (place - base)) _ _ fits
          ∙ ap (option_map (raised b)) (ap (λ n. spot_at n above) same ∙ r.at);
      distance = let d = r.distance in let z : sizes (b ∷ r.s.below) ≡ size b + sizes r.s.below = refl in omega arith;
    }

    here : (id : ℕ) (content : List ℕ) → id ≡ base → (t : Bool) → (id == place) ≡ t
        → (t ≡ false → IsThere place (base + size (Nonrelocatable id content)) above)
        → IsThere place base (Nonrelocatable id content ∷ above)
    here id content is true e rest = record {
      s = record { below = []; here = Nonrelocatable id content; above = above };
      found = cond-true (id == place) _ _ e;
      at = let same : id ≡ place = (Decides-eqb id place).0 e in
          let z : (place - base == 0) ≡ true = grind (arith, nat_tests) in cond-true (place - base == 0) _ _ z;
      distance = let same : id ≡ place = (Decides-eqb id place).0 e in omega arith;
    }
    here id content is false e rest = further (Nonrelocatable id content) e (omega arith) (rest refl)

    start : (b : Block) → Placed base (b ∷ above) → 0 < size b → has (is_nonrelocatable place) (b ∷ above) ≡ true
        → ((k : ℕ) → Placed k above → has (is_nonrelocatable place) above ≡ true → IsThere place k above)
        → IsThere place base (b ∷ above)
    start (Free n) placed some e rest = further (Free n) refl some (rest (base + n) placed e)
    start (Nonrelocatable id content) placed some e rest = here id content placed.0 (id == place) refl
        (λ f. rest (base + size (Nonrelocatable id content)) placed.1 (ap (λ t. t || has (is_nonrelocatable place) above) (sym f) ∙ e))
    start Masters placed some e rest = further Masters refl some (rest (base + 272) placed e)
    start (Relocatable id flags content) placed some e rest = further (Relocatable id flags content) refl some
        (rest (base + size (Relocatable id flags content)) placed e)

-- no two pointers have one place
abbrev pub Lone : List Anchor → Type 0
Lone es = (h k place : ℕ) → slice_get es h ≡ Some (Pointer place) → slice_get es k ≡ Some (Pointer place) → h ≡ k

pub points_to-is : (place : ℕ) (e : Anchor) → points_to place e ≡ true → e ≡ Pointer place
points_to-is place (Handle s g) is = absurd (false≢true is)
points_to-is place (Pointer p) is = ap Pointer ((Decides-eqb p place).0 is)
points_to-is place Disposed is = absurd (false≢true is)

-- the number of a place is that of its pointer
pub pointer_number-at : (es : List Anchor) (h place : ℕ) → slice_get es h ≡ Some (Pointer place) → Lone es
    → pointer_number es place ≡ h
pointer_number-at es h place at lone =
    number_from-at 0 (points_to place) es h (Pointer place) at (leads_to-same place)
    (λ k e found is. lone k h place (found ∙ ap Some (points_to-is place e is)) at) ∙ omega arith

-- and no other place has it
pub pointer_number-only : (es : List Anchor) (h place id : ℕ) → slice_get es h ≡ Some (Pointer place) → h < no_number
    → pointer_number es id ≡ h → id ≡ place
pointer_number-only es h place id at small is =
    let found = number_from-found 0 (points_to id) es h is small in
    let same : h ≡ found.0 = omega (arith, found.2) in
    let both : Some found.1 ≡ Some (Pointer place) = sym found.3 ∙ ap (slice_get es) (sym same) ∙ at in
    place_from (sym (points_to-is id found.1 found.4) ∙ same_Some _ _ both)
  where
    place_from : Pointer id ≡ Pointer place → id ≡ place
    place_from e = cc

-- a block has a pointer's number where it has its place
pub is_nonrelocatable-number : (es : List Anchor) (h place : ℕ) → slice_get es h ≡ Some (Pointer place) → Lone es → h < no_number
    → (b : Block) → is_nonrelocatable h (rename_block (handle_number es) (pointer_number es) b) ≡ is_nonrelocatable place b
is_nonrelocatable-number es h place at lone small (Free n) = refl
is_nonrelocatable-number es h place at lone small (Nonrelocatable id content) =
    same_test (pointer_number es id) h id place (pointer_number-only es h place id at small)
    (λ e. ap (pointer_number es) e ∙ pointer_number-at es h place at lone)
is_nonrelocatable-number es h place at lone small Masters = refl
is_nonrelocatable-number es h place at lone small (Relocatable id flags content) = refl

-- a pointer was found where the entry is its own
target_at-ok : (p : ℕ) (o : Option Anchor) (t : Target) → target_at p o ≡ Ok t → (o ≡ Some (Pointer t.place))
    × (t.number ≡ p)
target_at-ok p None t e = cc
target_at-ok p (Some (Handle s g)) t e = cc
target_at-ok p (Some (Pointer q)) t e = let same : target p q ≡ t = cc in
    (ap (λ (x : Target). Some (Pointer x.place)) same, ap (λ (x : Target). x.number) (sym same))
target_at-ok p (Some Disposed) t e = cc

pub target_of-ok : (pointer : Option ℕ) (es : List Anchor) (t : Target) → target_of pointer es ≡ Ok t
    → (pointer ≡ Some t.number) × (slice_get es t.number ≡ Some (Pointer t.place))
target_of-ok None es t e = cc
target_of-ok (Some p) es t e = let r = target_at-ok p (slice_get es p) t e in
    (ap Some (sym r.1), ap (slice_get es) r.1 ∙ r.0)

-- a name that is no pointer's
pub pointed_at-refused : (zone : List Block) (slots : ℕ → Slot) (es : List Anchor) (pointer : Option ℕ) (code : OsErr)
    → target_of pointer es ≡ Err code → pointed_at pointer (state_of zone slots es) ≡ Err code
pointed_at-refused zone slots es None code e = let same : NIL_HANDLE ≡ code = cc in ap Err same
pointed_at-refused zone slots es (Some p) code e = ap (λ o. pointed p o (state_of zone slots es))
    (slice_get-map (name_of slots) es p) ∙ cases (slice_get es p) e
  where
    cases : (o : Option Anchor) → target_at p o ≡ Err code
        → pointed p (option_map (name_of slots) o) (state_of zone slots es) ≡ Err code
    cases None e = let same : NIL_HANDLE ≡ code = cc in ap Err same
    cases (Some (Handle slot guarded)) e = let same : WRONG_ZONE ≡ code = cc in ap Err same
    cases (Some (Pointer q)) e = cc
    cases (Some Disposed) e = let same : WRONG_ZONE ≡ code = cc in ap Err same

-- a pointer's block, where it was looked up
pub record IsHeld (zone : List Block) (slots : ℕ → Slot) (es : List Anchor) (pointer : Option ℕ) (t : Target) : Type 0
  where
    pub s : Spot
    pub bound : pointer ≡ Some t.number
    pub entry : slice_get es t.number ≡ Some (Pointer t.place)
    pub looked : pointed_at pointer (state_of zone slots es) ≡ Ok
        (held t.number (rename_spot (handle_number es) (pointer_number es) s))
    pub found : spot (is_nonrelocatable t.place) zone ≡ Some s
    pub at : spot_at t.place zone ≡ Some s
    pub there : IsSome (spot_at t.place zone)
    pub distance : sizes s.below ≡ t.place
    pub nonrelocatable : is_nonrelocatable t.place s.here ≡ true
    pub few : t.place + 16 + length (content_of s.here) ≤ sizes zone

header-fits : (place : ℕ) (b : Block) → is_nonrelocatable place b ≡ true → length (content_of b) + 16 ≤ size b
header-fits place (Free n) e = absurd (false≢true e)
header-fits place (Nonrelocatable id content) e = omega arith
header-fits place Masters e = absurd (false≢true e)
header-fits place (Relocatable id flags content) e = absurd (false≢true e)

-- a copy of the entries
pub target_in : (es es' : List Anchor) (pointer : Option ℕ) (r : Result Target OsErr) → es' ≡ es
    → r ≡ target_of pointer es' → target_of pointer es ≡ r
target_in es es' pointer r same is = ap (target_of pointer) (sym same) ∙ sym is

-- a pointer that was found in a copy of the entries has its block
pub pointer-held : (zone : List Block) (rest : Rest) (es copy : List Anchor) (pointer : Option ℕ) (t : Target)
    → Agrees zone rest es → Placed 0 zone → tidy zone ≡ zone → t.number < no_number → copy ≡ es
    → Ok t ≡ target_of pointer copy → IsHeld zone rest.slots es pointer t
pointer-held zone rest es copy pointer t agrees placed tidied small same is =
    let e = target_of-ok pointer es t (target_in es copy pointer (Ok t) same is) in
    let there = nonrelocatable-there t.place 0 zone placed (apart-tidied zone tidied) (agrees.pointed t.number t.place e.1) in
    let at : spot_at t.place zone ≡ Some there.s = let same : t.place - 0 ≡ t.place = omega arith in
    ap (λ n. spot_at n zone) (sym same) ∙ there.at in
    let nonrelocatable = spot-passes (is_nonrelocatable t.place) zone there.s there.found in
    let distance : sizes there.s.below ≡ t.place = let d = there.distance in omega arith in
    let header = header-fits t.place there.s.here nonrelocatable in
    let whole : sizes zone ≡ sizes (there.s.below ++ there.s.here ∷ there.s.above) =
    ap sizes (spot-is (is_nonrelocatable t.place) zone there.s there.found) in
    let parts : sizes (there.s.below ++ there.s.here ∷ there.s.above)
    ≡ sizes there.s.below + sizes (there.s.here ∷ there.s.above) =
    total-append size there.s.below (there.s.here ∷ there.s.above) in
    record {
      s = there.s;
      bound = e.0;
      entry = e.1;
      looked =
          ap (λ o. pointed_at o (state_of zone rest.slots es)) e.0
          ∙ ap (λ o. pointed t.number o (state_of zone rest.slots es))
          (slice_get-map (name_of rest.slots) es t.number ∙ ap (option_map (name_of rest.slots)) e.1)
          ∙ ap (λ o. ok_or (option_map (held t.number) o) NIL_HANDLE)
          (spot-rename (handle_number es) (pointer_number es) (is_nonrelocatable t.number) (is_nonrelocatable t.place)
          (is_nonrelocatable-number es t.number t.place e.1 agrees.lone small) zone
          ∙ ap (option_map (rename_spot (handle_number es) (pointer_number es))) there.found);
      found = there.found;
      at = at;
      there = let P : Option Spot → Type 0 = λ o. IsSome o in subst P (sym at) refl;
      distance = distance;
      nonrelocatable = nonrelocatable;
      few = omega (arith, header, whole, parts, distance);
    }

-- the block of a name that is a pointer's, and of another
pub sparing-pointer : (zone : List Block) (slots : ℕ → Slot) (es : List Anchor) (name : Option ℕ) (t : Target)
    → target_of name es ≡ Ok t → block_named name (state_of zone slots es) ≡ pointed_at name (state_of zone slots es)
sparing-pointer zone slots es None t e = cc
sparing-pointer zone slots es (Some n) t e = ap (λ o. named_block n o state) at ∙ sym (ap (λ o. pointed n o state) at)
  where
    state : State
    state = state_of zone slots es

    at : slice_get (map (name_of slots) es) n ≡ Some names.Pointer
    at = slice_get-map (name_of slots) es n ∙ ap (option_map (name_of slots)) (target_at-ok n (slice_get es n) t e).0

pub sparing-other : (zone : List Block) (slots : ℕ → Slot) (es : List Anchor) (name : Option ℕ) (code : OsErr)
    → target_of name es ≡ Err code → block_named name (state_of zone slots es) ≡ look_up name (state_of zone slots es)
sparing-other zone slots es None code is = refl
sparing-other zone slots es (Some n) code is = ap (λ o. named_block n o state) (slice_get-map (name_of slots) es n)
    ∙ cases (slice_get es n) is
  where
    state : State
    state = state_of zone slots es

    cases : (o : Option Anchor) → target_at n o ≡ Err code → named_block n (option_map (name_of slots) o) state
        ≡ look_up (Some n) state
    cases None is = refl
    cases (Some (Handle slot guarded)) is = refl
    cases (Some (Pointer p)) is = cc
    cases (Some Disposed) is = refl

-- what was found for a search that is the same
pub finds-same : (looked looked' : Result Held OsErr) (zone : List Block) (es : List Anchor) (r : Result ℕ OsErr)
    → looked' ≡ looked → FindsHeld looked zone es r → FindsHeld looked' zone es r
finds-same looked looked' zone es r same found = let P : Result Held OsErr → Type 0 = λ l. FindsHeld l zone es r in
    subst P (sym same) found

-- a pointer's block is found by its place
pub finds-pointer : (zone : List Block) (slots : ℕ → Slot) (es : List Anchor) (pointer : Option ℕ) (t : Target)
    → sizes zone ≤ GREATEST_ZONE → IsHeld zone slots es pointer t → FindsHeld (pointed_at pointer (state_of zone slots es))
    zone es (Ok t.place)
finds-pointer zone slots es pointer t fits there = (
  t.number,
  there.s,
  there.looked,
  there.at,
  there.distance,
  omega
      (arith, there.few),
)

-- the same for a copy of the entries
pub found_by : (look : State → Result Held OsErr) (zone : List Block) (slots : ℕ → Slot) (es es' : List Anchor)
    (r : Result ℕ OsErr) → es' ≡ es → FindsHeld (look (state_of zone slots es')) zone es' r
    → FindsHeld (look (state_of zone slots es)) zone es r
found_by look zone slots es es' r same found = let P : List Anchor
    → Type 0 = λ l. FindsHeld (look (state_of zone slots l)) zone l r in subst P same found

-- what a call answers that tells of the bytes of a pointer's block
pub bytes-told : {T : Type 0} (tell : List ℕ → T) (zone : List Block) (rest : Rest) (es : List Anchor) (log : Log)
    (value : Memory) (pointer : Option ℕ) (t : Target) (bytes : List ℕ) → memory_of zone rest es log ≡ value
    → IsHeld zone rest.slots es pointer t → IfSome (spot_at t.place zone) (λ s. bytes ≡ content_of s.here)
    → silent (λ s. for_found (pointed_at pointer s) s (λ k. (Ok (tell (content_of k.at.here)), s))) value
    ≡ (Ok (tell bytes), value)
bytes-told tell zone rest es log value pointer t bytes is there lent =
    on_held (pointed_at pointer) zone rest es log value _ is there.looked
    (λ s k. (Ok (tell (content_of k.at.here)), s))
    ∙ ap (λ (x : List ℕ). (Ok (tell x), value)) (content_of-rename _ _ there.s.here
    ∙ sym (at_place t.place zone there.s (λ s. bytes ≡ content_of s.here) there.at lent))

-- other names of pointers than blocks have
pub rename_pointer-unless : (f g g' : ℕ → ℕ) (id : ℕ) → ((k : ℕ) → (k == id) ≡ false → g' k ≡ g k) → (bs : List Block)
    → has (is_nonrelocatable id) bs ≡ false → rename f g' bs ≡ rename f g bs
rename_pointer-unless f g g' id same [] none = refl
rename_pointer-unless f g g' id same (Free n ∷ bs) none = ap (λ l. Free n ∷ l)
    (rename_pointer-unless f g g' id same bs none)
rename_pointer-unless f g g' id same (Nonrelocatable k content ∷ bs) none =
    let parts = or_parts (k == id) (has (is_nonrelocatable id) bs) none in
    rw (same k parts.0) (ap (λ l. Nonrelocatable (g k) content ∷ l) (rename_pointer-unless f g g' id same bs parts.1))
rename_pointer-unless f g g' id same (Masters ∷ bs) none = ap (λ l. Masters ∷ l)
    (rename_pointer-unless f g g' id same bs none)
rename_pointer-unless f g g' id same (Relocatable k flags content ∷ bs) none =
    ap (λ l. Relocatable (f k) flags content ∷ l) (rename_pointer-unless f g g' id same bs none)

-- other numbers of slots
pub rename_slots-same : (f f' g : ℕ → ℕ) → ((k : ℕ) → f' k ≡ f k) → (bs : List Block) → rename f' g bs ≡ rename f g bs
rename_slots-same f f' g same bs = ap (λ h. rename h g bs) (λ i k. same k i)

-- the names of a heap with a pointer disposed of
module _ (zone : List Block) (rest rest' : Rest) (es : List Anchor) (h place : ℕ)
    (agrees : Agrees zone rest es) (at : slice_get es h ≡ Some (Pointer place)) (small : h < no_number)
    (now : KeepsSlots rest rest')
  where
    -- the entries without it
    abbrev pub left : List Anchor
    left = slice_set es h Disposed

    handle-left : (k s : ℕ) (g : Bool) → slice_get left k ≡ Some (Handle s g) → slice_get es k ≡ Some (Handle s g)
    handle-left k s g found = (without-other es h (Pointer place) at k (Handle s g) (handle-stays s g) found).0

    pointer-left : (k p : ℕ) → slice_get left k ≡ Some (Pointer p) → (slice_get es k ≡ Some (Pointer p))
        × (p ≡ place → ⊥)
    pointer-left k p found =
        let other = without-other es h (Pointer place) at k (Pointer p) (pointer-stays p) found in
        (other.0, λ e. other.1 (agrees.lone k h p other.0 (at ∙ ap (λ n. Some (Pointer n)) (sym e))))

    pub names-left : map (name_of rest'.slots) left ≡ slice_set (map (name_of rest.slots) es) h names.Disposed
    names-left = names-same rest.slots rest'.slots left (λ k s g found. now.slots s)
        ∙ map-set (name_of rest.slots) es h Disposed

    pub agrees-left : Agrees (tidy (freed (is_nonrelocatable place) zone)) rest' left
    agrees-left = record {
      used = λ k s g found. ap is_used (now.slots s) ∙ agrees.used k s g (handle-left k s g found);
      apart = λ j k s g o a b. agrees.apart j k s g o (handle-left j s g a) (handle-left k s o b);
      pointed = λ k p found. nonrelocatable-tidy (freed (is_nonrelocatable place) zone) p
          ∙ nonrelocatable-freed_other p (is_nonrelocatable place)
          (not_nonrelocatable-other p place (λ e. (pointer-left k p found).1 (sym e))) zone ∙ agrees.pointed k p (pointer-left k p found).0;
      lone = λ j k p a b. agrees.lone j k p (pointer-left j p a).0 (pointer-left k p b).0;
      counted =
          let a = agrees.counted in
          let c : count_by uses_slot (map (name_of rest'.slots) left) + 0
          ≡ count_by uses_slot (map (name_of rest.slots) es) = used-without rest.slots es h (Pointer place) _ at
          names-left in
          omega (arith, now.unused, now.all);
      masters = let a = agrees.masters in omega (arith, now.all);
    }

    pub dispose_pointer-done : (pointer : Option ℕ) (s : Spot)
        → pointed_at pointer (state_of zone rest.slots es) ≡ Ok (held h s)
        → dispose_pointer pointer (state_of zone rest.slots es) ≡
        (Ok tt, state_of (tidy (freed (is_nonrelocatable place) zone)) rest'.slots left)
    dispose_pointer-done pointer s looked =
        ap (λ r. for_found r (state_of zone rest.slots es) (λ (held : Held). (
          Ok tt,
          record {
            zone = tidy (freed (is_nonrelocatable held.number)
                (rename (handle_number es) (pointer_number es) zone));
            names = slice_set (map (name_of rest.slots) es)
                held.number names.Disposed;
          },
        ))) looked
        ∙ ap (λ (s : State). (Ok tt, s)) (state-left (tidy (freed (is_nonrelocatable place) zone)) rest'.slots left _ _
        zone-left names-left)
      where
        zone' : List Block
        zone' = tidy (freed (is_nonrelocatable place) zone)

        none : has (is_nonrelocatable place) zone' ≡ false
        none = has-tidy (is_nonrelocatable place) (λ n. refl) (freed (is_nonrelocatable place) zone)
            ∙ has-freed (is_nonrelocatable place) (λ n. refl) zone

        zone-left : tidy (freed (is_nonrelocatable h) (rename (handle_number es) (pointer_number es) zone))
            ≡ rename (handle_number left) (pointer_number left) zone'
        zone-left =
            ap tidy (freed-rename (handle_number es) (pointer_number es) (is_nonrelocatable h) (is_nonrelocatable place)
            (is_nonrelocatable-number es h place at agrees.lone small) zone)
            ∙ tidy-rename (handle_number es) (pointer_number es) (freed (is_nonrelocatable place) zone)
            ∙ sym (rename_slots-same (handle_number es) (handle_number left) (pointer_number left)
            (λ k. number_from-set 0 (leads_to k) es h (Pointer place) Disposed at refl refl) zone'
            ∙ rename_pointer-unless (handle_number es) (pointer_number es) (pointer_number left) place
            (λ k e. number_from-set 0 (points_to k) es h (Pointer place) Disposed at (flipped place k e) refl) zone'
            none)

-- the zone of a pointer is told where its size is
pub zone_told : (pointer : Option ℕ) (m : Memory) (n : ℕ) → silent (get_pointer_size pointer) m ≡ (Ok n, m)
    → silent (pointer_zone pointer) m ≡ (Ok 0, m)
zone_told pointer m n is = cases (pointed_at pointer m.heap) is
  where
    cases : (r : Result Held OsErr)
        → silent {T = ℕ} (λ s. for_found r s (λ held. (Ok (length (content_of held.at.here)), s))) m ≡ (Ok n, m)
        → silent {T = ℕ} (λ s. for_found r s (λ held. (Ok 0, s))) m ≡ (Ok 0, m)
    cases (Err code) e =
        let never : (let r : Result ℕ OsErr = Err code in r) ≡ Ok n = ap (λ (x : Result ℕ OsErr × Memory). x.0) e in cc
    cases (Ok there) e = refl

pub zone_refused : (pointer : Option ℕ) (m : Memory) (code : OsErr)
    → silent (get_pointer_size pointer) m ≡ (Err code, m) → silent (pointer_zone pointer) m ≡ (Err code, m)
zone_refused pointer m code is = cases (pointed_at pointer m.heap) is
  where
    cases : (r : Result Held OsErr)
        → silent {T = ℕ} (λ s. for_found r s (λ held. (Ok (length (content_of held.at.here)), s))) m ≡ (Err code, m)
        → silent {T = ℕ} (λ s. for_found r s (λ held. (Ok 0, s))) m ≡ (Err code, m)
    cases (Err why) e = e
    cases (Ok there) e =
        let never : (let r : Result ℕ OsErr = Ok (length (content_of there.at.here)) in r) ≡ Err code =
        ap (λ (x : Result ℕ OsErr × Memory). x.0) e in cc
