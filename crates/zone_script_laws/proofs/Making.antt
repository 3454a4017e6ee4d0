use Rattle.zone_script_laws.proofs.Cited.{◌≡◌, ℕ, ◌+◌, ◌-◌, ◌*◌, ◌≤◌, zero, suc, Bool, true, false, List, [], ◌∷◌, ◌++◌, refl, sym, ◌∙◌, ap}
use Rattle.zone_script_laws.proofs.Cited.{cond, subst, map, Some, None, arith, length, replicate, nat_lt, slice_get, append_assoc}
use Rattle.zone_script_laws.proofs.Cited.{append-nil, count_by, flat_map, nat_tests, sum_by_push, padded, Done, Given, Flags, Block}
use Rattle.zone_script_laws.proofs.Cited.{Nonrelocatable, Masters, Relocatable, count, free, is_relocatable, is_masters, no_flags, Spot}
use Rattle.zone_script_laws.proofs.Cited.{spot, State, Memory, Meaning, Handle, Pointer, Plain, used_slots, all_slots, uses_slot, pushed}
use Rattle.zone_script_laws.proofs.Cited.{Bindings, bound_to, bind, Part, Relocated, Fixed, Gap, numbered, physical, bytes_of, handle_of}
use Rattle.zone_script_laws.proofs.Cited.{handles, Line, MoreMasters, NewHandle, NewPtr, HLock, HPurge, HUnlock, name_of, making}
use Rattle.zone_script_laws.proofs.Cited.{NamesDiffer, Runs, spot-parted}
use Rattle.std.proofs.lemmas.List.{length-append}
use Rattle.heap_calls.specs.Table as asks
use Rattle.zone_script_laws.proofs.Fixed.{Stay, stay-append}
use Rattle.zone_script_laws.proofs.Calls.{more_masters-done, new_pointer-done, new_handle-done}
use Rattle.zone_script_laws.proofs.Serving.{Serves, serves-more_masters, serves-new_pointer, serves-new_handle, serves-lock, serves-unlock}
use Rattle.zone_script_laws.proofs.Serving.{serves-purge}
use Rattle.zone_script_laws.proofs.Steps.{Stands, step, bind-new, bound-new, bindings, NoneBound, none-bound-more}
use Rattle.zone_script_laws.proofs.Numbers.{held, Below, below-held, held-stays, masters-held, masters-free, same-number}

-- The calls that make the blocks, one above the other.

-- what the number of a part stands for
abbrev pub meaning : Part → Meaning
meaning (Relocated master flags size) = Handle Plain
meaning (Fixed address size) = Pointer
meaning (Gap address size) = Pointer

-- more master pointer blocks
pub masters-all : (j : ℕ) (rest : List Line) (m : Memory) (b : Bindings) (holds : Memory → Bindings → Type 0) (bs : List Block)
    (g : ℕ) (names : List Meaning) → Stands (bs ++ free g) names m → Stay bs → 272 * j ≤ g
    → ((m' : Memory) → Stands ((bs ++ replicate j Masters) ++ free (g - 272 * j)) names m' → Runs rest m' b holds)
    → Runs (replicate j MoreMasters ++ rest) m b holds
masters-all zero rest m b holds bs g names s stay fits next =
    let e : g ≡ g - 272 * 0 = omega arith in
    next m (subst (λ z. Stands z names m) (λ i. sym (append-nil bs) i ++ free (e i)) s)
masters-all (suc j) rest m b holds bs g names s stay fits next =
    let done = more_masters-done bs g m.heap stay (ap (λ (h : State). h.zone) s.heap) (omega arith) in
    let e : g - 272 - 272 * j ≡ g - 272 * suc j = omega arith in
    step MoreMasters (replicate j MoreMasters ++ rest) m b holds Done _ (bs ++ Masters ∷ free (g - 272)) names
    (serves-more_masters m _ done)
    (ap (λ (h : State). let k : State = record { zone = bs ++ Masters ∷ free (g - 272); names = h.names } in k) s.heap)
    refl s.calm
    (λ m' s'. masters-all j rest m' b holds (bs ++ Masters ∷ []) (g - 272) names
    (subst (λ z. Stands z names m') (sym (append_assoc bs (Masters ∷ []) (free (g - 272)))) s')
    (stay-append bs (Masters ∷ []) stay (refl, tt)) (omega arith)
    (λ m'' s''. next m'' (subst (λ z. Stands z names m'')
    (λ i. append_assoc bs (Masters ∷ []) (replicate j Masters) i ++ free (e i)) s'')))

-- the flags of a handle's block are changed
module _ (name : List ℕ) (n : ℕ) (rest : List Line) (m : Memory) (b : Bindings) (holds : Memory → Bindings → Type 0)
    (zone below : List Block) (flags : Flags) (content : List ℕ) (above : List Block) (names : List Meaning)
    (bound : bound_to name b ≡ Some n) (known : slice_get names n ≡ Some (Handle Plain)) (s : Stands zone names m)
    (at : spot (is_relocatable n) zone ≡ Some (record { below = below; here = Relocatable n flags content; above = above }))
  where
    abbrev here : Spot
    here = record { below = below; here = Relocatable n flags content; above = above }

    known-now : slice_get m.heap.names n ≡ Some (Handle Plain)
    known-now = ap (λ (h : State). slice_get h.names n) s.heap ∙ known

    at-now : spot (is_relocatable n) m.heap.zone ≡ Some here
    at-now = ap (λ (h : State). spot (is_relocatable n) h.zone) s.heap ∙ at

    -- the zone with other flags
    abbrev pub flagged-zone : Flags → List Block
    flagged-zone f = below ++ Relocatable n f content ∷ above

    left : (f : Flags) → (let k : State = record m.heap { zone = flagged-zone f } in k) ≡ record { zone = flagged-zone f; names = names }
    left f = ap (λ (h : State). let k : State = record { zone = flagged-zone f; names = h.names } in k) s.heap

    pub lock-step : ((m' : Memory) → Stands (flagged-zone (record flags { locked = true })) names m' → Runs rest m' b holds)
        → Runs (HLock name ∷ rest) m b holds
    lock-step next = step (HLock name) rest m b holds Done _ (flagged-zone (record flags { locked = true })) names
        (subst (λ o. Serves (asks.HLock o) m Done (record m.heap { zone = flagged-zone (record flags { locked = true }) })) (sym bound)
        (serves-lock n m here s.calm known-now at-now)) (left (record flags { locked = true })) refl s.calm next

    pub unlock-step : ((m' : Memory) → Stands (flagged-zone (record flags { locked = false })) names m' → Runs rest m' b holds)
        → Runs (HUnlock name ∷ rest) m b holds
    unlock-step next = step (HUnlock name) rest m b holds Done _ (flagged-zone (record flags { locked = false })) names
        (subst (λ o. Serves (asks.HUnlock o) m Done (record m.heap { zone = flagged-zone (record flags { locked = false }) })) (sym bound)
        (serves-unlock n m here s.calm known-now at-now)) (left (record flags { locked = false })) refl s.calm next

    pub purge-step : ((m' : Memory) → Stands (flagged-zone (record flags { purgeable = true })) names m' → Runs rest m' b holds)
        → Runs (HPurge name ∷ rest) m b holds
    purge-step next = step (HPurge name) rest m b holds Done _ (flagged-zone (record flags { purgeable = true })) names
        (subst (λ o. Serves (asks.HPurge o) m Done (record m.heap { zone = flagged-zone (record flags { purgeable = true }) })) (sym bound)
        (serves-purge n m here s.calm known-now at-now)) (left (record flags { purgeable = true })) refl s.calm next

-- a new nonrelocatable block
pub pointer-one : (name : List ℕ) (size : ℕ) (rest : List Line) (m : Memory) (b : Bindings) (holds : Memory → Bindings → Type 0)
    (bs : List Block) (g : ℕ) (names : List Meaning) → Stands (bs ++ free g) names m → Stay bs → padded size ≤ g → g ≤ 134217728
    → bound_to name b ≡ None
    → ((m' : Memory) → Stands ((bs ++ Nonrelocatable (length names) (replicate size 0) ∷ []) ++ free (g - padded size))
    (names ++ Pointer ∷ []) m' → Runs rest m' (b ++ (name, length names) ∷ []) holds)
    → Runs (NewPtr name size ∷ rest) m b holds
pointer-one name size rest m b holds bs g names s stay fits small none next =
    let done = new_pointer-done bs g m.heap stay (ap (λ (h : State). h.zone) s.heap) size (omega arith) fits in
    let bound : bind name (length m.heap.names) b ≡ b ++ (name, length names) ∷ [] =
    ap (λ (h : State). bind name (length h.names) b) s.heap ∙ bind-new name (length names) b none in
    step (NewPtr name size) rest m b holds (Given (length m.heap.names)) _
    (bs ++ Nonrelocatable (length names) (replicate size 0) ∷ free (g - padded size)) (names ++ Pointer ∷ [])
    (serves-new_pointer size (length m.heap.names) m _ done)
    (ap (λ (h : State). let k : State = record {
      zone = bs ++ Nonrelocatable (length h.names) (replicate size 0) ∷ free (g - padded size);
      names = h.names ++ Pointer ∷ [];
    } in k) s.heap)
    refl s.calm
    (λ m' s'. subst (λ c. Runs rest m' c holds) (sym bound) (next m'
    (subst (λ z. Stands z (names ++ Pointer ∷ []) m')
    (sym (append_assoc bs (Nonrelocatable (length names) (replicate size 0) ∷ []) (free (g - padded size)))) s')))

-- a new relocatable block, which is locked and made purgeable
pub handle-one : (name : List ℕ) (flags : Flags) (size : ℕ) (rest : List Line) (m : Memory) (b : Bindings)
    (holds : Memory → Bindings → Type 0) (bs : List Block) (g : ℕ) (names : List Meaning) → Stands (bs ++ free g) names m → Stay bs
    → Below (length names) bs → count_by uses_slot names + 1 ≤ 64 * count is_masters bs → padded size ≤ g → g ≤ 134217728
    → bound_to name b ≡ None
    → ((m' : Memory) → Stands ((bs ++ Relocatable (length names) (record flags { locked = true }) (replicate size 0) ∷ [])
    ++ free (g - padded size)) (names ++ Handle Plain ∷ []) m' → Runs rest m' (b ++ (name, length names) ∷ []) holds)
    → Runs (NewHandle name size ∷ HLock name ∷ (cond flags.purgeable (HPurge name ∷ []) [] ++ rest)) m b holds
handle-one name flags size rest m b holds bs g names s stay low slots fits small none next =
    let tests : nat_lt (count_by uses_slot names) (64 * count is_masters (bs ++ free g)) ≡ true =
    (let c = masters-free g bs in grind (arith, nat_tests)) in
    let unused = ap (λ (h : State). nat_lt (used_slots h) (all_slots h)) s.heap ∙ tests in
    let done = new_handle-done bs g m.heap stay (ap (λ (h : State). h.zone) s.heap) size unused (omega arith) fits in
    let bound : bind name (length m.heap.names) b ≡ b ++ (name, length names) ∷ [] =
    ap (λ (h : State). bind name (length h.names) b) s.heap ∙ bind-new name (length names) b none in
    step (NewHandle name size) (HLock name ∷ (purging flags.purgeable ++ rest)) m b holds (Given (length m.heap.names)) _
    (block no_flags) (names ++ Handle Plain ∷ [])
    (serves-new_handle size (length m.heap.names) m _ done)
    (ap (λ (h : State). let k : State = record {
      zone = bs ++ Relocatable (length h.names) no_flags (replicate size 0) ∷ free (g - padded size);
      names = h.names ++ Handle Plain ∷ [];
    } in k) s.heap)
    refl s.calm
    (λ m' s'. subst (λ c. Runs (HLock name ∷ (purging flags.purgeable ++ rest)) m' c holds) (sym bound)
    (lock-step name (length names) (purging flags.purgeable ++ rest) m' names-bound holds (block no_flags) bs no_flags (replicate size 0)
    (free (g - padded size)) (names ++ Handle Plain ∷ []) (bound-new name (length names) b none) (pushed names (Handle Plain)) s'
    (at no_flags) (λ m'' s''. purged flags.purgeable refl m'' s'')))
  where
    purging : Bool → List Line
    purging t = cond t (HPurge name ∷ []) []

    names-bound : Bindings
    names-bound = b ++ (name, length names) ∷ []

    block : Flags → List Block
    block f = bs ++ Relocatable (length names) f (replicate size 0) ∷ free (g - padded size)

    at : (f : Flags) → spot (is_relocatable (length names)) (block f)
        ≡ Some (record { below = bs; here = Relocatable (length names) f (replicate size 0); above = free (g - padded size) })
    at f = spot-parted (is_relocatable (length names)) bs (Relocatable (length names) f (replicate size 0)) (free (g - padded size))
        ((low (length names) (omega arith)).handle) (same-number (length names))

    finish : (t : Bool) → flags.purgeable ≡ t → (m' : Memory)
        → Stands (block (record { locked = true; purgeable = t })) (names ++ Handle Plain ∷ []) m' → Runs rest m' names-bound holds
    finish t e m' s' = next m' (subst (λ z. Stands z (names ++ Handle Plain ∷ []) m')
        (ap (λ u. block (record { locked = true; purgeable = u })) (sym e)
        ∙ sym (append_assoc bs (Relocatable (length names) (record flags { locked = true }) (replicate size 0) ∷ [])
        (free (g - padded size)))) s')

    purged : (t : Bool) → flags.purgeable ≡ t → (m' : Memory)
        → Stands (block (record { locked = true; purgeable = false })) (names ++ Handle Plain ∷ []) m'
        → Runs (purging t ++ rest) m' names-bound holds
    purged true e m' s' = purge-step name (length names) rest m' names-bound holds (block (record { locked = true; purgeable = false })) bs
        (record { locked = true; purgeable = false }) (replicate size 0) (free (g - padded size)) (names ++ Handle Plain ∷ [])
        (bound-new name (length names) b none) (pushed names (Handle Plain)) s' (at (record { locked = true; purgeable = false }))
        (finish true e)
    purged false e m' s' = finish false e m' s'

-- the block of any part
pub make-one : (p : Part) (rest : List Line) (m : Memory) (b : Bindings) (holds : Memory → Bindings → Type 0) (bs : List Block)
    (g : ℕ) (names : List Meaning) → Stands (bs ++ free g) names m → Stay bs → Below (length names) bs
    → count_by uses_slot names + handle_of p ≤ 64 * count is_masters bs → physical p ≤ g → g ≤ 134217728
    → bound_to (name_of p) b ≡ None
    → ((m' : Memory) → Stands ((bs ++ held (length names) p ∷ []) ++ free (g - physical p)) (names ++ meaning p ∷ []) m'
    → Runs rest m' (b ++ (name_of p, length names) ∷ []) holds)
    → Runs (making p ++ rest) m b holds
make-one (Relocated master flags size) rest m b holds bs g names s stay low slots fits small none next =
    handle-one (name_of (Relocated master flags size)) flags size rest m b holds bs g names s stay low slots fits small none next
make-one (Fixed address size) rest m b holds bs g names s stay low slots fits small none next =
    pointer-one (name_of (Fixed address size)) size rest m b holds bs g names s stay fits small none next
make-one (Gap address size) rest m b holds bs g names s stay low slots fits small none next =
    pointer-one (name_of (Gap address size)) size rest m b holds bs g names s stay fits small none next

uses-handle : (p : Part) → cond {A = ℕ} (uses_slot (meaning p)) 1 0 ≡ handle_of p
uses-handle (Relocated master flags size) = refl
uses-handle (Fixed address size) = refl
uses-handle (Gap address size) = refl

slots-more : (n : ℕ) (p : Part) (left : List Part) (names : List Meaning) (bs : List Block)
    → count_by uses_slot names + (handle_of p + handles left) ≤ 64 * count is_masters bs
    → count_by uses_slot (names ++ meaning p ∷ []) + handles left ≤ 64 * count is_masters (bs ++ held n p ∷ [])
slots-more n p left names bs fits =
    let a : count_by uses_slot (names ++ meaning p ∷ []) ≡ count_by uses_slot names + handle_of p =
    sum_by_push (λ x. cond (uses_slot x) 1 0) names (meaning p) ∙ ap {B = ℕ} (λ k. count_by uses_slot names + k) (uses-handle p) in
    let c = masters-held n p bs in
    omega arith

pub one-more : (names : List Meaning) (x : Meaning) → length (names ++ x ∷ []) ≡ suc (length names)
one-more names x = length-append names (x ∷ []) ∙ (let z : length names + 1 ≡ suc (length names) = omega arith in z)

-- the blocks of all parts
pub making-all : (left : List Part) (rest : List Line) (m : Memory) (b : Bindings) (holds : Memory → Bindings → Type 0) (bs : List Block)
    (g : ℕ) (names : List Meaning) → Stands (bs ++ free g) names m → Stay bs → Below (length names) bs
    → count_by uses_slot names + handles left ≤ 64 * count is_masters bs → bytes_of left ≤ g → g ≤ 134217728
    → NoneBound b left → NamesDiffer left
    → ((m' : Memory) → Stands ((bs ++ numbered held (length names) left) ++ free (g - bytes_of left)) (names ++ map meaning left) m'
    → Runs rest m' (b ++ bindings (length names) left) holds)
    → Runs (flat_map making left ++ rest) m b holds
making-all [] rest m b holds bs g names s stay low slots fits small none differ next =
    let e : g ≡ g - 0 = omega arith in
    subst (λ c. Runs rest m c holds) (append-nil b) (next m (subst (λ l. Stands ((bs ++ []) ++ free (g - 0)) l m) (sym (append-nil names))
    (subst (λ z. Stands z names m) (λ i. sym (append-nil bs) i ++ free (e i)) s)))
making-all (p ∷ left) rest m b holds bs g names s stay low slots fits small none differ next =
    let n = length names in
    let len = one-more names (meaning p) in
    let e : g - physical p - bytes_of left ≡ g - (physical p + bytes_of left) = omega arith in
    let blocks : (bs ++ held n p ∷ []) ++ numbered held (length (names ++ meaning p ∷ [])) left ≡ bs ++ numbered held n (p ∷ left) =
    append_assoc bs (held n p ∷ []) (numbered held (length (names ++ meaning p ∷ [])) left)
    ∙ ap (λ k. bs ++ held n p ∷ numbered held k left) len in
    let bound : (b ++ (name_of p, n) ∷ []) ++ bindings (length (names ++ meaning p ∷ [])) left ≡ b ++ bindings n (p ∷ left) =
    append_assoc b ((name_of p, n) ∷ []) (bindings (length (names ++ meaning p ∷ [])) left)
    ∙ ap (λ k. b ++ (name_of p, n) ∷ bindings k left) len in
    subst (λ ls. Runs ls m b holds) (sym (append_assoc (making p) (flat_map making left) rest))
    (make-one p (flat_map making left ++ rest) m b holds bs g names s stay low (omega arith) (omega arith) small none.0
    (λ m' s'. making-all left rest m' (b ++ (name_of p, n) ∷ []) holds (bs ++ held n p ∷ []) (g - physical p) (names ++ meaning p ∷ []) s'
    (stay-append bs (held n p ∷ []) stay (held-stays n p))
    (subst (λ k. Below k (bs ++ held n p ∷ [])) (sym len) (below-held n p bs low))
    (slots-more n p left names bs slots) (omega arith) (omega arith) (none-bound-more (name_of p) n b left none.1 differ.0) differ.1
    (λ m'' s''. subst (λ c. Runs rest m'' c holds) (sym bound) (next m''
    (subst (λ l. Stands ((bs ++ numbered held n (p ∷ left)) ++ free (g - (physical p + bytes_of left))) l m'')
    (append_assoc names (meaning p ∷ []) (map meaning left))
    (subst (λ z. Stands z ((names ++ meaning p ∷ []) ++ map meaning left) m'') (λ i. blocks i ++ free (e i)) s''))))))
