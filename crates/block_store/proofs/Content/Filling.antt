use Rattle.block_store.proofs.Cited.{◌≡◌, ℕ, ◌+◌, ◌-◌, ◌*◌, ◌≤◌, ◌<◌, ◌⊎◌, inl, inr, Bool, true, false, ◌==◌, List, ◌∷◌, ◌++◌, length, refl}
use Rattle.block_store.proofs.Cited.{sym, ◌∙◌, ap, cond, subst, arith, Option, Some, None, Result, Ok, Err, replicate, length-replicate}
use Rattle.block_store.proofs.Cited.{Decides-eqb, OnOk, OnErr, padded, same_Some, IfSome, IsSome, IsSomeAnd, Block, Free, Nonrelocatable}
use Rattle.block_store.proofs.Cited.{Masters, Relocatable, size, sizes, count, is_room, is_masters, is_relocatable, no_flags, tidy}
use Rattle.block_store.proofs.Cited.{with_content, content_of, resized, written, has, Spot, spot, spot_at, filled, grow_up, freed}
use Rattle.block_store.proofs.Cited.{moved_away, Slot, is_used, Aligned, Placed}
use Rattle.block_store.proofs.Zone.Tidy.{total-tidy, spot-passes, has-freed}
use Rattle.block_store.proofs.Zone.Apart.{tidy-tidy, tidy-content}
use Rattle.block_store.proofs.Zone.Spots.{room-size, sizes-carved, sizes-same, size-content, length-written}
use Rattle.block_store.proofs.Zone.Leading.{leads-from, leads-carved, most-once, most-none, count-carved, count-same}
use Rattle.block_store.proofs.Zone.Leading.{is_relocatable-content, is_masters-content, none-count, count-none}
use Rattle.block_store.proofs.Zone.Leading.{count-freed}
use Rattle.block_store.proofs.Zone.Listing.{size-freed}
use Rattle.block_store.proofs.Zone.Aligned.{spot_at-is, aligned-filled, aligned-freed, aligned-grow_up, aligned-same}
use Rattle.block_store.proofs.Zone.Aligned.{aligned-above, sixteens-content, sixteens-resized, sixteens-slot}
use Rattle.block_store.proofs.Nonrelocatable.Placing.{StandsAt, stands-slot, stands-resized, placed-here, placed-above}
use Rattle.block_store.proofs.Nonrelocatable.Placing.{placed-filled, placed-freed, placed-grow_up, placed-spot}
use Rattle.block_store.proofs.Nonrelocatable.Placing.{placed-content}
use Rattle.block_store.proofs.Content.Resizing.{is_relocatable-resized, is_masters-resized, sizes-grown, count-grown}
use Rattle.block_store.proofs.Content.Resizing.{tidy-grown, less_or_more, larger, found-has, is_of, not_both}
use Rattle.block_store.proofs.Content.Resizing.{freed-around, masters-freed, size-resized}
use Rattle.block_store.proofs.Plain.Options.{the_some}

-- what the laws of a store say of its blocks
pub record Lawful (slots : ℕ → Slot) (bytes all : ℕ) (zone : List Block) : Type 0 where
  pub covered : sizes zone ≡ bytes
  pub masters : all ≡ 64 * count is_masters zone
  pub no_block : (number : ℕ) → is_used (slots number) ≡ false → has (is_relocatable number) zone ≡ false
  pub once : (number : ℕ) → count (is_relocatable number) zone ≤ 1
  pub tidied : tidy zone ≡ zone
  pub aligned : Aligned zone
  pub placed : Placed 0 zone

pub not_masters : (p : ℕ) (b : Block) → is_room p b ≡ true → is_masters b ≡ false
not_masters p (Free n) e = refl
not_masters p (Nonrelocatable id content) e = refl
not_masters p Masters e = let f : false ≡ true = e in cc
not_masters p (Relocatable id flags content) e = refl

-- what the laws say of blocks that needn't be tidy
pub record Loose (slots : ℕ → Slot) (bytes all : ℕ) (zone : List Block) : Type 0 where
  pub covered : sizes zone ≡ bytes
  pub masters : all ≡ 64 * count is_masters zone
  pub no_block : (number : ℕ) → is_used (slots number) ≡ false → has (is_relocatable number) zone ≡ false
  pub once : (number : ℕ) → count (is_relocatable number) zone ≤ 1
  pub aligned : Aligned zone
  pub placed : Placed 0 zone

pub loosened : (slots : ℕ → Slot) (bytes all : ℕ) (zone : List Block) → Lawful slots bytes all zone
    → Loose slots bytes all zone
loosened slots bytes all zone lawful = record {
  covered = lawful.covered;
  masters = lawful.masters;
  no_block =
      lawful.no_block;
  once = lawful.once;
  aligned = lawful.aligned;
  placed = lawful.placed;
}

-- a slot's block is Free
loose-freed : (slots : ℕ → Slot) (bytes all : ℕ) (zone : List Block) (number : ℕ) → Loose slots bytes all zone
    → Loose slots bytes all (freed (is_relocatable number) zone)
loose-freed slots bytes all zone number loose = record {
  covered = size-freed (is_relocatable number) zone ∙ loose.covered;
  masters = loose.masters ∙ ap (λ n. 64 * n) (sym (masters-freed number zone));
  no_block = λ k unused. none-count (is_relocatable k) (freed (is_relocatable number) zone)
      (let n = count-freed (is_relocatable k) (is_relocatable number) (λ n. refl) zone in
      let z = count-none (is_relocatable k) zone (loose.no_block k unused) in omega arith);
  once = λ k. let n = count-freed (is_relocatable k) (is_relocatable number) (λ n. refl) zone in let z = loose.once k in
      omega arith;
  aligned = aligned-freed (is_relocatable number) zone loose.aligned;
  placed = placed-freed 0 (is_relocatable number) zone loose.placed;
}

-- a block of a slot of a handle that led to none, in place of a Free one
pub lawful-placed : (slots : ℕ → Slot) (bytes all : ℕ) (zone zone' : List Block) (number : ℕ) (new : Block) (s : Spot)
    → Loose slots bytes all zone → s.below ++ s.here ∷ s.above ≡ zone
    → ((k : ℕ) → is_relocatable k new ≡ (number == k)) → is_masters new ≡ false → is_used (slots number) ≡ true
    → has (is_relocatable number) zone ≡ false
    → is_room (size new) s.here ≡ true → zone' ≡ filled new s → Lawful slots bytes all zone'
lawful-placed slots bytes all zone zone' number new s loose whole is other used none room e =
    let left = size s.here - size new in
    let carved = s.below ++ new ∷ Free left ∷ s.above in
    let fits = room-size (size new) s.here room in
    let leads = leads-carved slots number s.below s.above s.here new left zone whole is used none
    (λ k. leads-from k (slots k) zone (loose.no_block k) (loose.once k)) in
    record {
      covered = ap sizes e ∙ total-tidy size (λ n m. refl) carved
          ∙ sizes-carved s.below s.above s.here new left (omega arith) ∙ ap sizes whole ∙ loose.covered;
      masters = loose.masters ∙ ap (λ n. 64 * n) (sym (ap (count is_masters) e
          ∙ same s.here _ _ (count-carved is_masters (λ n. refl) s.below s.above s.here new left zone whole)
          (not_masters (size new) s.here room)));
      no_block = λ k unused. ap (has (is_relocatable k)) e ∙ most-none k (slots k) (tidy carved) unused (leads k);
      once = λ k. subst (λ l. count (is_relocatable k) l ≤ 1) (sym e) (most-once k (slots k) (tidy carved) (leads k));
      tidied = ap tidy e ∙ tidy-tidy carved ∙ sym e;
      aligned = subst Aligned (sym e) (aligned-filled new s (sixteens-slot number new
          (is number ∙ (Decides-eqb number number).1 refl)) (subst Aligned (sym whole) loose.aligned));
      placed = subst (Placed 0) (sym e) (placed-filled 0 new s (stands-slot (0 + sizes s.below) number new
          (is number ∙ (Decides-eqb number number).1 refl)) fits (subst (Placed 0) (sym whole) loose.placed));
    }
  where
    same : (b : Block) (n m : ℕ) → n + cond (is_masters b) 1 0 ≡ cond (is_masters new) 1 0 + m → is_masters b ≡ false
        → n ≡ m
    same b n m e f =
        let x : cond {A = ℕ} (is_masters b) 1 0 ≡ 0 = ap {B = ℕ} (λ (t : Bool). cond t 1 0) f in
        let y : cond {A = ℕ} (is_masters new) 1 0 ≡ 0 = ap {B = ℕ} (λ (t : Bool). cond t 1 0) other in
        omega arith

-- a new block for a slot of a handle that led to none
pub lawful-filled : (slots : ℕ → Slot) (bytes all : ℕ) (zone zone' : List Block) (place number : ℕ) (new : Block)
    → Lawful slots bytes all zone
    → ((k : ℕ) → is_relocatable k new ≡ (number == k)) → is_masters new ≡ false → is_used (slots number) ≡ true
    → has (is_relocatable number) zone ≡ false
    → IsSomeAnd (spot_at place zone) (λ s. is_room (size new) s.here ≡ true)
    → IfSome (spot_at place zone) (λ s. zone' ≡ filled new s) → Lawful slots bytes all zone'
lawful-filled slots bytes all zone zone' place number new lawful is other used none room after =
    let at = the_some (spot_at place zone) (λ s. is_room (size new) s.here ≡ true) (λ s. zone' ≡ filled new s) room
    after in
    lawful-placed slots bytes all zone zone' number new at.0 (loosened slots bytes all zone lawful)
    (spot_at-is place zone at.0 at.1) is other used none at.2 at.3

-- blocks of the same counts
pub lawful-counts : (slots : ℕ → Slot) (bytes all : ℕ) (zone zone' : List Block) → Lawful slots bytes all zone
    → sizes zone' ≡ sizes zone → ((k : ℕ) → count (is_relocatable k) zone' ≡ count (is_relocatable k) zone)
    → count is_masters zone' ≡ count is_masters zone → tidy zone' ≡ zone' → Aligned zone' → Placed 0 zone'
    → Lawful slots bytes all zone'
lawful-counts slots bytes all zone zone' lawful whole counts masters tidied aligned placed = record {
  covered = whole ∙ lawful.covered;
  masters = lawful.masters ∙ ap (λ n. 64 * n) (sym masters);
  no_block = λ k unused. none-count (is_relocatable k) zone' (let n = counts k in
      let z = count-none (is_relocatable k) zone (lawful.no_block k unused) in omega arith);
  once = λ k. let n = counts k in let z = lawful.once k in omega arith;
  tidied = tidied;
  aligned = aligned;
  placed = placed;
}

-- another content of the same length
pub lawful-written : (slots : ℕ → Slot) (bytes all : ℕ) (zone zone' : List Block) (place from : ℕ) (x : List ℕ)
    → Lawful slots bytes all zone
    → IsSomeAnd (spot_at place zone) (λ s. from + length x ≤ length (content_of s.here))
    → IfSome (spot_at place zone) (λ s. zone' ≡ s.below ++ with_content (written from x (content_of s.here)) s.here
    ∷ s.above) → Lawful slots bytes all zone'
lawful-written slots bytes all zone zone' place from x lawful within after =
    let at = the_some (spot_at place zone) (λ s. from + length x ≤ length (content_of s.here))
    (λ s. zone' ≡ s.below ++ with_content (written from x (content_of s.here)) s.here ∷ s.above) within after in
    let s = at.0 in
    let whole = spot_at-is place zone s at.1 in
    let w = written from x (content_of s.here) in
    let e : zone' ≡ s.below ++ with_content w s.here ∷ s.above = at.3 in
    let aligned : Aligned (s.below ++ s.here ∷ s.above) = subst Aligned (sym whole) lawful.aligned in
    lawful-counts slots bytes all zone zone' lawful
    (ap sizes e ∙ sizes-same s.below s.above s.here (with_content w s.here)
    (size-content w s.here (length-written from x (content_of s.here) at.2)) ∙ ap sizes whole)
    (λ k. ap (count (is_relocatable k)) e ∙ count-same (is_relocatable k) s.below s.above s.here (with_content w s.here)
    (is_relocatable-content k w s.here) ∙ ap (count (is_relocatable k)) whole)
    (ap (count is_masters) e ∙ count-same is_masters s.below s.above s.here (with_content w s.here)
    (is_masters-content w s.here) ∙ ap (count is_masters) whole)
    (ap tidy e ∙ tidy-content w s.below s.here s.above (ap tidy whole ∙ lawful.tidied ∙ sym whole) ∙ sym e)
    (subst Aligned (sym e) (aligned-same s.below s.above s.here (with_content w s.here)
    (sixteens-content w s.here (aligned-above s.below (s.here ∷ s.above) aligned).0) aligned))
    (subst (Placed 0) (sym e) (placed-content 0 w s.below s.here s.above
    (length-written from x (content_of s.here) at.2) (placed-spot place zone s lawful.placed at.1)))

-- a new block, or the host had no memory for it
pub lawful-carved : {T E : Type 0} (r : Result T E) (slots : ℕ → Slot) (bytes all : ℕ) (zone zone' : List Block)
    (place number n : ℕ) (content : List ℕ) → Lawful slots bytes all zone
    → content ≡ replicate n 0 → is_used (slots number) ≡ true → has (is_relocatable number) zone ≡ false
    → IsSomeAnd (spot_at place zone) (λ s. is_room (padded n) s.here ≡ true)
    → OnOk r (IfSome (spot_at place zone) (λ s. zone' ≡ filled (Relocatable number no_flags content) s))
    → OnErr r (zone' ≡ zone) → Lawful slots bytes all zone'
lawful-carved (Ok x) slots bytes all zone zone' place number n content lawful zeros used none room ok err =
    let size-new : padded n ≡ padded (length content) = ap padded
    (sym (ap length zeros ∙ length-replicate {A = ℕ} n 0)) in
    lawful-filled slots bytes all zone zone' place number (Relocatable number no_flags content) lawful (λ k. refl) refl
    used none (subst (λ k. IsSomeAnd (spot_at place zone) (λ s. is_room k s.here ≡ true)) size-new room) ok
lawful-carved (Err e) slots bytes all zone zone' place number n content lawful zeros used none room ok err =
    subst (Lawful slots bytes all) (sym err) lawful

-- a block that counts as the one that it stands for, and the rest of that Free
count-resized : (test : Block → Bool) → ((n : ℕ) → test (Free n) ≡ false) → (new : Block) (s : Spot) (zone : List Block)
    → s.below ++ s.here ∷ s.above ≡ zone → test new ≡ test s.here → count test (filled new s) ≡ count test zone
count-resized test none new s zone whole same =
    let e = count-carved test none s.below s.above s.here new (size s.here - size new) zone whole in
    let x : cond {A = ℕ} (test new) 1 0 ≡ cond (test s.here) 1 0 = ap {B = ℕ} (λ (t : Bool). cond t 1 0) same in
    omega arith

-- the block of a spot at another size is named as it was
resized-stands : (n : ℕ) (s : Spot) → Placed 0 (s.below ++ s.here ∷ s.above)
    → StandsAt (0 + sizes s.below) (resized n s.here)
resized-stands n s placed = stands-resized (0 + sizes s.below) n s.here
    (placed-here (0 + sizes s.below) s.here s.above (placed-above 0 s.below (s.here ∷ s.above) placed))

lawful-cut : (slots : ℕ → Slot) (bytes all : ℕ) (zone zone' : List Block) (n : ℕ) (s : Spot)
    → Lawful slots bytes all zone → s.below ++ s.here ∷ s.above ≡ zone → size (resized n s.here) ≤ size s.here
    → zone' ≡ filled (resized n s.here) s
    → Lawful slots bytes all zone'
lawful-cut slots bytes all zone zone' n s lawful whole less e =
    let new = resized n s.here in
    let left = size s.here - size new in
    let carved = s.below ++ new ∷ Free left ∷ s.above in
    let aligned : Aligned (s.below ++ s.here ∷ s.above) = subst Aligned (sym whole) lawful.aligned in
    let placed : Placed 0 (s.below ++ s.here ∷ s.above) = subst (Placed 0) (sym whole) lawful.placed in
    lawful-counts slots bytes all zone zone' lawful
    (ap sizes e ∙ total-tidy size (λ n m. refl) carved ∙ sizes-carved s.below s.above s.here new left (omega arith)
    ∙ ap sizes whole)
    (λ k. ap (count (is_relocatable k)) e ∙ count-resized (is_relocatable k) (λ n. refl) new s zone whole
    (is_relocatable-resized k n s.here))
    (ap (count is_masters) e ∙ count-resized is_masters (λ n. refl) new s zone whole (is_masters-resized n s.here))
    (ap tidy e ∙ tidy-tidy carved ∙ sym e)
    (subst Aligned (sym e) (aligned-filled new s (sixteens-resized n s.here
    (aligned-above s.below (s.here ∷ s.above) aligned).0) aligned))
    (subst (Placed 0) (sym e) (placed-filled 0 new s (resized-stands n s placed) less placed))

lawful-grown : (slots : ℕ → Slot) (bytes all : ℕ) (zone zone' : List Block) (n : ℕ) (s : Spot)
    → Lawful slots bytes all zone → s.below ++ s.here ∷ s.above ≡ zone → size s.here < size (resized n s.here)
    → grow_up (resized n s.here) s ≡ Some zone'
    → Lawful slots bytes all zone'
lawful-grown slots bytes all zone zone' n s lawful whole more e =
    let new = resized n s.here in
    let aligned : Aligned (s.below ++ s.here ∷ s.above) = subst Aligned (sym whole) lawful.aligned in
    let placed : Placed 0 (s.below ++ s.here ∷ s.above) = subst (Placed 0) (sym whole) lawful.placed in
    lawful-counts slots bytes all zone zone' lawful
    (sizes-grown new s zone' more e ∙ ap sizes whole)
    (λ k. count-grown (is_relocatable k) (λ n. refl) new s zone' (is_relocatable-resized k n s.here) e
    ∙ ap (count (is_relocatable k)) whole)
    (count-grown is_masters (λ n. refl) new s zone' (is_masters-resized n s.here) e ∙ ap (count is_masters) whole)
    (tidy-grown n s zone' more (ap tidy whole ∙ lawful.tidied ∙ sym whole) e)
    (aligned-grow_up new s zone' (sixteens-resized n s.here (aligned-above s.below (s.here ∷ s.above) aligned).0)
    aligned e)
    (placed-grow_up 0 new s zone' (resized-stands n s placed) (omega arith) placed e)

-- a block at another size, or the host had no memory for it
pub lawful-resized : {T E : Type 0} (r : Result T E) (slots : ℕ → Slot) (bytes all : ℕ) (zone zone' : List Block)
    (place n : ℕ) → Lawful slots bytes all zone
    → IsSomeAnd (spot_at place zone) (λ s. (size (resized n s.here) ≤ size s.here)
    ⊎ IsSome (grow_up (resized n s.here) s))
    → OnOk r (IfSome (spot_at place zone) (λ s. size (resized n s.here) ≤ size s.here
    → zone' ≡ filled (resized n s.here) s))
    → OnOk r (IfSome (spot_at place zone) (λ s. size s.here < size (resized n s.here)
    → IfSome (grow_up (resized n s.here) s) (λ after. zone' ≡ after)))
    → OnErr r (zone' ≡ zone) → Lawful slots bytes all zone'
lawful-resized (Err e) slots bytes all zone zone' place n lawful room cut grown err =
    subst (Lawful slots bytes all) (sym err) lawful
lawful-resized (Ok x) slots bytes all zone zone' place n lawful room cut grown err =
    let at = the_some (spot_at place zone) (λ s. (size (resized n s.here) ≤ size s.here)
    ⊎ IsSome (grow_up (resized n s.here) s)) (λ s. size (resized n s.here) ≤ size s.here
    → zone' ≡ filled (resized n s.here) s) room cut in
    let above = the_some (spot_at place zone) (λ s. (size (resized n s.here) ≤ size s.here)
    ⊎ IsSome (grow_up (resized n s.here) s)) (λ s. size s.here < size (resized n s.here)
    → IfSome (grow_up (resized n s.here) s) (λ after. zone' ≡ after)) room grown in
    cases at.0 above.0 (spot_at-is place zone at.0 at.1) (spot_at-is place zone above.0 above.1) at.3 above.3 above.2
    (less_or_more (size (resized n at.0.here)) (size at.0.here)) (same_Some _ _ (sym at.1 ∙ above.1))
  where
    grows : (s : Spot) → s.below ++ s.here ∷ s.above ≡ zone → size s.here < size (resized n s.here)
        → (o : Option (List Block)) → grow_up (resized n s.here) s ≡ o → IsSome o → IfSome o (λ after. zone' ≡ after)
        → Lawful slots bytes all zone'
    grows s whole more None e some is = let f : false ≡ true = some in cc
    grows s whole more (Some after) e some is = lawful-grown slots bytes all zone zone' n s lawful whole more
        (e ∙ ap Some (sym is))

    cases : (s s' : Spot) → s.below ++ s.here ∷ s.above ≡ zone → s'.below ++ s'.here ∷ s'.above ≡ zone
        → (size (resized n s.here) ≤ size s.here → zone' ≡ filled (resized n s.here) s)
        → (size s'.here < size (resized n s'.here) → IfSome (grow_up (resized n s'.here) s') (λ after. zone' ≡ after))
        → (size (resized n s'.here) ≤ size s'.here) ⊎ IsSome (grow_up (resized n s'.here) s')
        → (size (resized n s.here) ≤ size s.here) ⊎ (size s.here < size (resized n s.here)) → s ≡ s'
        → Lawful slots bytes all zone'
    cases s s' whole whole' cut grown room (inl le) same = lawful-cut slots bytes all zone zone' n s lawful whole le
        (cut le)
    cases s s' whole whole' cut grown room (inr more) same =
        let more' : size s'.here < size (resized n s'.here) = subst
        (λ (s : Spot). size s.here < size (resized n s.here)) same more in
        grows s' whole' more' (grow_up (resized n s'.here) s') refl
        (larger (size (resized n s'.here)) (size s'.here) more' room) (grown more')

-- a slot's block at another place, or the host had no memory for it
pub lawful-moved : {T E : Type 0} (r : Result T E) (slots : ℕ → Slot) (bytes all : ℕ) (zone zone' : List Block)
    (place number n : ℕ) → Lawful slots bytes all zone
    → IsSomeAnd (spot_at place zone) (λ s. is_room (padded n) s.here ≡ true)
    → IsSome (spot (is_relocatable number) zone)
    → OnOk r (IfSome (spot_at place zone) (λ s. IfSome (spot (is_relocatable number) zone)
    (λ from. zone' ≡ filled (resized n from.here) (moved_away (is_relocatable number) s))))
    → OnErr r (zone' ≡ zone) → Lawful slots bytes all zone'
lawful-moved (Err e) slots bytes all zone zone' place number n lawful room block ok err =
    subst (Lawful slots bytes all) (sym err) lawful
lawful-moved (Ok x) slots bytes all zone zone' place number n lawful room block ok err =
    let t = is_relocatable number in
    let at = the_some (spot_at place zone) (λ s. is_room (padded n) s.here ≡ true)
    (λ s. IfSome (spot t zone) (λ from. zone' ≡ filled (resized n from.here) (moved_away t s))) room ok in
    cases at.0 (spot_at-is place zone at.0 at.1) at.2 (spot t zone) refl block at.3
  where
    loose : Loose slots bytes all (freed (is_relocatable number) zone)
    loose = loose-freed slots bytes all zone number (loosened slots bytes all zone lawful)

    used : (from : Spot) → spot (is_relocatable number) zone ≡ Some from → (u : Bool) → is_used (slots number) ≡ u
        → u ≡ true
    used from e true is = refl
    used from e false is = absurd (found-has (is_relocatable number) zone from e (lawful.no_block number is))

    cases : (s : Spot) → s.below ++ s.here ∷ s.above ≡ zone → is_room (padded n) s.here ≡ true → (o : Option Spot)
        → spot (is_relocatable number) zone ≡ o → IsSome o
        → IfSome o (λ from. zone' ≡ filled (resized n from.here) (moved_away (is_relocatable number) s))
        → Lawful slots bytes all zone'
    cases s whole room None e some is = let f : false ≡ true = some in cc
    cases s whole room (Some from) e some is =
        let t = is_relocatable number in
        let passes = spot-passes t zone from e in
        lawful-placed slots bytes all (freed t zone) zone' number (resized n from.here) (moved_away t s) loose
        (freed-around number (padded n) s zone room whole)
        (λ k. is_relocatable-resized k n from.here ∙ is_of number k from.here passes)
        (is_masters-resized n from.here ∙ not_both number from.here passes)
        (used from e (is_used (slots number)) refl) (has-freed t (λ n. refl) zone)
        (subst (λ (k : ℕ). is_room k s.here ≡ true) (sym (size-resized number n from.here passes)) room) is
