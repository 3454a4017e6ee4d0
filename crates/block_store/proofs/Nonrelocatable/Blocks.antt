use Rattle.block_store.proofs.Cited.{◌≡◌, ℕ, ◌+◌, ◌-◌, ◌*◌, ◌≤◌, Bool, true, false, ◌==◌, List, [], ◌∷◌, ◌++◌, length, take, refl, sym, ◌∙◌}
use Rattle.block_store.proofs.Cited.{ap, cond, drop, subst, arith, Result, Ok, Err, replicate, length-replicate, length-take-le}
use Rattle.block_store.proofs.Cited.{length-drop, OnOk, OnErr, IfSome, IsSomeAnd, padded, Block, Free, Nonrelocatable, Masters, Relocatable}
use Rattle.block_store.proofs.Cited.{size, sizes, count, is_room, is_masters, is_relocatable, is_nonrelocatable, tidy, with_content}
use Rattle.block_store.proofs.Cited.{content_of, written, spot_at, filled, freed, Slot, is_used, Aligned, Placed}
use Rattle.block_store.proofs.Zone.Tidy.{total-tidy}
use Rattle.block_store.proofs.Zone.Apart.{tidy-tidy}
use Rattle.block_store.proofs.Zone.Listing.{size-freed}
use Rattle.block_store.proofs.Zone.Spots.{room-size, sizes-carved}
use Rattle.block_store.proofs.Zone.Leading.{count-carved, count-freed, none-count, count-none}
use Rattle.block_store.proofs.Zone.Aligned.{Sixteens, spot_at-is, aligned-filled, aligned-freed}
use Rattle.block_store.proofs.Nonrelocatable.Placing.{StandsAt, placed-filled_at, placed-tidy, placed-freed}
use Rattle.block_store.proofs.Content.Filling.{Lawful, not_masters, lawful-written}
use Rattle.block_store.proofs.Purged.Purges.{lawful-fewer}
use Rattle.block_store.proofs.Plain.Options.{the_some}

-- nonrelocatable blocks, and new blocks of master pointers.

-- a new block that isn't relocatable, where each slot of a handle stays one
pub lawful-stood : (slots slots' : ℕ → Slot) (bytes all all' : ℕ) (zone zone' : List Block) (place : ℕ) (new : Block)
    → Lawful slots bytes all zone
    → ((k : ℕ) → is_relocatable k new ≡ false) → all' ≡ all + 64 * cond (is_masters new) 1 0
    → ((k : ℕ) → is_used (slots' k) ≡ false → is_used (slots k) ≡ false) → StandsAt place new → Sixteens new
    → IsSomeAnd (spot_at place zone) (λ s. is_room (size new) s.here ≡ true)
    → IfSome (spot_at place zone) (λ s. zone' ≡ filled new s) → Lawful slots' bytes all' zone'
lawful-stood slots slots' bytes all all' zone zone' place new lawful other more stay stands sixteens room after =
    let at = the_some (spot_at place zone) (λ s. is_room (size new) s.here ≡ true) (λ s. zone' ≡ filled new s) room
    after in
    let s = at.0 in
    let whole = spot_at-is place zone s at.1 in
    let left = size s.here - size new in
    let carved = s.below ++ new ∷ Free left ∷ s.above in
    let fits = room-size (size new) s.here at.2 in
    let e : zone' ≡ tidy carved = at.3 in
    let fewer : (k : ℕ) → count (is_relocatable k) zone' ≤ count (is_relocatable k) zone =
    λ k. less (is_relocatable k) s.here _ _ (count-carved (is_relocatable k) (λ n. refl) s.below s.above s.here new left
    zone whole) (other k) (ap (count (is_relocatable k)) e) in
    record {
      covered = ap sizes e ∙ total-tidy size (λ n m. refl) carved
          ∙ sizes-carved s.below s.above s.here new left (omega arith) ∙ ap sizes whole ∙ lawful.covered;
      masters = slots_more s.here _ _ (count-carved is_masters (λ n. refl) s.below s.above s.here new left zone whole)
          (not_masters (size new) s.here at.2) lawful.masters ∙ ap (λ l. 64 * count is_masters l) (sym e);
      no_block = λ k unused. none-count (is_relocatable k) zone' (let n = fewer k in
          let z = count-none (is_relocatable k) zone (lawful.no_block k (stay k unused)) in omega arith);
      once = λ k. let n = fewer k in let z = lawful.once k in omega arith;
      tidied = ap tidy e ∙ tidy-tidy carved ∙ sym e;
      aligned = subst Aligned (sym e) (aligned-filled new s sixteens (subst Aligned (sym whole) lawful.aligned));
      placed = subst (Placed 0) (sym e) (placed-filled_at place zone new s lawful.placed at.1 stands fits);
    }
  where
    less : (test : Block → Bool) (b : Block) (n m : ℕ) → n + cond (test b) 1 0 ≡ cond (test new) 1 0 + m
        → test new ≡ false → {n' : ℕ} → n' ≡ n → n' ≤ m
    less test b n m e none same = let y : cond {A = ℕ} (test new) 1 0 ≡ 0 =
        ap {B = ℕ} (λ (t : Bool). cond t 1 0) none in omega arith

    slots_more : (b : Block) (n m : ℕ) → n + cond (is_masters b) 1 0 ≡ cond (is_masters new) 1 0 + m
        → is_masters b ≡ false → all ≡ 64 * m → all' ≡ 64 * n
    slots_more b n m e f old = let x : cond {A = ℕ} (is_masters b) 1 0 ≡ 0 = ap {B = ℕ} (λ (t : Bool). cond t 1 0) f in
        omega arith

-- a new nonrelocatable block, or the host had no memory for it
pub lawful-nonrelocatable : {T E : Type 0} (r : Result T E) (slots : ℕ → Slot) (bytes all : ℕ) (zone zone' : List Block)
    (place n : ℕ) (content : List ℕ) → Lawful slots bytes all zone → content ≡ replicate n 0
    → IsSomeAnd (spot_at place zone) (λ s. is_room (padded n) s.here ≡ true)
    → OnOk r (IfSome (spot_at place zone) (λ s. zone' ≡ filled (Nonrelocatable place content) s)) → OnErr r (zone' ≡ zone)
    → Lawful slots bytes all zone'
lawful-nonrelocatable (Ok x) slots bytes all zone zone' place n content lawful zeros room ok err =
    let size-new : padded n ≡ padded (length content) = ap padded
    (sym (ap length zeros ∙ length-replicate {A = ℕ} n 0)) in
    lawful-stood slots slots bytes all all zone zone' place (Nonrelocatable place content) lawful (λ k. refl) (omega arith)
    (λ k unused. unused) refl refl (subst (λ k. IsSomeAnd (spot_at place zone) (λ s. is_room k s.here ≡ true))
    size-new room) ok
lawful-nonrelocatable (Err e) slots bytes all zone zone' place n content lawful zeros room ok err =
    subst (Lawful slots bytes all) (sym err) lawful

-- a nonrelocatable block becomes Free
masters-freed : (place : ℕ) (bs : List Block) → count is_masters (freed (is_nonrelocatable place) bs) ≡ count is_masters bs
masters-freed place [] = refl
masters-freed place (b ∷ bs) = rw (one b, masters-freed place bs) refl
  where
    one : (b : Block) → is_masters (cond (is_nonrelocatable place b) (Free (size b)) b) ≡ is_masters b
    one (Free n) = refl
    one (Nonrelocatable id content) = elim (id == place) as (λ t. is_masters
        (cond t (Free (padded (length content))) (Nonrelocatable id content)) ≡ false) [ true ↦ refl | false ↦ refl ]
    one Masters = refl
    one (Relocatable id flags content) = refl

pub lawful-nonrelocatable_freed : (slots : ℕ → Slot) (bytes all : ℕ) (zone zone' : List Block) (place : ℕ)
    → Lawful slots bytes all zone → zone' ≡ tidy (freed (is_nonrelocatable place) zone) → Lawful slots bytes all zone'
lawful-nonrelocatable_freed slots bytes all zone zone' place lawful after =
    let fewer = freed (is_nonrelocatable place) zone in
    lawful-fewer slots bytes all zone fewer zone' lawful (size-freed (is_nonrelocatable place) zone) (masters-freed place zone)
    (λ k. count-freed (is_relocatable k) (is_nonrelocatable place) (λ n. refl) zone)
    (aligned-freed (is_nonrelocatable place) zone lawful.aligned)
    after (placed-tidy 0 fewer (placed-freed 0 (is_nonrelocatable place) zone lawful.placed))

-- bytes of a block in another
pub lawful-copied : (slots : ℕ → Slot) (bytes all : ℕ) (zone zone' : List Block) (source start n place from : ℕ)
    → Lawful slots bytes all zone
    → IsSomeAnd (spot_at source zone) (λ s. start + n ≤ length (content_of s.here))
    → IsSomeAnd (spot_at place zone) (λ s. from + n ≤ length (content_of s.here))
    → IfSome (spot_at source zone) (λ t. IfSome (spot_at place zone)
    (λ s. zone' ≡ s.below ++ with_content (written from (take n (drop start (content_of t.here))) (content_of s.here)) s.here
    ∷ s.above)) → Lawful slots bytes all zone'
lawful-copied slots bytes all zone zone' source start n place from lawful fits within after =
    let at = the_some (spot_at source zone) (λ s. start + n ≤ length (content_of s.here))
    (λ t. IfSome (spot_at place zone) (λ s. zone' ≡ s.below ++ with_content
    (written from (take n (drop start (content_of t.here))) (content_of s.here)) s.here ∷ s.above)) fits after in
    let x = take n (drop start (content_of at.0.here)) in
    let rest = length-drop start (content_of at.0.here) in
    let fit = at.2 in
    let many : n ≡ length x = sym (length-take-le n (drop start (content_of at.0.here)) (omega (arith, rest, fit))) in
    lawful-written slots bytes all zone zone' place from x lawful
    (let P : ℕ → Type 0 = λ k. IsSomeAnd (spot_at place zone) (λ s. from + k ≤ length (content_of s.here)) in
    subst P many within) at.3
