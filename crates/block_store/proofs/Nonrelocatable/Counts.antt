use Rattle.block_store.proofs.Cited.{◌≡◌, ℕ, ◌+◌, ◌-◌, ◌≤◌, zero, suc, Bool, true, false, ◌==◌, List, [], ◌∷◌, ◌++◌, refl, sym, ◌∙◌, ap}
use Rattle.block_store.proofs.Cited.{cond, arith, Option, Some, None, none-some, same_Some, false_from_ne_true, Decides-eqb, option_map}
use Rattle.block_store.proofs.Cited.{Block, Free, Nonrelocatable, Masters, Relocatable, size, count, free, is_room, is_relocatable}
use Rattle.block_store.proofs.Cited.{is_nonrelocatable, tidy, with_content, resized, has, Spot, filled, may_be_purged, lowest_purged}
use Rattle.block_store.proofs.Cited.{growth, taken, grow_up, freed, spared, opened, with_flags, moved_away, Flags, Sparing}
use Rattle.block_store.specs.declared.sparing.Sparing.TheVariants as sparing
use Rattle.block_store.proofs.Zone.Totals.{total-append}
use Rattle.block_store.proofs.Zone.Tidy.{total-tidy}
use Rattle.block_store.proofs.Zone.Leading.{count-carved, count-none, none-count}

-- The nonrelocatable blocks are still there.

-- what is counted no fewer times is still there
pub has-counted : (test : Block → Bool) (bs bs' : List Block) → count test bs ≤ count test bs' → has test bs ≡ true
    → has test bs' ≡ true
has-counted test bs bs' more there = cases (has test bs') refl
  where
    cases : (t : Bool) → has test bs' ≡ t → t ≡ true
    cases true e = refl
    cases false e =
        let none = count-none test bs' e in
        let f : true ≡ false = sym there ∙ none-count test bs (omega arith) in
        cc

pub has-same : (test : Block → Bool) (bs bs' : List Block) → count test bs' ≡ count test bs → has test bs ≡ true
    → has test bs' ≡ true
has-same test bs bs' same there = has-counted test bs bs' (omega arith) there

-- what is counted as often is there as before
pub has-counts : (test : Block → Bool) (bs bs' : List Block) → count test bs' ≡ count test bs
    → has test bs' ≡ has test bs
has-counts test bs bs' same = cases (has test bs) (has test bs') refl refl
  where
    cases : (t u : Bool) → has test bs ≡ t → has test bs' ≡ u → u ≡ t
    cases true true old new = refl
    cases true false old new = sym new ∙ has-same test bs bs' same old
    cases false true old new = sym (has-same test bs' bs (sym same) new) ∙ old
    cases false false old new = refl

pub nonrelocatable-tidy : (p : ℕ) (bs : List Block) → count (is_nonrelocatable p) (tidy bs) ≡ count (is_nonrelocatable p) bs
nonrelocatable-tidy p bs = total-tidy (λ (b : Block). cond (is_nonrelocatable p b) 1 0) (λ n m. refl) bs

-- blocks that became Free, of which none is the nonrelocatable one
pub nonrelocatable-freed : (p : ℕ) (test : Block → Bool) → ((b : Block) → test b ≡ true → is_nonrelocatable p b ≡ false)
    → (bs : List Block) → count (is_nonrelocatable p) (freed test bs) ≡ count (is_nonrelocatable p) bs
nonrelocatable-freed p test other [] = refl
nonrelocatable-freed p test other (b ∷ bs) = cases (test b) refl (nonrelocatable-freed p test other bs)
  where
    cases : (t : Bool) → test b ≡ t → count (is_nonrelocatable p) (freed test bs) ≡ count (is_nonrelocatable p) bs
        → count (is_nonrelocatable p) (cond t (Free (size b)) b ∷ freed test bs) ≡ count (is_nonrelocatable p) (b ∷ bs)
    cases true e rest = let z : cond {A = ℕ} (is_nonrelocatable p b) 1 0 ≡ 0 =
        ap {B = ℕ} (λ (v : Bool). cond v 1 0) (other b e) in omega (arith, rest)
    cases false e rest = ap (λ n. cond (is_nonrelocatable p b) 1 0 + n) rest

pub not_nonrelocatable-relocatable : (p number : ℕ) (b : Block) → is_relocatable number b ≡ true → is_nonrelocatable p b ≡ false
not_nonrelocatable-relocatable p number (Free n) e = refl
not_nonrelocatable-relocatable p number (Nonrelocatable id content) e = let f : false ≡ true = e in cc
not_nonrelocatable-relocatable p number Masters e = refl
not_nonrelocatable-relocatable p number (Relocatable id flags content) e = refl

pub not_nonrelocatable-room : (p n : ℕ) (b : Block) → is_room n b ≡ true → is_nonrelocatable p b ≡ false
not_nonrelocatable-room p n (Free m) e = refl
not_nonrelocatable-room p n (Nonrelocatable id content) e = let f : false ≡ true = e in cc
not_nonrelocatable-room p n Masters e = refl
not_nonrelocatable-room p n (Relocatable id flags content) e = refl

pub not_nonrelocatable-go : (p : ℕ) (spared : Block → Bool) (b : Block) → may_be_purged spared b ≡ true → is_nonrelocatable p b ≡ false
not_nonrelocatable-go p spared (Free n) e = refl
not_nonrelocatable-go p spared (Nonrelocatable id content) e = let f : false ≡ true = e in cc
not_nonrelocatable-go p spared Masters e = refl
not_nonrelocatable-go p spared (Relocatable id flags content) e = refl

-- a block is not the nonrelocatable one of two places
pub not_nonrelocatable-other : (p q : ℕ) → (q ≡ p → ⊥) → (b : Block) → is_nonrelocatable q b ≡ true → is_nonrelocatable p b ≡ false
not_nonrelocatable-other p q other (Free n) e = refl
not_nonrelocatable-other p q other (Nonrelocatable id content) e = false_from_ne_true (id == p)
    (λ t. other (sym ((Decides-eqb id q).0 e) ∙ (Decides-eqb id p).0 t))
not_nonrelocatable-other p q other Masters e = refl
not_nonrelocatable-other p q other (Relocatable id flags content) e = refl

pub nonrelocatable-lowest_purged : (p k : ℕ) (spared : Block → Bool) (bs : List Block)
    → count (is_nonrelocatable p) (lowest_purged k spared bs) ≡ count (is_nonrelocatable p) bs
nonrelocatable-lowest_purged p zero spared bs = refl
nonrelocatable-lowest_purged p (suc k) spared [] = refl
nonrelocatable-lowest_purged p (suc k) spared (b ∷ bs) = cases (may_be_purged spared b) refl (nonrelocatable-lowest_purged p k spared bs)
    (nonrelocatable-lowest_purged p (suc k) spared bs)
  where
    cases : (t : Bool) → may_be_purged spared b ≡ t → count (is_nonrelocatable p) (lowest_purged k spared bs)
        ≡ count (is_nonrelocatable p) bs
        → count (is_nonrelocatable p) (lowest_purged (suc k) spared bs) ≡ count (is_nonrelocatable p) bs
        → count (is_nonrelocatable p) (cond t (Free (size b) ∷ lowest_purged k spared bs) (b ∷ lowest_purged (suc k) spared bs))
        ≡ count (is_nonrelocatable p) (b ∷ bs)
    cases true e went stayed = let z : cond {A = ℕ} (is_nonrelocatable p b) 1 0 ≡ 0 =
        ap {B = ℕ} (λ (v : Bool). cond v 1 0) (not_nonrelocatable-go p spared b e) in omega (arith, went)
    cases false e went stayed = ap (λ n. cond (is_nonrelocatable p b) 1 0 + n) stayed

pub nonrelocatable-opened : (p : ℕ) (n : Sparing) (bs : List Block)
    → count (is_nonrelocatable p) (opened n bs) ≡ count (is_nonrelocatable p) bs
nonrelocatable-opened p sparing.Nothing bs = refl
nonrelocatable-opened p (sparing.One slot) bs = refl
nonrelocatable-opened p (sparing.Two slot other) bs = refl
nonrelocatable-opened p (sparing.Freed slot) bs = nonrelocatable-freed p (is_relocatable slot) (not_nonrelocatable-relocatable p slot) bs

count-append : (test : Block → Bool) (below above : List Block)
    → count test (below ++ above) ≡ count test below + count test above
count-append test below above = total-append (λ (b : Block). cond (test b) 1 0) below above

-- blocks above others that were purged
pub nonrelocatable-purged_above : (p k : ℕ) (spared : Block → Bool) (below : List Block) (b : Block) (above : List Block)
    → count (is_nonrelocatable p) (tidy (below ++ b ∷ lowest_purged k spared above)) ≡ count (is_nonrelocatable p) (below ++ b ∷ above)
nonrelocatable-purged_above p k spared below b above =
    nonrelocatable-tidy p (below ++ b ∷ lowest_purged k spared above)
    ∙ count-append (is_nonrelocatable p) below (b ∷ lowest_purged k spared above)
    ∙ ap (λ n. count (is_nonrelocatable p) below + (cond (is_nonrelocatable p b) 1 0 + n)) (nonrelocatable-lowest_purged p k spared above)
    ∙ sym (count-append (is_nonrelocatable p) below (b ∷ above))

-- what a store's calls make of a block
pub is_nonrelocatable-content : (p : ℕ) (x : List ℕ) (b : Block) → is_nonrelocatable p (with_content x b) ≡ is_nonrelocatable p b
is_nonrelocatable-content p x (Free n) = refl
is_nonrelocatable-content p x (Nonrelocatable id content) = refl
is_nonrelocatable-content p x Masters = refl
is_nonrelocatable-content p x (Relocatable id flags content) = refl

pub is_nonrelocatable-flags : (p : ℕ) (f : Flags) (b : Block) → is_nonrelocatable p (with_flags f b) ≡ is_nonrelocatable p b
is_nonrelocatable-flags p f (Free n) = refl
is_nonrelocatable-flags p f (Nonrelocatable id content) = refl
is_nonrelocatable-flags p f Masters = refl
is_nonrelocatable-flags p f (Relocatable id flags content) = refl

pub is_nonrelocatable-resized : (p n : ℕ) (b : Block) → is_nonrelocatable p (resized n b) ≡ is_nonrelocatable p b
is_nonrelocatable-resized p n (Free m) = refl
is_nonrelocatable-resized p n (Nonrelocatable id content) = refl
is_nonrelocatable-resized p n Masters = refl
is_nonrelocatable-resized p n (Relocatable id flags content) = refl

-- a block at the lower end of a spot, as much the nonrelocatable one as the block was that stood there
pub nonrelocatable-filled : (p : ℕ) (new : Block) (s : Spot) → is_nonrelocatable p new ≡ is_nonrelocatable p s.here
    → count (is_nonrelocatable p) (filled new s) ≡ count (is_nonrelocatable p) (s.below ++ s.here ∷ s.above)
nonrelocatable-filled p new s same =
    let e = count-carved (is_nonrelocatable p) (λ n. refl) s.below s.above s.here new (size s.here - size new)
    (s.below ++ s.here ∷ s.above) refl in
    let z : cond {A = ℕ} (is_nonrelocatable p new) 1 0 ≡ cond (is_nonrelocatable p s.here) 1 0 =
    ap {B = ℕ} (λ (v : Bool). cond v 1 0) same in
    let f : filled new s ≡ tidy (s.below ++ new ∷ Free (size s.here - size new) ∷ s.above) = refl in
    omega (arith, e)

-- a block moved to a spot, and the slot's old one Free
pub nonrelocatable-moved : (p number : ℕ) (new : Block) (s : Spot) → is_nonrelocatable p new ≡ is_nonrelocatable p s.here
    → count (is_nonrelocatable p) (filled new (moved_away (is_relocatable number) s))
    ≡ count (is_nonrelocatable p) (s.below ++ s.here ∷ s.above)
nonrelocatable-moved p number new s same =
    let t = is_relocatable number in
    nonrelocatable-filled p new (moved_away t s) same
    ∙ count-append (is_nonrelocatable p) (freed t s.below) (s.here ∷ freed t s.above)
    ∙ ap (λ n. n + (cond (is_nonrelocatable p s.here) 1 0 + count (is_nonrelocatable p) (freed t s.above)))
    (nonrelocatable-freed p t (not_nonrelocatable-relocatable p number) s.below)
    ∙ ap (λ n. count (is_nonrelocatable p) s.below + (cond (is_nonrelocatable p s.here) 1 0 + n))
    (nonrelocatable-freed p t (not_nonrelocatable-relocatable p number) s.above)
    ∙ sym (count-append (is_nonrelocatable p) s.below (s.here ∷ s.above))

-- bytes taken from the Free block that comes first
pub nonrelocatable-taken : (p d : ℕ) (above rest : List Block) → taken d above ≡ Some rest
    → count (is_nonrelocatable p) rest ≡ count (is_nonrelocatable p) above
nonrelocatable-taken p d [] rest is = absurd (none-some _ is)
nonrelocatable-taken p d (next ∷ above) rest is = cases (is_room d next) refl is
  where
    cut : (k : ℕ) → count (is_nonrelocatable p) (free k ++ above) ≡ count (is_nonrelocatable p) above
    cut zero = refl
    cut (suc k) = omega arith

    cases : (t : Bool) → is_room d next ≡ t → cond t (Some (free (size next - d) ++ above)) None ≡ Some rest
        → count (is_nonrelocatable p) rest ≡ count (is_nonrelocatable p) (next ∷ above)
    cases true room is =
        let z : cond {A = ℕ} (is_nonrelocatable p next) 1 0 ≡ 0 = ap {B = ℕ} (λ (v : Bool). cond v 1 0)
        (not_nonrelocatable-room p d next room) in
        let e = ap (count (is_nonrelocatable p)) (sym (same_Some _ _ is)) ∙ cut (size next - d) in
        omega (arith, e)
    cases false room is = absurd (none-some _ is)

-- a block grows into the Free block that follows it
pub nonrelocatable-grow_up : (p : ℕ) (new : Block) (s : Spot) (after : List Block) → is_nonrelocatable p new ≡ is_nonrelocatable p s.here
    → grow_up new s ≡ Some after → count (is_nonrelocatable p) after ≡ count (is_nonrelocatable p) (s.below ++ s.here ∷ s.above)
nonrelocatable-grow_up p new s after same is = cases (taken (growth new s) s.above) refl is
  where
    cases : (o : Option (List Block)) → taken (growth new s) s.above ≡ o
        → option_map (λ above. s.below ++ new ∷ above) o ≡ Some after
        → count (is_nonrelocatable p) after ≡ count (is_nonrelocatable p) (s.below ++ s.here ∷ s.above)
    cases None took is = absurd (none-some _ is)
    cases (Some above) took is =
        ap (count (is_nonrelocatable p)) (sym (same_Some _ _ is)) ∙ count-append (is_nonrelocatable p) s.below (new ∷ above)
        ∙ ap (λ n. count (is_nonrelocatable p) s.below + (cond (is_nonrelocatable p new) 1 0 + n))
        (nonrelocatable-taken p (growth new s) s.above above took)
        ∙ ap (λ (t : Bool). count (is_nonrelocatable p) s.below + (cond t 1 0 + count (is_nonrelocatable p) s.above)) same
        ∙ sym (count-append (is_nonrelocatable p) s.below (s.here ∷ s.above))
