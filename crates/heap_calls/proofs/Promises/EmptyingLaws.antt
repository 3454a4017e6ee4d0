use Rattle.heap_calls.proofs.Cited.{◌≡◌, ℕ, ◌+◌, ◌≤◌, Bool, true, false, not, ◌&&◌, ◌||◌, ◌==◌, List, [], ◌∷◌, ◌++◌, length, refl, sym, ◌∙◌}
use Rattle.heap_calls.proofs.Cited.{ap, cond, arith, Some, Result, Ok, Err, replicate, append-nil, cond-false, Decides-eqb, if◌then◌else◌}
use Rattle.heap_calls.proofs.Cited.{phys, OsErr, PURGED, Flags, Block, Free, Nonrelocatable, Masters, Relocatable, total, count}
use Rattle.heap_calls.proofs.Cited.{is_purgeable, is_masters, is_relocatable, is_nonrelocatable, content_of, with_content, no_flags, tidy}
use Rattle.heap_calls.proofs.Cited.{resized, written, has, runs, Spot, spot, freed, runs_settled, spot-is, total-append, total-le}
use Rattle.heap_calls.proofs.Cited.{count-none, has-count, State, Memory, nothing, flagged, hoisted, handle_at, is_loose, blocks_purged}
use Rattle.heap_calls.proofs.Cited.{purgeable, Asked, answered, row, may_purge, Weighs, OneBlockEach, has_purgeable, PurgesOnlyPurgeable}
use Rattle.heap_calls.proofs.Cited.{unless, tidied, freed-is, Move, Put, Drop, Did, did, Sought, no_room, seek, around, Refuses}
use Rattle.heap_calls.proofs.Cited.{seek-refused, put-there, heap_after, settled-all, purged-all, takes_block}
use Rattle.std.specs.Prelude.{is_some}
use Rattle.heap_calls.specs.Answer as calls
use Rattle.heap_calls.specs.Purging as purging
use Rattle.heap_calls.proofs.Rows.Shapes.{by-kind}
use Rattle.heap_calls.proofs.Rows.Along.{row-along}
use Rattle.heap_calls.proofs.Rows.Weighing.{Renews, allows-weighs, none-lost}
use Rattle.heap_calls.specs.Table as asked
use Rattle.heap_calls.specs.Rows as rows
use Rattle.heap_calls.proofs.Promises.Knowing.{handle_at-name}
use Rattle.heap_calls.proofs.Rows.Effects as effects
use Rattle.heap_calls.proofs.Rows.Effects.{Effect, effect_of, Changes, by-effect, by-quiet}
use Rattle.heap_calls.proofs.Promises.AlikeCalls.{flagged-number}
use Rattle.heap_calls.proofs.Promises.KnownChanges.{hoisted-all}

-- Each block that may not be purged is there after each call that doesn't let it go.

-- blocks that pass come to nothing
abbrev pub Unseen : (Block → ℕ) → (Block → Bool) → Type 0
Unseen of test = (b : Block) → test b ≡ true → of b ≡ 0

-- a block doesn't come to less with other flags
abbrev pub Rises : (Block → ℕ) → (Flags → Flags) → Type 0
Rises of change = (b : Block) → of b ≤ of (flagged change b)

-- an effect lets only blocks go that come to nothing
abbrev pub Spares : (Block → ℕ) → Effect → Type 0
Spares of (effects.Disposed (Some k)) = Unseen of (is_relocatable k)
Spares of (effects.Emptied (Some k)) = Unseen of (is_relocatable k)
Spares of (effects.DisposedPointer (Some p)) = Unseen of (is_nonrelocatable p)
Spares of (effects.Flagged handle change) = Rises of change
Spares of (effects.LockedHigh handle) = Rises of (λ f. record f { locked = true })
Spares of e = Unit {0}

-- a block at a spot that comes to no less
swapped-rises : (of : Block → ℕ) (zone : List Block) (at : Spot) (new : Block)
    → zone ≡ at.below ++ at.here ∷ at.above → of at.here ≤ of new → total of zone ≤ total of (at.below ++ new ∷ at.above)
swapped-rises of zone at new is le = omega (
  arith,
  ap (total of) is,
  total-append of at.below (at.here ∷ at.above),
  total-append of at.below (new ∷ at.above),
)

-- other flags
flagged-rises : (of : Block → ℕ) (change : Flags → Flags) → Rises of change → (k : ℕ) (zone : List Block) (at : Spot)
    → spot (is_relocatable k) zone ≡ Some at → total of zone ≤ total of (at.below ++ flagged change at.here ∷ at.above)
flagged-rises of change rises k zone at found =
    swapped-rises of zone at (flagged change at.here) (spot-is (is_relocatable k) zone at found) (rises at.here)

-- a call that may purge blocks for room
abbrev pub purges : Asked → Bool
purges a = may_purge (row a)

module _ (of : Block → ℕ) (none : (n : ℕ) → of (Free n) ≡ 0) (filled : (x : List ℕ) (b : Block)
    → of b ≡ of (with_content x b))
  where
    -- blocks that come to nothing are Free
    pub of-freed : (test : Block → Bool) → Unseen of test → (bs : List Block) → total of bs ≡ total of (freed test bs)
    of-freed test unseen bs = sym (freed-is of none test bs ∙ rest bs)
      where
        rest : (bs : List Block) → total (unless test of) bs ≡ total of bs
        rest [] = refl
        rest (b ∷ bs) = cases (test b) refl (rest bs)
          where
            cases : (t : Bool) → test b ≡ t → total (unless test of) bs ≡ total of bs
                → cond t 0 (of b) + total (unless test of) bs ≡ of b + total of bs
            cases true e r = omega (arith, unseen b e)
            cases false e r = omega arith

    pub of-gone : (test : Block → Bool) → Unseen of test → (zone : List Block)
        → total of zone ≤ total of (tidy (freed test zone))
    of-gone test unseen zone = omega (arith, of-freed test unseen zone, tidied of none (freed test zone))

    -- each effect, and each call that purges nothing
    of-changes : (e : Effect) (s : State) → Spares of e → Changes (λ t. total of s.zone ≤ total of t.zone) s e
    of-changes (effects.Flagged (Some k) change) s spares = flagged-rises of change spares k s.zone
    of-changes (effects.Hoisted (Some k)) s spares = λ at found mover. hoisted-all of none k s.zone
    of-changes (effects.LockedHigh (Some k)) s spares = λ at found mover.
        let now : State = record s { zone = hoisted k s.zone } in
        let high = hoisted-all of none k s.zone in
        by-effect (λ t. total of s.zone ≤ total of t.zone) (effects.Flagged (Some k) (λ f. record f { locked = true })) now
        high
        (λ at found. let l = flagged-rises of (λ f. record f { locked = true }) spares k now.zone at found in omega arith)
    of-changes (effects.Disposed (Some k)) s spares = λ is. of-gone (is_relocatable k) spares s.zone
    of-changes (effects.DisposedPointer (Some p)) s spares = λ is. of-gone (is_nonrelocatable p) spares s.zone
    of-changes (effects.Emptied (Some k)) s spares = λ at found mover. of-gone (is_relocatable k) spares s.zone
    of-changes (effects.Compacted n) s spares = settled-all of none (runs_settled (phys n) s.zone) s.zone
    of-changes (effects.Written call only) s spares = λ at i x is fits.
        let f = filled (written i x (content_of at.here)) at.here in
        swapped-rises of s.zone at (with_content (written i x (content_of at.here)) at.here) is (omega arith)
    of-changes e s spares = tt

    pub of-quiet : (a : Asked) (m : Memory) → purges a ≡ false → Spares of (effect_of a)
        → total of m.heap.zone ≤ total of (answered a m).1.heap.zone
    of-quiet a m quiet spares = by-quiet (λ t. total of m.heap.zone ≤ total of t.zone) a m quiet (omega arith)
        (of-changes (effect_of a) m.heap spares)

module _ (of : Block → ℕ) (none : (n : ℕ) → of (Free n) ≡ 0) (goes : (b : Block) → is_purgeable b ≡ true → of b ≡ 0)
    (sized : (n : ℕ) (b : Block) → of b ≡ of (resized n b)) (filled : (x : List ℕ) (b : Block)
    → of b ≡ of (with_content x b))
  where
    -- each call
    pub of-answered : (a : Asked) (m : Memory) → OneBlockEach m.heap.zone → Renews of a
        → (purges a ≡ false → Spares of (effect_of a)) → total of m.heap.zone ≤ total of (answered a m).1.heap.zone
    of-answered a m once = by-kind (λ b. Renews of b → (purges b ≡ false → Spares of (effect_of b))
        → total of m.heap.zone ≤ total of (answered b m).1.heap.zone)
        (λ b path own spares. none-lost of none goes (row b) m path
        (row-along (λ sp. Weighs of) m.heap b (allows-weighs of sized filled b m.heap (λ h within. once h) own)))
        (λ n own spares. let p = purged-all of none goes (blocks_purged (phys n) m.heap.zone) nothing m.heap.zone in
        omega arith)
        (λ own spares.
        let left : List Block = purging.purged_all m.heap.zone in
        let p = purged-all of none goes (purgeable m.heap.zone) nothing m.heap.zone in
        let q = settled-all of none (length (runs left)) left in
        omega arith)
        (λ b quiet own spares. of-quiet of none filled b m quiet (spares quiet)) a

-- 1 for a block of a handle that may not be purged
abbrev pub stays : ℕ → Block → ℕ
stays h b = cond (is_relocatable h b && not (is_purgeable b)) 1 0

-- 1 for a block of a handle
abbrev pub is_of : ℕ → Block → ℕ
is_of h b = cond (is_relocatable h b) 1 0

pub stays-goes : (h : ℕ) (b : Block) → is_purgeable b ≡ true → stays h b ≡ 0
stays-goes h b e = ap {B = ℕ} (λ (t : Bool). cond (is_relocatable h b && not t) 1 0) e ∙ cases (is_relocatable h b)
  where
    cases : (t : Bool) → cond {A = ℕ} (t && false) 1 0 ≡ 0
    cases true = refl
    cases false = refl

pub stays-sized : (h n : ℕ) (b : Block) → stays h b ≡ stays h (resized n b)
stays-sized h n (Free m) = refl
stays-sized h n (Nonrelocatable id content) = refl
stays-sized h n Masters = refl
stays-sized h n (Relocatable id flags content) = refl

pub stays-filled : (h : ℕ) (x : List ℕ) (b : Block) → stays h b ≡ stays h (with_content x b)
stays-filled h x (Free m) = refl
stays-filled h x (Nonrelocatable id content) = refl
stays-filled h x Masters = refl
stays-filled h x (Relocatable id flags content) = refl

-- a block that may not be purged is one
stays-few : (h : ℕ) (b : Block) → stays h b ≤ is_of h b
stays-few h b = cases (is_relocatable h b) (is_purgeable b)
  where
    cases : (t u : Bool) → cond {A = ℕ} (t && not u) 1 0 ≤ cond {A = ℕ} t 1 0
    cases true true = omega arith
    cases true false = omega arith
    cases false u = omega arith

pub stays-le : (h : ℕ) (bs : List Block) → total (stays h) bs ≤ count (is_relocatable h) bs
stays-le h bs = total-le (stays h) (is_of h) (stays-few h) bs

-- and each block where none may be purged
pub stays-all : (h : ℕ) (bs : List Block) → has_purgeable h bs ≡ false
    → count (is_relocatable h) bs ≤ total (stays h) bs
stays-all h [] e = omega arith
stays-all h (b ∷ bs) e = cases (is_relocatable h b) (is_purgeable b) e (λ e. stays-all h bs e)
  where
    cases : (t u : Bool) → ((t && u) || has_purgeable h bs) ≡ false
        → (has_purgeable h bs ≡ false → count (is_relocatable h) bs ≤ total (stays h) bs)
        → cond {A = ℕ} t 1 0 + count (is_relocatable h) bs ≤ cond {A = ℕ} (t && not u) 1 0 + total (stays h) bs
    cases true true e rest = let f : true ≡ false = e in cc
    cases true false e rest = let r = rest e in omega arith
    cases false u e rest = let r = rest e in omega arith

-- a block of another handle, or of a pointer
pub other-unseen : (h k : ℕ) → (k == h) ≡ false → Unseen (is_of h) (is_relocatable k)
other-unseen h k other (Free n) e = refl
other-unseen h k other (Nonrelocatable id content) e = refl
other-unseen h k other Masters e = refl
other-unseen h k other (Relocatable id flags content) e =
    cond-false (id == h) 1 0 (ap (λ j. j == h) ((Decides-eqb id k).0 e) ∙ other)

pointer-unseen : (h p : ℕ) → Unseen (is_of h) (is_nonrelocatable p)
pointer-unseen h p (Free n) e = refl
pointer-unseen h p (Nonrelocatable id content) e = refl
pointer-unseen h p Masters e = refl
pointer-unseen h p (Relocatable id flags content) e = let f : false ≡ true = e in cc

pub stays-other : (h k : ℕ) → (k == h) ≡ false → Unseen (stays h) (is_relocatable k)
stays-other h k other b e = let few = stays-few h b in omega (arith, other-unseen h k other b e)

pub is_of-filled : (h : ℕ) (x : List ℕ) (b : Block) → is_of h b ≡ is_of h (with_content x b)
is_of-filled h x (Free m) = refl
is_of-filled h x (Nonrelocatable id content) = refl
is_of-filled h x Masters = refl
is_of-filled h x (Relocatable id flags content) = refl

-- other flags leave each block
is_of-rises : (h : ℕ) (change : Flags → Flags) → Rises (is_of h) change
is_of-rises h change b = let z : is_of h (flagged change b) ≡ is_of h b =
    ap {B = ℕ} (λ (t : Bool). cond t 1 0) (flagged-number change h b) in omega arith

-- where there are no fewer blocks of a handle, none is gone
pub still-there : (h : ℕ) (zone z : List Block) (R : Type 0) → has (is_relocatable h) zone ≡ true
    → has (is_relocatable h) z ≡ false → count (is_relocatable h) zone ≤ count (is_relocatable h) z → R
still-there h zone z R before after le = absurd (let b = has-count (is_relocatable h) zone before in
    let a = count-none (is_relocatable h) z after in omega arith)

-- a call that may purge, and spares blocks that may not be purged
spared-stays : (h : ℕ) (a : Asked) (m : Memory) → OneBlockEach m.heap.zone → Renews (stays h) a → purges a ≡ true
    → has (is_relocatable h) m.heap.zone ≡ true → has (is_relocatable h) (answered a m).1.heap.zone ≡ false
    → has_purgeable h m.heap.zone ≡ true
spared-stays h a m once own purging before after = cases (has_purgeable h m.heap.zone) refl
  where
    cases : (t : Bool) → has_purgeable h m.heap.zone ≡ t → t ≡ true
    cases true e = refl
    cases false e =
        let s = of-answered (stays h) (λ n. refl) (stays-goes h) (stays-sized h) (stays-filled h) a m once own
        (λ quiet. let f : true ≡ false = sym purging ∙ quiet in cc) in
        let all = stays-all h m.heap.zone e in
        let le = stays-le h (answered a m).1.heap.zone in
        still-there h m.heap.zone (answered a m).1.heap.zone (false ≡ true) before after (omega arith)

-- whether an effect takes the block of a handle away: that of a call does so just where the call does
abbrev takes_by : ℕ → Effect → Bool
takes_by h (effects.Disposed (Some k)) = k == h
takes_by h (effects.Emptied (Some k)) = k == h
takes_by h e = false

takes-effect : (h : ℕ) (a : Asked) → takes_by h (effect_of a) ≡ takes_block h a
takes-effect h (asked.DisposeHandle (Some k)) = refl
takes-effect h (asked.EmptyHandle (Some k)) = refl
takes-effect h a = refl

-- else it lets no block of the handle go
pub spares-others : (h : ℕ) (a : Asked) → takes_block h a ≡ false → Spares (is_of h) (effect_of a)
spares-others h a keeps = by_effect (effect_of a) (takes-effect h a ∙ keeps)
  where
    by_effect : (e : Effect) → takes_by h e ≡ false → Spares (is_of h) e
    by_effect (effects.Disposed (Some k)) other = other-unseen h k other
    by_effect (effects.Emptied (Some k)) other = other-unseen h k other
    by_effect (effects.DisposedPointer (Some p)) other = pointer-unseen h p
    by_effect (effects.Flagged handle change) other = is_of-rises h change
    by_effect (effects.LockedHigh handle) other = is_of-rises h (λ f. record f { locked = true })
    by_effect e other = tt

-- a handle that had a block has one after ReallocateHandle
pub renewed-there : (h k n : ℕ) (m : Memory) → (k == h) ≡ true → has (is_relocatable h) m.heap.zone ≡ true
    → has (is_relocatable h) (answered (asked.ReallocateHandle (Some k) n) m).1.heap.zone ≡ true
renewed-there h k n m e before = by_found (handle_at (Some k) s) (λ found is. (handle_at-name k s found is).1)
  where
    s : State
    s = m.heap

    new : ℕ → Block
    new j = Relocatable j no_flags (replicate n 0)

    left : ℕ → List Block
    left j = freed (is_relocatable j) s.zone

    sought : ℕ → Bool → Sought
    sought j t = if t then seek (Put (new j)) nothing (left j) else no_room

    answer : ℕ → Bool → rows.Done (Unit {0})
    answer j t = if t then rows.changed nothing (around (Drop j ∷ []) [] (sought j (is_some (phys n)))) s
        else rows.refused PURGED s

    there : (z : List Block) → 1 ≤ count (is_relocatable h) z → (t : Bool) → has (is_relocatable h) z ≡ t → t ≡ true
    there z some true is = refl
    there z some false is = absurd (let none = count-none (is_relocatable h) z is in omega arith)

    by_path : (j : ℕ) (r : Sought) → Refuses nothing r
        → (r.found ≡ true → 1 ≤ count (is_relocatable h) (did nothing r.path (left j)).zone) → (t : Bool) → r.found ≡ t
        → has (is_relocatable h) (did nothing (cond t (Drop j ∷ r.path ++ []) r.path) s.zone).zone ≡ true
    by_path j r only some true found =
        let now = (did nothing (r.path ++ []) (left j)).zone in
        there now (let p = some found in omega (
          arith,
          ap (λ (path : List Move). count (is_relocatable h)
              (did nothing path (left j)).zone) (append-nil r.path),
        )) (has (is_relocatable h) now) refl
    by_path j r only some false none = ap (λ (d : Did). has (is_relocatable h) d.zone) ((only none).1 s.zone) ∙ before

    by_tests : (j : ℕ) → (j == h) ≡ true → (t : Bool) → has (is_relocatable h) (heap_after (answer j t) s).zone ≡ true
    by_tests j same false = before
    by_tests j same true = by_size (is_some (phys n))
      where
        one : is_of h (new j) ≡ 1
        one = ap {B = ℕ} (λ (t : Bool). cond t 1 0) same

        by_size : (t : Bool) → has (is_relocatable h)
            (did nothing (around (Drop j ∷ []) [] (sought j t)).path s.zone).zone ≡ true
        by_size true = by_path j (sought j true) (seek-refused nothing (Put (new j)) (left j))
            (λ found. let p = put-there (is_of h) nothing (λ m. refl) (new j) (left j) found in omega (arith, one))
            (sought j true).found refl
        by_size false = before

    by_found : (r : Result calls.Known OsErr) → ((found : calls.Known) → r ≡ Ok found → found.number ≡ k)
        → has (is_relocatable h) (heap_after (rows.for_found r s (λ found. answer found.number
        (is_loose (spot (is_relocatable found.number) s.zone)))) s).zone ≡ true
    by_found (Err code) named = before
    by_found (Ok found) named = by_tests found.number (ap (λ j. j == h) (named found refl) ∙ e)
        (is_loose (spot (is_relocatable found.number) s.zone))

-- no call empties a block that may not be purged, unless it lets it go
pub only-purgeable-go : (a : Asked) (m : Memory) → OneBlockEach m.heap.zone → PurgesOnlyPurgeable a m
only-purgeable-go (asked.ReallocateHandle (Some k) n) m once h keeps = by_handle (k == h) refl
  where
    by_handle : (t : Bool) → (k == h) ≡ t → has (is_relocatable h) m.heap.zone ≡ true
        → has (is_relocatable h) (answered (asked.ReallocateHandle (Some k) n) m).1.heap.zone ≡ false
        → has_purgeable h m.heap.zone ≡ true
    by_handle true e = λ before after. let f : true ≡ false = sym (renewed-there h k n m e before) ∙ after in cc
    by_handle false e = spared-stays h (asked.ReallocateHandle (Some k) n) m once (stays-other h k e) refl
only-purgeable-go a m once h keeps = by_purging (purges a) refl tt
  where
    by_purging : (t : Bool) → purges a ≡ t → Renews (stays h) a → has (is_relocatable h) m.heap.zone ≡ true
        → has (is_relocatable h) (answered a m).1.heap.zone ≡ false → has_purgeable h m.heap.zone ≡ true
    by_purging true e own = spared-stays h a m once own e
    by_purging false e own = λ before after. still-there h m.heap.zone (answered a m).1.heap.zone
        (has_purgeable h m.heap.zone ≡ true) before after
        (of-quiet (is_of h) (λ n. refl) (is_of-filled h) a m e (spares-others h a keeps))

-- 1 for a Masters block
abbrev pub masters : Block → ℕ
masters b = cond (is_masters b) 1 0

pub masters-goes : (b : Block) → is_purgeable b ≡ true → masters b ≡ 0
masters-goes (Free n) e = refl
masters-goes (Nonrelocatable id content) e = refl
masters-goes Masters e = let f : false ≡ true = e in cc
masters-goes (Relocatable id flags content) e = refl

pub masters-sized : (n : ℕ) (b : Block) → masters b ≡ masters (resized n b)
masters-sized n (Free m) = refl
masters-sized n (Nonrelocatable id content) = refl
masters-sized n Masters = refl
masters-sized n (Relocatable id flags content) = refl

pub masters-filled : (x : List ℕ) (b : Block) → masters b ≡ masters (with_content x b)
masters-filled x (Free m) = refl
masters-filled x (Nonrelocatable id content) = refl
masters-filled x Masters = refl
masters-filled x (Relocatable id flags content) = refl

pub masters-handle : (k : ℕ) → Unseen masters (is_relocatable k)
masters-handle k (Free n) e = refl
masters-handle k (Nonrelocatable id content) e = refl
masters-handle k Masters e = let f : false ≡ true = e in cc
masters-handle k (Relocatable id flags content) e = refl

masters-pointer : (p : ℕ) → Unseen masters (is_nonrelocatable p)
masters-pointer p (Free n) e = refl
masters-pointer p (Nonrelocatable id content) e = refl
masters-pointer p Masters e = let f : false ≡ true = e in cc
masters-pointer p (Relocatable id flags content) e = refl

masters-rises : (change : Flags → Flags) → Rises masters change
masters-rises change (Free n) = omega arith
masters-rises change (Nonrelocatable id content) = omega arith
masters-rises change Masters = omega arith
masters-rises change (Relocatable id flags content) = omega arith

pub masters-renewed : (a : Asked) → Renews masters a
masters-renewed (asked.ReallocateHandle (Some k) n) = masters-handle k
masters-renewed a = tt

pub masters-spared : (e : Effect) → Spares masters e
masters-spared (effects.Disposed (Some k)) = masters-handle k
masters-spared (effects.Emptied (Some k)) = masters-handle k
masters-spared (effects.DisposedPointer (Some p)) = masters-pointer p
masters-spared (effects.Flagged handle change) = masters-rises change
masters-spared (effects.LockedHigh handle) = masters-rises (λ f. record f { locked = true })
masters-spared e = tt
