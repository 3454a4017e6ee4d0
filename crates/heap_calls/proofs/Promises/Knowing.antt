use Rattle.heap_calls.proofs.Cited.{◌≡◌, ℕ, ◌+◌, ◌-◌, ◌≤◌, zero, suc, Bool, true, false, ◌&&◌, ◌==◌, List, [], ◌∷◌, ◌++◌, length, refl, sym}
use Rattle.heap_calls.proofs.Cited.{◌∙◌, ap, cond, arith, Option, Some, None, Ok, slice_get, slice_set, subst, cond-true, cond-false}
use Rattle.heap_calls.proofs.Cited.{false_from_ne_true, and_parts, Decides-eqb, none-some, slice_get_past, bytes_eq-Decides, option_map}
use Rattle.heap_calls.proofs.Cited.{ok_or, bytes_eq, OsErr, NIL_HANDLE, Flags, Block, Free, Nonrelocatable, Masters, Relocatable, total}
use Rattle.heap_calls.proofs.Cited.{count, free, is_relocatable, is_nonrelocatable, content_of, Spot, spot, spot-is, spot-passes}
use Rattle.heap_calls.proofs.Cited.{total-append, total-le, State, Meaning, fresh_heap, Held, look_up, held_at, handle_at, pointed}
use Rattle.heap_calls.proofs.Cited.{pointed_at, named_block, Holds, SeesNoFree, unless, unless-le}
use Rattle.heap_calls.specs.State as names
use Rattle.heap_calls.specs.Answer as calls
use Rattle.heap_calls.proofs.Numbering.Numbers.{flipped}

-- What is known of each block's bytes, and the changes that keep it.

-- a number that stands for a handle, and one that stands for a pointer
abbrev pub for_handle : Option Meaning → Bool
for_handle None = false
for_handle (Some (names.Handle role)) = true
for_handle (Some names.Pointer) = false
for_handle (Some names.Disposed) = false

abbrev pub for_pointer : Option Meaning → Bool
for_pointer None = false
for_pointer (Some (names.Handle role)) = false
for_pointer (Some names.Pointer) = true
for_pointer (Some names.Disposed) = false

-- no number is both
pub handle-only : (o : Option Meaning) → for_handle o ≡ true → for_pointer o ≡ false
handle-only None e = refl
handle-only (Some (names.Handle role)) e = refl
handle-only (Some names.Pointer) e = let f : false ≡ true = e in cc
handle-only (Some names.Disposed) e = refl

pub pointer-only : (o : Option Meaning) → for_pointer o ≡ true → for_handle o ≡ false
pointer-only None e = refl
pointer-only (Some (names.Handle role)) e = let f : false ≡ true = e in cc
pointer-only (Some names.Pointer) e = refl
pointer-only (Some names.Disposed) e = refl

-- 1 for a block whose number stands for something else, or that doesn't hold its number's bytes
abbrev pub strange : (ℕ → List ℕ) → List Meaning → Block → ℕ
strange bytes ns (Free m) = 0
strange bytes ns (Nonrelocatable id content) = cond (for_pointer (slice_get ns id) && bytes_eq content (bytes id)) 0 1
strange bytes ns Masters = 0
strange bytes ns (Relocatable id flags content) = cond (for_handle (slice_get ns id) && bytes_eq content (bytes id)) 0 1

-- each block is of a handle or pointer given, each has one at most, and it holds its bytes
pub record Known (s : State) (bytes : ℕ → List ℕ) : Type 0 where
  pub blocks : total (strange bytes s.names) s.zone ≤ 0
  pub once : (h : ℕ) → count (is_relocatable h) s.zone ≤ 1
  pub single : (p : ℕ) → count (is_nonrelocatable p) s.zone ≤ 1

-- a block that isn't strange
plain-parts : (t : Bool) (content bytes : List ℕ) → cond {A = ℕ} (t && bytes_eq content bytes) 0 1 ≤ 0 → (t ≡ true)
    × (content ≡ bytes)
plain-parts t content bytes le = cases (t && bytes_eq content bytes) refl le
  where
    cases : (u : Bool) → (t && bytes_eq content bytes) ≡ u → cond {A = ℕ} u 0 1 ≤ 0 → (t ≡ true) × (content ≡ bytes)
    cases true e le = let both = and_parts t (bytes_eq content bytes) e in
        (both.0, (bytes_eq-Decides content bytes).0 both.1)
    cases false e le = absurd (let f : 1 ≤ 0 = le in omega arith)

plain-from : (t : Bool) (content bytes : List ℕ) → t ≡ true → content ≡ bytes
    → cond {A = ℕ} (t && bytes_eq content bytes) 0 1 ≡ 0
plain-from t content bytes sure same = cond-true (t && bytes_eq content bytes) 0 1
    (rw (sure, same) ((bytes_eq-Decides bytes bytes).1 refl))

at_most : (u : Bool) → cond {A = ℕ} u 0 1 ≤ 1
at_most true = omega arith
at_most false = omega arith

pub look_up-spot : (h : ℕ) (s : State) (k : Held) → look_up (Some h) s ≡ Ok k
    → (spot (is_relocatable h) s.zone ≡ Some k.at) × (k.number ≡ h)
look_up-spot h s k is = by_name (slice_get s.names h) is
  where
    by_spot : (o : Option Spot) → ok_or {E = OsErr} (option_map
        (λ (at : Spot). let x : Held = record { number = h; at = at } in x) o) NIL_HANDLE ≡ Ok k → (o ≡ Some k.at)
        × (k.number ≡ h)
    by_spot None e = cc
    by_spot (Some at) e = let same : (record { number = h; at = at }) ≡ k = cc in
        (ap (λ (x : Held). Some x.at) same, ap (λ (x : Held). x.number) (sym same))

    by_name : (o : Option Meaning) → held_at (calls.known_as h o) s ≡ Ok k
        → (spot (is_relocatable h) s.zone ≡ Some k.at) × (k.number ≡ h)
    by_name None e = cc
    by_name (Some (names.Handle role)) e = by_spot (spot (is_relocatable h) s.zone) e
    by_name (Some names.Pointer) e = cc
    by_name (Some names.Disposed) e = cc

-- a handle that was looked up is one
pub handle_at-name : (h : ℕ) (s : State) (k : calls.Known) → handle_at (Some h) s ≡ Ok k
    → (for_handle (slice_get s.names h) ≡ true) × (k.number ≡ h)
handle_at-name h s k e = by_name (slice_get s.names h) e
  where
    by_name : (o : Option Meaning) → calls.known_as h o ≡ Ok k → (for_handle o ≡ true) × (k.number ≡ h)
    by_name None e = cc
    by_name (Some (names.Handle role)) e = let same : (record { number = h; role = role }) ≡ k = cc in
        (refl, ap (λ (x : calls.Known). x.number) (sym same))
    by_name (Some names.Pointer) e = cc
    by_name (Some names.Disposed) e = cc

-- the block of a pointer
pointed-spot : (p : ℕ) (o : Option Meaning) (s : State) (k : Held) → pointed p o s ≡ Ok k
    → (spot (is_nonrelocatable p) s.zone ≡ Some k.at) × (k.number ≡ p)
pointed-spot p o s k is = by_name o is
  where
    by_spot : (o : Option Spot) → ok_or {E = OsErr} (option_map
        (λ (at : Spot). let x : Held = record { number = p; at = at } in x) o) NIL_HANDLE ≡ Ok k → (o ≡ Some k.at)
        × (k.number ≡ p)
    by_spot None e = cc
    by_spot (Some at) e = let same : (record { number = p; at = at }) ≡ k = cc in
        (ap (λ (x : Held). Some x.at) same, ap (λ (x : Held). x.number) (sym same))

    by_name : (o : Option Meaning) → pointed p o s ≡ Ok k → (spot (is_nonrelocatable p) s.zone ≡ Some k.at) × (k.number ≡ p)
    by_name None e = cc
    by_name (Some (names.Handle role)) e = cc
    by_name (Some names.Pointer) e = by_spot (spot (is_nonrelocatable p) s.zone) e
    by_name (Some names.Disposed) e = cc

pub pointed_at-spot : (p : ℕ) (s : State) (k : Held) → pointed_at (Some p) s ≡ Ok k
    → (spot (is_nonrelocatable p) s.zone ≡ Some k.at) × (k.number ≡ p)
pointed_at-spot p s k is = pointed-spot p (slice_get s.names p) s k is

-- what is below and above a block, and the block, come to no more than the zone
at-spot : (of : Block → ℕ) (test : Block → Bool) (zone : List Block) (at : Spot) → spot test zone ≡ Some at
    → of at.here ≤ total of zone
at-spot of test zone at is = omega (
  arith,
  ap (total of) (spot-is test zone at is),
  total-append of at.below
      (at.here ∷ at.above),
)

-- the block of a handle
pub known-at : (s : State) (bytes : ℕ → List ℕ) → Known s bytes → (h : ℕ) (at : Spot)
    → spot (is_relocatable h) s.zone ≡ Some at → (flags : Flags) × (at.here ≡ Relocatable h flags (bytes h))
    × (for_handle (slice_get s.names h) ≡ true)
known-at s bytes known h at is =
    let le = at-spot (strange bytes s.names) (is_relocatable h) s.zone at is in
    let none = known.blocks in
    here at.here (spot-passes (is_relocatable h) s.zone at is) (omega arith)
  where
    here : (b : Block) → is_relocatable h b ≡ true → strange bytes s.names b ≤ 0 → (flags : Flags)
        × (b ≡ Relocatable h flags (bytes h)) × (for_handle (slice_get s.names h) ≡ true)
    here (Free m) e le = let f : false ≡ true = e in cc
    here (Nonrelocatable id content) e le = let f : false ≡ true = e in cc
    here Masters e le = let f : false ≡ true = e in cc
    here (Relocatable id flags content) e le =
        let p = plain-parts (for_handle (slice_get s.names id)) content (bytes id) le in
        let same : id ≡ h = (Decides-eqb id h).0 e in (
          flags,
          ap (λ x. Relocatable id flags x) p.1 ∙ ap (λ k. Relocatable k flags (bytes k)) same,
          ap
              (λ k. for_handle (slice_get s.names k)) (sym same) ∙ p.0,
        )

-- the block of a pointer
pub known-pointed : (s : State) (bytes : ℕ → List ℕ) → Known s bytes → (p : ℕ) (at : Spot)
    → spot (is_nonrelocatable p) s.zone ≡ Some at → (at.here ≡ Nonrelocatable p (bytes p)) × (for_pointer (slice_get s.names p) ≡ true)
known-pointed s bytes known p at is =
    let le = at-spot (strange bytes s.names) (is_nonrelocatable p) s.zone at is in
    let none = known.blocks in
    here at.here (spot-passes (is_nonrelocatable p) s.zone at is) (omega arith)
  where
    here : (b : Block) → is_nonrelocatable p b ≡ true → strange bytes s.names b ≤ 0 → (b ≡ Nonrelocatable p (bytes p))
        × (for_pointer (slice_get s.names p) ≡ true)
    here (Free m) e le = let f : false ≡ true = e in cc
    here Masters e le = let f : false ≡ true = e in cc
    here (Relocatable id flags content) e le = let f : false ≡ true = e in cc
    here (Nonrelocatable id content) e le =
        let q = plain-parts (for_pointer (slice_get s.names id)) content (bytes id) le in
        let same : id ≡ p = (Decides-eqb id p).0 e in (
          ap (λ x. Nonrelocatable id x) q.1 ∙ ap (λ k. Nonrelocatable k (bytes k)) same,
          ap (λ k. for_pointer (slice_get s.names k))
              (sym same) ∙ q.0,
        )

-- then each handle with a block, and each pointer, shows its bytes
pub holds-known : (s : State) (bytes : ℕ → List ℕ) → Known s bytes → Holds s bytes
holds-known s bytes known h k is = by_name (slice_get s.names h) is
  where
    of_handle : look_up (Some h) s ≡ Ok k → content_of k.at.here ≡ bytes h
    of_handle e = ap content_of (known-at s bytes known h k.at (look_up-spot h s k e).0).1

    by_name : (o : Option Meaning) → named_block h o s ≡ Ok k → content_of k.at.here ≡ bytes h
    by_name None e = of_handle e
    by_name (Some (names.Handle role)) e = of_handle e
    by_name (Some names.Pointer) e = ap content_of (known-pointed s bytes known h k.at
        (pointed-spot h (Some names.Pointer) s k e).0).0
    by_name (Some names.Disposed) e = of_handle e

-- 1 for a block that passes
abbrev one : (Block → Bool) → Block → ℕ
one test b = cond (test b) 1 0

-- the blocks of one number gave way to one: each number has one at most, as before
own-once : (is : ℕ → Block → Bool) (h : ℕ) (new : Block) (zone z : List Block)
    → ((k : ℕ) → (k == h) ≡ false → is k new ≡ false) → ((k : ℕ)
    → count (is k) z ≤ one (is k) new + total (unless (is h) (one (is k))) zone)
    → ((k : ℕ) → count (is k) zone ≤ 1) → (k : ℕ) → count (is k) z ≤ 1
own-once is h new zone z other less was k = cases (k == h) refl
  where
    some : (u : Bool) → cond {A = ℕ} u 1 0 ≤ 1
    some true = omega arith
    some false = omega arith

    none : (u : Bool) → cond {A = ℕ} u 0 (cond u 1 0) ≤ 0
    none true = omega arith
    none false = omega arith

    nothing_there : (bs : List Block) → total (λ b. 0) bs ≡ 0
    nothing_there [] = refl
    nothing_there (b ∷ bs) = omega (arith, nothing_there bs)

    cases : (t : Bool) → (k == h) ≡ t → count (is k) z ≤ 1
    cases true e =
        let l = less k in
        let eq : k ≡ h = (Decides-eqb k h).0 e in
        let o : one (is k) new ≤ 1 = some (is k new) in
        let z = total-le (unless (is h) (one (is k))) (λ b. 0) (λ b. subst (λ (j : ℕ). unless (is h) (one (is j)) b ≤ 0)
        (sym eq) (none (is h b))) zone in
        let zeros = nothing_there zone in
        omega arith
    cases false e =
        let l = less k in
        let o : one (is k) new ≡ 0 = cond-false (is k new) 1 0 (other k e) in
        let u = unless-le (is h) (one (is k)) zone in
        let w = was k in
        omega arith

-- blocks of the other kind are no more
other-once : (is : ℕ → Block → Bool) (test : Block → Bool) (new : Block) (zone z : List Block)
    → ((k : ℕ) → is k new ≡ false) → ((k : ℕ) → count (is k) z ≤ one (is k) new + total (unless test (one (is k))) zone)
    → ((k : ℕ) → count (is k) zone ≤ 1) → (k : ℕ) → count (is k) z ≤ 1
other-once is test new zone z other less was k =
    let l = less k in
    let o : one (is k) new ≡ 0 = cond-false (is k new) 1 0 (other k) in
    let u = unless-le test (one (is k)) zone in
    let w = was k in
    omega arith

-- numbers but one stand for what they did
abbrev pub Stand : ℕ → List Meaning → List Meaning → Type 0
Stand h ns ns' = (k : ℕ) → (k == h) ≡ false → (n : Meaning) → slice_get ns k ≡ Some n → slice_get ns' k ≡ Some n

-- what a number with its bytes stood for, it stands for
kept-one : (f : Option Meaning → Bool) → f None ≡ false → (o o' : Option Meaning)
    → ((n : Meaning) → o ≡ Some n → o' ≡ Some n) → (content old new : List ℕ) → new ≡ old
    → cond {A = ℕ} (f o' && bytes_eq content new) 0 1 ≤ cond {A = ℕ} (f o && bytes_eq content old) 0 1
kept-one f none None o' kept content old new same =
    let z : cond {A = ℕ} (f None && bytes_eq content old) 0 1 ≡ 1 = rw none refl in
    let l = at_most (f o' && bytes_eq content new) in omega arith
kept-one f none (Some n) o' kept content old new same =
    let z : cond {A = ℕ} (f o' && bytes_eq content new) 0 1 ≡ cond {A = ℕ} (f (Some n) && bytes_eq content old) 0 1 =
    ap {B = ℕ} (λ (o : Option Meaning). cond (f o && bytes_eq content new) 0 1) (kept n refl)
    ∙ ap {B = ℕ} (λ (x : List ℕ). cond (f (Some n) && bytes_eq content x) 0 1) same in
    omega arith

-- a block whose number stands for something else is strange
strange-one : (t : Bool) (content bytes : List ℕ) → t ≡ false → cond {A = ℕ} (t && bytes_eq content bytes) 0 1 ≡ 1
strange-one t content bytes never = rw never refl

-- blocks but those of one number hold their bytes as before
module _ (bytes bytes' : ℕ → List ℕ) (ns ns' : List Meaning) (h : ℕ)
    (same : (k : ℕ) → (k == h) ≡ false → bytes' k ≡ bytes k) (stand : Stand h ns ns')
  where
    kept-nonrelocatable : (id : ℕ) (content : List ℕ) → (id == h) ≡ false
        → strange bytes' ns' (Nonrelocatable id content) ≤ strange bytes ns (Nonrelocatable id content)
    kept-nonrelocatable id content e = kept-one for_pointer refl (slice_get ns id) (slice_get ns' id) (stand id e) content
        (bytes id) (bytes' id) (same id e)

    kept-relocatable : (id : ℕ) (flags : Flags) (content : List ℕ) → (id == h) ≡ false
        → strange bytes' ns' (Relocatable id flags content) ≤ strange bytes ns (Relocatable id flags content)
    kept-relocatable id flags content e = kept-one for_handle refl (slice_get ns id) (slice_get ns' id) (stand id e)
        content (bytes id) (bytes' id) (same id e)

    other-handles : for_pointer (slice_get ns h) ≡ false → (b : Block)
        → unless (is_relocatable h) (strange bytes' ns') b ≤ strange bytes ns b
    other-handles never (Free m) = omega arith
    other-handles never Masters = omega arith
    other-handles never (Nonrelocatable id content) = cases (id == h) refl
      where
        cases : (t : Bool) → (id == h) ≡ t → strange bytes' ns' (Nonrelocatable id content) ≤ strange bytes ns (Nonrelocatable id content)
        cases true e =
            let eq : id ≡ h = (Decides-eqb id h).0 e in
            let z = strange-one (for_pointer (slice_get ns id)) content (bytes id)
            (ap (λ k. for_pointer (slice_get ns k)) eq ∙ never) in
            let l = at_most (for_pointer (slice_get ns' id) && bytes_eq content (bytes' id)) in omega arith
        cases false e = kept-nonrelocatable id content e
    other-handles never (Relocatable id flags content) = cases (id == h) refl
      where
        cases : (t : Bool) → (id == h) ≡ t → cond t 0 (strange bytes' ns' (Relocatable id flags content)) ≤ strange
            bytes ns (Relocatable id flags content)
        cases true e = omega arith
        cases false e = kept-relocatable id flags content e

    other-pointers : for_handle (slice_get ns h) ≡ false → (b : Block)
        → unless (is_nonrelocatable h) (strange bytes' ns') b ≤ strange bytes ns b
    other-pointers never (Free m) = omega arith
    other-pointers never Masters = omega arith
    other-pointers never (Relocatable id flags content) = cases (id == h) refl
      where
        cases : (t : Bool) → (id == h) ≡ t → strange bytes' ns' (Relocatable id flags content) ≤ strange bytes ns
            (Relocatable id flags content)
        cases true e =
            let eq : id ≡ h = (Decides-eqb id h).0 e in
            let z = strange-one (for_handle (slice_get ns id)) content (bytes id)
            (ap (λ k. for_handle (slice_get ns k)) eq ∙ never) in
            let l = at_most (for_handle (slice_get ns' id) && bytes_eq content (bytes' id)) in omega arith
        cases false e = kept-relocatable id flags content e
    other-pointers never (Nonrelocatable id content) = cases (id == h) refl
      where
        cases : (t : Bool) → (id == h) ≡ t → cond t 0 (strange bytes' ns' (Nonrelocatable id content)) ≤ strange bytes ns
            (Nonrelocatable id content)
        cases true e = omega arith
        cases false e = kept-nonrelocatable id content e

-- one block at most in place of those that pass
abbrev pub GivesWay : (Block → Bool) → Block → List Block → List Block → Type 0
GivesWay test new zone z = (of : Block → ℕ) → SeesNoFree of → total of z ≤ of new + total (unless test of) zone

known-changed : (s s' : State) (bytes bytes' : ℕ → List ℕ) (test : Block → Bool) (new : Block)
    → strange bytes' s'.names new ≡ 0 → ((b : Block) → unless test (strange bytes' s'.names) b ≤ strange bytes s.names
    b)
    → GivesWay test new s.zone s'.zone → ((k : ℕ) → count (is_relocatable k) s'.zone ≤ 1)
    → ((k : ℕ) → count (is_nonrelocatable k) s'.zone ≤ 1) → Known s bytes → Known s' bytes'
known-changed s s' bytes bytes' test new plain others less once single known = record {
  blocks =
      let l = less (strange bytes' s'.names) (λ n. refl) in
      let k = known.blocks in
      let o = total-le (unless test (strange bytes' s'.names)) (strange bytes s.names) others s.zone in
      omega arith;
  once = once;
  single = single;
}

-- another block of a handle, or none, in place of its block
pub handle-changed : (s s' : State) (bytes bytes' : ℕ → List ℕ) (h : ℕ) (new : Block) → strange bytes' s'.names new ≡ 0
    → ((k : ℕ) → (k == h) ≡ false → is_relocatable k new ≡ false) → ((k : ℕ) → is_nonrelocatable k new ≡ false)
    → for_pointer (slice_get s.names h) ≡ false → ((k : ℕ) → (k == h) ≡ false → bytes' k ≡ bytes k)
    → Stand h s.names s'.names
    → GivesWay (is_relocatable h) new s.zone s'.zone → Known s bytes → Known s' bytes'
handle-changed s s' bytes bytes' h new plain number kind never same stand less known =
    known-changed s s' bytes bytes' (is_relocatable h) new plain
    (other-handles bytes bytes' s.names s'.names h same stand never) less
    (own-once is_relocatable h new s.zone s'.zone number (λ k. less (one (is_relocatable k)) (λ n. refl)) known.once)
    (other-once is_nonrelocatable (is_relocatable h) new s.zone s'.zone kind (λ k. less (one (is_nonrelocatable k)) (λ n. refl))
    known.single) known

-- another block of a pointer, or none, in place of its block
pub pointer-changed : (s s' : State) (bytes bytes' : ℕ → List ℕ) (p : ℕ) (new : Block) → strange bytes' s'.names new ≡ 0
    → ((k : ℕ) → (k == p) ≡ false → is_nonrelocatable k new ≡ false) → ((k : ℕ) → is_relocatable k new ≡ false)
    → for_handle (slice_get s.names p) ≡ false → ((k : ℕ) → (k == p) ≡ false → bytes' k ≡ bytes k)
    → Stand p s.names s'.names
    → GivesWay (is_nonrelocatable p) new s.zone s'.zone → Known s bytes → Known s' bytes'
pointer-changed s s' bytes bytes' p new plain number kind never same stand less known =
    known-changed s s' bytes bytes' (is_nonrelocatable p) new plain (other-pointers bytes bytes' s.names s'.names p same stand
    never) less
    (other-once is_relocatable (is_nonrelocatable p) new s.zone s'.zone kind (λ k. less (one (is_relocatable k)) (λ n. refl))
    known.once)
    (own-once is_nonrelocatable p new s.zone s'.zone number (λ k. less (one (is_nonrelocatable k)) (λ n. refl)) known.single) known

-- blocks that aren't more, but for one of no number; what was given stands
pub known-more : (s s' : State) (bytes : ℕ → List ℕ) (new : Block) → strange bytes s'.names new ≡ 0
    → ((k : ℕ) → is_relocatable k new ≡ false) → ((k : ℕ) → is_nonrelocatable k new ≡ false)
    → ((k : ℕ) (n : Meaning) → slice_get s.names k ≡ Some n → slice_get s'.names k ≡ Some n)
    → ((of : Block → ℕ) → SeesNoFree of → total of s'.zone ≤ of new + total of s.zone) → Known s bytes → Known s' bytes
known-more s s' bytes new plain relocatable nonrelocatable stand less known =
    known-changed s s' bytes bytes (λ b. false) new plain each less
    (other-once is_relocatable (λ b. false) new s.zone s'.zone relocatable
    (λ k. less (one (is_relocatable k)) (λ n. refl)) known.once)
    (other-once is_nonrelocatable (λ b. false) new s.zone s'.zone nonrelocatable
    (λ k. less (one (is_nonrelocatable k)) (λ n. refl)) known.single) known
  where
    each : (b : Block) → strange bytes s'.names b ≤ strange bytes s.names b
    each (Free m) = omega arith
    each Masters = omega arith
    each (Nonrelocatable id content) = kept-one for_pointer refl (slice_get s.names id) (slice_get s'.names id) (stand id)
        content (bytes id) (bytes id) refl
    each (Relocatable id flags content) = kept-one for_handle refl (slice_get s.names id) (slice_get s'.names id)
        (stand id) content (bytes id) (bytes id) refl

-- blocks that aren't more
pub known-less : (s : State) (zone : List Block) (bytes : ℕ → List ℕ)
    → ((of : Block → ℕ) → SeesNoFree of → total of zone ≤ total of s.zone) → Known s bytes
    → Known (record s { zone = zone }) bytes
known-less s zone bytes less known =
    known-more s (record s { zone = zone }) bytes (Free 0) refl (λ k. refl) (λ k. refl) (λ k n e. e)
    (λ of none. let l = less of none in omega (arith, none 0)) known

-- no block has a number that stands for nothing
pub none-handle : (s : State) (bytes : ℕ → List ℕ) → Known s bytes → (h : ℕ) → for_handle (slice_get s.names h) ≡ false
    → count (is_relocatable h) s.zone ≤ 0
none-handle s bytes known h never = let k = known.blocks in let l =
    total-le (one (is_relocatable h)) (strange bytes s.names) each s.zone in omega arith
  where
    each : (b : Block) → one (is_relocatable h) b ≤ strange bytes s.names b
    each (Free m) = omega arith
    each (Nonrelocatable id content) = omega arith
    each Masters = omega arith
    each (Relocatable id flags content) = cases (id == h) refl
      where
        cases : (t : Bool) → (id == h) ≡ t → cond {A = ℕ} t 1 0 ≤ strange bytes s.names (Relocatable id flags content)
        cases false e = omega arith
        cases true e =
            let eq : id ≡ h = (Decides-eqb id h).0 e in
            let z = strange-one (for_handle (slice_get s.names id)) content (bytes id)
            (ap (λ k. for_handle (slice_get s.names k)) eq ∙ never) in omega arith

pub none-pointer : (s : State) (bytes : ℕ → List ℕ) → Known s bytes → (p : ℕ)
    → for_pointer (slice_get s.names p) ≡ false → count (is_nonrelocatable p) s.zone ≤ 0
none-pointer s bytes known p never = let k = known.blocks in
    let l = total-le (one (is_nonrelocatable p)) (strange bytes s.names) each s.zone in omega arith
  where
    each : (b : Block) → one (is_nonrelocatable p) b ≤ strange bytes s.names b
    each (Free m) = omega arith
    each (Relocatable id flags content) = omega arith
    each Masters = omega arith
    each (Nonrelocatable id content) = cases (id == p) refl
      where
        cases : (t : Bool) → (id == p) ≡ t → cond {A = ℕ} t 1 0 ≤ strange bytes s.names (Nonrelocatable id content)
        cases false e = omega arith
        cases true e =
            let eq : id ≡ p = (Decides-eqb id p).0 e in
            let z = strange-one (for_pointer (slice_get s.names id)) content (bytes id)
            (ap (λ k. for_pointer (slice_get s.names k)) eq ∙ never) in omega arith

-- a name more, and a name set anew
pub push-stands : (ns : List Meaning) (new : Meaning) (k : ℕ) (n : Meaning) → slice_get ns k ≡ Some n
    → slice_get (ns ++ new ∷ []) k ≡ Some n
push-stands [] new k n e = absurd (none-some n e)
push-stands (m ∷ ns) new zero n e = e
push-stands (m ∷ ns) new (suc k) n e = push-stands ns new k n e

pub pushed : (ns : List Meaning) (new : Meaning) → slice_get (ns ++ new ∷ []) (length ns) ≡ Some new
pushed [] new = refl
pushed (m ∷ ns) new = pushed ns new

pub set-stands : (ns : List Meaning) (h : ℕ) (new : Meaning) → Stand h ns (slice_set ns h new)
set-stands [] h new k other n e = absurd (none-some n e)
set-stands (m ∷ ns) zero new zero other n e = let f : true ≡ false = other in cc
set-stands (m ∷ ns) zero new (suc k) other n e = e
set-stands (m ∷ ns) (suc h) new zero other n e = e
set-stands (m ∷ ns) (suc h) new (suc k) other n e =
    set-stands ns h new k
    (false_from_ne_true (k == h) (λ t. let z : (suc k == suc h)
    ≡ true = (Decides-eqb (suc k) (suc h)).1 (ap suc ((Decides-eqb k h).0 t)) in
    let f : true ≡ false = sym z ∙ other in cc)) n e

-- the next number stands for nothing yet
pub next-none : (ns : List Meaning) → slice_get ns (length ns) ≡ None
next-none ns = slice_get_past ns (length ns) (omega arith)

-- with other bytes of a number
abbrev pub with_bytes : ℕ → List ℕ → (ℕ → List ℕ) → ℕ → List ℕ
with_bytes h x bytes k = cond (h == k) x (bytes k)

pub with-same : (h : ℕ) (x : List ℕ) (bytes : ℕ → List ℕ) → with_bytes h x bytes h ≡ x
with-same h x bytes = cond-true (h == h) x (bytes h) ((Decides-eqb h h).1 refl)

pub with-other : (h : ℕ) (x : List ℕ) (bytes : ℕ → List ℕ) (k : ℕ) → (k == h) ≡ false → with_bytes h x bytes k ≡ bytes k
with-other h x bytes k e = cond-false (h == k) x (bytes k) (flipped h k e)

-- a block of a handle that holds these bytes
pub handle-plain : (bytes : ℕ → List ℕ) (ns : List Meaning) (h : ℕ) (flags : Flags) (x : List ℕ)
    → for_handle (slice_get ns h) ≡ true → x ≡ bytes h → strange bytes ns (Relocatable h flags x) ≡ 0
handle-plain bytes ns h flags x sure same = plain-from (for_handle (slice_get ns h)) x (bytes h) sure same

pub pointer-plain : (bytes : ℕ → List ℕ) (ns : List Meaning) (p : ℕ) (x : List ℕ) → for_pointer (slice_get ns p) ≡ true
    → x ≡ bytes p → strange bytes ns (Nonrelocatable p x) ≡ 0
pointer-plain bytes ns p x sure same = plain-from (for_pointer (slice_get ns p)) x (bytes p) sure same

-- in a fresh zone nothing was put
pub known-fresh : (n : ℕ) → Known (fresh_heap n) (λ h. [])
known-fresh n = record { blocks = rest (n - 272); once = λ h. none h (n - 272); single = λ p. never p (n - 272) }
  where
    rest : (m : ℕ) → total (strange (λ h. []) []) (Masters ∷ free m) ≤ 0
    rest zero = omega arith
    rest (suc m) = omega arith

    none : (h m : ℕ) → count (is_relocatable h) (Masters ∷ free m) ≤ 1
    none h zero = omega arith
    none h (suc m) = omega arith

    never : (p m : ℕ) → count (is_nonrelocatable p) (Masters ∷ free m) ≤ 1
    never p zero = omega arith
    never p (suc m) = omega arith
