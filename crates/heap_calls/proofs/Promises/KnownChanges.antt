use Rattle.heap_calls.proofs.Cited.{◌≡◌, ℕ, ◌+◌, ◌-◌, ◌≤◌, Bool, true, false, ◌==◌, List, [], ◌∷◌, ◌++◌, length, take, drop, replicate}
use Rattle.heap_calls.proofs.Cited.{refl, sym, ◌∙◌, ap, cond, arith, Option, Some, None, slice_get, slice_set, take_all, drop_all}
use Rattle.heap_calls.proofs.Cited.{length-replicate, take-append_seam, none-some, option_map, unwrap_or, Flags, Block, Free}
use Rattle.heap_calls.proofs.Cited.{Nonrelocatable, Masters, Relocatable, total, count, is_relocatable, is_nonrelocatable, content_of}
use Rattle.heap_calls.proofs.Cited.{with_content, no_flags, tidy, resized, resized_content, written, change_run, has, high, Spot, spot}
use Rattle.heap_calls.proofs.Cited.{raised, freed, State, Meaning, Role, flagged, change_flags, hoisted, rewritten, length-resized}
use Rattle.heap_calls.proofs.Cited.{SeesNoFree, unless, unless-le, unless-none, tidied, freed-is, changed-le, high-le, swapped-le}
use Rattle.heap_calls.proofs.Cited.{changed-all, high-all}
use Rattle.std.proofs.Common.{length-append}
use Rattle.std.proofs.lemmas.List.{append-nil}
use Rattle.heap_calls.specs.State as names
use Rattle.heap_calls.specs.Answer as calls
use Rattle.heap_calls.proofs.Promises.Knowing.{Known, for_handle, for_pointer, handle-only, pointer-only}
use Rattle.heap_calls.proofs.Promises.Knowing.{known-at, known-pointed, handle-changed, pointer-changed, known-more}
use Rattle.heap_calls.proofs.Promises.Knowing.{known-less, GivesWay, none-handle, none-pointer, push-stands, pushed}
use Rattle.heap_calls.proofs.Promises.Knowing.{set-stands}
use Rattle.heap_calls.proofs.Promises.Knowing.{next-none, with_bytes, with-same, with-other, handle-plain}
use Rattle.heap_calls.proofs.Numbering.Numbers.{flipped}
use Rattle.heap_calls.proofs.Rows.Effects as effects
use Rattle.heap_calls.proofs.Rows.Effects.{by-effect}
use Rattle.heap_calls.proofs.Promises.Knowing.{pointer-plain}

-- What each change of a heap leaves known of its blocks' bytes.

-- a new block is all that is more
abbrev pub More : Block → List Block → List Block → Type 0
More new zone z = (of : Block → ℕ) → SeesNoFree of → total of z ≤ of new + total of zone

-- a new Masters block
pub known-based : (s : State) (bytes : ℕ → List ℕ) → Known s bytes → (zone : List Block) → More Masters s.zone zone
    → Known (record s { zone = zone }) bytes
known-based s bytes known zone more = known-more s (record s { zone = zone }) bytes Masters refl (λ k. refl)
    (λ k. refl) (λ k n at. at) more known

-- a new block of the next number
pub known-new : (s : State) (bytes : ℕ → List ℕ) → Known s bytes → (role : Role) (flags : Flags) (x : List ℕ)
    (zone : List Block) → More (Relocatable (length s.names) flags x) s.zone zone
    → Known (record { zone = zone; names = s.names ++ names.Handle role ∷ [] }) (with_bytes (length s.names) x bytes)
known-new s bytes known role flags x zone more =
    handle-changed s (record { zone = zone; names = s.names ++ name ∷ [] }) bytes (with_bytes h x bytes) h
    (Relocatable h flags x)
    (handle-plain (with_bytes h x bytes) (s.names ++ name ∷ []) h flags x (ap for_handle (pushed s.names name))
    (sym (with-same h x bytes))) (flipped h) (λ k. refl)
    (ap for_pointer (next-none s.names)) (with-other h x bytes) (λ k other n e. push-stands s.names name k n e)
    (λ of none. omega (
      arith,
      more of none,
      unless-none (is_relocatable h) of s.zone (none-handle s bytes known h (ap for_handle (next-none s.names))),
    )) known
  where
    h : ℕ
    h = length s.names

    name : Meaning
    name = names.Handle role

-- a new handle without a block
pub known-sparing : (s : State) (bytes : ℕ → List ℕ) → Known s bytes → (name : Meaning)
    → Known (record s { names = s.names ++ name ∷ [] }) bytes
known-sparing s bytes known name =
    known-more s (record s { names = s.names ++ name ∷ [] }) bytes (Free 0) refl (λ k. refl) (λ k. refl)
    (λ k n e. push-stands s.names name k n e) (λ of none. omega (arith, none 0)) known

-- a new pointer's block
pub known-new_pointer : (s : State) (bytes : ℕ → List ℕ) → Known s bytes → (x : List ℕ) (zone : List Block)
    → More (Nonrelocatable (length s.names) x) s.zone zone
    → Known (record { zone = zone; names = s.names ++ names.Pointer ∷ [] }) (with_bytes (length s.names) x bytes)
known-new_pointer s bytes known x zone more =
    pointer-changed s (record { zone = zone; names = s.names ++ names.Pointer ∷ [] }) bytes (with_bytes p x bytes) p
    (Nonrelocatable p x)
    (pointer-plain (with_bytes p x bytes) (s.names ++ names.Pointer ∷ []) p x
    (ap for_pointer (pushed s.names names.Pointer)) (sym (with-same p x bytes))) (flipped p) (λ k. refl)
    (ap for_handle (next-none s.names)) (with-other p x bytes) (λ k other n e. push-stands s.names names.Pointer k n e)
    (λ of none. omega (
      arith,
      more of none,
      unless-none (is_nonrelocatable p) of s.zone (none-pointer s bytes known p (ap for_pointer (next-none s.names))),
    )) known
  where
    p : ℕ
    p = length s.names

-- a disposed handle or pointer leaves the others
pub known-disposed : (s : State) (bytes : ℕ → List ℕ) → Known s bytes → (h : ℕ)
    → for_handle (slice_get s.names h) ≡ true → Known (calls.without h s) bytes
known-disposed s bytes known h is =
    handle-changed s (calls.without h s) bytes bytes h (Free 0) refl (λ k e. refl) (λ k. refl)
    (handle-only (slice_get s.names h) is) (λ k e. refl) (set-stands s.names h names.Disposed)
    (λ of none. omega (
      arith,
      none 0,
      tidied of none (freed (is_relocatable h) s.zone),
      freed-is of none
          (is_relocatable h) s.zone,
    )) known

pub known-disposed_pointer : (s : State) (bytes : ℕ → List ℕ) → Known s bytes → (p : ℕ)
    → for_pointer (slice_get s.names p) ≡ true
    → Known (record { zone = tidy (freed (is_nonrelocatable p) s.zone); names = slice_set s.names p names.Disposed }) bytes
known-disposed_pointer s bytes known p is =
    pointer-changed s (record { zone = tidy (freed (is_nonrelocatable p) s.zone); names = slice_set s.names p names.Disposed })
    bytes bytes p (Free 0) refl (λ k e. refl) (λ k. refl) (pointer-only (slice_get s.names p) is) (λ k e. refl)
    (set-stands s.names p names.Disposed)
    (λ of none. omega (arith, none 0, tidied of none (freed (is_nonrelocatable p) s.zone), freed-is of none (is_nonrelocatable p) s.zone))
    known

-- a handle's block, or none, in place of what it had: then its bytes are those of that
pub known-replaced : (s : State) (zone : List Block) (bytes : ℕ → List ℕ) → Known s bytes → (h : ℕ)
    → for_handle (slice_get s.names h) ≡ true → (bytes' : ℕ → List ℕ)
    → ((k : ℕ) → (k == h) ≡ false → bytes' k ≡ bytes k)
    → (flags : Flags) (new : Block) → new ≡ Relocatable h flags (bytes' h)
    → ((of : Block → ℕ) → SeesNoFree of → total of zone ≤ of new + total (unless (is_relocatable h) of) s.zone)
    → Known (record s { zone = zone }) bytes'
known-replaced s zone bytes known h is bytes' same flags new eq less =
    handle-changed s (record s { zone = zone }) bytes bytes' h (Relocatable h flags (bytes' h))
    (handle-plain bytes' s.names h flags (bytes' h) is refl) (flipped h) (λ k. refl)
    (handle-only (slice_get s.names h) is) same (λ k other n e. e)
    (λ of none. let l = less of none in omega (arith, ap of eq)) known

pub known-replaced_pointer : (s : State) (zone : List Block) (bytes : ℕ → List ℕ) → Known s bytes → (p : ℕ)
    → for_pointer (slice_get s.names p) ≡ true → (x : List ℕ) (new : Block) → new ≡ Nonrelocatable p x
    → ((of : Block → ℕ) → SeesNoFree of → total of zone ≤ of new + total (unless (is_nonrelocatable p) of) s.zone)
    → Known (record s { zone = zone }) (with_bytes p x bytes)
known-replaced_pointer s zone bytes known p is x new eq less =
    pointer-changed s (record s { zone = zone }) bytes (with_bytes p x bytes) p (Nonrelocatable p x)
    (pointer-plain (with_bytes p x bytes) s.names p x is (sym (with-same p x bytes))) (flipped p) (λ k. refl)
    (pointer-only (slice_get s.names p) is) (with-other p x bytes) (λ k other n e. e)
    (λ of none. let l = less of none in omega (arith, ap of eq)) known

-- bytes that were put into a block
pub known-put : (s : State) (bytes : ℕ → List ℕ) → Known s bytes → (h i : ℕ) (x : List ℕ) (at : Spot)
    → spot (is_relocatable h) s.zone ≡ Some at → (bytes' : ℕ → List ℕ)
    → ((k : ℕ) → (k == h) ≡ false → bytes' k ≡ bytes k) → written i x (bytes h) ≡ bytes' h
    → Known (record s { zone = at.below ++ with_content (written i x (content_of at.here)) at.here ∷ at.above }) bytes'
known-put s bytes known h i x at is bytes' same now =
    let here = known-at s bytes known h at is in
    let new : Block = with_content (written i x (content_of at.here)) at.here in
    known-replaced s (at.below ++ new ∷ at.above) bytes known h here.2 bytes' same here.0 new
    (ap (λ b. with_content (written i x (content_of b)) b) here.1 ∙ ap (λ y. Relocatable h here.0 y) now)
    (λ of none. swapped-le of none (is_relocatable h) (λ n. refl) s.zone at new is (known.once h))

pub known-put_pointer : (s : State) (bytes : ℕ → List ℕ) → Known s bytes → (p i : ℕ) (x : List ℕ) (at : Spot)
    → spot (is_nonrelocatable p) s.zone ≡ Some at
    → Known (record s { zone = at.below ++ with_content (written i x (content_of at.here)) at.here ∷ at.above })
    (with_bytes p (written i x (bytes p)) bytes)
known-put_pointer s bytes known p i x at is =
    let here = known-pointed s bytes known p at is in
    let new : Block = with_content (written i x (content_of at.here)) at.here in
    known-replaced_pointer s (at.below ++ new ∷ at.above) bytes known p here.1 (written i x (bytes p)) new
    (ap (λ b. with_content (written i x (content_of b)) b) here.0)
    (λ of none. swapped-le of none (is_nonrelocatable p) (λ n. refl) s.zone at new is (known.single p))

-- a block that grew or was cut
pub known-grown : (s : State) (bytes : ℕ → List ℕ) → Known s bytes → (h n : ℕ) (at : Spot) (zone : List Block)
    → spot (is_relocatable h) s.zone ≡ Some at → GivesWay (is_relocatable h) (resized n at.here) s.zone zone
    → Known (record s { zone = zone }) (with_bytes h (resized_content n (bytes h)) bytes)
known-grown s bytes known h n at zone is less =
    let here = known-at s bytes known h at is in
    known-replaced s zone bytes known h here.2 (with_bytes h (resized_content n (bytes h)) bytes)
    (with-other h (resized_content n (bytes h)) bytes) here.0 (resized n at.here)
    (ap (resized n) here.1 ∙ ap (λ y. Relocatable h here.0 y) (sym (with-same h (resized_content n (bytes h)) bytes)))
    less

pub known-grown_pointer : (s : State) (bytes : ℕ → List ℕ) → Known s bytes → (p n : ℕ) (at : Spot) (zone : List Block)
    → spot (is_nonrelocatable p) s.zone ≡ Some at → GivesWay (is_nonrelocatable p) (resized n at.here) s.zone zone
    → Known (record s { zone = zone }) (with_bytes p (resized_content n (bytes p)) bytes)
known-grown_pointer s bytes known p n at zone is less =
    let here = known-pointed s bytes known p at is in
    known-replaced_pointer s zone bytes known p here.1 (resized_content n (bytes p)) (resized n at.here)
    (ap (resized n) here.0) less

-- an empty handle leaves the others
pub known-emptied : (s : State) (bytes : ℕ → List ℕ) → Known s bytes → (h : ℕ)
    → Known (record s { zone = tidy (freed (is_relocatable h) s.zone) }) bytes
known-emptied s bytes known h =
    known-less s (tidy (freed (is_relocatable h) s.zone)) bytes
    (λ of none. let u = unless-le (is_relocatable h) of s.zone in
    omega (arith, tidied of none (freed (is_relocatable h) s.zone), freed-is of none (is_relocatable h) s.zone))
    known

-- a new block of a handle
pub known-renewed : (s : State) (bytes : ℕ → List ℕ) → Known s bytes → (h : ℕ) (x : List ℕ)
    → for_handle (slice_get s.names h) ≡ true → (zone : List Block)
    → GivesWay (is_relocatable h) (Relocatable h no_flags x) s.zone zone
    → Known (record s { zone = zone }) (with_bytes h x bytes)
known-renewed s bytes known h x is zone less =
    known-replaced s zone bytes known h is (with_bytes h x bytes) (with-other h x bytes) no_flags
    (Relocatable h no_flags x) (ap (λ y. Relocatable h no_flags y) (sym (with-same h x bytes))) less

-- a block with other flags
pub known-flagged : (change : Flags → Flags) (h : ℕ) (s : State) (bytes : ℕ → List ℕ) → Known s bytes → (at : Spot)
    → spot (is_relocatable h) s.zone ≡ Some at
    → Known (record s { zone = at.below ++ flagged change at.here ∷ at.above }) bytes
known-flagged change h s bytes known at found =
    let here = known-at s bytes known h at found in
    known-replaced s (at.below ++ flagged change at.here ∷ at.above) bytes known h here.2 bytes (λ j e. refl)
    (change here.0) (flagged change at.here) (ap (flagged change) here.1)
    (λ of none. swapped-le of none (is_relocatable h) (λ n. refl) s.zone at (flagged change at.here) found (known.once h))

pub known-flags : (change : Flags → Flags) (h : ℕ) (s : State) (bytes : ℕ → List ℕ) → Known s bytes
    → Known (change_flags change (Some h) s).1 bytes
known-flags change h s bytes known =
    by-effect (λ t. Known t bytes) (effects.Flagged (Some h) change) s known (known-flagged change h s bytes known)

-- a block moved to the top of its run
pub hoisted-le : (of : Block → ℕ) → SeesNoFree of → (h : ℕ) (zone : List Block)
    → total of (hoisted h zone) ≤ total of zone
hoisted-le of none h zone = cases (change_run (has (is_relocatable h)) (high (is_relocatable h)) zone)
    (λ z e. changed-le of none (has (is_relocatable h)) (high (is_relocatable h)) (high-le of none (is_relocatable h))
    zone z e)
  where
    cases : (o : Option (List Block)) → ((z : List Block) → o ≡ Some z → total of z ≤ total of zone)
        → total of (unwrap_or (option_map tidy o) zone) ≤ total of zone
    cases None less = omega arith
    cases (Some z) less = let l = less z refl in omega (arith, tidied of none z)

pub hoisted-all : (of : Block → ℕ) → SeesNoFree of → (h : ℕ) (zone : List Block)
    → total of zone ≤ total of (hoisted h zone)
hoisted-all of none h zone =
    cases (change_run (has (is_relocatable h)) (high (is_relocatable h)) zone)
    (λ z e. changed-all of none (has (is_relocatable h)) (high (is_relocatable h))
    (λ run one. let l = high-all of none (is_relocatable h) run one in omega arith) zone z e)
  where
    cases : (o : Option (List Block)) → ((z : List Block) → o ≡ Some z → total of zone ≤ total of z)
        → total of zone ≤ total of (unwrap_or (option_map tidy o) zone)
    cases None more = omega arith
    cases (Some z) more = let l = more z refl in omega (arith, tidied of none z)

pub known-hoisted : (h : ℕ) (s : State) (bytes : ℕ → List ℕ) → Known s bytes
    → Known (record s { zone = hoisted h s.zone }) bytes
known-hoisted h s bytes known = known-less s (hoisted h s.zone) bytes (λ of none. hoisted-le of none h s.zone) known

-- bytes written behind those that a block had
pub written-behind : (len : ℕ) (x old : List ℕ) → length old ≡ len
    → written len x (resized_content (len + length x) old) ≡ old ++ x
written-behind len x old is = ap (written len x) whole ∙ parts
  where
    filler : List ℕ
    filler = replicate (length x) 0

    whole : resized_content (len + length x) old ≡ old ++ filler
    whole =
        ap (λ (l : List ℕ). l ++ replicate (len + length x - length old) 0)
        (take_all (len + length x) old (omega (arith, is)))
        ∙ ap (λ (n : ℕ). old ++ replicate n 0) (let z : len + length x - length old ≡ length x = omega (arith, is) in z)

    parts : (take len (old ++ filler) ++ x) ++ drop (len + length x) (old ++ filler) ≡ old ++ x
    parts =
        ap (λ (l : List ℕ). (l ++ x) ++ drop (len + length x) (old ++ filler))
        (ap (λ (n : ℕ). take n (old ++ filler)) (sym is) ∙ take-append_seam old filler)
        ∙ ap (λ (l : List ℕ). (old ++ x) ++ l) (drop_all (len + length x) (old ++ filler)
        (omega (arith, is, length-append old filler, length-replicate {A = ℕ} (length x) 0)))
        ∙ append-nil (old ++ x)

-- where none is found none passes
pub none-spot : (test : Block → Bool) (bs : List Block) → spot test bs ≡ None → count test bs ≤ 0
none-spot test [] e = omega arith
none-spot test (b ∷ bs) e = cases (test b) (spot test bs) e (λ e. none-spot test bs e)
  where
    cases : (t : Bool) (o : Option Spot) → cond t (Some (let s : Spot = record { below = []; here = b; above = bs } in
        s)) (option_map (raised b) o) ≡ None → (o ≡ None → count test bs ≤ 0) → cond {A = ℕ} t 1 0 + count test bs ≤ 0
    cases true o e rest = absurd (none-some _ (sym e))
    cases false None e rest = let r = rest refl in omega arith
    cases false (Some s) e rest = absurd (none-some _ (sym e))

-- bytes that are written over all of a block
pub written-all : (x old : List ℕ) → written 0 x (resized_content (length x) old) ≡ x
written-all x old =
    ap (λ (l : List ℕ). x ++ l) (drop_all (0 + length x) (resized_content (length x) old)
    (omega (arith, length-resized (length x) old))) ∙ append-nil x

-- a block that got a size, with bytes written into it
pub known-filled : (s : State) (bytes : ℕ → List ℕ) (h n i : ℕ) (x last : List ℕ) → for_handle (slice_get s.names h) ≡ true
    → written i x (resized_content n (bytes h)) ≡ last → Known s (with_bytes h (resized_content n (bytes h)) bytes)
    → Known (record s { zone = unwrap_or (option_map (rewritten i x) (spot (is_relocatable h) s.zone)) s.zone })
    (with_bytes h last bytes)
known-filled s bytes h n i x last is so known = by_spot (spot (is_relocatable h) s.zone) refl
  where
    mid : ℕ → List ℕ
    mid = with_bytes h (resized_content n (bytes h)) bytes

    new : ℕ → List ℕ
    new = with_bytes h last bytes

    same : (k : ℕ) → (k == h) ≡ false → new k ≡ mid k
    same k e = with-other h last bytes k e ∙ sym (with-other h (resized_content n (bytes h)) bytes k e)

    by_spot : (o : Option Spot) → spot (is_relocatable h) s.zone ≡ o
        → Known (record s { zone = unwrap_or (option_map (rewritten i x) o) s.zone }) new
    by_spot None e =
        handle-changed s s mid new h (Free 0) refl (λ k e. refl) (λ k. refl) (handle-only (slice_get s.names h) is) same
        (λ k other n e. e)
        (λ of none. omega (
          arith,
          none 0,
          unless-none (is_relocatable h) of s.zone
              (none-spot (is_relocatable h) s.zone e),
        )) known
    by_spot (Some at) e =
        known-put s mid known h i x at e new same
        (ap (written i x) (with-same h (resized_content n (bytes h)) bytes) ∙ so ∙ sym (with-same h last bytes))
