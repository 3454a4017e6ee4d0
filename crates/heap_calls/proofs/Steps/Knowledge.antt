use Rattle.heap_calls.proofs.Cited.{◌≡◌, ℕ, ◌≤◌, zero, suc, Bool, true, false, ◌&&◌, List, [], ◌∷◌, refl, sym, ◌∙◌, ap, subst, cond, arith}
use Rattle.heap_calls.proofs.Cited.{Option, Some, length, slice_get, slice_set, bytes_eq, Flags, Block, Free, Nonrelocatable, Masters}
use Rattle.heap_calls.proofs.Cited.{Relocatable, is_relocatable, unless-none, count-none, total-le, State, Memory, Meaning, Role}
use Rattle.heap_calls.proofs.Cited.{Handle, nothing, new_filled, refill, refill_inside, has_block, Step, NewFilled, NewEmpty, Refill}
use Rattle.heap_calls.proofs.Cited.{Release, Cast, stepped, read_new, read_again, read_by, walk, reads, put_reads}
use Rattle.heap_calls.proofs.Cited.{Result, Ok, Err, OsErr, is_some, phys, Put, did, Sought, seek, if_fits, seek_slot, fits-refused}
use Rattle.heap_calls.proofs.Cited.{seek-refused, if-more, Told, Given, told_as, heap_after, is_unused, slotted_zone, new_empty}
use Rattle.mac_words.specs.Told.{Done}
use Rattle.heap_calls.specs.Rows.{changed}
use Rattle.heap_calls.proofs.Promises.Knowing.{Known, for_handle, for_pointer, strange, with_bytes, with-same}
use Rattle.heap_calls.proofs.Promises.Knowing.{with-other}
use Rattle.heap_calls.proofs.Promises.KnownChanges.{known-sparing, known-disposed, known-replaced}
use Rattle.heap_calls.proofs.Promises.LastPutLaws.{known-changed, known-given, known-slot, known-made}
use Rattle.heap_calls.proofs.Steps.Paths.{put_reads-then}
use Rattle.heap_calls.proofs.Steps.Ways.{refill-goes, released-goes, cast-goes}

-- What steps on a heap leave known of its blocks' bytes.

-- what is known once bytes were read into a new handle's block, or into that of an empty one
abbrev read_into : List ℕ → (ℕ → List ℕ) → Told → ℕ → List ℕ
read_into x bytes (Given h) = with_bytes h x bytes
read_into x bytes t = bytes

abbrev read_again_into : ℕ → List ℕ → (ℕ → List ℕ) → Told → ℕ → List ℕ
read_again_into h x bytes Done = with_bytes h x bytes
read_again_into h x bytes t = bytes

-- a new handle with its bytes
known-filled : (role : Role) (flags : Flags) (x : List ℕ) (s : State) (bytes : ℕ → List ℕ) → Known s bytes
    → Known (heap_after (new_filled role flags x s) s) (put_reads (read_new x (new_filled role flags x s).reply) bytes)
known-filled role flags x s bytes known = by_reply (new_filled role flags x s).reply
    (known-made s bytes known (read_into x bytes) (λ code. refl) role flags nothing
    (λ z. if_fits (length x) (seek (Put new) nothing z)) x
    (λ z. fits-refused nothing (length x) (seek (Put new) nothing z) (seek-refused nothing (Put new) z))
    (λ z of none. if-more of nothing none (is_some (phys (length x))) (Put new) (λ y. tt) z) refl)
  where
    new : Block
    new = Relocatable (length s.names) flags x

    by_reply : (r : Result ℕ OsErr)
        → Known (heap_after (new_filled role flags x s) s) (read_into x bytes (told_as {T = ℕ} Given r))
        → Known (heap_after (new_filled role flags x s) s) (put_reads (read_new x r) bytes)
    by_reply (Ok h) known = known
    by_reply (Err code) known = known

-- a new handle without a block
known-emptied : (role : Role) (s : State) (bytes : ℕ → List ℕ) → Known s bytes
    → Known (heap_after (new_empty role s) s) bytes
known-emptied role s bytes known =
    let ready = known-slot s bytes known (λ t. bytes) (λ code. refl) nothing in
    known-given s bytes known (λ t. bytes) (λ code. refl) nothing (Handle role) (seek_slot (is_unused s) nothing s.zone)
    (λ there. known-sparing (record s { zone = slotted_zone nothing s }) bytes ready (Handle role)) (λ none. ready)

-- a handle without a block gets one
known-refilled : (h : ℕ) (flags : Flags) (x : List ℕ) (s : State) (bytes : ℕ → List ℕ) → Known s bytes
    → has_block h s ≡ false
    → Known (heap_after (refill h flags x s) s) (put_reads (read_again h x (refill h flags x s).reply) bytes)
known-refilled h flags x s bytes known none =
    refill-goes (λ d. Known (heap_after d s) (put_reads (read_again h x d.reply) bytes)) h flags x s (λ code. known)
    (λ is. by_reply (changed nothing sought s).reply (known-changed s bytes known (read_again_into h x bytes)
    (λ code. refl) nothing sought
    (fits-refused nothing (length x) (seek (Put new) nothing s.zone) (seek-refused nothing (Put new) s.zone))
    (λ there. known-replaced s after bytes known h is (with_bytes h x bytes) (with-other h x bytes) flags new
    (ap (λ y. Relocatable h flags y) (sym (with-same h x bytes)))
    (λ of never. let l = if-more of nothing never (is_some (phys (length x))) (Put new) (λ y. tt) s.zone in
    let few = count-none (is_relocatable h) s.zone none in
    omega (arith, unless-none (is_relocatable h) of s.zone (omega arith))))))
  where
    new : Block
    new = Relocatable h flags x

    sought : Sought
    sought = if_fits (length x) (seek (Put new) nothing s.zone)

    after : List Block
    after = (did nothing sought.path s.zone).zone

    by_reply : (r : Result (Unit {0}) OsErr)
        → Known (record s { zone = after }) (read_again_into h x bytes (told_as {T = Unit {0}} (λ u. Done) r))
        → Known (record s { zone = after }) (put_reads (read_again h x r) bytes)
    by_reply (Ok u) known = known
    by_reply (Err code) known = known

-- a handle in another role is one, and all others are what they were
same-kind : (f : Option Meaning → Bool) → ((one other : Role) → f (Some (Handle one)) ≡ f (Some (Handle other)))
    → (ns : List Meaning) (h : ℕ) (role other : Role) → slice_get ns h ≡ Some (Handle role) → (k : ℕ)
    → f (slice_get (slice_set ns h (Handle other)) k) ≡ f (slice_get ns k)
same-kind f each [] h role other is k = refl
same-kind f each (n ∷ ns) zero role other is zero = each other role ∙ ap f (sym is)
same-kind f each (n ∷ ns) zero role other is (suc k) = refl
same-kind f each (n ∷ ns) (suc h) role other is zero = refl
same-kind f each (n ∷ ns) (suc h) role other is (suc k) = same-kind f each ns h role other is k

known-cast : (s : State) (bytes : ℕ → List ℕ) → Known s bytes → (h : ℕ) (role other : Role)
    → slice_get s.names h ≡ Some (Handle role)
    → Known (record s { names = slice_set s.names h (Handle other) }) bytes
known-cast s bytes known h role other is = record {
  blocks = let l = total-le (strange bytes ns) (strange bytes s.names) each s.zone in let k = known.blocks in
      omega arith;
  once = known.once;
  single = known.single;
}
  where
    ns : List Meaning
    ns = slice_set s.names h (Handle other)

    each : (b : Block) → strange bytes ns b ≤ strange bytes s.names b
    each (Free m) = omega arith
    each Masters = omega arith
    each (Nonrelocatable id content) =
        let z : strange bytes ns (Nonrelocatable id content) ≡ strange bytes s.names (Nonrelocatable id content) =
        ap {B = ℕ} (λ (t : Bool). cond (t && bytes_eq content (bytes id)) 0 1)
        (same-kind for_pointer (λ a b. refl) s.names h role other is id) in omega arith
    each (Relocatable id flags content) =
        let z : strange bytes ns (Relocatable id flags content) ≡ strange bytes s.names (Relocatable id flags content) =
        ap {B = ℕ} (λ (t : Bool). cond (t && bytes_eq content (bytes id)) 0 1)
        (same-kind for_handle (λ a b. refl) s.names h role other is id) in omega arith

-- one step
pub step-known : (step : Step) (m : Memory) (bytes : ℕ → List ℕ) → Known m.heap bytes
    → Known (stepped step m).heap (put_reads (read_by step m) bytes)
step-known (NewFilled role flags x) m bytes known = known-filled role flags x m.heap bytes known
step-known (NewEmpty role) m bytes known = known-emptied role m.heap bytes known
step-known (Refill h flags x) m bytes known = by_block (has_block h m.heap) refl
  where
    by_block : (t : Bool) → has_block h m.heap ≡ t → Known (cond t m (refill_inside h flags x m).1).heap
        (put_reads (cond t [] (read_again h x (refill_inside h flags x m).0)) bytes)
    by_block true e = known
    by_block false e = known-refilled h flags x m.heap bytes known e
step-known (Release h) m bytes known =
    released-goes (λ s. Known s bytes) h m.heap known (λ is. known-disposed m.heap bytes known h is)
step-known (Cast change h) m bytes known =
    cast-goes (λ s. Known s bytes) change h m.heap known
    (λ role is. known-cast m.heap bytes known h role (change role) is)

-- a path
pub steps-known : (steps : List Step) (m : Memory) (bytes : ℕ → List ℕ) → Known m.heap bytes
    → Known (walk steps m).heap (put_reads (reads steps m) bytes)
steps-known [] m bytes known = known
steps-known (step ∷ steps) m bytes known =
    subst (Known (walk steps (stepped step m)).heap)
    (sym (put_reads-then (read_by step m) (reads steps (stepped step m)) bytes))
    (steps-known steps (stepped step m) (put_reads (read_by step m) bytes) (step-known step m bytes known))
