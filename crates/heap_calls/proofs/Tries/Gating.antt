use Rattle.heap_calls.proofs.Cited.{◌≡◌, ℕ, ◌+◌, ◌≤◌, ◌<◌, ◌^◌, Bool, true, false, List, length, refl, sym, ◌∙◌, subst, cond, Option, Some}
use Rattle.heap_calls.proofs.Cited.{None, OsErr, count, is_relocatable, is_masters, has, counted, Memory, Told, Refused, Asked, answered}
use Rattle.heap_calls.proofs.Cited.{keep_code, gate, gated, notes, served, put_by, OneBlockEach, takes_block, has_purgeable, RefusedLeaves}
use Rattle.heap_calls.proofs.Cited.{code_left, zone_behind, Shows}
use Rattle.heap_calls.specs.Table as asked
use Rattle.heap_calls.proofs.Promises.Knowing.{Known}
use Rattle.heap_calls.proofs.Promises.LastPutLaws.{step-known}
use Rattle.heap_calls.proofs.Promises.ShowingLaws.{shows-known}
use Rattle.heap_calls.proofs.Promises.EmptyingLaws.{only-purgeable-go}
use Rattle.heap_calls.proofs.Promises.FewSearches.{searches_few, unsearched}
use Rattle.heap_calls.proofs.Promises.RefusedCalls.{refused_leaves}
use Rattle.heap_calls.proofs.Gates.Served.{served-gated}
use Rattle.heap_calls.proofs.Tries.Counting.{counts_searches, counts_moves}

-- What holds of each call's row holds of each try behind the gate of busy names.

-- what holds of a call's row, and of a refusal that changes nothing but the code, holds of a try
pub served-holds : (P : Told → Memory → Type 0) (a : Asked) (m : Memory) → P (answered a m).0 (answered a m).1
    → ((why kept : OsErr) → P (Refused why) (keep_code kept m)) → P (served a m).0 (served a m).1
served-holds P a m row refusal =
    let Q : Told × Memory → Type 0 = λ answer. P answer.0 answer.1 in
    subst Q (sym (served-gated a m)) (by_gate (gate a m))
  where
    by_notes : (why : OsErr) (t : Bool) → P (Refused why) (cond t (keep_code why m) m)
    by_notes why true = refusal why why
    by_notes why false = refusal why m.log.code

    by_gate : (o : Option OsErr) → P (gated o a m).0 (gated o a m).1
    by_gate None = row
    by_gate (Some why) = by_notes why (notes a)

-- a refused call puts no bytes
pub put-refused : (a : Asked) (why : OsErr) (bytes : ℕ → List ℕ) → put_by a (Refused why) bytes ≡ bytes
put-refused (asked.SetHandleSize (Some h) n) why bytes = refl
put-refused (asked.ReallocateHandle (Some h) n) why bytes = refl
put-refused (asked.HandToHand (Some h)) why bytes = refl
put-refused (asked.HandAndHand (Some h) (Some k)) why bytes = refl
put-refused (asked.PtrAndHand (Some h) x) why bytes = refl
put-refused (asked.PtrToXHand (Some h) x) why bytes = refl
put-refused (asked.Munger (Some h) i old x) why bytes = refl
put-refused (asked.BlockMove (Some a) i (Some b) j n) why bytes = refl
put-refused (asked.SetPtrSize (Some p) n) why bytes = refl
put-refused (asked.Put (Some h) from x) why bytes = refl
put-refused (asked.PutPtr (Some p) from x) why bytes = refl
put-refused a why bytes = refl

-- what is known of each block's bytes stays known, with the bytes that the try put
pub served-known : (a : Asked) (m : Memory) (bytes : ℕ → List ℕ) → Known m.heap bytes
    → Known (served a m).1.heap (put_by a (served a m).0 bytes)
served-known a m bytes known =
    served-holds (λ t n. Known n.heap (put_by a t bytes)) a m (step-known a m bytes known)
    (λ why kept. subst (λ (b : ℕ → List ℕ). Known m.heap b) (sym (put-refused a why bytes)) known)

-- bytes that a try shows are those
pub served-shows : (a : Asked) (m : Memory) (bytes : ℕ → List ℕ) → Known m.heap bytes → Shows a (served a m).0 bytes
served-shows a m bytes known =
    served-holds (λ t n. Shows a t bytes) a m (shows-known a m bytes known) (λ why kept h shown is tells. cc)

-- a handle's block that goes might be purged, unless the call let it go
pub served-purgeable : (a : Asked) (m : Memory) → OneBlockEach m.heap.zone → (h : ℕ) → takes_block h a ≡ false
    → has (is_relocatable h) m.heap.zone ≡ true → has (is_relocatable h) (served a m).1.heap.zone ≡ false
    → has_purgeable h m.heap.zone ≡ true
served-purgeable a m once h keeps before =
    served-holds (λ t n. has (is_relocatable h) n.heap.zone ≡ false → has_purgeable h m.heap.zone ≡ true) a m
    (only-purgeable-go a m once h keeps before)
    (λ why kept after. let f : true ≡ false = sym before ∙ after in cc)

-- a try searches for room at most once more than there are blocks
pub served_searches : (a : Asked) (m : Memory) → 0 < count is_masters m.heap.zone → m.log.searches < 2 ^ 64
    → (n : ℕ) × (n ≤ length m.heap.zone + 1) × ((served a m).1.log.searches ≡ counted m.log.searches n)
served_searches a m masters fits =
    served-holds
    (λ t n. (k : ℕ) × (k ≤ length m.heap.zone + 1) × (n.log.searches ≡ counted m.log.searches k)) a m
    (searches_few a m masters fits) (λ why kept. unsearched m.heap.zone m.log.searches fits)

-- a try leaves which names are busy
pub served-busy : (a : Asked) (m : Memory) → (served a m).1.log.busy ≡ m.log.busy
served-busy a m = served-holds (λ t n. n.log.busy ≡ m.log.busy) a m (row a) (λ why kept. refl)
  where
    row : (a : Asked) → (answered a m).1.log.busy ≡ m.log.busy
    row asked.MemError = refl
    row a = refl

-- a refused try leaves the heap, but for the zone that the call's row leaves
refused-left : (a : Asked) (m : Memory) (code : OsErr) → (served a m).0 ≡ Refused code
    → ((served a m).1.heap ≡ record m.heap { zone = zone_behind (gate a m) a m.heap })
    × ((served a m).1.log.code ≡ code_left a code m.log.code) × ((served a m).1.window ≡ m.window)
refused-left a m =
    let Q : Told × Memory → Type 0 = λ answer. (code : OsErr) → answer.0 ≡ Refused code
    → (answer.1.heap ≡ record m.heap { zone = zone_behind (gate a m) a m.heap })
    × (answer.1.log.code ≡ code_left a code m.log.code) × (answer.1.window ≡ m.window) in
    subst Q (sym (served-gated a m)) (by_gate (gate a m))
  where
    by_notes : (code : OsErr) (t : Bool)
        → ((cond t (keep_code code m) m).heap ≡ m.heap)
        × ((cond t (keep_code code m) m).log.code ≡ cond t code m.log.code)
        × ((cond t (keep_code code m) m).window ≡ m.window)
    by_notes code true = (refl, refl, refl)
    by_notes code false = (refl, refl, refl)

    by_gate : (o : Option OsErr) → (code : OsErr) → (gated o a m).0 ≡ Refused code
        → ((gated o a m).1.heap ≡ record m.heap { zone = zone_behind o a m.heap })
        × ((gated o a m).1.log.code ≡ code_left a code m.log.code)
        × ((gated o a m).1.window ≡ m.window)
    by_gate None code tells = refused_leaves a m code tells
    by_gate (Some why) code tells = let same : why ≡ code = cc in
        let n : Memory = cond (notes a) (keep_code why m) m in
        subst (λ (c : OsErr). (n.heap ≡ m.heap) × (n.log.code ≡ cond (notes a) c m.log.code) × (n.window ≡ m.window))
        same (by_notes why (notes a))

-- and which names are busy, and counts its searches and moves
pub served-refused : (a : Asked) (m : Memory) → RefusedLeaves a m
served-refused a m code tells =
    let left = refused-left a m code tells in
    (left.0, left.1, left.2, served-busy a m, counts_searches a m, counts_moves a m)
