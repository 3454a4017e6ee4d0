use Rattle.heap_calls.proofs.Cited.{◌≡◌, ◌≤◌, ℕ, Bool, true, false, List, [], length, ap, arith, cond, None, Ok, Flags, Relocatable, Put}
use Rattle.heap_calls.proofs.Cited.{seek, if_fits, seek_slot, then_seek, State, Memory, Role, nothing, is_unused, reply_of, new_filled}
use Rattle.heap_calls.proofs.Cited.{new_empty, refill_inside, has_block, Refill, stepped, refusal, refusal_of, read_by, read_again}

-- The numbers of handles that steps on a heap make.

-- a new handle has the next number
next-number : (found : Bool) (n k : ℕ) → reply_of found n ≡ Ok k → n ≤ k
next-number true n k e = let same : n ≡ k = cc in omega (arith, same)
next-number false n k e = cc

pub filled-number : (role : Role) (flags : Flags) (x : List ℕ) (s : State) (k : ℕ)
    → (new_filled role flags x s).reply ≡ Ok k → length s.names ≤ k
filled-number role flags x s k = next-number (then_seek nothing s.zone (seek_slot (is_unused s) nothing s.zone)
    (λ z. if_fits (length x) (seek (Put (Relocatable (length s.names) flags x)) nothing z))).found (length s.names) k

pub emptied-number : (role : Role) (s : State) (k : ℕ) → (new_empty role s).reply ≡ Ok k → length s.names ≤ k
emptied-number role s k = next-number (seek_slot (is_unused s) nothing s.zone).found (length s.names) k

-- the step that fills an empty handle
pub refilled-is : (h : ℕ) (flags : Flags) (bytes : List ℕ) (m : Memory) → has_block h m.heap ≡ false
    → stepped (Refill h flags bytes) m ≡ (refill_inside h flags bytes m).1
refilled-is h flags bytes m none = ap (λ (t : Bool). cond t m (refill_inside h flags bytes m).1) none

pub refilled-read : (h : ℕ) (flags : Flags) (bytes : List ℕ) (m : Memory) → has_block h m.heap ≡ false
    → read_by (Refill h flags bytes) m ≡ read_again h bytes (refill_inside h flags bytes m).0
refilled-read h flags bytes m none =
    ap (λ (t : Bool). cond t [] (read_again h bytes (refill_inside h flags bytes m).0)) none

pub refilled-refusal : (h : ℕ) (flags : Flags) (bytes : List ℕ) (m : Memory) → has_block h m.heap ≡ false
    → refusal (Refill h flags bytes) m ≡ refusal_of (refill_inside h flags bytes m).0
refilled-refusal h flags bytes m none =
    ap (λ (t : Bool). cond t None (refusal_of (refill_inside h flags bytes m).0)) none
