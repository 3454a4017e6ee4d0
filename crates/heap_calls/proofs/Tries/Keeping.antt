use Rattle.heap_calls.proofs.Cited.{◌≡◌, ◌≤◌, Bool, true, false, List, refl, sym, ap, arith, Option, Some, None, Result, Ok, Err, phys}
use Rattle.heap_calls.proofs.Cited.{OsErr, Block, Masters, sizes, count, is_relocatable, is_masters, purged-le, State, Memory, Held}
use Rattle.heap_calls.proofs.Cited.{nothing, look_up, blocks_purged, Asked, answered, gate, served, OneBlockEach, zone_behind, slotted_zone}
use Rattle.heap_calls.proofs.Cited.{copying_zone, zone_left, staying_of, staying, LessStaysLater, RefusedKeepsNoMore, KeepsBytes}
use Rattle.heap_calls.proofs.Cited.{KeepsMasters, Base, did, seek_slot, seek-more, is_unused}
use Rattle.heap_calls.specs.Table as asked
use Rattle.heap_calls.proofs.Promises.AlikeCalls.{LeavesBy, never, steady-never, alike-answered}
use Rattle.heap_calls.proofs.Promises.EmptyingLaws.{masters, of-answered, masters-goes, masters-sized, masters-filled}
use Rattle.heap_calls.proofs.Promises.EmptyingLaws.{masters-renewed, masters-spared}
use Rattle.heap_calls.proofs.Rows.Effects as effects
use Rattle.heap_calls.proofs.Rows.Effects.{Effect, effect_of}
use Rattle.heap_calls.proofs.Tries.Gating.{served-holds, served-refused}
use Rattle.heap_calls.proofs.Tries.Parting.{no-free, less_stays}

-- What no try of a call changes: a zone's bytes, its master pointers, and, where it is refused, what stays.

-- a slot that is made leaves what stays
pub slotted-le : (spared : Block → Bool) (s : State) → staying (slotted_zone spared s) ≤ staying s.zone
slotted-le spared s = cases (is_unused s)
  where
    cases : (t : Bool) → staying (did spared (seek_slot t spared s.zone).path s.zone).zone ≤ staying s.zone
    cases true = omega arith
    cases false = let l = seek-more staying_of spared no-free (Base Masters) (λ z. tt) s.zone in omega arith

copying-le : (r : Result Held OsErr) (s : State) → staying (copying_zone r s) ≤ staying s.zone
copying-le (Err code) s = omega arith
copying-le (Ok held) s = slotted-le (is_relocatable held.number) s

left-le : (a : Asked) (s : State) → staying (zone_left a s) ≤ staying s.zone
left-le (asked.NewHandle x) s = slotted-le nothing s
left-le (asked.HandToHand handle) s = copying-le (look_up handle s) s
left-le (asked.PurgeMem n) s = purged-le staying_of no-free (blocks_purged (phys n) s.zone) nothing s.zone
left-le a s = omega arith

behind-le : (o : Option OsErr) (a : Asked) (s : State) → staying (zone_behind o a s) ≤ staying s.zone
behind-le None a s = left-le a s
behind-le (Some code) a s = omega arith

-- a try that is refused leaves no more that stays
pub served_no_more : (a : Asked) (m : Memory) → RefusedKeepsNoMore a m
served_no_more a m code tells =
    let left = behind-le (gate a m) a m.heap in
    let z : staying (served a m).1.heap.zone ≡ staying (zone_behind (gate a m) a m.heap) =
    ap (λ (s : State). staying s.zone) (served-refused a m code tells).0 in
    omega arith

-- and where more can be had later, less stays than before
pub served_less_later : (a : Asked) (m : Memory) → LessStaysLater a m
served_less_later a m code tells later same few rose =
    let kept = served_no_more a m code tells in
    let less = less_stays (served a m).1.heap.zone later same few rose in
    omega arith

leaves-never : (zone : List Block) (e : Effect) → LeavesBy never zone e
leaves-never zone (effects.Disposed (Some k)) = λ b is. refl
leaves-never zone (effects.DisposedPointer (Some p)) = λ b is. refl
leaves-never zone (effects.Flagged (Some k) change) = λ at found. refl
leaves-never zone e = tt

-- no call changes how many bytes a zone has
pub sizes-answered : (a : Asked) (m : Memory) → OneBlockEach m.heap.zone
    → sizes (answered a m).1.heap.zone ≡ sizes m.heap.zone
sizes-answered a m once =
    sym (alike-answered never steady-never a m once (λ k loose b is. refl) (λ x. refl)
    (leaves-never m.heap.zone (effect_of a))).0

-- or lets a block of master pointers go
pub masters-answered : (a : Asked) (m : Memory) → OneBlockEach m.heap.zone
    → count is_masters m.heap.zone ≤ count is_masters (answered a m).1.heap.zone
masters-answered a m once =
    of-answered masters (λ n. refl) masters-goes masters-sized masters-filled a m once (masters-renewed a)
    (λ quiet. masters-spared (effect_of a))

-- and so through each try
pub served_bytes : (a : Asked) (m : Memory) → KeepsBytes a m
served_bytes a m once =
    served-holds (λ t n. sizes n.heap.zone ≡ sizes m.heap.zone) a m (sizes-answered a m once) (λ why kept. refl)

pub served_masters_no_fewer : (a : Asked) (m : Memory) → KeepsMasters a m
served_masters_no_fewer a m once =
    served-holds (λ t n. count is_masters m.heap.zone ≤ count is_masters n.heap.zone) a m (masters-answered a m once)
    (λ why kept. omega arith)
