use Rattle.heap_calls.proofs.Cited.{◌≡◌, ◌+◌, Bool, true, false, length, Result, Ok, Err, refl, cond, OsErr, sizes, content_of, State}
use Rattle.heap_calls.proofs.Cited.{Memory, Answer, look_up, handle_at, for_found, on_block, place_in, pointed_at, block_named, is_resource}
use Rattle.heap_calls.proofs.Cited.{block_bits, Asked, answered}
use Rattle.heap_calls.specs.Table as asked

-- The calls that only look at the heap.

abbrev pub reads : Asked → Bool
reads (asked.GetHandleSize handle) = true
reads (asked.HGetState handle) = true
reads (asked.GetPtrSize pointer) = true
reads (asked.HandleZone handle) = true
reads (asked.PtrZone pointer) = true
reads (asked.RecoverHandle place) = true
reads (asked.MungerNil handle i old) = true
reads asked.FreeMem = true
reads asked.MaxBlock = true
reads asked.PurgeSpace = true
reads asked.MemError = true
reads (asked.Show handle) = true
reads (asked.ShowPtr pointer) = true
reads (asked.Where name) = true
reads a = false

-- what was found changes nothing
found-same : {A T : Type 0} (r : Result A OsErr) (s : State) (answer : A → Answer T) → ((k : A) → (answer k).1 ≡ s)
    → (for_found r s answer).1 ≡ s
found-same (Err code) s answer same = refl
found-same (Ok k) s answer same = same k

pub reads-same : (a : Asked) → reads a ≡ true → (m : Memory) → (answered a m).1.heap ≡ m.heap
reads-same (asked.GetHandleSize handle) e m = found-same (look_up handle m.heap) m.heap
    (λ held. (Ok (length (content_of held.at.here)), m.heap)) (λ held. refl)
reads-same (asked.HGetState handle) e m =
    found-same (handle_at handle m.heap) m.heap (λ k. on_block handle m.heap
    (λ held. (Ok (block_bits held.at.here + cond (is_resource k.role) 32 0), m.heap)))
    (λ k. found-same (look_up handle m.heap) m.heap
    (λ held. (Ok (block_bits held.at.here + cond (is_resource k.role) 32 0), m.heap)) (λ held. refl))
reads-same (asked.GetPtrSize pointer) e m = found-same (pointed_at pointer m.heap) m.heap
    (λ held. (Ok (length (content_of held.at.here)), m.heap)) (λ held. refl)
reads-same (asked.HandleZone handle) e m = found-same (handle_at handle m.heap) m.heap (λ k. (Ok 0, m.heap)) (λ k. refl)
reads-same (asked.PtrZone pointer) e m = found-same (pointed_at pointer m.heap) m.heap (λ held. (Ok 0, m.heap)) (λ held. refl)
reads-same (asked.RecoverHandle place) e m = refl
reads-same (asked.MungerNil handle i old) e m = found-same (look_up handle m.heap) m.heap
    (λ held. (place_in old i (content_of held.at.here), m.heap)) (λ held. refl)
reads-same asked.FreeMem e m = refl
reads-same asked.MaxBlock e m = refl
reads-same asked.PurgeSpace e m = refl
reads-same asked.MemError e m = refl
reads-same (asked.Show handle) e m = found-same (look_up handle m.heap) m.heap
    (λ held. (Ok (content_of held.at.here), m.heap)) (λ held. refl)
reads-same (asked.ShowPtr pointer) e m = found-same (pointed_at pointer m.heap) m.heap
    (λ held. (Ok (content_of held.at.here), m.heap)) (λ held. refl)
reads-same (asked.Where name) e m = found-same (block_named name m.heap) m.heap
    (λ held. (Ok (sizes held.at.below + 16), m.heap)) (λ held. refl)
reads-same a e m = let f : false ≡ true = e in cc
