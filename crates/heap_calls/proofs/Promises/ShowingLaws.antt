use Rattle.heap_calls.proofs.Cited.{◌≡◌, ℕ, refl, sym, ◌∙◌, ap, List, Some, Result, Ok, Err, inl, inr, OsErr, is_relocatable}
use Rattle.heap_calls.proofs.Cited.{is_nonrelocatable, content_of, spot, Memory, Held, look_up, for_found, pointed_at, Bytes, Asked}
use Rattle.heap_calls.proofs.Cited.{told_as, answered, Shows}
use Rattle.heap_calls.proofs.Promises.Knowing.{Known, look_up-spot, pointed_at-spot, known-at, known-pointed}

-- A call that shows bytes shows those that are known of its handle or pointer.

pub shows-known : (a : Asked) (m : Memory) (bytes : ℕ → List ℕ) → Known m.heap bytes → Shows a (answered a m).0 bytes
shows-known a m bytes known h shown (inl is) tells = cases (look_up (Some h) m.heap) (look_up-spot h m.heap)
    (ap (λ (x : Asked). (answered x m).0) (sym is) ∙ tells)
  where
    cases : (r : Result Held OsErr) → ((k : Held) → r ≡ Ok k → (spot (is_relocatable h) m.heap.zone ≡ Some k.at)
        × (k.number ≡ h))
        → told_as {T = List ℕ} Bytes (for_found {T = List ℕ} r m.heap
        (λ (k : Held). (Ok (content_of k.at.here), m.heap))).0 ≡ Bytes shown → shown ≡ bytes h
    cases (Err code) found t = cc
    cases (Ok k) found t = let same : content_of k.at.here ≡ shown = cc in
        sym same ∙ ap content_of (known-at m.heap bytes known h k.at (found k refl).0).1
shows-known a m bytes known h shown (inr is) tells = cases (pointed_at (Some h) m.heap) (pointed_at-spot h m.heap)
    (ap (λ (x : Asked). (answered x m).0) (sym is) ∙ tells)
  where
    cases : (r : Result Held OsErr) → ((k : Held) → r ≡ Ok k → (spot (is_nonrelocatable h) m.heap.zone ≡ Some k.at)
        × (k.number ≡ h))
        → told_as {T = List ℕ} Bytes (for_found {T = List ℕ} r m.heap
        (λ (k : Held). (Ok (content_of k.at.here), m.heap))).0 ≡ Bytes shown → shown ≡ bytes h
    cases (Err code) found t = cc
    cases (Ok k) found t = let same : content_of k.at.here ≡ shown = cc in
        sym same ∙ ap content_of (known-pointed m.heap bytes known h k.at (found k refl).0).0
