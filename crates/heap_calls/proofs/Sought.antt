use Rattle.heap_calls.proofs.Cited.{◌≡◌, ℕ, ℤ, Option, List, Result, Ok, Err, ap, sym, ◌∙◌, OsErr, content_of, Memory, Held, look_up}
use Rattle.heap_calls.proofs.Cited.{for_found, show, silent, munger_nil, place_in, Target}

-- Where Munger finds bytes, by the bytes of the block.

pub place_told : (handle : Option ℕ) (i : ℕ) (old : Target) (m : Memory) (x : List ℕ) (r : Result ℤ OsErr)
    → silent (show handle) m ≡ (Ok x, m) → r ≡ place_in old i x → silent (munger_nil handle i old) m ≡ (r, m)
place_told handle i old m x r is so = cases (look_up handle m.heap) is
  where
    cases : (f : Result Held OsErr)
        → silent {T = List ℕ} (λ s. for_found f s (λ held. (Ok (content_of held.at.here), s))) m ≡ (Ok x, m)
        → silent {T = ℤ} (λ s. for_found f s (λ held. (place_in old i (content_of held.at.here), s))) m ≡ (r, m)
    cases (Err why) e =
        let never : (let y : Result (List ℕ) OsErr = Err why in y) ≡ Ok x =
        ap (λ (y : Result (List ℕ) OsErr × Memory). y.0) e in cc
    cases (Ok held) e =
        let told : (let y : Result (List ℕ) OsErr = Ok (content_of held.at.here) in y) ≡ Ok x =
        ap (λ (y : Result (List ℕ) OsErr × Memory). y.0) e in
        let same : content_of held.at.here ≡ x = cc in
        ap (λ (l : List ℕ). (let y : Result ℤ OsErr × Memory = (place_in old i l, m) in y)) same
        ∙ ap (λ (q : Result ℤ OsErr). (let y : Result ℤ OsErr × Memory = (q, m) in y)) (sym so)

pub place_refused : (handle : Option ℕ) (i : ℕ) (old : Target) (m : Memory) (code : OsErr)
    → silent (show handle) m ≡ (Err code, m) → silent (munger_nil handle i old) m ≡ (Err code, m)
place_refused handle i old m code is = cases (look_up handle m.heap) is
  where
    cases : (f : Result Held OsErr)
        → silent {T = List ℕ} (λ s. for_found f s (λ held. (Ok (content_of held.at.here), s))) m ≡ (Err code, m)
        → silent {T = ℤ} (λ s. for_found f s (λ held. (place_in old i (content_of held.at.here), s))) m ≡ (Err code, m)
    cases (Err why) e =
        let same : (let y : Result (List ℕ) OsErr = Err why in y) ≡ Err code =
        ap (λ (y : Result (List ℕ) OsErr × Memory). y.0) e in
        let it : why ≡ code = cc in
        ap (λ (c : OsErr). (let y : Result ℤ OsErr × Memory = (Err c, m) in y)) it
    cases (Ok held) e =
        let never : (let y : Result (List ℕ) OsErr = Ok (content_of held.at.here) in y) ≡ Err code =
        ap (λ (y : Result (List ℕ) OsErr × Memory). y.0) e in cc
