use Rattle.heap_calls.proofs.Cited.{◌≡◌, ◌≤◌, ap, vec_capacity, le_prop, Inside}

-- A heap that was only looked at is what it was: that its reserved numbers have room has one proof.

pub fits-same : {S : Type 0} {g : _} (a : Inside S g) (fits : a.log.reserved ≤ vec_capacity a.names)
    → (let seen : Inside S g = record { store = a.store; names = a.names; log = a.log; fits = fits } in seen) ≡ a
fits-same {S} {g} a fits =
    ap (λ (h : a.log.reserved ≤ vec_capacity a.names).
    let seen : Inside S g = record { store = a.store; names = a.names; log = a.log; fits = h } in seen)
    (le_prop fits a.fits)
