use Rattle.res_calls.proofs.Cited.{◌≡◌, Option, Some, None, refl, ap, option_map, option_and_then, Reference, Found}

-- What is lent of a reference of the application's own fork.

-- what is stored, and the handle, of the reference that is lent
pub no_datum : (found : Option Found) → None ≡ option_map (λ (f : Found). f.reference.here) found
    → None ≡ option_map (λ (f : Found). f.reference.here.stored.datum) found
no_datum None e = refl
no_datum (Some f) e = cc

pub datum_lent : (x : Reference) (found : Option Found)
    → Some x ≡ option_map (λ (f : Found). f.reference.here) found
    → Some x.stored.datum ≡ option_map (λ (f : Found). f.reference.here.stored.datum) found
datum_lent x None e = cc
datum_lent x (Some f) e = let same : x ≡ f.reference.here = cc in ap (λ (r : Reference). Some r.stored.datum) same

pub no_handle : (found : Option Found) → None ≡ option_map (λ (f : Found). f.reference.here) found
    → None ≡ option_and_then (λ (f : Found). f.reference.here.handle) found
no_handle None e = refl
no_handle (Some f) e = cc

pub handle_lent : (x : Reference) (found : Option Found)
    → Some x ≡ option_map (λ (f : Found). f.reference.here) found
    → x.handle ≡ option_and_then (λ (f : Found). f.reference.here.handle) found
handle_lent x None e = cc
handle_lent x (Some f) e = let same : x ≡ f.reference.here = cc in ap (λ (r : Reference). r.handle) same
