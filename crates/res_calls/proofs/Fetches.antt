use Rattle.res_calls.proofs.Cited.{◌≡◌, ℕ, Bool, true, false, cond, List, Option, Some, None, Result, Ok, Err, refl, sym, ◌∙◌, ap, subst}
use Rattle.res_calls.proofs.Cited.{option_map, OsErr, Memory, IsAnswer, Refusal, Code, HostMemory}
use Rattle.res_calls.proofs.Cited.{Reference, with_handle, OpenFile, Resources, Found, with_reference, Managers, Answer}
use Rattle.res_calls.proofs.Cited.{fetch_new, fetch_again, now_filled, now_empty, IsFetched, IsUnread, managers}
use Rattle.res_calls.proofs.Cited.{◌==◌, same_Some, made_for, found_from, last_fetched, noting, fetched_as, NO_ERR, code_of, Spot, Unread}
use Rattle.res_calls.specs.Fetch as fetch
use Rattle.res_calls.specs.Rows as rows
use Rattle.res_calls.specs.declared.fetched.Fetched.{Fetched}

-- What a fetch comes to.

-- a fetched handle, and a refusal, as they are given back
abbrev pub given : ℕ → Bool → Result Fetched Unread
given h read = Ok (record { handle = h; read = read })

abbrev pub refused_with : Refusal → Option ℕ → Result Fetched Unread
refused_with refusal reading = Err (record { refusal = refusal; reading = reading })

-- the resources with these open files
abbrev pub filed : List OpenFile → Resources → Resources
filed chain r = record r { chain = chain }

-- with a handle, or without one
pub fetch_none : (loading : Bool) (f : Found) (s : Managers) (result : Result Fetched Unread) (after : Managers)
    → f.reference.here.handle ≡ None → IsFetched (fetch_new loading f s) result after
    → IsFetched (fetch.fetch loading f s) result after
fetch_none loading f s result after none e =
    subst (λ (o : Option ℕ). IsFetched (fetch.fetch_as loading f o s) result after) (sym none) e

pub fetch_some : (loading : Bool) (f : Found) (s : Managers) (result : Result Fetched Unread) (after : Managers) (h : ℕ)
    → f.reference.here.handle ≡ Some h → IsFetched (fetch_again loading f h s) result after
    → IsFetched (fetch.fetch loading f s) result after
fetch_some loading f s result after h some e =
    subst (λ (o : Option ℕ). IsFetched (fetch.fetch_as loading f o s) result after) (sym some) e

-- a fetch whose code is noted
refused_noted : (call : Managers → Answer fetch.Fetched) (s : Managers) (refusal : Refusal) (reading : Option ℕ)
    (r : Resources) (m : Memory) → IsUnread (call s) refusal reading (managers r m)
    → IsUnread (noting call s) refusal reading
    (managers (record r { error = last_fetched (refused_with refusal reading) r.error }) m)
refused_noted call s HostMemory reading r m e = tt
refused_noted call s (Code code) reading r m e = (
  e.0,
  e.1,
  ap (λ (c : OsErr). rows.keep_error c (call s).after) (ap code_of e.0)
      ∙ ap (λ (t : Managers). rows.keep_error code t) e.2,
)

pub fetch_noted : (call : Managers → Answer fetch.Fetched) (s : Managers) (result : Result Fetched Unread)
    (r : Resources)
    (m : Memory) → IsFetched (call s) result (managers r m)
    → IsFetched (noting call s) result (managers (record r { error = last_fetched result r.error }) m)
fetch_noted call s (Ok f) r m e = (
  e.0,
  ap (λ (c : OsErr). rows.keep_error c (call s).after) (ap code_of e.0)
      ∙ ap (λ (t : Managers). rows.keep_error NO_ERR t) e.1,
)
fetch_noted call s (Err u) r m e = refused_noted call s u.refusal u.reading r m e

-- what was found, seen by one of its parts, and the reference
pub of_found : {A : Type 0} (part : Found → A) (o : Option Found) (f : Found) (a : A) → o ≡ Some f
    → option_map part o ≡ Some a → part f ≡ a
of_found part o f a e p = same_Some _ _ (sym (ap (option_map part) e) ∙ p)

pub here_of : (o : Option Found) (f : Found) (x : Reference) → o ≡ Some f
    → option_map (λ (f : Found). f.reference.here) o ≡ Some x → f.reference.here ≡ x
here_of = of_found (λ f. f.reference.here)

-- a fetch by what was made of its new handle
module _ (loading : Bool) (f : Found) (s : Managers) (x : Reference) (n : ℕ) (here : f.reference.here ≡ x)
    (number : f.file.here.number ≡ n)
  where
    abbrev now_made : Bool → Result ℕ OsErr × Memory → Answer fetch.Fetched
    now_made t y = cond t (now_filled f y s) (now_empty f y s)

    new-is : fetch_new loading f s ≡ now_made loading (made_for loading (n == 0) x s.memory)
    new-is = cases loading ∙ ap (now_made loading)
        (ap (λ (k : ℕ). made_for loading (k == 0) f.reference.here s.memory) number
        ∙ ap (λ (y : Reference). made_for loading (n == 0) y s.memory) here)
      where
        cases : (t : Bool) → fetch_new t f s ≡ now_made t (made_for t (f.file.here.number == 0) f.reference.here s.memory)
        cases true = refl
        cases false = refl

    pub new_unread : (refusal : Refusal) (m : Memory) → IsAnswer (made_for loading (n == 0) x s.memory) (Err refusal) m
        → IsUnread (fetch_new loading f s) refusal None (record s { memory = m })
    new_unread HostMemory m is = tt
    new_unread (Code code) m is = subst (λ (a : Answer fetch.Fetched). IsUnread a (Code code) None (record s { memory = m }))
        (sym (new-is ∙ ap (now_made loading) is)) (cases loading)
      where
        cases : (t : Bool) → IsUnread (now_made t (Err code, m)) (Code code) None (record s { memory = m })
        cases true = (refl, refl, refl)
        cases false = (refl, refl, refl)

    pub new_fetched : (h : ℕ) (chain : List OpenFile) (m : Memory) → with_reference (with_handle (Some h) f.reference.here) f
        ≡ chain → IsAnswer (made_for loading (n == 0) x s.memory) (Ok h) m
        → IsFetched (fetch_new loading f s) (given h loading) (managers (filed chain s.resources) m)
    new_fetched h chain m kept is = subst (λ (l : List OpenFile). IsFetched (fetch_new loading f s) (given h loading)
        (managers (filed l s.resources) m)) kept
        (subst (λ (a : Answer fetch.Fetched). IsFetched a (given h loading)
        (managers (filed (with_reference (with_handle (Some h) f.reference.here) f) s.resources) m))
        (sym (new-is ∙ ap (now_made loading) is)) (cases loading))
      where
        cases : (t : Bool) → IsFetched (now_made t (Ok h, m)) (given h t)
            (managers (filed (with_reference (with_handle (Some h) f.reference.here) f) s.resources) m)
        cases true = (refl, refl)
        cases false = (refl, refl)

-- the n-th reference is fetched
pub ind_noted : (among : rows.Among) (kind n : ℕ) (r : Resources) (m m' : Memory) (found : Option Spot) (loading : Bool)
    (answer result : Result Fetched Unread) (new after : Resources)
    → found_from found r.chain ≡ rows.nth_among among kind n r → loading ≡ r.loading
    → IsFetched (fetched_as loading (found_from found r.chain) (managers r m)) answer (managers new m')
    → result ≡ answer → after ≡ record new { error = last_fetched answer new.error }
    → IsFetched (noting (rows.get_ind_resource among kind n) (managers r m)) result (managers after m')
ind_noted among kind n r m m' found loading answer result new after there on fetched same kept =
    rw (same, kept) (fetch_noted (rows.get_ind_resource among kind n) (managers r m) answer new m'
    (rw (there, on) at fetched))
