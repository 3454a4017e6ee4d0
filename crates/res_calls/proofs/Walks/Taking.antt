use Rattle.res_calls.proofs.Cited.{◌≡◌, ◌⊎◌, inl, inr, ◌||◌, ◌==◌, ℕ, Bool, true, false, Option, Some, None, List, [], ◌∷◌, refl, sym, ◌∙◌}
use Rattle.res_calls.proofs.Cited.{ap, subst, cond, OsErr, Done, Refused, is_relocatable, has, Memory, locked_place, has_purgeable, Step}
use Rattle.res_calls.proofs.Cited.{Release, walk, steps_dispose, StaysOr, done-or, releases, refused-lets, none-place, walk-none}
use Rattle.res_calls.proofs.Cited.{steps-locked, steps-purgeable, Split, is_changed, OpenFile, Resources, Found, file_of, Managers}
use Rattle.res_calls.proofs.Cited.{resource_of, handles_of, bars, update, ResourceAsked, served, disposes_of}
use Rattle.heap_calls.proofs.Promises.Knowing.{Known}
use Rattle.res_calls.specs.Asked as asks
use Rattle.res_calls.proofs.Walks.Steps.{for_found, for_open, if_done, close_steps, on_handle, release_steps, steps_of}
use Rattle.res_calls.proofs.Walks.Going.{Refuses}
use Rattle.res_calls.proofs.Walks.Letting.{lets-walk}
use Rattle.res_calls.proofs.Walks.Laws.{heap-walks, one-step}

-- A call of the Resource Manager that takes a locked block away is done, and leaves none.

-- the steps of a refused call let no handle go
refuses-lets : (steps : List Step) (m : Memory) (code : OsErr) → Refuses steps m code → (h : ℕ)
    → steps_dispose steps h ≡ false
refuses-lets steps m code (inl none) h = ap (λ (path : List Step). steps_dispose path h) none
refuses-lets steps m code (inr (step, is, refused)) h =
    ap (λ (path : List Step). steps_dispose path h) is ∙ ap (λ (t : Bool). t || false)
    (refused-lets step m code refused h)

-- so a call that lets one go is done
done-if : (a : ResourceAsked) (s : Managers) (h : ℕ) → steps_dispose (steps_of a s) h ≡ true
    → ((served a s).told ≡ Done) ⊎ ((code : OsErr) × ((served a s).told ≡ Refused code)) → (served a s).told ≡ Done
done-if a s h takes (inl is) = is
done-if a s h takes (inr (code, is)) =
    let f : true ≡ false = sym takes ∙ refuses-lets (steps_of a s) s.memory code (one-step a s code is) h in cc

takes-done : (a : ResourceAsked) (s : Managers) (h : ℕ) → steps_dispose (steps_of a s) h ≡ true
    → (served a s).told ≡ Done
takes-done (asks.CloseResFile n) s h takes = done-if (asks.CloseResFile n) s h takes (done-or _)
takes-done (asks.ReleaseResource handle) s h takes = done-if (asks.ReleaseResource handle) s h takes (done-or _)
takes-done a s h takes = let f : true ≡ false = sym takes ∙ lets-walk h a s refl in cc

-- and it is one that disposes of the handle
takes-disposes : (a : ResourceAsked) (s : Managers) (h : ℕ) → steps_dispose (steps_of a s) h ≡ true
    → disposes_of h a s ≡ true
takes-disposes a s h takes = cases (disposes_of h a s) refl
  where
    cases : (t : Bool) → disposes_of h a s ≡ t → t ≡ true
    cases true e = refl
    cases false e = let f : true ≡ false = sym takes ∙ lets-walk h a s e in cc

-- steps that let a handle go leave no locked block of it
abbrev LeaveNone : ℕ → Memory → List Step → Type 0
LeaveNone h m steps = steps_dispose steps h ≡ true → locked_place h (walk steps m).heap.zone ≡ None

module _ (h : ℕ) (m : Memory) (bytes : ℕ → List ℕ) (known : Known m.heap bytes)
  where
    no-steps : LeaveNone h m []
    no-steps takes = let f : false ≡ true = takes in cc

    releases-none : (handles : List ℕ) → LeaveNone h m (releases handles)
    releases-none handles takes = none-place h (walk (releases handles) m).heap
        (walk-none handles h m bytes known takes)

    if_done-none : (o : Option Resources) (handles : List ℕ) → LeaveNone h m (if_done o (releases handles))
    if_done-none None handles = no-steps
    if_done-none (Some r) handles = releases-none handles

    choice-none : (t : Bool) (steps : List Step) → LeaveNone h m steps → LeaveNone h m (cond t [] steps)
    choice-none true steps none = no-steps
    choice-none false steps none = none

    handle-none : (handle : Option ℕ) → LeaveNone h m (on_handle handle Release)
    handle-none None = no-steps
    handle-none (Some k) = releases-none (k ∷ [])

    open-none : (o : Option (Split OpenFile)) (steps : Split OpenFile → List Step)
        → ((at : Split OpenFile) → LeaveNone h m (steps at)) → LeaveNone h m (for_open o steps)
    open-none None steps each = no-steps
    open-none (Some at) steps each = each at

    found-none : (o : Option Found) (steps : Found → List Step) → ((at : Found) → LeaveNone h m (steps at))
        → LeaveNone h m (for_found o steps)
    found-none None steps each = no-steps
    found-none (Some at) steps each = each at

takes-none : (a : ResourceAsked) (s : Managers) (bytes : ℕ → List ℕ) → Known s.memory.heap bytes → (h : ℕ)
    → LeaveNone h s.memory (steps_of a s)
takes-none (asks.CloseResFile n) s bytes known h =
    open-none h s.memory bytes known (file_of n s.resources) (close_steps n s)
    (λ at. choice-none h s.memory bytes known (n == 0) _
    (if_done-none h s.memory bytes known (update s.memory.heap at s.resources) (handles_of at.here.map.references)))
takes-none (asks.ReleaseResource handle) s bytes known h =
    found-none h s.memory bytes known (resource_of handle s.resources) (release_steps handle s)
    (λ at. choice-none h s.memory bytes known (bars handle s.memory) _
    (choice-none h s.memory bytes known (is_changed at.reference.here) _ (handle-none h s.memory bytes known handle)))
takes-none a s bytes known h = λ takes. let f : true ≡ false = sym takes ∙ lets-walk h a s refl in cc

-- a locked block stays where it is, or the call that disposes of its handle is done
pub served-stays : (a : ResourceAsked) (s : Managers) (bytes : ℕ → List ℕ) → Known s.memory.heap bytes
    → (h place : ℕ) → locked_place h s.memory.heap.zone ≡ Some place
    → StaysOr (disposes_of h a s) place (served a s).told (locked_place h (served a s).after.memory.heap.zone)
served-stays a s bytes known h place is =
    subst (λ (m : Memory). StaysOr (disposes_of h a s) place (served a s).told (locked_place h m.heap.zone))
    (sym (heap-walks a s)) (by_steps (steps_dispose (steps_of a s) h) refl)
  where
    by_steps : (t : Bool) → steps_dispose (steps_of a s) h ≡ t
        → StaysOr (disposes_of h a s) place (served a s).told
        (locked_place h (walk (steps_of a s) s.memory).heap.zone)
    by_steps true e = inr (takes-none a s bytes known h e, takes-done a s h e, takes-disposes a s h e)
    by_steps false e = inl (steps-locked (steps_of a s) s.memory bytes known h place e is)

-- a handle's block that goes might be purged, or the call that disposes of the handle is done
pub served-empties : (a : ResourceAsked) (s : Managers) (h : ℕ) → has (is_relocatable h) s.memory.heap.zone ≡ true
    → has (is_relocatable h) (served a s).after.memory.heap.zone ≡ false
    → (has_purgeable h s.memory.heap.zone ≡ true) ⊎ (((served a s).told ≡ Done) × (disposes_of h a s ≡ true))
served-empties a s h before after = by_steps (steps_dispose (steps_of a s) h) refl
  where
    by_steps : (t : Bool) → steps_dispose (steps_of a s) h ≡ t
        → (has_purgeable h s.memory.heap.zone ≡ true) ⊎ (((served a s).told ≡ Done) × (disposes_of h a s ≡ true))
    by_steps true e = inr (takes-done a s h e, takes-disposes a s h e)
    by_steps false e = inl (steps-purgeable (steps_of a s) s.memory h e before
        (subst (λ (m : Memory). has (is_relocatable h) m.heap.zone ≡ false) (heap-walks a s) after))
