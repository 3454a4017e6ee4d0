use Rattle.res_calls.proofs.Cited.{◌≡◌, ℕ, ◌==◌, ◌||◌, Bool, true, false, not, cond, List, [], ◌∷◌, refl, sym, ◌∙◌, ap, subst, Option, Some}
use Rattle.res_calls.proofs.Cited.{None, Result, Ok, Err, and_parts, and_from, or_parts, eqb-true, list_all, OsErr, Block, Free}
use Rattle.res_calls.proofs.Cited.{Nonrelocatable, Masters, Relocatable, is_relocatable, size, freed, has, tidy, has-tidy, Known, handle_at}
use Rattle.res_calls.proofs.Cited.{owned_as, has_block, Step, NewFilled, NewEmpty, Refill, Release, Cast, stepped, walk, step_disposes}
use Rattle.res_calls.proofs.Cited.{steps_dispose, Memory, step-leaves, Split, is_changed, is_protected, releases, ResourceAsked, served}
use Rattle.res_calls.proofs.Cited.{disposes_of, opens_file, Managers, is_system, fetches, OpenFile, Resources, Found, file_of, handles_of}
use Rattle.res_calls.proofs.Cited.{resource_of, bars, update}
use Rattle.heap_calls.specs.Purging.{is_resource as is_owned}
use Rattle.res_calls.specs.Asked as asks
use Rattle.res_calls.proofs.Walks.Laws.{heap-walks}
use Rattle.res_calls.proofs.Walks.Letting.{lets-walk}
use Rattle.res_calls.proofs.Walks.Steps.{for_found, for_open, for_known, if_done, on_handle, close_steps}
use Rattle.res_calls.proofs.Walks.Steps.{release_steps, detach_steps, add_steps, remove_steps, steps_of}

-- A call that neither fetches nor opens a file purges nothing.

-- another handle's block is freed
freed-other : (h k : ℕ) → (k == h) ≡ false → (blocks : List Block)
    → has (is_relocatable h) (freed (is_relocatable k) blocks) ≡ has (is_relocatable h) blocks
freed-other h k other [] = refl
freed-other h k other (Free n ∷ blocks) = freed-other h k other blocks
freed-other h k other (Nonrelocatable id content ∷ blocks) = freed-other h k other blocks
freed-other h k other (Masters ∷ blocks) = freed-other h k other blocks
freed-other h k other (Relocatable id flags content ∷ blocks) =
    by_number (id == k) refl (freed-other h k other blocks)
  where
    by_number : (t : Bool) → (id == k) ≡ t
        → has (is_relocatable h) (freed (is_relocatable k) blocks) ≡ has (is_relocatable h) blocks
        → has (is_relocatable h) (cond t (Free (size (Relocatable id flags content))) (Relocatable id flags content)
        ∷ freed (is_relocatable k) blocks) ≡ ((id == h) || has (is_relocatable h) blocks)
    by_number true e rest =
        rest ∙ ap (λ (t : Bool). t || has (is_relocatable h) blocks)
        (sym (ap (λ (n : ℕ). n == h) (eqb-true id k e) ∙ other))
    by_number false e rest = ap (λ (t : Bool). (id == h) || t) rest

gone-other : (h k : ℕ) → (k == h) ≡ false → (blocks : List Block) → has (is_relocatable h) blocks ≡ true
    → has (is_relocatable h) (tidy (freed (is_relocatable k) blocks)) ≡ true
gone-other h k other blocks there =
    has-tidy (is_relocatable h) (λ n. refl) (freed (is_relocatable k) blocks) ∙ freed-other h k other blocks ∙ there

-- a step that looks for no room
abbrev pub is_quiet : Step → Bool
is_quiet (Release handle) = true
is_quiet (Cast change handle) = true
is_quiet step = false

step-quiet : (step : Step) (m : Memory) (h : ℕ) → is_quiet step ≡ true → step_disposes step h ≡ false
    → has (is_relocatable h) m.heap.zone ≡ true → has (is_relocatable h) (stepped step m).heap.zone ≡ true
step-quiet (NewFilled role flags bytes) m h quiet keeps there = cc
step-quiet (NewEmpty role) m h quiet keeps there = cc
step-quiet (Refill k flags bytes) m h quiet keeps there = cc
step-quiet (Release k) m h quiet keeps there =
    step-leaves (λ zone. has (is_relocatable h) zone ≡ true) (Release k) m there
    (gone-other h k keeps m.heap.zone there)
step-quiet (Cast change k) m h quiet keeps there =
    step-leaves (λ zone. has (is_relocatable h) zone ≡ true) (Cast change k) m there tt

walk-quiet : (steps : List Step) (m : Memory) (h : ℕ) → list_all is_quiet steps ≡ true → steps_dispose steps h ≡ false
    → has (is_relocatable h) m.heap.zone ≡ true → has (is_relocatable h) (walk steps m).heap.zone ≡ true
walk-quiet [] m h quiet keeps there = there
walk-quiet (step ∷ steps) m h quiet keeps there =
    let all = and_parts (is_quiet step) (list_all is_quiet steps) quiet in
    let none = or_parts (step_disposes step h) (steps_dispose steps h) keeps in
    walk-quiet steps (stepped step m) h all.1 none.1 (step-quiet step m h all.0 none.0 there)

-- the steps of each call
abbrev AreQuiet : List Step → Type 0
AreQuiet steps = list_all is_quiet steps ≡ true

found-quiet : (found : Option Found) (steps : Found → List Step) → ((at : Found) → AreQuiet (steps at))
    → AreQuiet (for_found found steps)
found-quiet None steps each = refl
found-quiet (Some at) steps each = each at

open-quiet : (o : Option (Split OpenFile)) (steps : Split OpenFile → List Step)
    → ((at : Split OpenFile) → AreQuiet (steps at)) → AreQuiet (for_open o steps)
open-quiet None steps each = refl
open-quiet (Some at) steps each = each at

known-quiet : (x : Result Known OsErr) (steps : Known → List Step) → ((k : Known) → AreQuiet (steps k))
    → AreQuiet (for_known x steps)
known-quiet (Err code) steps each = refl
known-quiet (Ok k) steps each = each k

either-quiet : (t : Bool) (one other : List Step) → AreQuiet one → AreQuiet other → AreQuiet (cond t one other)
either-quiet true one other first later = first
either-quiet false one other first later = later

releases-quiet : (handles : List ℕ) → AreQuiet (releases handles)
releases-quiet [] = refl
releases-quiet (h ∷ handles) = releases-quiet handles

done-quiet : (o : Option Resources) (steps : List Step) → AreQuiet steps → AreQuiet (if_done o steps)
done-quiet None steps quiet = refl
done-quiet (Some r) steps quiet = quiet

handle-quiet : (handle : Option ℕ) (step : ℕ → Step) → ((h : ℕ) → is_quiet (step h) ≡ true)
    → AreQuiet (on_handle handle step)
handle-quiet None step each = refl
handle-quiet (Some h) step each = and_from (is_quiet (step h)) true (each h) refl

close-quiet : (n : ℕ) (s : Managers) (at : Split OpenFile) → AreQuiet (close_steps n s at)
close-quiet n s at = either-quiet (n == 0) [] _ refl
    (done-quiet (update s.memory.heap at s.resources) _ (releases-quiet (handles_of at.here.map.references)))

release-quiet : (handle : Option ℕ) (s : Managers) (at : Found) → AreQuiet (release_steps handle s at)
release-quiet handle s at = either-quiet (bars handle s.memory) [] _ refl
    (either-quiet (is_changed at.reference.here) [] _ refl (handle-quiet handle Release (λ h. refl)))

detach-quiet : (handle : Option ℕ) (at : Found) → AreQuiet (detach_steps handle at)
detach-quiet handle at = either-quiet (is_changed at.reference.here) [] _ refl
    (handle-quiet handle (Cast (owned_as false)) (λ h. refl))

add-quiet : (s : Managers) (k : Known) → AreQuiet (add_steps s k)
add-quiet s k = either-quiet (is_owned k.role || not (has_block k.number s.memory.heap)) [] _ refl
    (either-quiet (s.resources.current == 0) [] _ refl
    (open-quiet (file_of s.resources.current s.resources) _ (λ at. refl)))

remove-quiet : (s : Managers) (k : Known) (at : Found) → AreQuiet (remove_steps s k at)
remove-quiet s k at = either-quiet (is_system at.file.here) [] _ refl
    (either-quiet (not (at.file.here.number == s.resources.current) || is_protected at.reference.here) [] _ refl refl)

steps-quiet : (a : ResourceAsked) (s : Managers) → fetches a ≡ false → opens_file a ≡ false → AreQuiet (steps_of a s)
steps-quiet (asks.OpenResFile name) s reads opens = cc
steps-quiet (asks.GetResource kind id) s reads opens = cc
steps-quiet (asks.Get1Resource kind id) s reads opens = cc
steps-quiet (asks.GetNamedResource kind name) s reads opens = cc
steps-quiet (asks.Get1NamedResource kind name) s reads opens = cc
steps-quiet (asks.GetIndResource among kind index) s reads opens = cc
steps-quiet (asks.LoadResource handle) s reads opens = cc
steps-quiet (asks.CloseResFile n) s reads opens =
    open-quiet (file_of n s.resources) (close_steps n s) (close-quiet n s)
steps-quiet (asks.ReleaseResource handle) s reads opens =
    found-quiet (resource_of handle s.resources) (release_steps handle s) (release-quiet handle s)
steps-quiet (asks.DetachResource handle) s reads opens =
    found-quiet (resource_of handle s.resources) (detach_steps handle) (detach-quiet handle)
steps-quiet (asks.AddResource handle kind id name) s reads opens =
    known-quiet (handle_at handle s.memory.heap) (add_steps s) (add-quiet s)
steps-quiet (asks.RemoveResource handle) s reads opens =
    known-quiet (handle_at handle s.memory.heap) _
    (λ k. found-quiet (resource_of handle s.resources) (remove_steps s k) (remove-quiet s k))
steps-quiet a s reads opens = refl

-- a handle that isn't disposed of keeps its block
pub unpurged : (a : ResourceAsked) (s : Managers) (h : ℕ) → fetches a ≡ false → opens_file a ≡ false
    → disposes_of h a s ≡ false → has (is_relocatable h) s.memory.heap.zone ≡ true
    → has (is_relocatable h) (served a s).after.memory.heap.zone ≡ true
unpurged a s h reads opens keeps there =
    subst (λ (m : Memory). has (is_relocatable h) m.heap.zone ≡ true) (sym (heap-walks a s))
    (walk-quiet (steps_of a s) s.memory h (steps-quiet a s reads opens) (lets-walk h a s keeps) there)
