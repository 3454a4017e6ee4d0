use Rattle.res_calls.proofs.Cited.{◌≡◌, ◌≤◌, ◌<◌, ◌+◌, ◌^◌, ℕ, ℤ, true, false, Some, Err, List, [], length, refl, OsErr, sizes, count}
use Rattle.res_calls.proofs.Cited.{is_masters, is_relocatable, has, Site, counted, staying, locked_place, pointer_place, has_purgeable}
use Rattle.res_calls.proofs.Cited.{Step, walk, reads, put_reads, steps_dispose, is_resource, Resources, is_at, Managers, find_own}
use Rattle.res_calls.proofs.Cited.{fetch_own, Owns, Sound}
use Rattle.heap_calls.proofs.Promises.Knowing.{Known}
use Rattle.res_calls.proofs.Keeping.{found-keeps}
use Rattle.res_calls.proofs.Owning.Calls.{fetch-owns}
use Rattle.res_calls.proofs.Owning.Facts.{owns-one, one-owns}
use Rattle.res_calls.proofs.Owning.Owners.{OneOwner}
use Rattle.res_calls.proofs.Owning.Places.{find-finds}
use Rattle.res_calls.proofs.Soundness.Calls.{searched_sound}
use Rattle.res_calls.proofs.Walks.Steps.{for_found, fetch_steps}
use Rattle.res_calls.proofs.Walks.Going.{Goes, found-goes, fetch-goes}
use Rattle.res_calls.proofs.Walks.Letting.{SearchFew, fetch-lets, found-lets, found-few, fetch-few}
use Rattle.res_calls.proofs.Walks.Place.{moved, answer_moved, found-place, fetch-place}
use Rattle.res_calls.proofs.Walks.Answered as goes

-- The laws of a fetch from the application's own fork.

-- its steps: one or none
abbrev pub own_steps : ℕ → ℤ → Resources → List Step
own_steps kind id r = for_found (find_own kind id r) (fetch_steps true)

pub own-goes : (kind : ℕ) (id : ℤ) (s : Managers)
    → Goes false (own_steps kind id s.resources) s (fetch_own kind id s)
own-goes kind id s = found-goes (find_own kind id s.resources) s _ (fetch_steps true)
    (λ at. fetch-goes true at at.reference.here.handle s)

pub own-walks : (kind : ℕ) (id : ℤ) (s : Managers)
    → (fetch_own kind id s).after.memory ≡ walk (own_steps kind id s.resources) s.memory
own-walks kind id s = (own-goes kind id s).heap

pub own-reads : (kind : ℕ) (id : ℤ) (s : Managers)
    → (fetch_own kind id s).reads ≡ reads (own_steps kind id s.resources) s.memory
own-reads kind id s = (own-goes kind id s).read

-- they let no handle go, and search at most once more than there are blocks
pub own-lets : (kind : ℕ) (id : ℤ) (r : Resources) (h : ℕ) → steps_dispose (own_steps kind id r) h ≡ false
own-lets kind id r h = found-lets (find_own kind id r) (fetch_steps true) h
    (λ at. fetch-lets true at at.reference.here.handle h)

pub own-few : (kind : ℕ) (id : ℤ) (s : Managers) → SearchFew (own_steps kind id s.resources) s.memory
own-few kind id s = found-few (find_own kind id s.resources) (fetch_steps true) s.memory
    (λ at. fetch-few true at at.reference.here.handle s.memory)

-- each block holds what was last put into it, or read
pub own-known : (kind : ℕ) (id : ℤ) (s : Managers) (bytes : ℕ → List ℕ) → Known s.memory.heap bytes
    → Known (fetch_own kind id s).after.memory.heap (put_reads (fetch_own kind id s).reads bytes)
own-known kind id s bytes known =
    goes.goes-known (own_steps kind id s.resources) s (fetch_own kind id s) bytes (own-goes kind id s) known

-- locked blocks and pointers' blocks stay
pub own-locked : (kind : ℕ) (id : ℤ) (s : Managers) (bytes : ℕ → List ℕ) → Known s.memory.heap bytes
    → (h place : ℕ) → locked_place h s.memory.heap.zone ≡ Some place
    → locked_place h (fetch_own kind id s).after.memory.heap.zone ≡ Some place
own-locked kind id s bytes known h place is =
    goes.goes-locked (own_steps kind id s.resources) s (fetch_own kind id s) bytes (own-goes kind id s) known h place
    (own-lets kind id s.resources h) is

pub own-nonrelocatable : (kind : ℕ) (id : ℤ) (s : Managers) (p place : ℕ)
    → pointer_place p s.memory.heap.zone ≡ Some place
    → pointer_place p (fetch_own kind id s).after.memory.heap.zone ≡ Some place
own-nonrelocatable kind id s p place is =
    goes.goes-nonrelocatable (own_steps kind id s.resources) s (fetch_own kind id s) (own-goes kind id s) p place is

-- only blocks that may be purged are
pub own-purgeable : (kind : ℕ) (id : ℤ) (s : Managers) (h : ℕ)
    → has (is_relocatable h) s.memory.heap.zone ≡ true
    → has (is_relocatable h) (fetch_own kind id s).after.memory.heap.zone ≡ false
    → has_purgeable h s.memory.heap.zone ≡ true
own-purgeable kind id s h before after =
    goes.goes-purgeable (own_steps kind id s.resources) s (fetch_own kind id s) (own-goes kind id s) h
    (own-lets kind id s.resources h) before after

-- the zone keeps its size, and its blocks of master pointers
pub own-bytes : (kind : ℕ) (id : ℤ) (s : Managers)
    → sizes (fetch_own kind id s).after.memory.heap.zone ≡ sizes s.memory.heap.zone
own-bytes kind id s =
    goes.goes-bytes (own_steps kind id s.resources) s (fetch_own kind id s) (own-goes kind id s)

pub own-masters : (kind : ℕ) (id : ℤ) (s : Managers)
    → count is_masters s.memory.heap.zone ≤ count is_masters (fetch_own kind id s).after.memory.heap.zone
own-masters kind id s =
    goes.goes-masters (own_steps kind id s.resources) s (fetch_own kind id s) (own-goes kind id s)

-- it searches at most once more than there are blocks, and the count of searches always fits
pub own-searches : (kind : ℕ) (id : ℤ) (s : Managers) → 0 < count is_masters s.memory.heap.zone
    → s.memory.log.searches < 2 ^ 64
    → (n : ℕ) × (n ≤ length s.memory.heap.zone + 1)
    × ((fetch_own kind id s).after.memory.log.searches ≡ counted s.memory.log.searches n)
own-searches kind id s masters fits =
    goes.goes-searches (own_steps kind id s.resources) s (fetch_own kind id s) (own-goes kind id s) (own-few kind id s)
    masters fits

pub own-fits : (kind : ℕ) (id : ℤ) (s : Managers) → 0 < count is_masters s.memory.heap.zone
    → s.memory.log.searches < 2 ^ 64 → (fetch_own kind id s).after.memory.log.searches < 2 ^ 64
own-fits kind id s masters fits =
    goes.goes-fits (own_steps kind id s.resources) s (fetch_own kind id s) (own-goes kind id s) masters fits

-- a refused one read nothing, took no step or one that was refused with its code, and left the resources; it leaves the
-- heap, but that a block of slots may stay that was made for it, and no more stays than before it
pub own-unread : (kind : ℕ) (id : ℤ) (s : Managers) (code : OsErr) → (fetch_own kind id s).reply ≡ Err code
    → (fetch_own kind id s).reads ≡ []
own-unread kind id s code is = ((own-goes kind id s).refuses code is).0

pub own-no_more : (kind : ℕ) (id : ℤ) (s : Managers) (code : OsErr) → (fetch_own kind id s).reply ≡ Err code
    → staying (fetch_own kind id s).after.memory.heap.zone ≤ staying s.memory.heap.zone
own-no_more kind id s code is =
    goes.goes-no_more (own_steps kind id s.resources) s (fetch_own kind id s) (own-goes kind id s) code is

-- it changes neither what is busy, nor the code that MemError tells, nor where the heap lies, nor the files
pub own-busy : (kind : ℕ) (id : ℤ) (s : Managers)
    → (fetch_own kind id s).after.memory.log.busy ≡ s.memory.log.busy
own-busy kind id s = goes.goes-busy (own_steps kind id s.resources) s (fetch_own kind id s) (own-goes kind id s)

pub own-code : (kind : ℕ) (id : ℤ) (s : Managers)
    → (fetch_own kind id s).after.memory.log.code ≡ s.memory.log.code
own-code kind id s = goes.goes-code (own_steps kind id s.resources) s (fetch_own kind id s) (own-goes kind id s)

pub own-window : (kind : ℕ) (id : ℤ) (s : Managers)
    → (fetch_own kind id s).after.memory.window ≡ s.memory.window
own-window kind id s = goes.goes-window (own_steps kind id s.resources) s (fetch_own kind id s) (own-goes kind id s)

pub own-files : (kind : ℕ) (id : ℤ) (s : Managers)
    → (fetch_own kind id s).after.resources.files ≡ s.resources.files
own-files kind id s = (own-goes kind id s).files refl

-- what it comes to doesn't hang on where the heap lies
pub own-elsewhere : (window : Site) (kind : ℕ) (id : ℤ) (s : Managers)
    → fetch_own kind id (moved window s) ≡ answer_moved window (fetch_own kind id s)
own-elsewhere window kind id s = found-place window (find_own kind id s.resources) s _ _
    (λ at. fetch-place window true at at.reference.here.handle s)

-- each resource has its own handle after it, and what holds of the open files holds
pub own-owns : (kind : ℕ) (id : ℤ) (s : Managers) → Owns s → Owns (fetch_own kind id s).after
own-owns kind id s owns = owns-one (fetch_own kind id s).after
    (found-keeps OneOwner (find_own kind id s.resources) s _ (one-owns s owns)
    (λ at e. fetch-owns true at s
    (find-finds (λ f. is_at 0 f.file) (is_resource kind id) s.resources.chain at e).0 (one-owns s owns)
    at.reference.here.handle refl))

pub own-sound : (kind : ℕ) (id : ℤ) (s : Managers) → Sound s.resources
    → Sound (fetch_own kind id s).after.resources
own-sound kind id s sound = searched_sound (λ f. is_at 0 f.file) (is_resource kind id) true s sound
