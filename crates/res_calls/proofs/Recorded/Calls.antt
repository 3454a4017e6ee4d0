use Rattle.res_calls.proofs.Cited.{◌≡◌, ℕ, List, map, refl, ap, Option, Some, None, ◌==◌, nat_le, length, nat_lt, ◌+◌, OsErr, LOCKED}
use Rattle.res_calls.proofs.Cited.{RES_ATTR, DISK_FULL, DUPLICATE_FILE, IN_MEMORY, OFFSET, piece, is_in_memory, read_part_found}
use Rattle.res_calls.proofs.Cited.{read_partial_resource, Split, is_changed, File, Found, file_of, file_named, Managers, Answer, done}
use Rattle.res_calls.proofs.Cited.{refused, on_found, on_resource, resource_of, bars, released_at, detached_at, told_or, most_files}
use Rattle.res_calls.proofs.Cited.{create_named, create_res_file, without_handles}
use Rattle.res_calls.specs.Rows as rows
use Rattle.res_calls.proofs.Keeping.{either-keeps, found-keeps, open-keeps}
use Rattle.res_calls.proofs.Owning.Calls.{resource-holds}
use Rattle.res_calls.proofs.Owning.Places.{Stands}
use Rattle.res_calls.proofs.Recorded.Outside.{outside-handle}

-- Calls that change nothing that is recorded of a resource.

-- what is recorded is as it was
abbrev pub Records : Managers → Managers → Type 0
Records s after = map without_handles after.resources.chain ≡ map without_handles s.resources.chain

-- a call on a resource, or one that tells a type, which leaves the managers
pub asked-records : {T : Type 0} (handle : Option ℕ) (s : Managers) (answer : Found → Answer T)
    → ((at : Found) → (answer at).after ≡ s) → Records s (on_resource handle s answer).after
asked-records handle s answer same =
    found-keeps (Records s) (resource_of handle s.resources) s answer refl
    (λ at e. ap (λ (m : Managers). map without_handles m.resources.chain) (same at))

-- ReadPartialResource
pub read_part-records : (handle : Option ℕ) (from n : ℕ) (s : Managers)
    → Records s (read_partial_resource handle from n s).after
read_part-records handle from n s =
    found-keeps (Records s) (resource_of handle s.resources) s (read_part_found handle from n s) refl
    (λ at e. either-keeps (Records s) (nat_lt (length at.reference.here.stored.datum) (from + n)) (refused OFFSET s) _
    (λ past. refl) (λ inside. either-keeps (Records s) (is_in_memory handle s.memory.heap) (refused IN_MEMORY s)
    (done (piece from n at.reference.here.stored.datum) s) (λ held. refl) (λ empty. refl)))

pub told-records : (code : OsErr) (o : Option ℕ) (s : Managers) → Records s (told_or code o s).after
told-records code None s = refl
told-records code (Some n) s = refl

-- UseResFile
pub use_file-records : (n : ℕ) (s : Managers) → Records s (rows.use_res_file n s).after
use_file-records n s = open-keeps (Records s) (file_of n s.resources) s _ refl (λ at e. refl)

-- ReleaseResource and DetachResource
released-records : (handle : Option ℕ) (s : Managers) (at : Found) → Stands s.resources.chain at
    → Records s (released_at at handle s)
released-records None s at stands = refl
released-records (Some k) s at stands = outside-handle s.resources.chain at None stands

detached-records : (handle : Option ℕ) (s : Managers) (at : Found) → Stands s.resources.chain at
    → Records s (detached_at at handle s)
detached-records None s at stands = refl
detached-records (Some k) s at stands = outside-handle s.resources.chain at None stands

pub release-records : (handle : Option ℕ) (s : Managers) → Records s (rows.release_resource handle s).after
release-records handle s =
    found-keeps (Records s) (resource_of handle s.resources) s _ refl
    (λ at e. either-keeps (Records s) (bars handle s.memory) (refused LOCKED s) _ (λ busy. refl)
    (λ free. either-keeps (Records s) (is_changed at.reference.here) (done tt s) (done tt (released_at at handle s))
    (λ changed. refl) (λ plain. released-records handle s at (resource-holds handle s at e).0)))

pub detach-records : (handle : Option ℕ) (s : Managers) → Records s (rows.detach_resource handle s).after
detach-records handle s =
    found-keeps (Records s) (resource_of handle s.resources) s _ refl
    (λ at e. either-keeps (Records s) (is_changed at.reference.here) (refused RES_ATTR s)
    (done tt (detached_at at handle s)) (λ changed. refl)
    (λ plain. detached-records handle s at (resource-holds handle s at e).0))

-- CreateResFile
created-records : (name : List ℕ) (o : Option (Split File)) (s : Managers) → Records s (create_named name o s).after
created-records name None s =
    either-keeps {T = Unit {0}} (Records s) (nat_le most_files (length s.resources.files)) (refused DISK_FULL s) _
    (λ full. refl) (λ room. refl)
created-records name (Some at) s =
    either-keeps {T = Unit {0}} (Records s) (length at.here.fork == 0) _ (refused DUPLICATE_FILE s) (λ empty. refl)
    (λ some. refl)

pub create-records : (name : List ℕ) (s : Managers) → Records s (create_res_file name s).after
create-records name s = created-records name (file_named name s.resources) s
