use Rattle.res_calls.proofs.Cited.{◌≡◌, ℕ, ℤ, Bool, true, false, not, ◌==◌, ◌&&◌, ◌||◌, map, nat_lt, nat_le, List, [], ◌∷◌, ◌++◌, refl, sym}
use Rattle.res_calls.proofs.Cited.{◌∙◌, ap, subst, cond, arith, length, Option, Some, None, Result, Ok, Err, ◌+◌, false_from_ne_true}
use Rattle.res_calls.proofs.Cited.{or_parts, Decides-eqb, option_to_list, OsErr, LOCKED, PROFILE, RES_ATTR, ADD_RES_FAILED}
use Rattle.res_calls.proofs.Cited.{REMOVE_RES_FAILED, WRITE_PERMISSION, DISK_FULL, DUPLICATE_FILE, IN_MEMORY, OFFSET, set, handle_at}
use Rattle.res_calls.proofs.Cited.{resource_role, new_inside, new_empty_inside, refill_inside, has_block, released, cast, owned_as}
use Rattle.res_calls.proofs.Cited.{replaced, Split, place, is_protected, with_attrs, renamed, stored_anew, Reference, Map, has_handle}
use Rattle.res_calls.proofs.Cited.{resized_datum, with_datum, is_handle, is_changed, is_named, split-passes, split-whole, Resources, File}
use Rattle.res_calls.proofs.Cited.{OpenFile, Found, find, opened, file_of, file_named, open_at, fresh_resources, with_map_attrs}
use Rattle.res_calls.proofs.Cited.{flat_map-append, is_system, Managers, Answer, done, refused, flags_of, now_filled, now_empty}
use Rattle.res_calls.proofs.Cited.{now_refilled, fetch_as, with_resources, closed_file, map_in, open_map, resource_of, open_as, open_fork}
use Rattle.res_calls.proofs.Cited.{open_unless, greatest_number, bars, released_at, detached_at, open_named, told_or, fetched}
use Rattle.res_calls.proofs.Cited.{nth_among, noting, preloaded, update, updated_reference, bytes_held, create_named, most_files, marked}
use Rattle.res_calls.proofs.Cited.{stored_if, is_in_memory, read_part_found, restored, restored_unless, size_refusal, write_refusal, piece}
use Rattle.res_calls.proofs.Cited.{content_of, Memory, Role, resource_role_at, MakesHandle, filled-makes, emptied-makes, refilled-roles}
use Rattle.res_calls.proofs.Cited.{released-roles, own-roles, ResourceAsked, served, role_in}
use Rattle.heap_calls.specs.Purging.{is_resource}
use Rattle.res_map.specs.Map.{is_resource as is_wanted}
use Rattle.res_calls.specs.Changing as changing
use Rattle.res_calls.specs.Partial as partial
use Rattle.memory_windows.specs.Writes.{written}
use Rattle.res_calls.proofs.Keeping.{either-keeps, found-keeps, open-keeps, known-keeps, removable-keeps}
use Rattle.res_calls.proofs.Keeping.{changeable-keeps, updated-keeps, update-comes}
use Rattle.res_calls.proofs.OpeningForks.{read_is}
use Rattle.res_calls.proofs.Owning.Casts.{known-name, own-role, added-roles}
use Rattle.res_calls.proofs.Owning.Updates.{with_references, one-alike, updated-handles, one-changed, one-removed}
use Rattle.res_calls.proofs.Owning.Updates.{one-added}
use Rattle.res_calls.specs.Rows as rows
use Rattle.res_calls.specs.Asked as asks
use Rattle.res_calls.proofs.Owning.Owners.{owners, owners_in, OneOwner}
use Rattle.res_calls.proofs.Owning.Places.{Stands, find-finds, among-stands}
use Rattle.res_calls.proofs.Owning.Changes.{one-owner-same, one-held, one-gone}
use Rattle.res_calls.proofs.Owning.Openings.{Bare, bare-groups, bare-owners, loaded-owned}
use Rattle.res_calls.proofs.Owning.Closings.{closed-owned}

-- Each resource has its own handle, from an application's launch on and after each call.

-- a new handle, with its datum or emptied
filled-owns : (at : Found) (s : Managers) → Stands s.resources.chain at → at.reference.here.handle ≡ None → OneOwner s
    → (x : Result ℕ OsErr × Memory) → MakesHandle (role_in at.file.here) s.memory.heap (x.0, x.1.heap)
    → OneOwner (now_filled at x s).after
filled-owns at s stands bare owns (Err code, m) made = one-owner-same s (record s { memory = m }) owns refl refl made
filled-owns at s stands bare owns (Ok n, m) made = record {
  one = one-held s.resources.chain s.memory.heap m.heap at n stands bare owns.one made;
  numbered = owns.numbered;
}

emptied-owns : (at : Found) (s : Managers) → Stands s.resources.chain at → at.reference.here.handle ≡ None → OneOwner s
    → (x : Result ℕ OsErr × Memory) → MakesHandle (role_in at.file.here) s.memory.heap (x.0, x.1.heap)
    → OneOwner (now_empty at x s).after
emptied-owns at s stands bare owns (Err code, m) made = one-owner-same s (record s { memory = m }) owns refl refl made
emptied-owns at s stands bare owns (Ok n, m) made = record {
  one = one-held s.resources.chain s.memory.heap m.heap at n stands bare owns.one made;
  numbered = owns.numbered;
}

-- an empty handle is read again
refilled-owns : (at : Found) (k : ℕ) (s : Managers) → OneOwner s → (x : Result (Unit {0}) OsErr × Memory)
    → ((h : ℕ) → resource_role_at h x.1.heap ≡ resource_role_at h s.memory.heap)
    → OneOwner (now_refilled at k x s).after
refilled-owns at k s owns (Err code, m) same = one-owner-same s (record s { memory = m }) owns refl refl same
refilled-owns at k s owns (Ok value, m) same = one-owner-same s (record s { memory = m }) owns refl refl same

-- a fetch
pub fetch-owns : (loading : Bool) (at : Found) (s : Managers) → Stands s.resources.chain at → OneOwner s → (o : Option ℕ)
    → at.reference.here.handle ≡ o → OneOwner (fetch_as loading at o s).after
fetch-owns true at s stands owns None bare =
    filled-owns at s stands bare owns
    (new_inside (role_in at.file.here) (flags_of at.reference.here) at.reference.here.stored.datum s.memory)
    (filled-makes (role_in at.file.here) (flags_of at.reference.here) at.reference.here.stored.datum s.memory.heap)
fetch-owns false at s stands owns None bare =
    emptied-owns at s stands bare owns (new_empty_inside (role_in at.file.here) s.memory)
    (emptied-makes (role_in at.file.here) s.memory.heap)
fetch-owns true at s stands owns (Some k) is = by_block (has_block k s.memory.heap)
  where
    filling : Result (Unit {0}) OsErr × Memory
    filling = refill_inside k (flags_of at.reference.here) at.reference.here.stored.datum s.memory

    by_block : (t : Bool)
        → OneOwner (cond (not t) (now_refilled at k filling s) (done (record { handle = k; read = 0 }) s)).after
    by_block true = owns
    by_block false = refilled-owns at k s owns filling
        (refilled-roles k (flags_of at.reference.here) at.reference.here.stored.datum s.memory.heap)
fetch-owns false at s stands owns (Some k) is = owns

-- what was found is fetched
fetched-owns : (found : Option Found) (s : Managers) → OneOwner s
    → ((at : Found) → found ≡ Some at → Stands s.resources.chain at) → OneOwner (fetched found s).after
fetched-owns found s owns stands =
    found-keeps OneOwner found s _ owns
    (λ at e. fetch-owns s.resources.loading at s (stands at e) owns at.reference.here.handle refl)

searched-owns : (within : OpenFile → Bool) (test : Reference → Bool) (s : Managers) → OneOwner s
    → OneOwner (fetched (find within test s.resources.chain) s).after
searched-owns within test s owns =
    fetched-owns (find within test s.resources.chain) s owns
    (λ at e. (find-finds within test s.resources.chain at e).0)

-- the resource of a handle
pub has-some : (k : ℕ) (o : Option ℕ) → is_handle k o ≡ true → o ≡ Some k
has-some k None e = cc
has-some k (Some g) e = ap Some ((Decides-eqb g k).0 e)

abbrev pub Holds : Option ℕ → Managers → Found → Type 0
Holds handle s at = (k : ℕ) → handle ≡ Some k → Stands s.resources.chain at × (at.reference.here.handle ≡ Some k)

pub resource-holds : (handle : Option ℕ) (s : Managers) (at : Found) → resource_of handle s.resources ≡ Some at
    → Stands s.resources.chain at × Holds handle s at
resource-holds None s at e = cc
resource-holds (Some k) s at e =
    let found = find-finds (λ f. true) (has_handle k) s.resources.chain at e in (
      found.0,
      λ j same. (
        found.0,
        has-some k at.reference.here.handle found.1 ∙ same,
      ),
    )

-- a handle that is released, or detached
released-owns : (handle : Option ℕ) (s : Managers) (at : Found) → OneOwner s → Holds handle s at
    → OneOwner (released_at at handle s)
released-owns None s at owns holds = owns
released-owns (Some k) s at owns holds = let held = holds k refl in record {
  one = one-gone s.resources.chain s.memory.heap (released k s.memory.heap) at k held.0 held.1 owns.one
      (released-roles k s.memory.heap);
  numbered = owns.numbered;
}

detached-owns : (handle : Option ℕ) (s : Managers) (at : Found) → OneOwner s → Holds handle s at
    → OneOwner (detached_at at handle s)
detached-owns None s at owns holds = owns
detached-owns (Some k) s at owns holds = let held = holds k refl in record {
  one = one-gone s.resources.chain s.memory.heap (cast (owned_as false) k s.memory.heap) at k held.0 held.1 owns.one
      (own-roles k s.memory.heap);
  numbered = owns.numbered;
}

release-owns : (handle : Option ℕ) (s : Managers) → OneOwner s → OneOwner (rows.release_resource handle s).after
release-owns handle s owns =
    found-keeps OneOwner (resource_of handle s.resources) s _ owns
    (λ at e. either-keeps OneOwner (bars handle s.memory) (refused LOCKED s) _ (λ busy. owns)
    (λ free. either-keeps OneOwner (is_changed at.reference.here) (done tt s) (done tt (released_at at handle s))
    (λ changed. owns) (λ plain. released-owns handle s at owns (resource-holds handle s at e).1)))

detach-owns : (handle : Option ℕ) (s : Managers) → OneOwner s → OneOwner (rows.detach_resource handle s).after
detach-owns handle s owns =
    found-keeps OneOwner (resource_of handle s.resources) s _ owns
    (λ at e. either-keeps OneOwner (is_changed at.reference.here) (refused RES_ATTR s)
    (done tt (detached_at at handle s)) (λ changed. owns)
    (λ plain. detached-owns handle s at owns (resource-holds handle s at e).1))

-- a fork's map, as its file is opened
pub map-bare : (fork : List ℕ) (read : Map) → map_in fork ≡ Ok read → Bare read.references
map-bare fork read e =
    subst (λ (m : Map). Bare m.references) (read_is fork read e) (bare-groups (content_of fork).groups)

-- a file is opened
opened-owns : (i : ℕ) (read : Map) (s : Managers) → Bare read.references → OneOwner s
    → OneOwner (open_as (opened s.resources.next (Some i) read) s).after
opened-owns i read s bare owns =
    let next = owns.numbered in
    let own : (s.resources.next == 0) ≡ false = false_from_ne_true (s.resources.next == 0)
    (λ t. let none : s.resources.next ≡ 0 = (Decides-eqb s.resources.next 0).0 t in omega arith) in record {
      one = loaded-owned (opened s.resources.next (Some i) read) s s.resources.chain own bare owns.one;
      numbered = omega arith;
    }

map-owns : (i : ℕ) (r : Result Map OsErr) (s : Managers) → ((read : Map) → r ≡ Ok read → Bare read.references)
    → OneOwner s → OneOwner (open_map i r s).after
map-owns i (Err code) s bare owns = owns
map-owns i (Ok read) s bare owns = opened-owns i read s (bare read refl) owns

fork-owns : (i : ℕ) (fork : List ℕ) (s : Managers) → OneOwner s → OneOwner (open_fork i fork s).after
fork-owns i fork s owns =
    either-keeps OneOwner (nat_lt greatest_number s.resources.next) (refused PROFILE s) _ (λ last. owns)
    (λ more. map-owns i (map_in fork) s (map-bare fork) owns)

unless-owns : (at : Split File) (o : Option (Split OpenFile)) (s : Managers) → OneOwner s
    → OneOwner (open_unless at o s).after
unless-owns at (Some f) s owns = owns
unless-owns at None s owns = fork-owns (place at) at.here.fork s owns

named-owns : (o : Option (Split File)) (s : Managers) → OneOwner s → OneOwner (open_named o s).after
named-owns None s owns = owns
named-owns (Some at) s owns = unless-owns at (open_at (place at) s.resources) s owns

-- an update, by itself and before a file is closed
updated-owns : (s : Managers) (at : Split OpenFile) (r : Resources) → replaced at.here at ≡ s.resources.chain
    → OneOwner s → update s.memory.heap at s.resources ≡ Some r → OneOwner (with_resources r s)
updated-owns s at r whole owns =
    update-comes (λ q. OneOwner (with_resources q s)) s.memory.heap at s.resources r owns (record {
      one = one-alike s.resources.chain s.memory.heap at
          (map (updated_reference s.memory.heap) at.here.map.references) false whole
          (updated-handles s.memory.heap at.here.map.references) owns.one;
      numbered = owns.numbered;
    })

update-owns : (n : ℕ) (s : Managers) → OneOwner s → OneOwner (rows.update_res_file n s).after
update-owns n s owns =
    open-keeps OneOwner (file_of n s.resources) s _ owns
    (λ at e. either-keeps {T = Unit {0}} OneOwner (n == 0) (done tt s) _ (λ system. owns)
    (λ own. updated-keeps OneOwner at s (λ r. done tt (with_resources r s)) owns
    (λ r is. updated-owns s at r (split-whole (λ f. f.number == n) s.resources.chain at e) owns is)))

close-owns : (n : ℕ) (s : Managers) → OneOwner s → OneOwner (rows.close_res_file n s).after
close-owns n s owns =
    open-keeps OneOwner (file_of n s.resources) s _ owns
    (λ at e. either-keeps {T = Unit {0}} OneOwner (n == 0) (refused PROFILE s) _ (λ system. owns)
    (λ own. updated-keeps OneOwner at s (λ r. done tt (closed_file at r s)) owns
    (λ r is. let left = closed-owned s.resources.chain at s.memory
    (split-whole (λ f. f.number == n) s.resources.chain at e) owns.one in
    update-comes (λ q. OneOwner (closed_file at q s)) s.memory.heap at s.resources r
    (record { one = left; numbered = owns.numbered }) (record { one = left; numbered = owns.numbered }) is)))

-- a file is made
create-owns : (name : List ℕ) (o : Option (Split File)) (s : Managers) → OneOwner s
    → OneOwner (create_named name o s).after
create-owns name None s owns =
    either-keeps {T = Unit {0}} OneOwner (nat_le most_files (length s.resources.files)) (refused DISK_FULL s) _
    (λ full. owns) (λ more. record { one = owns.one; numbered = owns.numbered })
create-owns name (Some at) s owns =
    either-keeps {T = Unit {0}} OneOwner (length at.here.fork == 0) _ (refused DUPLICATE_FILE s)
    (λ empty. record { one = owns.one; numbered = owns.numbered }) (λ some. owns)

-- the attributes of a file are set: its references stay
set_file-owns : (n attrs : ℕ) (s : Managers) → OneOwner s → OneOwner (changing.set_res_file_attrs n attrs s).after
set_file-owns n attrs s owns = by_file (file_of n s.resources) (split-whole (λ f. f.number == n) s.resources.chain)
  where
    by_file : (o : Option (Split OpenFile))
        → ((at : Split OpenFile) → o ≡ Some at → replaced at.here at ≡ s.resources.chain)
        → OneOwner (changing.set_file n attrs o s).after
    by_file None whole = owns
    by_file (Some at) whole = either-keeps {T = Unit {0}} OneOwner (n == 0) (refused WRITE_PERMISSION s) _ (λ system. owns)
        (λ own. record {
          one = λ h. flat_map-append (owners_in h) at.before (with_map_attrs attrs at.here ∷ at.after)
              ∙ sym (flat_map-append (owners_in h) at.before (at.here ∷ at.after)) ∙ ap (owners h) (whole at refl)
              ∙ owns.one h;
          numbered = owns.numbered;
        })

-- a resource is added with an application's own handle
pub own-file : (n : ℕ) (s : Managers) (at : Split OpenFile) → file_of n s.resources ≡ Some at → (n == 0) ≡ false
    → is_system at.here ≡ false
own-file n s at e own =
    ap (λ (m : ℕ). m == 0)
    ((Decides-eqb at.here.number n).0 (split-passes (λ f. f.number == n) s.resources.chain at e)) ∙ own

add-owns : (handle : Option ℕ) (kind : ℕ) (id : ℤ) (text : List ℕ) (s : Managers) → OneOwner s
    → OneOwner (changing.add_resource handle kind id text s).after
add-owns handle kind id text s owns =
    known-keeps OneOwner (handle_at handle s.memory.heap) s _ owns
    (λ k is. let known = known-name handle s.memory.heap k is in
    either-keeps {T = Unit {0}} OneOwner (is_resource k.role || not (has_block k.number s.memory.heap))
    (refused ADD_RES_FAILED s) _ (λ barred. owns)
    (λ free. either-keeps {T = Unit {0}} OneOwner (s.resources.current == 0) (refused WRITE_PERMISSION s) _
    (λ system. owns)
    (λ own. open-keeps OneOwner (file_of s.resources.current s.resources) s _ owns
    (λ at e. record {
      one = one-added s.resources.chain s.memory.heap (cast (owned_as true) k.number s.memory.heap) at kind id text
          k.number (split-whole (λ f. f.number == s.resources.current) s.resources.chain at e)
          (ap resource_role (own-file s.resources.current s at e own)) owns.one
          (own-role s.memory.heap k known.1 (or_parts (is_resource k.role) _ free).0)
          (added-roles s.memory.heap k known.1);
      numbered = owns.numbered;
    }))))

-- it is removed again
remove-owns : (handle : Option ℕ) (s : Managers) → OneOwner s → OneOwner (changing.remove_resource handle s).after
remove-owns handle s owns =
    known-keeps OneOwner (handle_at handle s.memory.heap) s _ owns
    (λ k is. removable-keeps {T = Unit {0}} OneOwner (resource_of handle s.resources) s _ owns
    (λ at e. let held = (resource-holds handle s at e).1 k.number (known-name handle s.memory.heap k is).0 in
    either-keeps {T = Unit {0}} OneOwner (is_system at.file.here) (refused WRITE_PERMISSION s) _ (λ system. owns)
    (λ own. either-keeps {T = Unit {0}} OneOwner
    (not (at.file.here.number == s.resources.current) || is_protected at.reference.here) (refused REMOVE_RES_FAILED s)
    _ (λ barred. owns)
    (λ free. record {
      one = one-removed s.resources.chain s.memory.heap (cast (owned_as false) k.number s.memory.heap) at k.number
          held.0 held.1 owns.one (own-roles k.number s.memory.heap);
      numbered = owns.numbered;
    }))))

-- a reference is changed, and keeps its handle
pub changed-owns : (s : Managers) (at : Found) (x : Reference) (t : Bool) → Stands s.resources.chain at
    → x.handle ≡ at.reference.here.handle → OneOwner s
    → OneOwner (with_resources (record s.resources {
      chain = replaced (with_references (replaced x at.reference) t at.file.here) at.file;
    }) s)
changed-owns s at x t stands held owns = record {
  one = one-changed s.resources.chain s.memory.heap at x t stands held owns.one;
  numbered = owns.numbered;
}

mark-owns : (handle : Option ℕ) (s : Managers) → OneOwner s → OneOwner (changing.changed_resource handle s).after
mark-owns handle s owns =
    changeable-keeps OneOwner handle s _ owns
    (λ at e own. changed-owns s at (marked at.reference.here) true (resource-holds handle s at e).0 refl owns)

write-owns : (handle : Option ℕ) (s : Managers) → OneOwner s → OneOwner (changing.write_resource handle s).after
write-owns handle s owns =
    found-keeps OneOwner (resource_of handle s.resources) s _ owns
    (λ at e. either-keeps {T = Unit {0}} OneOwner
    (is_changed at.reference.here && not (is_protected at.reference.here)) _ (done tt s)
    (λ changed. by_bytes at (resource-holds handle s at e).0 (bytes_held handle s.memory.heap)) (λ plain. owns))
  where
    by_bytes : (at : Found) → Stands s.resources.chain at → (o : Option (List ℕ)) → OneOwner (stored_if o at s)
    by_bytes at stands None = owns
    by_bytes at stands (Some bytes) = changed-owns s at (stored_anew (Some bytes) at.reference.here)
        at.file.here.touched stands refl owns

info-owns : (handle : Option ℕ) (id : ℤ) (text : List ℕ) (s : Managers) → OneOwner s
    → OneOwner (changing.set_res_info handle id text s).after
info-owns handle id text s owns =
    changeable-keeps OneOwner handle s _ owns
    (λ at e own. changed-owns s at (renamed id text at.reference.here) at.file.here.touched
    (resource-holds handle s at e).0 refl owns)

attrs-owns : (handle : Option ℕ) (attrs : ℕ) (s : Managers) → OneOwner s
    → OneOwner (changing.set_res_attrs handle attrs s).after
attrs-owns handle attrs s owns =
    found-keeps OneOwner (resource_of handle s.resources) s _ owns
    (λ at e. changed-owns s at (with_attrs (set attrs at.reference.here.stored.attrs) at.reference.here)
    at.file.here.touched (resource-holds handle s at e).0 refl owns)

restored-owns : (o : Option OsErr) (change : List ℕ → List ℕ) (handle : Option ℕ) (s : Managers) (at : Found)
    → resource_of handle s.resources ≡ Some at → OneOwner s → OneOwner (restored_unless o handle change at s).after
restored-owns (Some code) change handle s at e owns = owns
restored-owns None change handle s at e owns =
    let after : Managers = with_resources (restored change at s.resources) s in
    let kept : OneOwner after = changed-owns s at (with_datum (change at.reference.here.stored.datum) at.reference.here) true
    (resource-holds handle s at e).0 refl owns in
    either-keeps {T = Unit {0}} OneOwner (is_in_memory handle s.memory.heap) (refused IN_MEMORY after) (done tt after)
    (λ held. kept) (λ empty. kept)

write_part-owns : (handle : Option ℕ) (from : ℕ) (x : List ℕ) (s : Managers) → OneOwner s
    → OneOwner (partial.write_partial_resource handle from x s).after
write_part-owns handle from x s owns =
    found-keeps OneOwner (resource_of handle s.resources) s _ owns
    (λ at e. restored-owns (write_refusal from (length x) at) (written from x) handle s at e owns)

set_size-owns : (handle : Option ℕ) (n : ℕ) (s : Managers) → OneOwner s
    → OneOwner (partial.set_resource_size handle n s).after
set_size-owns handle n s owns =
    found-keeps OneOwner (resource_of handle s.resources) s _ owns
    (λ at e. restored-owns (size_refusal n at) (resized_datum n) handle s at e owns)

read_part-owns : (handle : Option ℕ) (from n : ℕ) (s : Managers) → OneOwner s
    → OneOwner (partial.read_partial_resource handle from n s).after
read_part-owns handle from n s owns =
    found-keeps OneOwner (resource_of handle s.resources) s (read_part_found handle from n s) owns
    (λ at e. either-keeps OneOwner (nat_lt (length at.reference.here.stored.datum) (from + n)) (refused OFFSET s) _
    (λ past. owns) (λ inside. either-keeps OneOwner (is_in_memory handle s.memory.heap) (refused IN_MEMORY s)
    (done (piece from n at.reference.here.stored.datum) s) (λ held. owns) (λ empty. owns)))

told-owns : (code : OsErr) (o : Option ℕ) (s : Managers) → OneOwner s → OneOwner (told_or code o s).after
told-owns code None s owns = owns
told-owns code (Some n) s owns = owns

-- the code that ResError tells is no matter
noted : {T : Type 0} (call : Managers → Answer T) (s : Managers) → OneOwner (call s).after
    → OneOwner (noting call s).after
noted call s owns = record { one = owns.one; numbered = owns.numbered }

-- each call
pub one-owner-served : (a : ResourceAsked) (s : Managers) → OneOwner s → OneOwner (served a s).after
one-owner-served (asks.OpenResFile name) s owns =
    noted (rows.open_res_file name) s (named-owns (file_named name s.resources) s owns)
one-owner-served (asks.CreateResFile name) s owns =
    noted (changing.create_res_file name) s (create-owns name (file_named name s.resources) s owns)
one-owner-served (asks.CloseResFile n) s owns = noted (rows.close_res_file n) s (close-owns n s owns)
one-owner-served (asks.UpdateResFile n) s owns = noted (rows.update_res_file n) s (update-owns n s owns)
one-owner-served (asks.UseResFile n) s owns =
    noted (rows.use_res_file n) s
    (open-keeps OneOwner (file_of n s.resources) s _ owns (λ at e. record { one = owns.one; numbered = owns.numbered }))
one-owner-served asks.CurResFile s owns = noted rows.cur_res_file s owns
one-owner-served (asks.GetResFileAttrs n) s owns =
    noted (rows.get_res_file_attrs n) s (open-keeps OneOwner (file_of n s.resources) s _ owns (λ at e. owns))
one-owner-served (asks.SetResFileAttrs n attrs) s owns =
    noted (changing.set_res_file_attrs n attrs) s (set_file-owns n attrs s owns)
one-owner-served (asks.HomeResFile handle) s owns =
    noted (rows.home_res_file handle) s (found-keeps OneOwner (resource_of handle s.resources) s _ owns (λ at e. owns))
one-owner-served (asks.GetResource kind id) s owns =
    noted (rows.get_resource kind id) s
    (searched-owns (λ f. nat_le f.number s.resources.current) (is_wanted kind id) s owns)
one-owner-served (asks.Get1Resource kind id) s owns =
    noted (rows.get1_resource kind id) s
    (searched-owns (λ f. f.number == s.resources.current) (is_wanted kind id) s owns)
one-owner-served (asks.GetNamedResource kind name) s owns =
    noted (rows.get_named_resource kind name) s
    (searched-owns (λ f. nat_le f.number s.resources.current) (is_named kind name) s owns)
one-owner-served (asks.Get1NamedResource kind name) s owns =
    noted (rows.get1_named_resource kind name) s
    (searched-owns (λ f. f.number == s.resources.current) (is_named kind name) s owns)
one-owner-served (asks.CountTypes among) s owns = noted (rows.count_types among) s owns
one-owner-served (asks.GetIndType among index) s owns = noted (rows.get_ind_type among index) s (told-owns _ _ s owns)
one-owner-served (asks.CountResources among kind) s owns = noted (rows.count_resources among kind) s owns
one-owner-served (asks.GetIndResource among kind index) s owns =
    noted (rows.get_ind_resource among kind index) s
    (fetched-owns (nth_among among kind index s.resources) s owns
    (λ at e. among-stands among kind index s.resources at e))
one-owner-served (asks.UniqueID among kind) s owns =
    noted (rows.unique_id among kind) s (told-owns _ _ s owns)
one-owner-served (asks.LoadResource handle) s owns =
    noted (rows.load_resource handle) s
    (found-keeps OneOwner (resource_of handle s.resources) s _ owns
    (λ at e. fetch-owns true at s (resource-holds handle s at e).0 owns at.reference.here.handle refl))
one-owner-served (asks.ReleaseResource handle) s owns =
    noted (rows.release_resource handle) s (release-owns handle s owns)
one-owner-served (asks.DetachResource handle) s owns =
    noted (rows.detach_resource handle) s (detach-owns handle s owns)
one-owner-served (asks.AddResource handle kind id name) s owns =
    noted (changing.add_resource handle kind id name) s (add-owns handle kind id name s owns)
one-owner-served (asks.RemoveResource handle) s owns =
    noted (changing.remove_resource handle) s (remove-owns handle s owns)
one-owner-served (asks.ChangedResource handle) s owns =
    noted (changing.changed_resource handle) s (mark-owns handle s owns)
one-owner-served (asks.WriteResource handle) s owns =
    noted (changing.write_resource handle) s (write-owns handle s owns)
one-owner-served (asks.GetResInfo handle) s owns =
    noted (rows.get_res_info handle) s (found-keeps OneOwner (resource_of handle s.resources) s _ owns (λ at e. owns))
one-owner-served (asks.SetResInfo handle id name) s owns =
    noted (changing.set_res_info handle id name) s (info-owns handle id name s owns)
one-owner-served (asks.GetResAttrs handle) s owns =
    noted (rows.get_res_attrs handle) s (found-keeps OneOwner (resource_of handle s.resources) s _ owns (λ at e. owns))
one-owner-served (asks.SetResAttrs handle attrs) s owns =
    noted (changing.set_res_attrs handle attrs) s (attrs-owns handle attrs s owns)
one-owner-served (asks.GetResourceSizeOnDisk handle) s owns =
    noted (rows.get_resource_size_on_disk handle) s
    (found-keeps OneOwner (resource_of handle s.resources) s _ owns (λ at e. owns))
one-owner-served (asks.ReadPartialResource handle from n) s owns =
    noted (partial.read_partial_resource handle from n) s (read_part-owns handle from n s owns)
one-owner-served (asks.WritePartialResource handle from x) s owns =
    noted (partial.write_partial_resource handle from x) s (write_part-owns handle from x s owns)
one-owner-served (asks.SetResourceSize handle n) s owns =
    noted (partial.set_resource_size handle n) s (set_size-owns handle n s owns)
one-owner-served (asks.SetResPurge on) s owns =
    noted (rows.set_res_purge on) s (record { one = owns.one; numbered = owns.numbered })
one-owner-served (asks.SetResLoad on) s owns =
    noted (rows.set_res_load on) s (record { one = owns.one; numbered = owns.numbered })
one-owner-served asks.ResError s owns = owns

-- a heap without a resource's handle, and files that were just opened
pub one-owner-fresh : (files : List File) (own system : Map) (m : Memory) → Bare own.references
    → Bare system.references → ((h : ℕ) → resource_role_at h m.heap ≡ None)
    → OneOwner (record { memory = m; resources = fresh_resources files own system })
one-owner-fresh files own system m bare plain none = record {
  one = λ h.
      let app : OpenFile = opened 2 (Some 0) own in
      let sys : OpenFile = opened 0 None system in
      ap (λ (l : List Role). l ++ owners h (sys ∷ [])) (bare-owners h (role_in app) own.references bare)
      ∙ ap (λ (l : List Role). l ++ []) (bare-owners h (role_in sys) system.references plain)
      ∙ ap option_to_list (sym (none h));
  numbered = omega arith;
}

-- and with those of the application's resources that are read at once
pub one-owner-preloaded : (files : List File) (own system : Map) (m : Memory) → Bare own.references
    → Bare system.references → ((h : ℕ) → resource_role_at h m.heap ≡ None)
    → OneOwner (preloaded (record { memory = m; resources = fresh_resources files own system })).0
one-owner-preloaded files own system m bare plain none = record {
  one = loaded-owned (opened 2 (Some 0) own) (record { memory = m; resources = fresh_resources files own system })
      (opened 0 None system ∷ []) refl bare
      (λ h. ap (λ (l : List Role). l ++ []) (bare-owners h (role_in (opened 0 None system)) system.references plain)
      ∙ ap option_to_list (sym (none h)));
  numbered = omega arith;
}
