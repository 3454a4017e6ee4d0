use Rattle.applications.proofs.Cited.{◌≡◌, ◌∙◌, ℕ, ◌==◌, Bool, true, false, refl, sym, cond, List, Option, Some, None, Result, Ok, Err, ◌⊎◌}
use Rattle.applications.proofs.Cited.{inl, inr, ◌+◌, ap, subst, [], IfOk, IsOk, AllocError, nat_lt, nat_le, not, ◌&&◌, if◌then◌else◌, OsErr}
use Rattle.applications.proofs.Cited.{Told, Bytes, Done, Number, Kind, IN_MEMORY, OFFSET, PROFILE, resized_datum, piece, written, code_of}
use Rattle.applications.proofs.Cited.{Gone, Split, place, Map, is_changed, is_protected, File, OpenFile, Resources, Found, file_named}
use Rattle.applications.proofs.Cited.{file_of, open_at, Managers, Answer, done, refused, is_system, on_found, on_open, on_resource}
use Rattle.applications.proofs.Cited.{resource_of, bars, told_or, open_fork, open_unless, keep_error, with_resources, open_named}
use Rattle.applications.proofs.Cited.{greatest_number, map_in, open_map, if_updated, most_files, create_named, on_known, on_removable}
use Rattle.applications.proofs.Cited.{if_changeable, set_file, update, gone_for, is_in_memory, read_part_found, read_partial_resource}
use Rattle.applications.proofs.Cited.{restored_unless, size_refusal, write_refusal, heard, stored_gone, heard-none, Known, handle_at}
use Rattle.applications.proofs.Cited.{is_resource, has_block, told_as, ResourceAsked, Served, tell_fetched, tell_info, fetches, Running}
use Rattle.applications.proofs.Cited.{resource_tried, bytes_told, TellsServed, IsTried}
use Rattle.std.specs.Prelude.{length, ◌||◌}
use Rattle.res_calls.specs.Fetch.{Fetched}
use Rattle.res_calls.specs.Rows.{Info}
use Rattle.res_calls.specs.Asked.{served}
use Rattle.res_calls.specs.Asked as asks
use Rattle.applications.specs.declared.tried.Tried.{Tried}

-- What a call of the Resource Manager shows and reads again.

-- what tells no bytes
pub told-none : {T : Type 0} (tell : T → Told) → ((x : T) → bytes_told (tell x) ≡ None) → (r : Result T OsErr)
    → bytes_told (told_as tell r) ≡ None
told-none tell none (Ok x) = none x
told-none tell none (Err code) = refl

-- one call alone shows bytes
abbrev pub is_quiet : ResourceAsked → Bool
is_quiet (asks.ReadPartialResource handle from n) = false
is_quiet a = true

-- any other shows none
pub found-shows-none : (a : ResourceAsked) (s : Managers) → is_quiet a ≡ true → bytes_told (served a s).told ≡ None
found-shows-none (asks.OpenResFile name) s quiet = told-none {T = ℕ} Number (λ x. refl) _
found-shows-none (asks.CreateResFile name) s quiet = told-none {T = Unit {0}} (λ x. Done) (λ x. refl) _
found-shows-none (asks.CloseResFile number) s quiet = told-none {T = Unit {0}} (λ x. Done) (λ x. refl) _
found-shows-none (asks.UpdateResFile number) s quiet = told-none {T = Unit {0}} (λ x. Done) (λ x. refl) _
found-shows-none (asks.UseResFile number) s quiet = told-none {T = Unit {0}} (λ x. Done) (λ x. refl) _
found-shows-none asks.CurResFile s quiet = refl
found-shows-none (asks.HomeResFile handle) s quiet = told-none {T = ℕ} Number (λ x. refl) _
found-shows-none (asks.GetResource kind id) s quiet = told-none {T = Fetched} tell_fetched (λ x. refl) _
found-shows-none (asks.Get1Resource kind id) s quiet = told-none {T = Fetched} tell_fetched (λ x. refl) _
found-shows-none (asks.GetNamedResource kind name) s quiet = told-none {T = Fetched} tell_fetched (λ x. refl) _
found-shows-none (asks.Get1NamedResource kind name) s quiet = told-none {T = Fetched} tell_fetched (λ x. refl) _
found-shows-none (asks.GetResFileAttrs number) s quiet = told-none {T = ℕ} Number (λ x. refl) _
found-shows-none (asks.SetResFileAttrs number attrs) s quiet = told-none {T = Unit {0}} (λ x. Done) (λ x. refl) _
found-shows-none (asks.CountTypes among) s quiet = refl
found-shows-none (asks.GetIndType among index) s quiet = told-none {T = ℕ} Kind (λ x. refl) _
found-shows-none (asks.CountResources among kind) s quiet = refl
found-shows-none (asks.GetIndResource among kind index) s quiet = told-none {T = Fetched} tell_fetched (λ x. refl) _
found-shows-none (asks.UniqueID among kind) s quiet = told-none {T = ℕ} Number (λ x. refl) _
found-shows-none (asks.LoadResource handle) s quiet = told-none {T = Fetched} tell_fetched (λ x. refl) _
found-shows-none (asks.ReleaseResource handle) s quiet = told-none {T = Unit {0}} (λ x. Done) (λ x. refl) _
found-shows-none (asks.DetachResource handle) s quiet = told-none {T = Unit {0}} (λ x. Done) (λ x. refl) _
found-shows-none (asks.AddResource handle kind id name) s quiet = told-none {T = Unit {0}} (λ x. Done) (λ x. refl) _
found-shows-none (asks.RemoveResource handle) s quiet = told-none {T = Unit {0}} (λ x. Done) (λ x. refl) _
found-shows-none (asks.ChangedResource handle) s quiet = told-none {T = Unit {0}} (λ x. Done) (λ x. refl) _
found-shows-none (asks.WriteResource handle) s quiet = told-none {T = Unit {0}} (λ x. Done) (λ x. refl) _
found-shows-none (asks.GetResInfo handle) s quiet = told-none {T = Info} tell_info (λ x. refl) _
found-shows-none (asks.SetResInfo handle id name) s quiet = told-none {T = Unit {0}} (λ x. Done) (λ x. refl) _
found-shows-none (asks.GetResAttrs handle) s quiet = told-none {T = ℕ} Number (λ x. refl) _
found-shows-none (asks.SetResAttrs handle attrs) s quiet = told-none {T = Unit {0}} (λ x. Done) (λ x. refl) _
found-shows-none (asks.GetResourceSizeOnDisk handle) s quiet = told-none {T = ℕ} Number (λ x. refl) _
found-shows-none (asks.ReadPartialResource handle from n) s quiet = cc
found-shows-none (asks.WritePartialResource handle from x) s quiet = told-none {T = Unit {0}} (λ x. Done) (λ x. refl) _
found-shows-none (asks.SetResourceSize handle n) s quiet = told-none {T = Unit {0}} (λ x. Done) (λ x. refl) _
found-shows-none (asks.SetResPurge on) s quiet = refl
found-shows-none (asks.SetResLoad on) s quiet = refl
found-shows-none asks.ResError s quiet = refl

-- the call that shows bytes
abbrev ShowsPart : ResourceAsked → Type 0
ShowsPart a = (handle : Option ℕ) × (from : ℕ) × (n : ℕ) × (a ≡ asks.ReadPartialResource handle from n)

quiet-or-part : (a : ResourceAsked) → (is_quiet a ≡ true) ⊎ ShowsPart a
quiet-or-part (asks.ReadPartialResource handle from n) = inr (handle, from, n, refl)
quiet-or-part a = inl refl

-- reading a part changes nothing but the code that ResError tells
read_part-after : (handle : Option ℕ) (from n : ℕ) (s : Managers) → (read_partial_resource handle from n s).after ≡ s
read_part-after handle from n s = by_found (resource_of handle s.resources)
  where
    by_found : (found : Option Found) → (on_found found s (read_part_found handle from n s)).after ≡ s
    by_found None = refl
    by_found (Some at) = by_tests (nat_lt (length at.reference.here.stored.datum) (from + n))
        (is_in_memory handle s.memory.heap)
      where
        by_tests : (past held : Bool) → (cond {A = Answer (List ℕ)} past (refused OFFSET s)
            (cond held (refused IN_MEMORY s) (done (piece from n at.reference.here.stored.datum) s))).after ≡ s
        by_tests true held = refl
        by_tests false true = refl
        by_tests false false = refl

-- and what it answers does not depend on that code
read_part-reply : (handle : Option ℕ) (from n : ℕ) (code : OsErr) (s : Managers)
    → (read_partial_resource handle from n (keep_error code s)).reply ≡ (read_partial_resource handle from n s).reply
read_part-reply None from n code s = refl
read_part-reply (Some h) from n code s = by_found (resource_of (Some h) s.resources)
  where
    by_found : (found : Option Found)
        → (on_found found (keep_error code s) (read_part_found (Some h) from n (keep_error code s))).reply
        ≡ (on_found found s (read_part_found (Some h) from n s)).reply
    by_found None = refl
    by_found (Some at) = by_tests (nat_lt (length at.reference.here.stored.datum) (from + n))
        (is_in_memory (Some h) s.memory.heap)
      where
        by_tests : (past held : Bool) → (cond {A = Answer (List ℕ)} past (refused OFFSET (keep_error code s))
            (cond held (refused IN_MEMORY (keep_error code s))
            (done (piece from n at.reference.here.stored.datum) (keep_error code s)))).reply
            ≡ (cond {A = Answer (List ℕ)} past (refused OFFSET s)
            (cond held (refused IN_MEMORY s) (done (piece from n at.reference.here.stored.datum) s))).reply
        by_tests true held = refl
        by_tests false true = refl
        by_tests false false = refl

-- so it is read again alike, once the code is set and what was purged is stored
part-again : (handle : Option ℕ) (from n : ℕ) (on : Bool) (s : Managers)
    → bytes_told (served (asks.ReadPartialResource handle from n)
    (with_resources (stored_gone (heard on []) (served (asks.ReadPartialResource handle from n) s).after.resources)
    (served (asks.ReadPartialResource handle from n) s).after)).told
    ≡ bytes_told (served (asks.ReadPartialResource handle from n) s).told
part-again handle from n on s =
    ap (λ (gone : List Gone). bytes_told (served (asks.ReadPartialResource handle from n)
    (with_resources (stored_gone gone (served (asks.ReadPartialResource handle from n) s).after.resources)
    (served (asks.ReadPartialResource handle from n) s).after)).told) (heard-none on)
    ∙ ap (λ (t : Managers). bytes_told (served (asks.ReadPartialResource handle from n)
    (keep_error (code_of (read_partial_resource handle from n s).reply) t)).told) (read_part-after handle from n s)
    ∙ ap (λ (r : Result (List ℕ) OsErr). bytes_told (told_as Bytes r))
    (read_part-reply handle from n (code_of (read_partial_resource handle from n s).reply) s)

-- what a call tells in the managers that its try leaves shows the same bytes
pub found-again : (a : ResourceAsked) (on : Bool) (s : Managers)
    → bytes_told (served a (with_resources (stored_gone (heard on (gone_for a s)) (served a s).after.resources)
    (served a s).after)).told
    ≡ bytes_told (served a s).told
found-again a on s = by_call (quiet-or-part a)
  where
    by_call : (is_quiet a ≡ true) ⊎ ShowsPart a
        → bytes_told (served a (with_resources (stored_gone (heard on (gone_for a s)) (served a s).after.resources)
        (served a s).after)).told
        ≡ bytes_told (served a s).told
    by_call (inl quiet) = found-shows-none a _ quiet ∙ sym (found-shows-none a s quiet)
    by_call (inr (handle, from, n, is)) = subst (λ (b : ResourceAsked).
        bytes_told (served b (with_resources (stored_gone (heard on (gone_for b s)) (served b s).after.resources)
        (served b s).after)).told
        ≡ bytes_told (served b s).told) (sym is) (part-again handle from n on s)

-- a reply that is a value tells its bytes
pub ok_told : (r : Result (List ℕ) OsErr) → IsOk r → (bytes : List ℕ) × (r ≡ Ok bytes)
ok_told (Ok bytes) is = (bytes, refl)
ok_told (Err code) is = cc

-- a call on a reference reads no more again than it does where there is one
on_found-none : {T : Type 0} (found : Option Found) (s : Managers) (answer : Found → Answer T)
    → ((at : Found) → (answer at).reading ≡ None) → (on_found found s answer).reading ≡ None
on_found-none None s answer none = refl
on_found-none (Some at) s answer none = none at

on_open-none : {T : Type 0} (open_file : Option (Split OpenFile)) (s : Managers) (answer : Split OpenFile → Answer T)
    → ((at : Split OpenFile) → (answer at).reading ≡ None) → (on_open open_file s answer).reading ≡ None
on_open-none None s answer none = refl
on_open-none (Some at) s answer none = none at

-- one of two answers, of which neither reads again
either-none : {T : Type 0} (t : Bool) (a b : Answer T) → a.reading ≡ None → b.reading ≡ None
    → (cond t a b).reading ≡ None
either-none true a b first second = first
either-none false a b first second = second

-- nor does an opening
fork-none : (i : ℕ) (fork : List ℕ) (s : Managers) → (open_fork i fork s).reading ≡ None
fork-none i fork s = either-none (nat_lt greatest_number s.resources.next) (refused PROFILE s)
    (open_map i (map_in fork) s) refl (map-none (map_in fork))
  where
    map-none : (read : Result Map OsErr) → (open_map i read s).reading ≡ None
    map-none (Ok map) = refl
    map-none (Err code) = refl

opening-none : (file : Option (Split File)) (s : Managers) → (open_named file s).reading ≡ None
opening-none None s = refl
opening-none (Some at) s = unless (open_at (place at) s.resources)
  where
    unless : (open_file : Option (Split OpenFile)) → (open_unless at open_file s).reading ≡ None
    unless None = fork-none (place at) at.here.fork s
    unless (Some f) = refl

-- nor what follows an update
updated-none : {T : Type 0} (r : Option Resources) (s : Managers) (answer : Resources → Answer T)
    → ((r : Resources) → (answer r).reading ≡ None) → (if_updated r s answer).reading ≡ None
updated-none None s answer none = refl
updated-none (Some r) s answer none = none r

-- nor what is answered on a handle, and on a resource that may be changed
known-none : {T : Type 0} (known : Result Known OsErr) (s : Managers) (answer : Known → Answer T)
    → ((k : Known) → (answer k).reading ≡ None) → (on_known known s answer).reading ≡ None
known-none (Err code) s answer none = refl
known-none (Ok k) s answer none = none k

removable-none : {T : Type 0} (found : Option Found) (s : Managers) (answer : Found → Answer T)
    → ((at : Found) → (answer at).reading ≡ None) → (on_removable found s answer).reading ≡ None
removable-none None s answer none = refl
removable-none (Some at) s answer none = none at

changeable-none : {T : Type 0} (handle : Option ℕ) (s : Managers) (answer : Found → Answer T)
    → ((at : Found) → (answer at).reading ≡ None) → (on_resource handle s (if_changeable answer s)).reading ≡ None
changeable-none handle s answer none = on_found-none (resource_of handle s.resources) s _
    (λ at. either-none (is_system at.file.here) _ _ refl
    (either-none (is_protected at.reference.here) _ _ refl (none at)))

-- nor a change of stored data
restored-none : (o : Option OsErr) (handle : Option ℕ) (change : List ℕ → List ℕ) (at : Found) (s : Managers)
    → (restored_unless o handle change at s).reading ≡ None
restored-none (Some code) handle change at s = refl
restored-none None handle change at s = either-none (is_in_memory handle s.memory.heap) _ _ refl refl

-- nor the making of a file
made-none : (name : List ℕ) (file : Option (Split File)) (s : Managers) → (create_named name file s).reading ≡ None
made-none name None s = either-none (nat_le most_files (length s.resources.files)) _ _ refl refl
made-none name (Some at) s = either-none (length at.here.fork == 0) _ _ refl refl

-- nor the setting of a file's attributes
set_file-none : (n attrs : ℕ) (o : Option (Split OpenFile)) (s : Managers) → (set_file n attrs o s).reading ≡ None
set_file-none n attrs None s = refl
set_file-none n attrs (Some at) s = either-none {T = Unit {0}} (n == 0) _ _ refl refl

told-one-none : (code : OsErr) (o : Option ℕ) (s : Managers) → (told_or code o s).reading ≡ None
told-one-none code None s = refl
told-one-none code (Some n) s = refl

-- only calls that read resources read one again
reads-again : (a : ResourceAsked) (s : Managers)
    → (if fetches a then (served a s).reading else None) ≡ (served a s).reading
reads-again (asks.OpenResFile name) s = sym (opening-none (file_named name s.resources) s)
reads-again (asks.CreateResFile name) s = sym (made-none name (file_named name s.resources) s)
reads-again (asks.CloseResFile number) s = sym (on_open-none (file_of number s.resources) s _
    (λ at. either-none (number == 0) _ _ refl
    (updated-none (update s.memory.heap at s.resources) s _ (λ r. refl))))
reads-again (asks.UpdateResFile number) s = sym (on_open-none (file_of number s.resources) s _
    (λ at. either-none (number == 0) _ _ refl
    (updated-none (update s.memory.heap at s.resources) s _ (λ r. refl))))
reads-again (asks.UseResFile number) s = sym (on_open-none (file_of number s.resources) s _ (λ at. refl))
reads-again (asks.HomeResFile handle) s = sym (on_found-none (resource_of handle s.resources) s _ (λ at. refl))
reads-again (asks.GetResFileAttrs number) s = sym (on_open-none (file_of number s.resources) s _ (λ at. refl))
reads-again (asks.SetResFileAttrs number attrs) s = sym (set_file-none number attrs (file_of number s.resources) s)
reads-again (asks.GetIndType among index) s = sym (told-one-none _ _ s)
reads-again (asks.UniqueID among kind) s = sym (told-one-none _ _ s)
reads-again (asks.ReleaseResource handle) s = sym (on_found-none (resource_of handle s.resources) s _
    (λ at. either-none (bars handle s.memory) _ _ refl (either-none (is_changed at.reference.here) _ _ refl refl)))
reads-again (asks.DetachResource handle) s = sym (on_found-none (resource_of handle s.resources) s _
    (λ at. either-none (is_changed at.reference.here) _ _ refl refl))
reads-again (asks.AddResource handle kind id name) s = sym (known-none (handle_at handle s.memory.heap) s _
    (λ k. either-none (is_resource k.role || not (has_block k.number s.memory.heap)) _ _ refl
    (either-none (s.resources.current == 0) _ _ refl
    (on_open-none (file_of s.resources.current s.resources) s _ (λ at. refl)))))
reads-again (asks.RemoveResource handle) s = sym (known-none (handle_at handle s.memory.heap) s _
    (λ k. removable-none (resource_of handle s.resources) s _
    (λ at. either-none (is_system at.file.here) _ _ refl
    (either-none (not (at.file.here.number == s.resources.current) || is_protected at.reference.here) _ _ refl refl))))
reads-again (asks.ChangedResource handle) s = sym (changeable-none handle s _ (λ at. refl))
reads-again (asks.WriteResource handle) s = sym (on_found-none (resource_of handle s.resources) s _
    (λ at. either-none (is_changed at.reference.here && not (is_protected at.reference.here)) _ _ refl refl))
reads-again (asks.GetResInfo handle) s = sym (on_found-none (resource_of handle s.resources) s _ (λ at. refl))
reads-again (asks.SetResInfo handle id name) s = sym (changeable-none handle s _ (λ at. refl))
reads-again (asks.GetResAttrs handle) s = sym (on_found-none (resource_of handle s.resources) s _ (λ at. refl))
reads-again (asks.SetResAttrs handle attrs) s = sym (on_found-none (resource_of handle s.resources) s _ (λ at. refl))
reads-again (asks.GetResourceSizeOnDisk handle) s =
    sym (on_found-none (resource_of handle s.resources) s _ (λ at. refl))
reads-again (asks.ReadPartialResource handle from n) s = sym (on_found-none (resource_of handle s.resources) s _
    (λ at. either-none (nat_lt (length at.reference.here.stored.datum) (from + n)) _ _ refl
    (either-none (is_in_memory handle s.memory.heap) _ _ refl refl)))
reads-again (asks.WritePartialResource handle from x) s = sym (on_found-none (resource_of handle s.resources) s _
    (λ at. restored-none (write_refusal from (length x) at) handle (written from x) at s))
reads-again (asks.SetResourceSize handle n) s = sym (on_found-none (resource_of handle s.resources) s _
    (λ at. restored-none (size_refusal n at) handle (resized_datum n) at s))
reads-again a s = refl

-- a try that tells what a call came to is that of the definitions
is_tried : (tried : Tried) (a : ResourceAsked) (s : Managers) (r : Running)
    → TellsServed tried (served a s) (fetches a) → IsTried tried (resource_tried (served a s) r)
is_tried tried a s r tells = record {
  reply = tells.reply;
  given = tells.given;
  reading = λ wants. tells.reading wants ∙ reads-again a s;
  wants = tells.wants;
  over = tells.over;
}

-- and so is one that may have found no memory
pub are_tried : (result : Result Tried AllocError) (a : ResourceAsked) (s : Managers) (r : Running)
    → IfOk result (λ tried. TellsServed tried (served a s) (fetches a))
    → IfOk result (λ tried. IsTried tried (resource_tried (served a s) r))
are_tried (Ok tried) a s r tells = is_tried tried a s r tells
are_tried (Err e) a s r tells = tt

-- no bytes are shown by any other call of the Resource Manager
pub shows_nothing : (a : ResourceAsked) (s : Managers) → is_quiet a ≡ true → None ≡ bytes_told (served a s).told
shows_nothing a s quiet = sym (found-shows-none a s quiet)
