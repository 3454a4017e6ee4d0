use Rattle.res_calls.proofs.Cited.{◌≡◌, ℕ, Bool, true, false, true≢false, Option, Some, None, Result, Ok, Err, List, [], refl, sym, ◌∙◌, ap}
use Rattle.res_calls.proofs.Cited.{inl, length, nat_lt, ◌+◌, ◌==◌, if◌then◌else◌, OsErr, IN_MEMORY, OFFSET, RES_ATTR, RES_NOT_FOUND}
use Rattle.res_calls.proofs.Cited.{TOO_LONG, WRITE_PERMISSION, Told, Bytes, Done, Kind, Number, Refused, resized_datum, piece, code_of}
use Rattle.res_calls.proofs.Cited.{handle_at, Step, walk, reads, is_protected, is_resource, is_named, Resources, Found, find_from_current}
use Rattle.res_calls.proofs.Cited.{find_in_current, file_of, file_named, OpenFile, Split, Managers, Answer, done, is_system, refused}
use Rattle.res_calls.proofs.Cited.{is_in_memory, most_bytes, read_part_found, restored, restored_unless, size_refusal, write_refusal}
use Rattle.res_calls.proofs.Cited.{is_held_code, left_refused, restored_if, writes, noting, resource_of, told_or, nth_among, told_as}
use Rattle.res_calls.proofs.Cited.{ResourceAsked, Served, telling, tell_fetched, tell_info, served}
use Rattle.memory_windows.specs.Writes.{written}
use Rattle.res_calls.specs.Rows as rows
use Rattle.res_calls.specs.Changing as changing
use Rattle.res_calls.specs.Partial as partial
use Rattle.res_calls.specs.Asked as asks
use Rattle.res_calls.proofs.Walks.Steps.{steps_of, fetch_steps, close_steps, release_steps, detach_steps}
use Rattle.res_calls.proofs.Walks.Steps.{add_steps, remove_steps}
use Rattle.res_calls.proofs.Walks.Going.{Refuses, Goes, all_done, done-goes, same-goes, refused-goes, found-goes, found-same}
use Rattle.res_calls.proofs.Walks.Going.{open-goes, open-same, fetch-goes, fetched-goes, named-goes, close-goes}
use Rattle.res_calls.proofs.Walks.Going.{release-goes, detach-goes, known-goes, add-goes, removable-goes, remove-goes}
use Rattle.res_calls.proofs.Walks.Going.{update-goes, create-goes, changeable-goes, write-goes}

-- Each call of the Resource Manager goes by its steps.

-- what a call comes to goes by steps, and leaves the files but where it writes; where it is refused it leaves these
-- resources, but for the code that ResError tells
pub record Serves (writing : Bool) (left : OsErr → Resources) (steps : List Step) (s : Managers) (x : Served) : Type 0
  where
    pub heap : x.after.memory ≡ walk steps s.memory
    pub read : x.reads ≡ reads steps s.memory
    pub files : writing ≡ false → x.after.resources.files ≡ s.resources.files
    pub stays : (code : OsErr) → x.told ≡ Refused code → x.after.resources.files ≡ s.resources.files
    pub refuses : (code : OsErr) → x.told ≡ Refused code
        → (x.reads ≡ []) × (x.after.resources ≡ record (left code) { error = code }) × Refuses steps s.memory code

-- a refusal is told
abbrev is_refusal : Told → Bool
is_refusal (Refused code) = true
is_refusal told = false

telling-serves : {T : Type 0} {w : Bool} (tell : T → Told) (call : Managers → Answer T) (s : Managers)
    (steps : List Step) → ((value : T) → is_refusal (tell value) ≡ false) → Goes w steps s (call s)
    → Serves w (λ code. s.resources) steps s (telling tell (noting call s))
telling-serves {T} tell call s steps quiet goes = record {
  heap = goes.heap;
  read = goes.read;
  files = goes.files;
  stays = λ code e. ap (λ (r : Resources). r.files) (by_reply (call s).reply refl code e).1;
  refuses = by_reply (call s).reply refl;
}
  where
    by_reply : (r : Result T OsErr) → (call s).reply ≡ r → (code : OsErr) → told_as tell r ≡ Refused code
        → ((call s).reads ≡ [])
        × ((noting call s).after.resources ≡ record s.resources { error = code })
        × Refuses steps s.memory code
    by_reply (Ok value) is code e = absurd (true≢false (sym (ap is_refusal e) ∙ quiet value))
    by_reply (Err why) is code e =
        let told : Refused why ≡ Refused code = e in
        let same : why ≡ code = cc in
        let refused : (call s).reply ≡ Err code = is ∙ ap (λ (c : OsErr). Err c) same in
        let left = goes.refuses code refused in (
          left.0,
          ap (λ (r : Resources). let kept : Resources = record r { error = code_of (call s).reply } in kept) left.1
              ∙ ap (λ (reply : Result T OsErr).
              let kept : Resources = record s.resources { error = code_of reply } in kept) refused,
          left.2,
        )

told_or-goes : (code : OsErr) (o : Option ℕ) (s : Managers) → Goes false [] s (told_or code o s)
told_or-goes code None s = refused-goes code s
told_or-goes code (Some n) s = same-goes n s

-- an answer that takes no step leaves these resources where it is refused
record Restores (left : OsErr → Resources) (s : Managers) (a : Answer (Unit {0})) : Type 0 where
  pub heap : a.after.memory ≡ s.memory
  pub read : a.reads ≡ []
  pub files : a.after.resources.files ≡ s.resources.files
  pub refuses : (code : OsErr) → a.reply ≡ Err code → a.after.resources ≡ left code

refused-restores : (left : OsErr → Resources) (why : OsErr) (s after : Managers) → after.memory ≡ s.memory
    → after.resources.files ≡ s.resources.files → after.resources ≡ left why → Restores left s (refused why after)
refused-restores left why s after memory files same = record {
  heap = memory;
  read = refl;
  files = files;
  refuses = λ code e. let is : why ≡ code = cc in same ∙ ap left is;
}

-- a call that changes stored data, unless it is refused with another code than -188
abbrev left_by : (List ℕ → List ℕ) → Option Found → Managers → OsErr → Resources
left_by change found s code =
    if is_held_code code then restored_if change found s.resources else s.resources

unless-restores : (o : Option OsErr) (handle : Option ℕ) (change : List ℕ → List ℕ) (at : Found) (s : Managers)
    → ((code : OsErr) → o ≡ Some code → is_held_code code ≡ false)
    → Restores (left_by change (Some at) s) s (restored_unless o handle change at s)
unless-restores (Some why) handle change at s other =
    refused-restores (left_by change (Some at) s) why s s refl refl
    (ap (λ (t : Bool). if t then restored change at s.resources else s.resources) (sym (other why refl)))
unless-restores None handle change at s other = by_block (is_in_memory handle s.memory.heap)
  where
    after : Managers
    after = rows.with_resources (restored change at s.resources) s

    by_block : (t : Bool)
        → Restores (left_by change (Some at) s) s (if t then refused IN_MEMORY after else done all_done after)
    by_block true = refused-restores (left_by change (Some at) s) IN_MEMORY s after refl refl refl
    by_block false = record { heap = refl; read = refl; files = refl; refuses = λ code e. cc }

found-restores : (found : Option Found) (change : List ℕ → List ℕ) (s : Managers) (answer : Found → Answer (Unit {0}))
    → ((at : Found) → Restores (left_by change (Some at) s) s (answer at))
    → Restores (left_by change found s) s (rows.on_found found s answer)
found-restores None change s answer each =
    refused-restores (left_by change None s) RES_NOT_FOUND s s refl refl refl
found-restores (Some at) change s answer each = each at

-- such a call is told
restoring-serves : (call : Managers → Answer (Unit {0})) (s : Managers) (left : OsErr → Resources)
    → Restores left s (call s) → Serves false left [] s (telling (λ x. Done) (noting call s))
restoring-serves call s left stores = record {
  heap = stores.heap;
  read = stores.read;
  files = λ quiet. stores.files;
  stays = λ code e. stores.files;
  refuses = by_reply (call s).reply refl;
}
  where
    by_reply : (r : Result (Unit {0}) OsErr) → (call s).reply ≡ r → (code : OsErr)
        → told_as {T = Unit {0}} (λ x. Done) r ≡ Refused code
        → ((call s).reads ≡ [])
        × ((noting call s).after.resources ≡ record (left code) { error = code })
        × Refuses [] s.memory code
    by_reply (Ok value) is code e = absurd (true≢false (sym (ap is_refusal e)))
    by_reply (Err why) is code e =
        let told : Refused why ≡ Refused code = e in
        let same : why ≡ code = cc in
        let refused : (call s).reply ≡ Err code = is ∙ ap (λ (c : OsErr). Err c) same in (
          stores.read,
          ap (λ (r : Resources). let kept : Resources = record r { error = code_of (call s).reply } in kept)
              (stores.refuses code refused)
              ∙ ap (λ (reply : Result (Unit {0}) OsErr).
              let kept : Resources = record (left code) { error = code_of reply } in kept) refused,
          inl refl,
        )

-- the codes of the two calls
chosen : {A : Type 0} (P : A → Type 0) (t : Bool) (one other : A) → P one → P other → P (if t then one else other)
chosen P true one other first second = first
chosen P false one other first second = second

abbrev IsOther : Option OsErr → Type 0
IsOther o = (code : OsErr) → o ≡ Some code → is_held_code code ≡ false

other-code : (why : OsErr) → is_held_code why ≡ false → IsOther (Some why)
other-code why other code e = let is : why ≡ code = cc in ap is_held_code (sym is) ∙ other

write-other : (from n : ℕ) (at : Found) → IsOther (write_refusal from n at)
write-other from n at =
    chosen IsOther (is_system at.file.here) _ _ (other-code WRITE_PERMISSION refl)
    (chosen IsOther (is_protected at.reference.here) _ _ (other-code RES_ATTR refl)
    (chosen IsOther (nat_lt (length at.reference.here.stored.datum) from) _ _ (other-code OFFSET refl)
    (chosen IsOther (nat_lt most_bytes (from + n)) _ _ (other-code TOO_LONG refl) (λ code e. cc))))

size-other : (n : ℕ) (at : Found) → IsOther (size_refusal n at)
size-other n at =
    chosen IsOther (is_system at.file.here) _ _ (other-code WRITE_PERMISSION refl)
    (chosen IsOther (is_protected at.reference.here) _ _ (other-code RES_ATTR refl)
    (chosen IsOther (nat_lt most_bytes n) _ _ (other-code TOO_LONG refl) (λ code e. cc)))

read_part-goes : (handle : Option ℕ) (from n : ℕ) (at : Found) (s : Managers)
    → Goes false [] s (read_part_found handle from n s at)
read_part-goes handle from n at s =
    chosen (λ a. Goes false [] s a) (nat_lt (length at.reference.here.stored.datum) (from + n)) _ _ (refused-goes OFFSET s)
    (chosen (λ a. Goes false [] s a) (is_in_memory handle s.memory.heap) _ _ (refused-goes IN_MEMORY s)
    (same-goes (piece from n at.reference.here.stored.datum) s))

set_file-goes : (n attrs : ℕ) (o : Option (Split OpenFile)) (s : Managers)
    → Goes false [] s (changing.set_file n attrs o s)
set_file-goes n attrs None s = same-goes all_done s
set_file-goes n attrs (Some at) s =
    chosen (λ a. Goes false [] s a) (n == 0) _ _ (refused-goes WRITE_PERMISSION s) (done-goes _ s _ refl refl)

pub served-serves : (a : ResourceAsked) (s : Managers)
    → Serves (writes a) (λ code. left_refused a code s) (steps_of a s) s (served a s)
served-serves (asks.OpenResFile name) s = telling-serves Number (rows.open_res_file name) s
    (steps_of (asks.OpenResFile name) s) (λ n. refl) (named-goes (file_named name s.resources) s)
served-serves (asks.CloseResFile n) s = telling-serves (λ x. Done) (rows.close_res_file n) s
    (steps_of (asks.CloseResFile n) s) (λ x. refl)
    (open-goes (file_of n s.resources) s _ (close_steps n s) (λ at. close-goes n at s))
served-serves (asks.UseResFile n) s = telling-serves (λ x. Done) (rows.use_res_file n) s [] (λ x. refl)
    (open-same (file_of n s.resources) s _ (λ at. done-goes _ s _ refl refl))
served-serves asks.CurResFile s = telling-serves Number rows.cur_res_file s [] (λ n. refl) (same-goes _ s)
served-serves (asks.GetResFileAttrs n) s = telling-serves Number (rows.get_res_file_attrs n) s [] (λ n. refl)
    (open-same (file_of n s.resources) s _ (λ at. same-goes _ s))
served-serves (asks.SetResFileAttrs n attrs) s = telling-serves (λ x. Done) (changing.set_res_file_attrs n attrs) s []
    (λ x. refl) (set_file-goes n attrs (file_of n s.resources) s)
served-serves (asks.HomeResFile handle) s = telling-serves Number (rows.home_res_file handle) s [] (λ n. refl)
    (found-same (resource_of handle s.resources) s _ (λ at. same-goes _ s))
served-serves (asks.GetResource kind id) s = telling-serves tell_fetched (rows.get_resource kind id) s
    (steps_of (asks.GetResource kind id) s) (λ f. refl)
    (fetched-goes (find_from_current (is_resource kind id) s.resources) s)
served-serves (asks.Get1Resource kind id) s = telling-serves tell_fetched (rows.get1_resource kind id) s
    (steps_of (asks.Get1Resource kind id) s) (λ f. refl)
    (fetched-goes (find_in_current (is_resource kind id) s.resources) s)
served-serves (asks.GetNamedResource kind name) s = telling-serves tell_fetched (rows.get_named_resource kind name) s
    (steps_of (asks.GetNamedResource kind name) s) (λ f. refl)
    (fetched-goes (find_from_current (is_named kind name) s.resources) s)
served-serves (asks.Get1NamedResource kind name) s =
    telling-serves tell_fetched (rows.get1_named_resource kind name) s
    (steps_of (asks.Get1NamedResource kind name) s) (λ f. refl)
    (fetched-goes (find_in_current (is_named kind name) s.resources) s)
served-serves (asks.CountTypes among) s = telling-serves Number (rows.count_types among) s [] (λ n. refl) (same-goes _ s)
served-serves (asks.GetIndType among index) s = telling-serves Kind (rows.get_ind_type among index) s [] (λ k. refl)
    (told_or-goes _ _ s)
served-serves (asks.CountResources among kind) s = telling-serves Number (rows.count_resources among kind) s [] (λ n. refl)
    (same-goes _ s)
served-serves (asks.GetIndResource among kind index) s =
    telling-serves tell_fetched (rows.get_ind_resource among kind index) s
    (steps_of (asks.GetIndResource among kind index) s) (λ f. refl)
    (fetched-goes (nth_among among kind index s.resources) s)
served-serves (asks.UniqueID among kind) s = telling-serves Number (rows.unique_id among kind) s [] (λ n. refl)
    (told_or-goes _ _ s)
served-serves (asks.LoadResource handle) s = telling-serves tell_fetched (rows.load_resource handle) s
    (steps_of (asks.LoadResource handle) s) (λ f. refl)
    (found-goes (resource_of handle s.resources) s _ (fetch_steps true)
    (λ at. fetch-goes true at at.reference.here.handle s))
served-serves (asks.ReleaseResource handle) s = telling-serves (λ x. Done) (rows.release_resource handle) s
    (steps_of (asks.ReleaseResource handle) s) (λ x. refl)
    (found-goes (resource_of handle s.resources) s _ (release_steps handle s) (λ at. release-goes handle at s))
served-serves (asks.DetachResource handle) s = telling-serves (λ x. Done) (rows.detach_resource handle) s
    (steps_of (asks.DetachResource handle) s) (λ x. refl)
    (found-goes (resource_of handle s.resources) s _ (detach_steps handle) (λ at. detach-goes handle at s))
served-serves (asks.GetResInfo handle) s = telling-serves tell_info (rows.get_res_info handle) s [] (λ i. refl)
    (found-same (resource_of handle s.resources) s _ (λ at. same-goes _ s))
served-serves (asks.GetResAttrs handle) s = telling-serves Number (rows.get_res_attrs handle) s [] (λ n. refl)
    (found-same (resource_of handle s.resources) s _ (λ at. same-goes _ s))
served-serves (asks.GetResourceSizeOnDisk handle) s = telling-serves Number (rows.get_resource_size_on_disk handle) s []
    (λ n. refl) (found-same (resource_of handle s.resources) s _ (λ at. same-goes _ s))
served-serves (asks.ReadPartialResource handle from n) s =
    telling-serves Bytes (partial.read_partial_resource handle from n) s [] (λ b. refl)
    (found-same (resource_of handle s.resources) s _ (λ at. read_part-goes handle from n at s))
served-serves (asks.WritePartialResource handle from x) s =
    restoring-serves (partial.write_partial_resource handle from x) s
    (left_by (written from x) (resource_of handle s.resources) s)
    (found-restores (resource_of handle s.resources) (written from x) s _
    (λ at. unless-restores (write_refusal from (length x) at) handle (written from x) at s
    (write-other from (length x) at)))
served-serves (asks.SetResourceSize handle n) s =
    restoring-serves (partial.set_resource_size handle n) s
    (left_by (resized_datum n) (resource_of handle s.resources) s)
    (found-restores (resource_of handle s.resources) (resized_datum n) s _
    (λ at. unless-restores (size_refusal n at) handle (resized_datum n) at s (size-other n at)))
served-serves (asks.SetResPurge on) s = telling-serves (λ x. Done) (rows.set_res_purge on) s [] (λ x. refl)
    (done-goes _ s _ refl refl)
served-serves (asks.SetResLoad on) s = telling-serves (λ x. Done) (rows.set_res_load on) s [] (λ x. refl)
    (done-goes _ s _ refl refl)
served-serves (asks.CreateResFile name) s = telling-serves (λ x. Done) (changing.create_res_file name) s [] (λ x. refl)
    (create-goes name (file_named name s.resources) s)
served-serves (asks.UpdateResFile n) s = telling-serves (λ x. Done) (rows.update_res_file n) s [] (λ x. refl)
    (open-same (file_of n s.resources) s _ (λ at. update-goes n at s))
served-serves (asks.AddResource handle kind id name) s =
    telling-serves (λ x. Done) (changing.add_resource handle kind id name) s
    (steps_of (asks.AddResource handle kind id name) s) (λ x. refl)
    (known-goes (handle_at handle s.memory.heap) s _ (add_steps s) (λ k. add-goes kind id name s k))
served-serves (asks.RemoveResource handle) s = telling-serves (λ x. Done) (changing.remove_resource handle) s
    (steps_of (asks.RemoveResource handle) s) (λ x. refl)
    (known-goes (handle_at handle s.memory.heap) s _ _
    (λ k. removable-goes (resource_of handle s.resources) s _ (remove_steps s k) (λ at. remove-goes s k at)))
served-serves (asks.ChangedResource handle) s = telling-serves (λ x. Done) (changing.changed_resource handle) s []
    (λ x. refl) (found-same (resource_of handle s.resources) s _
    (λ at. changeable-goes at s _ (done-goes _ s _ refl refl)))
served-serves (asks.WriteResource handle) s = telling-serves (λ x. Done) (changing.write_resource handle) s []
    (λ x. refl) (found-same (resource_of handle s.resources) s _ (λ at. write-goes handle at s))
served-serves (asks.SetResInfo handle id name) s =
    telling-serves (λ x. Done) (changing.set_res_info handle id name) s [] (λ x. refl) (found-same (resource_of handle s.resources) s _
    (λ at. changeable-goes at s _ (done-goes _ s _ refl refl)))
served-serves (asks.SetResAttrs handle attrs) s = telling-serves (λ x. Done) (changing.set_res_attrs handle attrs) s []
    (λ x. refl) (found-same (resource_of handle s.resources) s _ (λ at. done-goes _ s _ refl refl))
served-serves asks.ResError s = record {
  heap = refl;
  read = refl;
  files = λ quiet. refl;
  stays = λ code e. refl;
  refuses = λ code e. cc;
}
