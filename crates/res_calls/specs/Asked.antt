use Rattle.std.specs.Prelude.{ℕ, ℤ, Bool, Option, None, List, []}
use Rattle.mac_words.specs.Told as tells
use Rattle.mac_words.specs.Told.{Told, Bytes, Done, Kind, Number, Code, Refused}
use Rattle.heap_calls.specs.Serving.{told_as}
use Rattle.res_calls.specs.Fetch.{Managers, Reads, Answer, Fetched}
use Rattle.res_calls.specs.Rows as rows
use Rattle.res_calls.specs.Rows.{Among, noting}
use Rattle.res_calls.specs.Changing as changing
use Rattle.res_calls.specs.Partial as partial

-- A call of the table of the Resource Manager, with the number that each name of the call is bound to, or None for an
-- unbound name.
pub data ResourceAsked : Type 0 where
  OpenResFile : (name : List ℕ) → ResourceAsked
  CreateResFile : (name : List ℕ) → ResourceAsked
  CloseResFile : (number : ℕ) → ResourceAsked
  UpdateResFile : (number : ℕ) → ResourceAsked
  UseResFile : (number : ℕ) → ResourceAsked
  CurResFile : ResourceAsked
  GetResFileAttrs : (number : ℕ) → ResourceAsked
  SetResFileAttrs : (number : ℕ) (attrs : ℕ) → ResourceAsked
  HomeResFile : (handle : Option ℕ) → ResourceAsked
  GetResource : (kind : ℕ) (id : ℤ) → ResourceAsked
  Get1Resource : (kind : ℕ) (id : ℤ) → ResourceAsked
  GetNamedResource : (kind : ℕ) (name : List ℕ) → ResourceAsked
  Get1NamedResource : (kind : ℕ) (name : List ℕ) → ResourceAsked
  CountTypes : (among : Among) → ResourceAsked
  GetIndType : (among : Among) (index : ℕ) → ResourceAsked
  CountResources : (among : Among) (kind : ℕ) → ResourceAsked
  GetIndResource : (among : Among) (kind : ℕ) (index : ℕ) → ResourceAsked
  UniqueID : (among : Among) (kind : ℕ) → ResourceAsked
  LoadResource : (handle : Option ℕ) → ResourceAsked
  ReleaseResource : (handle : Option ℕ) → ResourceAsked
  DetachResource : (handle : Option ℕ) → ResourceAsked
  AddResource : (handle : Option ℕ) (kind : ℕ) (id : ℤ) (name : List ℕ) → ResourceAsked
  RemoveResource : (handle : Option ℕ) → ResourceAsked
  ChangedResource : (handle : Option ℕ) → ResourceAsked
  WriteResource : (handle : Option ℕ) → ResourceAsked
  GetResInfo : (handle : Option ℕ) → ResourceAsked
  SetResInfo : (handle : Option ℕ) (id : ℤ) (name : List ℕ) → ResourceAsked
  GetResAttrs : (handle : Option ℕ) → ResourceAsked
  SetResAttrs : (handle : Option ℕ) (attrs : ℕ) → ResourceAsked
  GetResourceSizeOnDisk : (handle : Option ℕ) → ResourceAsked
  ReadPartialResource : (handle : Option ℕ) (offset count : ℕ) → ResourceAsked
  WritePartialResource : (handle : Option ℕ) (offset : ℕ) (bytes : List ℕ) → ResourceAsked
  SetResourceSize : (handle : Option ℕ) (size : ℕ) → ResourceAsked
  SetResPurge : (on : Bool) → ResourceAsked
  SetResLoad : (on : Bool) → ResourceAsked
  ResError : ResourceAsked

-- The outcome of a call: what the call returns, what it read, the empty handle that it reads again, and the managers
-- after it.
pub record Served : Type 0 where
  pub told : Told
  pub reads : Reads
  pub reading : Option ℕ
  pub after : Managers

-- The outcome of a call that answers `a`, where `tell` makes the reply of the value.
abbrev pub telling : {T : Type 0} → (T → Told) → Answer T → Served
telling tell a = record { told = told_as tell a.reply; reads = a.reads; reading = a.reading; after = a.after }

-- The replies of a fetched handle, and of a resource's ID, type and name.
abbrev pub tell_fetched : Fetched → Told
tell_fetched f = tells.Fetched f.handle f.read

abbrev pub tell_info : rows.Info → Told
tell_info i = tells.Info i.id i.kind i.name

-- The outcome of one try of a call.
abbrev pub served : ResourceAsked → Managers → Served
served (OpenResFile name) s = telling Number (noting (rows.open_res_file name) s)
served (CreateResFile name) s = telling (λ _. Done) (noting (changing.create_res_file name) s)
served (CloseResFile number) s = telling (λ _. Done) (noting (rows.close_res_file number) s)
served (UpdateResFile number) s = telling (λ _. Done) (noting (rows.update_res_file number) s)
served (UseResFile number) s = telling (λ _. Done) (noting (rows.use_res_file number) s)
served CurResFile s = telling Number (noting rows.cur_res_file s)
served (GetResFileAttrs number) s = telling Number (noting (rows.get_res_file_attrs number) s)
served (SetResFileAttrs number attrs) s = telling (λ _. Done) (noting (changing.set_res_file_attrs number attrs) s)
served (HomeResFile handle) s = telling Number (noting (rows.home_res_file handle) s)
served (GetResource kind id) s = telling tell_fetched (noting (rows.get_resource kind id) s)
served (Get1Resource kind id) s = telling tell_fetched (noting (rows.get1_resource kind id) s)
served (GetNamedResource kind name) s = telling tell_fetched (noting (rows.get_named_resource kind name) s)
served (Get1NamedResource kind name) s = telling tell_fetched (noting (rows.get1_named_resource kind name) s)
served (CountTypes among) s = telling Number (noting (rows.count_types among) s)
served (GetIndType among index) s = telling Kind (noting (rows.get_ind_type among index) s)
served (CountResources among kind) s = telling Number (noting (rows.count_resources among kind) s)
served (GetIndResource among kind index) s = telling tell_fetched (noting (rows.get_ind_resource among kind index) s)
served (UniqueID among kind) s = telling Number (noting (rows.unique_id among kind) s)
served (LoadResource handle) s = telling tell_fetched (noting (rows.load_resource handle) s)
served (ReleaseResource handle) s = telling (λ _. Done) (noting (rows.release_resource handle) s)
served (DetachResource handle) s = telling (λ _. Done) (noting (rows.detach_resource handle) s)
served (AddResource handle kind id name) s = telling (λ _. Done) (noting (changing.add_resource handle kind id name) s)
served (RemoveResource handle) s = telling (λ _. Done) (noting (changing.remove_resource handle) s)
served (ChangedResource handle) s = telling (λ _. Done) (noting (changing.changed_resource handle) s)
served (WriteResource handle) s = telling (λ _. Done) (noting (changing.write_resource handle) s)
served (GetResInfo handle) s = telling tell_info (noting (rows.get_res_info handle) s)
served (SetResInfo handle id name) s = telling (λ _. Done) (noting (changing.set_res_info handle id name) s)
served (GetResAttrs handle) s = telling Number (noting (rows.get_res_attrs handle) s)
served (SetResAttrs handle attrs) s = telling (λ _. Done) (noting (changing.set_res_attrs handle attrs) s)
served (GetResourceSizeOnDisk handle) s = telling Number (noting (rows.get_resource_size_on_disk handle) s)
served (ReadPartialResource handle offset count) s =
    telling Bytes (noting (partial.read_partial_resource handle offset count) s)
served (WritePartialResource handle offset bytes) s =
    telling (λ _. Done) (noting (partial.write_partial_resource handle offset bytes) s)
served (SetResourceSize handle size) s = telling (λ _. Done) (noting (partial.set_resource_size handle size) s)
served (SetResPurge on) s = telling (λ _. Done) (noting (rows.set_res_purge on) s)
served (SetResLoad on) s = telling (λ _. Done) (noting (rows.set_res_load on) s)
served ResError s = record { told = Code s.resources.error; reads = []; reading = None; after = s }

-- The number of the handle that a call names as an argument. A name that the call binds is not an argument.
abbrev pub named : ResourceAsked → Option ℕ
named (HomeResFile handle) = handle
named (LoadResource handle) = handle
named (ReleaseResource handle) = handle
named (DetachResource handle) = handle
named (AddResource handle kind id name) = handle
named (RemoveResource handle) = handle
named (ChangedResource handle) = handle
named (WriteResource handle) = handle
named (GetResInfo handle) = handle
named (SetResInfo handle id name) = handle
named (GetResAttrs handle) = handle
named (SetResAttrs handle attrs) = handle
named (GetResourceSizeOnDisk handle) = handle
named (ReadPartialResource handle offset count) = handle
named (WritePartialResource handle offset bytes) = handle
named (SetResourceSize handle size) = handle
named asked = None
