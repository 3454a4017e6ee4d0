use Rattle.res_calls.proofs.Cited.{◌≡◌, ℕ, pos, false, [], ◌∷◌, Some, None, refl, ADD_RES_FAILED, REMOVE_RES_FAILED, RES_ATTR}
use Rattle.res_calls.proofs.Cited.{RES_NOT_FOUND, WRITE_PERMISSION, DUPLICATE_FILE, RES_FILE_NOT_FOUND, Done, Given, Fetched, Info, Number}
use Rattle.res_calls.proofs.Cited.{Bytes, Refused, Site, Map, fresh_memory, fresh_resources, Managers, OpenResFile, CreateResFile}
use Rattle.res_calls.proofs.Cited.{CloseResFile, UpdateResFile, UseResFile, GetResource, GetNamedResource, LoadResource, ReleaseResource}
use Rattle.res_calls.proofs.Cited.{GetResFileAttrs, SetResFileAttrs, DetachResource, AddResource, RemoveResource, ChangedResource}
use Rattle.res_calls.proofs.Cited.{WriteResource, GetResInfo, SetResInfo, GetResAttrs, SetResAttrs, GetResourceSizeOnDisk}
use Rattle.heap_calls.specs.Serving.{Zeros}
use Rattle.heap_calls.specs.Table as asks
use Rattle.res_calls.proofs.Worked.Lines.{line, heap_line, tells, stored, opened_map, group}

-- Resources that are changed.

-- 'TEXT'
abbrev pub text : ℕ
text = 0x54455854

-- the map of a fork with 'TEXT' 1 of one byte, 'd', and these attributes
abbrev one_text : ℕ → Map
one_text attrs = opened_map (group text (stored (pos 1) None attrs (100 ∷ []) ∷ []) ∷ [])

-- an application with its own file, of no bytes yet, and these maps of its own and of the System's
abbrev pub start : Map → Map → Site → Managers
start own system window = record {
  memory = fresh_memory 1024 window;
  resources = fresh_resources (record { name = 97 ∷ []; fork = []; written = false } ∷ []) own system;
}

-- a resource is added once, and written
add-and-update : (window : Site) → tells (heap_line (asks.NewHandle (Zeros 2))
    ∷ heap_line (asks.Put (Some 0) 0 (72 ∷ 105 ∷ [])) ∷ line (AddResource (Some 0) text (pos 128) [])
    ∷ line (AddResource (Some 0) text (pos 128) []) ∷ line (GetResAttrs (Some 0))
    ∷ line (GetResourceSizeOnDisk (Some 0)) ∷ line (UpdateResFile 2) ∷ line (GetResAttrs (Some 0))
    ∷ line (GetResourceSizeOnDisk (Some 0)) ∷ []) (start (opened_map []) (opened_map []) window)
    ≡ Given 0 ∷ Done ∷ Done ∷ Refused ADD_RES_FAILED ∷ Number 2 ∷ Number 0 ∷ Done ∷ Number 0 ∷ Number 2 ∷ []
add-and-update window = refl

-- a protected resource is changed once it is protected no more; then it is neither released nor detached
protected-no-more : (window : Site) → tells (line (GetResource text (pos 1)) ∷ line (ChangedResource (Some 0))
    ∷ line (SetResAttrs (Some 0) 0) ∷ line (ChangedResource (Some 0)) ∷ line (GetResAttrs (Some 0))
    ∷ line (ReleaseResource (Some 0)) ∷ heap_line (asks.Show (Some 0)) ∷ line (DetachResource (Some 0)) ∷ [])
    (start (one_text 8) (opened_map []) window)
    ≡ Fetched 0 1 ∷ Refused RES_ATTR ∷ Done ∷ Done ∷ Number 2 ∷ Done ∷ Bytes (100 ∷ []) ∷ Refused RES_ATTR ∷ []
protected-no-more window = refl

-- the attributes of a file's map: mapChanged (32) while the file is touched, and what was set
of-a-file : (window : Site) → tells (line (GetResFileAttrs 2) ∷ heap_line (asks.NewHandle (Zeros 2))
    ∷ line (AddResource (Some 0) text (pos 128) []) ∷ line (GetResFileAttrs 2) ∷ line (SetResFileAttrs 2 128)
    ∷ line (GetResFileAttrs 2) ∷ line (UpdateResFile 2) ∷ line (GetResAttrs (Some 0)) ∷ line (SetResFileAttrs 2 224)
    ∷ line (GetResFileAttrs 2) ∷ line (UpdateResFile 2) ∷ line (GetResFileAttrs 2) ∷ line (GetResAttrs (Some 0))
    ∷ line (SetResFileAttrs 0 32) ∷ line (SetResFileAttrs 9 32) ∷ line (GetResFileAttrs 9) ∷ line (GetResFileAttrs 0) ∷ [])
    (start (opened_map []) (opened_map []) window)
    ≡ Number 0 ∷ Given 0 ∷ Done ∷ Number 32 ∷ Done ∷ Number 128 ∷ Done ∷ Number 2 ∷ Done ∷ Number 160 ∷ Done ∷ Number 128
    ∷ Number 0 ∷ Refused WRITE_PERMISSION ∷ Done ∷ Refused RES_FILE_NOT_FOUND ∷ Number 0 ∷ []
of-a-file window = refl

-- of the System's resources attributes alone are set
of-system : (window : Site) → tells (line (GetResource text (pos 1)) ∷ line (ChangedResource (Some 0))
    ∷ line (SetResInfo (Some 0) (pos 2) []) ∷ line (RemoveResource (Some 0)) ∷ line (SetResAttrs (Some 0) 32)
    ∷ line (GetResAttrs (Some 0)) ∷ line (UpdateResFile 0) ∷ []) (start (opened_map []) (one_text 0) window)
    ≡ Fetched 0 1 ∷ Refused WRITE_PERMISSION ∷ Refused WRITE_PERMISSION ∷ Refused WRITE_PERMISSION ∷ Done ∷ Number 32
    ∷ Done ∷ []
of-system window = refl

-- a removed resource is sought in vain, and its handle is the application's own
removed : (window : Site) → tells (line (GetResource text (pos 1)) ∷ line (RemoveResource (Some 0))
    ∷ line (GetResource text (pos 1)) ∷ line (RemoveResource (Some 0)) ∷ heap_line (asks.Show (Some 0))
    ∷ heap_line (asks.DisposeHandle (Some 0)) ∷ []) (start (one_text 0) (opened_map []) window)
    ≡ Fetched 0 1 ∷ Done ∷ Refused RES_NOT_FOUND ∷ Refused REMOVE_RES_FAILED ∷ Bytes (100 ∷ []) ∷ Done ∷ []
removed window = refl

-- a resource is added to the file that is current: none to the System's
added-to-system : (window : Site) → tells (heap_line (asks.NewHandle (Zeros 2)) ∷ line (UseResFile 0)
    ∷ line (AddResource (Some 0) text (pos 1) []) ∷ []) (start (opened_map []) (opened_map []) window)
    ≡ Given 0 ∷ Done ∷ Refused WRITE_PERMISSION ∷ []
added-to-system window = refl

-- a name and an ID are set; an empty name leaves the one that there was
renamed : (window : Site) → tells (line (GetResource text (pos 1)) ∷ line (SetResInfo (Some 0) (pos 7) (78 ∷ []))
    ∷ line (SetResInfo (Some 0) (pos 8) []) ∷ line (GetResInfo (Some 0)) ∷ line (GetNamedResource text (110 ∷ []))
    ∷ line (GetResAttrs (Some 0)) ∷ []) (start (one_text 0) (opened_map []) window)
    ≡ Fetched 0 1 ∷ Done ∷ Done ∷ Info (pos 8) text (78 ∷ []) ∷ Fetched 0 0 ∷ Number 0 ∷ []
renamed window = refl

-- what is written is what the handle holds; where it isn't changed it isn't written
written-once : (window : Site) → tells (line (GetResource text (pos 1))
    ∷ heap_line (asks.SetHandleSize (Some 0) 3) ∷ line (WriteResource (Some 0))
    ∷ line (GetResourceSizeOnDisk (Some 0)) ∷ line (ChangedResource (Some 0)) ∷ line (WriteResource (Some 0))
    ∷ line (GetResourceSizeOnDisk (Some 0)) ∷ line (GetResAttrs (Some 0)) ∷ line (ReleaseResource (Some 0)) ∷ [])
    (start (one_text 0) (opened_map []) window)
    ≡ Fetched 0 1 ∷ Done ∷ Done ∷ Number 1 ∷ Done ∷ Done ∷ Number 3 ∷ Number 0 ∷ Done ∷ []
written-once window = refl

-- a file is made once; the application's own, of no bytes, gets a new fork
made-once : (window : Site) → tells (line (CreateResFile (98 ∷ [])) ∷ line (CreateResFile (98 ∷ []))
    ∷ line (CreateResFile (97 ∷ [])) ∷ line (CreateResFile (97 ∷ [])) ∷ line (OpenResFile (98 ∷ [])) ∷ [])
    (start (opened_map []) (opened_map []) window)
    ≡ Done ∷ Refused DUPLICATE_FILE ∷ Done ∷ Refused DUPLICATE_FILE ∷ Number 3 ∷ []
made-once window = refl

-- what was added is read again once its file was closed
read-again : (window : Site) → tells (line (CreateResFile (98 ∷ [])) ∷ line (OpenResFile (98 ∷ []))
    ∷ heap_line (asks.NewHandle (Zeros 2)) ∷ heap_line (asks.Put (Some 0) 0 (72 ∷ 105 ∷ []))
    ∷ line (AddResource (Some 0) text (pos 128) (78 ∷ [])) ∷ line (CloseResFile 3)
    ∷ line (GetResource text (pos 128)) ∷ line (OpenResFile (98 ∷ [])) ∷ line (GetNamedResource text (110 ∷ []))
    ∷ heap_line (asks.Show (Some 1)) ∷ line (GetResAttrs (Some 1)) ∷ [])
    (start (opened_map []) (opened_map []) window)
    ≡ Done ∷ Number 3 ∷ Given 0 ∷ Done ∷ Done ∷ Done ∷ Refused RES_NOT_FOUND ∷ Number 4 ∷ Fetched 1 1
    ∷ Bytes (72 ∷ 105 ∷ []) ∷ Number 0 ∷ []
read-again window = refl

-- where the handle is emptied what was stored stays
emptied : (window : Site) → tells (line (GetResource text (pos 1)) ∷ line (ChangedResource (Some 0))
    ∷ heap_line (asks.EmptyHandle (Some 0)) ∷ line (UpdateResFile 2) ∷ line (GetResAttrs (Some 0))
    ∷ line (LoadResource (Some 0)) ∷ heap_line (asks.Show (Some 0)) ∷ [])
    (start (one_text 0) (opened_map []) window)
    ≡ Fetched 0 1 ∷ Done ∷ Done ∷ Done ∷ Number 0 ∷ Fetched 0 1 ∷ Bytes (100 ∷ []) ∷ []
emptied window = refl
