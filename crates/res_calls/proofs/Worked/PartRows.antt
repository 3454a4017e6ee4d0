use Rattle.res_calls.proofs.Cited.{◌≡◌, ℕ, pos, false, [], ◌∷◌, Some, None, refl, IN_MEMORY, OFFSET, RES_ATTR, RES_NOT_FOUND, TOO_LONG}
use Rattle.res_calls.proofs.Cited.{WRITE_PERMISSION, Done, Fetched, Number, Bytes, Refused, Site, Map, ChangedResource, GetResource}
use Rattle.res_calls.proofs.Cited.{GetResAttrs, GetResourceSizeOnDisk, LoadResource, ReadPartialResource, SetResLoad, SetResourceSize}
use Rattle.res_calls.proofs.Cited.{UpdateResFile, WritePartialResource, ResError}
use Rattle.heap_calls.specs.Table as asks
use Rattle.mac_words.specs.Told.{Code}
use Rattle.res_calls.proofs.Worked.Lines.{line, heap_line, tells, stored, opened_map, group}
use Rattle.res_calls.proofs.Worked.ChangeRows.{text, start}

-- Resources that are read and written in parts.

-- the map of a fork with 'TEXT' 128 "Hi" and these attributes
abbrev hi : ℕ → Map
hi attrs = opened_map (group text (stored (pos 128) None attrs (72 ∷ 105 ∷ []) ∷ []) ∷ [])

-- what is stored is read and written in parts while the handle is empty; once it has a block, what is stored is written
-- all the same, and the block stays
in-parts : (window : Site) → tells (line (SetResLoad false) ∷ line (GetResource text (pos 128))
    ∷ line (ReadPartialResource (Some 0) 1 1) ∷ line (ReadPartialResource (Some 0) 1 2)
    ∷ line (ReadPartialResource (Some 0) 2 0) ∷ line (WritePartialResource (Some 0) 1 (101 ∷ 121 ∷ []))
    ∷ line (GetResourceSizeOnDisk (Some 0)) ∷ line (ReadPartialResource (Some 0) 0 3)
    ∷ line (WritePartialResource (Some 0) 4 (120 ∷ [])) ∷ line (SetResourceSize (Some 0) 16777216)
    ∷ line (SetResourceSize (Some 0) 1) ∷ line (SetResourceSize (Some 0) 2) ∷ line (LoadResource (Some 0))
    ∷ heap_line (asks.Show (Some 0)) ∷ line (ReadPartialResource (Some 0) 0 1)
    ∷ line (WritePartialResource (Some 0) 1 (105 ∷ [])) ∷ line ResError ∷ heap_line (asks.Show (Some 0))
    ∷ line (GetResAttrs (Some 0)) ∷ heap_line (asks.EmptyHandle (Some 0)) ∷ line (ReadPartialResource (Some 0) 0 2)
    ∷ line (ReadPartialResource None 0 0) ∷ []) (start (hi 0) (opened_map []) window)
    ≡ Done ∷ Fetched 0 0 ∷ Bytes (105 ∷ []) ∷ Refused OFFSET ∷ Bytes [] ∷ Done ∷ Number 3
    ∷ Bytes (72 ∷ 101 ∷ 121 ∷ []) ∷ Refused OFFSET ∷ Refused TOO_LONG ∷ Done ∷ Done ∷ Fetched 0 1 ∷ Bytes (72 ∷ 0 ∷ [])
    ∷ Refused IN_MEMORY ∷ Refused IN_MEMORY ∷ Code IN_MEMORY ∷ Bytes (72 ∷ 0 ∷ []) ∷ Number 0 ∷ Done
    ∷ Bytes (72 ∷ 105 ∷ []) ∷ Refused RES_NOT_FOUND ∷ []
in-parts window = refl

-- an offset past the end is refused before a size that no resource can have; what is protected, or the System's, is not
-- written
in-order : (window : Site) → tells (line (SetResLoad false) ∷ line (GetResource text (pos 128))
    ∷ line (WritePartialResource (Some 0) 16777216 []) ∷ line (WritePartialResource (Some 0) 2 []) ∷ [])
    (start (hi 0) (opened_map []) window) ≡ Done ∷ Fetched 0 0 ∷ Refused OFFSET ∷ Done ∷ []
in-order window = refl

protected : (window : Site) → tells (line (GetResource text (pos 128)) ∷ line (WritePartialResource (Some 0) 9 [])
    ∷ line (SetResourceSize (Some 0) 16777216) ∷ []) (start (hi 8) (opened_map []) window)
    ≡ Fetched 0 1 ∷ Refused RES_ATTR ∷ Refused RES_ATTR ∷ []
protected window = refl

of-system : (window : Site) → tells (line (GetResource text (pos 128)) ∷ line (WritePartialResource (Some 0) 9 [])
    ∷ line (SetResourceSize (Some 0) 16777216) ∷ line (ReadPartialResource (Some 0) 0 1) ∷ [])
    (start (opened_map []) (hi 8) window)
    ≡ Fetched 0 1 ∷ Refused WRITE_PERMISSION ∷ Refused WRITE_PERMISSION ∷ Refused IN_MEMORY ∷ []
of-system window = refl

-- a resource that is marked is stored anew by an update, over what was written
written-over : (window : Site) → tells (line (GetResource text (pos 128)) ∷ line (ChangedResource (Some 0))
    ∷ line (WritePartialResource (Some 0) 0 (89 ∷ [])) ∷ line (UpdateResFile 2)
    ∷ heap_line (asks.EmptyHandle (Some 0)) ∷ line (ReadPartialResource (Some 0) 0 2) ∷ [])
    (start (hi 0) (opened_map []) window)
    ≡ Fetched 0 1 ∷ Done ∷ Refused IN_MEMORY ∷ Done ∷ Done ∷ Bytes (72 ∷ 105 ∷ []) ∷ []
written-over window = refl
