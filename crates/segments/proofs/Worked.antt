use Rattle.segments.proofs.Cited.{◌≡◌, ℕ, pos, negsuc, false, List, [], ◌∷◌, ◌++◌, None, Some, refl, replicate, MEM_FULL, NIL_HANDLE}
use Rattle.segments.proofs.Cited.{PROFILE, SYSTEM_ERROR, SegmentCall, LoadSeg, UnloadSeg, CallEntry, ShowEntry, Told, Done, Number, Refused}
use Rattle.segments.proofs.Cited.{Site, Ref, Group, map_of, fresh_memory, Asked, HUnlock, EmptyHandle, PurgeMem, Show, Where}
use Rattle.segments.proofs.Cited.{fresh_resources, Managers, preloaded, own_datum, ResourceAsked, GetResource, SetResLoad, UseResFile}
use Rattle.segments.proofs.Cited.{CloseResFile, table_in, Program, code_type, served}
use Rattle.mac_words.specs.Told.{Fetched, Entry}
use Rattle.heap_calls.specs.Table as heap
use Rattle.res_calls.specs.Asked as resource

-- What lines of calls tell, one after another, of small applications.

-- a line: a call of the Segment Manager, of the Resource Manager, or of the Memory Manager
abbrev SegmentLine : Type 0
SegmentLine = Program → Told × Program

abbrev line : SegmentCall → SegmentLine
line c p = ((served c p).told, (served c p).after)

abbrev resource_line : ResourceAsked → SegmentLine
resource_line a p =
    ((resource.served a p.managers).told, record p { managers = (resource.served a p.managers).after })

abbrev heap_line : Asked → SegmentLine
heap_line a p = (
  (heap.served a p.managers.memory).0,
  record p { managers = record p.managers { memory = (heap.served a p.managers.memory).1 } },
)

abbrev tells : List SegmentLine → Program → List Told
tells [] p = []
tells (l ∷ lines) p = (l p).0 ∷ tells lines (l p).1

-- a 'CODE' of the application's fork
abbrev code : ℕ → List ℕ → Ref
code id bytes = record { id = pos id; name = None; attrs = 0; datum = bytes }

-- an application of n bytes that has these in its own fork, as it is launched
abbrev running : Managers → Program
running s = record { managers = s; table = table_in (own_datum code_type (pos 0) s.resources) }

abbrev start_with : ℕ → List Group → Site → Program
start_with n groups window = running (preloaded (record {
  memory = fresh_memory n window;
  resources = fresh_resources [] (map_of (record { area = replicate 240 0; attrs = 0; groups = groups }))
      (map_of (record { area = replicate 240 0; attrs = 0; groups = [] }));
})).0

abbrev start : ℕ → List Ref → Site → Program
start n refs window = start_with n (record { kind = code_type; refs = refs } ∷ []) window

-- the header of a jump table of so many bytes (below 256)
abbrev header : ℕ → List ℕ
header n = 0 ∷ 0 ∷ 0 ∷ 0 ∷ 0 ∷ 0 ∷ 0 ∷ 0 ∷ 0 ∷ 0 ∷ 0 ∷ n ∷ 0 ∷ 0 ∷ 0 ∷ 32 ∷ []

-- the entry of a segment's routine
abbrev entry : ℕ → ℕ → List ℕ
entry routine segment = 0 ∷ routine ∷ 63 ∷ 60 ∷ 0 ∷ segment ∷ 169 ∷ 240 ∷ []

-- two entries of segment 1, which returns twice
abbrev one_segment : List Ref
one_segment = code 0 (header 16 ++ (entry 0 1 ++ entry 4 1))
    ∷ code 1 (0 ∷ 0 ∷ 0 ∷ 2 ∷ 78 ∷ 117 ∷ 78 ∷ 117 ∷ []) ∷ []

-- a segment is loaded high, unloaded, purged and loaded for a call; there is no entry 2, and no segment 2
loaded-and-unloaded : (window : Site) → tells (line (ShowEntry 0) ∷ line (LoadSeg (pos 1)) ∷ line (LoadSeg (pos 1))
    ∷ resource_line (GetResource code_type (pos 1)) ∷ heap_line (Where (Some 0)) ∷ line (ShowEntry 0)
    ∷ line (UnloadSeg (pos 1)) ∷ line (ShowEntry 0) ∷ heap_line (PurgeMem 1024) ∷ heap_line (Show (Some 0))
    ∷ line (CallEntry 1) ∷ line (CallEntry 0) ∷ line (CallEntry 2) ∷ line (LoadSeg (pos 2)) ∷ [])
    (start 1024 one_segment window)
    ≡ Entry (pos 1) 0 ∷ Number 1 ∷ Number 0 ∷ Fetched 0 0 ∷ Number 1008 ∷ Entry (pos 1) 1 ∷ Done ∷ Entry (pos 1) 0
    ∷ Refused MEM_FULL ∷ Refused NIL_HANDLE ∷ Entry (pos 1) 1 ∷ Entry (pos 1) 0 ∷ Refused PROFILE
    ∷ Refused SYSTEM_ERROR ∷ []
loaded-and-unloaded window = refl

-- an application without 'CODE'
no-segments : (window : Site) → tells (line (LoadSeg (pos 1)) ∷ []) (start_with 512 [] window)
    ≡ Refused SYSTEM_ERROR ∷ []
no-segments window = refl

-- a loaded segment whose block is gone can't be called before it is loaded again
gone : (window : Site) → tells (line (LoadSeg (pos 1)) ∷ heap_line (HUnlock (Some 0)) ∷ heap_line (EmptyHandle (Some 0))
    ∷ line (CallEntry 0) ∷ line (ShowEntry 0) ∷ line (LoadSeg (pos 1)) ∷ line (CallEntry 0) ∷ [])
    (start 1024 one_segment window)
    ≡ Number 1 ∷ Done ∷ Done ∷ Refused PROFILE ∷ Entry (pos 1) 1 ∷ Number 1 ∷ Entry (pos 1) 0 ∷ []
gone window = refl

-- one entry of segment -1, and segments that name entries in many ways
abbrev many_segments : List Ref
many_segments = code 0 (header 8 ++ (0 ∷ 0 ∷ 63 ∷ 60 ∷ 255 ∷ 255 ∷ 169 ∷ 240 ∷ []))
    ∷ record { id = negsuc 0; name = None; attrs = 0; datum = 0 ∷ 0 ∷ 0 ∷ 1 ∷ [] }
    ∷ code 1 (0 ∷ 0 ∷ 0 ∷ 1 ∷ []) ∷ code 2 (0 ∷ 80 ∷ 0 ∷ 0 ∷ []) ∷ code 3 (0 ∷ 8 ∷ 0 ∷ 1 ∷ [])
    ∷ code 4 (255 ∷ 255 ∷ 0 ∷ 0 ∷ []) ∷ code 5 (0 ∷ 4 ∷ 0 ∷ 0 ∷ []) ∷ code 6 (0 ∷ 0 ∷ 0 ∷ []) ∷ []

-- a negative segment is an ordinary one. A segment that names entries of another isn't loaded, one that names none is,
-- also where they would stand behind the table; one that names more than there are isn't, nor is one of the far model,
-- one whose offset is no multiple of 8, and one of less than 4 bytes
what-segments-name : (window : Site) → tells (line (LoadSeg (negsuc 0)) ∷ line (ShowEntry 0) ∷ line (LoadSeg (pos 1))
    ∷ line (LoadSeg (pos 2)) ∷ line (LoadSeg (pos 3)) ∷ line (LoadSeg (pos 4)) ∷ line (LoadSeg (pos 5))
    ∷ line (LoadSeg (pos 6)) ∷ line (LoadSeg (pos 0)) ∷ line (ShowEntry 1) ∷ [])
    (start 1024 many_segments window)
    ≡ Number 1 ∷ Entry (negsuc 0) 1 ∷ Refused SYSTEM_ERROR ∷ Number 1 ∷ Refused SYSTEM_ERROR ∷ Refused SYSTEM_ERROR
    ∷ Refused SYSTEM_ERROR ∷ Refused SYSTEM_ERROR ∷ Refused SYSTEM_ERROR ∷ Refused PROFILE ∷ []
what-segments-name window = refl

-- the application's own fork counts, whatever the current file is and whether loading is on; closed it has no segments
own-fork : (window : Site) → tells (resource_line (UseResFile 0) ∷ resource_line (SetResLoad false)
    ∷ line (LoadSeg (pos 1)) ∷ resource_line (CloseResFile 2) ∷ line (LoadSeg (pos 1)) ∷ line (CallEntry 0)
    ∷ line (ShowEntry 0) ∷ line (UnloadSeg (pos 1)) ∷ line (ShowEntry 0) ∷ [])
    (start 1024 one_segment window)
    ≡ Done ∷ Done ∷ Number 1 ∷ Done ∷ Refused SYSTEM_ERROR ∷ Refused PROFILE ∷ Entry (pos 1) 1 ∷ Done
    ∷ Entry (pos 1) 0 ∷ []
own-fork window = refl
