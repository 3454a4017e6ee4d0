use Rattle.res_calls.proofs.Cited.{◌≡◌, ℕ, pos, true, false, [], ◌∷◌, Some, None, Err, refl, NO_ERR, PROFILE, RES_NOT_FOUND}
use Rattle.res_calls.proofs.Cited.{RES_FILE_NOT_FOUND, Done, Fetched, Number, Bytes, Kind, Refused, Site, fresh_memory, Resources, opened}
use Rattle.res_calls.proofs.Cited.{Managers, UseResFile, CurResFile, HomeResFile, GetResource, Get1Resource, GetNamedResource}
use Rattle.res_calls.proofs.Cited.{Get1NamedResource, CountTypes, GetIndType, CountResources, GetIndResource, UniqueID, Current, EachFile}
use Rattle.res_calls.proofs.Cited.{first_free, told_or}
use Rattle.heap_calls.specs.Table as asks
use Rattle.res_calls.proofs.Worked.Lines.{line, heap_line, tells, stored, opened_map, group}

-- A search through the open files.

-- 'STR '
abbrev text : ℕ
text = 0x53545220

-- file 4 has 'STR ' 5 with the byte 't', file 3 has it twice, 'm1' named 'Menu' and 'm2', the System's has 's'
abbrev resources : Resources
resources = record {
  files = [];
  chain = opened 4 (Some 2) (opened_map (group text (stored (pos 5) None 0 (116 ∷ []) ∷ []) ∷ []))
      ∷ opened 3 (Some 1) (opened_map (group text (stored (pos 5) (Some (77 ∷ 101 ∷ 110 ∷ 117 ∷ [])) 0 (109 ∷ 49 ∷ [])
      ∷ stored (pos 5) None 0 (109 ∷ 50 ∷ []) ∷ []) ∷ []))
      ∷ opened 2 (Some 0) (opened_map [])
      ∷ opened 0 None (opened_map (group text (stored (pos 5) None 0 (115 ∷ []) ∷ []) ∷ []))
      ∷ [];
  current = 4;
  next = 5;
  loading = true;
  purging = false;
  error = NO_ERR;
}

abbrev start : Site → Managers
start window = record { memory = fresh_memory 1024 window; resources = resources }

-- the search starts at the current file
from-current : (window : Site) → tells (line (GetResource text (pos 5)) ∷ heap_line (asks.Show (Some 0))
    ∷ line (UseResFile 3) ∷ line (GetResource text (pos 5)) ∷ heap_line (asks.Show (Some 1))
    ∷ line (Get1Resource text (pos 5)) ∷ line CurResFile ∷ []) (start window)
    ≡ Fetched 0 1 ∷ Bytes (116 ∷ []) ∷ Done ∷ Fetched 1 1 ∷ Bytes (109 ∷ 49 ∷ []) ∷ Fetched 1 0 ∷ Number 3 ∷ []
from-current window = refl

-- names are compared without case
by-name : (window : Site) → tells (line (UseResFile 3)
    ∷ line (GetNamedResource text (109 ∷ 69 ∷ 78 ∷ 85 ∷ [])) ∷ line (Get1NamedResource text (120 ∷ [])) ∷ [])
    (start window)
    ≡ Done ∷ Fetched 0 1 ∷ Refused RES_NOT_FOUND ∷ []
by-name window = refl

-- what the current file has
counted : (window : Site) → tells (line (UseResFile 3) ∷ line (CountTypes Current) ∷ line (GetIndType Current 1)
    ∷ line (CountResources Current text) ∷ line (GetIndResource Current text 2) ∷ heap_line (asks.Show (Some 0)) ∷ [])
    (start window)
    ≡ Done ∷ Number 1 ∷ Kind text ∷ Number 2 ∷ Fetched 0 1 ∷ Bytes (109 ∷ 50 ∷ []) ∷ []
counted window = refl

-- what all open files have, whichever is current
counted-in-all : (window : Site) → tells (line (UseResFile 3) ∷ line (CountResources EachFile text)
    ∷ line (GetIndResource EachFile text 3) ∷ heap_line (asks.Show (Some 0)) ∷ line (GetIndResource EachFile text 4)
    ∷ heap_line (asks.Show (Some 1)) ∷ line (GetIndResource EachFile text 5) ∷ line (GetIndResource EachFile text 0)
    ∷ line (GetIndResource Current text 3) ∷ line (CountResources EachFile 0) ∷ []) (start window)
    ≡ Done ∷ Number 4 ∷ Fetched 0 1 ∷ Bytes (109 ∷ 50 ∷ []) ∷ Fetched 1 1 ∷ Bytes (115 ∷ []) ∷ Refused RES_NOT_FOUND
    ∷ Refused RES_NOT_FOUND ∷ Refused RES_NOT_FOUND ∷ Number 0 ∷ []
counted-in-all window = refl

-- the types of all open files, each once: file 6 has 'STR ' and type 1, the System's type 2 and 'STR '
types-in-all : (window : Site) → tells (line (CountTypes EachFile) ∷ line (CountTypes Current) ∷ line (GetIndType EachFile 2)
    ∷ line (GetIndType EachFile 3) ∷ line (GetIndType EachFile 4) ∷ line (GetIndType EachFile 0) ∷ line (GetIndType Current 2)
    ∷ []) (record {
      memory = fresh_memory 1024 window;
      resources = record resources {
        chain = opened 6 (Some 0) (opened_map (group text (stored (pos 1) None 0 [] ∷ [])
            ∷ group 1 (stored (pos 1) None 0 [] ∷ []) ∷ []))
            ∷ opened 0 None (opened_map (group 2 (stored (pos 1) None 0 [] ∷ [])
            ∷ group text (stored (pos 1) None 0 [] ∷ []) ∷ []))
            ∷ [];
        current = 0;
      };
    })
    ≡ Number 3 ∷ Number 2 ∷ Kind 1 ∷ Kind 2 ∷ Refused RES_NOT_FOUND ∷ Refused RES_NOT_FOUND ∷ Kind text ∷ []
types-in-all window = refl

-- an ID that no resource of the type has: file 6 has 'STR ' 128 and 130, the System's 129
free : (window : Site) → tells (line (UniqueID Current text) ∷ line (UniqueID EachFile text) ∷ line (UniqueID EachFile 0) ∷ [])
    (record {
      memory = fresh_memory 1024 window;
      resources = record resources {
        chain = opened 6 (Some 0) (opened_map (group text (stored (pos 128) None 0 [] ∷ stored (pos 130) None 0 [] ∷ []) ∷ []))
            ∷ opened 0 None (opened_map (group text (stored (pos 129) None 0 [] ∷ []) ∷ []))
            ∷ [];
        current = 6;
      };
    })
    ≡ Number 129 ∷ Number 131 ∷ Number 128 ∷ []
unfolding first_free
free window = refl

-- none is free where all are taken
all-taken : (s : Managers) → (told_or PROFILE (first_free (λ id. true) 3 128) s).reply ≡ Err PROFILE
unfolding first_free
all-taken s = refl

-- a resource of the System's is found behind a file without it
behind-own : (window : Site) → tells (line (UseResFile 2) ∷ line (Get1Resource text (pos 5))
    ∷ line (GetResource text (pos 5)) ∷ heap_line (asks.Show (Some 0)) ∷ line (HomeResFile (Some 0))
    ∷ line (UseResFile 9) ∷ []) (start window)
    ≡ Done ∷ Refused RES_NOT_FOUND ∷ Fetched 0 1 ∷ Bytes (115 ∷ []) ∷ Number 0 ∷ Refused RES_FILE_NOT_FOUND ∷ []
behind-own window = refl
