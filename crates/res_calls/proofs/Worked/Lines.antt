use Rattle.res_calls.proofs.Cited.{ℕ, List, [], ◌∷◌, replicate, Told, Ref, Group, Map, map_of, Asked, Managers, ResourceAsked, served}
pub use Rattle.fork_format.proofs.Vectors.{a_ref as stored}
use Rattle.heap_calls.specs.Table as heap

-- What lines of calls tell, one after another.

-- a line: a call of either manager
abbrev pub CallLine : Type 0
CallLine = Managers → Told × Managers

abbrev pub line : ResourceAsked → CallLine
line a s = ((served a s).told, (served a s).after)

abbrev pub heap_line : Asked → CallLine
heap_line a s = ((heap.served a s.memory).0, record s { memory = (heap.served a s.memory).1 })

abbrev pub tells : List CallLine → Managers → List Told
tells [] s = []
tells (l ∷ lines) s = (l s).0 ∷ tells lines (l s).1

-- a fork's map: its resources by type
abbrev pub opened_map : List Group → Map
opened_map groups = map_of (record { area = replicate 240 0; attrs = 0; groups = groups })

abbrev pub group : ℕ → List Ref → Group
group kind refs = record { kind = kind; refs = refs }
