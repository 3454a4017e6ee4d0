use Rattle.std.specs.Prelude.{◌≡◌, ℕ, Bool, true, ◌&&◌, ◌==◌, Result, Ok, Err, List, [], map, filter, length, replicate, if◌then◌else◌}
use Rattle.std.specs.Str.{is_utf8}
use Rattle.byteorder.specs.Endian.{big_number}
use Rattle.mac_roman.specs.Roman.{from_roman}
use Rattle.mac_words.specs.declared.code.TheConstants.OsErr.{RES_NOT_FOUND}
use Rattle.fork_format.specs.Content.{Ref, Group, Content}
use Rattle.fork_format.specs.Canonical.{has_refs}
use Rattle.fork_format.specs.Fork.{Spells}
use Rattle.fork_edits.specs.Resources.{has_id}
use Rattle.rez_statements.specs.Types.{Declared}
use Rattle.rez_templates.specs.Templates.{with_templates}
use Rattle.rez_text.specs.Printing.{source_of}
use Rattle.rez_text.specs.Reading.{read, ReadFault, Wrong, Lacking}
use Rattle.rez_text.specs.View.{names_of}
use Rattle.rez_typed.specs.Source.{typed_source}
use Rattle.fork_commands.specs.declared.assembling.AssemblyFault.{AssemblyFault}
use Rattle.fork_commands.specs.declared.assembling.AssemblyFault.TheVariants as assembly_fault
use Rattle.fork_commands.specs.declared.fault.FileFault.{FileFault}
use Rattle.fork_commands.specs.declared.fault.FileFault.TheVariants.{Code, Source}
use Rattle.fork_commands.specs.declared.fault.WorkFault.{WorkFault}
use Rattle.fork_commands.specs.declared.fault.WorkFault.TheVariants as work_fault
use Rattle.fork_commands.specs.declared.source_form.SourceForm.{SourceForm}
use Rattle.fork_commands.specs.declared.source_form.SourceForm.TheVariants.{Typed, Data}
use Rattle.fork_commands.specs.declared.selecting.Selection.{Selection}
use Rattle.fork_commands.specs.declared.selecting.Selection.TheVariants.{All, OfType, One}
use Rattle.fork_commands.specs.Faults.{made_then}
use Rattle.fork_commands.specs.Reading.{content_in}
use Rattle.fork_commands.specs.Works.{canonical}

-- Sources of Rez: what is printed of a fork, and the fork of what a source states. Macintosh Programmer's Workshop: Building and
-- Managing Programs in MPW, chapters "Rez" and "DeRez".

-- A content as source: by the declarations of types, or with statements `data` alone.
abbrev pub source_by : SourceForm → List Declared → Content → List ℕ
source_by (Typed style) types c = typed_source style types c
source_by (Data charset) types c = source_of charset c

-- The same by the types and the templates of a content.
abbrev pub source_with : SourceForm → List Declared → Content → Content → List ℕ
source_with form types whole c = source_by form (with_templates whole types) c

-- A resource of a type is selected.
abbrev pub is_selected : Selection → ℕ → Ref → Bool
is_selected All kind r = true
is_selected (OfType ty) kind r = kind == big_number 4 ty.0
is_selected (One key) kind r = kind == big_number 4 key.ty.0 && has_id key.id r

-- The resources of a type that are selected.
abbrev pub selected_group : Selection → Group → Group
selected_group selection g = record g { refs = filter (is_selected selection g.kind) g.refs }

-- All that are selected; a type of which none is, is left out.
abbrev pub selected_groups : Selection → List Group → List Group
selected_groups selection groups = filter has_refs (map (selected_group selection) groups)

-- Some resources alone, with nothing of the map's attributes and the bytes after the header; -192 (resNotFound) where there are none.
abbrev pub alone : List Group → Result Content FileFault
alone [] = Err (Code RES_NOT_FOUND)
alone groups = Ok (record { area = replicate 240 0; attrs = 0; groups = groups })

-- What is selected of a content: the whole, or some resources alone.
abbrev pub selected : Selection → Content → Result Content FileFault
selected All c = Ok c
selected selection c = alone (selected_groups selection c.groups)

-- What is selected of the fork in the bytes of a file.
abbrev pub selected_in : Selection → List ℕ → Result Content FileFault
selected_in selection bytes = made_then (content_in bytes) (selected selection)

-- The source of some resources of a content alone, by types and by the templates of the whole.
abbrev pub some_source : SourceForm → Selection → List Declared → Content → Result (List ℕ) FileFault
some_source form selection types whole =
    made_then (alone (selected_groups selection whole.groups)) (λ c. Ok (source_with form types whole c))

-- The source of what is selected of a content.
abbrev pub selected_source : SourceForm → Selection → List Declared → Content → Result (List ℕ) FileFault
selected_source form selection types whole =
    made_then (selected selection whole) (λ c. Ok (source_with form types whole c))

-- The source of what is selected of the fork in the bytes of a file.
abbrev pub printed : SourceForm → Selection → List Declared → List ℕ → Result (List ℕ) FileFault
printed form selection types bytes = made_then (content_in bytes) (selected_source form selection types)

-- The text is source of what is selected, whatever types are declared before it, and whatever files are there.
abbrev pub StatesSelected : Selection → List ℕ → List ℕ → Type 0
StatesSelected selection bytes text = (types : List Declared) (files : List (List ℕ)) (c : Content)
    → selected_in selection bytes ≡ Ok c → read types files text ≡ Ok c

-- Why no fork was made of a source: a line that can't be read, or what is stated fits no fork; or files that it names are not there.
pub data Unassembled : Type 0 where
  Faulty : FileFault → Unassembled
  Lacks : List (List ℕ) → Unassembled

-- The content that a source states, or why there is none.
abbrev pub content_stated : Result Content ReadFault → Result Content Unassembled
content_stated (Ok c) = Ok c
content_stated (Err (Wrong line kind)) = Err (Faulty (Source (record { line = line; kind = kind })))
content_stated (Err (Lacking names)) = Err (Lacks names)

-- The fault of a work as that of a source.
abbrev pub of_work : WorkFault → AssemblyFault
of_work work_fault.HostMemory = assembly_fault.HostMemory
of_work (work_fault.File fault) = assembly_fault.File fault

-- A fork, or the fault for which there is none.
abbrev pub fork_or_fault : Result (List ℕ) FileFault → Result (List ℕ) Unassembled
fork_or_fault (Ok fork) = Ok fork
fork_or_fault (Err fault) = Err (Faulty fault)

-- The canonical fork of what a source states, where these types are declared before it; its statements `read` take the files in order.
abbrev pub assembled : List Declared → List (List ℕ) → List ℕ → Result (List ℕ) Unassembled
assembled types files source =
    made_then (content_stated (read types files source)) (λ c. fork_or_fault (canonical c))

-- The fault is what stands in place of a fork; nothing is said if the host is out of memory.
abbrev pub StopsAssembly : {A : Type 0} → AssemblyFault → Result A Unassembled → Type 0
StopsAssembly assembly_fault.HostMemory made = Unit {0}
StopsAssembly (assembly_fault.File fault) made = made ≡ Err (Faulty fault)
StopsAssembly (assembly_fault.Files names) made = made ≡ Err (Lacks (names_of names.items))

-- The fault is not that files are lacking.
abbrev pub IsNotLacking : AssemblyFault → Type 0
IsNotLacking assembly_fault.HostMemory = Unit {0}
IsNotLacking (assembly_fault.File fault) = Unit {0}
IsNotLacking (assembly_fault.Files names) = ⊥

-- With a file for each name that a source without files lacks, none is lacking.
abbrev pub HasEnough : AssemblyFault → List Declared → List (List ℕ) → List ℕ → Type 0
HasEnough fault types files source = (names : List (List ℕ)) → assembled types [] source ≡ Err (Lacks names)
    → length files ≡ length names → IsNotLacking fault

-- The bytes are a resource fork that holds what a source of Rez states.
abbrev pub HoldsStated : List Declared → List (List ℕ) → List ℕ → List ℕ → Type 0
HoldsStated types files source fork = (c : Content) → read types files source ≡ Ok c → Spells fork c

-- The name of a file in a source as text: bytes that are UTF-8 as they are, others as characters of Mac OS Roman.
abbrev pub file_name : List ℕ → List ℕ
file_name name = if is_utf8 name then name else from_roman name
