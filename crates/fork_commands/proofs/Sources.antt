use Rattle.fork_commands.proofs.Cited.{Global, ◌≡◌, ◌∙◌, ℕ, Bool, true, false, cond, List, [], Result, Ok, Err, Vec, refl, sym, ap, subst}
use Rattle.fork_commands.proofs.Cited.{IsUtf8, is_utf8, is_utf8-from_IsUtf8, IsUtf8-from_is_utf8, from_roman, Content, Spells, clear}
use Rattle.fork_commands.proofs.Cited.{clear_clear, Declared, FaultKind, FileName, read, ReadFault, Wrong, Lacking, names_of, enough}
use Rattle.fork_commands.proofs.Cited.{AssemblyFault, FileFault, Source, WorkFault, HostMemory, SourceForm, Selection, made_then, Stops}
use Rattle.fork_commands.proofs.Cited.{content_in, source_with, selected_groups, alone, some_source, selected_source, printed, Faulty}
use Rattle.fork_commands.proofs.Cited.{Lacks, content_stated, fork_or_fault, assembled, of_work, file_name, HasEnough, HoldsStated}
use Rattle.fork_commands.proofs.Cited.{StopsAssembly, canonical}
use Rattle.fork_commands.specs.declared.assembling.AssemblyFault.TheVariants as assembly_fault
use Rattle.fork_commands.specs.declared.fault.WorkFault.TheVariants.{File}

-- What is printed, and what is made of a source.

-- some resources of a content were printed
pub some_printed : (form : SourceForm) (s : Selection) (types : List Declared) (whole c : Content) (out : List ℕ)
    → alone (selected_groups s whole.groups) ≡ Ok c → out ≡ source_with form types whole c
    → some_source form s types whole ≡ Ok out
some_printed form s types whole c out has is = rw has (ap Ok (sym is))

-- why there are none
pub some_not : (form : SourceForm) (s : Selection) (types : List Declared) (whole : Content) (fault : WorkFault)
    → Stops fault (alone (selected_groups s whole.groups)) → Stops fault (some_source form s types whole)
some_not form s types whole HostMemory stops = tt
some_not form s types whole (File fault) stops = rw stops refl

-- the content of a fork was printed
pub printed_of : (form : SourceForm) (s : Selection) (types : List Declared) (bytes : List ℕ) (c : Content)
    (made : Result (List ℕ) FileFault) → content_in bytes ≡ Ok c → selected_source form s types c ≡ made
    → printed form s types bytes ≡ made
printed_of form s types bytes c made has is = rw has is

pub printed_not : (form : SourceForm) (s : Selection) (types : List Declared) (bytes : List ℕ) (c : Content) (fault : WorkFault)
    → content_in bytes ≡ Ok c → Stops fault (selected_source form s types c) → Stops fault (printed form s types bytes)
printed_not form s types bytes c fault has stops = rw has stops

-- why there is none
pub unprinted : (form : SourceForm) (s : Selection) (types : List Declared) (bytes : List ℕ) (fault : WorkFault)
    → Stops fault (content_in bytes) → Stops fault (printed form s types bytes)
unprinted form s types bytes HostMemory stops = tt
unprinted form s types bytes (File fault) stops = ap (λ r. made_then r (selected_source form s types)) stops

-- what a source states was made into its fork
pub assembled_of : (types : List Declared) (files : List (List ℕ)) (source fork : List ℕ) (said c : Content)
    → read types files source ≡ Ok said → c ≡ said → canonical c ≡ Ok fork → assembled types files source ≡ Ok fork
assembled_of types files source fork said c stated is has =
    ap (λ r. made_then (content_stated r) (λ d. fork_or_fault (canonical d))) stated
    ∙ ap (λ d. fork_or_fault (canonical d)) (sym is) ∙ ap fork_or_fault has

-- a source is read by a copy of types
pub read_by : (types copy : List Declared) (files : List (List ℕ)) (source : List ℕ) (said : Result Content ReadFault)
    → copy ≡ types → read copy files source ≡ said → read types files source ≡ said
read_by types copy files source said same is = ap (λ t. read t files source) (sym same) ∙ is

-- why it fits no fork
pub unfit_of : (types : List Declared) (files : List (List ℕ)) (source : List ℕ) (c : Content) (fault : WorkFault)
    (told : AssemblyFault) → read types files source ≡ Ok c → told ≡ of_work fault → Stops fault (canonical c)
    → StopsAssembly told (assembled types files source)
unfit_of types files source c HostMemory told stated is stops =
    subst (λ f. StopsAssembly f (assembled types files source)) (sym is) tt
unfit_of types files source c (File fault) told stated is stops =
    subst (λ f. StopsAssembly f (assembled types files source)) (sym is) (rw (stated, stops) refl)

-- why the source states nothing
pub unread_of : (types : List Declared) (files : List (List ℕ)) (source : List ℕ) (line : ℕ) (kind : FaultKind)
    → read types files source ≡ Err (Wrong line kind)
    → assembled types files source ≡ Err (Faulty (Source (record { line = line; kind = kind })))
unread_of types files source line kind is = rw is refl

pub lacking_of : (types : List Declared) (files : List (List ℕ)) (source : List ℕ) (names : List (List ℕ))
    → read types files source ≡ Err (Lacking names) → assembled types files source ≡ Err (Lacks names)
lacking_of types files source names is = rw is refl

-- what a source states is clear, and so is read again from its fork
pub stated_again : (types : List Declared) (files : List (List ℕ)) (source fork : List ℕ) (said d : Content)
    → read types files source ≡ Ok (clear said) → d ≡ clear said → Spells fork (clear d) → HoldsStated types files source fork
stated_again types files source fork said d stated has again = λ c is.
    let both : Ok (clear said) ≡ Ok c = sym stated ∙ is in
    let same : clear said ≡ c = cc in
    subst (Spells fork) (ap clear has ∙ clear_clear said ∙ same) again

-- other faults do not say that files are lacking
pub not_lacking : (types : List Declared) (files : List (List ℕ)) (source : List ℕ) (fault : WorkFault) (told : AssemblyFault)
    → told ≡ of_work fault → HasEnough told types files source
not_lacking types files source HostMemory told is =
    subst (λ f. HasEnough f types files source) (sym is) (λ names none many. tt)
not_lacking types files source (File fault) told is =
    subst (λ f. HasEnough f types files source) (sym is) (λ names none many. tt)

-- the files that are lacking where none is given
was_lacking : (stated : Result Content ReadFault) (names : List (List ℕ))
    → made_then (content_stated stated) (λ c. fork_or_fault (canonical c)) ≡ Err (Lacks names) → stated ≡ Err (Lacking names)
was_lacking (Ok c) names none = absurd (cases (canonical c) none)
  where
    cases : (made : Result (List ℕ) FileFault) → fork_or_fault made ≡ Err (Lacks names) → ⊥
    cases (Ok fork) none = cc
    cases (Err fault) none = cc
was_lacking (Err (Wrong line kind)) names none = absurd (cc)
was_lacking (Err (Lacking others)) names none =
    let same : others ≡ names = cc in ap (λ n. Err (Lacking n)) same

-- with as many files none is lacking
pub has_enough : (types : List Declared) (files : List (List ℕ)) (source : List ℕ) (lacks : Vec FileName Global)
    → read types files source ≡ Err (Lacking (names_of lacks.items))
    → HasEnough (assembly_fault.Files lacks) types files source
has_enough types files source lacks is = λ names none many.
    enough types files source names (names_of lacks.items) (was_lacking (read types [] source) names none) many is

-- the name of a file as text
pub name_as_it_is : (name text out : List ℕ) → text ≡ name → IsUtf8 name → out ≡ text → out ≡ file_name name
name_as_it_is name text out same is has = rw (is_utf8-from_IsUtf8 name is) (has ∙ same)

pub name_from_roman : (name out : List ℕ) → (IsUtf8 name → ⊥) → out ≡ from_roman name → out ≡ file_name name
name_from_roman name out not has = cases (is_utf8 name) refl
  where
    cases : (t : Bool) → is_utf8 name ≡ t → out ≡ cond t name (from_roman name)
    cases true e = absurd (not (IsUtf8-from_is_utf8 name e))
    cases false e = has
