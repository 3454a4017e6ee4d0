use Rattle.std.specs.Prelude.{◌≡◌, ℕ, ℤ, Bool, false, not, Some, None, option_map, unwrap_or, Result, Ok, Err, List, []}
use Rattle.std.specs.List.{flat_map}
use Rattle.byteorder.specs.Endian.{big_number}
use Rattle.mac_roman.specs.declared.charset.Charset.{Charset}
use Rattle.mac_words.specs.declared.attributes.Attrs.{Attrs}
use Rattle.fork_format.specs.Content.{Ref, Content}
use Rattle.fork_edits.specs.RomanNames.{name_bytes}
use Rattle.fork_edits.specs.Setting.{Change, name_or, with_resource}
use Rattle.fork_edits.specs.Renaming.{Renaming, with_renamed}
use Rattle.fork_edits.specs.Differences.{differences, same_content}
use Rattle.fork_edits.specs.Lines.{difference_line}
use Rattle.fork_edits.specs.Merging.{merged}
use Rattle.rez_text.specs.Reading.{read, ReadFault, Wrong, Lacking}
use Rattle.text_diff.specs.Difference.{IsDifference}
use Rattle.fork_commands.specs.declared.fault.FileFault.{FileFault}
use Rattle.fork_commands.specs.declared.fault.FileFault.TheVariants.{InBoth, Source, ReadsFiles}
use Rattle.fork_commands.specs.declared.fault.WorkFault.{WorkFault}
use Rattle.fork_commands.specs.declared.fault.WorkFault.TheVariants as work_fault
use Rattle.fork_commands.specs.declared.pair.Setting.{Setting}
use Rattle.fork_commands.specs.declared.pair.PairNames.{PairNames}
use Rattle.fork_commands.specs.declared.pair.PairWork.{PairWork}
use Rattle.fork_commands.specs.declared.pair.PairWork.TheVariants.{Set, SetStated, Diff, DiffText, Wrap, Merge}
use Rattle.fork_commands.specs.declared.pair.Place.{Place}
use Rattle.fork_commands.specs.declared.pair.Place.TheVariants.{First, Second}
use Rattle.fork_commands.specs.declared.pair.PairFault.{PairFault}
use Rattle.fork_commands.specs.declared.pair.PairFault.TheVariants as pair_fault
use Rattle.fork_commands.specs.declared.packaging.Packaging.{Packaging}
use Rattle.fork_commands.specs.declared.packaging.Packaging.TheVariants.{AsRead}
use Rattle.fork_commands.specs.declared.source_form.SourceForm.{SourceForm}
use Rattle.fork_commands.specs.BuiltIn.{built_in}
use Rattle.fork_commands.specs.Faults.{made_then}
use Rattle.fork_commands.specs.Packaging.{packed, then_packed}
use Rattle.fork_commands.specs.Reading.{fork_in, content_in}
use Rattle.fork_commands.specs.Sources.{source_with}
use Rattle.fork_commands.specs.Works.{canonical, resource_at}

-- What the works make of the bytes of two files.

-- The names of two files, as they are printed.
pub record Names : Type 0 where
  pub first : List ℕ
  pub second : List ℕ

abbrev pub names_of : PairNames → Names
names_of names = record { first = names.first.now; second = names.second.now }

-- What is made: bytes; or a text of how one text becomes another. And whether it was found that what two files hold differs.
pub data Made : Type 0 where
  Bytes : (bytes : List ℕ) (differs : Bool) → Made
  Texts : (old new : List ℕ) (differs : Bool) → Made

-- The bytes are what is made for files of these names, and what they hold differs so.
abbrev pub IsMade : Names → Made → List ℕ → Bool → Type 0
IsMade names (Bytes bytes differs) out found = (out ≡ bytes) × (found ≡ differs)
IsMade names (Texts old new differs) out found = IsDifference names.first names.second old new out × (found ≡ differs)

-- So they are, where no fault is in the way.
abbrev pub Gives : {F : Type 0} → Names → Result Made F → List ℕ → Bool → Type 0
Gives names (Ok made) out found = IsMade names made out found
Gives names (Err fault) out found = ⊥

-- What a resource is set to: bytes, and a name and attributes if they are given.
abbrev pub setting_change : Setting → List ℕ → Change
setting_change s bytes = record {
  datum = bytes;
  name = option_map name_bytes s.name;
  attrs = option_map (λ (a : Attrs). a.0) s.attrs;
}

-- The content with a resource set to bytes.
unfoldable pub with_setting : Setting → List ℕ → Content → Content
with_setting s bytes c = with_resource (big_number 4 s.key.ty.0) s.key.id (setting_change s bytes) c

-- The bytes of a resource alone.
abbrev pub bytes_alone : Ref → Change
bytes_alone r = record { datum = r.datum; name = None; attrs = None }

-- The name and the attributes that are given, else those of a resource, which may have no name.
abbrev pub stated_naming : Setting → Ref → Renaming
stated_naming s r = record {
  id = None;
  name = Some (name_or (option_map name_bytes s.name) r.name);
  attrs = Some (unwrap_or (option_map (λ (a : Attrs). a.0) s.attrs) r.attrs);
}

-- The content with a resource set to one that is stated: its bytes, and its name and attributes where no others are given.
unfoldable pub with_stated : Setting → Ref → Content → Content
with_stated s r c = with_renamed (big_number 4 s.key.ty.0) s.key.id (stated_naming s r)
    (with_resource (big_number 4 s.key.ty.0) s.key.id (bytes_alone r) c)

-- The content that a source states by the types of the table. It may read no files.
abbrev pub content_or_fault : Result Content ReadFault → Result Content FileFault
content_or_fault (Ok c) = Ok c
content_or_fault (Err (Wrong line kind)) = Err (Source (record { line = line; kind = kind }))
content_or_fault (Err (Lacking names)) = Err ReadsFiles

abbrev pub source_stated : List ℕ → Result Content FileFault
source_stated source = content_or_fault (read built_in [] source)

-- The resource fork in the bytes of a file, which has a content.
abbrev pub good_fork_in : List ℕ → Result (List ℕ) FileFault
good_fork_in bytes = made_then (content_in bytes) (λ c. fork_in bytes)

-- A result for one of two files: its fault names the file.
abbrev pub at : {A : Type 0} → Place → Result A FileFault → Result A (Place × FileFault)
at place (Ok made) = Ok made
at place (Err fault) = Err (place, fault)

-- The lines of the differences of two contents.
abbrev pub difference_lines : Charset → Content → Content → List ℕ
difference_lines charset c d = flat_map (difference_line charset) (differences c d)

-- Bytes are made, and nothing is found to differ.
abbrev pub of_bytes : {F : Type 0} → Result (List ℕ) F → Result Made F
of_bytes (Ok bytes) = Ok (Bytes bytes false)
of_bytes (Err fault) = Err fault

-- The canonical fork of the content in the first bytes, once a resource in it is set to the second, alone or in the
-- wrapper of the first.
abbrev pub fork_set : Setting → Packaging → List ℕ → List ℕ → Result (List ℕ) FileFault
fork_set s packaging first second =
    then_packed packaging first (made_then (content_in first) (λ c. canonical (with_setting s second c)))

abbrev pub set_in : Setting → Packaging → List ℕ → List ℕ → Result Made (Place × FileFault)
set_in s packaging first second = of_bytes (at First (fork_set s packaging first second))

-- The same of the content in the first, once it is set to a resource that is stated.
abbrev pub stated_set : Setting → Packaging → List ℕ → Content → Ref → Result Made (Place × FileFault)
stated_set s packaging first c r = of_bytes (at First (then_packed packaging first (canonical (with_stated s r c))))

-- The same by the resource of a content that a source in the second states, and by that source.
abbrev pub set_by : Setting → Packaging → List ℕ → Content → Content → Result Made (Place × FileFault)
set_by s packaging first c stated = made_then (at Second (resource_at s.key stated)) (stated_set s packaging first c)

abbrev pub set_from : Setting → Packaging → List ℕ → List ℕ → Content → Result Made (Place × FileFault)
set_from s packaging first second c = made_then (at Second (source_stated second)) (set_by s packaging first c)

abbrev pub stated_in : Setting → Packaging → List ℕ → List ℕ → Result Made (Place × FileFault)
stated_in s packaging first second = made_then (at First (content_in first)) (set_from s packaging first second)

-- The first file with a fork that was made of the second in the place of its own.
abbrev pub put_into : List ℕ → Result (List ℕ) FileFault → Result Made (Place × FileFault)
put_into first made = of_bytes (made_then (at Second made) (λ fork. at First (packed AsRead first fork)))

-- The content that holds the resources of two, or the first type and ID that stand in both.
abbrev pub merged_or_fault : Result Content (ℕ × ℤ) → Result Content FileFault
merged_or_fault (Ok c) = Ok c
merged_or_fault (Err (kind, id)) = Err (InBoth (record { kind = kind; id = id }))

-- The canonical fork of the content that holds the resources of two, alone or in the wrapper of the first.
abbrev pub forks_merged : Bool → Packaging → List ℕ → Content → Content → Result Made (Place × FileFault)
forks_merged replaces packaging first c d = made_then (at Second (merged_or_fault (merged replaces c d))) (λ m.
    of_bytes (at First (then_packed packaging first (canonical m))))

-- How the contents of two forks differ, in lines, and whether they do.
abbrev pub compared : Charset → Content → Content → Made
compared charset c d = Bytes (difference_lines charset c d) (not (same_content c d))

-- A content as source, by the types of the table and its own templates.
abbrev pub text_of : SourceForm → Content → List ℕ
text_of form c = source_with form built_in c c

-- How their sources differ, and whether the contents do.
abbrev pub texts_compared : SourceForm → Content → Content → Made
texts_compared form c d = Texts (text_of form c) (text_of form d) (not (same_content c d))

-- What follows the contents of two forks.
unfoldable pub of_both
    : List ℕ → List ℕ → (Content → Content → Result Made (Place × FileFault)) → Result Made (Place × FileFault)
of_both first second next =
    made_then (at First (content_in first)) (λ c. made_then (at Second (content_in second)) (λ d. next c d))

-- What a work makes of the bytes of two files.
abbrev pub combined : PairWork → List ℕ → List ℕ → Result Made (Place × FileFault)
combined (Set s packaging) first second = set_in s packaging first second
combined (SetStated s packaging) first second = stated_in s packaging first second
combined Wrap first second = put_into first (good_fork_in second)
combined (Merge replaces packaging) first second = of_both first second (forks_merged replaces packaging first)
combined (Diff charset) first second = of_both first second (λ c d. Ok (compared charset c d))
combined (DiffText form) first second = of_both first second (λ c d. Ok (texts_compared form c d))

-- The fault is what stands in place of a result; nothing is said if the host is out of memory.
abbrev pub StopsPair : {A : Type 0} → PairFault → Result A (Place × FileFault) → Type 0
StopsPair pair_fault.HostMemory made = Unit {0}
StopsPair (pair_fault.File place fault) made = made ≡ Err (place, fault)

-- A fault as one of a file among two.
abbrev pub stopped_at : Place → WorkFault → PairFault
stopped_at place work_fault.HostMemory = pair_fault.HostMemory
stopped_at place (work_fault.File fault) = pair_fault.File place fault
