use Rattle.std.specs.Prelude.{ℕ, Bool, true, false, List, [], Result, Ok, Err}
use Rattle.mac_roman.specs.declared.charset.Charset.TheVariants.{Utf8}
use Rattle.rez_printing.specs.declared.style.Numbering.TheVariants as numbering
use Rattle.rez_typed.specs.declared.style.Coding.TheVariants as coding
use Rattle.fork_commands.specs.declared.fault.FileFault.{FileFault}
use Rattle.fork_commands.specs.declared.fault.FileFault.TheVariants.{ReadsFiles}
use Rattle.fork_commands.specs.declared.source_form.SourceForm.{SourceForm}
use Rattle.fork_commands.specs.declared.source_form.SourceForm.TheVariants.{Typed, Data}
use Rattle.fork_commands.specs.BuiltIn.{built_in}
use Rattle.fork_commands.specs.Sources.{Unassembled, Faulty, Lacks, assembled}

-- Resource forks as source of Rez, and back.

-- How a content is printed: with typed statements, or as data alone; in UTF-8.
abbrev pub form_of : Bool → SourceForm
form_of true = Typed (record { numbering = numbering.None; coding = coding.Utf8 })
form_of false = Data Utf8

-- A source that reads files is at fault where none are given.
abbrev pub alone : Result (List ℕ) Unassembled → Result (List ℕ) FileFault
alone (Ok fork) = Ok fork
alone (Err (Faulty fault)) = Err fault
alone (Err (Lacks names)) = Err ReadsFiles

-- The canonical fork of what a source states by the types of the table.
abbrev pub stated : List ℕ → Result (List ℕ) FileFault
stated source = alone (assembled built_in [] source)
