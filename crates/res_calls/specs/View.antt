use Rattle.std.specs.Prelude.{ℕ, Bool, List, map}
use Rattle.mac_words.specs.declared.code.OsErr.{OsErr}
use Rattle.res_calls.specs.Files.{File, OpenFile, Resources}
use Rattle.res_calls.specs.declared.files.File.{File as StoredFile}
use Rattle.res_calls.specs.declared.files.OpenFile.{OpenFile as StoredOpenFile}

-- A file and an open file as values of the definitions, without the addresses of their bytes.
abbrev pub view_file : StoredFile → File
view_file f = record { name = f.name.0.items; fork = f.fork.items; written = f.written }

abbrev pub view_open : StoredOpenFile → OpenFile
view_open f = record { number = f.number; file = f.file; map = f.map; touched = f.touched }

-- The resources made of these files and open files; the file opened last comes first.
abbrev pub resources_of : List StoredFile → List StoredOpenFile → ℕ → ℕ → Bool → Bool → OsErr → Resources
resources_of files chain current next loading purging error = record {
  files = map view_file files;
  chain = map view_open chain;
  current = current;
  next = next;
  loading = loading;
  purging = purging;
  error = error;
}
