use Rattle.std.specs.Prelude.{ℕ, false, Result, List, [], ◌∷◌, map}
use Rattle.mac_words.specs.declared.code.OsErr.{OsErr}
use Rattle.fork_format.specs.Content.{Content}
use Rattle.res_calls.specs.Files.{File, Resources}
use Rattle.res_calls.specs.Rows.{launched_resources}
use Rattle.desk.specs.declared.job.App.{App}
use Rattle.desk.specs.declared.job.AppFile.{AppFile}
use Rattle.desk.specs.Phase.{Waiting}
use Rattle.desk.specs.Desk.{Place, State}

-- What is given for a run, as the desk begins with it.

-- The files of an application: its own, which has the application's name, and the others. No file was written yet.
abbrev pub file_given : AppFile → File
file_given f = record { name = f.name.0.items; fork = f.fork.items; written = false }

abbrev pub files_given : App → List File
files_given app =
    record { name = app.name.0.items; fork = app.fork.items; written = false } ∷ map file_given app.files.items

-- The resources with which an application is launched, with the System file's content, or the result code for which
-- the application's fork can't be opened.
abbrev pub start_of : Content → App → Result Resources OsErr
start_of system app = launched_resources (files_given app) system

-- The place of an application that waits for its launch.
abbrev pub place_given : Content → App → Place
place_given system app = record {
  name = app.name.0.items;
  size = app.size;
  script = app.script;
  phase = Waiting (start_of system app);
}

-- The desk before the first event: every application waits, no window is in use, and the log is empty.
abbrev pub opening : ℕ → Content → List App → State
opening memory system apps = record {
  memory = memory;
  windows = [];
  places = map (place_given system) apps;
  log = [];
}
