use Rattle.std.specs.Prelude.{◌≡◌, Bool, false, Option, Some, None, map}
use Rattle.memory_windows.specs.declared.Window.{Window}
use Rattle.mac_words.specs.declared.code.OsErr.{OsErr}
use Rattle.block_store.specs.Rest.{Site}
use Rattle.res_calls.specs.View.{view_file}
use Rattle.applications.specs.Trying.{nowhere}
use Rattle.applications.specs.Elsewhere.{moved}
use Rattle.desk.specs.declared.live.Live as declared
use Rattle.desk.specs.declared.outcome.Launched as leaving
use Rattle.desk.specs.Outcome.{Launched}
use Rattle.desk.specs.Phase.{Live, Next, GoesOn, Ends, leaves}

-- An application that runs, as the code holds it: the place where its memory lies is no part of what it stands for.
abbrev pub live_seen : {S : Type 0} → declared.Live S → Live
live_seen live = record {
  window = live.partition.window;
  steps = live.steps;
  transcript = live.text.items;
  state = moved nowhere live.application;
}

-- What a launched application leaves, as the code holds it.
abbrev pub leaves_seen : leaving.Launched → Launched
leaves_seen l = record {
  size = l.size;
  steps = l.steps;
  asked = l.asked;
  transcript = l.transcript.items;
  files = map view_file l.files.items;
}

-- What followed an act, as the code has it: the application goes on, or it has ended with a result code.
abbrev pub HasCome : {S : Type 0} → Bool → Next → Option OsErr → declared.Live S → Type 0
HasCome asked next None live = next ≡ GoesOn (live_seen live)
HasCome asked next (Some code) live =
    next ≡ Ends (leaves asked (live_seen live)) (record { window = live.partition.window; code = code })

-- An application leaves what another leaves as it stands.
abbrev pub LeavesAs : {S : Type 0} → Live → declared.Live S → Type 0
LeavesAs m live = leaves false m ≡ leaves false (live_seen live)

-- The window of an application, and where the store of its zone lies.
abbrev pub Lot : Type 0
Lot = Window × Site

abbrev pub lot_of_live : {S : Type 0} → declared.Live S → Lot
lot_of_live live = (live.partition.window, live.application.memory.window)
