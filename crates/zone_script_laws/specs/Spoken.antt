use Rattle.std.specs.Prelude.{◌≡◌, false, List, [], ◌∷◌, map}
use Rattle.mac_words.specs.declared.code.TheConstants.OsErr.{NO_ERR}
use Rattle.script_text.specs.Argument.{Letters, Number}
use Rattle.script_text.specs.Script.{Said, Makes, said_as}
use Rattle.script_text.specs.declared.script.Line.{Line as Step}
use Rattle.script_text.specs.declared.word.CallWord.TheVariants as word
use Rattle.block_store.specs.Block.{Block}
use Rattle.applications.specs.Trying.{code_told}
use Rattle.applications.specs.Step.{Course, Shown}
use Rattle.zone_scripts.specs.Lines.{Line, MoreMasters, NewHandle, NewPtr, HLock, HPurge, HUnlock, DisposePtr}

-- The calls of a script as the reader of scripts states them, and what an application that is only such a script leaves.

-- What the line of a call states.
abbrev pub said_of : Line → Said
said_of MoreMasters = Makes word.MoreMasters []
said_of (NewHandle name size) = Makes word.NewHandle (Letters name ∷ Number size ∷ [])
said_of (NewPtr name size) = Makes word.NewPtr (Letters name ∷ Number size ∷ [])
said_of (HLock name) = Makes word.HLock (Letters name ∷ [])
said_of (HPurge name) = Makes word.HPurge (Letters name ∷ [])
said_of (HUnlock name) = Makes word.HUnlock (Letters name ∷ [])
said_of (DisposePtr name) = Makes word.DisposePtr (Letters name ∷ [])

-- The steps of a script state these calls.
abbrev pub States : List Line → List Step → Type 0
States lines steps = map (λ (step : Step). said_as step.call) steps ≡ map said_of lines

-- Each line of a transcript reports a call that was done.
abbrev pub AllDone : List Shown → Type 0
AllDone [] = Unit {0}
AllDone (line ∷ lines) = (code_told line.told ≡ NO_ERR) × AllDone lines

-- After a course in which each call was done, the zone is this one, and the application goes on.
pub record Leaves (zone : List Block) (course : Course) : Type 0 where
  pub done : AllDone course.lines
  pub goes_on : course.over ≡ false
  pub zone_is : course.after.memory.heap.zone ≡ zone
