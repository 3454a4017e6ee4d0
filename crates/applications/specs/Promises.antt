use Rattle.std.specs.Prelude.{ℕ, take}
use Rattle.heap_calls.specs.LastPut.{Holds}
use Rattle.script_text.specs.Script.{ScriptParts}
use Rattle.res_calls.specs.Files.{Resources}
use Rattle.applications.specs.Trying.{launched_with, nowhere}
use Rattle.applications.specs.Alone.{first_steps}
use Rattle.applications.specs.Laws.{put_at_launch, EachTry, Linked, ShowsPut, HoldsPut, KeepsLocked, KeepsNonrelocatable}
use Rattle.applications.specs.Laws.{PurgesOnlyPurgeable, SearchesFew, RefusedLeaves, RefusedCosts, RefusedBinds, GoesByRule}
use Rattle.applications.specs.Laws.{NothingBusy}
use Rattle.applications.specs.Laws.{KeepsResources, KeepsFiles, KeepsTable, LockedStay, NonrelocatableStay}

-- What holds of the launch of an application with these resources in a partition of `size` bytes, and of the first `n`
-- steps of its script there: a launch or a step has no other application and no place in a memory in it. The tries are
-- those of the script's calls and of the calls of its grow-zone scripts, the refused ones too.
pub record KeepsPromises (given : Resources) (size : ℕ) (script : ScriptParts) (n : ℕ) : Type 0 where
  -- As the application is launched, each handle that has a block holds the stored data that was read into it.
  pub launched : Holds (launched_with given size nowhere).memory.heap (put_at_launch given size)
  -- Each step is a try, and the same step again as long as its grow-zone script makes room: no bound ends the tries.
  pub rule : GoesByRule script.blocks (take n script.steps) (launched_with given size nowhere)
  -- The first try begins with the heap that the launch left, and each other try with the heap that the try before it
  -- left.
  pub linked : Linked (launched_with given size nowhere).memory.heap (first_steps given size script n).events
  -- Each Show and ShowPtr shows the bytes last put into its handle or pointer, by the history of tries alone.
  pub shown : EachTry ShowsPut (put_at_launch given size) (first_steps given size script n).events
  -- After each try, each handle with a block, and each pointer, holds the bytes last put into it.
  pub held : EachTry HoldsPut (put_at_launch given size) (first_steps given size script n).events
  -- A block that is locked before a try and after it stands at the same distance. A block that is locked before the try
  -- and not after it was taken away: the call was answered, and disposes of the block's handle or unlocks it.
  pub locked : EachTry KeepsLocked (put_at_launch given size) (first_steps given size script n).events
  -- The same from the launch to the first line of the transcript and from each line to the next, whatever refused tries
  -- without a line lie between them: the call of the line took the block away.
  pub locked_lines : LockedStay (launched_with given size nowhere).memory.heap (first_steps given size script n).lines
      (first_steps given size script n).line_ends
  -- A pointer's block never moves, and only a DisposePtr that was answered takes it away.
  pub nonrelocatable : EachTry KeepsNonrelocatable (put_at_launch given size) (first_steps given size script n).events
  -- The same from the launch to the first line of the transcript and from each line to the next.
  pub nonrelocatable_lines : NonrelocatableStay (launched_with given size nowhere).memory.heap (first_steps given size script n).lines
      (first_steps given size script n).line_ends
  -- Each handle that loses its block in a try had an unlocked, purgeable block, or the call was answered, and empties
  -- the handle or disposes of it.
  pub purged : EachTry PurgesOnlyPurgeable (put_at_launch given size) (first_steps given size script n).events
  -- The number of searches for room in a try, other than one of OpenResFile, is at most one more than the number of
  -- blocks at the start of the try.
  pub searches : EachTry SearchesFew (put_at_launch given size) (first_steps given size script n).events
  -- A refused try leaves the memory, the resources and the names' bindings as they were, except for the zone where the
  -- tables say so, for what is stored of the blocks that it purged, for what is counted, and for the code that MemError or
  -- ResError returns. A segment that can't be loaded leaves what the fetch of its resource leaves.
  pub refused : EachTry RefusedLeaves (put_at_launch given size) (first_steps given size script n).events
  -- A refused try, fetches and calls on segments included, leaves as many bytes that are free or may be purged as before
  -- it, or fewer by the bytes of one master pointer block that it made.
  pub costs : EachTry RefusedCosts (put_at_launch given size) (first_steps given size script n).events
  -- A call of the Memory Manager only stores what it purges, while SetResPurge is on; else it leaves the resources as they
  -- are.
  pub resources : EachTry KeepsResources (put_at_launch given size) (first_steps given size script n).events
  -- No try changes a file, except those of CreateResFile, UpdateResFile and CloseResFile.
  pub files : EachTry KeepsFiles (put_at_launch given size) (first_steps given size script n).events
  -- No try changes the jump table, except those of the Segment Manager's calls.
  pub table : EachTry KeepsTable (put_at_launch given size) (first_steps given size script n).events
  -- After each step no name is busy.
  pub idle : NothingBusy script.blocks (take n script.steps) (launched_with given size nowhere)
  -- A step whose call is refused binds no name.
  pub bound : RefusedBinds script.blocks (take n script.steps) (launched_with given size nowhere)
