use Rattle.std.specs.Prelude.{ℤ, pos, Bool, Option, Some, None, List, [], if◌then◌else◌, slice_get}
use Rattle.std.specs.Ordering.{int_eq}
use Rattle.mac_words.specs.declared.segment_call.SegmentCall.{SegmentCall}
use Rattle.mac_words.specs.declared.segment_call.SegmentCall.TheVariants as segment
use Rattle.heap_calls.specs.Gone.{Gone}
use Rattle.res_calls.specs.Gone.{own_gone}
use Rattle.segments.specs.Table.{Entry}
use Rattle.segments.specs.Calls.{Program, code_type}

-- What a call of the Segment Manager purges for room. Inside Macintosh: Processes, chapter 7, "Loading and Unloading
-- Segments".

-- The blocks that LoadSeg purges: those of the fetch of the segment.
abbrev pub load_gone : ℤ → Program → List Gone
load_gone n p = if int_eq n (pos 0) then [] else own_gone code_type n p.managers

-- The blocks that a call through an entry purges: those of LoadSeg, where the entry is not loaded.
abbrev pub through_gone : Option ℤ → Bool → Program → List Gone
through_gone None loaded p = []
through_gone (Some n) loaded p = if loaded then [] else load_gone n p

abbrev pub entry_gone : Option Entry → Program → List Gone
entry_gone None p = []
entry_gone (Some e) p = through_gone e.segment e.loaded p

-- The blocks that a call purges for room.
abbrev pub gone_for : SegmentCall → Program → List Gone
gone_for (segment.LoadSeg n) p = load_gone n p
gone_for (segment.UnloadSeg n) p = []
gone_for (segment.CallEntry i) p = entry_gone (slice_get p.table i) p
gone_for (segment.ShowEntry i) p = []
