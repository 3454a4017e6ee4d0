use Rattle.std.specs.Prelude.{ℕ, ◌==◌, Bool, false, Option, Some, None, if◌then◌else◌}
use Rattle.mac_words.specs.Told as tells
use Rattle.mac_words.specs.Told.{Told, Done, Number}
use Rattle.mac_words.specs.declared.segment_call.SegmentCall.{SegmentCall}
use Rattle.mac_words.specs.declared.segment_call.SegmentCall.TheVariants as segment
use Rattle.heap_calls.specs.Serving.{told_as}
use Rattle.res_calls.specs.Fetch.{Managers, Reads, Fetched}
use Rattle.res_calls.specs.Own.{own_handle}
use Rattle.segments.specs.Calls.{Program, Answer, Called, Shown, load_seg, unload_seg, call_entry, show_entry}
use Rattle.segments.specs.Calls.{code_type}

-- The outcome of a try of a call: its reply as a transcript prints it, what it read, the empty handle into whose block
-- it reads again, whether it is refused because there is no room, and the program after it.
pub record Served : Type 0 where
  pub told : Told
  pub reads : Reads
  pub reading : Option ℕ
  pub wants : Bool
  pub after : Program

-- An answer with its reply as a transcript prints it.
abbrev pub telling : {T : Type 0} → (T → Told) → Answer T → Served
telling tell a = record {
  told = told_as tell a.reply;
  reads = a.reads;
  reading = a.reading;
  wants = a.wants;
  after = a.after;
}

-- How a transcript prints a loaded segment, a segment that was called, and an entry.
abbrev pub tell_loaded : Fetched → Told
tell_loaded f = Number f.read

abbrev pub tell_called : Called → Told
tell_called c = tells.Entry c.segment c.read

abbrev pub tell_shown : Shown → Told
tell_shown e = tells.Entry e.segment (if e.loaded then 1 else 0)

-- One try of a call.
abbrev pub served : SegmentCall → Program → Served
served (segment.LoadSeg n) p = telling tell_loaded (load_seg n p)
served (segment.UnloadSeg n) p = telling (λ _. Done) (unload_seg n p)
served (segment.CallEntry i) p = telling tell_called (call_entry i p)
served (segment.ShowEntry i) p = telling tell_shown (show_entry i p)

-- Whether a handle is h.
abbrev pub is_same : ℕ → Option ℕ → Bool
is_same h None = false
is_same h (Some k) = k == h

-- Whether a call unlocks the block of the handle h: it does where it unloads the segment of h.
abbrev pub unlocks : ℕ → SegmentCall → Managers → Bool
unlocks h (segment.UnloadSeg n) s = is_same h (own_handle code_type n s.resources)
unlocks h call s = false
