use Rattle.std.specs.Prelude.{ℕ, ◌≡◌, ◌⊎◌, ◌+◌, true, nat_lt, Option, Some, None, Result, Ok, Err, List, ◌∷◌, take}
use Rattle.std.specs.Prelude.{if◌then◌else◌, Bool, IsTrue, false, ⊤}
use Rattle.mac_words.specs.declared.code.OsErr.{OsErr}
use Rattle.heap_calls.specs.Gone.{Gone, TellsNothing}
use Rattle.heap_calls.specs.Inside.{new_all}
use Rattle.heap_calls.specs.Preloaded.{MadeFirst}
use Rattle.heap_calls.specs.State.{Memory, CountedMemory}
use Rattle.heap_calls.specs.Answer.{nothing}
use Rattle.heap_calls.specs.Left.{Stops, slot_step}
use Rattle.heap_calls.specs.Inner.Given.{KeepsNames}
use Rattle.res_map.specs.Split.{Split, place}
use Rattle.res_map.specs.Map.{Reference, Map}
use Rattle.res_calls.specs.Fetch.{Managers}
use Rattle.res_calls.specs.Files.{File, OpenFile, Resources, file_named, open_at, opened}
use Rattle.res_calls.specs.Preloading.{wanted_of, with_handles}
use Rattle.res_calls.specs.Rows.{greatest_number, map_in}

-- What OpenResFile leaves where the host is out of memory, over a store that takes none: all as it was; or, where the
-- purged blocks are reported to a sink and the handles of preloaded resources are being made, the file open and current.

-- The resources where the file is open, with these handles, and current. All else is as it was, and so is the code that
-- ResError returns.
abbrev pub opened_with_handles : List (Option ℕ) → OpenFile → Resources → Resources
opened_with_handles numbers f r = record r {
  chain = record f { map = with_handles numbers f.map } ∷ r.chain;
  current = f.number;
  next = r.next + 1;
}

-- The handles that are made for the first k of the references that have resPreload; None where the zone has no room.
abbrev pub first_handles : ℕ → List Reference → Memory → List (Option ℕ)
first_handles k references m = (new_all (take k (wanted_of references)) m).0

-- The file was opened, and its preloading was stopped: the first k of its references that have resPreload have the
-- handles that were made for them; the others are as they were read, without a handle. The heap is the one that these k
-- leave, or has an unused master pointer besides, and what was purged for that, and no more, was reported to the sink.
pub record StopsOpening {A : Type 0} (told : A → List Gone → Type 0) (f : OpenFile) (k : ℕ) (old new : Managers)
    (before after : A) : Type 0 where
  pub loading : old.resources.loading ≡ true
  pub opens :
      new.resources ≡ opened_with_handles (first_handles k f.map.references old.memory) f old.resources
  pub stops : MadeFirst told k (wanted_of f.map.references) old.memory
      (first_handles k f.map.references old.memory) new.memory before after

-- Nothing changed, and nothing was reported to the sink; or, for some k, the given file was opened and its preloading
-- stopped.
abbrev pub LeavesOpened : {A : Type 0} → (A → List Gone → Type 0) → Option OpenFile → Managers → Managers → A → A
    → Type 0
LeavesOpened told file old new before after =
    ((new ≡ old) × TellsNothing told before after)
    ⊎ ((f : OpenFile) × (k : ℕ) × (file ≡ Some f) × StopsOpening told f k old new before after)

-- The file that OpenResFile opens, as it is before the preloading; None where the call is refused, or the file is open
-- already.
abbrev pub map_opens : ℕ → Result Map OsErr → Managers → Option OpenFile
map_opens i (Err code) s = None
map_opens i (Ok read) s = Some (opened s.resources.next (Some i) read)

abbrev pub fork_opens : ℕ → List ℕ → Managers → Option OpenFile
fork_opens i fork s = if nat_lt greatest_number s.resources.next then None else map_opens i (map_in fork) s

abbrev pub unless_opens : Split File → Option (Split OpenFile) → Managers → Option OpenFile
unless_opens at (Some f) s = None
unless_opens at None s = fork_opens (place at) at.here.fork s

abbrev pub named_opens : Option (Split File) → Managers → Option OpenFile
named_opens None s = None
named_opens (Some at) s = unless_opens at (open_at (place at) s.resources) s

abbrev pub newly_opened : List ℕ → Managers → Option OpenFile
newly_opened name s = named_opens (file_named name s.resources) s

-- The same for the file that OpenResFile opens.
abbrev pub LeavesOpen : {A : Type 0} → (A → List Gone → Type 0) → List ℕ → Managers → Managers → A → A → Type 0
LeavesOpen told name old new before after = LeavesOpened told (newly_opened name old) old new before after

-- What OpenResFile leaves where the host is out of memory. The files are as they were; where the sink does not listen, all
-- the resources are, and over a store that takes no host memory the heap is.
pub record StopsOpeningFile {A : Type 0} (takes : Bool) (told : A → List Gone → Type 0) (listens : A → Bool)
    (name : List ℕ) (old new : Resources) (heap left : CountedMemory) (sink heard : A) : Type 0 where
  pub files : new.files ≡ old.files
  pub unheard : listens sink ≡ false → new ≡ old
  pub same : IsTrue takes ⊎ ((left ≡ heap) ⊎ (listens sink ≡ true))
  pub opens : IsTrue takes ⊎ LeavesOpen told name (record { memory = heap.memory; resources = old })
      (record { memory = left.memory; resources = new }) sink heard

-- What a call that fetches a resource leaves where the host is out of memory: all else is as it was (`untouched`), and the
-- heap is left as NewHandle leaves it that the host stops; the host may have had no memory for the bytes of the resource.
pub record StopsFetching {A : Type 0} (takes : Bool) (told : A → List Gone → Type 0) (listens : A → Bool)
    (untouched : Type 0) (old new : CountedMemory) (sink heard : A) : Type 0 where
  pub rest : untouched
  pub heap : Stops takes told listens KeepsNames ⊤ (Some (slot_step nothing old.memory.heap)) old new sink heard
