use Rattle.applications.proofs.Cited.{◌≡◌, ◌∙◌, ◌++◌, ℕ, ℤ, true, false, refl, sym, ap, map, List, [], Option, Some, None, Result, Ok, Err}
use Rattle.applications.proofs.Cited.{codes, option_map, Global, Box, OsErr, Name, OsType, Reply, Call, Memory, pointed_at, show_pointer}
use Rattle.applications.proofs.Cited.{Held, look_up, show, silent, barred, pointer_barred, unless_silent, Row, row, serve, served}
use Rattle.applications.proofs.Cited.{content_of, CallWord, word_of, Line, values_of, type_shown, name_shown, bytes_shown, reply_line}
use Rattle.applications.proofs.Cited.{grow_line, Told, Done, Given, Fetched, Numbers, Offset, Code, Bytes, Kind, Info, Entry, Refused}
use Rattle.applications.proofs.Cited.{Asked, bound_to, Running, Blocks, asked, resource_asked, managers_of, program_of, once, code_told}
use Rattle.applications.proofs.Cited.{is_full, numbers_told, type_told, name_told, bytes_told, values_told, line_told, Says}
use Rattle.mac_words.specs.declared.call.Call.TheVariants as call
use Rattle.mac_words.specs.declared.call.ControlCall.TheVariants as control
use Rattle.heap_calls.specs.Answer.{for_found}
use Rattle.heap_calls.specs.Row as table
use Rattle.script_text.specs.Transcript.{Shown, Number}
use Rattle.mac_words.specs.Told.{Number as Count}
use Rattle.heap_calls.specs.Table as asks
use Rattle.res_calls.specs.Asked as finds
use Rattle.applications.proofs.FoundCalls.{told-none, found-again}
use Rattle.applications.proofs.JumpCalls.{jump-shows-none}

-- What a reply says, and what a call shows again.

-- a type and a name are shown as bytes
type-bytes : (ty : Option OsType) → type_shown ty ≡ bytes_shown (option_map (λ (t : OsType). t.0) ty)
type-bytes None = refl
type-bytes (Some ty) = refl

name-bytes : (name : Option (Box Name Global)) → name_shown name
    ≡ bytes_shown (option_map (λ (n : Box Name Global). n.value.0.items) name)
name-bytes None = refl
name-bytes (Some name) = refl

-- a reply makes the line of what it says, with the bytes that are told
pub line-said : (line : ℕ) (word : CallWord) (reply : Reply) (bytes : Option (List ℕ)) (told : Told) → Says reply told
    → bytes ≡ bytes_told told
    → reply_line line word reply.code.0 (values_of reply bytes)
    ≡ reply_line line word (code_told told).0 (values_told told)
line-said line word reply bytes told says shown =
    ap (λ (code : OsErr). reply_line line word code.0 (values_of reply bytes)) says.code
    ∙ ap (λ (numbers : List ℤ). reply_line line word (code_told told).0
    (map Number numbers ++ type_shown reply.ty ++ name_shown reply.name ++ bytes_shown bytes)) says.numbers
    ∙ ap (λ (ty : List Shown). reply_line line word (code_told told).0
    (map Number (numbers_told told) ++ ty ++ name_shown reply.name ++ bytes_shown bytes))
    (type-bytes reply.ty ∙ ap bytes_shown says.ty)
    ∙ ap (λ (name : List Shown). reply_line line word (code_told told).0
    (map Number (numbers_told told) ++ bytes_shown (type_told told) ++ name ++ bytes_shown bytes))
    (name-bytes reply.name ∙ ap bytes_shown says.name)
    ∙ ap (λ (b : Option (List ℕ)). reply_line line word (code_told told).0
    (map Number (numbers_told told) ++ bytes_shown (type_told told) ++ bytes_shown (name_told told)
    ++ bytes_shown b)) shown

-- what is for want of room shows no bytes
pub full-shows-none : (told : Told) → is_full (code_told told) ≡ true → bytes_told told ≡ None
full-shows-none Done full = refl
full-shows-none (Given n) full = refl
full-shows-none (Fetched handle read) full = refl
full-shows-none (Kind kind) full = refl
full-shows-none (Info id kind name) full = refl
full-shows-none (Count n) full = refl
full-shows-none (Numbers one other) full = refl
full-shows-none (Offset offset) full = refl
full-shows-none (Code code) full = refl
full-shows-none (Entry segment flag) full = refl
full-shows-none (Bytes bytes) full = let f : false ≡ true = full in cc
full-shows-none (Refused code) full = refl

-- a call of a row shows no bytes, whatever it returns
abbrev ShowsNone : Row → Type 0
ShowsNone (table.Plain {T = T} bar tell answer) = (x : T) → bytes_told (tell x) ≡ None
ShowsNone (table.Quiet {T = T} bar tell answer) = (x : T) → bytes_told (tell x) ≡ None
ShowsNone (table.Does {T = T} bar tell does) = (x : T) → bytes_told (tell x) ≡ None
ShowsNone (table.Seeks {T = T} bar tell searches gone answer) = (x : T) → bytes_told (tell x) ≡ None
ShowsNone (table.Compacts moves searches answer) = (x : ℕ) → bytes_told (Count x) ≡ None
ShowsNone table.PurgesAll = (x : ℕ) → bytes_told (Count x) ≡ None
ShowsNone table.LastCode = (x : OsErr) → bytes_told (Code x) ≡ None
ShowsNone (table.Leaves left r) = ShowsNone r

shows-none : (r : Row) → ShowsNone r → (m : Memory) → bytes_told (serve r m).0 ≡ None
shows-none (table.Plain bar tell answer) none m = told-none tell none _
shows-none (table.Quiet bar tell answer) none m = told-none tell none _
shows-none (table.Does bar tell does) none m = told-none tell none _
shows-none (table.Seeks bar tell searches gone answer) none m = told-none tell none _
shows-none (table.Compacts moves searches answer) none m = told-none Count none _
shows-none table.PurgesAll none m = refl
shows-none table.LastCode none m = none m.log.code
shows-none (table.Leaves left r) none m = shows-none r none m

-- showing bytes changes nothing
shown-same : (m : Memory) (r : Result Held OsErr) → (record m {
  heap = (for_found {T = List ℕ} r m.heap
      (λ (k : Held). (Ok (content_of k.at.here), m.heap))).1;
}) ≡ m
shown-same m (Err code) = refl
shown-same m (Ok k) = refl

-- those of a handle
show-same : (handle : Option ℕ) (m : Memory) → (served (asks.Show handle) m).1 ≡ m
show-same handle m = by_gate (barred handle m)
  where
    by_gate : (o : Option OsErr) → (unless_silent {T = List ℕ} o (silent (show handle)) m).1 ≡ m
    by_gate None = shown-same m (look_up handle m.heap)
    by_gate (Some code) = refl

-- and those of a pointer
show_pointer-same : (pointer : Option ℕ) (m : Memory) → (served (asks.ShowPtr pointer) m).1 ≡ m
show_pointer-same pointer m = by_gate (pointer_barred pointer m)
  where
    by_gate : (o : Option OsErr) → (unless_silent {T = List ℕ} o (silent (show_pointer pointer)) m).1 ≡ m
    by_gate None = shown-same m (pointed_at pointer m.heap)
    by_gate (Some code) = refl

-- what a call of the heap's table tells in the state that it leaves shows the same bytes
heap-again : (a : Asked) (m : Memory) → bytes_told (served a (served a m).1).0 ≡ bytes_told (served a m).0
heap-again (asks.Show handle) m =
    ap (λ (n : Memory). bytes_told (served (asks.Show handle) n).0) (show-same handle m)
heap-again (asks.ShowPtr pointer) m =
    ap (λ (n : Memory). bytes_told (served (asks.ShowPtr pointer) n).0) (show_pointer-same pointer m)
heap-again a m = shows-none (row a) (λ x. refl) (served a m).1 ∙ sym (shows-none (row a) (λ x. refl) m)

-- what a call tells in the state that its try left shows the same bytes
pub shown-again : (blocks : Blocks) (c : Call) (r : Running)
    → bytes_told (once [] c (once blocks c r).after).told ≡ bytes_told (once blocks c r).told
shown-again blocks (call.Heap c) r = heap-again (asked c r.names) r.memory
shown-again blocks (call.Resource c) r = found-again (resource_asked c r.names) r.resources.purging (managers_of r)
shown-again blocks (call.Segment c) r =
    jump-shows-none c (program_of (once blocks (call.Segment c) r).after) ∙ sym (jump-shows-none c (program_of r))
shown-again blocks (call.Control (control.SetGrowZone name)) r = refl
shown-again blocks (call.Control control.WaitNextEvent) r = refl
shown-again blocks (call.Control control.ExitToShell) r = refl

-- and a call that is for want of room shows none
pub wants-shows-none : (blocks : Blocks) (c : Call) (r : Running) → (once blocks c r).wants ≡ true
    → bytes_told (once blocks c r).told ≡ None
wants-shows-none blocks (call.Heap c) r wants = full-shows-none (served (asked c r.names) r.memory).0 wants
wants-shows-none blocks (call.Resource c) r wants =
    full-shows-none (finds.served (resource_asked c r.names) (managers_of r)).told wants
wants-shows-none blocks (call.Segment c) r wants = jump-shows-none c (program_of r)
wants-shows-none blocks (call.Control (control.SetGrowZone name)) r wants = refl
wants-shows-none blocks (call.Control control.WaitNextEvent) r wants = refl
wants-shows-none blocks (call.Control control.ExitToShell) r wants = refl

-- so the line of a call of a grow-zone script is written
pub grown-said : (l : Line) (word : CallWord) (reply : Reply) (bytes : Option (List ℕ)) (told : Told)
    → word ≡ word_of l.call → Says reply told → bytes ≡ bytes_told told
    → grow_line l.number word reply.code.0 (values_of reply bytes)
    ≡ line_told (record { grown = true; line = l; told = told })
grown-said l word reply bytes told is says shown =
    ap (λ (x : List ℕ). codes "+" ++ x) (line-said l.number word reply bytes told says shown)
    ∙ ap (λ (w : CallWord). grow_line l.number w (code_told told).0 (values_told told)) is

-- and that of a step's own call
pub own-said : (l : Line) (word : CallWord) (reply : Reply) (bytes : Option (List ℕ)) (told : Told) → word
    ≡ word_of l.call
    → Says reply told → bytes ≡ bytes_told told
    → reply_line l.number word reply.code.0 (values_of reply bytes)
    ≡ line_told (record { grown = false; line = l; told = told })
own-said l word reply bytes told is says shown =
    line-said l.number word reply bytes told says shown
    ∙ ap (λ (w : CallWord). reply_line l.number w (code_told told).0 (values_told told)) is
