use Rattle.applications.proofs.Cited.{◌≡◌, ◌∙◌, ◌++◌, ◌⊎◌, ◌≢◌, inl, inr, Bool, true, false, refl, sym, ap, Option, None, Result, Ok, Err}
use Rattle.applications.proofs.Cited.{List, [], ℕ, ℤ, ◌<◌, map, Some, option_map, length, take, slice_index_or, true≢false, append_assoc}
use Rattle.applications.proofs.Cited.{append-nil, take-append_seam, list_all_at, Global, Box, IsOk, OnOk, OnErr, is_some, OsErr, Name}
use Rattle.applications.proofs.Cited.{OsType, Call, Reply, Told, Done, Code, Refused, told_as, Refusal, HostMemory, Managers, Answer}
use Rattle.applications.proofs.Cited.{IsAnswered, File, ResourceAsked, writes, SegmentCall, gone_in, heard, gone-files, is_allowed}
use Rattle.applications.proofs.Cited.{are_allowed, Line, values_of, type_shown, name_shown, bytes_shown, Bindings, Running, Blocks, once}
use Rattle.applications.proofs.Cited.{asked, resource_asked, managers_of, program_of, deed_of, kept_anew, number_given, writes_files}
use Rattle.applications.proofs.Cited.{bytes_told, Extends, Says, goes_on, Exit}
use Rattle.mac_words.specs.declared.call.Call.TheVariants as call
use Rattle.mac_words.specs.declared.call.ControlCall.TheVariants as control
use Rattle.mac_words.specs.declared.resource_call.ResourceCall.TheVariants as resource
use Rattle.res_calls.specs.Asked as finds
use Rattle.res_calls.specs.Gone as purges
use Rattle.segments.specs.Asked as jumps
use Rattle.segments.specs.Gone as jump_purges
use Rattle.res_calls.proofs.Walks.Laws as laws
use Rattle.segments.proofs.Laws as jumping
use Rattle.script_text.specs.Transcript.{Shown, Number as Count}
use Rattle.applications.specs.declared.stepping.Next.TheVariants as next
use Rattle.applications.proofs.TryLaws.{of-try}
use Rattle.applications.proofs.Ending.{full-refused}

-- What a try leaves of the files, and what the calls that write them tell.

-- a call on a segment leaves the files
jump-files : (c : SegmentCall) (r : Running) → (once [] (call.Segment c) r).after.resources.files ≡ r.resources.files
jump-files c r =
    gone-files (heard r.resources.purging (jump_purges.gone_for c (program_of r)))
    (jumps.served c (program_of r)).after.managers.resources ∙ jumping.served-files c (program_of r)

-- a try that writes no file leaves the files
pub try_keeps : (blocks : Blocks) (c : Call) (r : Running) → writes_files (deed_of c r.names) ≡ false
    → (once blocks c r).after.resources.files ≡ r.resources.files
try_keeps blocks c r = of-try (λ d told reads after. writes_files d ≡ false → after.resources.files ≡ r.resources.files)
    blocks c r (λ a is. gone-files (heard r.resources.purging (gone_in a r.memory)) r.resources)
    (λ a is. gone-files (heard r.resources.purging (purges.gone_for a (managers_of r)))
    (finds.served a (managers_of r)).after.resources ∙ laws.served-files a (managers_of r) is)
    (λ c is. jump-files c r) (λ k grow is. refl)

-- the files are kept, whether a try was done or wanted host memory
pub either_keeps : {T E : Type 0} (result : Result T E) (new after : Running) (files : List File)
    → OnOk result (new ≡ after) → OnErr result (new.resources.files ≡ files) → after.resources.files ≡ files
    → new.resources.files ≡ files
either_keeps (Ok x) new after files went wants keeps = ap (λ (r : Running). r.resources.files) went ∙ keeps
either_keeps (Err e) new after files went wants keeps = wants

-- so they are by a call of the Resource Manager that wants none
pub answered_keeps : {T V : Type 0} (seen : V → T) (a : Answer T) (answer : Result V Refusal) (after : Managers)
    (files : List File) → IsAnswered seen a answer after → answer ≢ Err HostMemory → a.after.resources.files ≡ files
    → after.resources.files ≡ files
answered_keeps seen a (Ok value) after files is never keeps = ap (λ (s : Managers). s.resources.files) (sym is.1) ∙ keeps
answered_keeps seen a (Err (Refusal.Code code)) after files is never keeps =
    ap (λ (s : Managers). s.resources.files) (sym is.1) ∙ keeps
answered_keeps seen a (Err HostMemory) after files is never keeps = absurd (never refl)

-- a try that finds no room leaves the files
pub full_keeps : (blocks : Blocks) (c : Call) (r : Running) → (once blocks c r).wants ≡ true
    → (once blocks c r).after.resources.files ≡ r.resources.files
full_keeps blocks (call.Heap c) r full =
    gone-files (heard r.resources.purging (gone_in (asked c r.names) r.memory)) r.resources
full_keeps blocks (call.Resource c) r full =
    let s = finds.served (resource_asked c r.names) (managers_of r) in
    let refused = full-refused s.told full in
    gone-files (heard r.resources.purging (purges.gone_for (resource_asked c r.names) (managers_of r))) s.after.resources
    ∙ laws.refused-files (resource_asked c r.names) (managers_of r) refused.0 refused.1
full_keeps blocks (call.Segment c) r full = jump-files c r
full_keeps blocks (call.Control (control.SetGrowZone name)) r full = refl
full_keeps blocks (call.Control control.WaitNextEvent) r full = refl
full_keeps blocks (call.Control control.ExitToShell) r full = refl

-- a code that is set again leaves the files
pub anew-keeps : (c : Call) (code : OsErr) (r : Running) → (kept_anew c code r).resources.files ≡ r.resources.files
anew-keeps (call.Heap c) code r = refl
anew-keeps (call.Resource c) code r = refl
anew-keeps (call.Segment c) code r = refl
anew-keeps (call.Control c) code r = refl

-- the files are kept where nothing was written, and where something was the call ended
pub unless_written : {T E : Type 0} {e : E} (written : Bool) (result : Result T E) (P : Type 0)
    → (written ≡ false → P) → (written ≡ true → IsOk result) → result ≡ Err e → P
unless_written false result P quiet ended is = quiet refl
unless_written true (Ok x) P quiet ended is = absurd cc
unless_written true (Err e) P quiet ended is = absurd (let no : false ≡ true = ended refl in cc)

-- where the application ends, it does not go on
pub some_ends : (exit : Option Exit) → is_some exit ≡ true → goes_on (next.Ended exit) ≡ false
some_ends None ends = let no : false ≡ true = ends in cc
some_ends (Some e) ends = refl

-- a call of a grow-zone script writes no file
pub allowed_keeps : (c : Call) (names : Bindings) → is_allowed c ≡ true → writes_files (deed_of c names) ≡ false
allowed_keeps (call.Heap c) names is = refl
allowed_keeps (call.Resource (resource.ReleaseResource name)) names is = refl
allowed_keeps (call.Resource c) names is = cc
allowed_keeps (call.Segment c) names is = refl
allowed_keeps (call.Control c) names is = refl

-- a line of those that a grow-zone script may have
pub line_allowed : (lines : List Line) (i : ℕ) (l : Line) → i < length lines → l ≡ slice_index_or lines i l
    → are_allowed lines ≡ true → is_allowed l.call ≡ true
line_allowed lines i l less item all = by_test (is_allowed l.call) refl
  where
    by_test : (t : Bool) → is_allowed l.call ≡ t → is_allowed l.call ≡ true
    by_test true is = is
    by_test false is =
        absurd (true≢false (sym all ∙ list_all_at (λ (x : Line). is_allowed x.call) lines i l less
        (ap (λ (x : Line). is_allowed x.call) (sym item) ∙ is)))

-- A text that begins with another begins with it once more was appended.
pub extended : (first text new more : List ℕ) → Extends first text → new ≡ text ++ more → Extends first new
extended first text new more begins is =
    (begins.0 ++ more, is ∙ ap (λ (t : List ℕ). t ++ more) begins.1 ∙ append_assoc first begins.0 more)

pub extends_same : (text new : List ℕ) → new ≡ text → Extends text new
extends_same text new is = ([], is ∙ sym (append-nil text))

pub extends_on : (first text new : List ℕ) → Extends first text → Extends text new → Extends first new
extends_on first text new begins goes = extended first text new goes.0 begins goes.1

-- A call that writes a file tells no value and gives no number.

-- nothing but a code is told
abbrev TellsCode : Told → Type 0
TellsCode told = (told ≡ Done) ⊎ ((code : OsErr) × (told ≡ Refused code))

told-done : (reply : Result (Unit {0}) OsErr) → TellsCode (told_as (λ u. Done) reply)
told-done (Ok u) = inl refl
told-done (Err code) = inr (code, refl)

found-tells : (a : ResourceAsked) (s : Managers) → writes a ≡ true → TellsCode (finds.served a s).told
found-tells (finds.CreateResFile name) s is = told-done _
found-tells (finds.CloseResFile number) s is = told-done _
found-tells (finds.UpdateResFile number) s is = told-done _
found-tells a s is = cc

tells : (blocks : Blocks) (c : Call) (r : Running) → writes_files (deed_of c r.names) ≡ true
    → TellsCode (once blocks c r).told
tells blocks (call.Heap c) r is = cc
tells blocks (call.Resource c) r is = found-tells (resource_asked c r.names) (managers_of r) is
tells blocks (call.Segment c) r is = cc
tells blocks (call.Control c) r is = cc

no-type : (ty : Option OsType) → option_map (λ (t : OsType). t.0) ty ≡ None → type_shown ty ≡ []
no-type None is = refl
no-type (Some ty) is = cc

no-name : (name : Option (Box Name Global)) → option_map (λ (n : Box Name Global). n.value.0.items) name ≡ None
    → name_shown name ≡ []
no-name None is = refl
no-name (Some name) is = cc

code-shown : (reply : Reply) (told : Told) (bytes : Option (List ℕ)) → Says reply told → TellsCode told
    → bytes ≡ bytes_told told → values_of reply bytes ≡ []
code-shown reply Done bytes says code is =
    ap (λ (numbers : List ℤ). map Count numbers ++ type_shown reply.ty ++ name_shown reply.name ++ bytes_shown bytes)
    says.numbers
    ∙ ap (λ (ty : List Shown). ty ++ name_shown reply.name ++ bytes_shown bytes) (no-type reply.ty says.ty)
    ∙ ap (λ (name : List Shown). name ++ bytes_shown bytes) (no-name reply.name says.name)
    ∙ ap bytes_shown is
code-shown reply (Refused code) bytes says told is =
    ap (λ (numbers : List ℤ). map Count numbers ++ type_shown reply.ty ++ name_shown reply.name ++ bytes_shown bytes)
    says.numbers
    ∙ ap (λ (ty : List Shown). ty ++ name_shown reply.name ++ bytes_shown bytes) (no-type reply.ty says.ty)
    ∙ ap (λ (name : List Shown). name ++ bytes_shown bytes) (no-name reply.name says.name)
    ∙ ap bytes_shown is
code-shown reply told bytes says (inl code) is = cc
code-shown reply told bytes says (inr code) is = cc

-- the line of such a call has no values
pub writes_no_values : (blocks : Blocks) (c : Call) (r : Running) (reply : Reply) (bytes : Option (List ℕ))
    → writes_files (deed_of c r.names) ≡ true → Says reply (once blocks c r).told
    → bytes ≡ bytes_told (once blocks c r).told → values_of reply bytes ≡ []
writes_no_values blocks c r reply bytes is says shown =
    code-shown reply (once blocks c r).told bytes says (tells blocks c r is) shown

-- and the call gives no number
pub writes_no_number : (blocks : Blocks) (c : Call) (r : Running) → writes_files (deed_of c r.names) ≡ true
    → number_given (once blocks c r).told ≡ None
writes_no_number blocks c r is = by_code (tells blocks c r is)
  where
    by_code : TellsCode (once blocks c r).told → number_given (once blocks c r).told ≡ None
    by_code (inl done) = ap number_given done
    by_code (inr refused) = ap number_given refused.1
