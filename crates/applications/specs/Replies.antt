use Rattle.std.specs.Prelude.{◌≡◌, ℕ, Bool, true, false, Option, Some, None, Result, Ok, Err, List, ◌++◌, option_map}
use Rattle.std.specs.Prelude.{Box, if◌then◌else◌}
use Rattle.std.specs.Global.{Global}
use Rattle.mac_words.specs.declared.name.Name.{Name}
use Rattle.mac_words.specs.declared.name.OsType.{OsType}
use Rattle.res_calls.specs.Asked.{Served}
use Rattle.mac_words.specs.declared.reply.Reply.{Reply}
use Rattle.mac_words.specs.declared.code.OsErr.{OsErr}
use Rattle.mac_words.specs.Told.{Told, Refused}
use Rattle.heap_calls.specs.declared.refusal.Refusal.{Refusal}
use Rattle.heap_calls.specs.declared.refusal.Refusal.TheVariants.{Code, HostMemory}
use Rattle.segments.specs.Calls.{Answer}
use Rattle.applications.specs.Trying.{Running, code_told, last_code, is_full, is_fatal}
use Rattle.applications.specs.Trying as specs
use Rattle.applications.specs.Application.{numbers_told, type_told, name_told, lines_told}
use Rattle.applications.specs.Step.{Course, Round, Ends, Again, number_given}
use Rattle.applications.specs.Alone.{Ending, quits, stops, has_quit}
use Rattle.applications.specs.declared.tried.Tried.{Tried}
use Rattle.applications.specs.declared.quitting.Exit.{Exit}
use Rattle.applications.specs.declared.quitting.Exit.TheVariants as exit
use Rattle.applications.specs.declared.stepping.Next.{Next}
use Rattle.applications.specs.declared.stepping.Next.TheVariants as next

-- How replies and tries of the code correspond to those of the definitions.

-- The reply is that of the definition, without the bytes that the call shows.
pub record Says (reply : Reply) (told : Told) : Type 0 where
  pub code : reply.code ≡ code_told told
  pub numbers : reply.numbers.items ≡ numbers_told told
  pub ty : option_map (λ (t : OsType). t.0) reply.ty ≡ type_told told
  pub name : option_map (λ (n : Box Name Global). n.value.0.items) reply.name ≡ name_told told

-- The returned value, as the reply of a definition.
abbrev pub GivenAs : {T : Type 0} → (T → Told) → Result T Refusal → Told → Type 0
GivenAs tell (Ok value) told = told ≡ tell value
GivenAs tell (Err (Code code)) told = told ≡ Refused code
GivenAs tell (Err HostMemory) told = Unit {0}

-- The try of a call of the heap's table is that of the definition.
pub record TellsTold (tried : Tried) (told : Told) : Type 0 where
  pub reply : Says tried.reply told
  pub given : tried.given ≡ number_given told
  pub reading : tried.reading ≡ None
  pub wants : tried.wants ≡ is_full (code_told told)
  pub over : tried.over ≡ false

-- The try of a call of the Resource Manager's table is that of the definition, and names the empty handle that would
-- have been read again where the call found no room.
pub record TellsServed (tried : Tried) (served : Served) (fetches : Bool) : Type 0 where
  pub reply : Says tried.reply served.told
  pub given : tried.given ≡ number_given served.told
  pub reading : is_full (code_told served.told) ≡ true → tried.reading ≡ (if fetches then served.reading else None)
  pub wants : tried.wants ≡ is_full (code_told served.told)
  pub over : tried.over ≡ false

-- The try is that of the definitions. The empty handle that would have been read again is compared only where the call
-- found no room.
pub record IsTried (tried : Tried) (t : specs.Tried) : Type 0 where
  pub reply : Says tried.reply t.told
  pub given : tried.given ≡ number_given t.told
  pub reading : t.wants ≡ true → tried.reading ≡ t.reading
  pub wants : tried.wants ≡ t.wants
  pub over : tried.over ≡ t.over

-- Where a call on a segment succeeds, it is not one that found no room.
abbrev pub Settled : {T : Type 0} → Answer T → Type 0
Settled {T} a = (value : T) → a.reply ≡ Ok value → a.wants ≡ false

-- The text grows by the lines of a course, and the application is that after the course.
abbrev pub Came : Course → List ℕ → List ℕ → Running → Type 0
Came c old new after = (new ≡ old ++ lines_told c.lines) × (after ≡ c.after)

-- A text begins with another.
abbrev pub Extends : List ℕ → List ℕ → Type 0
Extends old new = (more : List ℕ) × (new ≡ old ++ more)

-- How an application ends with a call of this code, where the call ends the application.
abbrev pub exit_as : Bool → OsErr → Option Exit
exit_as over code = if over then Some (if is_fatal code then exit.Stops else exit.Quits) else None

-- How an application ends with a course.
abbrev pub exit_of : Course → Option Exit
exit_of c = exit_as c.over (last_code c.told)

-- The end of an application that ends in the given way. An application that has no call left, or is asked to quit,
-- quits.
abbrev pub end_by : Option Exit → Running → Ending
end_by None r = quits r
end_by (Some exit.Quits) r = quits r
end_by (Some exit.Stops) r = stops r

-- The end of an application that may go on, where it ended in the given way or is asked to quit.
abbrev pub end_if : Option Exit → Bool → Running → Option Ending
end_if None asked r = if asked then Some (quits r) else None
end_if (Some e) asked r = Some (end_by (Some e) r)

-- The application after the given end; and the application after the given end or a quit that was asked for, or as it
-- stands where it goes on.
abbrev pub has_ended : Option Exit → Running → Running
has_ended None r = has_quit r
has_ended (Some exit.Quits) r = has_quit r
has_ended (Some exit.Stops) r = r

abbrev pub left_if : Option Exit → Bool → Running → Running
left_if None asked r = if asked then has_quit r else r
left_if (Some e) asked r = has_ended (Some e) r

-- The text, the application and what is done next are those of a round.
abbrev pub CameRound : Round → Next → List ℕ → List ℕ → Running → Type 0
CameRound (Ends c) (next.Ended ends) old new after = (ends ≡ exit_of c) × Came c old new after
CameRound (Ends c) next.Again old new after = ⊥
CameRound (Again c) (next.Ended ends) old new after = ⊥
CameRound (Again c) next.Again old new after = Came c old new after

-- Holds where the call has ended and the application goes on.
abbrev pub goes_on : Next → Bool
goes_on next.Again = false
goes_on (next.Ended None) = true
goes_on (next.Ended (Some exit)) = false
