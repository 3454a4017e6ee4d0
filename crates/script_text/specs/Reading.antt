use Rattle.std.specs.Prelude.{ℕ, ◌≡◌, Option, Result, Ok, Err}
use Rattle.std.specs.Option.{option_map}
use Rattle.script_text.specs.declared.fault.FaultKind.{FaultKind}
use Rattle.script_text.specs.declared.fault.FaultKind.TheVariants as kinds
use Rattle.script_text.specs.declared.fault.ScriptFault.{ScriptFault}

infixl 10 ◌>>=◌
-- One reading after another: the second gets what the first has read, and a fault of the first stays.
abbrev pub ◌>>=◌ : {A B : Type 0} → Result A FaultKind → (A → Result B FaultKind) → Result B FaultKind
(Ok x) >>= f = f x
(Err e) >>= f = Err e

-- A function has the fault of a reading; where the host is out of memory nothing is said about the text.
abbrev pub Fails : {Y : Type 0} → FaultKind → Result Y FaultKind → Type 0
Fails kinds.HostMemory read = Unit {0}
Fails kinds.UnknownCall read = read ≡ Err kinds.UnknownCall
Fails kinds.BadArgument read = read ≡ Err kinds.BadArgument
Fails kinds.NotAllowed read = read ≡ Err kinds.NotAllowed
Fails kinds.LongLine read = read ≡ Err kinds.LongLine

-- The result of a function, seen by `view`, is that of a reading, unless the host is out of memory.
abbrev pub Gives : {X Y : Type 0} → (X → Y) → Result X FaultKind → Result Y FaultKind → Type 0
Gives view (Ok x) read = read ≡ Ok (view x)
Gives view (Err kind) read = Fails kind read

-- What holds where the text has a fault.
abbrev pub OnFault : {X : Type 0} → Result X FaultKind → Type 0 → Type 0
OnFault (Ok x) holds = Unit {0}
OnFault (Err kinds.HostMemory) holds = Unit {0}
OnFault (Err kinds.UnknownCall) holds = holds
OnFault (Err kinds.BadArgument) holds = holds
OnFault (Err kinds.NotAllowed) holds = holds
OnFault (Err kinds.LongLine) holds = holds

-- What a function found in a token, seen by `view`, is what is sought.
abbrev pub Finds : {X Y : Type 0} → (X → Y) → Option X → Option Y → Type 0
Finds view found sought = option_map view found ≡ sought

-- A function has the first faulty line of a reading, and its fault; where the host is out of memory the line is 0.
abbrev pub FailsAt : {Y : Type 0} → ℕ → FaultKind → Result Y (ℕ × FaultKind) → Type 0
FailsAt line kinds.HostMemory read = line ≡ 0
FailsAt line kinds.UnknownCall read = read ≡ Err (line, kinds.UnknownCall)
FailsAt line kinds.BadArgument read = read ≡ Err (line, kinds.BadArgument)
FailsAt line kinds.NotAllowed read = read ≡ Err (line, kinds.NotAllowed)
FailsAt line kinds.LongLine read = read ≡ Err (line, kinds.LongLine)

-- The result of a function, seen by `view`, is that of a reading, or its first faulty line and the fault, unless the
-- host is out of memory.
abbrev pub GivesAt : {X Y : Type 0} → (X → Y) → Result X ScriptFault → Result Y (ℕ × FaultKind) → Type 0
GivesAt view (Ok x) read = read ≡ Ok (view x)
GivesAt view (Err fault) read = FailsAt fault.line fault.kind read
