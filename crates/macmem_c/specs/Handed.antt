use Rattle.std.specs.Prelude.{◌≡◌, ℕ, ℤ, false, List, length, Result, Ok, Err}
use Rattle.mac_words.specs.Codes.{noErr}
use Rattle.fork_commands.specs.declared.fault.FileFault.{FileFault}
use Rattle.macmem_c.specs.Codes.{host_memory}
use Rattle.macmem_c.specs.Delivered.{laid_over}
use Rattle.macmem_c.specs.Faults.{IsFault, file_fault}
use Rattle.macmem_c.specs.declared.faults.Fault.{Fault}

-- What C has after a call that makes a list for it: bytes, or the resources of a fork. Before the call it has `before` in its
-- memory, `count` as the length, and `old` as the fault; after the call `after`, `now`, `new`, and the code.

-- The list is what was to be made, stands at the front of memory, as much of it as there is room for, and C has the length of all;
-- or something is at fault, and C is told of it; or the host is out of memory. What is not said to change is as it was.
pub data Hands {T : Type 0} (Is : List T → Type 0) (Tells : Fault → Type 0)
    (before : List T) (count : ℕ) (old : Fault) (after : List T) (now : ℕ) (new : Fault) (code : ℤ) : Type 0 where
  Made : (all : List T) → Is all → after ≡ laid_over all before → now ≡ length all → new ≡ old → code ≡ noErr
      → Hands Is Tells before count old after now new code
  AtFault : Tells new → after ≡ before → now ≡ count → code ≡ file_fault → Hands Is Tells before count old after now new code
  NoMemory : after ≡ before → now ≡ count → new ≡ old → code ≡ host_memory → Hands Is Tells before count old after now new code

-- The bytes of the file are at fault, and C has the fault.
pub record IsRefused {A : Type 0} (wanted : Result A FileFault) (has : Fault) : Type 0 where
  pub fault : FileFault
  pub is_refused : wanted ≡ Err fault
  pub is_told : IsFault fault false has

-- The same of what is to be made of the bytes of a file.
abbrev pub HandsOver : {T : Type 0} → Result (List T) FileFault → List T → ℕ → Fault → List T → ℕ → Fault → ℤ → Type 0
HandsOver wanted = Hands (λ all. wanted ≡ Ok all) (IsRefused wanted)

-- What C has after a call for which no bytes are at fault: bytes, or what it had.
pub data Writes (Is : List ℕ → Type 0) (before : List ℕ) (count : ℕ) (after : List ℕ) (now : ℕ) (code : ℤ) : Type 0 where
  Written : (all : List ℕ) → Is all → after ≡ laid_over all before → now ≡ length all → code ≡ noErr
      → Writes Is before count after now code
  Unwritten : after ≡ before → now ≡ count → code ≡ host_memory → Writes Is before count after now code
