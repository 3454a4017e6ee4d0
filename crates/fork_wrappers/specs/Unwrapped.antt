use Rattle.std.specs.Prelude.{ℕ, Bool, true, false, List, Result, Ok, Err, if◌then◌else◌}
use Rattle.fork_format.specs.Fork.{is_fork}
use Rattle.fork_wrappers.specs.Entries.{is_apple_single, is_apple_double, fork_in_entries}
use Rattle.fork_wrappers.specs.MacBinary.{is_first, is_second, is_third, fork_behind, checked_fork}
use Rattle.fork_wrappers.specs.declared.wrapping.Wrapping.{Wrapping}
use Rattle.fork_wrappers.specs.declared.wrapping.Wrapping.TheVariants as wrapping
use Rattle.fork_wrappers.specs.declared.fault.WrapFault.{WrapFault}
use Rattle.fork_wrappers.specs.declared.fault.WrapFault.TheVariants as fault

-- How a file wraps its resource fork, by how its bytes begin, and for MacBinary I by how many they are too. Bytes that are
-- a resource fork are plain, whatever else they look like; so are bytes that are of no wrapper, as a damaged fork.
abbrev pub wrapping_of : List ℕ → Wrapping
wrapping_of bytes =
    if is_fork bytes then wrapping.Plain
    else if is_apple_single bytes then wrapping.AppleSingle
    else if is_apple_double bytes then wrapping.AppleDouble
    else if is_third bytes then wrapping.MacBinaryIII
    else if is_second bytes then wrapping.MacBinaryII
    else if is_first bytes then wrapping.MacBinaryI
    else wrapping.Plain

-- The file begins with a header of MacBinary.
abbrev pub is_mac_binary : Wrapping → Bool
is_mac_binary wrapping.MacBinaryI = true
is_mac_binary wrapping.MacBinaryII = true
is_mac_binary wrapping.MacBinaryIII = true
is_mac_binary _ = false

-- A fork, or the fault as one of its wrapper.
abbrev pub of_wrapper : {F : Type 0} → (F → WrapFault) → Result (List ℕ) F → Result (List ℕ) WrapFault
of_wrapper wrapper (Ok fork) = Ok fork
of_wrapper wrapper (Err why) = Err (wrapper why)

-- The resource fork in the bytes of a file that is wrapped so, or how the wrapper is damaged.
abbrev pub fork_in : Wrapping → List ℕ → Result (List ℕ) WrapFault
fork_in wrapping.Plain bytes = Ok bytes
fork_in wrapping.AppleSingle bytes = of_wrapper fault.AppleSingle (fork_in_entries bytes)
fork_in wrapping.AppleDouble bytes = of_wrapper fault.AppleDouble (fork_in_entries bytes)
fork_in wrapping.MacBinaryI bytes = of_wrapper fault.MacBinary (fork_behind bytes)
fork_in wrapping.MacBinaryII bytes = of_wrapper fault.MacBinary (checked_fork bytes)
fork_in wrapping.MacBinaryIII bytes = of_wrapper fault.MacBinary (checked_fork bytes)

-- The resource fork in the bytes of a file, or how its wrapper is damaged.
abbrev pub unwrapped : List ℕ → Result (List ℕ) WrapFault
unwrapped bytes = fork_in (wrapping_of bytes) bytes
