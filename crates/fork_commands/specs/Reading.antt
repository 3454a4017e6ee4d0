use Rattle.std.specs.Prelude.{ℕ, Option, Some, None, Result, Ok, Err, List}
use Rattle.mac_words.specs.declared.code.OsErr.{OsErr}
use Rattle.bin_hex.specs.File.{File}
use Rattle.fork_format.specs.Code.{content_or_code}
use Rattle.fork_format.specs.Content.{Content}
use Rattle.fork_wrappers.specs.declared.fault.WrapFault.{WrapFault}
use Rattle.fork_wrappers.specs.Unwrapped.{unwrapped}
use Rattle.fork_commands.specs.declared.fault.FileFault.{FileFault}
use Rattle.fork_commands.specs.declared.fault.FileFault.TheVariants.{Code, Wrapper}
use Rattle.fork_commands.specs.Faults.{made_then}
use Rattle.fork_commands.specs.Opening.{opened}

-- What a resource fork in the bytes of a file holds.

-- A content, or the result code as a fault.
abbrev pub content_or_fault : Result Content OsErr → Result Content FileFault
content_or_fault (Ok c) = Ok c
content_or_fault (Err code) = Err (Code code)

-- The content of a fork, or the result code for which it can't be read.
unfoldable pub content_of_fork : List ℕ → Result Content FileFault
content_of_fork fork = content_or_fault (content_or_code fork)

-- A fork that was found in the bytes of a file, or how their wrapper is damaged.
abbrev pub fork_found : Result (List ℕ) WrapFault → Result (List ℕ) FileFault
fork_found (Ok fork) = Ok fork
fork_found (Err fault) = Err (Wrapper fault)

-- The resource fork in the bytes of a file that stand for a file of the Macintosh, or for themselves: then it is the bytes
-- as they are, or what AppleSingle, AppleDouble or MacBinary wrap.
abbrev pub fork_within : List ℕ → Option File → Result (List ℕ) FileFault
fork_within bytes None = fork_found (unwrapped bytes)
fork_within bytes (Some file) = Ok file.resource_fork

-- The resource fork in the bytes of a file, or how the file is damaged.
unfoldable pub fork_in : List ℕ → Result (List ℕ) FileFault
fork_in bytes = made_then (opened bytes) (fork_within bytes)

-- The content of the resource fork in the bytes of a file, or why there is none.
abbrev pub content_in : List ℕ → Result Content FileFault
content_in bytes = made_then (fork_in bytes) content_of_fork
