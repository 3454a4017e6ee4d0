use Rattle.std.specs.Prelude.{ℕ, ◌==◌, Option, Some, None, Result, Ok, Err, List, length, if◌then◌else◌}
use Rattle.mac_words.specs.declared.code.OsErr.{OsErr}
use Rattle.mac_words.specs.declared.code.TheConstants.OsErr.{DISK_FULL, END_OF_FILE, MAP_READ}
use Rattle.fork_format.specs.declared.fault.ForkFault.{ForkFault}
use Rattle.fork_format.specs.declared.fault.ForkFault.TheVariants as fork_fault
use Rattle.fork_format.specs.declared.fault.WriteFault.{WriteFault}
use Rattle.fork_format.specs.declared.fault.WriteFault.TheVariants as write_fault
use Rattle.fork_format.specs.Content.{Content}
use Rattle.fork_format.specs.Fork.{is_fork, content_of}

-- Result codes of forks that can't be read or written. No other definition says them.
-- More Macintosh Toolbox, chapter 1, "Result Codes".

-- The result codes of a fork of no bytes, -39 (eofErr), and of bytes that spell no content, -199 (mapReadErr).
abbrev pub read_code : ForkFault → Option OsErr
read_code fork_fault.Empty = Some END_OF_FILE
read_code fork_fault.BadMap = Some MAP_READ
read_code fork_fault.HostMemory = None

-- The content that bytes spell; or the result code of the fault for which they can't be read as a resource fork.
abbrev pub content_or_code : List ℕ → Result Content OsErr
content_or_code bytes =
    if length bytes == 0 then Err END_OF_FILE
    else if is_fork bytes then Ok (content_of bytes)
    else Err MAP_READ

-- The result code of a content that does not fit, -34 (dskFulErr).
abbrev pub write_code : WriteFault → Option OsErr
write_code write_fault.TooLarge = Some DISK_FULL
write_code write_fault.HostMemory = None
