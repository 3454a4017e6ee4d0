use Rattle.std.specs.Prelude.{Option, Some, None, negsuc}
use Rattle.mac_words.specs.declared.code.OsErr.{OsErr}
use Rattle.partitions.specs.declared.fault.GrantFault.{GrantFault}
use Rattle.partitions.specs.declared.fault.GrantFault.TheVariants as grant_fault

-- The result code where no hole has room, -108 (memFullErr).
-- Inside Macintosh: Processes, chapter 2, "Result Codes".
abbrev pub grant_code : GrantFault → Option OsErr
grant_code grant_fault.NoRoom = Some (record { 0 = negsuc 107 })
grant_code grant_fault.HostMemory = None
