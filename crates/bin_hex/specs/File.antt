use Rattle.std.specs.Prelude.{◌≡◌, ℕ, ◌<◌, ◌^◌, Bool, ◌&&◌, ◌||◌, not, nat_le, nat_lt, List, length, Option, Some, None}
use Rattle.std.specs.Prelude.{if◌then◌else◌, ⊤}
pub use Rattle.plain_laws.specs.Bytes.{AreBytes}
use Rattle.bin_hex.specs.declared.fault.WriteFault.{WriteFault}
use Rattle.bin_hex.specs.declared.fault.WriteFault.TheVariants as fault
use Rattle.bin_hex.specs.declared.file.BinHexFile.{BinHexFile}

-- A file of the Macintosh: its name, what the Finder knows of it, and its two forks.
pub record File : Type 0 where
  pub name : List ℕ
  pub kind : ℕ
  pub creator : ℕ
  pub flags : ℕ
  pub data_fork : List ℕ
  pub resource_fork : List ℕ

-- A name has 1 to 63 bytes.
abbrev pub is_name_length : ℕ → Bool
is_name_length count = nat_le 1 count && nat_le count 63

-- A file that a program holds.
abbrev pub view : BinHexFile → File
view file = record {
  name = file.name.items;
  kind = file.file_type;
  creator = file.creator;
  flags = file.flags;
  data_fork = file.data_fork.items;
  resource_fork = file.resource_fork.items;
}

-- Why a file can't be written: its name has no bytes or more than 63, or a fork has 2^32 bytes or more.
abbrev pub refusal : File → Option WriteFault
refusal file =
    if not (is_name_length (length file.name)) then Some fault.NameLength
    else if nat_lt 0xFFFFFFFF (length file.data_fork) || nat_lt 0xFFFFFFFF (length file.resource_fork)
    then Some fault.TooLong
    else None

-- A fault of writing is why the file can't be written, unless the host is out of memory, of which nothing is said.
abbrev pub Refuses : WriteFault → File → Type 0
Refuses fault.HostMemory file = ⊤
Refuses why file = refusal file ≡ Some why

-- What a file of a program is made of: bytes, words of 32 bits, and flags of 16.
pub record IsOfBytes (file : File) : Type 0 where
  pub name : AreBytes file.name
  pub kind : file.kind < 2 ^ 32
  pub creator : file.creator < 2 ^ 32
  pub flags : file.flags < 2 ^ 16
  pub data_fork : AreBytes file.data_fork
  pub resource_fork : AreBytes file.resource_fork
