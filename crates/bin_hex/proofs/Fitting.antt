use Rattle.bin_hex.proofs.Cited.{◌≡◌, ◌^◌, ◌<◌, ◌≤◌, true, not, ◌||◌, cond, length, ◌∙◌, ap, arith, nat_lt, Some, None, le-ltb, File}
use Rattle.bin_hex.proofs.Cited.{refusal, is_name_length}
use Rattle.bin_hex.specs.declared.fault.WriteFault.TheVariants as fault
use Rattle.bin_hex.proofs.ContentsAgain.{name_first, writable}

-- a file whose name and forks are not too long can be written
pub can_be_written : (file : File) → is_name_length (length file.name) ≡ true → length file.data_fork < 2 ^ 32
    → length file.resource_fork < 2 ^ 32 → refusal file ≡ None
can_be_written file named low high =
    ap (λ t. cond (not t) (Some fault.NameLength)
    (cond (nat_lt 0xFFFFFFFF (length file.data_fork) || nat_lt 0xFFFFFFFF (length file.resource_fork))
    (Some fault.TooLong) None)) named
    ∙ ap (λ t. cond (t || nat_lt 0xFFFFFFFF (length file.resource_fork)) (Some fault.TooLong) None)
    (le-ltb 0xFFFFFFFF (length file.data_fork) (omega arith))
    ∙ ap (λ t. cond t (Some fault.TooLong) None) (le-ltb 0xFFFFFFFF (length file.resource_fork) (omega arith))

-- what can be written has a short name and forks of fewer than 2^32 bytes
pub name_fits : (file : File) → refusal file ≡ None → length file.name ≤ 63
name_fits file none = (name_first file none).1

pub data_fork_fits : (file : File) → refusal file ≡ None → length file.data_fork < 2 ^ 32
data_fork_fits file none = (writable file none).data_fork
