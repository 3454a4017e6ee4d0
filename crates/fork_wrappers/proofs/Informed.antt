use Rattle.fork_wrappers.proofs.Cited.{◌≡◌, ℕ, List, [], ◌∷◌, ◌++◌, replicate, take, drop, Some, None, refl, codes, Ok, Err, with_bits}
use Rattle.fork_wrappers.proofs.Cited.{hi_fork, info_of, bare_info, entry_date, data_fork_in}
use Rattle.fork_wrappers.specs.declared.wrapping.Wrapping.TheVariants as wrapping
use Rattle.fork_wrappers.specs.declared.fault.WrapFault.TheVariants as wrap_fault
use Rattle.fork_wrappers.specs.declared.fault.EntriesFault.TheVariants as entries_fault
use Rattle.fork_wrappers.specs.declared.fault.MacBinaryFault.TheVariants as mac_binary_fault

-- What files say of themselves, checked on the definitions alone.

-- a MacBinary header: a text of TeachText, inited, created on 4 March 1995 at 11:22:33 and changed on 5 March at 9:00
abbrev header : List ℕ → List ℕ
header rest = (0 ∷ 7 ∷ []) ++ codes "Read Me" ++ replicate 56 0 ++ codes "TEXTttxt" ++ (1 ∷ []) ++ replicate 9 0
    ++ (0 ∷ 0 ∷ 0 ∷ 5 ∷ 0 ∷ 0 ∷ 0 ∷ 3 ∷ []) ++ (171 ∷ 125 ∷ 253 ∷ 249 ∷ []) ++ (171 ∷ 127 ∷ 46 ∷ 16 ∷ [])
    ++ (0 ∷ 0 ∷ 64 ∷ []) ++ rest

-- one of MacBinary II without a checksum
abbrev second : List ℕ
second = header (replicate 20 0 ++ (129 ∷ 129 ∷ 0 ∷ 0 ∷ 0 ∷ 0 ∷ []))

second_damaged : data_fork_in second ≡ Err (wrap_fault.MacBinary mac_binary_fault.WrongChecksum)
unfolding with_bits
second_damaged = refl
