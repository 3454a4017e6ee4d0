use Rattle.std.specs.Prelude.{◌≡◌, Result, Ok, Err, ⊤}
use Rattle.bin_hex.specs.declared.fault.Damage.{Damage}
use Rattle.bin_hex.specs.declared.fault.BinHexFault.{BinHexFault}
use Rattle.bin_hex.specs.declared.fault.BinHexFault.TheVariants as fault

-- What comes of a reading that may find damage: it goes on with what was read, and the first damage is the answer.

infixl 10 ◌>>=◌
abbrev pub ◌>>=◌ : {A B : Type 0} → Result A Damage → (A → Result B Damage) → Result B Damage
(Ok read) >>= next = next read
(Err damage) >>= next = Err damage

-- A fault is the damage that a reading finds, unless the host is out of memory, of which nothing is said.
abbrev pub Tells : {A : Type 0} → BinHexFault → Result A Damage → Type 0
Tells fault.HostMemory read = ⊤
Tells (fault.Damaged damage) read = read ≡ Err damage
