-- What a clause sees of a memory and of the windows that are granted in it.
use Rattle.std.specs.Prelude.{◌≡◌, ℕ, ◌+◌, ◌%◌, ◌≤◌, List, [], ◌∷◌}
use Rattle.std.specs.List.{All, AllPairs}
use native.Mathlib.Bridge.{le_prop}
use Rattle.std.proofs.Math.Logic.{∥∥₁_elim}
use Rattle.std.proofs.Props.{props}
use Rattle.memory_windows.specs.declared.Window.{Window}
use Rattle.memory_windows.specs.Windows.{InOrder}

-- A zone can be made in the window: its place and its length are multiples of 16, and it has 512 bytes or more.
-- Inside Macintosh: Memory, chapter 2, "Heap Zones".
abbrev pub HoldsZone : Window → Type 0
HoldsZone w = (w.at % 16 ≡ 0) × (w.len % 16 ≡ 0) × (512 ≤ w.len)

-- The windows lie one after another in the memory, and each can hold a zone.
-- See decision 98 (`Grants` carries the facts of its windows).
pub record ArePartitions (memory : ℕ) (windows : List Window) : Type 0 where
  pub order : InOrder 0 windows memory
  pub zones : All HoldsZone windows

-- The size of the memory, and the granted windows in the order of their places.
pub record Granted : Type 0 where
  pub memory : ℕ
  pub windows : List Window
  pub partitions : ∥ ArePartitions memory windows ∥₁

pub InOrder-prop : (o : ℕ) (ws : List Window) (n : ℕ) → IsProp (InOrder o ws n)
InOrder-prop o [] n = le_prop
InOrder-prop o (w ∷ ws) n = hlevel (InOrder-prop (w.at + w.len) ws n, le_prop)

-- For callers: the granted windows of a memory are in order.
pub granted-order : (g : Granted) → InOrder 0 g.windows g.memory
granted-order g = ∥∥₁_elim g.partitions (InOrder-prop 0 g.windows g.memory) (λ p. p.order)

-- For callers: each granted window can hold a zone.
pub granted-zones : (g : Granted) → All HoldsZone g.windows
granted-zones g = ∥∥₁_elim g.partitions (Prim.hlevel props) (λ p. p.zones)

-- Each granted window ends at or below the end of the memory.
abbrev pub LieInside : Granted → Type 0
LieInside g = All (λ w. w.at + w.len ≤ g.memory) g.windows

-- Each granted window ends at or below the place of each later one, so no byte is in two windows.
abbrev pub NeverOverlap : Granted → Type 0
NeverOverlap g = AllPairs (λ v w. v.at + v.len ≤ w.at) g.windows
