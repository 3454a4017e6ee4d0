-- The names that the proofs of this library cite of others and of its specs, passed on from one place. Declares nothing.
pub use Rattle.memory_windows.proofs.Listed.{All-with_window, All-without_window, without_window-with_window}
pub use Rattle.memory_windows.proofs.Ordered.{apart-above, apart-taken_out, order-ends, order-put_in, order-taken_out}
pub use Rattle.memory_windows.specs.Windows.{InOrder, IsApart, Misses, put_in, taken_out, window}
pub use Rattle.memory_windows.specs.declared.Window.{Window}
pub use Rattle.partitions.specs.Fitting.{GivesLargest, GivesPreferred}
pub use Rattle.partitions.specs.Grant.{at_least, grant, grant_of, has_room, holes, larger_hole, largest, lower_end}
pub use Rattle.partitions.specs.Granted.{Granted, HoldsZone, LieInside, NeverOverlap, granted-order, granted-zones}
pub use Rattle.std.proofs.Common.{All, Bool, IfSome, List, None, Option, Some, [], ap, arith, cond, drop, false, get_or, inl, inr, length}
pub use Rattle.std.proofs.Common.{refl, subst, suc, sym, true, zero, ℕ, ◌%◌, ◌+◌, ◌-◌, ◌<◌, ◌∙◌, ◌∷◌, ◌≡◌, ◌≤◌, ◌⊎◌}
pub use Rattle.std.proofs.Math.Dec.{ltb}
pub use Rattle.std.proofs.Math.Seq.{drop-cons}
pub use Rattle.std.proofs.lemmas.Bool.{cases_lt, le-ltb, leb-false, leb-true, lt-ltb, ltb-false, ltb-true}
pub use Rattle.std.proofs.lemmas.List.Elements.{All-cons, All-from_recursion, All-head, All-nil, All-tail, All-weaker}
pub use Rattle.std.proofs.lemmas.List.Kept.{AllPairs-cons}
pub use Rattle.std.proofs.lemmas.Option.{IfSome_then}
pub use Rattle.std.specs.List.{AllByRecursion, AllPairs, Contains, find}
pub use Rattle.std.specs.Option.{option_map, option_or}
pub use Rattle.std.specs.Prelude.{IsSomeAnd}
