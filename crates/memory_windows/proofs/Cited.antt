-- The names that the proofs of this library cite of others and of its specs, passed on from one place. Declares nothing.
pub use Rattle.memory_windows.specs.Counted.{one, times}
pub use Rattle.memory_windows.specs.Outside.{IsOutside}
pub use Rattle.memory_windows.specs.Windows.{InOrder, IsApart, Misses, ends_by, is_window, put_in, taken_out, window, with_window}
pub use Rattle.memory_windows.specs.Windows.{without_window}
pub use Rattle.memory_windows.specs.Writes.{piece, written}
pub use Rattle.memory_windows.specs.declared.Window.{Window}
pub use Rattle.std.proofs.Common.{All, Bool, List, None, Option, Some, [], ap, append_assoc, arith, cond, drop, false, get_or, inl, inr}
pub use Rattle.std.proofs.Common.{length, length-append, not, refl, slice_get, subst, suc, sym, take, take-append-drop, true, zero, ℕ, ◌&&◌}
pub use Rattle.std.proofs.Common.{◌++◌, ◌+◌, ◌-◌, ◌<◌, ◌∙◌, ◌∷◌, ◌≡◌, ◌≤◌, ◌⊎◌}
pub use Rattle.std.proofs.Math.Dec.{eqb, leb}
pub use Rattle.std.proofs.Math.Seq.{take-append-add}
pub use Rattle.std.proofs.lemmas.Bool.{and_parts, eq-eqb, eqb-true, leb-false, leb-true, not-false}
pub use Rattle.std.proofs.lemmas.List.{drop-append-le, drop-drop, drop-take, drop_at, drop_more, get_or-take, get_or_append_left, get_or_at}
pub use Rattle.std.proofs.lemmas.List.{length-drop, length-take-le, length_push, take-append-le, take-take, take_at}
pub use Rattle.std.proofs.lemmas.List.Elements.{All-append, All-cons, All-drop, All-head, All-nil, All-tail, All-take}
pub use Rattle.std.proofs.lemmas.List.Elements.{Contains-append_cases, Contains-append_left, Contains-append_right}
pub use Rattle.std.proofs.lemmas.List.Sums.{position_or_len_is, prefix_len-le-length, prefix_len_passes, prefix_len_stops}
pub use Rattle.std.specs.List.{Contains, insert, position_or_len, prefix_len, remove}
