-- The names that the proofs of this library cite of others and of its specs, passed on from one place. Declares nothing.
pub use Rattle.rez_statements.specs.Places.{last_place}
pub use Rattle.rez_statements.specs.Types.{in_force, is_said}
pub use Rattle.rez_statements.specs.View.{declared_of, shared, types_of}
pub use Rattle.rez_statements.specs.declared.table.DeclaredType.{DeclaredType}
pub use Rattle.rez_tokens.specs.View.{token_of}
pub use Rattle.rez_tokens.specs.declared.token.Token.{Token}
pub use Rattle.rez_types.specs.Fields.{Declaration}
pub use Rattle.std.proofs.Common.{Bool, List, None, Option, Some, [], ap, arith, cond, drop, false, get_or, length, map, refl, rules}
pub use Rattle.std.proofs.Common.{slice_get, subst, suc, sym, true, zero, ℕ, ◌++◌, ◌<◌, ◌==◌, ◌∙◌, ◌∷◌, ◌≡◌, ◌≤◌}
pub use Rattle.std.proofs.lemmas.Bool.Decides.{nat_tests}
pub use Rattle.std.proofs.lemmas.Fn.{filter_same}
pub use Rattle.std.proofs.lemmas.Option.{slice_get_past, slice_get_read}
pub use Rattle.std.specs.BTreeMap.{get}
pub use Rattle.std.specs.List.{filter}
pub use Rattle.std.specs.Ordering.{is_eq, nat_cmp}
