-- The names that the proofs of this library cite of others and of its specs, passed on from one place. Declares nothing.
pub use Rattle.lint.specs.Faults.{FirstIsTheJobReaders, FirstIsTheReaders, begun_lines, fault, faults_from, first, job_faults_from}
pub use Rattle.lint.specs.Faults.{missing_lines, noted, or_of_whole, unfinished_at, unfinished_lines}
unfoldable pub use Rattle.lint.specs.Faults.{job_faults, script_faults}
pub use Rattle.lint.specs.Judging.{first_wrong, kind_of, rest_after}
pub use Rattle.lint.specs.Reading.{Halts, OnWrong, Says, after_line, left_by, line_fault, memory_stated}
pub use Rattle.lint.specs.Roles.{kind}
pub use Rattle.lint.specs.Seen.{seen}
pub use Rattle.lint.specs.declared.halt.Halt.{Halt}
pub use Rattle.lint.specs.declared.wrong.Fault.{Fault}
pub use Rattle.lint.specs.declared.wrong.Wrong.{Wrong}
pub use Rattle.script_text.specs.Argument.{Kind, Label, Letters, Value, arguments, value}
unfoldable pub use Rattle.script_text.specs.Argument.{argument}
pub use Rattle.script_text.specs.Call.{may_stand, meant, word_spelled}
pub use Rattle.script_text.specs.Job.{Job, nothing, with_lines, with_memory}
unfoldable pub use Rattle.script_text.specs.Job.{job_of, with_line}
pub use Rattle.script_text.specs.Named.{put_named}
pub use Rattle.script_text.specs.Reading.{Fails, OnFault, ◌>>=◌}
pub use Rattle.script_text.specs.Script.{Above, Begun, Makes, Statement, after_all, at_line, begin_at, call_at, end_at, first_missing}
pub use Rattle.script_text.specs.Script.{grow_at, is_new, lesser, longest_line, no_lines, read_from, sets_missing, statement, unfinished}
pub use Rattle.script_text.specs.Script.{unless_unfinished, with_statement, with_text}
unfoldable pub use Rattle.script_text.specs.Script.{read_at, script_of, with_token}
pub use Rattle.script_text.specs.Token.{after_blanks, token_at}
pub use Rattle.script_text.specs.declared.fault.FaultKind.{FaultKind}
pub use Rattle.script_text.specs.declared.fault.FaultKind.TheVariants.{BadArgument}
pub use Rattle.script_text.specs.declared.word.CallWord.{CallWord}
pub use Rattle.std.proofs.Common.{Bool, Err, List, None, Ok, Option, Result, Some, [], ap, arith, cond, drop, false, is_some, length, map}
pub use Rattle.std.proofs.Common.{refl, rules, subst, sym, true, ℕ, ◌++◌, ◌+◌, ◌==◌, ◌∙◌, ◌∷◌, ◌≡◌, ◌≤◌}
pub use Rattle.std.proofs.lemmas.Bool.{eqb-true}
pub use Rattle.std.proofs.lemmas.List.{append_assoc}
pub use Rattle.std.specs.Option.{ok_or, option_map}
pub use Rattle.std.specs.Prelude.{bytes_eq, codes, find, nat_lt, not, ◌&&◌}
pub use Rattle.std.specs.Str.Lines.{lines}
