-- The names that the proofs of this library cite of others and of its specs, passed on from one place. Declares nothing.
pub use Rattle.applications.proofs.Elsewhere.{sizes-fresh}
pub use Rattle.applications.specs.Trying.{code_told}
pub use Rattle.block_store.specs.Block.{fresh, sizes}
pub use Rattle.block_store.specs.Rest.{Site}
pub use Rattle.core.proofs.alloc.Calls.{Al, Goes-blank, handle_tells}
pub use Rattle.core.proofs.alloc.Shapes.{after}
pub use Rattle.core.proofs.atomic.Steps.{fm}
pub use Rattle.core.proofs.cell.Inside.{Good, one}
pub use Rattle.core.specs.declared.alloc.Allocator.{Ghosts}
pub use Rattle.fork_commands.proofs.Pairs.{also_ok}
pub use Rattle.fork_commands.specs.Faults.{Stops, made_then}
unfoldable pub use Rattle.fork_commands.specs.Info.{info_text}
pub use Rattle.fork_commands.specs.Opening.{opened}
pub use Rattle.fork_commands.specs.Pairs.{Gives, Names, StopsPair}
pub use Rattle.fork_commands.specs.Reading.{content_in}
pub use Rattle.fork_commands.specs.States.{state_words}
pub use Rattle.fork_commands.specs.declared.fault.FileFault.{FileFault}
pub use Rattle.fork_commands.specs.declared.fault.WorkFault.{WorkFault}
pub use Rattle.fork_commands.specs.declared.fault.WorkFault.TheVariants.{File, HostMemory}
pub use Rattle.fork_commands.specs.declared.pair.PairFault.{PairFault}
pub use Rattle.fork_commands.specs.declared.pair.PairOutput.{PairOutput}
pub use Rattle.fork_commands.specs.declared.pair.Place.{Place}
pub use Rattle.fork_edits.specs.Resources.{rows}
pub use Rattle.fork_edits.specs.View.{view_row}
pub use Rattle.fork_format.specs.Content.{Content}
pub use Rattle.heap_calls.specs.Serving.{telling, told_as}
pub use Rattle.heap_calls.specs.Table.{Asked, HGetState, MaxMem, RecoverHandle}
pub use Rattle.heap_calls.specs.Gone.{Gone}
pub use Rattle.heap_calls.specs.Inner.Given.{IsAnswer}
pub use Rattle.heap_calls.specs.Left.{DidAStep, DidNothing, Step}
pub use Rattle.heap_calls.specs.State.{CountedMemory, Memory, fresh_memory}
pub use Rattle.heap_calls.specs.Table.{served}
pub use Rattle.heap_calls.specs.Row.{done}
pub use Rattle.heap_calls.specs.declared.refusal.Refusal.{Refusal}
pub use Rattle.heap_calls.specs.declared.refusal.Refusal.TheVariants.{Code}
pub use Rattle.lint.specs.Faults.{script_faults}
pub use Rattle.lint.specs.Seen.{seen}
pub use Rattle.mac_words.specs.Codes.{noErr}
pub use Rattle.mac_words.specs.Told.{Given, Number, Told}
pub use Rattle.mac_words.specs.declared.code.OsErr.{OsErr}
pub use Rattle.mac_words.specs.declared.code.TheConstants.OsErr.{NO_ERR}
pub use Rattle.macmem_c.specs.Called.{Serves, changing, number_after, number_or}
pub use Rattle.macmem_c.specs.Codes.{code_in, code_of, host_memory, number_in, number_of}
pub use Rattle.macmem_c.specs.Delivered.{laid_over}
pub use Rattle.macmem_c.specs.Described.{AreFaulty, AreLines, IsTold, IsUnstated, faulty_line, listed_line, listing}
pub use Rattle.macmem_c.specs.Faults.{Tells, TellsPair}
pub use Rattle.macmem_c.specs.Handed.{AtFault, Hands, HandsOver, Made, NoMemory, Unwritten, Writes, Written}
pub use Rattle.macmem_c.specs.Keeping.{owns_if}
pub use Rattle.macmem_c.specs.Listed.{listed, row_as}
pub use Rattle.macmem_c.specs.Paired.{Combines, IsCombined, IsPaired, IsUnpaired}
pub use Rattle.macmem_c.specs.Replayed.{IsScriptFault, IsShowing, IsTranscript, IsUnread, TellsKind}
pub use Rattle.macmem_c.specs.declared.faults.Fault.{Fault}
pub use Rattle.macmem_c.specs.declared.rows.Row.{Row}
pub use Rattle.raw_region.proofs.Leaving.{all_gone}
pub use Rattle.raw_region.proofs.WholeWindow.{whole_home, whole_there}
pub use Rattle.raw_zone.specs.Parted.{rest_of, zone_of}
pub use Rattle.script_text.specs.declared.fault.FaultKind.{FaultKind}
pub use Rattle.script_text.specs.declared.fault.ScriptFault.{ScriptFault}
pub use Rattle.std.proofs.Common.{Bool, Err, IfErr, IfOk, IsTrue, List, Ok, Result, SFits, Some, [], ap, append-nil, append_assoc, arith}
pub use Rattle.std.proofs.Common.{drop, false, get_or, inl, inr, length, map, of_z, refl, rules, subst, sym, to_z, true, w32, ℕ, ℤ, ◌++◌}
pub use Rattle.std.proofs.Common.{◌+◌, ◌<◌, ◌∙◌, ◌∷◌, ◌≡◌, ◌≤◌}
pub use Rattle.std.proofs.lemmas.Bool.{false≢true}
pub use Rattle.std.proofs.lemmas.Grind.{common_steps}
pub use Rattle.std.proofs.lemmas.Int.{to_z-of_z}
pub use Rattle.std.proofs.lemmas.Result.{on_ok_weaker}
pub use Rattle.std.proofs.raw_atomic.Walks.{leaves, proved_at}
pub use Rattle.std.specs.Box.Ownership.{box_owns}
pub use Rattle.std.specs.List.{flat_map}
pub use Rattle.std.specs.Prelude.{IsSome, None, Option, ◌≢◌, ◌⊎◌}
pub use Rattle.std.specs.contracts.impls.GlobalAllocator.TheImpl.{dict, ghosts}
pub use Rattle.std_alloc.proofs.BoxSteps.Steps.{box_in, box_out}
pub use Rattle.std_alloc.proofs.ResultValues.{and_tt}
pub use Rattle.std_alloc.proofs.boxed.Box.from_raw.Met.{met}
