-- The names that the proofs of this library cite of others and of its specs, passed on from one place. Declares nothing.
pub use Rattle.block_store.specs.Block.{count, is_masters, is_relocatable, sizes}
pub use Rattle.block_store.specs.Rest.{Site, counted}
pub use Rattle.block_store.specs.Run.{has}
pub use Rattle.block_store.specs.declared.measures.TheConstants.{GREATEST_ZONE}
pub use Rattle.fork_format.specs.Content.{Group, Ref}
pub use Rattle.fork_format.specs.Fork.{offsets}
pub use Rattle.heap_calls.proofs.Promises.FewSearches.{unsearched}
pub use Rattle.heap_calls.proofs.Promises.Knowing.{Known}
pub use Rattle.heap_calls.proofs.Promises.Taking.{StaysOr}
pub use Rattle.heap_calls.proofs.Steps.Letting.{locked-there}
pub use Rattle.heap_calls.proofs.Steps.Segments.{held-bytes, held-has, held-known, held-locked, held-masters, held-nonrelocatable}
pub use Rattle.heap_calls.proofs.Steps.Segments.{loosened-bytes, loosened-has, loosened-known, loosened-locked, loosened-masters}
pub use Rattle.heap_calls.proofs.Steps.Segments.{loosened-none, loosened-nonrelocatable}
pub use Rattle.heap_calls.specs.Emptying.{has_purgeable}
pub use Rattle.heap_calls.specs.Gone.{Gone}
pub use Rattle.heap_calls.specs.Inside.{has_block, held_high, inside, loosened}
pub use Rattle.heap_calls.specs.Locked.{locked_place}
pub use Rattle.heap_calls.specs.Owned.{resource_role_at}
pub use Rattle.heap_calls.specs.Path.{put_reads}
pub use Rattle.heap_calls.specs.Serving.{told_as}
pub use Rattle.heap_calls.specs.Standing.{pointer_place}
pub use Rattle.heap_calls.specs.State.{Memory, State, fresh_memory}
pub use Rattle.heap_calls.specs.Staying.{staying}
pub use Rattle.heap_calls.specs.Table.{Asked, EmptyHandle, HUnlock, PurgeMem, Show, Where}
pub use Rattle.heap_calls.specs.ToldGone.{bytes_in}
pub use Rattle.heap_calls.specs.declared.refusal.Refusal.{Refusal}
pub use Rattle.heap_calls.specs.declared.refusal.Refusal.TheVariants.{Code, HostMemory}
pub use Rattle.mac_words.specs.Told.{Done, Number, Refused, Told}
pub use Rattle.mac_words.specs.declared.code.OsErr.{OsErr}
pub use Rattle.mac_words.specs.declared.code.TheConstants.OsErr.{LOCKED, MEM_FULL, NIL_HANDLE, PROFILE, SYSTEM_ERROR}
pub use Rattle.mac_words.specs.declared.segment_call.SegmentCall.{SegmentCall}
pub use Rattle.mac_words.specs.declared.segment_call.SegmentCall.TheVariants.{CallEntry, LoadSeg, ShowEntry, UnloadSeg}
pub use Rattle.res_calls.proofs.ToldGone.Calls.{own-loose, own-once, own-tells}
pub use Rattle.res_calls.proofs.ToldGone.Filled.{none-bytes}
pub use Rattle.res_calls.proofs.ToldGone.Paths.{OnceEach}
pub use Rattle.res_calls.proofs.Walks.Own.{own-busy, own-bytes, own-code, own-elsewhere, own-files, own-fits, own-known, own-locked}
pub use Rattle.res_calls.proofs.Walks.Own.{own-masters, own-no_more, own-nonrelocatable, own-owns, own-purgeable, own-searches, own-sound}
pub use Rattle.res_calls.proofs.Walks.Own.{own-unread, own-window}
pub use Rattle.res_calls.proofs.Walks.Place.{answer_moved, moved}
pub use Rattle.res_calls.specs.Asked.{CloseResFile, GetResource, ResourceAsked, SetResLoad, UseResFile}
pub use Rattle.res_calls.specs.Fetch.{Fetched, Managers, Reads}
pub use Rattle.res_calls.specs.Files.{Found, fresh_resources}
pub use Rattle.res_calls.specs.Given.{managers, seen_fetched}
pub use Rattle.res_calls.specs.Gone.{own_gone}
pub use Rattle.res_calls.specs.Own.{fetch_own, find_own, own_datum, own_handle}
pub use Rattle.res_calls.specs.Owning.{Owns}
pub use Rattle.res_calls.specs.Rows.{bars, preloaded, with_memory}
pub use Rattle.res_calls.specs.Sound.{Sound}
pub use Rattle.res_calls.specs.ToldGone.{TellsOfPurgeable, TellsOnce, TellsWhatGoes}
pub use Rattle.res_map.specs.Map.{map_of}
pub use Rattle.segments.specs.Asked.{Served, is_same, served, tell_called, tell_loaded, tell_shown, telling, unlocks}
pub use Rattle.segments.specs.Calls.{Answer, Called, Program, call_entry, call_found, call_loaded, call_loading, call_through, called}
pub use Rattle.segments.specs.Calls.{code_type, done, held, is_there, let_loose, load_by, load_datum, load_fetched, load_seg, refused}
pub use Rattle.segments.specs.Calls.{show_entry, show_found, show_of, unload_handle, unload_seg}
pub use Rattle.segments.specs.Given.{Fetch, IsCalled, IsLoaded, IsUnloaded, program, reads_of, times}
pub use Rattle.segments.specs.Gone.{entry_gone, gone_for, load_gone, through_gone}
pub use Rattle.segments.specs.Table.{Entry, can_load, entries_of, entry_at, entry_count, first_entry, is_of, loaded_from, set_loaded}
pub use Rattle.segments.specs.Table.{table_in, unloaded, unloaded_of}
pub use Rattle.segments.specs.View.{are_own, named_by, named_from, view_entries, view_entry}
pub use Rattle.segments.specs.declared.entries.Named.{Named}
pub use Rattle.segments.specs.declared.loaded.Unloaded.{Unloaded}
pub use Rattle.std.proofs.Common.{Bool, Err, FitsSigned, List, None, Ok, Option, Result, Some, [], ap, arith, cond, drop, false, get_or}
pub use Rattle.std.proofs.Common.{inl, inr, length, map, negsuc, pos, refl, replicate, rules, slice_get, subst, suc, sym, take, true}
pub use Rattle.std.proofs.Common.{true≢false, zero, ℕ, ℤ, ◌&&◌, ◌*◌, ◌++◌, ◌+◌, ◌-◌, ◌<◌, ◌==◌, ◌^◌, ◌∙◌, ◌∷◌, ◌≡◌, ◌≢◌, ◌≤◌}
pub use Rattle.std.proofs.Math.Dec.{eqb-suc-suc, eqb-suc-zero, eqb-zero-suc}
pub use Rattle.std.proofs.lemmas.Bool.Decides.{Decides-eqb}
pub use Rattle.std.proofs.lemmas.Int.{to_z-of_z}
pub use Rattle.std.proofs.lemmas.List.{map-set}
pub use Rattle.std.specs.Int.{w16}
pub use Rattle.std.specs.List.{list_all}
pub use Rattle.std.specs.Ordering.{int_eq}
pub use Rattle.std.specs.Prelude.{option_map, slice_set}
