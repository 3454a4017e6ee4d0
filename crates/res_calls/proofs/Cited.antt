-- The names that the proofs of this library cite of others and of its specs, passed on from one place. Declares nothing.
pub use Rattle.block_store.proofs.Content.Resizing.{if_some}
pub use Rattle.block_store.proofs.Zone.Keeping.{base-le, filled-is, room-le}
pub use Rattle.block_store.proofs.Zone.Leading.{count-none, none-count}
pub use Rattle.block_store.proofs.Zone.Passing.{has-count}
pub use Rattle.block_store.proofs.Zone.Tidy.{has-tidy}
pub use Rattle.block_store.proofs.Zone.Views.{map-some, room-some}
pub use Rattle.block_store.specs.Block.{Block, Free, Masters, Nonrelocatable, Relocatable, count, is_masters, is_purgeable, is_relocatable}
pub use Rattle.block_store.specs.Block.{size, sizes, tidy, total}
pub use Rattle.block_store.specs.Grow.{freed}
pub use Rattle.block_store.specs.Rest.{Site, counted}
pub use Rattle.block_store.specs.Room.{filled, purge, put_at_base, put_in_place, room}
pub use Rattle.block_store.specs.Run.{has}
pub use Rattle.block_store.specs.declared.flags.Flags.{Flags}
pub use Rattle.block_store.specs.declared.measures.TheConstants.{GREATEST_ZONE}
pub use Rattle.byteorder.specs.Endian.{big_number}
pub use Rattle.fork_format.proofs.Bools.{and_both, flips}
pub use Rattle.fork_format.proofs.CanSpell.{canon_spells}
pub use Rattle.fork_format.proofs.Codes.{spelled}
pub use Rattle.fork_format.proofs.Rest.{rest-map}
pub use Rattle.fork_format.proofs.Whole.{filter-all}
pub use Rattle.fork_format.specs.Canonical.{canon, clear, clear_group, clear_ref, fits}
pub use Rattle.fork_format.specs.Content.{Content, Group, IsContent, Ref, distinct, joined}
pub use Rattle.fork_format.specs.Fork.{Spells, content_of, group_at, is_fork, map_kept, map_start, number, ref_at, ref_places, type_places}
pub use Rattle.fork_format.specs.View.{view, view_group}
pub use Rattle.heap_calls.proofs.Hearing.{rests-still, tells-none}
pub use Rattle.heap_calls.proofs.Promises.FewSearches.{unsearched}
pub use Rattle.heap_calls.proofs.Promises.Taking.{StaysOr}
pub use Rattle.heap_calls.proofs.Steps.FewSearches.{step-searches, steps-fits}
pub use Rattle.heap_calls.proofs.Steps.Knowledge.{steps-known}
pub use Rattle.heap_calls.proofs.Steps.Letting.{none-place, refused-lets, releases, walk-none}
pub use Rattle.heap_calls.proofs.Steps.Making.{Made, Sees, Unmade, Way, way}
pub use Rattle.heap_calls.proofs.Steps.Numbers.{emptied-number, filled-number, refilled-is, refilled-read, refilled-refusal}
pub use Rattle.heap_calls.proofs.Steps.Place.{steps-busy, steps-code, steps-window}
pub use Rattle.heap_calls.proofs.Steps.Refusals.{step-no_more, step-refused}
pub use Rattle.heap_calls.proofs.Steps.Roles.{MakesHandle, emptied-makes, filled-makes, own-roles, refilled-roles, released-roles}
pub use Rattle.heap_calls.proofs.Steps.Roles.{resource-role}
pub use Rattle.heap_calls.proofs.Steps.Standstill.{step-bytes, steps-bytes, steps-locked, steps-nonrelocatable}
pub use Rattle.heap_calls.proofs.Steps.Survival.{steps-masters, steps-purgeable}
pub use Rattle.heap_calls.proofs.Steps.Ways.{step-leaves}
pub use Rattle.heap_calls.proofs.ToldGone.Bounds.{step-most}
pub use Rattle.heap_calls.proofs.ToldGone.Laws.{by_bytes, many, many-none, step-tells-what-goes, weighed, weight}
pub use Rattle.heap_calls.proofs.ToldGone.Sums.{Adds}
pub use Rattle.heap_calls.proofs.Tries.Elsewhere.{elsewhere}
pub use Rattle.heap_calls.proofs.Tries.Roles.{served-roles, set-other}
pub use Rattle.heap_calls.proofs.Tries.Taking.{done-or}
pub use Rattle.heap_calls.specs.Answer.{Known, code_of, handle_at, known_as, nothing}
pub use Rattle.heap_calls.specs.Emptying.{has_purgeable}
pub use Rattle.heap_calls.specs.Gone.{Gone, Tells, gone_of}
pub use Rattle.heap_calls.specs.Inner.Filling.{wanted_as}
pub use Rattle.heap_calls.specs.Inner.Given.{IsAnswer}
pub use Rattle.heap_calls.specs.Inside.{all_gone, cast, cast_as, has_block, inside, is_owned, new_all, new_empty_inside, new_filled}
pub use Rattle.heap_calls.specs.Inside.{new_inside, number_if, owned_as, refill, refill_inside, released, resource_role}
pub use Rattle.heap_calls.specs.Locked.{locked_place}
pub use Rattle.heap_calls.specs.Owned.{resource_meant, resource_role_at}
pub use Rattle.heap_calls.specs.Path.{Cast, NewEmpty, NewFilled, Refill, Release, Step, gone_at, left_zone, put_reads, read_again, read_by}
pub use Rattle.heap_calls.specs.Path.{read_new, reads, refusal, refusal_of, step_disposes, stepped, steps_dispose, walk}
pub use Rattle.heap_calls.specs.Rows.{purges_made}
pub use Rattle.heap_calls.specs.Serving.{told_as}
pub use Rattle.heap_calls.specs.Slots.{slotted_zone}
pub use Rattle.heap_calls.specs.Standing.{pointer_place}
pub use Rattle.heap_calls.specs.State.{Disposed, Handle, Meaning, Memory, Plain, Pointer, Resource, Role, State, SystemResource, all_slots}
pub use Rattle.heap_calls.specs.State.{fresh_memory, used_slots}
pub use Rattle.heap_calls.specs.Staying.{staying}
pub use Rattle.heap_calls.specs.Table.{Asked}
pub use Rattle.heap_calls.specs.ToldGone.{bytes_in, told_of}
pub use Rattle.heap_calls.specs.declared.filling.Filling.{Filling}
pub use Rattle.heap_calls.specs.declared.refusal.Refusal.{Refusal}
pub use Rattle.heap_calls.specs.declared.refusal.Refusal.TheVariants.{Code, HostMemory}
pub use Rattle.mac_words.proofs.Plain.{on_err}
pub use Rattle.mac_words.specs.Attributes.{has_bit, set, unchanged}
pub use Rattle.mac_words.specs.Told.{Bytes, Done, Fetched, Given, Info, Kind, Number, Refused, Told}
pub use Rattle.mac_words.specs.declared.attributes.Attrs.{Attrs}
pub use Rattle.mac_words.specs.declared.attributes.TheConstants.Attrs.{CHANGED}
pub use Rattle.mac_words.specs.declared.code.OsErr.{OsErr}
pub use Rattle.mac_words.specs.declared.code.TheConstants.OsErr.{ADD_RES_FAILED, DISK_FULL, DUPLICATE_FILE, END_OF_FILE, FILE_NOT_FOUND}
pub use Rattle.mac_words.specs.declared.code.TheConstants.OsErr.{IN_MEMORY, LOCKED, MAP_READ, MEM_FULL, NO_ERR, OFFSET, PROFILE}
pub use Rattle.mac_words.specs.declared.code.TheConstants.OsErr.{REMOVE_RES_FAILED, RES_ATTR, RES_FILE_NOT_FOUND, RES_NOT_FOUND, TOO_LONG}
pub use Rattle.mac_words.specs.declared.code.TheConstants.OsErr.{WRITE_PERMISSION}
pub use Rattle.mac_words.specs.declared.name.OsType.{OsType}
pub use Rattle.memory_windows.specs.Writes.{piece}
pub use Rattle.res_calls.specs.Asked.{AddResource, ChangedResource, CloseResFile, CountResources, CountTypes, CreateResFile, CurResFile}
pub use Rattle.res_calls.specs.Asked.{DetachResource, Get1NamedResource, Get1Resource, GetIndResource, GetIndType, GetNamedResource}
pub use Rattle.res_calls.specs.Asked.{GetResAttrs, GetResFileAttrs, GetResInfo, GetResource, GetResourceSizeOnDisk, HomeResFile}
pub use Rattle.res_calls.specs.Asked.{LoadResource, OpenResFile, ReadPartialResource, ReleaseResource, RemoveResource, ResError}
pub use Rattle.res_calls.specs.Asked.{ResourceAsked, Served, SetResAttrs, SetResFileAttrs, SetResInfo, SetResLoad, SetResourceSize}
pub use Rattle.res_calls.specs.Asked.{UniqueID, UpdateResFile, UseResFile, WritePartialResource, WriteResource, served, tell_fetched}
pub use Rattle.res_calls.specs.Asked.{tell_info, telling}
pub use Rattle.res_calls.specs.Changing.{add_found, add_resource, added_to, change_found, create_named, create_res_file, if_changeable}
pub use Rattle.res_calls.specs.Changing.{is_to_write, marked, most_files, new_file, new_fork, on_handle, on_known, on_removable}
pub use Rattle.res_calls.specs.Changing.{remove_found, removed_from, rename_found, set_file, set_found, set_res_file_attrs, stored_if}
pub use Rattle.res_calls.specs.Changing.{touched, with_changed, with_files, with_map_attrs, write_found}
pub use Rattle.res_calls.specs.Disposing.{disposes_of, holds, is_unchanged, opens_file}
pub use Rattle.res_calls.specs.Fetch.{Answer, Loaded, Managers, Reads, done, fetch_again, fetch_as, fetch_new, flags_of, given, is_system}
pub use Rattle.res_calls.specs.Fetch.{loaded_both, now_empty, now_filled, now_refilled, preload, preload_one, refused}
pub use Rattle.res_calls.specs.Fetching.{KeepHandles, OnlyGivesHandles, OpensAtMost, fetches, handles, handles_in, outside_heap}
pub use Rattle.res_calls.specs.Fetching.{without_handles}
pub use Rattle.res_calls.specs.Files.{File, Found, OpenFile, Resources, file_named, file_of, find, find_from_current, find_in_current}
pub use Rattle.res_calls.specs.Files.{find_open, found_behind, found_in, fresh_resources, holding, is_at, open_at, opened, references_in}
pub use Rattle.res_calls.specs.Files.{with_reference}
pub use Rattle.res_calls.specs.Forks.{Creates, HasFork, Renews, Rewrites, StoresHandle, Written}
pub use Rattle.res_calls.specs.Given.{IsAnswered, IsAnsweredUnseen, IsFetched, IsLoadedFirst, IsReply, IsUnread, managers, noted}
pub use Rattle.res_calls.specs.Gone.{fetch_gone, fetch_gone_as, fork_gone, gone_for, handle_gone, load_gone, map_gone, open_gone}
pub use Rattle.res_calls.specs.Gone.{own_gone, preload_gone, preload_one_gone, unless_open_gone}
pub use Rattle.res_calls.specs.Leaving.{FilesClosed, first_code, has_own, last_opened, leave, leave_files, left_after, left_file, left_one}
pub use Rattle.res_calls.specs.Leaving.{left_one_of, update_code, updated_or}
pub use Rattle.res_calls.specs.Own.{fetch_own, find_own}
pub use Rattle.res_calls.specs.Owning.{Owns, references, role_for, role_in}
pub use Rattle.res_calls.specs.Partial.{is_in_memory, most_bytes, read_part_found, read_partial_resource, restored, restored_unless}
pub use Rattle.res_calls.specs.Partial.{set_size_found, size_refusal, write_part_found, write_refusal}
pub use Rattle.res_calls.specs.Places.{IsLastClosed, IsLastUpdated, StopsAmid, WantsHost, at_index, chained, fetch_wanted, found_at}
pub use Rattle.res_calls.specs.Places.{found_from, has_type, in_file, is_new, is_searched, is_taken_in, is_wanted, last_fetched, left_last}
pub use Rattle.res_calls.specs.Places.{left_last_of, made_for, new_types, seen_info, spot_of, view_new}
pub use Rattle.res_calls.specs.Preloading.{StopsFirst, filling_of, given_to, next_number, numbered, wanted_of, with_handles}
pub use Rattle.res_calls.specs.Purging.{PurgesValue, heard, stored_found, stored_gone, view_purged}
pub use Rattle.res_calls.specs.Refused.{is_held_code, left_refused, restored_if}
pub use Rattle.res_calls.specs.Rows.{Among, Current, EachFile, all_released, attrs_told, bars, close_res_file, closed, closed_file}
pub use Rattle.res_calls.specs.Rows.{count_each, detach_found, detached_at, fetched, fetched_as, first_number, greatest_number, handles_of}
pub use Rattle.res_calls.specs.Rows.{if_updated, keep_error, launched_resources, loaded, loaded_if, map_in, map_read, noting, nth_among}
pub use Rattle.res_calls.specs.Rows.{nth_each, nth_in, on_file, on_found, on_open, on_resource, on_updated, open_as, open_fork, open_map}
pub use Rattle.res_calls.specs.Rows.{open_named, open_res_file, open_unless, opened_with, own_opened, preloaded, preloaded_in, reference_in}
pub use Rattle.res_calls.specs.Rows.{release_found, released_at, resource_of, told_count, told_or, update_res_file, with_loaded}
pub use Rattle.res_calls.specs.Rows.{with_resources}
unfoldable pub use Rattle.res_calls.specs.Rows.{first_free}
pub use Rattle.res_calls.specs.Sound.{Sound, falls, has_place, is_kept, is_placed, is_untouched, keeps_handle}
pub use Rattle.res_calls.specs.Stopped.{LeavesOpen, LeavesOpened, first_handles, fork_opens, newly_opened}
pub use Rattle.res_calls.specs.Storing.{EachStoredOrSame, OnlyStoresChanged, StoredOrSame, StoresIn, StoresInEach, StoresJust, after_purges}
pub use Rattle.res_calls.specs.Storing.{all_stored, file_stored, stored_by, stored_first, stored_of}
pub use Rattle.res_calls.specs.ToldGone.{IsWhole, TellsOfLoosePreloads, TellsOfPurgeable, TellsOnce, TellsWhatGoes, TellsWhatPreloadsLose}
pub use Rattle.res_calls.specs.ToldGone.{may_go}
pub use Rattle.res_calls.specs.Undoing.{given_back, put_back, undone}
pub use Rattle.res_calls.specs.Update.{bytes_held, fork_of, fresh, rewritten, update, updated, updated_map, updated_reference, written}
pub use Rattle.res_calls.specs.Update.{written_at}
pub use Rattle.res_calls.specs.Updating.{IsAnew, IsFork, IsUpdated, IsWritten, filed_in, stored_in}
pub use Rattle.res_calls.specs.View.{resources_of, view_file, view_open}
pub use Rattle.res_calls.specs.Writing.{alters, writes}
pub use Rattle.res_calls.specs.declared.fetched.Unread.{Unread}
pub use Rattle.res_calls.specs.declared.find.Spot.{Spot}
pub use Rattle.res_calls.specs.declared.find.Wanted.{Wanted}
pub use Rattle.res_calls.specs.declared.find.Within.{Within}
pub use Rattle.res_calls.specs.declared.undoing.Replaced.{Replaced}
pub use Rattle.res_calls.specs.declared.updating.Anew.{Anew}
pub use Rattle.res_map.proofs.Order.{map-remove}
pub use Rattle.res_map.proofs.Splitting.{found-none, found-place, get-inside, get-whole, remove-replaced, remove-whole, set-whole}
pub use Rattle.res_map.proofs.Splitting.{split-get, split-inside, split-passes, split-set, split-whole, split_nth-whole}
pub use Rattle.res_map.proofs.Steps.{place_from}
pub use Rattle.res_map.specs.Map.{Map, Reference, added, all_anew, content, group_of, groups_of, has_handle, is_changed, is_handle}
pub use Rattle.res_map.specs.Map.{is_named, is_of, is_preload, is_protected, is_resource, map_of, new_reference, nth, of_group, of_groups}
pub use Rattle.res_map.specs.Map.{of_type, read_reference, renamed, resized_datum, split_nth, stored_anew, types, with_attrs, with_datum}
pub use Rattle.res_map.specs.Map.{with_handle, with_stored}
pub use Rattle.res_map.specs.Split.{Split, behind, place, removed, replaced, split}
pub use Rattle.res_map.specs.View.{view_all, view_bytes, view_lent}
pub use Rattle.std.proofs.Common.{Bool, Err, IsTrue, List, None, Ok, Option, Result, Some, [], ap, append_assoc, arith, bit_and, cond}
pub use Rattle.std.proofs.Common.{count_by, drop, false, get_or, if◌then◌else◌, inl, inr, length, map, nat_le, nat_lt, not, pos, refl}
pub use Rattle.std.proofs.Common.{replicate, rules, subst, suc, sym, take, true, true≢false, w16, zero, ℕ, ℤ, ◌&&◌, ◌++◌, ◌+◌, ◌-◌, ◌<◌}
pub use Rattle.std.proofs.Common.{◌==◌, ◌^◌, ◌||◌, ◌∙◌, ◌∷◌, ◌≡◌, ◌≢◌, ◌≤◌, ◌⊎◌}
pub use Rattle.std.proofs.Math.Dec.{eqb-suc-zero}
pub use Rattle.std.proofs.lemmas.Bool.{and_from, and_left, and_parts, cond-false, cond-true, eq-eqb, eqb-true, false_from_ne_true}
pub use Rattle.std.proofs.lemmas.Bool.{false≢true, le-leb, le-ltb, leb-true, lt-leb, lt-ltb, ltb-false, ltb-true, ne_eqb, not-true, or_left}
pub use Rattle.std.proofs.lemmas.Bool.{or_parts, or_right}
pub use Rattle.std.proofs.lemmas.Bool.Decides.{Decides-eqb, Decides-int_eq, nat_tests}
pub use Rattle.std.proofs.lemmas.Grind.{and-not_self}
pub use Rattle.std.proofs.lemmas.Int.{to_z-of_z}
pub use Rattle.std.proofs.lemmas.List.{append-nil, drop-map, drop_all, length-append, length-map, length-set, map-append, map_more}
pub use Rattle.std.proofs.lemmas.List.{take-map, take-take}
pub use Rattle.std.proofs.lemmas.List.Concat.{flat_map-append}
pub use Rattle.std.proofs.lemmas.List.Elements.{filter-append}
pub use Rattle.std.proofs.lemmas.List.Folds.{list_all-append, list_any-append}
pub use Rattle.std.proofs.lemmas.List.Sums.{sum_by-append, sum_by-cons}
pub use Rattle.std.proofs.lemmas.Nat.{and-not, and_assoc, and_comm}
pub use Rattle.std.proofs.lemmas.Option.{same_Some, slice_get-get_or, slice_get-map, slice_get_within}
pub use Rattle.std.proofs.lemmas.Slice.Eq.{bytes_eq-Decides}
pub use Rattle.std.specs.Int.Bits.{and_zero_r}
pub use Rattle.std.specs.List.{cons_option, flat_map, list_all, list_any}
pub use Rattle.std.specs.Option.{option_or}
pub use Rattle.std.specs.Ordering.{int_eq}
pub use Rattle.std.specs.Prelude.{IfSome, IsErr, IsOk, OnErr, OnOk, Vec, bytes_eq, filter, is_ok, is_some, option_and_then, option_map}
pub use Rattle.std.specs.Prelude.{option_to_list, remove, slice_get, slice_set, unwrap_or}
pub use Rattle.std.specs.declared.alloc.AllocError.{AllocError}
pub use Rattle.std.specs.declared.alloc.Global.{Global}
