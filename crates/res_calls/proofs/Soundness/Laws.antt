use Rattle.res_calls.proofs.Cited.{◌≡◌, ℕ, true, ◌==◌, List, [], ◌∷◌, length, refl, sym, arith, subst, Option, Some, None, Result, Ok, Err}
use Rattle.res_calls.proofs.Cited.{and_from, lt-ltb, list_all, OsErr, Content, map_kept, Memory, Refusal, Code, HostMemory, Map, map_of}
use Rattle.res_calls.proofs.Cited.{File, OpenFile, Resources, Found, file_of, fresh_resources, Managers, Answer, IsAnswered, managers}
use Rattle.res_calls.proofs.Cited.{map_in, own_opened, launched_resources, preloaded, preloaded_in, loaded, told_or, noting, resource_of}
use Rattle.res_calls.proofs.Cited.{ResourceAsked, served, Sound, keeps_handle}
use Rattle.res_calls.specs.Rows as rows
use Rattle.res_calls.specs.Changing as changing
use Rattle.res_calls.specs.Partial as partial
use Rattle.res_calls.specs.Asked as asks
use Rattle.res_calls.proofs.Keeping.{found-keeps, open-keeps}
use Rattle.res_calls.proofs.Soundness.References.{loaded-keeps}
use Rattle.res_calls.proofs.Soundness.Forks.{Fresh, map-fresh}
use Rattle.res_calls.proofs.Soundness.Changes.{sound-file}
use Rattle.res_calls.proofs.Soundness.Calls as calls
use Rattle.res_calls.proofs.Soundness.Calls.{Sound_in, loading_sound, purging_sound, error_sound}

-- What holds of the open files holds as an application is launched, and after each call.

-- the code that ResError tells is no matter
pub noted_sound : {T : Type 0} (call : Managers → Answer T) (s : Managers) → Sound (call s).after.resources
    → Sound (noting call s).after.resources
noted_sound call s sound = error_sound _ (call s).after.resources sound

-- a call that asks of a resource's handle
asked-sound : {T : Type 0} (handle : Option ℕ) (s : Managers) (answer : Found → Answer T) → Sound s.resources
    → ((at : Found) → (answer at).after ≡ s) → Sound (rows.on_resource handle s answer).after.resources
asked-sound handle s answer sound same =
    found-keeps Sound_in (resource_of handle s.resources) s answer sound
    (λ at e. subst Sound_in (sym (same at)) sound)

told-sound : (code : OsErr) (o : Option ℕ) (s : Managers) → Sound s.resources → Sound (told_or code o s).after.resources
told-sound code None s sound = sound
told-sound code (Some n) s sound = sound

-- each call
pub sound-served : (a : ResourceAsked) (s : Managers) → Sound s.resources → Sound (served a s).after.resources
sound-served (asks.OpenResFile name) s sound =
    noted_sound (rows.open_res_file name) s (calls.open_res_file_sound name s sound)
sound-served (asks.CreateResFile name) s sound =
    noted_sound (changing.create_res_file name) s (calls.create_res_file_sound name s sound)
sound-served (asks.CloseResFile n) s sound =
    noted_sound (rows.close_res_file n) s (calls.close_res_file_sound n s sound)
sound-served (asks.UpdateResFile n) s sound =
    noted_sound (rows.update_res_file n) s (calls.update_res_file_sound n s sound)
sound-served (asks.UseResFile n) s sound =
    noted_sound (rows.use_res_file n) s (calls.use_res_file_sound n s sound)
sound-served asks.CurResFile s sound = noted_sound rows.cur_res_file s sound
sound-served (asks.GetResFileAttrs n) s sound = noted_sound (rows.get_res_file_attrs n) s
    (open-keeps Sound_in (file_of n s.resources) s _ sound (λ at e. sound))
sound-served (asks.SetResFileAttrs n attrs) s sound =
    noted_sound (changing.set_res_file_attrs n attrs) s (calls.set_res_file_attrs_sound n attrs s sound)
sound-served (asks.HomeResFile handle) s sound =
    noted_sound (rows.home_res_file handle) s (asked-sound handle s _ sound (λ at. refl))
sound-served (asks.GetResource kind id) s sound =
    noted_sound (rows.get_resource kind id) s (calls.get_resource_sound kind id s sound)
sound-served (asks.Get1Resource kind id) s sound =
    noted_sound (rows.get1_resource kind id) s (calls.get1_resource_sound kind id s sound)
sound-served (asks.GetNamedResource kind name) s sound =
    noted_sound (rows.get_named_resource kind name) s (calls.get_named_resource_sound kind name s sound)
sound-served (asks.Get1NamedResource kind name) s sound =
    noted_sound (rows.get1_named_resource kind name) s (calls.get1_named_resource_sound kind name s sound)
sound-served (asks.CountTypes among) s sound = noted_sound (rows.count_types among) s sound
sound-served (asks.GetIndType among n) s sound =
    noted_sound (rows.get_ind_type among n) s (told-sound _ _ s sound)
sound-served (asks.CountResources among kind) s sound = noted_sound (rows.count_resources among kind) s sound
sound-served (asks.GetIndResource among kind n) s sound =
    noted_sound (rows.get_ind_resource among kind n) s (calls.get_ind_resource_sound among kind n s sound)
sound-served (asks.UniqueID among kind) s sound = noted_sound (rows.unique_id among kind) s (told-sound _ _ s sound)
sound-served (asks.LoadResource handle) s sound =
    noted_sound (rows.load_resource handle) s (calls.load_resource_sound handle s sound)
sound-served (asks.ReleaseResource handle) s sound =
    noted_sound (rows.release_resource handle) s (calls.release_resource_sound handle s sound)
sound-served (asks.DetachResource handle) s sound =
    noted_sound (rows.detach_resource handle) s (calls.detach_resource_sound handle s sound)
sound-served (asks.AddResource handle kind id name) s sound =
    noted_sound (changing.add_resource handle kind id name) s (calls.add_resource_sound handle kind id name s sound)
sound-served (asks.RemoveResource handle) s sound =
    noted_sound (changing.remove_resource handle) s (calls.remove_resource_sound handle s sound)
sound-served (asks.ChangedResource handle) s sound =
    noted_sound (changing.changed_resource handle) s (calls.changed_resource_sound handle s sound)
sound-served (asks.WriteResource handle) s sound =
    noted_sound (changing.write_resource handle) s (calls.write_resource_sound handle s sound)
sound-served (asks.GetResInfo handle) s sound =
    noted_sound (rows.get_res_info handle) s (asked-sound handle s _ sound (λ at. refl))
sound-served (asks.SetResInfo handle id name) s sound =
    noted_sound (changing.set_res_info handle id name) s (calls.set_res_info_sound handle id name s sound)
sound-served (asks.GetResAttrs handle) s sound =
    noted_sound (rows.get_res_attrs handle) s (asked-sound handle s _ sound (λ at. refl))
sound-served (asks.SetResAttrs handle attrs) s sound =
    noted_sound (changing.set_res_attrs handle attrs) s (calls.set_res_attrs_sound handle attrs s sound)
sound-served (asks.GetResourceSizeOnDisk handle) s sound =
    noted_sound (rows.get_resource_size_on_disk handle) s (asked-sound handle s _ sound (λ at. refl))
sound-served (asks.ReadPartialResource handle from n) s sound =
    noted_sound (partial.read_partial_resource handle from n) s (calls.read_partial_resource_sound handle from n s sound)
sound-served (asks.WritePartialResource handle from x) s sound =
    noted_sound (partial.write_partial_resource handle from x) s
    (calls.write_partial_resource_sound handle from x s sound)
sound-served (asks.SetResourceSize handle n) s sound =
    noted_sound (partial.set_resource_size handle n) s (calls.set_resource_size_sound handle n s sound)
sound-served (asks.SetResPurge on) s sound =
    noted_sound (rows.set_res_purge on) s (purging_sound on s.resources sound)
sound-served (asks.SetResLoad on) s sound =
    noted_sound (rows.set_res_load on) s (loading_sound on s.resources sound)
sound-served asks.ResError s sound = sound

-- what a method gives back leaves the resources sound, where the host had no memory too
pub answered_sound : {T V : Type 0} (seen : V → T) (answer : Answer T) (result : Result V Refusal) (old new : Resources)
    (m : Memory) → Sound old → Sound answer.after.resources → IsAnswered seen answer result (managers new m)
    → (result ≡ Err HostMemory → new ≡ old) → Sound new
answered_sound seen answer (Ok value) old new m sound after is kept =
    subst Sound_in is.1 after
answered_sound seen answer (Err (Code code)) old new m sound after is kept = subst Sound_in is.1 after
answered_sound seen answer (Err HostMemory) old new m sound after is kept =
    subst Sound (sym (kept refl)) sound

-- an application that is launched, with its own fork open
pub fresh_sound : (f : File) (files : List File) (own system : Map) → Fresh own
    → Sound (fresh_resources (f ∷ files) own system)
fresh_sound f files own system fresh = record {
  falls = refl;
  next = refl;
  current = refl;
  placed = and_from _ true (lt-ltb 0
      (length (f ∷ files)) (omega arith)) refl;
  kept = and_from _ true
      (and_from (list_all keeps_handle own.references) (map_kept own.attrs == own.attrs) fresh.references fresh.attrs)
      refl;
  untouched = refl;
}

pub sound-launched : (files : List File) (system : Content) (r : Resources) → launched_resources files system ≡ Ok r
    → Sound r
sound-launched [] system r e = cc
sound-launched (f ∷ files) system r e = by_map (map_in f.fork) (map-fresh f.fork) e
  where
    by_map : (o : Result Map OsErr) → ((read : Map) → o ≡ Ok read → Fresh read)
        → own_opened (f ∷ files) o system ≡ Ok r → Sound r
    by_map (Err code) fresh e = cc
    by_map (Ok own) fresh e =
        let same : fresh_resources (f ∷ files) own (map_of system) ≡ r = cc in
        subst Sound same (fresh_sound f files own (map_of system) (fresh own refl))

-- and with those of the application's resources that are read at once
pub sound-preloaded : (s : Managers) → Sound s.resources → Sound (preloaded s).0.resources
sound-preloaded s sound = by_chain s.resources.chain refl
  where
    by_chain : (chain : List OpenFile) → s.resources.chain ≡ chain → Sound (preloaded_in chain s).0.resources
    by_chain [] e = sound
    by_chain (f ∷ older) e =
        sound-file s.resources (record { before = []; here = f; after = older })
        (loaded f s).references f.touched (sym e) sound
        (λ _. loaded-keeps s.resources.loading f.map.references s.memory) (λ t. t)
