use Rattle.res_calls.proofs.Cited.{◌≡◌, ℕ, ℤ, Bool, true, false, refl, ◌==◌, nat_le, ap, Reference, is_resource, is_named, OpenFile}
use Rattle.res_calls.proofs.Cited.{Resources, file_of, find, is_at, Managers, fetch_own, fetched_as, nth_among, resource_of, ResourceAsked}
use Rattle.res_calls.proofs.Cited.{served, fetches, OnlyGivesHandles, alters}
use Rattle.res_calls.specs.Rows as rows
use Rattle.res_calls.specs.Asked as asks
use Rattle.res_calls.proofs.Keeping.{open-keeps}
use Rattle.res_calls.proofs.Owning.Calls.{resource-holds}
use Rattle.res_calls.proofs.Owning.Places.{find-finds, among-stands}
use Rattle.res_calls.proofs.Recorded.Given.{fetched-given, noted-given}
use Rattle.res_calls.proofs.Recorded.Calls.{Records, asked-records, told-records, use_file-records, release-records}
use Rattle.res_calls.proofs.Recorded.Calls.{read_part-records}
use Rattle.res_calls.proofs.Recorded.Calls.{detach-records, create-records}

-- What each call changes of what is recorded of resources.

searched-given : (loading : Bool) (within : OpenFile → Bool) (test : Reference → Bool) (s : Managers)
    → OnlyGivesHandles s.resources (fetched_as loading (find within test s.resources.chain) s).after.resources
searched-given loading within test s =
    fetched-given loading (find within test s.resources.chain) s
    (λ at e. (find-finds within test s.resources.chain at e).0)

-- each call that fetches
pub served-given : (a : ResourceAsked) (s : Managers) → fetches a ≡ true
    → OnlyGivesHandles s.resources (served a s).after.resources
served-given (asks.GetResource kind id) s is = noted-given (rows.get_resource kind id) s
    (searched-given s.resources.loading (λ f. nat_le f.number s.resources.current) (is_resource kind id) s)
served-given (asks.Get1Resource kind id) s is = noted-given (rows.get1_resource kind id) s
    (searched-given s.resources.loading (λ f. f.number == s.resources.current) (is_resource kind id) s)
served-given (asks.GetNamedResource kind name) s is = noted-given (rows.get_named_resource kind name) s
    (searched-given s.resources.loading (λ f. nat_le f.number s.resources.current) (is_named kind name) s)
served-given (asks.Get1NamedResource kind name) s is = noted-given (rows.get1_named_resource kind name) s
    (searched-given s.resources.loading (λ f. f.number == s.resources.current) (is_named kind name) s)
served-given (asks.GetIndResource among kind index) s is = noted-given (rows.get_ind_resource among kind index) s
    (fetched-given s.resources.loading (nth_among among kind index s.resources) s
    (λ at e. among-stands among kind index s.resources at e))
served-given (asks.LoadResource handle) s is = noted-given (rows.load_resource handle) s
    (fetched-given true (resource_of handle s.resources) s (λ at e. (resource-holds handle s at e).0))
served-given a s is = cc

-- the fetch from the application's own fork
pub own-given : (kind : ℕ) (id : ℤ) (s : Managers)
    → OnlyGivesHandles s.resources (fetch_own kind id s).after.resources
own-given kind id s = searched-given true (λ f. is_at 0 f.file) (is_resource kind id) s

-- a fetch leaves what is recorded
fetch-records : (a : ResourceAsked) (s : Managers) → fetches a ≡ true → Records s (served a s).after
fetch-records a s is = ap (λ (r : Resources). r.chain) (served-given a s is).outside

-- each call that alters nothing
pub served-records : (a : ResourceAsked) (s : Managers) → alters a ≡ false → Records s (served a s).after
served-records (asks.CreateResFile name) s is = create-records name s
served-records (asks.UseResFile number) s is = use_file-records number s
served-records asks.CurResFile s is = refl
served-records (asks.GetResFileAttrs number) s is = open-keeps (Records s) (file_of number s.resources) s _ refl (λ at e. refl)
served-records (asks.HomeResFile handle) s is = asked-records handle s _ (λ at. refl)
served-records (asks.GetResource kind id) s is = fetch-records (asks.GetResource kind id) s refl
served-records (asks.Get1Resource kind id) s is = fetch-records (asks.Get1Resource kind id) s refl
served-records (asks.GetNamedResource kind name) s is = fetch-records (asks.GetNamedResource kind name) s refl
served-records (asks.Get1NamedResource kind name) s is = fetch-records (asks.Get1NamedResource kind name) s refl
served-records (asks.CountTypes among) s is = refl
served-records (asks.GetIndType among index) s is = told-records _ _ s
served-records (asks.CountResources among kind) s is = refl
served-records (asks.GetIndResource among kind index) s is = fetch-records (asks.GetIndResource among kind index) s refl
served-records (asks.UniqueID among kind) s is = told-records _ _ s
served-records (asks.LoadResource handle) s is = fetch-records (asks.LoadResource handle) s refl
served-records (asks.ReleaseResource handle) s is = release-records handle s
served-records (asks.DetachResource handle) s is = detach-records handle s
served-records (asks.GetResInfo handle) s is = asked-records handle s _ (λ at. refl)
served-records (asks.GetResAttrs handle) s is = asked-records handle s _ (λ at. refl)
served-records (asks.GetResourceSizeOnDisk handle) s is = asked-records handle s _ (λ at. refl)
served-records (asks.ReadPartialResource handle from n) s is = read_part-records handle from n s
served-records (asks.SetResPurge on) s is = refl
served-records (asks.SetResLoad on) s is = refl
served-records asks.ResError s is = refl
served-records a s is = cc
