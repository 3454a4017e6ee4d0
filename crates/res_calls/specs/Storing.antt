use Rattle.std.specs.Prelude.{◌≡◌, ◌⊎◌, ℕ, true, Option, Some, None, List, [], ◌∷◌, map, if◌then◌else◌}
use Rattle.heap_calls.specs.Gone.{Gone}
use Rattle.heap_calls.specs.ToldGone.{told_of}
use Rattle.res_map.specs.Map.{Reference, stored_anew}
use Rattle.res_calls.specs.Asked.{ResourceAsked, served}
use Rattle.res_calls.specs.Changing.{is_to_write}
use Rattle.res_calls.specs.Fetch.{Managers}
use Rattle.res_calls.specs.Fetching.{outside_heap}
use Rattle.res_calls.specs.Files.{OpenFile, Resources}
use Rattle.res_calls.specs.Gone.{gone_for}
use Rattle.res_calls.specs.Purging.{heard, stored_gone}

-- What storing purged blocks may change of the resources. More Macintosh Toolbox, chapter 1, "SetResPurge".

-- One of the blocks is this one.
abbrev pub IsAmong : Gone → List Gone → Type 0
IsAmong g [] = ⊥
IsAmong g (first ∷ gone) = (first ≡ g) ⊎ IsAmong g gone

-- A reference after the blocks are stored: as it was; or it was changed and is not protected, the block of its handle is
-- among them, and WriteResource would leave it so.
abbrev pub StoredOrSame : List Gone → Reference → Reference → Type 0
StoredOrSame gone before after = (after ≡ before)
    ⊎ ((is_to_write before ≡ true) × (g : Gone) × IsAmong g gone × (before.handle ≡ Some g.0)
    × (after ≡ stored_anew (Some g.1) before))

-- The references of a file, one after another; the open files, which are as they were otherwise.
abbrev pub EachStoredOrSame : List Gone → List Reference → List Reference → Type 0
EachStoredOrSame gone [] [] = Unit {0}
EachStoredOrSame gone (x ∷ before) (y ∷ after) = StoredOrSame gone x y × EachStoredOrSame gone before after
EachStoredOrSame gone before after = ⊥

pub record StoresIn (gone : List Gone) (before after : OpenFile) : Type 0 where
  pub rest : after ≡ record before { map = record before.map { references = after.map.references } }
  pub each : EachStoredOrSame gone before.map.references after.map.references

abbrev pub StoresInEach : List Gone → List OpenFile → List OpenFile → Type 0
StoresInEach gone [] [] = Unit {0}
StoresInEach gone (f ∷ before) (g ∷ after) = StoresIn gone f g × StoresInEach gone before after
StoresInEach gone before after = ⊥

-- The resources after the blocks are stored: what was stored before them of a changed resource that is not protected may
-- be the bytes of one of the blocks. All else, the forks of the files among it, is as it was.
pub record OnlyStoresChanged (gone : List Gone) (before after : Resources) : Type 0 where
  pub rest : after ≡ record before { chain = after.chain }
  pub files : StoresInEach gone before.chain after.chain

-- What is stored of a reference by these bytes of its handle's blocks, one after another: the first of them, where the
-- resource was changed and is not protected, as WriteResource stores; nothing else.
abbrev pub stored_first : List (List ℕ) → Reference → Reference
stored_first [] x = x
stored_first (bytes ∷ more) x = if is_to_write x then stored_anew (Some bytes) x else x

abbrev pub stored_of : List Gone → Option ℕ → Reference → Reference
stored_of gone None x = x
stored_of gone (Some h) x = stored_first (told_of h gone) x

-- A reference, an open file, and the resources, once these blocks were purged: of each changed resource that is not
-- protected, and whose handle's block is among them, the bytes of the block are stored; all else is as it was.
abbrev pub stored_by : List Gone → Reference → Reference
stored_by gone x = stored_of gone x.handle x

abbrev pub file_stored : List Gone → OpenFile → OpenFile
file_stored gone f = record f { map = record f.map { references = map (stored_by gone) f.map.references } }

abbrev pub all_stored : List Gone → Resources → Resources
all_stored gone r = record r { chain = map (file_stored gone) r.chain }

-- The resources after a try of a call, once what is to be stored of the blocks that it purged is stored.
abbrev pub after_purges : ResourceAsked → Managers → Resources
after_purges asked s = stored_gone (heard s.resources.purging (gone_for asked s)) (served asked s).after.resources

-- The resources as they were before a call, once of these blocks is stored what is to be stored, but for the handles
-- that the call gave and the code that ResError returns.
abbrev pub StoresJust : List Gone → Resources → Resources → Type 0
StoresJust gone before after =
    outside_heap after ≡ outside_heap (record (all_stored gone before) { error = after.error })
