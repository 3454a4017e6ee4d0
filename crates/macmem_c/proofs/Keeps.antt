-- What C keeps of a zone, in the machine.
use Rattle.macmem_c.proofs.Cited.{◌≡◌, List, [], ◌∷◌, true, false, refl, Option, None, IsSome, box_owns, ghosts, dict, owns_if}
use Rattle.std.specs.Prelude.{Some}
use seplogic.Ra.Ura.{Ura}
use mir.Syntax.{Ty, Dict, tcons, tnil, dnil, impl}
use mir.Raw.{raw as bare}
use base.Fml.{Fml}
use types.Logic.{Logic}
use types.Kit.{Item, Goal, Seq, ‵}
use denote.RattleType.{RattleType}
use denote.RawPtr.{Ptr}
use denote.Param.{layout, arg}
use denote.Exit.{no}
use denote.Param.Laws.{Laws, arg_laws}
use Rattle.std.specs.contracts.alloc.Global as heap
use Rattle.std.proofs.alloc.Global.TheLaws as heap_laws
use Rattle.std_alloc.proofs.BoxSteps.Form as box
use Rattle.macmem_c.specs.contracts.zone.Zone as zone
use Rattle.macmem_c.proofs.zone.Zone.TheLaws as zone_laws
use Rattle.macmem_c.specs.contracts.kept.Kept as kept

abbrev pub ZoneRow : RattleType
ZoneRow = zone.the_row

abbrev pub ZoneLaws : Laws ZoneRow
ZoneLaws = zone_laws.the_row_laws

abbrev pub HeapRow : RattleType
HeapRow = heap.the_row

abbrev pub HeapLaws : Laws HeapRow
HeapLaws = heap_laws.the_row_laws

abbrev pub KeptRow : RattleType
KeptRow = kept.the_row

-- a zone and the allocator as type arguments of a box
abbrev pub ZoneArg : RattleType
ZoneArg = arg (bare (layout ZoneRow)) no ZoneRow

abbrev pub ZoneArgLaws : Laws ZoneArg
ZoneArgLaws = arg_laws (bare (layout ZoneRow)) no ZoneRow ZoneLaws refl

abbrev pub HeapArg : RattleType
HeapArg = arg (bare (layout HeapRow)) no HeapRow

abbrev pub HeapArgLaws : Laws HeapArg
HeapArgLaws = arg_laws (bare (layout HeapRow)) no HeapRow HeapLaws refl

-- the allocator has no drop of its own
abbrev pub no_drop : Dict
no_drop = impl ("macmem_c::Destruct++none::drop" ∷ []) (tcons (layout HeapArg) tnil) dnil

abbrev pub ZoneBox : box.Bx
ZoneBox = record {
  row = ZoneArg;
  laws = ZoneArgLaws;
  al = record { row = HeapArg; laws = HeapArgLaws; g = ghosts; d = dict; drops = no_drop };
}

module _ {M : Type 1} {𝓤 : Ura M} {𝓛 : Logic 𝓤} {K : Type 0} {Γ : List (Item 𝓤)} {G : Goal 𝓤 𝓛.H} where
  -- where something is kept, it is the box
  pub some_kept : K → (frees : Ty → Ptr → Fml) (p : Ptr) (kept : Option ZoneRow.Denot) → IsSome kept
      → ((value : ZoneRow.Denot) → kept ≡ Some value → Seq K 𝓛 (‵ (box_owns frees ZoneRow p value) ∷ Γ) G)
      → Seq K 𝓛 (‵ (owns_if frees ZoneRow p kept) ∷ Γ) G
  some_kept t frees p None some next = absurd (let e : false ≡ true = some in cc)
  some_kept t frees p (Some value) some next = next value refl
