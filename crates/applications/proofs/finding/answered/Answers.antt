use Rattle.applications.proofs.Cited.{refl, ap, rules, true, false, ℕ, ℤ, Option, FitsSigned, w16, to_z-of_z, big_number, Bytes, Done}
use Rattle.applications.proofs.Cited.{Number, Kind, telling, tell_fetched, tell_info, managers, gone_for, Name, on_err, GetResInfo}
use Rattle.applications.proofs.Cited.{seen_info, served-files}
use Rattle.res_calls.specs.Rows as rows
use Rattle.res_calls.specs.Asked as asks
use Rattle.res_calls.specs.Changing as changing
use Rattle.res_calls.specs.Partial as partial
use Rattle.applications.proofs.Filing.{answered_keeps}
use Rattle.applications.proofs.Arms.{by_three, arm_told, arm_after, arm_hears}
use Rattle.applications.proofs.finding.answered.Goals as goal

pub returns-in-CreateResFile-clause-told : goal.returns-in-CreateResFile-clause-told
returns-in-CreateResFile-clause-told g c =
    arm_told (λ (u : Unit {0}). Done) false c.done_on_resource.result _ _ _ c.args.call.now _ c.args.names.now
    (managers c.args.resources.now c.args.heap.now.memory) c.done_on_resource.ensures.tried
    (c.create_res_file.ensures.answer c.args.heap.now.memory) refl refl c.in-CreateResFile.is

pub returns-in-CreateResFile-clause-after : goal.returns-in-CreateResFile-clause-after
returns-in-CreateResFile-clause-after g c =
    arm_after (λ (u : Unit {0}). Done) c.done_on_resource.result _ _ _ c.args.call.now _ c.args.names.now
    (managers c.args.resources.now c.args.heap.now.memory) c.done_on_resource.ensures.after
    (c.create_res_file.ensures.answer c.args.heap.now.memory) refl c.in-CreateResFile.is

pub returns-in-UseResFile-clause-told : goal.returns-in-UseResFile-clause-told
returns-in-UseResFile-clause-told g c =
    arm_told (λ (u : Unit {0}). Done) false c.done_on_resource-in-UseResFile.result _ _ _ c.args.call.now _ c.args.names.now
    (managers c.args.resources.now c.args.heap.now.memory) c.done_on_resource-in-UseResFile.ensures.tried
    (c.use_res_file.ensures.answer c.args.heap.now.memory) refl refl c.in-UseResFile.is

pub returns-in-UseResFile-clause-after : goal.returns-in-UseResFile-clause-after
returns-in-UseResFile-clause-after g c =
    arm_after (λ (u : Unit {0}). Done) c.done_on_resource-in-UseResFile.result _ _ _ c.args.call.now _ c.args.names.now
    (managers c.args.resources.now c.args.heap.now.memory) c.done_on_resource-in-UseResFile.ensures.after
    (c.use_res_file.ensures.answer c.args.heap.now.memory) refl c.in-UseResFile.is

pub returns-in-CurResFile-clause-told : goal.returns-in-CurResFile-clause-told
returns-in-CurResFile-clause-told g c =
    arm_told Number false c.counted-in-CurResFile.result _ _ _ c.args.call.now _ c.args.names.now
    (managers c.args.resources.now c.args.heap.now.memory) c.counted-in-CurResFile.ensures.tried
    (c.cur_res_file.ensures c.args.heap.now.memory) refl refl c.in-CurResFile.is

pub returns-in-CurResFile-clause-after : goal.returns-in-CurResFile-clause-after
returns-in-CurResFile-clause-after g c =
    arm_after Number c.counted-in-CurResFile.result _ _ _ c.args.call.now _ c.args.names.now (managers c.args.resources.now
    c.args.heap.now.memory) c.counted-in-CurResFile.ensures.after (c.cur_res_file.ensures c.args.heap.now.memory) refl c.in-CurResFile.is

pub returns-in-HomeResFile-clause-told : goal.returns-in-HomeResFile-clause-told
returns-in-HomeResFile-clause-told g c =
    arm_told Number false c.counted-in-HomeResFile.result _ _ _ c.args.call.now _ c.args.names.now
    (managers c.args.resources.now c.args.heap.now.memory) c.counted-in-HomeResFile.ensures.tried
    (c.home_res_file.ensures.answer c.args.heap.now.memory) (ap (λ (h : Option ℕ). telling Number
    (rows.noting (rows.home_res_file h) (managers c.args.resources.now c.args.heap.now.memory))) c.number.ensures) refl c.in-HomeResFile.is

pub returns-in-HomeResFile-clause-after : goal.returns-in-HomeResFile-clause-after
returns-in-HomeResFile-clause-after g c =
    arm_after Number c.counted-in-HomeResFile.result _ _ _ c.args.call.now _ c.args.names.now
    (managers c.args.resources.now c.args.heap.now.memory) c.counted-in-HomeResFile.ensures.after
    (c.home_res_file.ensures.answer c.args.heap.now.memory) (ap (λ (h : Option ℕ). telling Number
    (rows.noting (rows.home_res_file h) (managers c.args.resources.now c.args.heap.now.memory))) c.number.ensures) c.in-HomeResFile.is

pub returns-in-GetResource-clause-told : goal.returns-in-GetResource-clause-told
returns-in-GetResource-clause-told g c =
    let fits : FitsSigned w16 c.in-GetResource.id = search rules in
    arm_told tell_fetched true c.fetched.result _ _ _ c.args.call.now _ c.args.names.now
    (managers c.args.resources.now c.args.heap.now.memory) c.fetched.ensures.tried c.get_resource.ensures.answer
    (ap (λ (i : ℤ). telling tell_fetched (rows.noting (rows.get_resource (big_number 4 c.in-GetResource.ty.0) i)
    (managers c.args.resources.now c.args.heap.now.memory))) (to_z-of_z w16 c.in-GetResource.id fits)) refl c.in-GetResource.is

pub returns-in-GetResource-clause-after : goal.returns-in-GetResource-clause-after
returns-in-GetResource-clause-after g c =
    let fits : FitsSigned w16 c.in-GetResource.id = search rules in
    arm_after tell_fetched c.fetched.result _ _ _ c.args.call.now _ c.args.names.now
    (managers c.args.resources.now c.args.heap.now.memory) c.fetched.ensures.after c.get_resource.ensures.answer
    (ap (λ (i : ℤ). telling tell_fetched (rows.noting (rows.get_resource (big_number 4 c.in-GetResource.ty.0) i)
    (managers c.args.resources.now c.args.heap.now.memory))) (to_z-of_z w16 c.in-GetResource.id fits)) c.in-GetResource.is

pub returns-in-Get1Resource-clause-told : goal.returns-in-Get1Resource-clause-told
returns-in-Get1Resource-clause-told g c =
    let fits : FitsSigned w16 c.in-Get1Resource.id = search rules in
    arm_told tell_fetched true c.fetched-in-Get1Resource.result _ _ _ c.args.call.now _ c.args.names.now
    (managers c.args.resources.now c.args.heap.now.memory) c.fetched-in-Get1Resource.ensures.tried c.get1_resource.ensures.answer
    (ap (λ (i : ℤ). telling tell_fetched (rows.noting (rows.get1_resource (big_number 4 c.in-Get1Resource.ty.0) i)
    (managers c.args.resources.now c.args.heap.now.memory))) (to_z-of_z w16 c.in-Get1Resource.id fits)) refl c.in-Get1Resource.is

pub returns-in-Get1Resource-clause-after : goal.returns-in-Get1Resource-clause-after
returns-in-Get1Resource-clause-after g c =
    let fits : FitsSigned w16 c.in-Get1Resource.id = search rules in
    arm_after tell_fetched c.fetched-in-Get1Resource.result _ _ _ c.args.call.now _ c.args.names.now
    (managers c.args.resources.now c.args.heap.now.memory) c.fetched-in-Get1Resource.ensures.after c.get1_resource.ensures.answer
    (ap (λ (i : ℤ). telling tell_fetched (rows.noting (rows.get1_resource (big_number 4 c.in-Get1Resource.ty.0) i)
    (managers c.args.resources.now c.args.heap.now.memory))) (to_z-of_z w16 c.in-Get1Resource.id fits)) c.in-Get1Resource.is

pub returns-in-GetResFileAttrs-clause-told : goal.returns-in-GetResFileAttrs-clause-told
returns-in-GetResFileAttrs-clause-told g c =
    arm_told Number false c.counted-in-GetResFileAttrs.result _ _ _ c.args.call.now _ c.args.names.now
    (managers c.args.resources.now c.args.heap.now.memory) c.counted-in-GetResFileAttrs.ensures.tried
    (c.get_res_file_attrs.ensures.answer c.args.heap.now.memory) refl refl c.in-GetResFileAttrs.is

pub returns-in-GetResFileAttrs-clause-after : goal.returns-in-GetResFileAttrs-clause-after
returns-in-GetResFileAttrs-clause-after g c =
    arm_after Number c.counted-in-GetResFileAttrs.result _ _ _ c.args.call.now _ c.args.names.now
    (managers c.args.resources.now c.args.heap.now.memory) c.counted-in-GetResFileAttrs.ensures.after
    (c.get_res_file_attrs.ensures.answer c.args.heap.now.memory) refl c.in-GetResFileAttrs.is

pub returns-in-SetResFileAttrs-clause-told : goal.returns-in-SetResFileAttrs-clause-told
returns-in-SetResFileAttrs-clause-told g c =
    arm_told (λ (u : Unit {0}). Done) false c.done_on_resource-in-SetResFileAttrs.result _ _ _ c.args.call.now _ c.args.names.now
    (managers c.args.resources.now c.args.heap.now.memory) c.done_on_resource-in-SetResFileAttrs.ensures.tried
    (c.set_res_file_attrs.ensures.answer c.args.heap.now.memory) refl refl c.in-SetResFileAttrs.is

pub returns-in-SetResFileAttrs-clause-after : goal.returns-in-SetResFileAttrs-clause-after
returns-in-SetResFileAttrs-clause-after g c =
    arm_after (λ (u : Unit {0}). Done) c.done_on_resource-in-SetResFileAttrs.result _ _ _ c.args.call.now _ c.args.names.now
    (managers c.args.resources.now c.args.heap.now.memory) c.done_on_resource-in-SetResFileAttrs.ensures.after
    (c.set_res_file_attrs.ensures.answer c.args.heap.now.memory) refl c.in-SetResFileAttrs.is

pub returns-in-CountTypes-clause-told : goal.returns-in-CountTypes-clause-told
returns-in-CountTypes-clause-told g c =
    arm_told Number false c.sized.result _ _ _ c.args.call.now _ c.args.names.now (managers c.args.resources.now c.args.heap.now.memory)
    c.sized.ensures.tried (c.count_types.ensures.answer c.args.heap.now.memory) refl refl c.in-CountTypes.is

pub returns-in-CountTypes-clause-after : goal.returns-in-CountTypes-clause-after
returns-in-CountTypes-clause-after g c =
    arm_after Number c.sized.result _ _ _ c.args.call.now _ c.args.names.now (managers c.args.resources.now c.args.heap.now.memory)
    c.sized.ensures.after (c.count_types.ensures.answer c.args.heap.now.memory) refl c.in-CountTypes.is

pub returns-in-Count1Types-clause-told : goal.returns-in-Count1Types-clause-told
returns-in-Count1Types-clause-told g c =
    arm_told Number false c.sized-in-Count1Types.result _ _ _ c.args.call.now _ c.args.names.now
    (managers c.args.resources.now c.args.heap.now.memory) c.sized-in-Count1Types.ensures.tried
    (c.count1_types.ensures.answer c.args.heap.now.memory) refl refl c.in-Count1Types.is

pub returns-in-Count1Types-clause-after : goal.returns-in-Count1Types-clause-after
returns-in-Count1Types-clause-after g c =
    arm_after Number c.sized-in-Count1Types.result _ _ _ c.args.call.now _ c.args.names.now
    (managers c.args.resources.now c.args.heap.now.memory) c.sized-in-Count1Types.ensures.after
    (c.count1_types.ensures.answer c.args.heap.now.memory) refl c.in-Count1Types.is

pub returns-in-GetIndType-clause-told : goal.returns-in-GetIndType-clause-told
returns-in-GetIndType-clause-told g c =
    arm_told Kind false c.kind.result _ _ _ c.args.call.now _ c.args.names.now (managers c.args.resources.now c.args.heap.now.memory)
    c.kind.ensures.tried (c.get_ind_type.ensures.answer c.args.heap.now.memory) refl refl c.in-GetIndType.is

pub returns-in-GetIndType-clause-after : goal.returns-in-GetIndType-clause-after
returns-in-GetIndType-clause-after g c =
    arm_after Kind c.kind.result _ _ _ c.args.call.now _ c.args.names.now (managers c.args.resources.now c.args.heap.now.memory)
    c.kind.ensures.after (c.get_ind_type.ensures.answer c.args.heap.now.memory) refl c.in-GetIndType.is

pub returns-in-Get1IndType-clause-told : goal.returns-in-Get1IndType-clause-told
returns-in-Get1IndType-clause-told g c =
    arm_told Kind false c.kind-in-Get1IndType.result _ _ _ c.args.call.now _ c.args.names.now
    (managers c.args.resources.now c.args.heap.now.memory) c.kind-in-Get1IndType.ensures.tried
    (c.get1_ind_type.ensures.answer c.args.heap.now.memory) refl refl c.in-Get1IndType.is

pub returns-in-Get1IndType-clause-after : goal.returns-in-Get1IndType-clause-after
returns-in-Get1IndType-clause-after g c =
    arm_after Kind c.kind-in-Get1IndType.result _ _ _ c.args.call.now _ c.args.names.now
    (managers c.args.resources.now c.args.heap.now.memory) c.kind-in-Get1IndType.ensures.after
    (c.get1_ind_type.ensures.answer c.args.heap.now.memory) refl c.in-Get1IndType.is

pub returns-in-CountResources-clause-told : goal.returns-in-CountResources-clause-told
returns-in-CountResources-clause-told g c =
    arm_told Number false c.sized-in-CountResources.result _ _ _ c.args.call.now _ c.args.names.now
    (managers c.args.resources.now c.args.heap.now.memory) c.sized-in-CountResources.ensures.tried
    (c.count_resources.ensures.answer c.args.heap.now.memory) refl refl c.in-CountResources.is

pub returns-in-CountResources-clause-after : goal.returns-in-CountResources-clause-after
returns-in-CountResources-clause-after g c =
    arm_after Number c.sized-in-CountResources.result _ _ _ c.args.call.now _ c.args.names.now
    (managers c.args.resources.now c.args.heap.now.memory) c.sized-in-CountResources.ensures.after
    (c.count_resources.ensures.answer c.args.heap.now.memory) refl c.in-CountResources.is

pub returns-in-UniqueID-clause-told : goal.returns-in-UniqueID-clause-told
returns-in-UniqueID-clause-told g c =
    arm_told Number false c.counted-in-UniqueID.result _ _ _ c.args.call.now _ c.args.names.now
    (managers c.args.resources.now c.args.heap.now.memory) c.counted-in-UniqueID.ensures.tried
    (c.unique_id.ensures.answer c.args.heap.now.memory) refl refl c.in-UniqueID.is

pub returns-in-UniqueID-clause-after : goal.returns-in-UniqueID-clause-after
returns-in-UniqueID-clause-after g c =
    arm_after Number c.counted-in-UniqueID.result _ _ _ c.args.call.now _ c.args.names.now (managers c.args.resources.now
    c.args.heap.now.memory) c.counted-in-UniqueID.ensures.after (c.unique_id.ensures.answer c.args.heap.now.memory) refl c.in-UniqueID.is

pub returns-in-Unique1ID-clause-told : goal.returns-in-Unique1ID-clause-told
returns-in-Unique1ID-clause-told g c =
    arm_told Number false c.counted-in-Unique1ID.result _ _ _ c.args.call.now _ c.args.names.now
    (managers c.args.resources.now c.args.heap.now.memory) c.counted-in-Unique1ID.ensures.tried
    (c.unique1_id.ensures.answer c.args.heap.now.memory) refl refl c.in-Unique1ID.is

pub returns-in-Unique1ID-clause-after : goal.returns-in-Unique1ID-clause-after
returns-in-Unique1ID-clause-after g c =
    arm_after Number c.counted-in-Unique1ID.result _ _ _ c.args.call.now _ c.args.names.now (managers c.args.resources.now
    c.args.heap.now.memory) c.counted-in-Unique1ID.ensures.after (c.unique1_id.ensures.answer c.args.heap.now.memory) refl c.in-Unique1ID.is

pub returns-in-GetIndResource-clause-told : goal.returns-in-GetIndResource-clause-told
returns-in-GetIndResource-clause-told g c =
    arm_told tell_fetched true c.fetched-in-GetIndResource.result _ _ _ c.args.call.now _ c.args.names.now (managers c.args.resources.now
    c.args.heap.now.memory) c.fetched-in-GetIndResource.ensures.tried c.get_ind_resource.ensures.answer refl refl c.in-GetIndResource.is

pub returns-in-GetIndResource-clause-after : goal.returns-in-GetIndResource-clause-after
returns-in-GetIndResource-clause-after g c =
    arm_after tell_fetched c.fetched-in-GetIndResource.result _ _ _ c.args.call.now _ c.args.names.now (managers c.args.resources.now
    c.args.heap.now.memory) c.fetched-in-GetIndResource.ensures.after c.get_ind_resource.ensures.answer refl c.in-GetIndResource.is

pub returns-in-Count1Resources-clause-told : goal.returns-in-Count1Resources-clause-told
returns-in-Count1Resources-clause-told g c =
    arm_told Number false c.sized-in-Count1Resources.result _ _ _ c.args.call.now _ c.args.names.now
    (managers c.args.resources.now c.args.heap.now.memory) c.sized-in-Count1Resources.ensures.tried
    (c.count1_resources.ensures.answer c.args.heap.now.memory) refl refl c.in-Count1Resources.is

pub returns-in-Count1Resources-clause-after : goal.returns-in-Count1Resources-clause-after
returns-in-Count1Resources-clause-after g c =
    arm_after Number c.sized-in-Count1Resources.result _ _ _ c.args.call.now _ c.args.names.now
    (managers c.args.resources.now c.args.heap.now.memory) c.sized-in-Count1Resources.ensures.after
    (c.count1_resources.ensures.answer c.args.heap.now.memory) refl c.in-Count1Resources.is

pub returns-in-ChangedResource-clause-told : goal.returns-in-ChangedResource-clause-told
returns-in-ChangedResource-clause-told g c =
    arm_told (λ (u : Unit {0}). Done) false c.done_on_resource-in-ChangedResource.result _ _ _ c.args.call.now _ c.args.names.now
    (managers c.args.resources.now c.args.heap.now.memory) c.done_on_resource-in-ChangedResource.ensures.tried
    (c.changed_resource.ensures.answer c.args.heap.now.memory) (ap (λ (h : Option ℕ). telling (λ (u : Unit {0}). Done)
    (rows.noting (changing.changed_resource h) (managers c.args.resources.now c.args.heap.now.memory))) c.number-in-ChangedResource.ensures)
    refl c.in-ChangedResource.is

pub returns-in-ChangedResource-clause-after : goal.returns-in-ChangedResource-clause-after
returns-in-ChangedResource-clause-after g c =
    arm_after (λ (u : Unit {0}). Done) c.done_on_resource-in-ChangedResource.result _ _ _ c.args.call.now _ c.args.names.now
    (managers c.args.resources.now c.args.heap.now.memory) c.done_on_resource-in-ChangedResource.ensures.after
    (c.changed_resource.ensures.answer c.args.heap.now.memory) (ap (λ (h : Option ℕ). telling (λ (u : Unit {0}). Done)
    (rows.noting (changing.changed_resource h) (managers c.args.resources.now c.args.heap.now.memory))) c.number-in-ChangedResource.ensures)
    c.in-ChangedResource.is

pub returns-in-GetResInfo-clause-told : goal.returns-in-GetResInfo-clause-told
returns-in-GetResInfo-clause-told g c =
    arm_told tell_info false c.info.result _ _ _ c.args.call.now _ c.args.names.now
    (managers c.args.resources.now c.args.heap.now.memory) c.info.ensures.tried (c.get_res_info.ensures.answer c.args.heap.now.memory)
    (ap (λ (h : Option ℕ). telling tell_info (rows.noting (rows.get_res_info h) (managers c.args.resources.now c.args.heap.now.memory)))
    c.number-in-GetResInfo.ensures) refl c.in-GetResInfo.is

pub returns-in-GetResInfo-clause-after : goal.returns-in-GetResInfo-clause-after
returns-in-GetResInfo-clause-after g c =
    arm_after tell_info c.info.result _ _ _ c.args.call.now _ c.args.names.now
    (managers c.args.resources.now c.args.heap.now.memory) c.info.ensures.after (c.get_res_info.ensures.answer c.args.heap.now.memory)
    (ap (λ (h : Option ℕ). telling tell_info (rows.noting (rows.get_res_info h) (managers c.args.resources.now c.args.heap.now.memory)))
    c.number-in-GetResInfo.ensures) c.in-GetResInfo.is

pub returns-in-SetResInfo-clause-told : goal.returns-in-SetResInfo-clause-told
returns-in-SetResInfo-clause-told g c =
    let fits : FitsSigned w16 c.in-SetResInfo.id = search rules in
    arm_told (λ (u : Unit {0}). Done) false c.done_on_resource-in-SetResInfo.result _ _ _ c.args.call.now _ c.args.names.now
    (managers c.args.resources.now c.args.heap.now.memory) c.done_on_resource-in-SetResInfo.ensures.tried
    (c.set_res_info.ensures.answer c.args.heap.now.memory) (by_three (λ (h : Option ℕ) (i : ℤ) (text : Name). telling
    (λ (u : Unit {0}). Done) (rows.noting (changing.set_res_info h i text.0.items) (managers c.args.resources.now c.args.heap.now.memory)))
    c.number-in-SetResInfo.ensures (to_z-of_z w16 c.in-SetResInfo.id fits) c.deref-in-SetResInfo.ensures) refl c.in-SetResInfo.is

pub returns-in-SetResInfo-clause-after : goal.returns-in-SetResInfo-clause-after
returns-in-SetResInfo-clause-after g c =
    let fits : FitsSigned w16 c.in-SetResInfo.id = search rules in
    arm_after (λ (u : Unit {0}). Done) c.done_on_resource-in-SetResInfo.result _ _ _ c.args.call.now _ c.args.names.now
    (managers c.args.resources.now c.args.heap.now.memory) c.done_on_resource-in-SetResInfo.ensures.after
    (c.set_res_info.ensures.answer c.args.heap.now.memory) (by_three (λ (h : Option ℕ) (i : ℤ) (text : Name). telling
    (λ (u : Unit {0}). Done) (rows.noting (changing.set_res_info h i text.0.items) (managers c.args.resources.now c.args.heap.now.memory)))
    c.number-in-SetResInfo.ensures (to_z-of_z w16 c.in-SetResInfo.id fits) c.deref-in-SetResInfo.ensures) c.in-SetResInfo.is

pub returns-in-GetResAttrs-clause-told : goal.returns-in-GetResAttrs-clause-told
returns-in-GetResAttrs-clause-told g c =
    arm_told Number false c.attributes.result _ _ _ c.args.call.now _ c.args.names.now (managers c.args.resources.now
    c.args.heap.now.memory) c.attributes.ensures.tried (c.get_res_attrs.ensures.answer c.args.heap.now.memory)
    (ap (λ (h : Option ℕ). telling Number (rows.noting (rows.get_res_attrs h) (managers c.args.resources.now c.args.heap.now.memory)))
    c.number-in-GetResAttrs.ensures) refl c.in-GetResAttrs.is

pub returns-in-GetResAttrs-clause-after : goal.returns-in-GetResAttrs-clause-after
returns-in-GetResAttrs-clause-after g c =
    arm_after Number c.attributes.result _ _ _ c.args.call.now _ c.args.names.now (managers c.args.resources.now c.args.heap.now.memory)
    c.attributes.ensures.after (c.get_res_attrs.ensures.answer c.args.heap.now.memory)
    (ap (λ (h : Option ℕ). telling Number (rows.noting (rows.get_res_attrs h) (managers c.args.resources.now c.args.heap.now.memory)))
    c.number-in-GetResAttrs.ensures) c.in-GetResAttrs.is

pub returns-in-SetResAttrs-clause-told : goal.returns-in-SetResAttrs-clause-told
returns-in-SetResAttrs-clause-told g c =
    arm_told (λ (u : Unit {0}). Done) false c.done_on_resource-in-SetResAttrs.result _ _ _ c.args.call.now _ c.args.names.now
    (managers c.args.resources.now c.args.heap.now.memory) c.done_on_resource-in-SetResAttrs.ensures.tried
    (c.set_res_attrs.ensures.answer c.args.heap.now.memory)
    (ap (λ (h : Option ℕ). telling (λ (u : Unit {0}). Done) (rows.noting (changing.set_res_attrs h c.in-SetResAttrs.attrs)
    (managers c.args.resources.now c.args.heap.now.memory))) c.number-in-SetResAttrs.ensures) refl c.in-SetResAttrs.is

pub returns-in-SetResAttrs-clause-after : goal.returns-in-SetResAttrs-clause-after
returns-in-SetResAttrs-clause-after g c =
    arm_after (λ (u : Unit {0}). Done) c.done_on_resource-in-SetResAttrs.result _ _ _ c.args.call.now _ c.args.names.now
    (managers c.args.resources.now c.args.heap.now.memory) c.done_on_resource-in-SetResAttrs.ensures.after
    (c.set_res_attrs.ensures.answer c.args.heap.now.memory)
    (ap (λ (h : Option ℕ). telling (λ (u : Unit {0}). Done) (rows.noting (changing.set_res_attrs h c.in-SetResAttrs.attrs)
    (managers c.args.resources.now c.args.heap.now.memory))) c.number-in-SetResAttrs.ensures) c.in-SetResAttrs.is

pub returns-in-GetResourceSizeOnDisk-clause-told : goal.returns-in-GetResourceSizeOnDisk-clause-told
returns-in-GetResourceSizeOnDisk-clause-told g c =
    arm_told Number false c.sized-in-GetResourceSizeOnDisk.result _ _ _ c.args.call.now _ c.args.names.now
    (managers c.args.resources.now c.args.heap.now.memory) c.sized-in-GetResourceSizeOnDisk.ensures.tried
    (c.get_resource_size_on_disk.ensures.answer c.args.heap.now.memory)
    (ap (λ (h : Option ℕ). telling Number (rows.noting (rows.get_resource_size_on_disk h)
    (managers c.args.resources.now c.args.heap.now.memory))) c.number-in-GetResourceSizeOnDisk.ensures) refl c.in-GetResourceSizeOnDisk.is

pub returns-in-GetResourceSizeOnDisk-clause-after : goal.returns-in-GetResourceSizeOnDisk-clause-after
returns-in-GetResourceSizeOnDisk-clause-after g c =
    arm_after Number c.sized-in-GetResourceSizeOnDisk.result _ _ _ c.args.call.now _ c.args.names.now
    (managers c.args.resources.now c.args.heap.now.memory) c.sized-in-GetResourceSizeOnDisk.ensures.after
    (c.get_resource_size_on_disk.ensures.answer c.args.heap.now.memory)
    (ap (λ (h : Option ℕ). telling Number (rows.noting (rows.get_resource_size_on_disk h)
    (managers c.args.resources.now c.args.heap.now.memory))) c.number-in-GetResourceSizeOnDisk.ensures) c.in-GetResourceSizeOnDisk.is

pub returns-in-OpenResFile-clause-told : goal.returns-in-OpenResFile-clause-told
returns-in-OpenResFile-clause-told g c =
    arm_told Number false c.counted.result _ _ _ c.args.call.now _ c.args.names.now (managers c.args.resources.now c.args.heap.now.memory)
    c.counted.ensures.tried c.open_res_file.ensures.answer refl refl c.in-OpenResFile.is

pub returns-in-OpenResFile-clause-after : goal.returns-in-OpenResFile-clause-after
returns-in-OpenResFile-clause-after g c =
    arm_after Number c.counted.result _ _ _ c.args.call.now _ c.args.names.now
    (managers c.args.resources.now c.args.heap.now.memory) c.counted.ensures.after c.open_res_file.ensures.answer refl c.in-OpenResFile.is

pub returns-in-CloseResFile-clause-told : goal.returns-in-CloseResFile-clause-told
returns-in-CloseResFile-clause-told g c =
    arm_told (λ (u : Unit {0}). Done) false c.done_on_resource-in-CloseResFile.result _ _ _ c.args.call.now _ c.args.names.now
    (managers c.args.resources.now c.args.heap.now.memory) c.done_on_resource-in-CloseResFile.ensures.tried c.close_res_file.ensures.answer
    refl refl c.in-CloseResFile.is

pub returns-in-CloseResFile-clause-after : goal.returns-in-CloseResFile-clause-after
returns-in-CloseResFile-clause-after g c =
    arm_after (λ (u : Unit {0}). Done) c.done_on_resource-in-CloseResFile.result _ _ _ c.args.call.now _ c.args.names.now
    (managers c.args.resources.now c.args.heap.now.memory) c.done_on_resource-in-CloseResFile.ensures.after c.close_res_file.ensures.answer
    refl c.in-CloseResFile.is

pub returns-in-UpdateResFile-clause-told : goal.returns-in-UpdateResFile-clause-told
returns-in-UpdateResFile-clause-told g c =
    arm_told (λ (u : Unit {0}). Done) false c.done_on_resource-in-UpdateResFile.result _ _ _ c.args.call.now _ c.args.names.now
    (managers c.args.resources.now c.args.heap.now.memory) c.done_on_resource-in-UpdateResFile.ensures.tried
    c.update_res_file.ensures.answer refl refl c.in-UpdateResFile.is

pub returns-in-UpdateResFile-clause-after : goal.returns-in-UpdateResFile-clause-after
returns-in-UpdateResFile-clause-after g c =
    arm_after (λ (u : Unit {0}). Done) c.done_on_resource-in-UpdateResFile.result _ _ _ c.args.call.now _ c.args.names.now
    (managers c.args.resources.now c.args.heap.now.memory) c.done_on_resource-in-UpdateResFile.ensures.after
    c.update_res_file.ensures.answer refl c.in-UpdateResFile.is

pub returns-in-Get1IndResource-clause-told : goal.returns-in-Get1IndResource-clause-told
returns-in-Get1IndResource-clause-told g c =
    arm_told tell_fetched true c.fetched-in-Get1IndResource.result _ _ _ c.args.call.now _ c.args.names.now (managers c.args.resources.now
    c.args.heap.now.memory) c.fetched-in-Get1IndResource.ensures.tried c.get1_ind_resource.ensures.answer refl refl c.in-Get1IndResource.is

pub returns-in-Get1IndResource-clause-after : goal.returns-in-Get1IndResource-clause-after
returns-in-Get1IndResource-clause-after g c =
    arm_after tell_fetched c.fetched-in-Get1IndResource.result _ _ _ c.args.call.now _ c.args.names.now (managers c.args.resources.now
    c.args.heap.now.memory) c.fetched-in-Get1IndResource.ensures.after c.get1_ind_resource.ensures.answer refl c.in-Get1IndResource.is

pub returns-in-LoadResource-clause-told : goal.returns-in-LoadResource-clause-told
returns-in-LoadResource-clause-told g c =
    arm_told tell_fetched true c.fetched-in-LoadResource.result _ _ _ c.args.call.now _ c.args.names.now
    (managers c.args.resources.now c.args.heap.now.memory) c.fetched-in-LoadResource.ensures.tried c.load_resource.ensures.answer
    (ap (λ (h : Option ℕ). telling tell_fetched (rows.noting (rows.load_resource h) (managers c.args.resources.now c.args.heap.now.memory)))
    c.number-in-LoadResource.ensures) refl c.in-LoadResource.is

pub returns-in-LoadResource-clause-after : goal.returns-in-LoadResource-clause-after
returns-in-LoadResource-clause-after g c =
    arm_after tell_fetched c.fetched-in-LoadResource.result _ _ _ c.args.call.now _ c.args.names.now
    (managers c.args.resources.now c.args.heap.now.memory) c.fetched-in-LoadResource.ensures.after c.load_resource.ensures.answer
    (ap (λ (h : Option ℕ). telling tell_fetched (rows.noting (rows.load_resource h) (managers c.args.resources.now c.args.heap.now.memory)))
    c.number-in-LoadResource.ensures) c.in-LoadResource.is

pub returns-in-ReleaseResource-clause-told : goal.returns-in-ReleaseResource-clause-told
returns-in-ReleaseResource-clause-told g c =
    arm_told (λ (u : Unit {0}). Done) false c.done_on_resource-in-ReleaseResource.result _ _ _ c.args.call.now _ c.args.names.now
    (managers c.args.resources.now c.args.heap.now.memory) c.done_on_resource-in-ReleaseResource.ensures.tried
    c.release_resource.ensures.answer (ap (λ (h : Option ℕ). telling (λ (u : Unit {0}). Done) (rows.noting (rows.release_resource h)
    (managers c.args.resources.now c.args.heap.now.memory))) c.number-in-ReleaseResource.ensures) refl c.in-ReleaseResource.is

pub returns-in-ReleaseResource-clause-after : goal.returns-in-ReleaseResource-clause-after
returns-in-ReleaseResource-clause-after g c =
    arm_after (λ (u : Unit {0}). Done) c.done_on_resource-in-ReleaseResource.result _ _ _ c.args.call.now _ c.args.names.now
    (managers c.args.resources.now c.args.heap.now.memory) c.done_on_resource-in-ReleaseResource.ensures.after
    c.release_resource.ensures.answer (ap (λ (h : Option ℕ). telling (λ (u : Unit {0}). Done) (rows.noting (rows.release_resource h)
    (managers c.args.resources.now c.args.heap.now.memory))) c.number-in-ReleaseResource.ensures) c.in-ReleaseResource.is

pub returns-in-DetachResource-clause-told : goal.returns-in-DetachResource-clause-told
returns-in-DetachResource-clause-told g c =
    arm_told (λ (u : Unit {0}). Done) false c.done_on_resource-in-DetachResource.result _ _ _ c.args.call.now _ c.args.names.now
    (managers c.args.resources.now c.args.heap.now.memory) c.done_on_resource-in-DetachResource.ensures.tried
    c.detach_resource.ensures.answer (ap (λ (h : Option ℕ). telling (λ (u : Unit {0}). Done) (rows.noting (rows.detach_resource h)
    (managers c.args.resources.now c.args.heap.now.memory))) c.number-in-DetachResource.ensures) refl c.in-DetachResource.is

pub returns-in-DetachResource-clause-after : goal.returns-in-DetachResource-clause-after
returns-in-DetachResource-clause-after g c =
    arm_after (λ (u : Unit {0}). Done) c.done_on_resource-in-DetachResource.result _ _ _ c.args.call.now _ c.args.names.now
    (managers c.args.resources.now c.args.heap.now.memory) c.done_on_resource-in-DetachResource.ensures.after
    c.detach_resource.ensures.answer (ap (λ (h : Option ℕ). telling (λ (u : Unit {0}). Done) (rows.noting (rows.detach_resource h)
    (managers c.args.resources.now c.args.heap.now.memory))) c.number-in-DetachResource.ensures) c.in-DetachResource.is

pub returns-in-RemoveResource-clause-told : goal.returns-in-RemoveResource-clause-told
returns-in-RemoveResource-clause-told g c =
    arm_told (λ (u : Unit {0}). Done) false c.done_on_resource-in-RemoveResource.result _ _ _ c.args.call.now _ c.args.names.now
    (managers c.args.resources.now c.args.heap.now.memory) c.done_on_resource-in-RemoveResource.ensures.tried
    c.remove_resource.ensures.answer (ap (λ (h : Option ℕ). telling (λ (u : Unit {0}). Done) (rows.noting (changing.remove_resource h)
    (managers c.args.resources.now c.args.heap.now.memory))) c.number-in-RemoveResource.ensures) refl c.in-RemoveResource.is

pub returns-in-RemoveResource-clause-after : goal.returns-in-RemoveResource-clause-after
returns-in-RemoveResource-clause-after g c =
    arm_after (λ (u : Unit {0}). Done) c.done_on_resource-in-RemoveResource.result _ _ _ c.args.call.now _ c.args.names.now
    (managers c.args.resources.now c.args.heap.now.memory) c.done_on_resource-in-RemoveResource.ensures.after
    c.remove_resource.ensures.answer (ap (λ (h : Option ℕ). telling (λ (u : Unit {0}). Done) (rows.noting (changing.remove_resource h)
    (managers c.args.resources.now c.args.heap.now.memory))) c.number-in-RemoveResource.ensures) c.in-RemoveResource.is

pub returns-in-WriteResource-clause-told : goal.returns-in-WriteResource-clause-told
returns-in-WriteResource-clause-told g c =
    arm_told (λ (u : Unit {0}). Done) false c.done_on_resource-in-WriteResource.result _ _ _ c.args.call.now _ c.args.names.now
    (managers c.args.resources.now c.args.heap.now.memory) c.done_on_resource-in-WriteResource.ensures.tried c.write_resource.ensures.answer
    (ap (λ (h : Option ℕ). telling (λ (u : Unit {0}). Done) (rows.noting (changing.write_resource h)
    (managers c.args.resources.now c.args.heap.now.memory))) c.number-in-WriteResource.ensures) refl c.in-WriteResource.is

pub returns-in-WriteResource-clause-after : goal.returns-in-WriteResource-clause-after
returns-in-WriteResource-clause-after g c =
    arm_after (λ (u : Unit {0}). Done) c.done_on_resource-in-WriteResource.result _ _ _ c.args.call.now _ c.args.names.now
    (managers c.args.resources.now c.args.heap.now.memory) c.done_on_resource-in-WriteResource.ensures.after c.write_resource.ensures.answer
    (ap (λ (h : Option ℕ). telling (λ (u : Unit {0}). Done) (rows.noting (changing.write_resource h)
    (managers c.args.resources.now c.args.heap.now.memory))) c.number-in-WriteResource.ensures) c.in-WriteResource.is

pub returns-in-SetResPurge-clause-told : goal.returns-in-SetResPurge-clause-told
returns-in-SetResPurge-clause-told g c =
    arm_told (λ (u : Unit {0}). Done) false c.done_on_resource-in-SetResPurge.result _ _ _ c.args.call.now _ c.args.names.now
    (managers c.args.resources.now c.args.heap.now.memory) c.done_on_resource-in-SetResPurge.ensures.tried
    (c.set_res_purge.ensures c.args.heap.now.memory) refl refl c.in-SetResPurge.is

pub returns-in-SetResPurge-clause-after : goal.returns-in-SetResPurge-clause-after
returns-in-SetResPurge-clause-after g c =
    arm_after (λ (u : Unit {0}). Done) c.done_on_resource-in-SetResPurge.result _ _ _ c.args.call.now _ c.args.names.now
    (managers c.args.resources.now c.args.heap.now.memory) c.done_on_resource-in-SetResPurge.ensures.after
    (c.set_res_purge.ensures c.args.heap.now.memory) refl c.in-SetResPurge.is

pub returns-in-SetResLoad-clause-told : goal.returns-in-SetResLoad-clause-told
returns-in-SetResLoad-clause-told g c =
    arm_told (λ (u : Unit {0}). Done) false c.done_on_resource-in-SetResLoad.result _ _ _ c.args.call.now _ c.args.names.now
    (managers c.args.resources.now c.args.heap.now.memory) c.done_on_resource-in-SetResLoad.ensures.tried
    (c.set_res_load.ensures c.args.heap.now.memory) refl refl c.in-SetResLoad.is

pub returns-in-SetResLoad-clause-after : goal.returns-in-SetResLoad-clause-after
returns-in-SetResLoad-clause-after g c =
    arm_after (λ (u : Unit {0}). Done) c.done_on_resource-in-SetResLoad.result _ _ _ c.args.call.now _ c.args.names.now
    (managers c.args.resources.now c.args.heap.now.memory) c.done_on_resource-in-SetResLoad.ensures.after
    (c.set_res_load.ensures c.args.heap.now.memory) refl c.in-SetResLoad.is

pub returns-in-GetResInfo-clause-files : goal.returns-in-GetResInfo-clause-files
returns-in-GetResInfo-clause-files g c =
    on_err c.info.result _
    (answered_keeps seen_info
    (rows.noting (rows.get_res_info c.number-in-GetResInfo.result) (managers c.args.resources.now
    c.args.heap.now.memory))
    c.get_res_info.result _ _ (c.get_res_info.ensures.answer c.args.heap.now.memory)
    c.get_res_info.ensures.host
    (served-files (GetResInfo c.number-in-GetResInfo.result) (managers c.args.resources.now c.args.heap.now.memory)
    refl))

pub returns-in-GetResource-clause-hears : goal.returns-in-GetResource-clause-hears
returns-in-GetResource-clause-hears g c =
    let fits : FitsSigned w16 c.in-GetResource.id = search rules in
    arm_hears c.fetched.result c.args.call.now _ c.args.names.now (managers c.args.resources.now
    c.args.heap.now.memory)
    g.K.PurgeSink.told g.K.PurgeSink.waits g.K.PurgeSink.listens c.args.sink.now c.get_resource.new.sink _
    c.fetched.ensures.host c.get_resource.ensures.hears
    (ap (λ (i : ℤ). gone_for (asks.GetResource (big_number 4 c.in-GetResource.ty.0) i)
    (managers c.args.resources.now c.args.heap.now.memory)) (to_z-of_z w16 c.in-GetResource.id fits))
    c.in-GetResource.is

pub returns-in-Get1Resource-clause-hears : goal.returns-in-Get1Resource-clause-hears
returns-in-Get1Resource-clause-hears g c =
    let fits : FitsSigned w16 c.in-Get1Resource.id = search rules in
    arm_hears c.fetched-in-Get1Resource.result c.args.call.now _ c.args.names.now
    (managers c.args.resources.now c.args.heap.now.memory) g.K.PurgeSink.told g.K.PurgeSink.waits
    g.K.PurgeSink.listens c.args.sink.now c.get1_resource.new.sink _ c.fetched-in-Get1Resource.ensures.host
    c.get1_resource.ensures.hears
    (ap (λ (i : ℤ). gone_for (asks.Get1Resource (big_number 4 c.in-Get1Resource.ty.0) i)
    (managers c.args.resources.now c.args.heap.now.memory)) (to_z-of_z w16 c.in-Get1Resource.id fits))
    c.in-Get1Resource.is

pub returns-in-ReadPartialResource-clause-told : goal.returns-in-ReadPartialResource-clause-told
returns-in-ReadPartialResource-clause-told g c =
    arm_told Bytes false c.read.result _ _ _ c.args.call.now _ c.args.names.now (managers c.args.resources.now c.args.heap.now.memory)
    c.read.ensures.tried c.read_partial_resource.ensures.answer (ap (λ (h : Option ℕ).
    telling Bytes (rows.noting (partial.read_partial_resource h c.in-ReadPartialResource.offset c.in-ReadPartialResource.count)
    (managers c.args.resources.now c.args.heap.now.memory))) c.number-in-ReadPartialResource.ensures) refl c.in-ReadPartialResource.is

pub returns-in-ReadPartialResource-clause-after : goal.returns-in-ReadPartialResource-clause-after
returns-in-ReadPartialResource-clause-after g c =
    arm_after Bytes c.read.result _ _ _ c.args.call.now _ c.args.names.now (managers c.args.resources.now c.args.heap.now.memory)
    c.read.ensures.after c.read_partial_resource.ensures.answer (ap (λ (h : Option ℕ).
    telling Bytes (rows.noting (partial.read_partial_resource h c.in-ReadPartialResource.offset c.in-ReadPartialResource.count)
    (managers c.args.resources.now c.args.heap.now.memory))) c.number-in-ReadPartialResource.ensures) c.in-ReadPartialResource.is

pub returns-in-SetResourceSize-clause-told : goal.returns-in-SetResourceSize-clause-told
returns-in-SetResourceSize-clause-told g c =
    arm_told (λ (u : Unit {0}). Done) false c.done_on_resource-in-SetResourceSize.result _ _ _ c.args.call.now _ c.args.names.now (managers
    c.args.resources.now c.args.heap.now.memory) c.done_on_resource-in-SetResourceSize.ensures.tried c.set_resource_size.ensures.answer
    (ap (λ (h : Option ℕ). telling (λ (u : Unit {0}). Done) (rows.noting (partial.set_resource_size h c.in-SetResourceSize.size)
    (managers c.args.resources.now c.args.heap.now.memory))) c.number-in-SetResourceSize.ensures) refl c.in-SetResourceSize.is

pub returns-in-SetResourceSize-clause-after : goal.returns-in-SetResourceSize-clause-after
returns-in-SetResourceSize-clause-after g c =
    arm_after (λ (u : Unit {0}). Done) c.done_on_resource-in-SetResourceSize.result _ _ _ c.args.call.now _ c.args.names.now (managers
    c.args.resources.now c.args.heap.now.memory) c.done_on_resource-in-SetResourceSize.ensures.after c.set_resource_size.ensures.answer
    (ap (λ (h : Option ℕ). telling (λ (u : Unit {0}). Done) (rows.noting (partial.set_resource_size h c.in-SetResourceSize.size)
    (managers c.args.resources.now c.args.heap.now.memory))) c.number-in-SetResourceSize.ensures) c.in-SetResourceSize.is
