use Rattle.applications.proofs.Cited.{◌≡◌, ◌∙◌, refl, sym, ap, subst, List, Result, Ok, Err, OsErr, Content, Refusal, File, Resources}
use Rattle.applications.proofs.Cited.{IsReply, launched_resources, no_content, own_files, own_resources}
use Rattle.heap_calls.specs.declared.refusal.Refusal.TheVariants.{Code}

-- A fork without resources is read.

own-launched : launched_resources own_files no_content ≡ Ok own_resources
own-launched = refl

-- an application that is a script alone is launched
pub never_refused : (files : List File) (system : Content) (answer : Result Resources Refusal) (refusal : Refusal)
    (code : OsErr) → files ≡ own_files → system ≡ no_content → IsReply (launched_resources files system) answer
    → answer ≡ Err refusal → refusal ≡ Code code → ⊥
never_refused files system answer refusal code own none reply is coded =
    let said : launched_resources files system ≡ Err code =
    subst (IsReply (launched_resources files system)) (is ∙ ap Err coded) reply in
    let e : Ok own_resources ≡ Err code = sym own-launched
    ∙ sym (ap (λ (f : List File). launched_resources f system) own ∙ ap (launched_resources own_files) none)
    ∙ said in cc

-- and has the resources that the definition says
pub given_own : (files : List File) (system : Content) (answer : Result Resources Refusal) (resources : Resources)
    → files ≡ own_files → system ≡ no_content → IsReply (launched_resources files system) answer
    → answer ≡ Ok resources → resources ≡ own_resources
given_own files system answer resources own none reply is =
    let said : launched_resources files system ≡ Ok resources =
    subst (IsReply (launched_resources files system)) is reply in
    let e : Ok own_resources ≡ Ok resources = sym own-launched
    ∙ sym (ap (λ (f : List File). launched_resources f system) own ∙ ap (launched_resources own_files) none)
    ∙ said in cc
