use Rattle.res_calls.proofs.Cited.{◌≤◌, ◌∙◌, ap, sym, length, map, List, Found, found_at, view_open}
use Rattle.res_calls.specs.declared.files.OpenFile.{OpenFile}
use Rattle.res_calls.proofs.Parts.{if_some, no_code, offset-within}
use Rattle.res_calls.proofs.partial.write_at.Goals as goal

pub write-requires-clause-offset : goal.write-requires-clause-offset
write-requires-clause-offset g c =
    if_some (λ (f : Found). c.args.from ≤ length f.reference.here.stored.datum)
    (found_at c.args.at (map view_open c.args.files.now.items))
    (λ f e. offset-within c.args.from (length c.args.bytes.now) f
    (sym (c.write_refusal.ensures f
    (ap (λ (files : List OpenFile). found_at c.args.at (map view_open files)) c.deref.ensures.value ∙ e))
    ∙ no_code c.write_refusal.result c.in_default.not-Some))
