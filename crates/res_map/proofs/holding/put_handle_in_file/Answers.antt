use Rattle.res_map.proofs.Cited.{◌≡◌, ◌<◌, ℕ, IfSome, Option, Some, map, rules, sym, subst, slice_get, slice_set, Reference, with_handle}
use Rattle.res_map.proofs.Cited.{length-map, view_reference}
use Rattle.res_map.proofs.Handles.{set-again, taken-none}
use Rattle.res_map.proofs.holding.put_handle_in_file.Goals as goal

pub returns-in-Some-clause-set : goal.returns-in-Some-clause-set
returns-in-Some-clause-set c =
    let some : c.args.handle ≡ Some c.in-Some.handle = search rules in
    let old = map view_reference c.args.refs.now.items in
    let given = map view_reference c.give_handle.new.refs.items in
    subst (λ (o : Option ℕ). IfSome (slice_get old c.args.index) (λ (r : Reference). given ≡ slice_set old c.args.index (with_handle o r)))
    (sym some) (set-again old (map view_reference c.take_handle.new.refs.items) given c.args.index c.in-Some.handle
    (subst (λ (n : ℕ). c.args.index < n) (sym (length-map c.args.refs.now.items view_reference)) c.requires)
    c.take_handle.ensures.taken c.give_handle.ensures.given)

pub returns-in-Some-clause-held : goal.returns-in-Some-clause-held
returns-in-Some-clause-held c = λ holding. c.give_handle.ensures.held
    (taken-none (map view_reference c.args.refs.now.items) (map view_reference c.take_handle.new.refs.items)
    c.args.index (subst (λ (n : ℕ). c.args.index < n) (sym (length-map c.args.refs.now.items view_reference)) c.requires)
    c.take_handle.ensures.taken) (c.take_handle.ensures.held holding)
