use Rattle.rez_text.proofs.Cited.{◌≡◌, List, [], ◌∷◌, ◌++◌, length, map, cond, Some, None, refl, sym, ap, ◌∙◌, get, position, nat_cmp}
use Rattle.rez_text.proofs.Cited.{is_eq, big_number, SourceGroup, is_of, group_said}
use Rattle.rez_text.proofs.Grouping.{put_new}
use Rattle.rez_text.proofs.Placed.{place-push}
use Rattle.rez_text.proofs.groups.SourceGroups.open.Goals as goal

pub returns-in-Ok : goal.returns-in-Ok
returns-in-Ok c =
    let one : c.push.new.self.items ≡ c.args.resource ∷ [] =
    c.in_ok-push.ensures.items ∙ ap (λ l. l ++ c.args.resource ∷ []) c.new-refs.ensures.items in
    ap (map group_said) c.in_ok-push-2.ensures.items
    ∙ put_new (big_number 4 c.args.ty.0) (big_number 4 c.args.ty.0) c.args.resource c.args.self.now.list.items
    (record { ty = c.args.ty; refs = c.push.new.self }) refl (sym c.requires) refl one

pub invariant_of-self-in-Ok : goal.invariant_of-self-in-Ok
invariant_of-self-in-Ok c = record {
  placed = λ q.
      let gs : List SourceGroup = c.args.self.now.list.items in
      let was : get nat_cmp c.args.self.now.places q ≡ position (is_of q) gs = c.args.self.now.placed q in
      let none : position (is_of c.kind_of.result) gs ≡ None =
      ap (λ k. position (is_of k) gs) c.kind_of.ensures ∙ c.requires in
      let size : c.len-place.result ≡ length gs = c.len-place.ensures ∙ c.args.self.now.list.ok.0 in
      let now : cond (is_eq (nat_cmp c.kind_of.result q)) (Some c.len-place.result) (position (is_of q) gs)
      ≡ position (is_of q) c.push-2.new.self.items =
      place-push c.kind_of.result q c.len-place.result gs (record { ty = c.args.ty; refs = c.push.new.self })
      (sym c.kind_of.ensures) none size
      ∙ ap (position (is_of q)) (sym c.in_ok-push-2.ensures.items) in
      c.in-Ok.ensures.updates.0 q
      ∙ ap (cond (is_eq (nat_cmp c.kind_of.result q)) (Some c.len-place.result)) was ∙ now;
}
