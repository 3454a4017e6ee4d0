use Rattle.rez_statements.proofs.Cited.{◌≡◌, List, length, cond, Some, refl, sym, ap, ◌∙◌, get, nat_cmp, is_eq, DeclaredType, last_place}
use Rattle.rez_statements.proofs.Lasts.{last-push}
use Rattle.rez_statements.proofs.table.Types.add.Goals as goal

pub invariant_of-self-in-Ok : goal.invariant_of-self-in-Ok
invariant_of-self-in-Ok c = record {
  placed = λ q.
      let xs : List DeclaredType = c.args.self.now.list.items in
      let was : get nat_cmp c.args.self.now.places q ≡ last_place q xs = c.args.self.now.placed q in
      let size : c.len-place.result ≡ length xs = c.len-place.ensures ∙ c.args.self.now.list.ok.0 in
      c.in-Ok.ensures.updates.0 q
      ∙ ap (cond (is_eq (nat_cmp c.args.kind q)) (Some c.len-place.result)) was
      ∙ last-push c.args.kind q c.len-place.result xs (record { kind = c.args.kind; declaration = c.args.declaration }) refl size
      ∙ ap (last_place q) (sym c.in_ok-push.ensures.items);
}
