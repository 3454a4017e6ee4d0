use Rattle.res_calls.proofs.Cited.{◌≡◌, ℕ, ap, subst, big_number, PROFILE, Resources, IsAnswered, managers, is_taken_in}
use Rattle.res_calls.specs.Rows as rows
use Rattle.res_calls.specs.declared.find.Within.TheVariants as within
use Rattle.res_calls.proofs.Noting.{is_noted}
use Rattle.res_calls.proofs.files.Resources.unique1_id.Goals as goal

-- the file that is searched is the current one
pub returns-clause-answer : goal.returns-clause-answer
returns-clause-answer c = λ m.
    let now = c.args.self.now in
    let kind : ℕ = big_number 4 c.args.ty.0 in
    let current : c.self.inside.current ≡ now.current = ap (λ (r : Resources). r.current) c.self.view_is in
    is_noted (λ (n : ℕ). n) (rows.unique_id rows.Current kind) (managers now m) _ _ _ _ m
    (subst (λ (k : ℕ). IsAnswered (λ (n : ℕ). n)
    (rows.told_or PROFILE (rows.first_free (is_taken_in (within.Only k) kind now.chain) rows.all_ids rows.lowest_id)
    (managers now m)) c.free_id-answer.result (managers now m)) current (c.free_id-answer.ensures.answer m))
    c.note.ensures.answer c.note.ensures.noted
