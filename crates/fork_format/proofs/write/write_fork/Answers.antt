use Rattle.fork_format.proofs.Cited.{◌≡◌, ◌∙◌, ◌++◌, ap, refl, subst, sym, true, List, ℕ, canon, clear, fits, Content, Spells, view}
use Rattle.fork_format.proofs.CanSpell.{canon_spells}
use Rattle.fork_format.proofs.write.write_fork.Goals as goal

pub returns-clause-read_again : goal.returns-clause-read_again
returns-clause-read_again c =
    let v : Content = view c.args.content.now in
    let is : c.put_fork.new.out.items ≡ canon v =
    c.in_ok-put_fork.ensures.fork ∙ ap (λ (l : List ℕ). l ++ canon v) c.in_ok-out.ensures.items in
    let low : fits v ≡ true = c.in-Some.ensures.fits.0 refl in
    subst (λ (l : List ℕ). Spells l (clear v)) (sym is) (canon_spells v c.in_ok-put_fork.ensures.content low)
