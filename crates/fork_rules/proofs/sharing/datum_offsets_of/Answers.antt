use Rattle.fork_rules.proofs.Cited.{ℕ, ◌+◌, ◌∙◌, ap, map, number}
use Rattle.fork_rules.proofs.sharing.datum_offsets_of.Goals as goal

pub returns : goal.returns
returns c = c.in_ok-offsets.ensures ∙ ap (map (λ (at : ℕ). number 3 (at + 5) c.args.bytes.now))
    (c.as_slice.ensures.value ∙ c.in_ok-places.ensures.references)
