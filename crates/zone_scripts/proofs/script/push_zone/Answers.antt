use Rattle.zone_scripts.proofs.Cited.{◌++◌, ◌∙◌, ap, also, zone_phrase}
use Rattle.zone_scripts.proofs.script.push_zone.Goals as goal

pub returns : goal.returns
unfolding zone_phrase
returns c =
    also c.args.text.now.items _ _ (also c.args.text.now.items _ _ c.in_ok-put.ensures c.in_ok-push_hex.ensures)
    (c.in_ok-put-2.ensures ∙ ap (λ b. c.push_hex.new.text.items ++ b) c.bits_phrase.ensures)
