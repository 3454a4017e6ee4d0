use Rattle.zone_drawing.proofs.Cited.{◌++◌, ◌∙◌, List, ℕ, ap, class_words}
use Rattle.zone_drawing.proofs.Appending.{also}
use Rattle.zone_drawing.proofs.strip.push_class_words.Goals as goal

pub returns : goal.returns
unfolding class_words
returns c =
    let words = c.in_ok-put-3.ensures ∙ ap (λ (x : List ℕ). c.put-2.new.text.items ++ x) c.class_text.ensures in
    also c.args.text.now.items _ _ (also c.args.text.now.items _ _ (also c.args.text.now.items _ _ (also c.args.text.now.items _ _
    (also c.args.text.now.items _ _ c.in_ok-put.ensures c.in_ok-push_decimal.ensures) c.in_ok-put-2.ensures) words)
    c.in_ok-put-4.ensures) c.in_ok-push_decimal-2.ensures
