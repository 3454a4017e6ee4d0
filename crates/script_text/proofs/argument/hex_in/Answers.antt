use Rattle.script_text.proofs.Cited.{◌∙◌, ◌≡◌, ◌++◌, ◌∷◌, []}
use Rattle.script_text.proofs.Digits.{byte_read, all_behind}
use Rattle.script_text.proofs.argument.hex_in.Goals as goal

pub loop-rest-preserved : goal.loop-rest-preserved
loop-rest-preserved c =
    let e : c.push.new.self.items ≡ c.loop-rest.found.items ++ c.in-Some.byte ∷ []
    = c.in_ok-push-in-Some.ensures.items in
    let read = byte_read c.loop-rest.found.items c.loop-rest.rest.now c.in-Some.byte
    c.in-len2-up.len_at_least c.in-Some.ensures in
    rw (e, all_behind 2 c.loop-rest.rest.now) (read ∙ c.loop-rest.invariant)
