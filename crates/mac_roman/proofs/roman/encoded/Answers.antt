use Rattle.mac_roman.proofs.Cited.{sym, bytes_of}
use Rattle.mac_roman.proofs.Encoding.{after_next}
use Rattle.mac_roman.proofs.roman.encoded.Goals as goal

pub loop-character-preserved : goal.loop-character-preserved
loop-character-preserved c = after_next c.args.characters.now c.loop-character.out.items c.push.new.out.items
    c.loop-character.character-index c.character-item.result c.in-Some.byte (bytes_of c.args.characters.now)
    c.loop-character-test.true c.character-item.is (sym c.in-Some.ensures) c.in_ok-push-in-Some.ensures
    c.loop-character.invariant
