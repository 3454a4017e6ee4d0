use Rattle.bin_hex.proofs.Cited.{sym, ◌∙◌, rest_of}
use Rattle.bin_hex.proofs.Pieces.{one_more}
use Rattle.bin_hex.proofs.runs.Runs.piece.Goals as goal

pub loop-preserved : goal.loop-preserved
loop-preserved c =
    let more = one_more c.loop.bytes.items (rest_of c.args.self.now) (rest_of c.next.new.self) c.loop.counter
    c.in-Some.byte c.loop.invariant.got (sym c.in-Some.ensures.some ∙ c.loop.invariant.rest) in
    record {
      got = c.in_ok-push-in-Some.ensures.items ∙ more.got;
      rest = more.rest_is;
      there = more.there;
    }
