use Rattle.bin_hex.proofs.Cited.{◌∙◌, packed_in}
use Rattle.bin_hex.proofs.Taking.{blank, six_more}
use Rattle.bin_hex.proofs.text.packed_of.Goals.{in-Blank, in-Sextet+in_ok-held-in-Sextet}
use Rattle.bin_hex.proofs.text.packed_of.Goals as goal

pub loop-at-preserved : goal.loop-at-preserved
loop-at-preserved c =
    elim c.match-judged.branch [
      | in-Blank w ↦ record {
        whole = rw (w.packed-is, w.held-is)
            (blank c.loop-at.packed.items c.loop-at.held c.args.start c.loop-at.at c.args.encoded.now
            (packed_in c.args.start c.args.encoded.now) c.loop-at-test.true w.in-Blank.ensures.role
            c.loop-at.invariant.whole);
        held = rw w.held-is c.loop-at.invariant.held;
      }
      | in-Sextet+in_ok-held-in-Sextet w ↦ record {
        whole = six_more c.loop-at.packed.items c.match-judged.packed.items c.loop-at.held c.match-judged.held
            w.in-Sextet.sextet c.args.start c.loop-at.at c.args.encoded.now
            (packed_in c.args.start c.args.encoded.now) c.loop-at-test.true w.in-Sextet.ensures.role
            (rw w.packed-is w.in_ok-held-in-Sextet.ensures.bytes)
            (w.held-is ∙ w.in_ok-held-in-Sextet.ensures.held) c.loop-at.invariant.whole;
        held = rw w.held-is w.in_ok-held-in-Sextet.ensures.whole;
      }
    ]
