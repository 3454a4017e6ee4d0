use Rattle.fork_format.proofs.Cited.{◌≡◌, ◌∙◌, ◌+◌, ◌++◌, ◌∷◌, sym, ap, map, drop, length, List, true, is_some, Ref, datum, name, reference}
use Rattle.fork_format.proofs.Cited.{references, is_low, behind, Starts, view_ref}
use Rattle.fork_format.proofs.Putting.{put-next, behind-first, behind-next}
use Rattle.fork_format.proofs.Rest.{rest-map}
use Rattle.fork_format.proofs.Sized.{refs-next}
use Rattle.fork_format.proofs.write.put_references.Goals as goal

pub loop-r-preserved : goal.loop-r-preserved
loop-r-preserved c =
    let s : Starts = c.loop-r.next in
    let r : Ref = view_ref c.r-item.result in
    let rest : List Ref = map view_ref (drop (c.loop-r.r-index + 1) c.args.refs.now) in
    let left : map view_ref (drop c.loop-r.r-index c.args.refs.now) ≡ r ∷ rest =
    rest-map view_ref c.args.refs.now c.loop-r.r-index c.r-item.result c.loop-r-test.true c.r-item.is in
    let all : behind s (r ∷ rest) ≡ behind c.args.starts (map view_ref c.args.refs.now) =
    ap (behind s) (sym left) ∙ c.loop-r.invariant.behind in
    let low : is_low s r ≡ true = behind-first s r rest (ap is_some all ∙ c.requires) in
    record {
      sized = refs-next _ rest r _ left c.in_ok-put_reference.ensures.sized c.loop-r.invariant.sized;
      behind = ap (λ t. behind t rest) c.starts_after-next.ensures.next ∙ sym (behind-next s r rest low) ∙ all;
      out = ap (λ (t : Starts). c.put_reference.new.out.items ++ references t.datum t.name rest)
          c.starts_after-next.ensures.next
          ∙ put-next c.loop-r.out.items c.put_reference.new.out.items (reference s.datum s.name r)
          (references (s.datum + length (datum r)) (s.name + length (name r)) rest) _
          c.in_ok-put_reference.ensures.reference
          (ap (λ l. c.loop-r.out.items ++ references s.datum s.name l) (sym left) ∙ c.loop-r.invariant.out);
    }
