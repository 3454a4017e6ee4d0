use Rattle.fork_format.proofs.Cited.{◌≡◌, ◌∙◌, ◌+◌, ◌++◌, ◌∷◌, sym, ap, subst, map, drop, length, List, Some, is_some, flat_map, Ref, Group}
use Rattle.fork_format.proofs.Cited.{refs_of, AreRefs, datum, name, references, behind, no_starts, Starts, view_ref, view_group}
use Rattle.fork_format.specs.declared.content.Ref.{Ref as StoredRef}
use Rattle.fork_format.proofs.Groups.{references-two}
use Rattle.fork_format.proofs.Extending.{behind-front, behind-goes_on, behind-sums}
use Rattle.fork_format.proofs.Putting.{put-next}
use Rattle.fork_format.proofs.Rest.{rest-map}
use Rattle.fork_format.proofs.Sized.{groups-next}
use Rattle.fork_format.proofs.write.put_all_references.Goals.{After-as_slice}
use Rattle.fork_format.proofs.write.put_all_references.Goals as goal

-- the groups that are left, by the first of them
left : (c : After-as_slice) → map view_group (drop c.loop-group.group-index c.args.groups.now)
    ≡ view_group c.group-item.result ∷ map view_group (drop (c.loop-group.group-index + 1) c.args.groups.now)
left c = rest-map view_group c.args.groups.now c.loop-group.group-index c.group-item.result c.loop-group-test.true
    c.group-item.is

all : (c : After-as_slice)
    → behind c.loop-group.starts (map view_ref c.group-item.result.refs.items
    ++ refs_of (map view_group (drop (c.loop-group.group-index + 1) c.args.groups.now)))
    ≡ behind no_starts (refs_of (map view_group c.args.groups.now))
all c = ap (λ l. behind c.loop-group.starts (refs_of l)) (sym (left c)) ∙ c.loop-group.invariant.behind

pub put_references-requires : goal.put_references-requires
put_references-requires c =
    let s : Starts = c.loop-group.starts in
    ap (λ (l : List StoredRef). is_some (behind s (map view_ref l))) c.as_slice.ensures.value
    ∙ behind-front s (map view_ref c.group-item.result.refs.items) _
    (ap is_some (all (goal.at.put_references-requires c).After-as_slice) ∙ c.requires)

pub loop-group-preserved : goal.loop-group-preserved
loop-group-preserved c =
    let at = (goal.at.loop-group-preserved c).After-as_slice in
    let s : Starts = c.loop-group.starts in
    let t : Starts = c.in_ok-starts.starts in
    let xs : List Ref = map view_ref c.group-item.result.refs.items in
    let ys : List Group = map view_group (drop (c.loop-group.group-index + 1) c.args.groups.now) in
    let some : behind s xs ≡ Some t = ap (λ (l : List StoredRef). behind s (map view_ref l))
    (sym c.as_slice.ensures.value) ∙ sym c.in_ok-starts.ensures.behind in
    let sums : (t.datum ≡ s.datum + length (flat_map datum xs)) × (t.name ≡ s.name + length (flat_map name xs)) =
    behind-sums s t xs some in
    let put : c.put_references.new.out.items ≡ c.loop-group.out.items ++ references s.datum s.name xs =
    c.in_ok-starts.ensures.references ∙ ap (λ (l : List StoredRef). c.loop-group.out.items
    ++ references s.datum s.name (map view_ref l)) c.as_slice.ensures.value in
    record {
      sized = groups-next _ ys (view_group c.group-item.result) _ (left at)
          (subst (λ (l : List StoredRef). AreRefs (map view_ref l)) c.as_slice.ensures.value
          c.in_ok-starts.ensures.sized) c.loop-group.invariant.sized;
      behind = sym (behind-goes_on s t xs (refs_of ys) some) ∙ all at;
      out = ap (λ n. c.put_references.new.out.items ++ references n t.name (refs_of ys)) sums.0
          ∙ ap (λ n. c.put_references.new.out.items ++ references (s.datum + length (flat_map datum xs)) n (refs_of ys))
          sums.1
          ∙ put-next c.loop-group.out.items c.put_references.new.out.items (references s.datum s.name xs)
          (references (s.datum + length (flat_map datum xs)) (s.name + length (flat_map name xs)) (refs_of ys)) _ put
          (ap (λ l. c.loop-group.out.items ++ l) (sym (references-two s.datum s.name xs (refs_of ys)))
          ∙ ap (λ l. c.loop-group.out.items ++ references s.datum s.name (refs_of l)) (sym (left at))
          ∙ c.loop-group.invariant.out);
    }
