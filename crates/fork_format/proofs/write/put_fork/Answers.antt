use Rattle.fork_format.proofs.Cited.{rules, ◌≡◌, ◌∙◌, ◌++◌, ap, map, List, ℕ, list_all, header, data_of, map_of, Content, are_short}
use Rattle.fork_format.proofs.Cited.{view_group, view}
use Rattle.fork_format.specs.declared.content.Group.{Group as StoredGroup}
use Rattle.fork_format.proofs.Extending.{fits-short}
use Rattle.fork_format.proofs.Putting.{put-two}
use Rattle.fork_format.proofs.Sized.{are_groups}
use Rattle.fork_format.proofs.write.put_fork.Goals as goal

pub put_all_data-requires : goal.put_all_data-requires
put_all_data-requires c = ap (λ (l : List StoredGroup). list_all are_short (map view_group l))
    c.as_slice.ensures.value ∙ fits-short (view c.args.content.now) c.requires.fits

pub returns-clause-content : goal.returns-clause-content
returns-clause-content c = record {
  area = search rules;
  attrs = c.in_ok-put_map.ensures.attrs;
  groups =
      are_groups (view c.args.content.now).groups c.in_ok-put_map.ensures.kinds c.in_ok-put_map.ensures.sized;
}

pub returns-clause-fork : goal.returns-clause-fork
returns-clause-fork c =
    let v : Content = view c.args.content.now in
    let out : List ℕ = c.args.out.now.items in
    let one : List ℕ = c.put_header.new.out.items in
    let two : List ℕ = c.extend_from_slice.new.self.items in
    let three : List ℕ = c.put_all_data.new.out.items in
    let four : List ℕ = c.put_map.new.out.items in
    let h : List ℕ = header v.groups in
    let d : List ℕ = data_of v.groups in
    let m : List ℕ = map_of v.attrs v.groups in
    let s1 : one ≡ out ++ h = c.in_ok-put_header.ensures in
    let s2 : two ≡ one ++ v.area = c.in_ok-extend_from_slice.ensures.items in
    let s3 : three ≡ two ++ d = c.in_ok-put_all_data.ensures
    ∙ ap (λ (l : List StoredGroup). two ++ data_of (map view_group l)) c.as_slice.ensures.value in
    let s4 : four ≡ three ++ m = c.in_ok-put_map.ensures.map in
    put-two out three four (h ++ v.area ++ d) m (put-two out two three (h ++ v.area) d
    (put-two out one two h v.area s1 s2) s3) s4
