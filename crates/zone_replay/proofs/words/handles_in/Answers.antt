use Rattle.zone_replay.proofs.Cited.{◌∙◌, ◌++◌, ◌+◌, Bool, List, [], ◌∷◌, ap, arith, drop, map, sym, append_assoc, append-nil, drop_all}
use Rattle.zone_replay.proofs.Cited.{drop_more, Anchor, stands_for_handle}
use Rattle.heap_calls.specs.Inner.Numbered.{name_of}
use Rattle.zone_replay.proofs.words.handles_in.Goals as goal

pub loop-anchor-preserved : goal.loop-anchor-preserved
loop-anchor-preserved c = λ slots.
    let i = c.loop-anchor.anchor-index in
    let anchors = c.args.anchors.now in
    let told : List Anchor → List Bool = λ (xs : List Anchor). map stands_for_handle (map (name_of slots) xs) in
    let before = c.loop-anchor.handles.items in
    ap (λ (xs : List Bool). xs ++ told (drop (i + 1) anchors)) c.in_ok-push.ensures.items
    ∙ append_assoc before (c.is_handle.result ∷ []) (told (drop (i + 1) anchors))
    ∙ ap (λ (b : Bool). before ++ (b ∷ told (drop (i + 1) anchors))) (c.is_handle.ensures slots)
    ∙ ap (λ (xs : List Anchor). before ++ told xs) (sym (drop_more anchors i _ (omega arith)))
    ∙ c.loop-anchor.invariant slots

pub returns : goal.returns
returns c = λ slots.
    let before = c.loop-anchor.handles.items in
    sym (append-nil before)
    ∙ ap (λ (xs : List Anchor). before ++ map stands_for_handle (map (name_of slots) xs))
    (sym (drop_all c.loop-anchor.anchor-index c.args.anchors.now (omega arith)))
    ∙ c.loop-anchor.invariant slots
