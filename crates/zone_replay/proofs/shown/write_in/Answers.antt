use Rattle.zone_replay.proofs.Cited.{content_in}
use Rattle.zone_replay.proofs.Forms.{columns-shown, tabs-shown}
use Rattle.zone_replay.proofs.shown.write_in.Goals as goal

pub returns-in_ok-write_zone-in-Columns : goal.returns-in_ok-write_zone-in-Columns
returns-in_ok-write_zone-in-Columns g c = columns-shown c.args.form c.in-Columns.details c.args.names.now
    (λ n. content_in c.args.heap.now.memory n) c.as_slice-lines.result.now c.args.seen.now.lines.items
    c.widest.result c.in_ok-listing-in-Columns.listing c.args.seen.now.largest c.args.behind.now c.args.text.now.items
    c.write_zone.new.text.items c.in-Columns.is c.as_slice-lines.ensures.value c.widest.ensures
    c.in_ok-listing-in-Columns.ensures
    c.in_ok-write_zone-in-Columns.ensures

pub returns-in_ok-write_zone-in-Tabs : goal.returns-in_ok-write_zone-in-Tabs
returns-in_ok-write_zone-in-Tabs g c = tabs-shown c.args.form c.in-Tabs.details c.args.names.now
    (λ n. content_in c.args.heap.now.memory n) c.as_slice-lines.result.now c.args.seen.now.lines.items
    c.in_ok-listing-in-Tabs.listing c.args.seen.now.largest c.args.behind.now c.args.text.now.items
    c.write_zone-in-Tabs.new.text.items c.in-Tabs.is c.as_slice-lines.ensures.value c.in_ok-listing-in-Tabs.ensures
    c.in_ok-write_zone-in-Tabs.ensures
