use Rattle.partitions.proofs.Cited.{arith}
use Rattle.partitions.proofs.Order.{order_given_back, zones_given_back}
use Rattle.partitions.proofs.grants.Grants.give_back.Goals as goal

pub invariant_of-self-inside : goal.invariant_of-self-inside
invariant_of-self-inside c =
    let w = c.args.window in
    let g = c.self.inside in
    let new = c.take_window.new.windows.items in
    let is = c.take_window.ensures.items in
    let room = g.room in
    let same = c.take_window.ensures.capacity in (
      g.multiple,
      (
        omega (arith, room, same),
        (
          order_given_back w g.memory g.windows.items new is g.order,
          (zones_given_back w g.memory g.windows.items new is g.zones, tt),
        ),
      ),
    )
