use Rattle.partitions.proofs.Cited.{subst, arith, IsApart}
use Rattle.partitions.proofs.Order.{order_granted, zones_granted}
use Rattle.partitions.proofs.grants.Grants.grant.Goals as goal

pub invariant_of-self-inside : goal.invariant_of-self-inside
invariant_of-self-inside c =
    let w = c.in-Some.window in
    let g = c.self.inside in
    let new = c.put_window.new.windows.items in
    let is = c.put_window.ensures.items in
    let room = g.room in
    let same = c.put_window.ensures.capacity in
    let apart = subst (IsApart w.at w.len) c.deref.ensures.value c.in-Some.ensures.apart in (
      g.multiple,
      (
        omega (arith, room, same),
        (
          order_granted w g.memory g.windows.items new is c.in-Some.ensures.inside apart g.order,
          (zones_granted w g.memory g.windows.items new is c.in-Some.ensures.zone g.zones, tt),
        ),
      ),
    )
