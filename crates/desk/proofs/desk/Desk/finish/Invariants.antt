use Rattle.desk.proofs.Cited.{◌≡◌, ℕ, ◌+◌, ◌≤◌, ◌++◌, map, Window, IsOutsideAll, Site, told, AreHoused, seen, lots, told_seen}
use Rattle.std.proofs.Common.{vec_len, vec_capacity}
use Rattle.desk.proofs.Lying.{LeftSo}
use Rattle.desk.proofs.desk.Desk.finish.Given as goal

abbrev pub invariant-places : goal.invariant-places
invariant-places g l = record {
  apps : map told_seen l.outcome.items ++ map told (seen l.seats.items) ≡ map told (seen l.initial.seats.items);
  memory : g.Z.ZoneMaker.memory l.zones ≡ g.Z.ZoneMaker.memory l.initial.zones;
  room : vec_len l.outcome + vec_len l.seats ≤ vec_capacity l.outcome;
  housed : AreHoused (g.Z.ZoneMaker.made l.zones) (g.Z.ZoneMaker.windows l.zones) l.grants.windows
      (seen l.seats.items) (lots l.seats.items);
  left : LeftSo (g.Z.ZoneMaker.left l.zones) l.grants.windows (seen l.seats.items) (seen l.initial.seats.items);
  kept : (w : Window) (site : Site) → g.Z.ZoneMaker.made l.initial.zones w site → g.Z.ZoneMaker.made l.zones w site;
  outside : (place : ℕ) → IsOutsideAll place l.initial.grants.windows
      → IsOutsideAll place l.grants.windows × (g.Z.ZoneMaker.byte l.zones place ≡ g.Z.ZoneMaker.byte l.initial.zones place);
}

abbrev pub decreases-places : goal.decreases-places
decreases-places g l = vec_len l.seats
