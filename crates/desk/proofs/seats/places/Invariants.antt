use Rattle.desk.proofs.Cited.{◌≡◌, ◌≤◌, map, take, length, None, view, place_given, seen, lots}
use Rattle.std.proofs.Common.{vec_len, vec_capacity}
use Rattle.desk.proofs.seats.places.Given as goal

abbrev pub invariant-loop-app : goal.invariant-loop-app
invariant-loop-app g l = record {
  seen : seen l.seats.items ≡ map (place_given (view l.system)) (take l.app-index l.apps);
  lots : lots l.seats.items ≡ map (λ app. None) (take l.app-index l.apps);
  len : vec_len l.seats ≡ l.app-index;
  room : length l.apps ≤ vec_capacity l.seats;
}
