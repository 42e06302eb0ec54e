use Rattle.std.proofs.Common.{◌≡◌, ◌+◌, length}
use Rattle.std.specs.Iterator.Adapters.{enumerate_source, enumerate_count}
use Rattle.output.proofs.Output.{Left}
use Rattle.aspath_routes.specs.Joined.{numbers_left}
use Rattle.aspath_routes.proofs.Numbers.write.Given as goal

abbrev pub invariant-loop-place : goal.invariant-loop-place
invariant-loop-place l =
    let left = numbers_left (enumerate_source l.place-iterator) in
    let place = enumerate_count l.place-iterator in
    (place + length left ≡ length (numbers_left l.self)) × Left (numbers_left l.self) l.initial.out 0 left l.out place
