use Rattle.std.proofs.Common.{◌<◌, arith}
use Rattle.std.proofs.lemmas.List.{take_rest}
use Rattle.ipv4.proofs.Ipv4.{value_small, next, room, room_for, octets_grow, inside}
use Rattle.ipv4.proofs.read_ipv4.Goals as goal

pub overflow_mul-a : goal.overflow_mul-a
overflow_mul-a c = room c.loop-k.a c.loop-k._k c.loop-k.invariant.1 (omega arith)

pub overflow_add-a : goal.overflow_add-a
overflow_add-a c =
    room_for c.loop-k.a c.loop-k._k c.loop-k.invariant.1 (omega arith) c.in_ok-v.v
    (value_small _ _ _ _ c.loop-k.invariant.2 _ c.octet.ensures _ _ c.in_ok-v.was)

pub overflow_add-n : goal.overflow_add-n
overflow_add-n c = record { fits = omega (arith, inside _ _ _ _ c.loop-k.invariant.2 _ c.octet.ensures _ _ c.in_ok-v.was, c.loop-k.invariant.0) }

pub loop-k-preserved : goal.loop-k-preserved
loop-k-preserved c =
    let small : c.in_ok-v.v < 256 = value_small _ _ _ _ c.loop-k.invariant.2 _ c.octet.ensures _ _ c.in_ok-v.was in
    let tail = (c.in_ok-rest.ensures {u = tt}).lookup.0 in (
      omega (arith, tail.3, c.loop-k.invariant.0),
      octets_grow c.loop-k.a c.loop-k._k c.loop-k.invariant.1 (omega arith) c.in_ok-v.v small,
      rw (tail.2, take_rest) (next _ _ _ _ c.loop-k.invariant.2 _ c.octet.ensures _ _ c.in_ok-v.was (omega (arith, tail.0))),
    )
