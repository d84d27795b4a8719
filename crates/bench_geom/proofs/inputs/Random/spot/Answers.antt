use Rattle.bench_geom.proofs.inputs.Random.spot.Goals as goal

pub invariant_of-result : goal.invariant_of-result
invariant_of-result c = record {
  place = c.difference.ensures.within 50_000 16 c.place-middle.ensures c.scaled.ensures.within;
  valid = c.around-own.ensures;
}
