use Rattle.std.proofs.Common.{◌≡◌, ◌+◌, ◌∷◌, length, arith, ◌∙◌, length-append}
use Rattle.std.proofs.Math.ListN.{length-set}
use Rattle.std.proofs.lemmas.List.Sorted.{length_permutation}
use Rattle.lc_rated.proofs.nodes.Nodes.add.Goals as goal

pub invariant_of-self : goal.invariant_of-self
invariant_of-self g c =
    let slots : length c.push.new.items.items ≡ length c.self.inside.slots.items + 1 = rw c.push.ensures.items (simp length-append) in
    let more : length c.put.new.self.entries ≡ length c.self.inside.heap.entries + 1 = omega (arith, length_permutation (c.entry.result ∷ c.self.inside.heap.entries) c.put.new.self.entries c.put.ensures.entries) in (
      length-set c.self.inside.places.items c.place.result c.len.result ∙ c.self.invariant.0,
      omega (arith, slots, more, c.self.invariant.1),
      c.put.ensures.room ∙ c.self.invariant.2,
      omega (arith, c.push.ensures.room, c.self.invariant.3),
    )
