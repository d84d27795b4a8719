use Rattle.std.proofs.Common.{◌≡◌, ◌+◌, ◌<◌, ◌∷◌, length, set, arith, refl, ◌∙◌, length-append}
use Rattle.std.proofs.Math.ListN.{length-set}
use Rattle.std.proofs.lemmas.List.Sorted.{length_permutation}
use Rattle.lc_rated.proofs.nodes.Nodes.replace.Goals as goal

pub put-requires : goal.put-requires
put-requires g c =
    let room : length c.self.inside.heap.entries < c.self.inside.room = rw (← c.self.view_is) at c.requires.room in
    omega (arith, room, c.self.invariant.2, length_permutation (c.entry.result ∷ c.self.inside.heap.entries) (c.exchange.result ∷ c.exchange.new.self.entries) c.exchange.ensures.entries, c.exchange.ensures.room)

pub invariant_of-self : goal.invariant_of-self
invariant_of-self g c =
    let all : length (set (set c.self.inside.places.items c.place.result c.args.slot) c.place-2.result c.len.result) ≡ length c.self.inside.places.items = simp length-set in
    let slots : length c.push.new.items.items ≡ length c.self.inside.slots.items + 1 = rw c.push.ensures.items (simp (length-append, length-set)) in
    let taken : length c.exchange.new.self.entries ≡ length c.self.inside.heap.entries = omega (arith, length_permutation (c.entry.result ∷ c.self.inside.heap.entries) (c.exchange.result ∷ c.exchange.new.self.entries) c.exchange.ensures.entries) in
    let more : length c.put.new.self.entries ≡ length c.exchange.new.self.entries + 1 = omega (arith, length_permutation (c.entry-2.result ∷ c.exchange.new.self.entries) c.put.new.self.entries c.put.ensures.entries) in
    let room : c.put.new.self.room ≡ c.self.inside.heap.room = c.put.ensures.room ∙ c.exchange.ensures.room in (
      all ∙ c.self.invariant.0,
      omega (arith, slots, taken, more, c.self.invariant.1),
      room ∙ c.self.invariant.2,
      omega (arith, c.push.ensures.room, c.self.invariant.3),
    )

pub returns : goal.returns
returns g c =
    rw (← c.self.view_is)
    record {
      first = c.exchange.result;
      others = c.exchange.new.self.entries;
      leads = c.exchange.ensures.first;
      was = c.exchange.ensures.taken;
      taken = rw c.entry.ensures at c.exchange.ensures.entries;
      entries = rw c.entry-2.ensures at c.put.ensures.entries;
      all = c.self.invariant.0;
      places = rw (c.place.ensures, c.place-2.ensures, c.len.ensures.count, c.self.invariant.1) refl;
      slots = rw (c.push.ensures.items, c.slot_for.ensures, c.slot_for-2.ensures) refl;
      est = c.moved.ensures;
      bound = c.moved-2.ensures;
      room = refl;
    }
