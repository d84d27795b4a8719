-- The order of the code, as the definitions have it.
use Rattle.lc_map.specs.declared.words.Order.{Order as Read}
use Rattle.lc_map.specs.Words.{Order}

abbrev pub meant : Read → Order
meant order = record { source = order.source.now; picture = order.picture.now; kind = order.kind }
