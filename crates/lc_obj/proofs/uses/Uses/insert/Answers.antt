use Rattle.std.proofs.Common.{ℕ, not, List, Bor, sym, ap, ◌∙◌}
use Rattle.std.specs.Prelude.{map}
use Rattle.std.specs.List.{list_any, position_or_len}
use Rattle.std.specs.Str.{bytes_eq}
use Rattle.indexmap.specs.IndexSet.{insert_key}
use Rattle.lc_obj.proofs.UseLemmas.{any_seen, place_seen, inserted_seen, place_of_inserted}
use Rattle.lc_obj.proofs.uses.Uses.insert.Goals as goal

abbrev bytes_of : Bor (List ℕ) → List ℕ
bytes_of name = name.now

pub returns-clause-uses : goal.returns-clause-uses
returns-clause-uses c =
    ap (λ (ks : List (Bor (List ℕ))). map bytes_of ks) c.in_ok-added.ensures.keys ∙ inserted_seen bytes_of c.args.name c.self.inside.set.keys ∙ ap (λ (ns : List (List ℕ)). insert_key bytes_eq ns c.args.name.now) c.self.view_is

pub returns-clause-place : goal.returns-clause-place
returns-clause-place c =
    c.in_ok-added.ensures.index ∙ place_seen bytes_of c.args.name.now c.self.inside.set.keys ∙ ap (λ (ns : List (List ℕ)). position_or_len (bytes_eq c.args.name.now) ns) c.self.view_is ∙ sym (place_of_inserted c.args.self.now c.args.name.now)
    ∙ ap (λ (ns : List (List ℕ)). position_or_len (bytes_eq c.args.name.now) ns) (sym (returns-clause-uses c))

pub returns-clause-is_new : goal.returns-clause-is_new
returns-clause-is_new c =
    c.in_ok-added.ensures.added ∙ ap not (any_seen bytes_of c.args.name.now c.self.inside.set.keys ∙ ap (λ (ns : List (List ℕ)). list_any (bytes_eq c.args.name.now) ns) c.self.view_is)
