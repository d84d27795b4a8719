-- Nodes that grow: those of two parts behind a node for both.
use Rattle.std.proofs.Common.{◌≡◌, ℕ, ◌+◌, ◌-◌, ◌<◌, ◌≤◌, inl, inr, ⊎_elim, List, [], ◌∷◌, ◌++◌, length, take, slice_get, get_or, Some, ap, sym, subst, ◌∙◌, arith}
use Rattle.std.specs.Prelude.{IsPermutation, option_map, unwrap_or}
use Rattle.std.proofs.Math.ListN.{set}
use Rattle.std.proofs.lemmas.Bool.{cases_lt}
use Rattle.std.proofs.lemmas.List.{length-append, length-set, take_at, take-set-le, take-take}
use Rattle.std.proofs.lemmas.Option.{get_or_from_slice_get, slice_get-get_or, slice_get_past, slice_get_within, same_Some}
use Rattle.std.proofs.lemmas.List.Sorted.{IsPermutation-append, IsPermutation-trans}
use Rattle.lc_geom.specs.declared.triangle.Tri.{Tri}
use Rattle.lc_hier.specs.declared.bounds.Bounds.{Bounds}
use Rattle.lc_hier.specs.declared.item.Item.{Item}
use Rattle.lc_hier.specs.declared.node.Node.{Node}
use Rattle.lc_hier.specs.declared.node.Row.{Row}
use Rattle.lc_hier.specs.Boxes.{Holds}
use Rattle.lc_hier.specs.Layout.{first_row, IsNode, AreNodes, IsHierarchy}
use Rattle.lc_hier.specs.Grown.{AreHeld, AreRows, Grown}
use Rattle.lc_hier.proofs.Layouts.{first_at}
use Rattle.lc_hier.proofs.Places.{get_set_other, get_set_same, get_take, get_front, get_back}

-- what a box holds, another holds
abbrev pub IsWithin : Bounds → Bounds → Type 0
IsWithin a b = (t : Tri) → Holds a t → Holds b t

first_behind : (nodes : List Node) (end i : ℕ) → length nodes ≤ i → first_row nodes end i ≡ end
first_behind nodes end i past = ap (λ o. unwrap_or (option_map (λ node. node.first) o) end) (slice_get_past nodes i past)

first_same : (olds news : List Node) (end i : ℕ) → slice_get olds i ≡ slice_get news i → first_row olds end i ≡ first_row news end i
first_same olds news end i e = ap (λ o. unwrap_or (option_map (λ node. node.first) o) end) e

-- in front of a list's end it does not matter which row stands behind it
first_within : (nodes : List Node) (d : Node) (end other i : ℕ) → i < length nodes → first_row nodes end i ≡ first_row nodes other i
first_within nodes d end other i below =
    first_at nodes end i (get_or nodes i d) (slice_get-get_or nodes i d below)
    ∙ sym (first_at nodes other i (get_or nodes i d) (slice_get-get_or nodes i d below))

-- a node stays one where the nodes behind it have the same first rows
kept_node : (olds news : List Node) (rows : List Row) (m n end last i : ℕ) (node : Node) → m ≤ n → i < m → ((k : ℕ) → i < k → k ≤ m → first_row news last k ≡ first_row olds end k) → IsNode olds rows m end i node → IsNode news rows n last i node
kept_node olds news rows m n end last i node more below same h =
    let here : first_row news last node.skip ≡ first_row olds end node.skip = same node.skip h.onward h.within in
    let next : first_row news last (i + 1) ≡ first_row olds end (i + 1) = same (i + 1) (omega arith) (omega arith) in
    record {
      onward = h.onward;
      within = omega (arith, h.within);
      rises = omega (arith, here, h.rises);
      next = ⊎_elim (λ e. inl e) (λ e. inr (next ∙ e)) h.next;
      held = λ j row from upto at. h.held j row from (omega (arith, here, upto)) at;
    }

held_all : (items : List Item) (rows : List Row) (start : ℕ) (bounds : Bounds) → ((k : ℕ) (item : Item) → slice_get items k ≡ Some item → IsWithin item.bounds bounds) → AreHeld items rows start → (j : ℕ) (row : Row) → start ≤ j → j < start + length items → slice_get rows j ≡ Some row → Holds bounds row.triangle
held_all items rows start bounds each h j row from upto at =
    let d : Item = record { bounds = bounds; number = 0 } in
    let k : ℕ = j - start in
    let is : start + (j - start) ≡ j = omega arith in
    let below : j - start < length items = omega arith in
    let item = get_or items (j - start) d in
    let got : slice_get items (j - start) ≡ Some (get_or items (j - start) d) = slice_get-get_or items (j - start) d below in
    each (j - start) item got row.triangle (h.at (j - start) item row got (ap (slice_get rows) is ∙ at))

-- one node for all rows of some items
pub grown_leaf : (old new : List Node) (rows : List Row) (at skip start : ℕ) (items : List Item) (bounds : Bounds) → at ≡ length old → skip ≡ at + 1 → new ≡ old ++ (let node : Node = record { bounds = bounds; skip = skip; first = start } in node) ∷ [] → ((k : ℕ) (item : Item) → slice_get items k ≡ Some item → IsWithin item.bounds bounds) → AreHeld items rows start → Grown new rows at start (start + length items) bounds
grown_leaf old new rows at skip start items bounds here after pushed each h =
    let leaf : Node = record { bounds = bounds; skip = skip; first = start } in
    let long : length new ≡ at + 1 = omega (arith, ap length pushed, length-append old (leaf ∷ []), here) in
    let got : slice_get new at ≡ Some leaf =
    ap (slice_get new) (let e : at ≡ length old + 0 = omega arith in e) ∙ ap (λ ns. slice_get ns (length old + 0)) pushed ∙ get_back old (leaf ∷ []) 0 in
    let behind : first_row new (start + length items) skip ≡ start + length items = first_behind new (start + length items) skip (omega (arith, long, after)) in
    let held = held_all items rows start bounds each h in
    let is_node : IsNode new rows (length new) (start + length items) at leaf = record {
      onward = omega (arith, after);
      within = omega (arith, long, after);
      rises = omega (arith, behind);
      next = inl after;
      held = λ j row from upto in_rows. held j row from (omega (arith, behind, upto)) in_rows;
    } in
    record {
      laid = λ i node from below is.
          let same : at ≡ i = omega (arith, long, from, below) in
          let e : leaf ≡ node = same_Some leaf node (sym got ∙ ap (slice_get new) same ∙ is) in
          subst (λ i. IsNode new rows (length new) (start + length items) i node) same (subst (λ node. IsNode new rows (length new) (start + length items) at node) e is_node);
      held = held;
    }

-- the nodes of two parts, behind a node that is to be for both: `first` when those of the first part stand, `both` when all do
pub record Parts (first both : List Node) (at start mid end : ℕ) : Type 0 where
  pub some : at + 1 < length first
  pub more : length first < length both
  pub kept : take (length first) both ≡ first
  pub starts_first : first_row first mid (at + 1) ≡ start
  pub starts_second : first_row both end (length first) ≡ mid
  pub rises_first : start ≤ mid
  pub rises_second : mid ≤ end

module _ (first both : List Node) (at start mid end : ℕ) (p : Parts first both at start mid end) (node : Node) where
  as_second : (k : ℕ) → at < k → slice_get (set both at node) k ≡ slice_get both k
  as_second k after = get_set_other both at k node (λ e. omega arith)

  as_first : (k : ℕ) → at < k → k < length first → slice_get (set both at node) k ≡ slice_get first k
  as_first k after below =
      as_second k after ∙ sym (get_take (length first) both k below) ∙ ap (λ ns. slice_get ns k) p.kept

  rows_second : (k : ℕ) → at < k → first_row (set both at node) end k ≡ first_row both end k
  rows_second k after = first_same (set both at node) both end k (as_second k after)

  rows_first : (k : ℕ) → at < k → k ≤ length first → first_row (set both at node) end k ≡ first_row first mid k
  rows_first k after upto =
      ⊎_elim
      (λ below. first_same (set both at node) first end k (as_first k after below) ∙ first_within first node end mid k below)
      (λ past.
      let e : k ≡ length first = omega (arith, past, upto) in
      rows_second k after ∙ ap (first_row both end) e ∙ p.starts_second ∙ sym (first_behind first mid k past))
      (cases_lt k (length first))

  length_whole : length (set both at node) ≡ length both
  length_whole = length-set both at node

-- a node for both parts
pub grown_fork : (first both : List Node) (rows : List Row) (at start mid end : ℕ) (a b bounds : Bounds) → Parts first both at start mid end → IsWithin a bounds → IsWithin b bounds → Grown first rows (at + 1) start mid a → Grown both rows (length first) mid end b → Grown (set both at (let node : Node = record { bounds = bounds; skip = length both; first = start } in node)) rows at start end bounds
grown_fork first both rows at start mid end a b bounds p in_a in_b ga gb =
    let node : Node = record { bounds = bounds; skip = length both; first = start } in
    let nodes : List Node = set both at (record { bounds = bounds; skip = length both; first = start }) in
    let long : length (set both at node) ≡ length both = length_whole first both at start mid end p node in
    let got : slice_get (set both at node) at ≡ Some node = get_set_same both at node (omega (arith, p.some, p.more)) in
    let held : (j : ℕ) (row : Row) → start ≤ j → j < end → slice_get rows j ≡ Some row → Holds bounds row.triangle =
    λ j row from upto is. ⊎_elim
    (λ below. in_a row.triangle (ga.held j row from below is))
    (λ past. in_b row.triangle (gb.held j row past upto is))
    (cases_lt j mid) in
    let behind : first_row (set both at node) end (length both) ≡ end = first_behind (set both at node) end (length both) (omega (arith, long)) in
    let is_root : IsNode (set both at node) rows (length (set both at node)) end at node = record {
      onward = omega (arith, p.some, p.more);
      within = omega (arith, long);
      rises = omega (arith, behind, p.rises_first, p.rises_second);
      next = inr (rows_first first both at start mid end p node (at + 1) (omega arith) (omega (arith, p.some)) ∙ p.starts_first);
      held = λ j row from upto is. held j row from (omega (arith, behind, upto)) is;
    } in
    record {
      laid = λ i n from below is.
          ⊎_elim
          (λ after.
          ⊎_elim
          (λ in_first.
          kept_node first (set both at node) rows (length first) (length (set both at node)) mid end i n (omega (arith, long, p.more)) in_first
          (λ k above upto. rows_first first both at start mid end p node k (omega arith) upto)
          (ga.laid i n (omega arith) in_first (sym (as_first first both at start mid end p node i after in_first) ∙ is)))
          (λ in_second.
          kept_node both (set both at node) rows (length both) (length (set both at node)) end end i n (omega (arith, long)) (omega (arith, long, below))
          (λ k above upto. rows_second first both at start mid end p node k (omega arith))
          (gb.laid i n in_second (omega (arith, long, below)) (sym (as_second first both at start mid end p node i after) ∙ is)))
          (cases_lt i (length first)))
          (λ before.
          let same : at ≡ i = omega (arith, from, before) in
          let e : node ≡ n = same_Some node n (sym got ∙ ap (slice_get (set both at node)) same ∙ is) in
          subst (λ i. IsNode (set both at node) rows (length (set both at node)) end i n) same (subst (λ n. IsNode (set both at node) rows (length (set both at node)) end at n) e is_root))
          (cases_lt at i);
      held = held;
    }

-- the same, as the places and lengths are counted
pub grown_parts : (first both : List Node) (rows : List Row) (at from from_a from_b skip start count left right items : ℕ) (a b bounds : Bounds) → at ≡ from → from_a ≡ at + 1 → from_b ≡ length first → skip ≡ length both → left ≡ count → left + right ≡ items → from_a < from_b → from_b < skip → take from_b both ≡ first → first_row first (start + left) from_a ≡ start → first_row both ((start + count) + right) from_b ≡ start + count → IsWithin a bounds → IsWithin b bounds → Grown first rows from_a start (start + left) a → Grown both rows from_b (start + count) ((start + count) + right) b → Grown (set both at (let node : Node = record { bounds = bounds; skip = skip; first = start } in node)) rows from start (start + items) bounds
grown_parts first both rows at from from_a from_b skip start count left right items a b bounds at_is a_is b_is skip_is left_is items_is some more kept starts_a starts_b in_a in_b ga gb =
    let mid_is : start + count ≡ start + left = omega (arith, left_is) in
    let end_is : (start + count) + right ≡ start + items = omega (arith, left_is, items_is) in
    let parts : Parts first both at start (start + left) (start + items) = record {
      some = omega (arith, a_is, b_is, some);
      more = omega (arith, b_is, skip_is, more);
      kept = ap (λ n. take n both) (sym b_is) ∙ kept;
      starts_first = ap (first_row first (start + left)) (sym a_is) ∙ starts_a;
      starts_second = ap (λ end. first_row both end (length first)) (sym end_is) ∙ ap (first_row both ((start + count) + right)) (sym b_is) ∙ starts_b ∙ mid_is;
      rises_first = omega arith;
      rises_second = omega (arith, items_is);
    } in
    let ga_at : Grown first rows (at + 1) start (start + left) a = subst (λ n. Grown first rows n start (start + left) a) a_is ga in
    let gb_from : Grown both rows (length first) (start + count) ((start + count) + right) b = subst (λ n. Grown both rows n (start + count) ((start + count) + right) b) b_is gb in
    let gb_mid : Grown both rows (length first) (start + left) ((start + count) + right) b = subst (λ n. Grown both rows (length first) n ((start + count) + right) b) mid_is gb_from in
    let gb_at : Grown both rows (length first) (start + left) (start + items) b = subst (λ n. Grown both rows (length first) (start + left) n b) end_is gb_mid in
    let whole = grown_fork first both rows at start (start + left) (start + items) a b bounds parts in_a in_b ga_at gb_at in
    subst (λ n. Grown (set both at (let node : Node = record { bounds = bounds; skip = skip; first = start } in node)) rows n start (start + items) bounds) at_is
    (subst (λ s. Grown (set both at (let node : Node = record { bounds = bounds; skip = s; first = start } in node)) rows at start (start + items) bounds) (sym skip_is) whole)

-- a leaf's box is for its first and its last item
pub each_of_leaf : (items : List Item) (d e : Item) (bounds : Bounds) → length items ≤ 2 → IsWithin (get_or items 0 d).bounds bounds → IsWithin (get_or items (length items - 1) e).bounds bounds → (k : ℕ) (item : Item) → slice_get items k ≡ Some item → IsWithin item.bounds bounds
each_of_leaf items d e bounds few in_first in_last k item is =
    ⊎_elim
    (λ zero_or_less.
    let at : k ≡ 0 = omega (arith, zero_or_less) in
    subst (λ i. IsWithin i.bounds bounds) (get_or_from_slice_get items 0 item d (ap (slice_get items) (sym at) ∙ is)) in_first)
    (λ some.
    let at : k ≡ length items - 1 = omega (arith, some, few, slice_get_within items k item is) in
    subst (λ i. IsWithin i.bounds bounds) (get_or_from_slice_get items (length items - 1) item e (ap (slice_get items) (sym at) ∙ is)) in_last)
    (cases_lt k 1)

pub moved_parts : (items divided left right new_left new_right : List Item) → IsPermutation items divided → divided ≡ left ++ right → IsPermutation left new_left → IsPermutation right new_right → IsPermutation items (new_left ++ new_right)
moved_parts items divided left right new_left new_right moved is a b =
    IsPermutation-trans items (left ++ right) (new_left ++ new_right) (subst (IsPermutation items) is moved) (IsPermutation-append left new_left right new_right a b)

-- the nodes that were there before stay
pub kept_parts : (old pushed first both : List Node) (last node : Node) (n m k at : ℕ) → n ≡ length old → n ≤ at → n ≤ m → n ≤ k → pushed ≡ old ++ last ∷ [] → take m first ≡ pushed → take k both ≡ first → take n (set both at node) ≡ old
kept_parts old pushed first both last node n m k at long behind in_pushed in_first is a b =
    take-set-le n both at node behind
    ∙ sym (take-take n k both in_first)
    ∙ ap (take n) b
    ∙ sym (take-take n m first in_pushed)
    ∙ ap (take n) (a ∙ is)
    ∙ take_at old (last ∷ []) n (sym long)

-- the rows of both parts are those of each
pub held_front : (xs ys : List Item) (rows : List Row) (start : ℕ) → AreHeld (xs ++ ys) rows start → AreHeld xs rows start
held_front xs ys rows start h = record { at = λ k item row is in_rows. h.at k item row (get_front xs ys k item is) in_rows }

pub held_back : (xs ys : List Item) (rows : List Row) (start mid : ℕ) → mid ≡ start + length xs → AreHeld (xs ++ ys) rows start → AreHeld ys rows mid
held_back xs ys rows start mid e h = record {
  at = λ k item row is in_rows.
      let on : start + (length xs + k) ≡ mid + k = omega (arith, e) in
      h.at (length xs + k) item row (get_back xs ys k ∙ is) (ap (slice_get rows) on ∙ in_rows);
}

-- the node for both parts has the first row of the first
pub root_starts : (nodes : List Node) (at from end start : ℕ) (node : Node) → at ≡ from → at < length nodes → node.first ≡ start → first_row (set nodes at node) end from ≡ start
root_starts nodes at from end start node e below is =
    ap (first_row (set nodes at node) end) (sym e) ∙ first_at (set nodes at node) end at node (get_set_same nodes at node below) ∙ is

-- nodes for all rows, in front of the node that ends them
pub record Laid (nodes : List Node) (rows : List Row) (end : ℕ) : Type 0 where
  pub nodes_are : AreNodes nodes rows (length nodes) end 0
  pub starts : first_row nodes end 0 ≡ 0

pub laid_none : (nodes : List Node) (rows : List Row) (end : ℕ) → nodes ≡ [] → end ≡ 0 → Laid nodes rows end
laid_none nodes rows end none is = record {
  nodes_are = λ i node from below at. absurd (omega (arith, ap length none));
  starts = first_behind nodes end 0 (omega (arith, ap length none)) ∙ is;
}

pub laid_same : (nodes others : List Node) (rows : List Row) (end last : ℕ) → others ≡ nodes → last ≡ end → Laid nodes rows end → Laid others rows last
laid_same nodes others rows end last e f laid = subst (λ ns. Laid ns rows last) (sym e) (subst (Laid nodes rows) (sym f) laid)

pub laid_grown : (nodes : List Node) (rows : List Row) (from start count end : ℕ) (bounds : Bounds) → from ≡ 0 → start ≡ 0 → start + count ≡ end → first_row nodes (start + count) from ≡ start → Grown nodes rows from start (start + count) bounds → Laid nodes rows end
laid_grown nodes rows from start count end bounds from_is start_is end_is starts g = record {
  nodes_are = subst (λ n. AreNodes nodes rows (length nodes) end n) from_is (subst (λ n. AreNodes nodes rows (length nodes) n from) end_is g.laid);
  starts = ap (λ n. first_row nodes n 0) (sym end_is) ∙ ap (first_row nodes (start + count)) (sym from_is) ∙ starts ∙ start_is;
}

pub ended : (items : List Item) (nodes new : List Node) (rows : List Row) (last : Node) → new ≡ nodes ++ last ∷ [] → last.first ≡ length items → length items ≤ 1_000_000 → AreRows items rows → Laid nodes rows (length items) → IsHierarchy new rows
ended items nodes new rows last pushed first_is few r laid =
    let end : ℕ = length rows in
    let many : length rows ≡ length items = r.many in
    let long : length new ≡ length nodes + 1 = omega (arith, ap length pushed, length-append nodes (last ∷ [])) in
    let kept : (k : ℕ) → k < length nodes → slice_get new k ≡ slice_get nodes k =
    λ k below. ap (λ ns. slice_get ns k) pushed ∙ get_front nodes (last ∷ []) k (get_or nodes k last) (slice_get-get_or nodes k last below) ∙ sym (slice_get-get_or nodes k last below) in
    let got : slice_get new (length nodes) ≡ Some last =
    ap (λ ns. slice_get ns (length nodes)) pushed ∙ ap (slice_get (nodes ++ last ∷ [])) (let e : length nodes ≡ length nodes + 0 = omega arith in e) ∙ get_back nodes (last ∷ []) 0 in
    let same : (k : ℕ) → k ≤ length nodes → first_row new (length rows) k ≡ first_row nodes (length items) k =
    λ k upto. ⊎_elim
    (λ below. first_same new nodes (length rows) k (kept k below) ∙ ap (λ n. first_row nodes n k) many)
    (λ past.
    let e : k ≡ length nodes = omega (arith, past, upto) in
    ap (first_row new (length rows)) e ∙ first_at new (length rows) (length nodes) last got ∙ first_is ∙ sym (first_behind nodes (length items) k past))
    (cases_lt k (length nodes)) in
    let at_end : length new - 1 ≡ length nodes = omega (arith, long) in
    record {
      some = omega (arith, long);
      starts = same 0 (omega arith) ∙ laid.starts;
      ends = λ node is. ap (λ n. n.first) (same_Some node last (sym is ∙ ap (slice_get new) at_end ∙ got)) ∙ first_is ∙ sym many;
      laid = λ i node from below is.
          let within : i < length nodes = omega (arith, long, below) in
          kept_node nodes new rows (length nodes) (length new - 1) (length items) (length rows) i node (omega (arith, long)) within (λ k after upto. same k upto)
          (laid.nodes_are i node from within (sym (kept i within) ∙ is));
      numbered = r.numbered;
      valid = r.valid;
      few = omega (arith, many, few);
    }
