-- The first hit of a ray, row after row and box after box.
use Rattle.std.proofs.Common.{◌≡◌, ℕ, ◌+◌, ◌-◌, ◌^◌, ◌<◌, ◌≤◌, ◌≢◌, ⊎_elim, Bool, true, false, List, length, arith, refl, ap, sym, ◌∙◌, subst}
use Rattle.std.specs.Prelude.{Option, Some, None, slice_get, if◌then◌else◌, IfSome, IsSome, MatchOption}
use Rattle.std.proofs.lemmas.Bool.{cases_lt}
use Rattle.std.proofs.lemmas.Bool.Decides.{nat_tests}
use Rattle.std.proofs.lemmas.Option.{same_Some, none-some}
use Rattle.lc_num.specs.declared.vectors.Vec3.{Vec3}
use Rattle.lc_geom.specs.declared.triangle.Tri.{Tri}
use Rattle.lc_geom.specs.declared.hit.Hit.{Hit}
use Rattle.lc_geom.specs.Hits.{depth, moved, is_before, earlier}
use Rattle.lc_geom.proofs.Nearest.{before_both, before_itself, before_turned}
use Rattle.lc_geom.proofs.Depths.{depth_below, depth_crosses, depth_misses}
use Rattle.lc_hier.specs.declared.node.Node.{Node}
use Rattle.lc_hier.specs.declared.node.Row.{Row}
use Rattle.lc_hier.specs.Boxes.{Holds}
use Rattle.lc_hier.specs.Passed.{IsPassed}
use Rattle.lc_hier.specs.Layout.{first_row, IsNode, IsHierarchy}
use Rattle.lc_hier.specs.Seen.{IsHitOn, ComesFirst, IsFirstAmong}
use Rattle.lc_hier.proofs.Layouts.{first_at, first_most}
use Rattle.lc_hier.proofs.Walks.{never_crossed}

less_before : (a b : Hit) → a.depth < b.depth → is_before a b ≡ true
less_before a b h = grind (arith, nat_tests)

abbrev pub hit_on : ℕ → Row → Hit
hit_on n row = record { depth = n; number = row.number }

module _ (e d : Vec3) (rows : List Row) where
  -- what is known of a row below a place holds of one below the next place
  next_row : (best : Option Hit) (j : ℕ) (row : Row) → slice_get rows j ≡ Some row
      → MatchOption best (depth e d row.triangle ≡ None) (λ hit. (n : ℕ) → depth e d row.triangle ≡ Some n → is_before hit (hit_on n row) ≡ true)
      → ComesFirst e d rows j best → ComesFirst e d rows (j + 1) best
  next_row best j row there here before k other below at =
      ⊎_elim (λ (l : k < j). before k other l at)
      (λ (m : j ≤ k).
      let same : k ≡ j = omega (arith, m, below) in
      let rows_same : row ≡ other = same_Some row other (sym there ∙ sym (ap (slice_get rows) same) ∙ at) in
      subst (λ (r : Row). MatchOption best (depth e d r.triangle ≡ None) (λ hit. (n : ℕ) → depth e d r.triangle ≡ Some n → is_before hit (hit_on n r) ≡ true)) rows_same here)
      (cases_lt k j)

  pub row_missed : (best : Option Hit) (j : ℕ) (row : Row) → slice_get rows j ≡ Some row → depth e d row.triangle ≡ None → IsFirstAmong e d rows j best → IsFirstAmong e d rows (j + 1) best
  row_missed None j row there none is = record { hit = tt; first = next_row None j row there none is.first }
  row_missed (Some best) j row there none is =
      record { hit = is.hit; first = next_row (Some best) j row there (λ n some. absurd (none-some n (sym none ∙ some))) is.first }

  -- a hit that comes before the best so far comes before all that this one came before
  better : (hit best : Hit) (j : ℕ) → is_before hit best ≡ true → ComesFirst e d rows j (Some best) → ComesFirst e d rows j (Some hit)
  better hit best j less before k row below at n some = before_both hit best (hit_on n row) less (before k row below at n some)

  is_hit_of : (j : ℕ) (row : Row) (n : ℕ) → depth e d row.triangle ≡ Some n → (best : Hit) → is_before best (hit_on n row) ≡ true → (m : ℕ) → depth e d row.triangle ≡ Some m → is_before best (hit_on m row) ≡ true
  is_hit_of j row n at best before m some =
      subst (λ k. is_before best (hit_on k row) ≡ true) (same_Some n m (sym at ∙ some)) before

  pub row_hit : (best : Option Hit) (j : ℕ) (row : Row) (n : ℕ) → slice_get rows j ≡ Some row → depth e d row.triangle ≡ Some n → IsFirstAmong e d rows j best → IsFirstAmong e d rows (j + 1) (Some (earlier (hit_on n row) best))
  row_hit None j row n there at is = record {
    hit = (j, row, there, refl, at);
    first =
        next_row (Some (hit_on n row)) j row there (is_hit_of j row n at (hit_on n row) (before_itself (hit_on n row)))
        (λ k other below here m some. absurd (none-some m (sym (is.first k other below here) ∙ some)));
  }
  row_hit (Some best) j row n there at is = one (is_before (hit_on n row) best) refl where
    one : (t : Bool) → is_before (hit_on n row) best ≡ t → IsFirstAmong e d rows (j + 1) (Some (if t then hit_on n row else best))
    one true f = record {
      hit = (j, row, there, refl, at);
      first =
          next_row (Some (hit_on n row)) j row there (is_hit_of j row n at (hit_on n row) (before_itself (hit_on n row))) (better (hit_on n row) best j f is.first);
    }
    one false f = record {
      hit = is.hit;
      first = next_row (Some best) j row there (is_hit_of j row n at best (before_turned (hit_on n row) best f)) is.first;
    }

-- ---- boxes

-- no hit is deeper than the best so far, and with none so far every depth matters
abbrev pub IsMost : Option Hit → ℕ → Type 0
IsMost None most = most ≡ 2 ^ 30 - 1
IsMost (Some best) most = most ≡ best.depth

-- with no hit so far every depth still matters
pub most_stays : (before after : Option Hit) (most : ℕ) → after ≡ None → (IsSome before → IsSome after) → IsMost before most → IsMost after most
most_stays None after most none some is = rw none is
most_stays (Some b) after most none some is = absurd (let h = rw none at (some refl) in cc)

pub hit_below : (e d : Vec3) (rows : List Row) (best : Option Hit) (hit : Hit) → best ≡ Some hit → IfSome best (IsHitOn e d rows) → hit.depth < 2 ^ 30
hit_below e d rows best hit is on = let h = rw is at on in depth_below e d h.1.triangle hit.depth h.4

-- the first hit on all rows before those of the node at this place, for a segment that ends where hits stop to matter
pub record Reached (e d : Vec3) (nodes : List Node) (rows : List Row) (at : ℕ) (best : Option Hit) (start end : Vec3) (most : ℕ) : Type 0 where
  pub within : at + 1 ≤ length nodes
  pub first : IsFirstAmong e d rows (first_row nodes (length rows) at) best
  pub start_is : start ≡ e
  pub end_is : end ≡ moved e d
  pub most_is : IsMost best most

module _ (e d : Vec3) where
  -- a row that is passed holds nothing nearer
  passed_row : (best : Option Hit) (most : ℕ) (row : Row) → IsMost best most → IsPassed e (moved e d) most row.triangle
      → MatchOption best (depth e d row.triangle ≡ None) (λ hit. (n : ℕ) → depth e d row.triangle ≡ Some n → is_before hit (hit_on n row) ≡ true)
  passed_row None most row is passed =
      depth_misses e d row.triangle (never_crossed e (moved e d) row.triangle (subst (λ k. IsPassed e (moved e d) k row.triangle) is passed))
  passed_row (Some best) most row is passed =
      λ n some. let c = depth_crosses e d row.triangle n some in less_before best (hit_on n row) (omega (arith, passed c.0, c.1, is))

  pub first_behind : (nodes : List Node) (rows : List Row) (count end i most : ℕ) (best : Option Hit) (node : Node) → IsNode nodes rows count end i node → IsMost best most → ((t : Tri) → Holds node.bounds t → IsPassed e (moved e d) most t) → IsFirstAmong e d rows node.first best → IsFirstAmong e d rows (first_row nodes end node.skip) best
  first_behind nodes rows count end i most best node is reach missed before = record {
    hit = before.hit;
    first =
        λ j row below there.
        ⊎_elim (λ (l : j < node.first). before.first j row l there)
        (λ (m : node.first ≤ j). passed_row best most row reach (missed row.triangle (is.held j row m below there)))
        (cases_lt j node.first);
  }

module _ (e d : Vec3) (nodes : List Node) (rows : List Row) (h : IsHierarchy nodes rows) where
  pub reach_starts : (start end : Vec3) (most : ℕ) → start ≡ e → end ≡ moved e d → most ≡ 2 ^ 30 - 1 → Reached e d nodes rows 0 None start end most
  reach_starts start end most s f m = record {
    within = omega (arith, h.some);
    first = record { hit = tt; first = λ j row below there. absurd (omega (arith, h.starts, below)) };
    start_is = s;
    end_is = f;
    most_is = m;
  }

  module _ (at : ℕ) (best : Option Hit) (start end : Vec3) (most : ℕ) (node : Node) (there : slice_get nodes at ≡ Some node) (within : at + 1 < length nodes) (w : Reached e d nodes rows at best start end most) where
    pub node_here : IsNode nodes rows (length nodes - 1) (length rows) at node
    node_here = h.laid at node (omega arith) (omega (arith, within)) there

    pub first_before : IsFirstAmong e d rows node.first best
    first_before = subst (λ k. IsFirstAmong e d rows k best) (first_at nodes (length rows) at node there) w.first

    pub reach_skips : ((t : Tri) → Holds node.bounds t → IsPassed start end most t) → Reached e d nodes rows node.skip best start end most
    reach_skips missed = record {
      within = omega (arith, node_here.within, within);
      first =
          first_behind e d nodes rows (length nodes - 1) (length rows) at most best node node_here w.most_is
          (λ t holds. rw (w.start_is, w.end_is) at (missed t holds)) first_before;
      start_is = w.start_is;
      end_is = w.end_is;
      most_is = w.most_is;
    }

    pub reach_enters : node.skip ≢ at + 1 → Reached e d nodes rows (at + 1) best start end most
    reach_enters inner =
        let next : first_row nodes (length rows) (at + 1) ≡ node.first = ⊎_elim (λ (e : node.skip ≡ at + 1). absurd (inner e)) (λ (e : first_row nodes (length rows) (at + 1) ≡ node.first). e) node_here.next in
        record {
          within = omega (arith, within);
          first = subst (λ k. IsFirstAmong e d rows k best) (sym next) first_before;
          start_is = w.start_is;
          end_is = w.end_is;
          most_is = w.most_is;
        }

    module _ (later : Node) (after : slice_get nodes (at + 1) ≡ Some later) where
      pub reach_order : node.skip ≡ at + 1 → node.first ≤ later.first
      reach_order leaf = omega (arith, node_here.rises, ap (first_row nodes (length rows)) leaf, first_at nodes (length rows) (at + 1) later after)

      pub reach_most : later.first ≤ length rows
      reach_most = omega (arith, first_most nodes rows h (at + 1) (omega (arith, within)), first_at nodes (length rows) (at + 1) later after)

      pub reach_passes : (more : Option Hit) (start end : Vec3) (most : ℕ) → start ≡ e → end ≡ moved e d → IsMost more most → IsFirstAmong e d rows later.first more → Reached e d nodes rows (at + 1) more start end most
      reach_passes more start end most s f m first =
          let next = first_at nodes (length rows) (at + 1) later after in
          record {
            within = omega (arith, within);
            first = subst (λ k. IsFirstAmong e d rows k more) (sym next) first;
            start_is = s;
            end_is = f;
            most_is = m;
          }
