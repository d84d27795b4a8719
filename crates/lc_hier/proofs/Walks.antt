-- Steps of a walk through a hierarchy.
use Rattle.std.proofs.Common.{◌≡◌, ℕ, ◌+◌, ◌-◌, ◌^◌, ◌<◌, ◌≤◌, ◌≢◌, ⊎_elim, Bool, true, false, List, length, arith, refl, ap, sym, subst}
use Rattle.std.specs.Prelude.{Some, slice_get}
use Rattle.std.proofs.lemmas.Bool.{cases_lt}
use Rattle.std.proofs.lemmas.Bool.Decides.{nat_tests}
use Rattle.lc_num.specs.declared.vectors.Vec3.{Vec3}
use Rattle.lc_geom.specs.declared.triangle.Tri.{Tri}
use Rattle.lc_geom.specs.Crossing.{crosses}
use Rattle.lc_geom.proofs.Depths.{depth_small}
use Rattle.lc_hier.specs.declared.node.Node.{Node}
use Rattle.lc_hier.specs.declared.node.Row.{Row}
use Rattle.lc_hier.specs.Boxes.{Holds}
use Rattle.lc_hier.specs.Passed.{IsPassed}
use Rattle.lc_hier.specs.Layout.{first_row, IsNode, IsHierarchy}
use Rattle.lc_hier.specs.Seen.{AreClear, others}
use Rattle.lc_hier.proofs.Layouts.{first_at, first_most}

pub not_true : (b : Bool) → (b ≡ true → ⊥) → b ≡ false
not_true true h = absurd (h refl)
not_true false h = refl

-- a triangle that is passed at every depth is not crossed
pub never_crossed : (p q : Vec3) (t : Tri) → IsPassed p q (2 ^ 30 - 1) t → crosses p q t ≡ false
never_crossed p q t passed = not_true (crosses p q t) (λ hit. absurd (omega (arith, depth_small p q t hit, passed hit)))

-- the rows of a box that is missed are clear
pub clear_behind : (p q : Vec3) (nodes : List Node) (rows : List Row) (count end i known : ℕ) (node : Node) → IsNode nodes rows count end i node → ((t : Tri) → Holds node.bounds t → IsPassed p q (2 ^ 30 - 1) t) → AreClear p q rows known node.first → AreClear p q rows known (first_row nodes end node.skip)
clear_behind p q nodes rows count end i known node is missed before =
    λ j row below other there.
    ⊎_elim (λ (l : j < node.first). before j row l other there) (λ (m : node.first ≤ j). never_crossed p q row.triangle (missed row.triangle (is.held j row m below there)))
    (cases_lt j node.first)

-- ---- how many rows were tested

pub others_rises : (known a b : ℕ) → a ≤ b → others known a ≤ others known b
others_rises known a b h = grind (arith, nat_tests)

pub others_most : (known a : ℕ) → others known a ≤ a
others_most known a = grind (arith, nat_tests)

-- all rows before those of the node at this place are clear, and each was tested at most once
pub record Walked (p q : Vec3) (nodes : List Node) (rows : List Row) (known at before tests : ℕ) : Type 0 where
  pub within : at + 1 ≤ length nodes
  pub clear : AreClear p q rows known (first_row nodes (length rows) at)
  pub more : before ≤ tests
  pub counted : tests ≤ before + others known (first_row nodes (length rows) at)

module _ (p q : Vec3) (nodes : List Node) (rows : List Row) (known before : ℕ) (h : IsHierarchy nodes rows) where
  pub walk_starts : Walked p q nodes rows known 0 before before
  walk_starts = record {
    within = omega (arith, h.some);
    clear = λ j row below other there. absurd (omega (arith, h.starts, below));
    more = omega arith;
    counted = omega arith;
  }

  module _ (at tests : ℕ) (node : Node) (there : slice_get nodes at ≡ Some node) (within : at + 1 < length nodes) (w : Walked p q nodes rows known at before tests) where
    pub node_is : IsNode nodes rows (length nodes - 1) (length rows) at node
    node_is = h.laid at node (omega arith) (omega (arith, within)) there

    pub clear_before : AreClear p q rows known node.first
    clear_before = subst (AreClear p q rows known) (first_at nodes (length rows) at node there) w.clear

    pub counted_before : tests ≤ before + others known node.first
    counted_before = subst (λ k. tests ≤ before + others known k) (first_at nodes (length rows) at node there) w.counted

    -- the box is missed
    pub walk_skips : ((t : Tri) → Holds node.bounds t → IsPassed p q (2 ^ 30 - 1) t) → Walked p q nodes rows known node.skip before tests
    walk_skips missed = record {
      within = omega (arith, node_is.within, within);
      clear = clear_behind p q nodes rows (length nodes - 1) (length rows) at known node node_is missed clear_before;
      more = w.more;
      counted = omega (arith, counted_before, others_rises known node.first (first_row nodes (length rows) node.skip) node_is.rises);
    }

    -- the node has children
    pub walk_enters : node.skip ≢ at + 1 → Walked p q nodes rows known (at + 1) before tests
    walk_enters inner =
        let next : first_row nodes (length rows) (at + 1) ≡ node.first = ⊎_elim (λ (e : node.skip ≡ at + 1). absurd (inner e)) (λ (e : first_row nodes (length rows) (at + 1) ≡ node.first). e) node_is.next in
        record {
          within = omega (arith, within);
          clear = subst (AreClear p q rows known) (sym next) clear_before;
          more = w.more;
          counted = rw next counted_before;
        }

    module _ (later : Node) (after : slice_get nodes (at + 1) ≡ Some later) where
      pub leaf_order : node.skip ≡ at + 1 → node.first ≤ later.first
      leaf_order leaf = omega (arith, node_is.rises, ap (first_row nodes (length rows)) leaf, first_at nodes (length rows) (at + 1) later after)

      pub leaf_most : later.first ≤ length rows
      leaf_most = omega (arith, first_most nodes rows h (at + 1) (omega (arith, within)), first_at nodes (length rows) (at + 1) later after)

      -- the rows of a leaf are clear
      pub walk_passes : (more : ℕ) → tests ≤ more → AreClear p q rows known later.first → more + others known node.first ≤ tests + others known later.first → Walked p q nodes rows known (at + 1) before more
      walk_passes more less clear count =
          let next = first_at nodes (length rows) (at + 1) later after in
          record {
            within = omega (arith, within);
            clear = subst (AreClear p q rows known) (sym next) clear;
            more = omega (arith, w.more, less);
            counted = rw next (omega (arith, counted_before, count));
          }
