-- The nodes of a cut keep their slots, as one comes or one gives way to two.
use Rattle.std.proofs.Common.{◌≡◌, ℕ, zero, suc, ◌+◌, ◌<◌, inl, inr, ◌==◌, true, false, cond, List, [], ◌∷◌, ◌++◌, length, take, drop, set, slice_get, Some, refl, ap, sym, ◌∙◌, arith, add-one}
use Rattle.std.proofs.Math.ListN.{length-set}
use Rattle.std.proofs.lemmas.Bool.Decides.{nat_tests}
use Rattle.std.proofs.lemmas.Option.{slice_get_within}
use Rattle.lc_rated.specs.declared.kind.LightKind.{LightKind}
use Rattle.lc_rated.specs.declared.kind.LightKind.TheVariants as kind
use Rattle.lc_rated.specs.declared.slot.Slot.{Slot}
use Rattle.lc_rated.specs.LitTrees.{light_of, kind_number}
use Rattle.lc_rated.specs.Cuts.{Placed, EachNode, IsBefore, IsInOrder}
use Rattle.lc_rated.specs.Nodes.{place_of, IsKept}
use Rattle.lc_rated.proofs.CutSums.{EachNode-at}

-- elements of lists
set_same : {A : Type 0} (xs : List A) (i : ℕ) (a : A) → i < length xs → slice_get (set xs i a) i ≡ Some a
set_same [] i a h = absurd (omega arith)
set_same (x ∷ xs) zero a h = refl
set_same (x ∷ xs) (suc i) a h = set_same xs i a (omega arith)

set_other : {A : Type 0} (xs : List A) (i j : ℕ) (a : A) → (j ≡ i → ⊥) → slice_get (set xs i a) j ≡ slice_get xs j
set_other [] i j a ne = refl
set_other (x ∷ xs) zero zero a ne = absurd (ne refl)
set_other (x ∷ xs) zero (suc j) a ne = refl
set_other (x ∷ xs) (suc i) zero a ne = refl
set_other (x ∷ xs) (suc i) (suc j) a ne = set_other xs i j a (λ e. ne (ap suc e))

in_front : {A : Type 0} (xs ys : List A) (j : ℕ) → j < length xs → slice_get (xs ++ ys) j ≡ slice_get xs j
in_front [] ys j h = absurd (omega arith)
in_front (x ∷ xs) ys zero h = refl
in_front (x ∷ xs) ys (suc j) h = in_front xs ys j (omega arith)

at_end : {A : Type 0} (xs : List A) (y : A) (n : ℕ) → n ≡ length xs → slice_get (xs ++ y ∷ []) n ≡ Some y
at_end [] y n h = rw h refl
at_end (x ∷ xs) y zero h = absurd (omega arith)
at_end (x ∷ xs) y (suc n) h = at_end xs y n (omega arith)

-- places tell nodes apart
pub kind_below : (k : LightKind) → kind_number k < 3
kind_below kind.Omni = omega arith
kind_below kind.Oriented = omega arith
kind_below kind.Sun = omega arith

abbrev pub Differ : Placed → Placed → Type 0
Differ p q = place_of p.kind p.node ≡ place_of q.kind q.node → ⊥

pub before_differ : (p q : Placed) → IsBefore p q → Differ p q
before_differ p q h e =
    elim h [
      | inl lt ↦ omega (arith, kind_below p.kind, kind_below q.kind, lt, e)
      | inr r ↦ omega (arith, r.0, r.1, e)
    ]

pub place_within : (k : LightKind) (node : ℕ) → node < 131072 → place_of k node < 393216
place_within k node h = omega (arith, kind_below k)

each_middle : (Q : Placed → Type 0) (xs : List Placed) (x y : Placed) (ys : List Placed) → EachNode Q (xs ++ (x ∷ y ∷ ys)) → Q x × Q y
each_middle Q [] x y ys h = (h.0, h.1.0)
each_middle Q (z ∷ zs) x y ys h = each_middle Q zs x y ys h.1

each_after : (Q R : Placed → Type 0) (p x y : Placed) (zs : List Placed) → ((q : Placed) → Q q → Differ q p → Differ q x → Differ q y → R q) → EachNode Q zs → EachNode (IsBefore p) zs → EachNode (IsBefore x) zs → EachNode (IsBefore y) zs → EachNode R zs
each_after Q R p x y [] f hq hp hx hy = tt
each_after Q R p x y (z ∷ zs) f hq hp hx hy =
    (f z hq.0 (λ e. before_differ p z hp.0 (sym e)) (λ e. before_differ x z hx.0 (sym e)) (λ e. before_differ y z hy.0 (sym e)), each_after Q R p x y zs f hq.1 hp.1 hx.1 hy.1)

-- what holds of the other nodes and of the two that come, as one gives way to two
pub each_around : (Q R : Placed → Type 0) (cut : List Placed) (at : ℕ) (p x y : Placed) → slice_get cut at ≡ Some p → IsInOrder cut → IsInOrder (take at cut ++ (x ∷ y ∷ drop (at + 1) cut)) → ((q : Placed) → Q q → Differ q p → Differ q x → Differ q y → R q) → EachNode Q cut → R x → R y → EachNode R (take at cut ++ (x ∷ y ∷ drop (at + 1) cut))
each_around Q R [] at p x y here old next f hq hx hy = absurd (omega (arith, slice_get_within [] at p here))
each_around Q R (z ∷ zs) zero p x y here old next f hq hx hy =
    let e : z ≡ p = cc in
    let before : EachNode (IsBefore p) zs = rw e at old.0 in
    (hx, (hy, each_after Q R p x y zs f hq.1 before next.0.1 next.1.0))
each_around Q R (z ∷ zs) (suc at) p x y here old next f hq hx hy =
    let d : drop (suc at + 1) (z ∷ zs) ≡ drop (at + 1) zs = rw (add-one, add-one) refl in
    let order : IsInOrder (z ∷ (take at zs ++ (x ∷ y ∷ drop (at + 1) zs))) = rw d at next in
    let two : IsBefore z x × IsBefore z y = each_middle (IsBefore z) (take at zs) x y (drop (at + 1) zs) order.0 in
    rw d
    (f z hq.0 (before_differ z p (EachNode-at (IsBefore z) zs at p old.0 here)) (before_differ z x two.0) (before_differ z y two.1), each_around Q R zs at p x y here old.1 order.1 f hq.1 hx hy)

-- whose a slot is, after two nodes came, of which the one takes over a slot and the other has the next
abbrev pub passed_on : (ℕ → ℕ) → ℕ → ℕ → ℕ → ℕ → ℕ → ℕ
passed_on owner slot left next right i = cond (i == slot) left (cond (i == next) right (owner i))

-- whose a slot is, after one node came
abbrev pub handed_out : (ℕ → ℕ) → ℕ → ℕ → ℕ → ℕ
handed_out owner next place i = cond (i == next) place (owner i)

module _ {K : Type 0} (keeps : LightKind → ℕ → K → Type 0) (owner : ℕ → ℕ) (places : List ℕ) (slots : List (Slot K)) where
  module _ (slot left right : ℕ) (x y : Slot K) (here : slot < length slots) where
    abbrev next_places : List ℕ
    next_places = set (set places left slot) right (length slots)

    abbrev next_slots : List (Slot K)
    next_slots = set slots slot x ++ y ∷ []

    pub kept_other : (q : Placed) → IsKept keeps owner places slots q → (place_of q.kind q.node ≡ left → ⊥) → (place_of q.kind q.node ≡ right → ⊥) → (place_of q.kind q.node ≡ owner slot → ⊥) → IsKept keeps (passed_on owner slot left (length slots) right) next_places next_slots q
    kept_other q k nl nr ns =
        let within : k.slot < length slots = slice_get_within slots k.slot k.held k.is in
        let other : k.slot ≡ slot → ⊥ = λ e. ns (sym k.mine ∙ ap owner e) in
        let not_slot : (k.slot == slot) ≡ false = grind (arith, nat_tests) in
        let not_next : (k.slot == length slots) ≡ false = grind (arith, nat_tests) in
        record {
          slot = k.slot;
          held = k.held;
          at = set_other (set places left slot) right (place_of q.kind q.node) (length slots) nr ∙ set_other places left (place_of q.kind q.node) slot nl ∙ k.at;
          is = in_front (set slots slot x) (y ∷ []) k.slot (omega (arith, length-set slots slot x, within)) ∙ set_other slots slot k.slot x other ∙ k.is;
          mine = rw (not_slot, not_next) k.mine;
          bound = k.bound;
          kept = k.kept;
        }

    pub kept_left : (q : Placed) → place_of q.kind q.node ≡ left → left < length places → (left ≡ right → ⊥) → x.bound ≡ (light_of q.tree).bound → keeps q.kind q.node x.kept → IsKept keeps (passed_on owner slot left (length slots) right) next_places next_slots q
    kept_left q e within differ bound kept =
        let same : (slot == slot) ≡ true = grind (arith, nat_tests) in
        record {
          slot = slot;
          held = x;
          at = rw e (set_other (set places left slot) right left (length slots) differ ∙ set_same places left slot within);
          is = in_front (set slots slot x) (y ∷ []) slot (omega (arith, length-set slots slot x, here)) ∙ set_same slots slot x here;
          mine = rw same (sym e);
          bound = bound;
          kept = kept;
        }

    pub kept_right : (q : Placed) → place_of q.kind q.node ≡ right → right < length places → y.bound ≡ (light_of q.tree).bound → keeps q.kind q.node y.kept → IsKept keeps (passed_on owner slot left (length slots) right) next_places next_slots q
    kept_right q e within bound kept =
        let not_slot : (length slots == slot) ≡ false = grind (arith, nat_tests) in
        let same : (length slots == length slots) ≡ true = grind (arith, nat_tests) in
        record {
          slot = length slots;
          held = y;
          at = rw e (set_same (set places left slot) right (length slots) (omega (arith, length-set places left slot, within)));
          is = at_end (set slots slot x) y (length slots) (sym (length-set slots slot x));
          mine = rw (not_slot, same) (sym e);
          bound = bound;
          kept = kept;
        }

  pub kept_still : (place : ℕ) (y : Slot K) (q : Placed) → IsKept keeps owner places slots q → (place_of q.kind q.node ≡ place → ⊥) → IsKept keeps (handed_out owner (length slots) place) (set places place (length slots)) (slots ++ y ∷ []) q
  kept_still place y q k differ =
      let within : k.slot < length slots = slice_get_within slots k.slot k.held k.is in
      let not_next : (k.slot == length slots) ≡ false = grind (arith, nat_tests) in
      record {
        slot = k.slot;
        held = k.held;
        at = set_other places place (place_of q.kind q.node) (length slots) differ ∙ k.at;
        is = in_front slots (y ∷ []) k.slot within ∙ k.is;
        mine = rw not_next k.mine;
        bound = k.bound;
        kept = k.kept;
      }

  pub kept_new : (place : ℕ) (y : Slot K) (q : Placed) → place_of q.kind q.node ≡ place → place < length places → y.bound ≡ (light_of q.tree).bound → keeps q.kind q.node y.kept → IsKept keeps (handed_out owner (length slots) place) (set places place (length slots)) (slots ++ y ∷ []) q
  kept_new place y q e within bound kept =
      let same : (length slots == length slots) ≡ true = grind (arith, nat_tests) in
      record {
        slot = length slots;
        held = y;
        at = rw e (set_same places place (length slots) within);
        is = at_end slots y (length slots) refl;
        mine = rw same (sym e);
        bound = bound;
        kept = kept;
      }
