-- The extents of lights by a fold, and the axis of the longest.
use Rattle.std.proofs.Common.{◌≡◌, ◌<◌, List, [], ◌∷◌, length, drop, get_or, refl, ap, sym, subst, ◌∙◌, arith, true, false, ⊎_elim}
use Rattle.std.specs.Prelude.{ℤ, ◌-ℤ◌, ◌≤ℤ◌, Contains}
use Rattle.std.specs.Int.{int_max, int_min}
use Rattle.std.specs.Int.RustNames.{int_le}
use Rattle.std.specs.List.{fold, list_all, list_any}
use Rattle.std.proofs.lemmas.Int.{fold-int_max_bounds, fold-int_max_reached, fold-int_min_bounds, fold-int_min_reached, ints}
use Rattle.std.proofs.lemmas.List.Elements.{All-cons, All-contains, All-contains_itself, All-weaker, Contains-append_right}
use Rattle.std.proofs.lemmas.List.Folds.{Any-from_list_any, list_any-from_Any}
use Rattle.std.proofs.lemmas.List.Sums.{AllPass-from_list_all, list_all-from_AllPass}
use Rattle.lc_num.specs.Vectors.{difference, greater, lesser}
use Rattle.lc_num.specs.declared.vectors.Vec3.{Vec3}
use Rattle.lc_tree.specs.declared.axis.Axis.{Axis}
use Rattle.lc_tree.specs.declared.axis.Axis.TheVariants.{X, Y, Z}
use Rattle.lc_tree.specs.declared.numbered.Numbered.{Numbered}
use Rattle.lc_tree.specs.Extents.{are_apart, coordinate, coordinates, extend_as_far, longest, longest_axis, AreExtents, IsExtent, IsGreatest, IsLeast}

-- ---- extents of numbers

le_true : (a b : ℤ) → a ≤ℤ b → int_le a b ≡ true
le_true a b h = grind (arith, ints)

true_le : (a b : ℤ) → int_le a b ≡ true → a ≤ℤ b
true_le a b e = grind (arith, ints)

-- two of some numbers are at most their extent apart
within_extent : (xs : List ℤ) (m a b : ℤ) → IsExtent xs m → Contains xs a → Contains xs b → (a -ℤ b) ≤ℤ m
within_extent xs m a b h ha hb =
    let most : a ≤ℤ h.greatest = All-contains (λ x. x ≤ℤ h.greatest) xs a h.is_greatest.passed_by_none ha in
    let least : h.least ≤ℤ b = All-contains (λ x. h.least ≤ℤ x) xs b h.is_least.passed_by_none hb in
    rw h.is (omega (arith, ints, most, least))

apart_true : (xs : List ℤ) (n a b : ℤ) → Contains xs a → Contains xs b → n ≤ℤ (a -ℤ b) → are_apart xs n ≡ true
unfolding are_apart
apart_true xs n a b ha hb le =
    let inner : list_any (λ q. int_le n (a -ℤ q)) xs ≡ true = list_any-from_Any (λ q. int_le n (a -ℤ q)) xs (hb.0, b, hb.1, hb.2, le_true n (a -ℤ b) le) in
    list_any-from_Any (λ p. list_any (λ q. int_le n (p -ℤ q)) xs) xs (ha.0, a, ha.1, ha.2, inner)

apart_reached : (xs : List ℤ) (n most : ℤ) → ((a b : ℤ) → Contains xs a → Contains xs b → (a -ℤ b) ≤ℤ most) → are_apart xs n ≡ true → n ≤ℤ most
unfolding are_apart
apart_reached xs n most within e =
    let h = Any-from_list_any (λ p. list_any (λ q. int_le n (p -ℤ q)) xs) xs e in
    let i = Any-from_list_any (λ q. int_le n (h.1 -ℤ q)) xs h.4 in
    let below : (h.1 -ℤ i.1) ≤ℤ most = within h.1 i.1 (h.0, h.2, h.3) (i.0, i.2, i.3) in
    let above : n ≤ℤ (h.1 -ℤ i.1) = true_le n (h.1 -ℤ i.1) i.4 in
    omega (arith, ints, below, above)

far_true : (xs ys : List ℤ) (m n : ℤ) → IsExtent xs m → IsExtent ys n → n ≤ℤ m → extend_as_far xs ys ≡ true
unfolding extend_as_far
far_true xs ys m n h k le =
    list_all-from_AllPass (λ a. list_all (λ b. are_apart xs (a -ℤ b)) ys) ys
    (All-weaker (Contains ys) (λ a. list_all (λ b. are_apart xs (a -ℤ b)) ys ≡ true)
    (λ a ha.
    list_all-from_AllPass (λ b. are_apart xs (a -ℤ b)) ys
    (All-weaker (Contains ys) (λ b. are_apart xs (a -ℤ b) ≡ true)
    (λ b hb.
    let below : (a -ℤ b) ≤ℤ n = within_extent ys n a b k ha hb in
    let reached : m ≡ h.greatest -ℤ h.least = h.is in
    apart_true xs (a -ℤ b) h.greatest h.least h.is_greatest.reached h.is_least.reached (omega (arith, ints, below, reached, le))) ys (All-contains_itself ys))) ys (All-contains_itself ys))

true_far : (xs ys : List ℤ) (m n : ℤ) → IsExtent xs m → IsExtent ys n → extend_as_far xs ys ≡ true → n ≤ℤ m
unfolding extend_as_far
true_far xs ys m n h k e =
    let each = AllPass-from_list_all (λ a. list_all (λ b. are_apart xs (a -ℤ b)) ys) ys e in
    let one : list_all (λ b. are_apart xs (k.greatest -ℤ b)) ys ≡ true = All-contains (λ a. list_all (λ b. are_apart xs (a -ℤ b)) ys ≡ true) ys k.greatest each k.is_greatest.reached in
    let both : are_apart xs (k.greatest -ℤ k.least) ≡ true = All-contains (λ b. are_apart xs (k.greatest -ℤ b) ≡ true) ys k.least (AllPass-from_list_all (λ b. are_apart xs (k.greatest -ℤ b)) ys one) k.is_least.reached in
    rw k.is (apart_reached xs (k.greatest -ℤ k.least) m (λ a b ha hb. within_extent xs m a b h ha hb) both)

-- some two of the first numbers are as far apart as any two of the second where the first extend as far
far_is : (xs ys : List ℤ) (m n : ℤ) → IsExtent xs m → IsExtent ys n → extend_as_far xs ys ≡ int_le n m
far_is xs ys m n h k =
    elim (extend_as_far xs ys) as (λ v. extend_as_far xs ys ≡ v → v ≡ int_le n m) [
      | true ↦ (λ e. sym (le_true n m (true_far xs ys m n h k e)))
      | false ↦ (λ e.
          elim (int_le n m) as (λ v. int_le n m ≡ v → false ≡ v) [
            | true ↦ (λ f. sym e ∙ far_true xs ys m n h k (true_le n m f))
            | false ↦ (λ f. refl)
          ] refl)
    ] refl

-- numbers have one extent
pub one_extent : (xs : List ℤ) (m n : ℤ) → IsExtent xs m → IsExtent xs n → m ≡ n
one_extent xs m n h k =
    let a : h.greatest ≤ℤ k.greatest = All-contains (λ x. x ≤ℤ k.greatest) xs h.greatest k.is_greatest.passed_by_none h.is_greatest.reached in
    let b : k.greatest ≤ℤ h.greatest = All-contains (λ x. x ≤ℤ h.greatest) xs k.greatest h.is_greatest.passed_by_none k.is_greatest.reached in
    let c : k.least ≤ℤ h.least = All-contains (λ x. k.least ≤ℤ x) xs h.least k.is_least.passed_by_none h.is_least.reached in
    let d : h.least ≤ℤ k.least = All-contains (λ x. h.least ≤ℤ x) xs k.least h.is_least.passed_by_none k.is_least.reached in
    rw (h.is, k.is) (omega (arith, ints, a, b, c, d))

-- the greatest and the least are found one number after the other
greatest_is : (a : ℤ) (xs : List ℤ) → IsGreatest (a ∷ xs) (fold int_max a xs)
greatest_is a xs =
    let bounds = fold-int_max_bounds a xs (fold int_max a xs) refl in
    record {
      reached =
          ⊎_elim (λ (e : fold int_max a xs ≡ a). let c : Contains (a ∷ xs) (fold int_max a xs) = (0, omega arith, sym e) in c)
          (λ (k : Contains xs (fold int_max a xs)). Contains-append_right (a ∷ []) xs (fold int_max a xs) k)
          (fold-int_max_reached a xs (fold int_max a xs) refl);
      passed_by_none = All-cons (λ x. x ≤ℤ fold int_max a xs) a xs bounds.0 bounds.1;
    }

least_is : (a : ℤ) (xs : List ℤ) → IsLeast (a ∷ xs) (fold int_min a xs)
least_is a xs =
    let bounds = fold-int_min_bounds a xs (fold int_min a xs) refl in
    record {
      reached =
          ⊎_elim (λ (e : fold int_min a xs ≡ a). let c : Contains (a ∷ xs) (fold int_min a xs) = (0, omega arith, sym e) in c)
          (λ (k : Contains xs (fold int_min a xs)). Contains-append_right (a ∷ []) xs (fold int_min a xs) k)
          (fold-int_min_reached a xs (fold int_min a xs) refl);
      passed_by_none = All-cons (λ x. fold int_min a xs ≤ℤ x) a xs bounds.0 bounds.1;
    }

vectors : (x y z x' y' z' : ℤ) → x ≡ x' → y ≡ y' → z ≡ z' → ◌≡◌ {A = Vec3} (record { x = x; y = y; z = z }) (record { x = x'; y = y'; z = z' })
vectors x y z x' y' z' e f h = cc

-- ---- extents of lights

greater_on : (axis : Axis) (a b : Vec3) → coordinate axis (greater a b) ≡ int_max (coordinate axis a) (coordinate axis b)
greater_on X a b = refl
greater_on Y a b = refl
greater_on Z a b = refl

lesser_on : (axis : Axis) (a b : Vec3) → coordinate axis (lesser a b) ≡ int_min (coordinate axis a) (coordinate axis b)
lesser_on X a b = refl
lesser_on Y a b = refl
lesser_on Z a b = refl

difference_on : (axis : Axis) (a b : Vec3) → coordinate axis (difference a b) ≡ coordinate axis a -ℤ coordinate axis b
difference_on X a b = refl
difference_on Y a b = refl
difference_on Z a b = refl

module _ {L : Type 0} where
  -- the greatest and the least coordinates among a place and those of lights
  abbrev pub greatest : Vec3 → List (Numbered L) → Vec3
  greatest place es = fold (λ most e. greater most e.place) place es

  abbrev pub least : Vec3 → List (Numbered L) → Vec3
  least place es = fold (λ most e. lesser most e.place) place es

  greatest_on : (axis : Axis) (place : Vec3) (es : List (Numbered L)) → coordinate axis (greatest place es) ≡ fold int_max (coordinate axis place) (coordinates axis es)
  greatest_on axis place [] = refl
  greatest_on axis place (e ∷ es) =
      greatest_on axis (greater place e.place) es ∙ ap (λ n. fold int_max n (coordinates axis es)) (greater_on axis place e.place)

  least_on : (axis : Axis) (place : Vec3) (es : List (Numbered L)) → coordinate axis (least place es) ≡ fold int_min (coordinate axis place) (coordinates axis es)
  least_on axis place [] = refl
  least_on axis place (e ∷ es) =
      least_on axis (lesser place e.place) es ∙ ap (λ n. fold int_min n (coordinates axis es)) (lesser_on axis place e.place)

  extent_on : (axis : Axis) (e : Numbered L) (es : List (Numbered L)) → IsExtent (coordinates axis (e ∷ es)) (coordinate axis (difference (greatest e.place es) (least e.place es)))
  extent_on axis e es = record {
    greatest = coordinate axis (greatest e.place es);
    least = coordinate axis (least e.place es);
    is_greatest = subst (IsGreatest (coordinates axis (e ∷ es))) (sym (greatest_on axis e.place es)) (greatest_is (coordinate axis e.place) (coordinates axis es));
    is_least = subst (IsLeast (coordinates axis (e ∷ es))) (sym (least_on axis e.place es)) (least_is (coordinate axis e.place) (coordinates axis es));
    is = difference_on axis (greatest e.place es) (least e.place es);
  }

  -- what the greatest and the least coordinates leave is the extents
  pub folded_extents : (es : List (Numbered L)) (d : Numbered L) → 0 < length es → AreExtents es (difference (greatest (get_or es 0 d).place (drop 1 es)) (least (get_or es 0 d).place (drop 1 es)))
  folded_extents [] d some = absurd (omega (arith, some))
  folded_extents (e ∷ es) d some = record { x = extent_on X e es; y = extent_on Y e es; z = extent_on Z e es }

  -- lights have extents, and these alone
  pub some_vector : (es : List (Numbered L)) → 0 < length es → (v : Vec3) × AreExtents es v
  some_vector [] some = absurd (omega (arith, some))
  some_vector (e ∷ es) some =
      (difference (greatest e.place es) (least e.place es), record { x = extent_on X e es; y = extent_on Y e es; z = extent_on Z e es })

  pub one_vector : (es : List (Numbered L)) (v w : Vec3) → AreExtents es v → AreExtents es w → v ≡ w
  one_vector es v w h k =
      vectors v.x v.y v.z w.x w.y w.z (one_extent (coordinates X es) v.x w.x h.x k.x) (one_extent (coordinates Y es) v.y w.y h.y k.y) (one_extent (coordinates Z es) v.z w.z h.z k.z)

  -- the longest axis is that of the longest extent
  pub longest_is : (es : List (Numbered L)) (v : Vec3) → AreExtents es v → longest_axis es ≡ longest v
  unfolding longest_axis
  longest_is es v h =
      let xy : extend_as_far (coordinates X es) (coordinates Y es) ≡ int_le v.y v.x = far_is (coordinates X es) (coordinates Y es) v.x v.y h.x h.y in
      let xz : extend_as_far (coordinates X es) (coordinates Z es) ≡ int_le v.z v.x = far_is (coordinates X es) (coordinates Z es) v.x v.z h.x h.z in
      let yz : extend_as_far (coordinates Y es) (coordinates Z es) ≡ int_le v.z v.y = far_is (coordinates Y es) (coordinates Z es) v.y v.z h.y h.z in
      rw (xy, xz, yz) refl
