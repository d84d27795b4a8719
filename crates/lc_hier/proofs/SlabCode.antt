-- What the code of slabs computes in 64 bits.
use Rattle.std.proofs.Common.{◌≡◌, ◌+◌, ◌^◌, ◌≤◌, Bool, true, false, arith, ap₂, ◌∙◌, ℤ, ◌-ℤ◌, ◌*ℤ◌, [], ◌∷◌, FitsSigned}
use Rattle.std.specs.Prelude.{if◌then◌else◌}
use Rattle.std.specs.Int.{w32, w64, int_min, int_max}
use Rattle.std.specs.Int.RustNames.{unsigned_abs}
use Rattle.std.proofs.lemmas.Int.{ints, to_z-of_z}
use Rattle.lc_algebra.proofs.Poly.{var, ◌⊖◌, ◌⊗◌}
use Rattle.lc_algebra.proofs.Within.{none, more}
use Rattle.lc_hier.specs.declared.slab.Slab.{Slab}
use Rattle.lc_hier.proofs.Window.{entry_of, exit_of}
use Rattle.lc_algebra.proofs.Machine.{read, fits_step, gives}

pub end_small : (t : Bool) (x y : ℤ) → FitsSigned w32 x → FitsSigned w32 y → unsigned_abs (if t then x else y) ≤ 2 ^ 31
end_small true x y h g = omega (arith, ints)
end_small false x y h g = omega (arith, ints)

-- the product of a slab, at one end `e` of a box
module _ (x e start by : ℤ) (is : x ≡ e) (he : unsigned_abs e ≤ 2 ^ 31) (hs : unsigned_abs start ≤ 50_200_000) (hb : unsigned_abs by ≤ 2 ^ 30 + 1) where
  pub product_fits : FitsSigned w64 (read w64 (read w64 x -ℤ read w64 start) *ℤ read w64 by)
  product_fits = rw is (fits_step w64 (e ∷ start ∷ by ∷ []) ((2 ^ 31) ∷ 50_200_000 ∷ (2 ^ 30 + 1) ∷ []) (more he (more hs (more hb none))) ((var 0 ⊖ var 1) ⊗ var 2) tt)

  pub product_is : read w64 (read w64 (read w64 x -ℤ read w64 start) *ℤ read w64 by) ≡ (e -ℤ start) *ℤ by
  product_is = rw is (gives w64 (e ∷ start ∷ by ∷ []) ((2 ^ 31) ∷ 50_200_000 ∷ (2 ^ 30 + 1) ∷ []) (more he (more hs (more hb none))) ((var 0 ⊖ var 1) ⊗ var 2) tt)

-- a slab's entry and exit at the ends of a box, as they are read
module _ (slab : Slab) (low high r : ℤ) (fl : FitsSigned w32 low) (fh : FitsSigned w32 high) where
  pub entry_read : r ≡ entry_of slab (read w32 low) (read w32 high) → r ≡ entry_of slab low high
  entry_read e = e ∙ ap₂ (λ u v. entry_of slab u v) (to_z-of_z w32 low fl) (to_z-of_z w32 high fh)

  pub exit_read : r ≡ exit_of slab (read w32 low) (read w32 high) → r ≡ exit_of slab low high
  exit_read e = e ∙ ap₂ (λ u v. exit_of slab u v) (to_z-of_z w32 low fl) (to_z-of_z w32 high fh)

-- the greatest, or the least, of three numbers, two after two
module _ (a b c ab abc x y z : ℤ) (ax : a ≡ x) (by : b ≡ y) (cz : c ≡ z) (fa : FitsSigned w64 a) (fb : FitsSigned w64 b) (fc : FitsSigned w64 c) (fab : FitsSigned w64 ab) (fabc : FitsSigned w64 abc) where
  pub greatest_read : ab ≡ int_max (read w64 a) (read w64 b) → abc ≡ int_max (read w64 ab) (read w64 c) → read w64 abc ≡ int_max (int_max x y) z
  greatest_read e f =
      to_z-of_z w64 abc fabc ∙ f
      ∙ ap₂ (λ u v. int_max u v) (to_z-of_z w64 ab fab ∙ e ∙ ap₂ (λ u v. int_max u v) (to_z-of_z w64 a fa ∙ ax) (to_z-of_z w64 b fb ∙ by)) (to_z-of_z w64 c fc ∙ cz)

  pub least_read : ab ≡ int_min (read w64 a) (read w64 b) → abc ≡ int_min (read w64 ab) (read w64 c) → read w64 abc ≡ int_min (int_min x y) z
  least_read e f =
      to_z-of_z w64 abc fabc ∙ f
      ∙ ap₂ (λ u v. int_min u v) (to_z-of_z w64 ab fab ∙ e ∙ ap₂ (λ u v. int_min u v) (to_z-of_z w64 a fa ∙ ax) (to_z-of_z w64 b fb ∙ by)) (to_z-of_z w64 c fc ∙ cz)
