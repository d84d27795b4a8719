-- The rays of all samples, by the numbers of the samples.
use Rattle.std.proofs.Common.{◌≡◌, ℕ, zero, suc, ◌+◌, ◌*◌, ◌/◌, ◌%◌, ◌<◌, List, [], ◌∷◌, ◌++◌, Some, map, length, refl, sym, ◌∙◌, ap, arith, append-nil, slice_get}
use Rattle.std.specs.List.{range_with_len}
use Rattle.std.proofs.lemmas.List.Concat.{flat_map-append}
use Rattle.std.proofs.lemmas.List.FromFn.{length-map-range_with_len, get_or-map-range_with_len}
use Rattle.std.proofs.lemmas.Nat.{div-mul-add, mod-mul-add, row-Below, row_below_turned}
use Rattle.std.proofs.lemmas.Option.{slice_get-get_or}
use Rattle.lc_view.specs.Samples.{flat, picture_rays, pixel_rays, ray_at, row_rays, sample_count, sample_rays}
use Rattle.lc_view.specs.declared.camera.Camera.{Camera}
use Rattle.lc_view.specs.declared.ray.Ray.{Ray}

-- ---- lists of the values of a function

module _ {A : Type 0} where
  -- two functions that agree place by place
  mapped_same : (f h : ℕ → A) (a b m : ℕ) → ((j : ℕ) → j < m → f (a + j) ≡ h (b + j)) → map f (range_with_len a m) ≡ map h (range_with_len b m)
  mapped_same f h a b zero same = refl
  mapped_same f h a b (suc m) same =
      let e : a + 0 ≡ a = omega arith in
      let g : b + 0 ≡ b = omega arith in
      let first : f a ≡ h b = sym (ap f e) ∙ same 0 (omega arith) ∙ ap h g in
      let later : (j : ℕ) → j < m → f ((a + 1) + j) ≡ h ((b + 1) + j) =
      λ j lt. let x : (a + 1) + j ≡ a + suc j = omega arith in let y : b + suc j ≡ (b + 1) + j = omega arith in ap f x ∙ same (suc j) (omega (arith, lt)) ∙ ap h y
      in
      ap (λ x. x ∷ map f (range_with_len (a + 1) m)) first ∙ ap (λ l. h b ∷ l) (mapped_same f h (a + 1) (b + 1) m later)

  mapped_split : (f : ℕ → A) (a k m : ℕ) → map f (range_with_len a (k + m)) ≡ map f (range_with_len a k) ++ map f (range_with_len (a + k) m)
  mapped_split f a zero m =
      let e : 0 + m ≡ m = omega arith in
      let g : a ≡ a + 0 = omega arith in
      ap (λ n. map f (range_with_len a n)) e ∙ ap (λ n. map f (range_with_len n m)) g
  mapped_split f a (suc k) m =
      let e : suc k + m ≡ suc (k + m) = omega arith in
      let g : (a + 1) + k ≡ a + suc k = omega arith in
      ap (λ n. map f (range_with_len a n)) e ∙ ap (λ l. f a ∷ l) (mapped_split f (a + 1) k m)
      ∙ ap (λ n. f a ∷ (map f (range_with_len (a + 1) k) ++ map f (range_with_len n m))) g

-- n rows of m places each, one after another
module _ {A : Type 0} where
  pub rows_flat : (g : ℕ → ℕ → A) (m n : ℕ) → flat (map (λ i. map (g i) (range_with_len 0 m)) (range_with_len 0 n)) ≡ map (λ k. g (k / m) (k % m)) (range_with_len 0 (n * m))
  rows_flat g m zero =
      let e : 0 ≡ 0 * m = omega arith in
      ap (λ (k : ℕ). map (λ k. g (k / m) (k % m)) (range_with_len 0 k)) e
  rows_flat g m (suc n) =
      let row : ℕ → List A = λ i. map (g i) (range_with_len 0 m) in
      let at : ℕ → A = λ k. g (k / m) (k % m) in
      let e : suc n ≡ n + 1 = omega arith in
      let s : n * m + m ≡ suc n * m = omega arith in
      let z : 0 + n * m ≡ n * m = omega arith in
      let w : 0 + n ≡ n = omega arith in
      let last : (j : ℕ) → j < m → g n (0 + j) ≡ at (n * m + j) =
      λ j lt. let x : 0 + j ≡ j = omega arith in ap (g n) x ∙ sym (ap (λ i. g i ((n * m + j) % m)) (div-mul-add n m j lt) ∙ ap (g n) (mod-mul-add n m j lt))
      in
      ap (λ k. flat (map row (range_with_len 0 k))) e ∙ ap (λ l. flat l) (mapped_split row 0 n 1)
      ∙ flat_map-append (λ list. list) (map row (range_with_len 0 n)) (map row (range_with_len (0 + n) 1))
      ∙ ap (λ l. l ++ (row (0 + n) ++ [])) (rows_flat g m n) ∙ ap (λ l. map at (range_with_len 0 (n * m)) ++ l) (append-nil (row (0 + n)) ∙ ap row w ∙ mapped_same (g n) at 0 (n * m) m last)
      ∙ ap (λ k. map at (range_with_len 0 (n * m)) ++ map at (range_with_len k m)) (sym z) ∙ sym (mapped_split at 0 (n * m) m) ∙ ap (λ k. map at (range_with_len 0 k)) s

-- ---- the rays

-- the ray of the sample of a number
abbrev pub ray_by : Camera → ℕ → Ray
ray_by camera k =
    ray_at camera (k / (camera.grid * camera.grid) / camera.width) (k / (camera.grid * camera.grid) % camera.width) (k % (camera.grid * camera.grid))

pixels_flat : (camera : Camera) → flat (picture_rays camera) ≡ map (λ p. pixel_rays camera (p / camera.width) (p % camera.width)) (range_with_len 0 (camera.height * camera.width))
unfolding picture_rays row_rays
pixels_flat camera = rows_flat (pixel_rays camera) camera.width camera.height

pub rays_by_number : (camera : Camera) → sample_rays camera ≡ map (ray_by camera) (range_with_len 0 (sample_count camera))
unfolding sample_rays pixel_rays
rays_by_number camera =
    let each : ℕ = camera.grid * camera.grid in
    let count : camera.height * camera.width * each ≡ sample_count camera = omega arith in
    ap (λ l. flat l) (pixels_flat camera) ∙ rows_flat (λ p. ray_at camera (p / camera.width) (p % camera.width)) each (camera.height * camera.width)
    ∙ ap (λ n. map (ray_by camera) (range_with_len 0 n)) count

pub sample_rays-length : (camera : Camera) → length (sample_rays camera) ≡ sample_count camera
sample_rays-length camera = ap length (rays_by_number camera) ∙ length-map-range_with_len (ray_by camera) 0 (sample_count camera)

pub sample_rays-get : (camera : Camera) (k : ℕ) → k < sample_count camera → slice_get (sample_rays camera) k ≡ Some (ray_by camera k)
sample_rays-get camera k lt =
    let n : length (map (ray_by camera) (range_with_len 0 (sample_count camera))) ≡ sample_count camera = length-map-range_with_len (ray_by camera) 0 (sample_count camera) in
    ap (λ l. slice_get l k) (rays_by_number camera) ∙ slice_get-get_or (map (ray_by camera) (range_with_len 0 (sample_count camera))) k (ray_by camera k) (omega (arith, n, lt))
    ∙ ap Some (get_or-map-range_with_len (ray_by camera) 0 (sample_count camera) k k (ray_by camera k) lt (omega arith))

-- ---- where the sample of a number lies

pub row_below : (camera : Camera) (k each width : ℕ) → each ≡ camera.grid * camera.grid → width ≡ camera.width → k < sample_count camera → k / each / width < camera.height
row_below camera k each width e w lt =
    let pixel : k / (camera.grid * camera.grid) < camera.width * camera.height = (row_below_turned k (camera.grid * camera.grid) (camera.width * camera.height) (camera.grid * camera.grid) lt (omega arith)).1 in
    rw (e, w) (row-Below (k / (camera.grid * camera.grid)) camera.width camera.width camera.height pixel (omega arith)).1

pub ray_is : (camera : Camera) (k each width : ℕ) (ray : Ray) → each ≡ camera.grid * camera.grid → width ≡ camera.width → k < sample_count camera
    → ray ≡ ray_at camera (k / each / width) (k / each % width) (k % each) → slice_get (sample_rays camera) k ≡ Some ray
ray_is camera k each width ray e w lt is =
    sample_rays-get camera k lt
    ∙ ap Some (sym (is ∙ ap (λ n. ray_at camera (k / n / width) (k / n % width) (k % n)) e ∙ ap (λ n. ray_at camera (k / (camera.grid * camera.grid) / n) (k / (camera.grid * camera.grid) % n) (k % (camera.grid * camera.grid))) w))
