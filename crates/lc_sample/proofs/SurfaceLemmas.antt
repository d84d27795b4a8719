-- Surfaces by the names of a mesh, and the parts of a scene within their ranges.
use Rattle.std.proofs.Common.{◌≡◌, ℕ, zero, suc, ◌+◌, ◌<◌, ◌≤◌, arith, List, [], ◌∷◌, ◌++◌, length, map, take, get_or, Option, Some, None, refl, sym, ap, ap₂, subst, ◌∙◌, slice_get}
use Rattle.std.specs.Prelude.{All, IfSome, option_and_then, option_map, unwrap_or}
use Rattle.std.proofs.lemmas.List.{length-map, map_push, take_more, take_all}
use Rattle.std.proofs.lemmas.List.Elements.{All-map, All-weaker, All-get_or}
use Rattle.std.proofs.lemmas.Option.{slice_get-map, slice_get_within, get_or_from_slice_get}
use Rattle.lc_geom.specs.Triangles.{IsTri}
use Rattle.lc_geom.specs.declared.triangle.Tri.{Tri}
use Rattle.lc_light.specs.Lights.{AreLights}
use Rattle.lc_light.specs.declared.lights.Lights.{Lights}
use Rattle.lc_mtl.specs.Materials.{AreMaterials, IsMaterial, find}
use Rattle.lc_mtl.specs.declared.material.Material.{Material}
use Rattle.lc_obj.specs.Meshes.{IsFace, IsMesh}
use Rattle.lc_obj.specs.declared.mesh.Face.{Face}
use Rattle.lc_obj.specs.declared.mesh.Mesh.{Mesh}
use Rattle.lc_cut.specs.Forest.{ForestParts, forest_of}
use Rattle.lc_cut.proofs.Building.{forest_of_is}
use Rattle.lc_sample.specs.declared.surface.Reflectance.{Reflectance}
use Rattle.lc_sample.specs.declared.surface.Surface.{Surface}
use Rattle.lc_sample.specs.Surfaces.{IsReflectance, IsSurface, reflectance_of, material_of, name_at, surface_of, look_of, look_at, surface_by}
use Rattle.lc_sample.specs.Scenes.{SceneParts, IsScene, scene_of}

-- what holds of each element holds of the one at a place
at_place : {A : Type 0} (P : A → Type 0) (xs : List A) (k : ℕ) (x : A) → All P xs → slice_get xs k ≡ Some x → P x
at_place P xs k x h at =
    subst P (get_or_from_slice_get xs k x x at) (All-get_or P xs k x (slice_get_within xs k x at) h)

pub surface_at : (xs : List Surface) (k : ℕ) (s : Surface) → All IsSurface xs → slice_get xs k ≡ Some s → IsSurface s
surface_at = at_place IsSurface

-- ---- how the surfaces of a name send light back

mapped : (items : List Material) (o : Option (List ℕ)) → unwrap_or (option_map (look_of items) o) (reflectance_of None) ≡ reflectance_of (option_and_then (material_of items) o)
mapped items None = refl
mapped items (Some name) = refl

look_at-map : (items : List Material) (names : List (List ℕ)) (n : ℕ) → look_at (map (look_of items) names) n ≡ reflectance_of (option_and_then (material_of items) (name_at names n))
look_at-map items names zero = refl
look_at-map items names (suc k) =
    ap (λ (o : Option Reflectance). unwrap_or o (reflectance_of None)) (slice_get-map (look_of items) names k) ∙ mapped items (slice_get names k)

surface_by-map : (items : List Material) (names : List (List ℕ)) (face : Face) → surface_by (map (look_of items) names) face ≡ surface_of names items face
surface_by-map items names face =
    ap (λ (r : Reflectance). let s : Surface = record { tri = face.tri; normals = face.normals; reflectance = r } in s) (look_at-map items names face.name)

-- how the surfaces of a name send light back, by the place of its first material
pub look_by_place : (items : List Material) (name : List ℕ) (o : Option ℕ) (m : Option Material) → o ≡ find name items → option_and_then (slice_get items) o ≡ m → reflectance_of m ≡ look_of items name
unfolding material_of
look_by_place items name o m is at = ap reflectance_of (sym at ∙ ap (option_and_then (slice_get items)) is)

-- ---- ranges

unsaid_valid : IsReflectance (reflectance_of None)
unsaid_valid = record {
  kd = record { r = omega arith; g = omega arith; b = omega arith };
  ks = record { r = omega arith; g = omega arith; b = omega arith };
  ns = omega arith;
}

reflectance_valid : (items : List Material) (o : Option Material) → IfSome o IsMaterial → IsReflectance (reflectance_of o)
reflectance_valid items None h = unsaid_valid
reflectance_valid items (Some m) h = record { kd = h.kd; ks = h.ks; ns = h.ns }

item_valid : (items : List Material) → All IsMaterial items → (k : ℕ) → IfSome (slice_get items k) IsMaterial
item_valid items h k = at (slice_get items k) refl where
  at : (o : Option Material) → slice_get items k ≡ o → IfSome o IsMaterial
  at None e = tt
  at (Some m) e = at_place IsMaterial items k m h e

material_valid : (items : List Material) (name : List ℕ) → All IsMaterial items → IfSome (material_of items name) IsMaterial
unfolding material_of
material_valid items name h = at (find name items) where
  at : (o : Option ℕ) → IfSome (option_and_then (slice_get items) o) IsMaterial
  at None = tt
  at (Some k) = item_valid items h k

named_valid : (items : List Material) (o : Option (List ℕ)) → All IsMaterial items → IfSome (option_and_then (material_of items) o) IsMaterial
named_valid items None h = tt
named_valid items (Some name) h = material_valid items name h

surface_valid : (names : List (List ℕ)) (items : List Material) (face : Face) → AreMaterials items → IsFace names face → IsSurface (surface_of names items face)
surface_valid names items face hm hf = record {
  tri = hf.tri;
  normals = hf.normals;
  reflectance = reflectance_valid items _ (named_valid items (name_at names face.name) hm.each);
}

-- ---- scenes

-- the scene of a mesh, of materials and of lights is valid
scene_of_is : (mesh : Mesh) (items : List Material) (lights : Lights) (seed : ℕ) → IsMesh mesh → AreMaterials items → AreLights lights → IsScene (scene_of mesh items lights seed)
unfolding scene_of
scene_of_is mesh items lights seed hm hi hl = record {
  surfaces =
      All-map IsSurface (surface_of mesh.names items) mesh.faces
      (All-weaker (IsFace mesh.names) (λ face. IsSurface (surface_of mesh.names items face)) (λ face h. surface_valid mesh.names items face hi h) mesh.faces hm.faces);
  few = rw (length-map mesh.faces (surface_of mesh.names items)) hm.few;
  forest = forest_of_is seed lights hl;
}

-- the triangles of valid surfaces
triangles_valid : (xs : List Surface) → All IsSurface xs → All IsTri (map (λ (s : Surface). s.tri) xs)
triangles_valid xs h = All-map IsTri (λ (s : Surface). s.tri) xs (All-weaker IsSurface (λ (s : Surface). IsTri s.tri) (λ s k. k.tri) xs h)

-- ---- the faces of a mesh, one after the other

-- the surfaces of the faces so far, and that of the next
pub surfaces_more : (names : List (List ℕ)) (items : List Material) (looks : List Reflectance) (faces : List Face) (i : ℕ) (d : Face) (xs more : List Surface) (made : Surface) → i < length faces → looks ≡ map (look_of items) names → made ≡ surface_by looks (get_or faces i d) → more ≡ xs ++ made ∷ []
    → xs ≡ map (surface_of names items) (take i faces) → more ≡ map (surface_of names items) (take (i + 1) faces)
surfaces_more names items looks faces i d xs more made at held by pushed so_far =
    let face : Face = get_or faces i d in
    let same : made ≡ surface_of names items face = by ∙ ap (λ (ls : List Reflectance). surface_by ls face) held ∙ surface_by-map items names face in
    pushed ∙ ap₂ (λ (ys : List Surface) (y : Surface). ys ++ y ∷ []) so_far same ∙ sym (map_push (surface_of names items) (take i faces) face)
    ∙ ap (map (surface_of names items)) (sym (take_more faces i d at))

pub triangles_more : (xs more : List Surface) (ts all : List Tri) (s : Surface) (t : Tri) → more ≡ xs ++ s ∷ [] → all ≡ ts ++ t ∷ [] → t ≡ s.tri → ts ≡ map (λ (x : Surface). x.tri) xs → all ≡ map (λ (x : Surface). x.tri) more
triangles_more xs more ts all s t pushed added same so_far =
    added ∙ ap₂ (λ (us : List Tri) (u : Tri). us ++ u ∷ []) so_far same ∙ sym (map_push (λ (x : Surface). x.tri) xs s) ∙ ap (map (λ (x : Surface). x.tri)) (sym pushed)

-- the surfaces of all faces
pub surfaces_all : (names : List (List ℕ)) (items : List Material) (mesh : Mesh) (faces : List Face) (i : ℕ) (xs : List Surface) → length faces ≤ i → faces ≡ mesh.faces → xs ≡ map (surface_of names items) (take i faces) → xs ≡ map (surface_of names items) mesh.faces
surfaces_all names items mesh faces i xs past same so_far =
    so_far ∙ ap (map (surface_of names items)) (take_all i faces past ∙ same)

pub scene_is : (mesh : Mesh) (items : List Material) (lights : Lights) (seed : ℕ) (xs : List Surface) (forest : ForestParts) → xs ≡ map (surface_of mesh.names items) mesh.faces → forest ≡ forest_of seed lights
    → ◌≡◌ {A = SceneParts} (record { surfaces = xs; forest = forest }) (scene_of mesh items lights seed)
unfolding scene_of
scene_is mesh items lights seed xs forest hx hf =
    ap₂ (λ (ys : List Surface) (f : ForestParts). let p : SceneParts = record { surfaces = ys; forest = f } in p) hx hf

pub scene_valid : (mesh : Mesh) (items : List Material) (lights : Lights) (seed : ℕ) (xs : List Surface) (forest : ForestParts) → xs ≡ map (surface_of mesh.names items) mesh.faces → forest ≡ forest_of seed lights → IsMesh mesh → AreMaterials items → AreLights lights
    → IsScene (record { surfaces = xs; forest = forest })
scene_valid mesh items lights seed xs forest hx hf hm hi hl =
    subst IsScene (sym (scene_is mesh items lights seed xs forest hx hf)) (scene_of_is mesh items lights seed hm hi hl)

pub triangles_are : (xs : List Surface) (ts : List Tri) → ts ≡ map (λ (s : Surface). s.tri) xs → All IsSurface xs → All IsTri ts
triangles_are xs ts same h = subst (All IsTri) (sym same) (triangles_valid xs h)
