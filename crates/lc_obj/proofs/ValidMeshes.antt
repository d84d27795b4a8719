-- The mesh of a text without a fault is within its ranges.
use Rattle.std.proofs.Common.{◌≡◌, ℕ, suc, ◌+◌, ◌-◌, ◌<◌, ◌≤◌, Bool, true, false, cond, leb, not, List, [], ◌∷◌, ◌++◌, length, drop, ◌||◌, Option, Some, None, Result, Ok, Err, ℤ, refl, sym, ap, subst, append_assoc, arith, length-append, le_trans, length-drop, rules}
use Rattle.std.specs.Prelude.{unsigned_abs, All, IfSome, map, flat_map}
use Rattle.std.specs.List.{zip, last_or, list_any, position_or_len}
use Rattle.std.specs.Str.{bytes_eq}
use Rattle.std.proofs.lemmas.List.{append-nil, length-map}
use Rattle.std.proofs.lemmas.List.Elements.{All-nil, All-cons, All-append, All-filter, All-weaker}
use Rattle.std.proofs.lemmas.List.Sums.{length-filter, count_by-le-length}
use Rattle.std.proofs.lemmas.Slice.Zip.{length-zip}
use Rattle.std.proofs.lemmas.Bool.{leb-true}
use Rattle.indexmap.specs.IndexSet.{insert_key, insert_all}
use Rattle.lc_num.specs.declared.vectors.Vec3.{Vec3}
use Rattle.lc_num.specs.Vectors.{Within}
use Rattle.lc_num.specs.Cosines.{scaled}
use Rattle.lc_scan.specs.Decimal.{decimal_of, units}
use Rattle.lc_scan.specs.Fields.{field_at, rest, values_in}
use Rattle.lc_scan.specs.declared.fault.NumFault.{NumFault}
use Rattle.lc_obj.specs.declared.mesh.Uv.{Uv}
use Rattle.lc_num.proofs.ScaledLemmas.{scaled_within}
use Rattle.lc_scan.specs.Lines.{Line}
use Rattle.lc_scan.specs.Spoken.{spoken}
use Rattle.lc_scan.specs.Faults.{first_fault}
use Rattle.lc_scan.proofs.LineTestLemmas.{both_passed, cons_both_passed, no_kind, unless_passed}
use Rattle.lc_scan.proofs.ReaderLemmas.{fault_then-none}
use Rattle.lc_obj.specs.FaultKinds.{kind_number}
use Rattle.lc_obj.specs.Corners.{AreTables, corner_of, corner_tests}
use Rattle.lc_obj.specs.Meshes.{AreNormals, IsFace, IsMesh}
use Rattle.lc_scan.specs.LineTests.{first_kind}
use Rattle.lc_obj.specs.ObjLine.{corners_tests, coordinate_in, coordinate_test, coordinate_tests, number_tests, count_test, face, face_tests, faces_by, faces_in, fan, is_kept, key, kind_of, line_tests, normals_by, places_by, room_test, three_normals, triangles_by, uses_by, uv_tests, uvs_by, vector, vector_tests}
use Rattle.lc_obj.specs.ObjFile.{fault_in, fault_of, faces_from, in_force, mesh, names, number_after, tables, triangles}
use Rattle.lc_obj.specs.declared.keyword.Keyword.{Keyword}
use Rattle.lc_obj.specs.declared.keyword.Keyword.TheVariants as keyword
use Rattle.lc_obj.specs.declared.fault_kind.FaultKind.{FaultKind}
use Rattle.lc_obj.specs.declared.fault_kind.FaultKind.TheVariants as kind
use Rattle.lc_obj.specs.declared.corner.Corner.{Corner}
use Rattle.lc_obj.specs.declared.mesh.Face.{Face}
use Rattle.lc_obj.specs.declared.tables.Tables.{Tables}
use Rattle.lc_obj.proofs.CornerLemmas.{IsCorner, corner_valid}
use Rattle.lc_obj.proofs.ReadLemmas.{faces_of_one_more, number_of_one_more, one_line_more, triangles_of_one_more, uses_of_one_more}
use Rattle.lc_obj.proofs.UseLemmas.{place_at_most, place_of_inserted}

-- ---- what the lines so far have given

-- the items are in their ranges, there are no more faces than triangles, and names are numbered within their list
pub record Fine (ls : List Line) : Type 0 where
  pub places : All (Within 50_000_000) (tables ls).places
  pub normals : All (Within 16384) (tables ls).normals
  pub few_places : length (tables ls).places ≤ 1_000_000
  pub few_uvs : length (tables ls).uvs ≤ 1_000_000
  pub few_normals : length (tables ls).normals ≤ 1_000_000
  pub faces : All (IsFace (names ls)) (faces_from [] ls)
  pub counted : length (faces_from [] ls) ≤ triangles ls
  pub few : triangles ls ≤ 1_000_000
  pub name : in_force ls ≤ length (names ls)

abbrev are_tables : (ls : List Line) → Fine ls → AreTables (tables ls)
are_tables ls h = record { places = h.places; normals = h.normals; few_places = h.few_places; few_uvs = h.few_uvs; few_normals = h.few_normals }

fine_nothing : Fine []
unfolding tables triangles faces_from in_force
fine_nothing = record {
  places = All-nil (Within 50_000_000);
  normals = All-nil (Within 16384);
  few_places = omega arith;
  few_uvs = omega arith;
  few_normals = omega arith;
  faces = All-nil (IsFace (names []));
  counted = omega arith;
  few = omega arith;
  name = omega arith;
}

-- ---- one line of numbers

room_left : (so_far more : ℕ) (k : FaultKind) → room_test so_far more k ≡ None → so_far + more ≤ 1_000_000
room_left so_far more k e = leb-true (so_far + more) 1000000 (unless_passed (leb (so_far + more) 1000000) k e)

coordinate_within : (r : Result ℤ NumFault) → coordinate_in r ≡ None → unsigned_abs (units r) ≤ 50_000_000
coordinate_within (Err e) h = absurd cc
coordinate_within (Ok z) h = leb-true (unsigned_abs z) 50000000 (unless_passed (leb (unsigned_abs z) 50000000) kind.Number h)

-- a vector that passes its tests
record IsVector (so_far : ℕ) (vs : List (List ℕ)) : Type 0 where
  within : Within 50_000_000 (vector vs)
  room : so_far + 1 ≤ 1_000_000

vector_fine : (so_far : ℕ) (vs : List (List ℕ)) → first_kind (vector_tests so_far vs) ≡ None → IsVector so_far vs
unfolding vector_tests vector
vector_fine so_far vs h =
    let all = both_passed (coordinate_tests vs) _ (cons_both_passed (count_test 3 kind.Words vs) _ h).1 in
    let x = cons_both_passed (coordinate_test (field_at 0 vs)) _ all.0 in
    let y = cons_both_passed (coordinate_test (field_at 1 vs)) _ x.1 in
    let z = cons_both_passed (coordinate_test (field_at 2 vs)) _ y.1 in
    record {
      within = record {
        x = coordinate_within (decimal_of (field_at 0 vs)) x.0;
        y = coordinate_within (decimal_of (field_at 1 vs)) y.0;
        z = coordinate_within (decimal_of (field_at 2 vs)) z.0;
      };
      room = room_left so_far 1 kind.Vertices (cons_both_passed (room_test so_far 1 kind.Vertices) _ all.1).0;
    }

uv_room : (so_far : ℕ) (vs : List (List ℕ)) → first_kind (uv_tests so_far vs) ≡ None → so_far + 1 ≤ 1_000_000
unfolding uv_tests
uv_room so_far vs h =
    let all = both_passed (number_tests vs) _ (cons_both_passed (count_test 1 kind.Words vs) _ h).1 in
    room_left so_far 1 kind.Vertices (cons_both_passed (room_test so_far 1 kind.Vertices) _ all.1).0

places_own : (k : Keyword) (t : Tables) (n : ℕ) (line : List ℕ) (vs : List (List ℕ)) → first_kind (line_tests k t n line vs) ≡ None → All (Within 50_000_000) (places_by k vs)
places_own keyword.Place t n line vs h = All-cons (Within 50_000_000) (vector vs) [] (vector_fine (length t.places) vs h).within (All-nil (Within 50_000_000))
places_own _ t n line vs h = All-nil (Within 50_000_000)

places_room : (k : Keyword) (t : Tables) (n : ℕ) (line : List ℕ) (vs : List (List ℕ)) → first_kind (line_tests k t n line vs) ≡ None → length t.places ≤ 1_000_000 → length t.places + length (places_by k vs) ≤ 1_000_000
places_room keyword.Place t n line vs h few = omega (arith, (vector_fine (length t.places) vs h).room)
places_room _ t n line vs h few = omega arith

uvs_room : (k : Keyword) (t : Tables) (n : ℕ) (line : List ℕ) (vs : List (List ℕ)) → first_kind (line_tests k t n line vs) ≡ None → length t.uvs ≤ 1_000_000 → length t.uvs + length (uvs_by k vs) ≤ 1_000_000
uvs_room keyword.Uv t n line vs h few = omega (arith, uv_room (length t.uvs) vs h)
uvs_room _ t n line vs h few = omega arith

normals_own : (k : Keyword) (vs : List (List ℕ)) → All (Within 16384) (normals_by k vs)
normals_own keyword.Normal vs = All-cons (Within 16384) (scaled (vector vs) 16384) [] (scaled_within (vector vs) 16384) (All-nil (Within 16384))
normals_own _ vs = All-nil (Within 16384)

normals_room : (k : Keyword) (t : Tables) (n : ℕ) (line : List ℕ) (vs : List (List ℕ)) → first_kind (line_tests k t n line vs) ≡ None → length t.normals ≤ 1_000_000 → length t.normals + length (normals_by k vs) ≤ 1_000_000
normals_room keyword.Normal t n line vs h few = omega (arith, (vector_fine (length t.normals) vs h).room)
normals_room _ t n line vs h few = omega arith

-- ---- one face

rest_of : {X : Type 0} (P : X → Type 0) (x : X) (xs : List X) → All P (x ∷ xs) → All P xs
rest_of P x xs h = λ k d lt. h (suc k) d (omega arith)

corners_valid : (t : Tables) (vs : List (List ℕ)) → AreTables t → first_kind (corners_tests t vs) ≡ None → All IsCorner (map (corner_of t) vs)
unfolding corners_tests
corners_valid t [] valid h = All-nil IsCorner
corners_valid t (v ∷ vs) valid h =
    let both = both_passed (corner_tests t v) (flat_map (corner_tests t) vs) h in
    All-cons IsCorner (corner_of t v) (map (corner_of t) vs) (corner_valid t v valid both.0) (corners_valid t vs valid both.1)

normals_valid : (a b c : Option Vec3) → IfSome a (Within 16384) → IfSome b (Within 16384) → IfSome c (Within 16384) → IfSome (three_normals a b c) AreNormals
normals_valid (Some a) (Some b) (Some c) p q r = record { a = p; b = q; c = r }
normals_valid (Some a) (Some b) None p q r = search rules
normals_valid (Some a) None c p q r = search rules
normals_valid None b c p q r = search rules

face_valid : (known : List (List ℕ)) (name : ℕ) (a b c : Corner) → name ≤ length known → IsCorner a → IsCorner b → IsCorner c → IsFace known (face name a (b, c))
face_valid known name a b c few p q r = record {
  tri = record { a = p.place; b = q.place; c = r.place };
  normals = normals_valid a.normal b.normal c.normal p.normal q.normal r.normal;
  name = few;
}

pairs_valid : (known : List (List ℕ)) (name : ℕ) (a : Corner) (bs cs : List Corner) → name ≤ length known → IsCorner a → All IsCorner bs → All IsCorner cs → All (IsFace known) (map (face name a) (zip bs cs))
pairs_valid known name a [] cs few p q r = All-nil (IsFace known)
pairs_valid known name a (b ∷ bs) [] few p q r = All-nil (IsFace known)
pairs_valid known name a (b ∷ bs) (c ∷ cs) few p q r =
    All-cons (IsFace known) (face name a (b, c)) (map (face name a) (zip bs cs)) (face_valid known name a b c few p (q 0 b (omega arith)) (r 0 c (omega arith)))
    (pairs_valid known name a bs cs few p (rest_of IsCorner b bs q) (rest_of IsCorner c cs r))

all_but_first : (cs : List Corner) → All IsCorner cs → All IsCorner (drop 1 cs)
all_but_first [] h = All-nil IsCorner
all_but_first (c ∷ cs) h = rest_of IsCorner c cs h

fan_valid : (known : List (List ℕ)) (name : ℕ) (cs : List Corner) → name ≤ length known → All IsCorner cs → All (IsFace known) (fan name cs)
fan_valid known name [] few h = All-nil (IsFace known)
fan_valid known name (a ∷ others) few h =
    let all = rest_of IsCorner a others h in pairs_valid known name a others (drop 1 others) few (h 0 a (omega arith)) all (all_but_first others all)

faces_valid : (known : List (List ℕ)) (t : Tables) (name : ℕ) (vs : List (List ℕ)) → AreTables t → name ≤ length known → first_kind (corners_tests t vs) ≡ None → All (IsFace known) (faces_in t name vs)
unfolding faces_in
faces_valid known t name vs valid few h =
    All-filter is_kept (IsFace known) (fan name (map (corner_of t) vs)) (fan_valid known name (map (corner_of t) vs) few (corners_valid t vs valid h))

-- a face that passes its tests
record IsFaceLine (t : Tables) (so_far : ℕ) (vs : List (List ℕ)) : Type 0 where
  corners : first_kind (corners_tests t vs) ≡ None
  room : so_far + (length vs - 2) ≤ 1_000_000

face_fine : (t : Tables) (so_far : ℕ) (vs : List (List ℕ)) → first_kind (face_tests t so_far vs) ≡ None → IsFaceLine t so_far vs
unfolding face_tests
face_fine t so_far vs h =
    let all = both_passed (corners_tests t vs) _ (cons_both_passed (count_test 3 kind.Face vs) _ h).1 in
    record { corners = all.0; room = room_left so_far (length vs - 2) kind.Triangles (cons_both_passed (room_test so_far (length vs - 2) kind.Triangles) _ all.1).0 }

faces_own : (known : List (List ℕ)) (k : Keyword) (t : Tables) (n name : ℕ) (line : List ℕ) (vs : List (List ℕ)) → AreTables t → name ≤ length known → first_kind (line_tests k t n line vs) ≡ None → All (IsFace known) (faces_by t name k vs)
faces_own known keyword.Face t n name line vs valid few h = faces_valid known t name vs valid few (face_fine t n vs h).corners
faces_own known _ t n name line vs valid few h = All-nil (IsFace known)

triangles_room : (k : Keyword) (t : Tables) (n : ℕ) (line : List ℕ) (vs : List (List ℕ)) → first_kind (line_tests k t n line vs) ≡ None → n ≤ 1_000_000 → n + triangles_by k vs ≤ 1_000_000
triangles_room keyword.Face t n line vs h few = (face_fine t n vs h).room
triangles_room _ t n line vs h few = omega arith

fan_length : (name : ℕ) (cs : List Corner) → length (fan name cs) ≤ length cs - 2
fan_length name [] = omega arith
fan_length name (a ∷ others) = omega (arith, length-map (zip others (drop 1 others)) (face name a), length-zip others (drop 1 others), length-drop 1 others)

faces_counted : (t : Tables) (name : ℕ) (vs : List (List ℕ)) → length (faces_in t name vs) ≤ length vs - 2
unfolding faces_in
faces_counted t name vs =
    let cs = map (corner_of t) vs in
    omega (arith, length-filter is_kept (fan name cs), count_by-le-length is_kept (fan name cs), fan_length name cs, length-map vs (corner_of t))

faces_few : (k : Keyword) (t : Tables) (name : ℕ) (vs : List (List ℕ)) → length (faces_by t name k vs) ≤ triangles_by k vs
faces_few keyword.Face t name vs = faces_counted t name vs
faces_few _ t name vs = omega arith

-- ---- names

found_place : {X : Type 0} (p : X → Bool) (xs : List X) → list_any p xs ≡ true → position_or_len p xs < length xs
found_place p [] e = absurd cc
found_place p (x ∷ xs) e = by_first (p x) e (found_place p xs)
  where
    by_first : (b : Bool) → (b || list_any p xs) ≡ true → (list_any p xs ≡ true → position_or_len p xs < length xs) → cond (not b) (1 + position_or_len p xs) 0 < length (x ∷ xs)
    by_first true f later = omega arith
    by_first false f later = omega (arith, later f)

inserted_place : (known : List (List ℕ)) (x : List ℕ) → position_or_len (bytes_eq x) (insert_key bytes_eq known x) < length (insert_key bytes_eq known x)
inserted_place known x = by_found (list_any (bytes_eq x) known) refl
  where
    by_found : (b : Bool) → list_any (bytes_eq x) known ≡ b → position_or_len (bytes_eq x) (insert_key bytes_eq known x) < length (cond b known (known ++ x ∷ []))
    by_found true e = omega (arith, place_of_inserted known x, found_place (bytes_eq x) known e)
    by_found false e = omega (arith, place_of_inserted known x, place_at_most known x, length-append known (x ∷ []))

longer : (known : List (List ℕ)) (x : List ℕ) → length known ≤ length (insert_key bytes_eq known x)
longer known x = by_found (list_any (bytes_eq x) known)
  where
    by_found : (b : Bool) → length known ≤ length (cond b known (known ++ x ∷ []))
    by_found true = omega arith
    by_found false = omega (arith, length-append known (x ∷ []))

no_fewer_names : (k : Keyword) (line : List ℕ) (known : List (List ℕ)) → length known ≤ length (insert_all bytes_eq known (uses_by k line))
no_fewer_names keyword.Use line known = longer known (rest line)
no_fewer_names _ line known = omega arith

number_within : (k : Keyword) (line : List ℕ) (known : List (List ℕ)) (before : ℕ) → before ≤ length known → number_after before (insert_all bytes_eq known (uses_by k line)) (last_or None (uses_by k line)) ≤ length (insert_all bytes_eq known (uses_by k line))
number_within keyword.Use line known before h = omega (arith, inserted_place known (rest line))
number_within _ line known before h = h

-- ---- one line

more_places : (ls : List Line) (l : Line) → (tables (ls ++ l ∷ [])).places ≡ (tables ls).places ++ places_by (key l.bytes) (values_in l.bytes)
unfolding tables
more_places ls l = one_line_more (λ (m : Line). places_by (key m.bytes) (values_in m.bytes)) ls l

more_uvs : (ls : List Line) (l : Line) → (tables (ls ++ l ∷ [])).uvs ≡ (tables ls).uvs ++ uvs_by (key l.bytes) (values_in l.bytes)
unfolding tables
more_uvs ls l = one_line_more (λ (m : Line). uvs_by (key m.bytes) (values_in m.bytes)) ls l

more_normals : (ls : List Line) (l : Line) → (tables (ls ++ l ∷ [])).normals ≡ (tables ls).normals ++ normals_by (key l.bytes) (values_in l.bytes)
unfolding tables
more_normals ls l = one_line_more (λ (m : Line). normals_by (key m.bytes) (values_in m.bytes)) ls l

same_face : (known more : List (List ℕ)) → length known ≤ length more → (f : Face) → IsFace known f → IsFace more f
same_face known more le f h = record { tri = h.tri; normals = h.normals; name = le_trans h.name le }

names_grow : (ls : List Line) (l : Line) → length (names ls) ≤ length (names (ls ++ l ∷ []))
names_grow ls l = omega (arith, ap (λ (ns : List (List ℕ)). length ns) (uses_of_one_more ls l), no_fewer_names (key l.bytes) l.bytes (names ls))

number_fine : (ls : List Line) (l : Line) → in_force ls ≤ length (names ls) → in_force (ls ++ l ∷ []) ≤ length (names (ls ++ l ∷ []))
number_fine ls l h =
    let e = uses_of_one_more ls l in
    rw (number_of_one_more ls l, e) (number_within (key l.bytes) l.bytes (names ls) (in_force ls) h)

fine_line : (ls : List Line) (l : Line) → first_kind (line_tests (key l.bytes) (tables ls) (triangles ls) l.bytes (values_in l.bytes)) ≡ None → Fine ls → Fine (ls ++ l ∷ [])
fine_line ls l e h =
    let k = key l.bytes in
    let vs = values_in l.bytes in
    let t = tables ls in
    let n = triangles ls in
    let grown = names_grow ls l in
    let all = names (ls ++ l ∷ []) in
    let old : All (IsFace all) (faces_from [] ls) = All-weaker (IsFace (names ls)) (IsFace all) (same_face (names ls) all grown) (faces_from [] ls) h.faces in
    let own : All (IsFace all) (faces_by t (in_force ls) k vs) = faces_own all k t n (in_force ls) l.bytes vs (are_tables ls h) (le_trans h.name grown) e in
    record {
      places = subst (λ (ps : List Vec3). All (Within 50_000_000) ps) (sym (more_places ls l)) (All-append (Within 50_000_000) t.places (places_by k vs) h.places (places_own k t n l.bytes vs e));
      normals = subst (λ (ps : List Vec3). All (Within 16384) ps) (sym (more_normals ls l)) (All-append (Within 16384) t.normals (normals_by k vs) h.normals (normals_own k vs));
      few_places = omega (arith, ap (λ (ps : List Vec3). length ps) (more_places ls l), length-append t.places (places_by k vs), places_room k t n l.bytes vs e h.few_places);
      few_uvs = omega (arith, ap (λ (ps : List Uv). length ps) (more_uvs ls l), length-append t.uvs (uvs_by k vs), uvs_room k t n l.bytes vs e h.few_uvs);
      few_normals = omega (arith, ap (λ (ps : List Vec3). length ps) (more_normals ls l), length-append t.normals (normals_by k vs), normals_room k t n l.bytes vs e h.few_normals);
      faces = subst (λ (fs : List Face). All (IsFace all) fs) (sym (faces_of_one_more ls l)) (All-append (IsFace all) (faces_from [] ls) (faces_by t (in_force ls) k vs) old own);
      counted = omega (arith, ap (λ (fs : List Face). length fs) (faces_of_one_more ls l), length-append (faces_from [] ls) (faces_by t (in_force ls) k vs), faces_few k t (in_force ls) vs, h.counted, triangles_of_one_more ls l);
      few = omega (arith, triangles_of_one_more ls l, triangles_room k t n l.bytes vs e h.few);
      name = number_fine ls l h.name;
    }

-- ---- the text

passes : (ls : List Line) (l : Line) → fault_of ls l ≡ None → first_kind (line_tests (key l.bytes) (tables ls) (triangles ls) l.bytes (values_in l.bytes)) ≡ None
unfolding kind_of
passes ls l h = no_kind kind_number (kind_of (tables ls) (triangles ls) l.bytes) h

all_fine : (before later : List Line) → first_fault fault_of before later ≡ None → Fine before → Fine (before ++ later)
unfolding first_fault
all_fine before [] h fine = subst (λ (ls : List Line). Fine ls) (sym (append-nil before)) fine
all_fine before (l ∷ later) h fine =
    let both = fault_then-none (fault_of before l) l.number (first_fault fault_of (before ++ l ∷ []) later) h in
    subst (λ (ls : List Line). Fine ls) (append_assoc before (l ∷ []) later) (all_fine (before ++ l ∷ []) later both.1 (fine_line before l (passes before l both.0) fine))

-- the mesh of a text without a fault is within its ranges
pub mesh_valid : (text : List ℕ) → fault_in text ≡ None → IsMesh (mesh text)
unfolding fault_in mesh
mesh_valid text h = let fine = all_fine [] (spoken text) h fine_nothing in record { faces = fine.faces; few = le_trans fine.counted fine.few }
