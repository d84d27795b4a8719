-- The lines seen so far, and what they say of the text.
use Rattle.std.proofs.Common.{◌≡◌, ℕ, ◌+◌, ◌<◌, ◌≤◌, ◌^◌, Bool, true, false, cond, List, [], ◌∷◌, ◌++◌, length, Option, Some, None, refl, sym, ap, ◌∙◌, append_assoc, arith, length-append, le_trans, subst, drop, nat_eq, length-drop}
use Rattle.std.specs.Prelude.{flat_map, option_map}
use Rattle.std.specs.List.{last_or, sum_by, starts_with}
use Rattle.std.proofs.lemmas.List.Elements.{All-nil}
use Rattle.lc_num.specs.Vectors.{Within}
use Rattle.std.specs.Str.{bytes_eq}
use Rattle.std.proofs.lemmas.List.{append-nil}
use Rattle.std.proofs.lemmas.Grind.{flat_map-append}
use Rattle.std.proofs.lemmas.List.Sums.{sum_by-append, length-filter, count_by-le-length}
use Rattle.std.proofs.lemmas.List.Splits.{length-slice_split}
use Rattle.indexmap.specs.IndexSet.{insert_all}
use Rattle.lc_num.specs.declared.vectors.Vec3.{Vec3}
use Rattle.lc_scan.specs.Lines.{Line, is_feed, joined, joins, last_line, line, lines, lines_of, pieces, without_mark}
use Rattle.lc_scan.specs.Spoken.{is_spoken, spoken, spoken_in}
use Rattle.lc_scan.proofs.ReaderLemmas as reader
use Rattle.lc_scan.proofs.ReaderLemmas.{Progress}
use Rattle.lc_obj.specs.FaultKinds.{kind_number}
use Rattle.lc_scan.specs.Fields.{values_in}
use Rattle.lc_obj.specs.ObjLine.{key, places_by, uvs_by, normals_by, faces_by, triangles_by, uses_by, libraries_by, kind_of}
use Rattle.lc_obj.specs.ObjFile.{tables, triangles, first_uses, uses, names, libs, number_after, in_force, faces_from, mesh, fault_of, fault_in}
use Rattle.lc_obj.specs.Readings.{Adds, IsReading}
use Rattle.lc_obj.specs.declared.keyword.Keyword.{Keyword}
use Rattle.lc_obj.specs.declared.keyword.Keyword.TheVariants as keyword
use Rattle.lc_obj.specs.declared.fault_kind.FaultKind.{FaultKind}
use Rattle.lc_obj.specs.declared.mesh.Face.{Face}
use Rattle.lc_obj.specs.declared.mesh.Mesh.{Mesh}
use Rattle.lc_obj.specs.declared.mesh.Uv.{Uv}
use Rattle.lc_obj.specs.declared.reading.Reading.{Reading}
use Rattle.lc_obj.specs.declared.tables.Tables.{Tables}
use Rattle.lc_obj.proofs.UseLemmas.{first_uses_more, first_uses_shorter}

-- ---- lists of lines

pub one_line_more : {A : Type 0} (f : Line → List A) (ls : List Line) (l : Line) → flat_map f (ls ++ l ∷ []) ≡ flat_map f ls ++ f l
one_line_more f ls l = flat_map-append f ls (l ∷ []) ∙ ap (λ xs. flat_map f ls ++ xs) (append-nil (f l))

pub faces_from-append : (before xs ys : List Line) → faces_from before (xs ++ ys) ≡ faces_from before xs ++ faces_from (before ++ xs) ys
unfolding faces_from
faces_from-append before [] ys = ap (λ (ls : List Line). faces_from ls ys) (sym (append-nil before))
faces_from-append before (x ∷ xs) ys =
    let own = faces_by (tables before) (in_force before) (key x.bytes) (values_in x.bytes) in
    ap (λ (fs : List Face). own ++ fs) (faces_from-append (before ++ x ∷ []) xs ys ∙ ap (λ (ls : List Line). faces_from (before ++ x ∷ []) xs ++ faces_from ls ys) (append_assoc before (x ∷ []) xs))
    ∙ sym (append_assoc own (faces_from (before ++ x ∷ []) xs) (faces_from (before ++ x ∷ xs) ys))

one_line : (before : List Line) (l : Line) → faces_from before (l ∷ []) ≡ faces_by (tables before) (in_force before) (key l.bytes) (values_in l.bytes)
unfolding faces_from
one_line before l = append-nil (faces_by (tables before) (in_force before) (key l.bytes) (values_in l.bytes))

pub faces_of_one_more : (ls : List Line) (l : Line) → faces_from [] (ls ++ l ∷ []) ≡ faces_from [] ls ++ faces_by (tables ls) (in_force ls) (key l.bytes) (values_in l.bytes)
faces_of_one_more ls l = faces_from-append [] ls (l ∷ []) ∙ ap (λ (fs : List Face). faces_from [] ls ++ fs) (one_line ls l)

pub uses_of_one_more : (ls : List Line) (l : Line) → names (ls ++ l ∷ []) ≡ insert_all bytes_eq (names ls) (uses_by (key l.bytes) l.bytes)
unfolding names
uses_of_one_more ls l =
    ap first_uses (one_line_more (λ (m : Line). uses_by (key m.bytes) m.bytes) ls l) ∙ first_uses_more (uses ls) (uses_by (key l.bytes) l.bytes)

pub libs_of_one_more : (ls : List Line) (l : Line) → libs (ls ++ l ∷ []) ≡ insert_all bytes_eq (libs ls) (libraries_by (key l.bytes) (values_in l.bytes))
unfolding libs
libs_of_one_more ls l =
    let named : Line → List (List ℕ) = λ m. libraries_by (key m.bytes) (values_in m.bytes) in
    ap first_uses (one_line_more named ls l) ∙ first_uses_more (flat_map named ls) (named l)

pub triangles_of_one_more : (ls : List Line) (l : Line) → triangles (ls ++ l ∷ []) ≡ triangles ls + triangles_by (key l.bytes) (values_in l.bytes)
unfolding triangles
triangles_of_one_more ls l =
    let own : Line → ℕ = λ m. triangles_by (key m.bytes) (values_in m.bytes) in
    sum_by-append own ls (l ∷ []) ∙ ap (λ n. sum_by own ls + n) (one own)
  where
    one : (own : Line → ℕ) → sum_by own (l ∷ []) ≡ own l
    one own = omega arith

last_or_more : (o : Option (List ℕ)) (xs ys : List (List ℕ)) → last_or o (xs ++ ys) ≡ last_or (last_or o xs) ys
last_or_more o [] ys = refl
last_or_more o (x ∷ xs) ys = last_or_more (Some x) xs ys

last_is : (a b : ℕ) (known : List (List ℕ)) (u : List ℕ) (us : List (List ℕ)) → number_after a known (last_or (Some u) us) ≡ number_after b known (last_or (Some u) us)
last_is a b known u [] = refl
last_is a b known u (v ∷ us) = last_is a b known v us

number_more : (known more xs us : List (List ℕ)) → more ≡ insert_all bytes_eq known us → number_after 0 more (last_or (last_or None xs) us) ≡ number_after (number_after 0 known (last_or None xs)) more (last_or None us)
number_more known more xs [] e = ap (λ (ns : List (List ℕ)). number_after 0 ns (last_or None xs)) e
number_more known more xs (u ∷ us) e = last_is 0 (number_after 0 known (last_or None xs)) more u us

pub number_of_one_more : (ls : List Line) (l : Line) → in_force (ls ++ l ∷ []) ≡ number_after (in_force ls) (names (ls ++ l ∷ [])) (last_or None (uses_by (key l.bytes) l.bytes))
unfolding in_force
number_of_one_more ls l =
    let us = uses_by (key l.bytes) l.bytes in
    ap (λ (o : Option (List ℕ)). number_after 0 (names (ls ++ l ∷ [])) o)
    (ap (last_or None) (one_line_more (λ (m : Line). uses_by (key m.bytes) m.bytes) ls l) ∙ last_or_more None (uses ls) us)
    ∙ number_more (names ls) (names (ls ++ l ∷ [])) (uses ls) us (uses_of_one_more ls l)

-- ---- what is held

pub record Holds (ls : List Line) (r : Reading) : Type 0 where
  pub tables_are : r.tables ≡ tables ls
  pub triangles_are : r.triangles ≡ triangles ls
  pub faces_are : r.mesh.faces ≡ faces_from [] ls
  pub used_are : r.used ≡ names ls
  pub name_is : r.name ≡ in_force ls
  pub named_are : r.named ≡ libs ls

same_tables : (places places' : List Vec3) (uvs uvs' : List Uv) (normals normals' : List Vec3) → places ≡ places' → uvs ≡ uvs' → normals ≡ normals'
    → ◌≡◌ {A = Tables} (record { places = places; uvs = uvs; normals = normals }) (record { places = places'; uvs = uvs'; normals = normals' })
same_tables places places' uvs uvs' normals normals' e f g = cc

tables_of_one_more : (ls : List Line) (l : Line) (t : Tables) → t.places ≡ (tables ls).places ++ places_by (key l.bytes) (values_in l.bytes) → t.uvs ≡ (tables ls).uvs ++ uvs_by (key l.bytes) (values_in l.bytes)
    → t.normals ≡ (tables ls).normals ++ normals_by (key l.bytes) (values_in l.bytes) → t ≡ tables (ls ++ l ∷ [])
unfolding tables
tables_of_one_more ls l t p u n =
    same_tables _ _ _ _ _ _ (p ∙ sym (one_line_more (λ (m : Line). places_by (key m.bytes) (values_in m.bytes)) ls l))
    (u ∙ sym (one_line_more (λ (m : Line). uvs_by (key m.bytes) (values_in m.bytes)) ls l)) (n ∙ sym (one_line_more (λ (m : Line). normals_by (key m.bytes) (values_in m.bytes)) ls l))

pub adds_a_line : (ls : List Line) (l : Line) (old new : Reading) → Adds (key l.bytes) l.bytes (values_in l.bytes) old new → Holds ls old → Holds (ls ++ l ∷ []) new
adds_a_line ls l old new a h =
    let used : new.used ≡ names (ls ++ l ∷ []) = a.used ∙ ap (λ (ns : List (List ℕ)). insert_all bytes_eq ns (uses_by (key l.bytes) l.bytes)) h.used_are ∙ sym (uses_of_one_more ls l) in
    record {
      tables_are = tables_of_one_more ls l new.tables (a.places ∙ ap (λ (t : Tables). t.places ++ places_by (key l.bytes) (values_in l.bytes)) h.tables_are)
          (a.uvs ∙ ap (λ (t : Tables). t.uvs ++ uvs_by (key l.bytes) (values_in l.bytes)) h.tables_are) (a.normals ∙ ap (λ (t : Tables). t.normals ++ normals_by (key l.bytes) (values_in l.bytes)) h.tables_are);
      triangles_are = a.triangles ∙ ap (λ n. n + triangles_by (key l.bytes) (values_in l.bytes)) h.triangles_are ∙ sym (triangles_of_one_more ls l);
      faces_are = a.faces ∙ ap (λ (fs : List Face). fs ++ faces_by old.tables old.name (key l.bytes) (values_in l.bytes)) h.faces_are
          ∙ ap (λ (t : Tables). faces_from [] ls ++ faces_by t old.name (key l.bytes) (values_in l.bytes)) h.tables_are
          ∙ ap (λ (n : ℕ). faces_from [] ls ++ faces_by (tables ls) n (key l.bytes) (values_in l.bytes)) h.name_is ∙ sym (faces_of_one_more ls l);
      used_are = used;
      name_is = a.name ∙ ap (λ (n : ℕ). number_after n new.used (last_or None (uses_by (key l.bytes) l.bytes))) h.name_is
          ∙ ap (λ (ns : List (List ℕ)). number_after (in_force ls) ns (last_or None (uses_by (key l.bytes) l.bytes))) used ∙ sym (number_of_one_more ls l);
      named_are = a.named ∙ ap (λ (ns : List (List ℕ)). insert_all bytes_eq ns (libraries_by (key l.bytes) (values_in l.bytes))) h.named_are ∙ sym (libs_of_one_more ls l);
    }

-- ---- how many names there are

use_at_most : (key : Keyword) (line : List ℕ) → length (uses_by key line) ≤ 1
use_at_most keyword.Place line = omega arith
use_at_most keyword.Uv line = omega arith
use_at_most keyword.Normal line = omega arith
use_at_most keyword.Face line = omega arith
use_at_most keyword.Use line = omega arith
use_at_most keyword.Library line = omega arith
use_at_most keyword.FreeForm line = omega arith
use_at_most keyword.Other line = omega arith

uses_at_most : (ls : List Line) → length (uses ls) ≤ length ls
uses_at_most [] = omega arith
uses_at_most (l ∷ ls) = omega (arith, length-append (uses_by (key l.bytes) l.bytes) (uses ls), use_at_most (key l.bytes) l.bytes, uses_at_most ls)

names_at_most : (ls : List Line) → length (names ls) ≤ length ls
unfolding names
names_at_most ls = le_trans (first_uses_shorter (uses ls)) (uses_at_most ls)

joined_at_most : (number : ℕ) (piece : List ℕ) (ls : List Line) → length (joined number piece ls) ≤ 1 + length ls
joined_at_most number piece [] = omega arith
joined_at_most number piece (next ∷ later) = omega arith

last_at_most : (number : ℕ) (piece : List ℕ) → length (last_line number piece) ≤ 1
last_at_most number [] = omega arith
last_at_most number (b ∷ bs) = omega arith

joined_or_not : (number : ℕ) (piece : List ℕ) (left : List Line) (most : ℕ) (b : Bool) → length left ≤ most → length (cond b (joined number piece left) (line number piece ∷ left)) ≤ most + 1
joined_or_not number piece left most true h = omega (arith, joined_at_most number piece left)
joined_or_not number piece left most false h = omega arith

lines_at_most : (number : ℕ) (ps : List (List ℕ)) → length (lines_of number ps) ≤ length ps
unfolding lines_of
lines_at_most number [] = omega arith
lines_at_most number (piece ∷ []) = omega (arith, last_at_most number piece)
lines_at_most number (piece ∷ next ∷ later) =
    omega (arith, joined_or_not number piece (lines_of (number + 1) (next ∷ later)) (length (next ∷ later)) (joins piece) (lines_at_most (number + 1) (next ∷ later)))

shorter_without_mark : (text : List ℕ) → length (without_mark text) ≤ length text
shorter_without_mark text = by_mark (starts_with nat_eq text (239 ∷ 187 ∷ 191 ∷ []))
  where
    by_mark : (b : Bool) → length (cond b (drop 3 text) text) ≤ length text
    by_mark true = omega (arith, length-drop 3 text)
    by_mark false = omega arith

spoken_at_most : (text : List ℕ) → length (spoken text) ≤ length text + 1
spoken_at_most text =
    omega (arith, length-filter is_spoken (lines text), count_by-le-length is_spoken (lines text), lines_at_most 1 (pieces (without_mark text)), length-slice_split is_feed (without_mark text), count_by-le-length is_feed (without_mark text), shorter_without_mark text)

-- ---- a reader's progress

pub record Read (text : List ℕ) (left : List Line) (r : Reading) : Type 0 where
  pub seen : List Line
  pub progress : Progress fault_of text seen (spoken_in left)
  pub holds : Holds seen r
  pub reading : IsReading r

pub few_names : (text : List ℕ) (left : List Line) (r : Reading) → length text ≤ 536_870_912 → Read text left r → length r.used < 2 ^ 30
few_names text left r short h =
    omega (arith, ap (λ (ns : List (List ℕ)). length ns) h.holds.used_are, names_at_most h.seen, ap (λ (ls : List Line). length ls) h.progress.spoken_is, length-append h.seen (spoken_in left), spoken_at_most text)

abbrev nothing : Reading
nothing = record { tables = record { places = []; uvs = []; normals = [] }; triangles = 0; mesh = record { faces = []; names = []; libs = [] }; used = []; name = 0; named = [] }

nothing_held : Holds [] nothing
unfolding tables triangles faces_from names in_force libs first_uses
nothing_held = record { tables_are = refl; triangles_are = refl; faces_are = refl; used_are = refl; name_is = refl; named_are = refl }

nothing_read : IsReading nothing
nothing_read = record {
  tables = record { places = All-nil (Within 50_000_000); normals = All-nil (Within 16384); few_places = omega arith; few_uvs = omega arith; few_normals = omega arith };
  triangles = omega arith;
  names = refl;
  libs = refl;
}

pub start : (text : List ℕ) (left : List Line) (r : Reading) → left ≡ lines text → r ≡ nothing → Read text left r
start text left r e f = record {
  seen = [];
  progress = subst (λ (ls : List Line). Progress fault_of text [] (spoken_in ls)) (sym e) (reader.start fault_of text);
  holds = subst (λ (s : Reading). Holds [] s) (sym f) nothing_held;
  reading = subst (λ (s : Reading). IsReading s) (sym f) nothing_read;
}

own_fault : (seen : List Line) (l : Line) (r : Reading) (o : Option FaultKind) → Holds seen r → kind_of r.tables r.triangles l.bytes ≡ o → fault_of seen l ≡ option_map kind_number o
own_fault seen l r o h e =
    ap (λ (t : Tables). option_map kind_number (kind_of t (triangles seen) l.bytes)) (sym h.tables_are) ∙ ap (λ (n : ℕ). option_map kind_number (kind_of r.tables n l.bytes)) (sym h.triangles_are)
    ∙ ap (λ (k : Option FaultKind). option_map kind_number k) e

pub takes : (text : List ℕ) (left later : List Line) (l : Line) (old new : Reading) → spoken_in left ≡ l ∷ spoken_in later → (kind_of old.tables old.triangles l.bytes ≡ None) × Adds (key l.bytes) l.bytes (values_in l.bytes) old new → IsReading new → Read text left old → Read text later new
takes text left later l old new e a valid h = record {
  seen = h.seen ++ l ∷ [];
  progress = reader.takes fault_of text h.seen (spoken_in left) (spoken_in later) l e (own_fault h.seen l old None h.holds a.0) h.progress;
  holds = adds_a_line h.seen l old new a.1 h.holds;
  reading = valid;
}

pub stops : (text : List ℕ) (left later : List Line) (l : Line) (r : Reading) (k : FaultKind) (number : ℕ) → spoken_in left ≡ l ∷ spoken_in later → kind_of r.tables r.triangles l.bytes ≡ Some k → number ≡ kind_number k → Read text left r → fault_in text ≡ Some (record { line = l.number; kind = number })
unfolding fault_in
stops text left later l r k number e bad n h =
    reader.stops fault_of text h.seen (spoken_in left) (spoken_in later) l (kind_number k) e (own_fault h.seen l r (Some k) h.holds bad) h.progress ∙ ap (λ (m : ℕ). Some (record { line = l.number; kind = m })) (sym n)

same_mesh : (faces faces' : List Face) (names names' libs libs' : List (List ℕ)) → faces ≡ faces' → names ≡ names' → libs ≡ libs' → ◌≡◌ {A = Mesh} (record { faces = faces; names = names; libs = libs }) (record { faces = faces'; names = names'; libs = libs' })
same_mesh faces faces' names names' libs libs' e f g = cc

held_mesh : (seen : List Line) (r : Reading) → Holds seen r → IsReading r → r.mesh ≡ record { faces = faces_from [] seen; names = names seen; libs = libs seen }
held_mesh seen r h valid = same_mesh _ _ _ _ _ _ h.faces_are (valid.names ∙ h.used_are) (valid.libs ∙ h.named_are)

pub ends : (text : List ℕ) (left : List Line) (r : Reading) → spoken_in left ≡ [] → Read text left r → (fault_in text ≡ None) × (r.mesh ≡ mesh text)
unfolding fault_in mesh
ends text left r e h =
    let over = reader.ends fault_of text h.seen (spoken_in left) e h.progress in
    (over.0, held_mesh h.seen r h.holds h.reading ∙ ap (λ (ls : List Line). record { faces = faces_from [] ls; names = names ls; libs = libs ls }) (sym over.1))
