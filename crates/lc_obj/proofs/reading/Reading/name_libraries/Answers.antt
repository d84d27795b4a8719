use Rattle.std.proofs.Common.{◌∙◌, sym, refl, arith}
use Rattle.std.proofs.lemmas.List.{append-nil}
use Rattle.std.proofs.lemmas.Result.{on_ok_weaker, IfErr-weaker}
use Rattle.lc_obj.proofs.LibraryLemmas.{no_library, some_libraries}
use Rattle.lc_obj.proofs.LineLemmas.{same_stop}
use Rattle.lc_obj.proofs.reading.Reading.name_libraries.Goals as goal

pub returns-then-value_count-eq0-clause-fault : goal.returns-then-value_count-eq0-clause-fault
returns-then-value_count-eq0-clause-fault c = no_library c.args.values.now (omega arith)

pub returns-clause-ok : goal.returns-clause-ok
returns-clause-ok c =
    let old = c.args.self.now in
    on_ok_weaker c.add_libraries.result
    (λ p. (
      some_libraries c.args.values.now (omega arith) ∙ p.0,
      record {
        places = sym (append-nil old.tables.places);
        uvs = sym (append-nil old.tables.uvs);
        normals = sym (append-nil old.tables.normals);
        triangles = omega arith;
        faces = sym (append-nil old.mesh.faces);
        used = refl;
        name = refl;
        named = p.1;
      },
    ))
    c.add_libraries.ensures.ok

pub returns-clause-fault : goal.returns-clause-fault
returns-clause-fault c =
    IfErr-weaker c.add_libraries.result _ _ (λ s h. same_stop s _ _ (sym (some_libraries c.args.values.now (omega arith))) h) c.add_libraries.ensures.fault
