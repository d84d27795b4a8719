-- An empty body. The borrow is opened, and closed at the longer list.
use Rattle.std.proofs.Common.{List, [], ◌∷◌, ◌++◌, refl}
use Rattle.std.proofs.raw_atomic.Walks.{proved}
use mir.Syntax.{named}
use mir.Val.{Val, vunit, vptr}
use base.Fml.{ftrue, flft}
use base.Logic.{id⊢}
use contract.Lifetimes.{Lfts}
use types.Kit.{‵, ◌⊛◌, ◌$◌, ◌∵◌, !, qed, move, drop, use1, split, join, fsplit, fsplit3, fjoin, fjoin3, feq_i, suffices, frame, done}
use types.Run.{unit_lit, of_opd, returns, enter}
use types.ByLocal.{alloc_all, pass_all, free_all, look_at, sets}
use denote.Builtin.{u8}
use denote.RattleType.{RattleType, owns}
use denote.Ref.{MutRef, ShrRef, mut_vals, mut_Tells, shr_vals, shr_Tells}
use denote.Slice.{ShrSlice, shr_slice_vals, shr_slice_Tells}
use denote.Such.{such_Tells}
use denote.Text.{StrRefOf, Utf8}
use denote.Exit.{yes}
use denote.Signature.{plain}
use denote.Steps.{opens, closes}
use denote.Triple.Walked.{says, Stays, stay_ref, stay_none, stay_none_ref, walk_of, Goes-ref, Goes-none, Goes-none_ref, ends_at}
use Rattle.lc_desk.specs.declared.log.Log.{Log}
use Rattle.lc_desk.specs.contracts.desk.Slot.{the_row as S}
use Rattle.lc_desk.specs.contracts.log.Log.{the_row as R}
use Rattle.lc_desk.specs.contracts.log.Log.begin as f
use Rattle.lc_desk.proofs.log.Log.begin.Statement.{statement}
use Rattle.lc_desk.proofs.log.Log.begin.Code as code

abbrev Name : Lfts 3 → RattleType
Name = (StrRefOf {n = 3} (2 ∷ []) tt).row

abbrev stayed : Stays (f.ended).signature.params (f.ended).kept
stayed = (stay_ref (0 ∷ []) tt (plain (λ _. R)), (stay_none_ref (1 ∷ []) tt (plain (λ _. S)) yes, (stay_none Name yes, tt)))

pub begin_spec : {M : Type 1} → statement M
begin_spec 𝓤 𝓛 𝓜 𝓡 wired =
    let c = f.clauses 𝓛 𝓜.mem 𝓡.returns in let W = walk_of 𝓛 f.ended stayed c in
    proved 𝓛 f.ended stayed c 𝓜 𝓡 (Goes-ref 𝓛 3 0 tt (plain (λ _. R)), (Goes-none_ref 𝓛 3 (1 ∷ []) tt (plain (λ _. S)) yes, (Goes-none 𝓛 3 Name yes (λ κs x w. refl), tt)))
    f.Key.name code.function (code.unfolded 𝓤 𝓛.H 𝓜 𝓡 wired)
    (λ κs. (mut_vals, (shr_vals, (shr_slice_vals, tt))))
    (λ κs. (mut_Tells (named 0) κs.0 R, (shr_Tells (named 1) κs.1.0 S, (such_Tells (ShrSlice (named 2) κs.1.1.0 u8) (λ x. Utf8 x.now) (λ x cs. (tt, tt)) shr_slice_vals (shr_slice_Tells (named 2) κs.1.1.0 u8), tt))))
    (λ κs qs bounds a _ are.
    let b = a.0.ref_ptr.0 in let o = a.0.ref_ptr.1 in let h = a.0.now in
    let noted : Log = record h { begins = h.begins ++ (a.1.0.now, a.1.1.0.now) ∷ [] } in
    let y : W.Ghost = ((κs, qs, bounds, a, (mut_vals a.0, (shr_vals a.1.0, (shr_slice_vals a.1.1.0, tt)))), tt) in
    qed 𝓛 (((‵ (flft κs.0 qs.0) ⊛ (‵ (flft κs.1.0 qs.1.0) ⊛ (‵ (flft κs.1.1.0 qs.1.1.0) ⊛ ‵ ftrue))) ⊛ ‵ (owns (MutRef (named 0) κs.0 R ∷ ShrRef (named 1) κs.1.0 S ∷ Name κs ∷ []) a (mut_vals a.0, (shr_vals a.1.0, (shr_slice_vals a.1.1.0, tt))))) ∷ ‵ ftrue ∷ []) ∵
    move ! (1 ∷ []) $ drop ! $ split ! $ split ! $ move ! (2 ∷ []) $ fsplit ! $ fsplit3 ! $ drop ! $ move ! (0 ∷ 1 ∷ 3 ∷ []) $
    -- [two parts of self; its token; the slot and the name; the other tokens]
    enter ! _ _ _ _ _ $ alloc_all ! (λ l. pass_all ! refl ((tt, tt), ((tt, tt), ((tt, (tt, (record { fits = are.1.1.0.0.0.1.0 }, tt))), tt))) $
    opens ! tt R b o (λ us.
    sets ! (of_opd ! (unit_lit !)) refl (tt, tt) $
    move ! (1 ∷ []) $ use1 𝓛 (‵ (R.own_val noted us)) (id⊢ 𝓤 _) $ move ! (1 ∷ 0 ∷ []) $ closes ! tt R noted us b o $
    returns ! (look_at ! 0 refl) $ free_all ! refl $
    suffices ! _ (ends_at 𝓛 f.ended stayed c y vunit tt (noted, (tt, (tt, tt))) (tt, (tt, (tt, tt)))) $ says ! refl $
    move ! (2 ∷ 4 ∷ []) $ join ! $ frame ! $ feq_i ! (List Val) (vptr b o ∷ []) (vptr b o ∷ []) refl $ fjoin3 ! $ fjoin ! $
    feq_i ! (List Val) (vunit ∷ []) (vunit ∷ []) refl $ move ! (1 ∷ 0 ∷ []) $ done !)))
