-- What is handed back has no bytes, and as a value what was written with these bytes behind it.
use Rattle.std.proofs.Common.{[], ◌∷◌, ◌++◌, refl, ap, ◌∙◌}
use Rattle.std.proofs.raw_atomic.Walks.{proved}
use base.Fml.{Fml}
use mir.Syntax.{named}
use mir.Val.{Val, vstruct, vcons, vnil, of_list}
use contract.Running.{tables}
use types.Kit.{‵, raw, ◌⊛◌, ◌$◌, ◌∵◌, !, qed, move, keep, split, join, fjoin, use0, suffices, done}
use types.Run.{enter, of_opd, returns}
use types.ByLocal.{alloc_all, pass_all, free_all, look_at, get, sets}
use denote.RattleType.{owns}
use denote.Builtin.{u8, ArrayOf, SliceRefOf}
use denote.Exit.{yes}
use denote.Shadow.{makes_shadow}
use denote.Signature.{Slot, plain, types_at, type_at}
use denote.Slice.{shr_slice_vals, shr_slice_Tells}
use denote.Steps.{nothing}
use denote.Triple.Entry.{alive, Res}
use denote.Triple.Walked.{Stays, walk_of, says, stay_dropped, Goes-dropped, ends_at}
use Rattle.std.specs.contracts.snapshot.Snapshot.{the_row}
use Rattle.run_audit.specs.contracts.written.with_bytes as f
use Rattle.run_audit.proofs.written.with_bytes.Statement.{statement}
use Rattle.run_audit.proofs.written.with_bytes.Code as code

-- what was written, and the bytes
abbrev written_slot : Slot 1
written_slot = plain (λ κs. the_row (type_at {n = 1} (ArrayOf (plain (λ κs. u8)) (λ κs. tt) 0) κs))

abbrev bytes_slot : Slot 1
bytes_slot = SliceRefOf (0 ∷ []) tt (plain (λ κs. u8)) (λ κs. tt)

abbrev stayed : Stays f.ended.signature.params f.ended.kept
stayed = (stay_dropped _ yes, (stay_dropped _ yes, tt))

-- the machine value of what has no bytes
abbrev none : Val
none = vstruct (vcons (vstruct vnil) vnil)

pub with_bytes_spec : {M : Type 1} → statement M
with_bytes_spec 𝓤 𝓛 𝓜 𝓡 wired =
    let c = f.clauses 𝓛 𝓜.mem 𝓡.returns in let W = walk_of 𝓛 f.ended stayed c in let 𝓣 = tables 𝓤 𝓛.H 𝓜 𝓡 𝓡.env in
    proved 𝓛 f.ended stayed c 𝓜 𝓡 (Goes-dropped 𝓛 1 written_slot yes (λ κs x w. refl), (Goes-dropped 𝓛 1 bytes_slot yes (λ κs x w. refl), tt))
    f.Key.name code.function (code.unfolded 𝓤 𝓛.H 𝓜 𝓡 wired)
    (λ κs. ((λ x. none ∷ []), (shr_slice_vals, tt))) (λ κs. ((λ x vs is. is.0.1.0 ∙ ap (λ us. vstruct (of_list (us ++ [])) ∷ []) is.0.1.1.0.1.0), (shr_slice_Tells (named 0) κs.0 u8, tt))) (λ κs qs bounds a g are.
    let r : Res f.signature κs = record { marker = record {}; value = a.0.value ++ a.1.0.now } in
    let O : Fml = (type_at f.signature.result κs).own_val r (none ∷ []) in
    let y : W.Ghost = ((κs, qs, bounds, a, ((none ∷ []), (shr_slice_vals a.1.0, tt))), g) in
    qed 𝓛 ((raw (alive 𝓛 f.signature κs qs) ⊛ ‵ (owns (types_at f.signature.params κs) a y.0.4)) ∷ raw ((c κs a).requires g) ∷ []) ∵ split ! $ keep ! (0 ∷ []) $
    enter ! _ _ _ _ _ $ alloc_all ! (λ l. pass_all ! refl ((tt, (tt, tt)), ((tt, (tt, (record { fits = are.1.0.0.1.0 }, tt))), tt)) $
    sets ! (of_opd ! (get ! refl)) refl (tt, (tt, tt)) $
    returns ! (look_at ! 0 refl) $ free_all ! refl $
    use0 𝓛 (‵ O) (makes_shadow 𝓛 O ((λ vss. (tt, ((λ uss. (tt, tt)), tt))), tt) (((vstruct vnil ∷ [], tt), (refl, ((tt, (refl, tt)), tt))), tt)) $
    suffices ! _ (ends_at 𝓛 f.ended stayed c y none r (tt, (tt, tt)) (tt, (tt, tt))) $ says ! refl $
    nothing ! $ nothing ! $ fjoin ! $ nothing ! $ fjoin ! $ join ! $ move ! (1 ∷ 0 ∷ []) $ join ! $ done !))
