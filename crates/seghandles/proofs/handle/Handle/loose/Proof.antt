-- `loose` takes the pointer out of the handle: what the handle owns is what a loose box owns, or nothing.
use Rattle.std.proofs.Common.{◌≡◌, List, [], ◌∷◌, ◌++◌, refl, sym, subst, Some, None, lit<}
use mathlib.Core.Bool.{true, false}
use mir.Val.{Val, vbool, vptr, vcons, vnil}
use base.Logic.{SProp, ent, emp, id⊢}
use base.Fml.{ftrue}
use prog.Wp.{Env, WpFn}
use types.Kit.{fjoin, ‵, raw, ◌⊛◌, at_ret, ◌$◌, ◌∵◌, !, qed, by, move, keep, split, fsplit, suffices, use0, use1}
use types.Match.{live}
use types.Run.{lit, stop, fld, of_opd, no_more, and_then, first, branches, exec, returns, enter}
use types.ByLocal.{alloc_all, pass_all, free_all, look_at, get, get_in, sets, sets_last, env}
use types.Part.{agg, sub, whole}
use contract.Monad.{fact, fact_i}
use contract.Running.{tables}
use denote.Exit.{yes}
use denote.RattleType.{RattleType, owns}
use denote.RawPtr.{block_ptr, ptr_val, rawptr_Lawful}
use denote.Signature.{types_at, plain}
use denote.Steps.{nothing}
use denote.Triple.Walked.{Stays, stay_dropped, walk_of, Goes-dropped}
use Rattle.core.proofs.atomic.Steps.{tail}
use Rattle.core.proofs.alloc.Calls.{handle_tells}
use Rattle.core.proofs.option.Made.{Some-of, none_of}
use Rattle.core.specs.contracts.option.Option.{the_row as OptionOf}
use Rattle.std.proofs.raw_atomic.Walks.{proved_at, leaves}
use Rattle.std_heap.proofs.Global.TheLaws as heap_laws
use Rattle.std_heap.specs.contracts.GlobalAllocator.TheImpl.{ghosts}
use Rattle.seghandles.proofs.Values.{both, heap, heap_al, Handle, Kept, Loose, loose_good, bare_good, loose_in, handle_out}
use Rattle.std_alloc.proofs.ResultValues.{and_tt}
use Rattle.seghandles.specs.contracts.handle.Handle.loose.{ended, clauses}
use Rattle.seghandles.specs.contracts.handle.Handle.loose.Key.{name as #self}
use Rattle.seghandles.proofs.handle.Handle.loose.Statement.{statement}
use Rattle.seghandles.proofs.handle.Handle.loose.Code as code

pub loose_spec : {M : Type 1} → statement M
loose_spec 𝓤 𝓛 𝓜 𝓡 wired =
    let H = 𝓛.H in let 𝓣 = tables 𝓤 H 𝓜 𝓡 𝓡.env in let c = clauses 𝓛 𝓜.mem 𝓡.returns in let fn = code.function in
    let LZ = heap_laws.the_row_laws in let L : RattleType = Loose Kept heap LZ ghosts in
    let hs : Stays ended.signature.params ended.kept = (stay_dropped (plain (λ _. Handle)) yes, (stay_dropped (plain (λ _. heap)) yes, tt)) in
    proved_at 𝓛 ended hs c 𝓜 𝓡 (
      Goes-dropped 𝓛 0 (plain (λ _. Handle)) yes (λ κs x f. refl),
      (Goes-dropped 𝓛 0 (plain (λ _. heap)) yes (λ κs x f. refl), tt),
    ) #self fn (code.unfolded 𝓤 H 𝓜 𝓡 wired)
    (λ z are.
    let Post : Val → SProp 𝓤 = (walk_of 𝓛 ended hs c).post z in let Run : List Val → SProp 𝓤 = λ ws. WpFn 𝓤 H 𝓣.C 𝓣.Λ fn ws Post in
    let d = z.0.3.0 in let a = z.0.3.1.0 in
    let last = tail (tail (tail (tail fn.body))) in
    qed 𝓛 ((‵ ftrue ⊛ ‵ (owns (types_at ended.signature.params z.0.0) z.0.3 z.0.4)) ∷ raw ((c z.0.0 z.0.3).requires z.1) ∷ []) ∵ split ! $ move ! (1 ∷ []) $ fsplit ! $
    -- [the handle; the allocator; the tokens; the `requires`]
    move ! (1 ∷ []) $ fsplit ! $ handle_tells heap_al ! a z.0.4.1.0 (λ h ea fits. move ! (2 ∷ []) $
    handle_out ! d z.0.4.0
    (λ b o x is ev.
    let w : Val = both (vptr b o) (vbool true) in let us : List Val = w ∷ h ∷ [] in let made = loose_good Kept heap LZ ghosts b o h fits in
    let r : Val = live 1 (vcons (both (vptr b o) h) vnil) in let v : L.Denot = record { at = block_ptr b o; alloc = a; value = x } in
    suffices ! (Run us) (subst (λ (ws : List Val). ent 𝓤 (Run us) (Run ws)) (sym (λ i. ev i ++ (ea i ++ []))) (id⊢ 𝓤 (Run us))) $
    enter ! 𝓣.C 𝓣.Λ fn us Post $ alloc_all ! (λ l. pass_all ! refl ((tt, (tt, (tt, tt))), (fits, tt)) $ let En : Env 𝓤 H = env fn.locals l in
    sets ! (of_opd ! (get_in ! (fld ! refl (stop !)) (sub ! 0 refl (whole !)))) refl (tt, tt) $
    sets ! (of_opd ! (get_in ! (fld ! refl (stop !)) (sub ! 1 refl (whole !)))) refl (tt, tt) $
    sets ! (of_opd ! (get ! refl)) refl (tt, tt) $ first ! $ branches ! (get ! refl)
    (λ _. sets ! (of_opd ! (get ! refl)) refl (tt, tt) $
    sets ! (agg ! (and_then ! (get ! refl) (and_then ! (get ! refl) (no_more !)))) refl made $
    sets_last ! (agg ! (and_then ! (lit ! tt) (and_then ! (get ! refl) (no_more !)))) refl (and_tt _ made.0, (record { fits = lit< tt }, (made.1, tt))) $ exec ! 𝓣.C 𝓣.Λ En last (at_ret En Post) $
    sets ! (of_opd ! (get ! refl)) refl (and_tt _ made.0, (record { fits = lit< tt }, (made.1, tt))) $
    loose_in Kept heap LZ ghosts ! b o h a x $ use1 𝓛 (‵ ((OptionOf L).own_val (Some v) (r ∷ []))) (Some-of 𝓛 L v (both (vptr b o) h)) $
    use0 𝓛 (raw (fact 𝓤 (d.value ≡ Some x))) (fact_i 𝓤 (d.value ≡ Some x) (emp 𝓤) is) $ nothing ! $ nothing ! $ fjoin ! $ nothing ! $ fjoin ! $
    returns ! (look_at ! 0 refl) $ free_all ! refl $ keep ! (4 ∷ 0 ∷ 2 ∷ 1 ∷ []) $
    by ! (leaves 𝓛 ended hs c z r (Some v) (tt, (tt, tt)) (tt, (tt, tt))))
    (λ no. absurd no)))
    (λ p is ev.
    let w : Val = both (ptr_val p) (vbool false) in let us : List Val = w ∷ h ∷ [] in let r : Val = live 0 vnil in
    suffices ! (Run us) (subst (λ (ws : List Val). ent 𝓤 (Run us) (Run ws)) (sym (λ i. ev i ++ (ea i ++ []))) (id⊢ 𝓤 (Run us))) $
    enter ! 𝓣.C 𝓣.Λ fn us Post $ alloc_all ! (λ l. pass_all ! refl (bare_good p, (fits, tt)) $ let En : Env 𝓤 H = env fn.locals l in
    sets ! (of_opd ! (get_in ! (fld ! refl (stop !)) (sub ! 0 refl (whole !)))) refl ((rawptr_Lawful 𝓛).typed p (ptr_val p ∷ []) refl).0 $
    sets ! (of_opd ! (get_in ! (fld ! refl (stop !)) (sub ! 1 refl (whole !)))) refl (tt, tt) $
    sets ! (of_opd ! (get ! refl)) refl (tt, tt) $ first ! $ branches ! (get ! refl)
    (λ no. absurd no)
    (λ _. sets_last ! (agg ! (and_then ! (lit ! tt) (no_more !))) refl (tt, (record { fits = lit< tt }, tt)) $ exec ! 𝓣.C 𝓣.Λ En last (at_ret En Post) $
    sets ! (of_opd ! (get ! refl)) refl (tt, (record { fits = lit< tt }, tt)) $ use0 𝓛 (‵ ((OptionOf L).own_val None (r ∷ []))) (none_of 𝓛 L) $
    use0 𝓛 (raw (fact 𝓤 (d.value ≡ None))) (fact_i 𝓤 (d.value ≡ None) (emp 𝓤) is) $ nothing ! $ nothing ! $ fjoin ! $ nothing ! $ fjoin ! $
    returns ! (look_at ! 0 refl) $ free_all ! refl $ keep ! (5 ∷ 0 ∷ 2 ∷ 1 ∷ []) $
    by ! (leaves 𝓛 ended hs c z r None (tt, (tt, tt)) (tt, (tt, tt))))))))
