-- `kept` lends the value in its box, and the handle follows it.
use Rattle.std.proofs.Common.{List, [], ◌∷◌, refl, sym, ap, Some, None, lit<}
use mathlib.Core.Bool.{true, false}
use base.Fraction.{full_share}
use mir.Syntax.{named}
use mir.Raw.{raw as bare}
use mir.Val.{Val, vbool, vptr, vcons, vnil}
use base.Logic.{ent, sep}
use base.Fml.{Fml, GName, ftrue, fsep, flft, fobs, fres}
use types.Logic.{sem}
use types.Kit.{‵, raw, ◌⊛◌, some, later, await, pick, at_ret, ◌$◌, ◌∵◌, !, qed, by, done, move, keep, split, join, group, rewrite, use0, use1, fsplit, fsplit3, fjoin, fpack, suffices, frame}
use types.Match.{live}
use types.Part.{agg, sub, whole, look_in}
use types.Run.{lit, stop, fld, load, addr, un, of_opd, no_more, and_then, first, branches, blocks, skips, exec, returns, returns_within, enter}
use types.ByLocal.{alloc_all, pass_all, free_all, look_at, get, through, sets, sets_last, env}
use contract.Running.{tables}
use denote.Exit.{no}
use denote.Follow.{follows, follows_by, Part, lends_Part}
use denote.Memory.{cell_at, lone, mem, part_at, part_of}
use denote.RattleType.{RattleType}
use denote.RawPtr.{block_ptr, ptr_val}
use denote.Ref.{MutBor, MutRef, mut_vals, mut_Tells}
use denote.Signature.{plain, mut_ref_to}
use denote.Steps.{nothing, opens, closes}
use denote.Triple.Walked.{Stays, says, stay_dropped, walk_of, ends_at, Goes-spent_ref}
use Rattle.core.proofs.option.Made.{Some-of, none_of}
use Rattle.core.proofs.atomic.Steps.{tail}
use Rattle.core.specs.contracts.option.Option.{the_row as OptionOf}
use Rattle.std.proofs.raw_atomic.Walks.{proved}
use Rattle.seghandles.specs.Lending.{with_kept}
use Rattle.seghandles.specs.Token.{token}
use Rattle.seghandles.proofs.Values.{both, full_in, handle_is, Handle, Kept, none_at}
use Rattle.seghandles.specs.contracts.handle.Handle.kept.{ended, clauses}
use Rattle.seghandles.specs.contracts.handle.Handle.kept.Key.{name as #self}
use Rattle.seghandles.proofs.handle.Handle.kept.Statement.{statement}
use Rattle.seghandles.proofs.handle.Handle.kept.Code as code

abbrev stayed : Stays ended.signature.params ended.kept
stayed = (stay_dropped (mut_ref_to (0 ∷ []) tt (plain (λ _. Handle))) no, tt)

pub kept_spec : {M : Type 1} → statement M
unfolding follows_by part_of
kept_spec 𝓤 𝓛 𝓜 𝓡 wired =
    let c = clauses 𝓛 𝓜.mem 𝓡.returns in let W = walk_of 𝓛 ended stayed c in let 𝓣 = tables 𝓤 𝓛.H 𝓜 𝓡 𝓡.env in let fn = code.function in
    proved 𝓛 ended stayed c 𝓜 𝓡 (Goes-spent_ref 𝓛 1 (0 ∷ []) tt (plain (λ _. Handle)), tt)
    #self fn (code.unfolded 𝓤 𝓛.H 𝓜 𝓡 wired) (λ κs. (mut_vals, tt)) (λ κs. (mut_Tells (named 0) κs.0 Handle, tt)) (λ κs qs bounds a _ are.
    let rb = a.0.ref_ptr.0 in let ro = a.0.ref_ptr.1 in let γ = a.0.ghost_name in let h = a.0.now in let vs = mut_vals a.0 in
    let y : W.Ghost = ((κs, qs, bounds, a, (vs, tt)), tt) in
    let Lent : RattleType = MutRef (named 0) κs.0 Kept in
    let Cell : List Val → Fml = λ us. cell_at full_share Handle.mir us rb ro in
    qed 𝓛 (((‵ (flft κs.0 qs.0) ⊛ ‵ ftrue) ⊛ ‵ ((MutRef (named 0) κs.0 Handle).own_val a.0 vs) ⊛ ‵ ftrue) ∷ ‵ ftrue ∷ []) ∵
    split ! $ split ! $ move ! (2 ∷ []) $ split ! $ keep ! (0 ∷ 2 ∷ []) $
    enter ! _ _ _ _ _ $ alloc_all ! (λ l. pass_all ! refl ((tt, tt), tt) $
    fsplit3 ! $ move ! (1 ∷ 2 ∷ 3 ∷ []) $ opens ! tt Handle rb ro (λ us. move ! (1 ∷ []) $ handle_is ! h us
    (λ b o x is ev.
    -- [the box; the handle's cell; the open borrow, in three entries]
    let w : Val = both (vptr b o) (vbool true) in
    let Rest : Fml = fsep (token (bare (lone Kept.mir)) (block_ptr b o)) (Cell (w ∷ [])) in
    let back : (k : Kept.Denot) → ent 𝓤 (sep 𝓤 (sem 𝓛 ((mem Kept).own_at k b o)) (sem 𝓛 Rest)) (sem 𝓛 ((mem Handle).own_at (with_kept h k) rb ro)) = λ k.
    qed 𝓛 (‵ (part_at Kept full_share k b o) ∷ ‵ Rest ∷ []) ∵ move ! (1 ∷ []) $ fsplit ! $ move ! (2 ∷ 0 ∷ []) $ fjoin ! $ full_in ! b o k $
    rewrite ! 0 (λ (d : Handle.Denot). ‵ (Handle.own_val (with_kept d k) (w ∷ []))) (sym is) refl $ move ! (1 ∷ 0 ∷ []) $ fjoin ! $
    fpack ! (List Val) (λ ws. fsep (Cell ws) (Handle.own_val (with_kept h k) ws)) (w ∷ []) $ done ! in
    let exits : (δ : GName) → ent 𝓤 (Part 𝓛 Handle Kept (with_kept h) (named 0) κs.0 qs.0 rb ro b o γ (sem 𝓛 Rest) back x δ) (W.post y (live 1 (vcons (vptr b o) vnil))) = λ δ.
    let r : MutBor Kept.Denot = record { ref_ptr = (b, o); ghost_name = δ; now = x } in
    qed 𝓛 (‵ (Lent.own_val r (vptr b o ∷ [])) ∷ ‵ (flft κs.0 qs.0) ∷ ‵ (follows Handle Kept γ δ (with_kept h)) ∷ []) ∵
    use1 𝓛 (‵ ((OptionOf Lent).own_val (Some r) (live 1 (vcons (vptr b o) vnil) ∷ []))) (Some-of 𝓛 Lent r (vptr b o)) $
    suffices ! _ (ends_at 𝓛 ended stayed c y (live 1 (vcons (vptr b o) vnil)) (Some r) (tt, tt) (tt, tt)) $
    nothing ! $ nothing ! $ fjoin ! $ join ! $ nothing ! $ move ! (2 ∷ 0 ∷ []) $ join ! $ join ! $ frame ! $ says ! (ap (λ (d : Handle.Denot). d.value) is) $ done ! in
    fsplit ! $ rewrite ! 2 (λ (ws : List Val). ‵ (Cell ws)) ev refl $
    sets ! (of_opd ! (load ! (through ! refl (fld ! refl (stop !))) (look_in ! 2 (sub ! 1 refl (whole !))))) refl (tt, tt) $
    sets ! (un ! (get ! refl) tt) refl (tt, tt) $
    first ! $ branches ! (get ! refl)
    (λ no. absurd no)
    (λ _. skips ! $ exec ! 𝓣.C 𝓣.Λ (env fn.locals l) (tail (tail (tail fn.body))) (at_ret (env fn.locals l) (W.post y)) $
    first ! $ blocks ! $
    sets ! (of_opd ! (load ! (through ! refl (fld ! refl (stop !))) (look_in ! 2 (sub ! 0 refl (whole !))))) refl (tt, tt) $
    sets ! (of_opd ! (get ! refl)) refl (tt, tt) $
    sets ! (addr ! (through ! refl (stop !))) refl (tt, tt) $
    sets_last ! (agg ! (and_then ! (lit ! tt) (and_then ! (get ! refl) (no_more !)))) refl (tt, (record { fits = lit< tt }, (tt, tt))) $
    exec ! 𝓣.C 𝓣.Λ (env fn.locals l) (tail (tail (tail (tail fn.body)))) (at_ret (env fn.locals l) (W.post y)) $
    sets ! (of_opd ! (get ! refl)) refl (tt, (record { fits = lit< tt }, (tt, tt))) $
    move ! (1 ∷ 2 ∷ []) $ fjoin ! $ move ! (2 ∷ 3 ∷ 4 ∷ 1 ∷ 0 ∷ []) $ group ! 5 $
    use1 𝓛 (later (some (λ (δ : GName). raw (Part 𝓛 Handle Kept (with_kept h) (named 0) κs.0 qs.0 rb ro b o γ (sem 𝓛 Rest) back x δ))))
    (lends_Part 𝓛 Handle Kept (with_kept h) (named 0) κs.0 qs.0 rb ro b o γ (sem 𝓛 Rest) back (Handle.coded.code h) (Handle.coded.code h) x) $ await ! tt $ pick ! (λ δ.
    returns ! (look_at ! 0 refl) $ free_all ! refl $ keep ! (0 ∷ []) $ by ! (exits δ))))
    (λ is ev.
    let w : Val = both (ptr_val h.at) (vbool false) in
    let r : Val = live 0 vnil in
    let leaves : ent 𝓤 (sep 𝓤 (𝓛.A.obs γ (Handle.coded.code h)) (𝓛.A.lft κs.0 qs.0)) (W.post y r) =
    qed 𝓛 (‵ (fobs γ (Handle.coded.code h)) ∷ ‵ (flft κs.0 qs.0) ∷ []) ∵ use1 𝓛 (‵ (fres γ (Handle.coded.code h))) (𝓛.names.obs-res γ (Handle.coded.code h)) $ move ! (1 ∷ []) $
    use0 𝓛 (‵ ((OptionOf Lent).own_val None (r ∷ []))) (none_of 𝓛 Lent) $
    suffices ! _ (ends_at 𝓛 ended stayed c y r None (tt, tt) (tt, tt)) $
    nothing ! $ nothing ! $ fjoin ! $ join ! $ nothing ! $ move ! (2 ∷ 0 ∷ []) $ join ! $ join ! $ frame ! $ says ! (ap (λ (d : Handle.Denot). d.value) is) $ done ! in
    rewrite ! 0 (λ (ws : List Val). ‵ (Cell ws)) ev refl $
    sets ! (of_opd ! (load ! (through ! refl (fld ! refl (stop !))) (look_in ! 0 (sub ! 1 refl (whole !))))) refl (tt, tt) $
    sets ! (un ! (get ! refl) tt) refl (tt, tt) $
    first ! $ branches ! (get ! refl)
    (λ _. sets ! (agg ! (and_then ! (lit ! tt) (no_more !))) refl (tt, (record { fits = lit< tt }, tt)) $
    none_at ! h.at $ rewrite ! 0 (λ (d : Handle.Denot). ‵ (Handle.own_val d (w ∷ []))) (sym is) refl $ move ! (1 ∷ 0 ∷ []) $
    closes ! tt Handle h (w ∷ []) rb ro $
    returns_within ! (W.post y) refl (look_at ! 0 refl) $ free_all ! refl $ keep ! (0 ∷ 2 ∷ []) $ by ! leaves)
    (λ no. absurd no)))))
