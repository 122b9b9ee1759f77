-- The machine values of a `Loose` and of a `OnceBox`. Assumes `Logic`.
use Rattle.std.proofs.Common.{◌≡◌, ℕ, List, [], ◌∷◌, ◌++◌, refl, subst, ap}
use mathlib.Core.Bool.{Bool, true, false, ◌&&◌}
use lib.Dec.{T, lit<}
use seplogic.Ra.Ura.{Ura}
use mir.Syntax.{ty_ptr, impl, tnil, dnil}
use mir.Raw.{raw as bare}
use mir.Val.{Val, vptr, vstruct, vcons, vnil, of_list, has_ty, WT}
use base.Fml.{ftrue, ffalse}
use base.Logic.{never, never_e, fst∗}
use types.Logic.{Logic, sem}
use types.Kit.{given, learn, use1, Item, Goal, Seq, Step, step, ‵, ◌$◌, move, drop, fsplit, fjoin, fpick, fpack, feq_i, feq_l}
use denote.RattleType.{RattleType, Valss}
use denote.Builtin.{RawPtr}
use denote.Memory.{lone}
use denote.RawPtr.{Ptr, block_ptr, null_ptr, ptr_val, in_a_block}
use denote.Steps.{nothing}
use denote.Param.{layout}
use denote.Param.Laws.{Laws}
use denote.Struct.Struct.{within}
use denote.Struct.Owning.{shape}
use Rattle.core.specs.declared.alloc.Allocator.{Ghosts}
use Rattle.core.proofs.alloc.Calls.{Al, handle_tells}
use Rattle.core.proofs.cell.Inside.{Good}
use Rattle.std_alloc.specs.Box.Ownership.{box_owns}
use Rattle.std_alloc.proofs.ResultValues.{and_tt}
use denote.Builtin.{bool}
use mir.Val.{vbool, vnull}
use Rattle.std.proofs.Common.{Option, Some, None, ◌∙◌}
use Rattle.seghandles.specs.Token.{token}
use Rattle.seghandles.specs.Owned.{owns_if}
use Rattle.std_heap.specs.contracts.Global as global
use Rattle.std_heap.proofs.Global.TheLaws as heap_laws
use Rattle.std_heap.specs.contracts.GlobalAllocator.TheImpl.{ghosts}
use Rattle.seghandles.specs.contracts.kept.Kept as kept
use Rattle.seghandles.specs.contracts.handle.Handle as handle
use Rattle.seghandles.specs.contracts.loose.Loose as loose

abbrev pub both : Val → Val → Val
both v w = vstruct (vcons v (vcons w vnil))

module _ (R Z : RattleType) (L : Laws Z) (g : Ghosts Z.Denot) where
  abbrev pub Loose : RattleType
  Loose = loose.the_row R Z g

  abbrev al : Al
  al = record { row = Z; laws = L; g = g; d = impl [] tnil dnil; drops = impl [] tnil dnil }

  pub loose_good : (b o : ℕ) (h : Val) → Good (layout Z) h → T (has_ty (layout Z) h && true) × WT (both (vptr b o) h)
  loose_good b o h fits = (and_tt (has_ty (layout Z) h) fits.0, (tt, (fits.1, tt)))

  module _ {M : Type 1} {𝓤 : Ura M} {𝓛 : Logic 𝓤} {K : Type 0} {Γ : List (Item 𝓤)} {G : Goal 𝓤 𝓛.H} where
    pub loose_out : K → (d : Loose.Denot) (vs : List Val)
        → ((b o : ℕ) (h : Val) → d.at ≡ block_ptr b o → vs ≡ both (vptr b o) h ∷ [] → Good (layout Z) h
        → Seq K 𝓛 (‵ (box_owns (g.dealloc_token d.alloc) R (block_ptr b o) d.value) ∷ ‵
        (Z.own_val d.alloc (h ∷ [])) ∷ Γ) G)
        → Seq K 𝓛 (‵ (Loose.own_val d vs) ∷ Γ) G
    loose_out t d vs k =
        fsplit t $ fpick t (λ vss. fsplit t $ feq_l t (λ ev. fsplit t $ feq_l t (λ ep. fsplit t $ handle_tells al t d.alloc vss.1.0 (λ h ea fits. move t (1 ∷ []) $ drop t $ move t (1 ∷ []) $
        in_a_block t d.at (λ p. box_owns (g.dealloc_token d.alloc) R p d.value) (fst∗ 𝓤 (never 𝓤) (sem 𝓛 (g.dealloc_token d.alloc (bare (lone R.mir)) null_ptr))) (λ b o e. k b o h e
        (subst (λ (p : Ptr). vs ≡ vstruct (of_list (ptr_val p ∷ h ∷ [])) ∷ []) e
        (subst (λ (ws : List Val). vs ≡ vstruct (of_list (ptr_val d.at ∷ (ws ++ []))) ∷ []) ea (subst (λ (ps : List Val). vs ≡ vstruct (of_list (ps ++ (vss.1.0 ++ []))) ∷ []) ep ev))) fits)))))

    pub loose_in : K → (b o : ℕ) (h : Val) (a : Z.Denot) (x : R.Denot)
        → Step K 𝓛 (‵ (Loose.own_val (record { at = block_ptr b o; alloc = a; value = x }) (both (vptr b o) h ∷ []))
        ∷ Γ) G (‵ (box_owns (g.dealloc_token a) R (block_ptr b o) x) ∷ ‵ (Z.own_val a (h ∷ [])) ∷ Γ) G
    loose_in t b o h a x = step (λ s. let v : Val = both (vptr b o) h in
        nothing t $ move t (2 ∷ 0 ∷ []) $ fjoin t $ feq_i t (List Val) (vptr b o ∷ []) (vptr b o ∷ []) refl $ fjoin t $ feq_i t (List Val) (v ∷ []) (v ∷ []) refl $ fjoin t $
        fpack t (Valss (RawPtr ∷ Z ∷ [])) (within (shape (loose.the_type R Z g)) (block_ptr b o, (a, tt)) (v ∷ [])) (vptr b o ∷ [], (h ∷ [], tt)) $ fjoin t $ s)

-- the right to free a block of the heap, whoever has a handle of the heap
abbrev pub heap : RattleType
heap = global.the_row

abbrev pub Kept : RattleType
Kept = kept.the_row

abbrev pub Handle : RattleType
Handle = handle.the_row

abbrev fields : List RattleType
fields = RawPtr ∷ bool ∷ []

-- a handle of nothing has its type, whatever its pointer is
pub bare_good : (p : Ptr) → T (has_ty ty_ptr (ptr_val p) && true) × WT (both (ptr_val p) (vbool false))
bare_good (block_ptr b o) = (tt, (tt, (tt, tt)))
bare_good null_ptr = (tt, (record { fits = lit< tt }, (tt, tt)))

module _ {M : Type 1} {𝓤 : Ura M} {𝓛 : Logic 𝓤} {K : Type 0} {Γ : List (Item 𝓤)} {G : Goal 𝓤 𝓛.H} where
  -- a handle of a box
  pub full_in : K → (b o : ℕ) (x : Kept.Denot)
      → Step K 𝓛 (‵ (Handle.own_val (record { at = block_ptr b o; full = true; value = Some x }) (both (vptr b o) (vbool true) ∷ [])) ∷ Γ) G (‵ (box_owns token Kept (block_ptr b o) x) ∷ Γ) G
  full_in t b o x = step (λ s. let v : Val = both (vptr b o) (vbool true) in
      nothing t $ feq_i t (List Val) (vbool true ∷ []) (vbool true ∷ []) refl $ fjoin t $ feq_i t (List Val)
      (vptr b o ∷ []) (vptr b o ∷ []) refl $ fjoin t $ feq_i t (List Val) (v ∷ []) (v ∷ []) refl $ fjoin t $
      fpack t (Valss fields) (within (shape handle.the_type) (block_ptr b o, (true, tt)) (v ∷ [])) (vptr b o ∷ [], (vbool true ∷ [], tt)) $ fjoin t $ s)

  -- a handle of nothing, whatever its pointer is
  pub none_at : K → (p : Ptr)
      → Step K 𝓛 (‵ (Handle.own_val (record { at = p; full = false; value = None }) (both (ptr_val p) (vbool false) ∷ [])) ∷ Γ) G Γ G
  none_at t p = step (λ s. let v : Val = both (ptr_val p) (vbool false) in
      nothing t $ nothing t $ feq_i t (List Val) (vbool false ∷ []) (vbool false ∷ []) refl $ fjoin t $ feq_i t
      (List Val) (ptr_val p ∷ []) (ptr_val p ∷ []) refl $ fjoin t $ feq_i t (List Val) (v ∷ []) (v ∷ []) refl $ fjoin
      t $
      fpack t (Valss fields) (within (shape handle.the_type) (p, (false, tt)) (v ∷ [])) (ptr_val p ∷ [], (vbool false ∷ [], tt)) $ fjoin t $ s)

  pub none_in : K
      → Step K 𝓛 (‵ (Handle.own_val (record { at = null_ptr; full = false; value = None }) (both vnull (vbool false) ∷ [])) ∷ Γ) G Γ G
  none_in t = none_at t null_ptr

  -- a handle has a box, or nothing
  pub handle_is : K → (d : Handle.Denot) (vs : List Val)
      → ((b o : ℕ) (x : Kept.Denot) → d ≡ record { at = block_ptr b o; full = true; value = Some x } → vs ≡ both (vptr b o) (vbool true) ∷ []
      → Seq K 𝓛 (‵ (box_owns token Kept (block_ptr b o) x) ∷ Γ) G)
      → (d ≡ record { at = d.at; full = false; value = None } → vs ≡ both (ptr_val d.at) (vbool false) ∷ [] → Seq K 𝓛 Γ G)
      → Seq K 𝓛 (‵ (Handle.own_val d vs) ∷ Γ) G
  handle_is t d vs some none =
      fsplit t $ fpick t (λ vss. fsplit t $ feq_l t (λ ev. fsplit t $ feq_l t (λ ep. fsplit t $ feq_l t (λ eb. drop t $
      by_case d.full d.value refl refl (ev ∙ (λ j. vstruct (of_list (ep j ++ (eb j ++ []))) ∷ []))))))
    where
      impossible : Seq K 𝓛 (‵ ffalse ∷ Γ) G
      impossible = use1 𝓛 (given ⊥ (‵ ftrue)) (never_e 𝓤 _) $ learn t (λ z. absurd z)

      by_case : (f : Bool) (x : Option Kept.Denot) → d.full ≡ f → d.value ≡ x → vs ≡ both (ptr_val d.at) (vbool f) ∷ [] → Seq K 𝓛 (‵ (owns_if token Kept d.at f x) ∷ Γ) G
      by_case true (Some x) has is e =
          in_a_block t d.at (λ p. box_owns token Kept p x) (fst∗ 𝓤 (never 𝓤) (sem 𝓛 (token (bare (lone Kept.mir)) null_ptr))) (λ b o at.
          some b o x (λ i. record { at = at i; full = has i; value = is i }) (subst (λ (p : Ptr). vs ≡ both (ptr_val p) (vbool true) ∷ []) at e))
      by_case true None has is e = impossible
      by_case false (Some x) has is e = impossible
      by_case false None has is e = drop t $ none (λ i. record { at = d.at; full = has i; value = is i }) e

  pub handle_out : K → (d : Handle.Denot) (vs : List Val)
      → ((b o : ℕ) (x : Kept.Denot) → d.value ≡ Some x → vs ≡ both (vptr b o) (vbool true) ∷ [] → Seq K 𝓛 (‵ (box_owns token Kept (block_ptr b o) x) ∷ Γ) G)
      → ((p : Ptr) → d.value ≡ None → vs ≡ both (ptr_val p) (vbool false) ∷ [] → Seq K 𝓛 Γ G)
      → Seq K 𝓛 (‵ (Handle.own_val d vs) ∷ Γ) G
  handle_out t d vs some none =
      handle_is t d vs (λ b o x is. some b o x (ap (λ (k : Handle.Denot). k.value) is)) (λ is. none d.at (ap (λ (k : Handle.Denot). k.value) is))

abbrev pub heap_al : Al
heap_al = record { row = heap; laws = heap_laws.the_row_laws; g = ghosts; d = impl [] tnil dnil; drops = impl [] tnil dnil }
