-- A row of the pass's own on its way along a chain: the word that names it only moves forward until there is none, and then there is none for the rest of the filling.
use Rattle.std.proofs.Common.{◌≡◌, ℕ, ◌+◌, ◌*◌, ◌%◌, ◌≤◌, eqb, ◌⊎◌, List, [], ◌∷◌, ◌++◌, length, Some, sym, ap, ◌∙◌, subst, inl, inr, ⊎_elim, arith}
use Rattle.std.proofs.lemmas.Bool.{cases_Bool, cases_eq, cond-true, cond-false}
use Rattle.std.proofs.lemmas.List.{length-append}
use Rattle.std.proofs.lemmas.Option.{none-some}
use Rattle.segword.specs.Words.{Shape}
use Rattle.segmodel.specs.Words.{Begins, bucket_of, owner}
use Rattle.segcore.specs.Words.{bucket_after, by, Event, IsLawful, NoneRefills, Row, row_after, RowAt, RowGone}
use Rattle.segcore.proofs.Searches.{row_first, row_moves}
use Rattle.segcore.proofs.Segments.{row_since}
use Rattle.segcore.proofs.Standing.{coherent}
use Rattle.segbase.specs.Words.{AddsEvents, Board, number, own_of, Pass, trace}
use Rattle.segstore.proofs.Keeping.{AreCalmIn, calm_parts, calm_rest, own_linked}
use Rattle.segstore.proofs.Before.{one_before}

-- ---- none names it

-- an event that leaves the row linked as it was lets no word name it
one_gone : (z : Shape) (e : Event) (h : List Event) (s r : ℕ) → IsLawful z (e ∷ h) → (row_after (e ∷ h) s r).linked ≡ (row_after h s r).linked → RowGone z s r h → RowGone z s r (e ∷ h)
one_gone z e h s r l same gone b n a is es er = ⊎_elim
    (λ before. gone b before.0 a before.1 es er)
    (λ off.
    let on = ((coherent z (e ∷ h) l).items b n a is).linked in
    none-some a.key (sym off ∙ ((λ t. (row_after h (es t) (er t)).linked) ∙ (sym same ∙ ((λ t. (row_after (e ∷ h) (sym es t) (sym er t)).linked) ∙ on)))))
    (one_before z e h b n a l is)

-- calm as a whole is calm at its first event and after it
calm_first : (s p : ℕ) (e : Event) (more : List Event) → AreCalmIn s (own_of p (e ∷ more)) → AreCalmIn s (own_of p (e ∷ [])) × AreCalmIn s (own_of p more)
calm_first s p e more calm = ⊎_elim
    (λ t. let c = calm_parts s p e more t calm in (subst (AreCalmIn s) (sym (cond-true (eqb (by e) p) (e ∷ []) [] t)) (c.0, tt), c.1))
    (λ f. (subst (AreCalmIn s) (sym (cond-false (eqb (by e) p) (e ∷ []) [] f)) tt, calm_rest s p e more f calm))
    (cases_Bool (eqb (by e) p))

gone_lasts : (z : Shape) (more h : List Event) (p s r : ℕ) → IsLawful z (more ++ h) → AreCalmIn s (own_of p more) → owner z s ≡ p → RowGone z s r h → RowGone z s r (more ++ h)
gone_lasts z [] h p s r l calm own gone = gone
gone_lasts z (e ∷ more) h p s r l calm own gone =
    let c = calm_first s p e more calm in
    one_gone z e (more ++ h) s r l (own_linked z (e ∷ []) (more ++ h) p s r l c.0 own) (gone_lasts z more h p s r l.0 c.1 own gone)

pub gone_over : (b : Board) (own : List Event) (p q : Pass) (s r : ℕ) → AddsEvents b own p q → AreCalmIn s own
    → owner b.shape s ≡ number p → RowGone b.shape s r (trace p) → RowGone b.shape s r (trace q)
gone_over b own p q s r m calm mine gone =
    subst (RowGone b.shape s r) (sym m.goes_on)
    (gone_lasts b.shape m.more (trace p) (number p) s r (subst (IsLawful b.shape) m.goes_on m.pass.lawful)
    (subst (AreCalmIn s) (sym m.adds) calm) mine gone)

-- a linked row that none names is named by none before a refilling
pub gone_since : (z : Shape) (more h : List Event) (s r : ℕ) (k : List ℕ) → IsLawful z (more ++ h)
    → NoneRefills s more → (row_after h s r).linked ≡ Some k → RowGone z s r h → RowGone z s r (more ++ h)
gone_since z [] h s r k l none on gone = gone
gone_since z (e ∷ more) h s r k l none on gone =
    let now = row_since z (e ∷ more) h s r k l none on in let before = row_since z more h s r k l.0 none.1 on in
    one_gone z e (more ++ h) s r l (ap (λ (u : Row). u.linked) (now ∙ sym before)) (gone_since z more h s r k l.0 none.1 on gone)

-- ---- one may name it

-- none names it, or the one that does is at this position of the chain or a later one
abbrev pub IsAhead : Shape → ℕ → ℕ → ℕ → ℕ → List Event → Type 0
IsAhead z b s r n h = RowGone z s r h ⊎ ((m : ℕ) × (n ≤ m) × RowAt z b s r h m)

same_moment : (h at : List Event) → Begins h at → Begins at h → at ≡ h
same_moment h at ([], is) back = is
same_moment h at (e ∷ x, is) (y, back) =
    let one : length at ≡ length (e ∷ x) + length h = ap length is ∙ length-append (e ∷ x) h in
    let two : length h ≡ length y + length at = ap length back ∙ length-append y at in
    absurd (omega arith)

pub ahead_first : (z : Shape) (k : List ℕ) (s r : ℕ) (h : List Event) → IsLawful z h → (row_after h s r).linked ≡ Some k → IsAhead z (bucket_of z k) s r 1 h
ahead_first z k s r h l on = ⊎_elim
    (λ gone. inl (subst (RowGone z s r) (same_moment h gone.0 gone.1 gone.2) gone.3))
    (λ there. inr there)
    (row_first z k s r h l on)

ahead_on : (z : Shape) (more h : List Event) (p b s r n : ℕ) → IsLawful z (more ++ h) → AreCalmIn s (own_of p more) → owner z s ≡ p → IsAhead z b s r n h → IsAhead z b s r n (more ++ h)
ahead_on z [] h p b s r n l calm own a = a
ahead_on z (e ∷ more) h p b s r n l calm own a =
    let c = calm_first s p e more calm in ⊎_elim
    (λ gone. inl (one_gone z e (more ++ h) s r l (own_linked z (e ∷ []) (more ++ h) p s r l c.0 own) gone))
    (λ there. ⊎_elim
    (λ on. let low = there.1 in let up = on.1 in inr (on.0, omega arith, on.2))
    (λ gone. inl gone)
    (row_moves z b s r e (more ++ h) there.0 l there.2))
    (ahead_on z more h p b s r n l.0 c.1 own a)

pub ahead_over : (b : Board) (own : List Event) (p q : Pass) (k s r n : ℕ) → AddsEvents b own p q → AreCalmIn s own
    → owner b.shape s ≡ number p → IsAhead b.shape k s r n (trace p) → IsAhead b.shape k s r n (trace q)
ahead_over b own p q k s r n m calm mine a =
    subst (IsAhead b.shape k s r n) (sym m.goes_on)
    (ahead_on b.shape m.more (trace p) (number p) k s r n (subst (IsLawful b.shape) m.goes_on m.pass.lawful)
    (subst (AreCalmIn s) (sym m.adds) calm) mine a)

pub ahead_passed : (z : Shape) (b s r n : ℕ) (h : List Event) → ¬ (RowAt z b s r h n) → IsAhead z b s r n h → IsAhead z b s r (n + 1) h
ahead_passed z b s r n h none a = ⊎_elim
    (λ gone. inl gone)
    (λ there. ⊎_elim
    (λ same. absurd (none (subst (RowAt z b s r h) same there.2)))
    (λ other. let low = there.1 in inr (there.0, omega (arith, low, other), there.2))
    (cases_eq there.0 n))
    a

-- word 0 of a bucket has no item
pub ahead_skipped : (z : Shape) (b s r n : ℕ) (h : List Event) → IsLawful z h → n % 8 ≡ 0 → IsAhead z b s r n h → IsAhead z b s r (n + 1) h
ahead_skipped z b s r n h l first a = ahead_passed z b s r n h (λ at. let low = ((coherent z h l).items b n at.0 at.1).position.1 in absurd (omega arith)) a

pub ahead_ended : (z : Shape) (b s r d : ℕ) (h : List Event) → IsLawful z h → (bucket_after z h b).chained ≤ d → IsAhead z b s r (8 * d + 8) h → RowGone z s r h
ahead_ended z b s r d h l le a = ⊎_elim
    (λ gone. gone)
    (λ there. let high = ((coherent z h l).items b there.0 there.2.0 there.2.1).position.0 in let low = there.1 in absurd (omega arith))
    a
