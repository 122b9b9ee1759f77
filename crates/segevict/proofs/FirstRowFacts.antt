-- A word names the first row of an item alone, and no word names a row behind it.
use Rattle.std.proofs.Common.{◌≡◌, ◌≢◌, ℕ, true, eqb, ◌&&◌, List, [], ◌∷◌, None, Some, refl, sym, ap, ◌∙◌, subst, ⊎_elim}
use Rattle.std.proofs.lemmas.Bool.{and_from, and_parts, cases_Bool, cond-false, cond-true, eq-eqb, eqb-true, false≢true, false_from_ne_true}
use Rattle.std.proofs.lemmas.Option.{none-some, same_Some}
use Rattle.segword.specs.Words.{covers, Shape}
use Rattle.segmodel.specs.Words.{key_of}
use Rattle.segcore.specs.declared.event.Event.TheVariants.{Filled, Linked, Refilled, Relinked, Unlinked}
use Rattle.segcore.specs.declared.event.Leaving.TheVariants.{Deletes, Evicts}
use Rattle.segcore.specs.Words.{bucket_after, Event, IsLawful, item, last_at, linked_in, marked, Row, row_after, row_alone, RowAt, RowGone, same_key, Slot, slot, writes_row}
use Rattle.segcore.proofs.Keys.{same_true}
use Rattle.segcore.proofs.Quiet.{at_unlinked, of_row}
use Rattle.segcore.proofs.Standing.{coherent, now_linked, now_moved, row_itself}
use Rattle.segevict.proofs.Tiles.{begins, rows_at, start_at}

-- the row that the last link or move of a key put its item into is where that item begins
last_start : (z : Shape) (h : List Event) (k : List ℕ) (s r : ℕ) → IsLawful z h → last_at (marked h) k ≡ Some (slot k s r) → (row_alone h s r).linked ≡ Some k → start_at h s r ≡ r
last_start z [] k s r l is on = refl
last_start z (Linked p q t i n ∷ h) k s r l is on = let e = Linked p q t i n in let u = row_alone h s r in ⊎_elim
    (λ hit. let w = and_parts (eqb t s) (covers i (rows_at h t i) r) hit in
    let key : key_of q ≡ k = same_Some (key_of q) k (sym (now_linked h p q t i n r w.1) ∙ subst (λ x. (row_alone (e ∷ h) x r).linked ≡ Some k) (sym (eqb-true t s w.0)) on) in
    let here : slot k t i ≡ slot k s r = same_Some (slot k t i) (slot k s r) (sym (cond-true (same_key (key_of q) k) (Some (slot k t i)) (last_at (marked h) k) (same_true (key_of q) k key)) ∙ is) in
    ap (λ b. begins b e (start_at h s r)) hit ∙ ap (λ (x : Slot). x.row) here)
    (λ miss. let on' = ap (λ (y : Row). y.linked) (sym (cond-false (of_row h e s r) (writes_row e u) u miss)) ∙ on in
    ap (λ b. begins b e (start_at h s r)) miss ∙ last_start z h k s r l.0 (⊎_elim
    (λ same. let here : slot k t i ≡ slot k s r = same_Some (slot k t i) (slot k s r) (sym (cond-true (same_key (key_of q) k) (Some (slot k t i)) (last_at (marked h) k) same) ∙ is) in
    absurd (false≢true (sym miss ∙ subst (λ (x : Slot). of_row h e x.segment x.row ≡ true) here
    (and_from (eqb t t) (covers i (rows_at h t i) i) (eq-eqb t t refl) (row_itself h t i)))))
    (λ other. sym (cond-false (same_key (key_of q) k) (Some (slot k t i)) (last_at (marked h) k) other) ∙ is)
    (cases_Bool (same_key (key_of q) k))) on')
    (cases_Bool (of_row h e s r))
last_start z (Relinked p q a f t i n ∷ h) k s r l is on = let e = Relinked p q a f t i n in let u = row_alone h s r in ⊎_elim
    (λ hit. let w = and_parts (eqb t s) (covers i (rows_at h t i) r) hit in
    let key : q ≡ k = same_Some q k (sym (now_moved h p q a f t i n r w.1) ∙ subst (λ x. (row_alone (e ∷ h) x r).linked ≡ Some k) (sym (eqb-true t s w.0)) on) in
    let here : slot k t i ≡ slot k s r = same_Some (slot k t i) (slot k s r) (sym (cond-true (same_key q k) (Some (slot k t i)) (last_at (marked h) k) (same_true q k key)) ∙ is) in
    ap (λ b. begins b e (start_at h s r)) hit ∙ ap (λ (x : Slot). x.row) here)
    (λ miss. let on' = ap (λ (y : Row). y.linked) (sym (cond-false (of_row h e s r) (writes_row e u) u miss)) ∙ on in
    ap (λ b. begins b e (start_at h s r)) miss ∙ last_start z h k s r l.0 (⊎_elim
    (λ same. let here : slot k t i ≡ slot k s r = same_Some (slot k t i) (slot k s r) (sym (cond-true (same_key q k) (Some (slot k t i)) (last_at (marked h) k) same) ∙ is) in
    absurd (false≢true (sym miss ∙ subst (λ (x : Slot). of_row h e x.segment x.row ≡ true) here
    (and_from (eqb t t) (covers i (rows_at h t i) i) (eq-eqb t t refl) (row_itself h t i)))))
    (λ other. sym (cond-false (same_key q k) (Some (slot k t i)) (last_at (marked h) k) other) ∙ is)
    (cases_Bool (same_key q k))) on')
    (cases_Bool (of_row h e s r))
last_start z (Filled p t i place w ∷ h) k s r l is on = let e = Filled p t i place w in let u = row_alone h s r in ⊎_elim
    (λ hit. absurd (none-some k (sym (at_unlinked z h e s r l.1.suits (λ p' t' d' same. cc) hit)
    ∙ (ap (λ (y : Row). y.linked) (sym (cond-true (of_row h e s r) (writes_row e u) u hit)) ∙ on))))
    (λ miss. ap (λ b. begins b e (start_at h s r)) miss
    ∙ last_start z h k s r l.0 is (ap (λ (y : Row). y.linked) (sym (cond-false (of_row h e s r) (writes_row e u) u miss)) ∙ on))
    (cases_Bool (of_row h e s r))
last_start z (Refilled p t d ∷ h) k s r l is on = let e = Refilled p t d in let u = row_alone h s r in ⊎_elim
    (λ hit. absurd (none-some k (ap (λ (y : Row). y.linked) (sym (cond-true (eqb t s) (writes_row e u) u hit)) ∙ on)))
    (λ miss. ap (λ b. begins b e (start_at h s r)) miss
    ∙ last_start z h k s r l.0 is (ap (λ (y : Row). y.linked) (sym (cond-false (eqb t s) (writes_row e u) u miss)) ∙ on))
    (cases_Bool (eqb t s))
last_start z (Unlinked p q n (Deletes m) ∷ h) k s r l is on = last_start z h k s r l.0 is on
last_start z (Unlinked p q n (Evicts t) ∷ h) k s r l is on = last_start z h k s r l.0 is on
last_start z (e ∷ h) k s r l is on = last_start z h k s r l.0 is on

-- no word names a row behind the first one of an item
pub unnamed_behind : (z : Shape) (h : List Event) (s r : ℕ) → IsLawful z h → start_at h s r ≢ r → RowGone z s r h
unnamed_behind z h s r l behind bucket at a is es er =
    let st = (coherent z h l).items bucket at a is in
    behind (subst (λ t. start_at h t r ≡ r) es (subst (λ i. start_at h a.segment i ≡ i) er (last_start z h a.key a.segment a.row l st.last st.linked)))

-- a word names the first row of an item alone
pub named_first : (z : Shape) (h : List Event) (bucket at : ℕ) (a : Slot) → IsLawful z h → (bucket_after z h bucket).items at ≡ item a → start_at h a.segment a.row ≡ a.row
named_first z h bucket at a l is = let st = (coherent z h l).items bucket at a is in last_start z h a.key a.segment a.row l st.last st.linked

-- ---- the key of a first row, by the marks

-- a link or a move of the item that begins in a row is one of the row
of_first : (h : List Event) (t i s r : ℕ) → (eqb t s && eqb i r) ≡ true → (eqb t s && covers i (rows_at h t i) r) ≡ true
of_first h t i s r is = let w = and_parts (eqb t s) (eqb i r) is in
    and_from (eqb t s) (covers i (rows_at h t i) r) w.0 (subst (λ x. covers i (rows_at h t i) x ≡ true) (eqb-true i r w.1) (row_itself h t i))

first_marked : (z : Shape) (h : List Event) (s r : ℕ) (k : List ℕ) → IsLawful z h → (row_alone h s r).linked ≡ Some k → start_at h s r ≡ r → linked_in (marked h) s r ≡ Some k
first_marked z [] s r k l on at = absurd (none-some k on)
first_marked z (Linked p q t i n ∷ h) s r k l on at = let e = Linked p q t i n in let u = row_alone h s r in let o = linked_in (marked h) s r in ⊎_elim
    (λ hit. let w = and_parts (eqb t s) (covers i (rows_at h t i) r) hit in
    let here : i ≡ r = sym (ap (λ b. begins b e (start_at h s r)) hit) ∙ at in
    cond-true (eqb t s && eqb i r) (Some (key_of q)) o (and_from (eqb t s) (eqb i r) w.0 (eq-eqb i r here))
    ∙ (sym (now_linked h p q t i n r w.1) ∙ subst (λ x. (row_alone (e ∷ h) x r).linked ≡ Some k) (sym (eqb-true t s w.0)) on))
    (λ miss. cond-false (eqb t s && eqb i r) (Some (key_of q)) o (false_from_ne_true (eqb t s && eqb i r) (λ is. false≢true (sym miss ∙ of_first h t i s r is)))
    ∙ first_marked z h s r k l.0 (ap (λ (y : Row). y.linked) (sym (cond-false (of_row h e s r) (writes_row e u) u miss)) ∙ on) (sym (ap (λ b. begins b e (start_at h s r)) miss) ∙ at))
    (cases_Bool (of_row h e s r))
first_marked z (Relinked p q a f t i n ∷ h) s r k l on at = let e = Relinked p q a f t i n in let u = row_alone h s r in let o = linked_in (marked h) s r in ⊎_elim
    (λ hit. let w = and_parts (eqb t s) (covers i (rows_at h t i) r) hit in
    let here : i ≡ r = sym (ap (λ b. begins b e (start_at h s r)) hit) ∙ at in
    cond-true (eqb t s && eqb i r) (Some q) o (and_from (eqb t s) (eqb i r) w.0 (eq-eqb i r here))
    ∙ (sym (now_moved h p q a f t i n r w.1) ∙ subst (λ x. (row_alone (e ∷ h) x r).linked ≡ Some k) (sym (eqb-true t s w.0)) on))
    (λ miss. cond-false (eqb t s && eqb i r) (Some q) o (false_from_ne_true (eqb t s && eqb i r) (λ is. false≢true (sym miss ∙ of_first h t i s r is)))
    ∙ first_marked z h s r k l.0 (ap (λ (y : Row). y.linked) (sym (cond-false (of_row h e s r) (writes_row e u) u miss)) ∙ on) (sym (ap (λ b. begins b e (start_at h s r)) miss) ∙ at))
    (cases_Bool (of_row h e s r))
first_marked z (Filled p t i place w ∷ h) s r k l on at = let e = Filled p t i place w in let u = row_alone h s r in ⊎_elim
    (λ hit. absurd (none-some k (sym (at_unlinked z h e s r l.1.suits (λ p' t' d' same. cc) hit)
    ∙ (ap (λ (y : Row). y.linked) (sym (cond-true (of_row h e s r) (writes_row e u) u hit)) ∙ on))))
    (λ miss. first_marked z h s r k l.0 (ap (λ (y : Row). y.linked) (sym (cond-false (of_row h e s r) (writes_row e u) u miss)) ∙ on) (sym (ap (λ b. begins b e (start_at h s r)) miss) ∙ at))
    (cases_Bool (of_row h e s r))
first_marked z (Refilled p t d ∷ h) s r k l on at = let e = Refilled p t d in let u = row_alone h s r in ⊎_elim
    (λ hit. absurd (none-some k (ap (λ (y : Row). y.linked) (sym (cond-true (eqb t s) (writes_row e u) u hit)) ∙ on)))
    (λ miss. cond-false (eqb t s) None (linked_in (marked h) s r) miss
    ∙ first_marked z h s r k l.0 (ap (λ (y : Row). y.linked) (sym (cond-false (eqb t s) (writes_row e u) u miss)) ∙ on) (sym (ap (λ b. begins b e (start_at h s r)) miss) ∙ at))
    (cases_Bool (eqb t s))
first_marked z (Unlinked p q n (Deletes m) ∷ h) s r k l on at = first_marked z h s r k l.0 on at
first_marked z (Unlinked p q n (Evicts t) ∷ h) s r k l on at = first_marked z h s r k l.0 on at
first_marked z (e ∷ h) s r k l on at = first_marked z h s r k l.0 on at

-- a row that a word names has its key by the marks
pub named_marked : (z : Shape) (h : List Event) (bucket at s r : ℕ) (k : List ℕ) → IsLawful z h → RowAt z bucket s r h at → (row_after h s r).linked ≡ Some k → linked_in (marked h) s r ≡ Some k
named_marked z h bucket at s r k l named on =
    first_marked z h s r k l on (subst (λ t. start_at h t r ≡ r) named.2.0 (subst (λ i. start_at h named.0.segment i ≡ i) named.2.1 (named_first z h bucket at named.0 l named.1)))
