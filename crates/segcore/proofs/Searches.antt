-- The item of a key, and the item that names a row, only move forward along their chain until they are gone; so a search that passes all words of a chain has a point at which they were.
use Rattle.std.proofs.Common.{◌≡◌, ◌≢◌, ℕ, ◌+◌, ◌*◌, ◌%◌, ◌<◌, ◌≤◌, eqb, ◌⊎◌, List, [], ◌∷◌, Option, Some, None, sym, refl, ap, ◌∙◌, subst, inl, inr, ⊎_elim, arith}
use Rattle.std.proofs.lemmas.Bool.{cases_Bool, cases_eq, cond-true, cond-false, eqb-true, eqb-false}
use Rattle.std.proofs.lemmas.Option.{same_Some, none-some}
use Rattle.segmodel.specs.Words.{Begins, bucket_of, Cached, key_of, Request, tag_of, value_of}
use Rattle.segcore.specs.Words.{Cell, Event, Leaving}
use Rattle.segcore.specs.declared.event.Event.TheVariants.{Linked, Relinked, Unlinked, Chained}
use Rattle.segcore.specs.Event.{seen}
use Rattle.segcore.specs.Bucket.{Slot, slot, item, nothing, last, fresh_position, IsPosition, acts, bucket_after}
use Rattle.segcore.specs.Row.{row_after, row_alone}
use Rattle.segcore.specs.Lawful.{IsLawful}
use Rattle.segcore.specs.Mark.{marked, same_key, last_at}
use Rattle.segcore.specs.Standing.{cached, Names}
use Rattle.segcore.specs.Ahead.{WasGone}
use Rattle.segcore.specs.Search.{KeyGone, KeyAt, KeyAhead, RowGone, RowAt, Sought, key_item, row_item, chain_sought, IsSoughtInItsChain, IsSought, SoughtAt, SoughtGone, SoughtAhead}
use Rattle.segcore.proofs.Keys.{same_true}
use Rattle.segcore.proofs.Caches.{stands}
use Rattle.segcore.proofs.Chains.{same_item, copy_item}
use Rattle.segcore.proofs.Quiet.{linked_first, moved_first}
use Rattle.segcore.proofs.Standing.{coherent, links, unlinks, relinks, here, there, gone, rows_stay, is_calm, grown, at_fresh, elsewhere, others_same}
use Rattle.segword.specs.Words.{IsValid, Shape}
use Rattle.segcore.specs.Word.{IsAt}
use Rattle.segcore.specs.Mark as marks
use Rattle.segcore.proofs.Marked.{place_marked}
use Rattle.segcore.proofs.StepKinds.Words.{cell_in}
use Rattle.segcore.proofs.Exact.{item_names, named_at}
use Rattle.segcore.proofs.Coherent.{place}
use Rattle.segcore.proofs.Ahead.{ahead_later, ahead_passed, ahead_end}

-- ---- one item and one event

-- it stays or moves on
abbrev pub Onward : Shape → List Event → Event → ℕ → ℕ → Slot → Type 0
Onward z h e b n a = (m : ℕ) × (n ≤ m) × ((bucket_after z (e ∷ h) b).items m ≡ item a)

-- another item of its key takes its place
pub record Replaced (z : Shape) (h : List Event) (e : Event) (b n : ℕ) (a : Slot) : Type 0 where
  pub segment : ℕ
  pub row : ℕ
  pub here : (bucket_after z (e ∷ h) b).items n ≡ item (slot a.key segment row)
  pub last : last_at (marked (e ∷ h)) a.key ≡ Some (slot a.key segment row)
  pub fresh : (row_after h segment row).linked ≡ None
  pub rows : row_alone (e ∷ h) a.segment a.row ≡ row_alone h a.segment a.row

-- or it goes
pub record Removed (z : Shape) (h : List Event) (e : Event) (a : Slot) : Type 0 where
  pub absent : stands z (seen (e ∷ h)) a.key ≡ None
  pub rows : row_alone (e ∷ h) a.segment a.row ≡ row_alone h a.segment a.row

abbrev Fate : Shape → List Event → Event → ℕ → ℕ → Slot → Type 0
Fate z h e b n a = Onward z h e b n a ⊎ (Replaced z h e b n a ⊎ Removed z h e a)

linked_fate : (z : Shape) (h : List Event) (p : ℕ) (q : Request) (s r n' b n : ℕ) (a : Slot)
    → IsLawful z (Linked p q s r n' ∷ h) → (bucket_after z h b).items n ≡ item a
    → Fate z h (Linked p q s r n') b n a
linked_fate z h p q s r n' b n a l is' =
    let e = Linked p q s r n' in let k = key_of q in let b0 = bucket_of z k in let o = item (slot k s r) in
    let x = Some (cached (value_of q) s) in
    let w = links z h p q s r n' l.1.suits in
    let c = coherent z h l.0 in ⊎_elim
    (λ y. let eb = eqb-true b0 b y in
    let old : (bucket_after z h b0).items n ≡ item a = subst (λ t. (bucket_after z h t).items n ≡ item a) (sym eb) is' in
    ⊎_elim
    (λ hit. let en = eqb-true n' n hit in
    let own : a.key ≡ k = ⊎_elim
    (λ f. absurd (none-some a (sym (ap (λ _. None) is') ∙ nothing_item a (sym f.0 ∙ (ap (bucket_after z h b0).items en ∙ old)))))
    (λ f. sym (ap (λ t. t.key) (same_item f.0 a (sym f.1 ∙ (ap (bucket_after z h b0).items en ∙ old)))) ∙ f.2)
    l.1.suits.4 in
    inr (inl (record {
      segment = s;
      row = r;
      here = subst (λ t. (bucket_after z (e ∷ h) t).items n ≡ item (slot a.key s r)) eb (here z h e k n' o x w n
          ∙ (cond-true (eqb n' n) o ((bucket_after z h b0).items n) hit ∙ ap (λ t. item (slot t s r)) (sym own)));
      last = cond-true (same_key k a.key) (Some (slot a.key s r)) (last_at (marked h) a.key) (same_true k a.key (sym own));
      fresh = (linked_first z h p q s r n' l.1.suits).3;
      rows = rows_stay z h e l.1.suits (λ p' t' d' same. cc) a.segment a.row a.key ((c.items b n a is').value) (c.items b n a is').linked (c.items b n a is').stands;
    })))
    (λ miss. inl (n, omega arith, subst (λ t. (bucket_after z (e ∷ h) t).items n ≡ item a) eb (here z h e k n' o x w n ∙ (cond-false (eqb n' n) o ((bucket_after z h b0).items n) miss ∙ old))))
    (cases_Bool (eqb n' n)))
    (λ no. inl (n, omega arith, there z h e k n' o x w b n no ∙ is'))
    (cases_Bool (eqb b0 b))
  where
    nothing_item : (a : Slot) → nothing ≡ item a → None ≡ Some a
    nothing_item a e = cc

relinked_fate : (z : Shape) (h : List Event) (p : ℕ) (k : List ℕ) (f i s r n' b n : ℕ) (a : Slot)
    → IsLawful z (Relinked p k f i s r n' ∷ h) → (bucket_after z h b).items n ≡ item a
    → Fate z h (Relinked p k f i s r n') b n a
relinked_fate z h p k f i s r n' b n a l is' =
    let e = Relinked p k f i s r n' in let b0 = bucket_of z k in let o = item (slot k s r) in
    let u = l.1.suits in
    let c = coherent z h l.0 in
    let x = Some (cached u.1.0 s) in
    let w = relinks z h p k f i s r n' u c in ⊎_elim
    (λ y. let eb = eqb-true b0 b y in
    let old : (bucket_after z h b0).items n ≡ item a = subst (λ t. (bucket_after z h t).items n ≡ item a) (sym eb) is' in
    ⊎_elim
    (λ hit. let en = eqb-true n' n hit in
    let own : a.key ≡ k = sym (ap (λ t. t.key) (same_item (slot k f i) a (sym u.2 ∙ (ap (bucket_after z h b0).items en ∙ old)))) in
    inr (inl (record {
      segment = s;
      row = r;
      here = subst (λ t. (bucket_after z (e ∷ h) t).items n ≡ item (slot a.key s r)) eb (here z h e k n' o x w n
          ∙ (cond-true (eqb n' n) o ((bucket_after z h b0).items n) hit ∙ ap (λ t. item (slot t s r)) (sym own)));
      last = cond-true (same_key k a.key) (Some (slot a.key s r)) (last_at (marked h) a.key) (same_true k a.key (sym own));
      fresh = (moved_first z h p k f i s r n' u).3;
      rows = rows_stay z h e u (λ p' t' d' same. cc) a.segment a.row a.key ((c.items b n a is').value) (c.items b n a is').linked (c.items b n a is').stands;
    })))
    (λ miss. inl (n, omega arith, subst (λ t. (bucket_after z (e ∷ h) t).items n ≡ item a) eb (here z h e k n' o x w n ∙ (cond-false (eqb n' n) o ((bucket_after z h b0).items n) miss ∙ old))))
    (cases_Bool (eqb n' n)))
    (λ no. inl (n, omega arith, there z h e k n' o x w b n no ∙ is'))
    (cases_Bool (eqb b0 b))

unlinked_fate : (z : Shape) (h : List Event) (p : ℕ) (k : List ℕ) (n' : ℕ) (why : Leaving) (b n : ℕ) (a : Slot)
    → IsLawful z (Unlinked p k n' why ∷ h) → (bucket_after z h b).items n ≡ item a
    → Fate z h (Unlinked p k n' why) b n a
unlinked_fate z h p k n' why b n a l is' =
    let e = Unlinked p k n' why in let b0 = bucket_of z k in let w = unlinks z h p k n' why in ⊎_elim
    (λ y. let eb = eqb-true b0 b y in
    let old : (bucket_after z h b0).items n ≡ item a = subst (λ t. (bucket_after z h t).items n ≡ item a) (sym eb) is' in
    ⊎_elim
    (λ hit. let f = l.1.suits in
    let own : a.key ≡ k = sym (ap (λ t. t.key) (same_item f.0 a (sym f.1 ∙ (ap (bucket_after z h b0).items (eqb-true n' n hit) ∙ old)))) ∙ f.2 in
    inr (inr (record { absent = gone z p k why h a.key ∙ cond-true (same_key k a.key) None (stands z (seen h) a.key) (same_true k a.key (sym own)); rows = refl })))
    (λ miss. inl (
      n,
      omega arith,
      subst (λ t. (bucket_after z (e ∷ h) t).items n ≡ item a) eb
          (here z h e k n' nothing None w n ∙ (cond-false (eqb n' n) nothing ((bucket_after z h b0).items n) miss
          ∙ old)),
    ))
    (cases_Bool (eqb n' n)))
    (λ no. inl (n, omega arith, there z h e k n' nothing None w b n no ∙ is'))
    (cases_Bool (eqb b0 b))

chained_fate : (z : Shape) (h : List Event) (p b' m b n : ℕ) (a : Slot) → IsLawful z (Chained p b' m ∷ h) → (bucket_after z h b).items n ≡ item a → Onward z h (Chained p b' m) b n a
chained_fate z h p b' m b n a l is' =
    let c = coherent z h l.0 in let u = bucket_after z h b' in let e = Chained p b' m in ⊎_elim
    (λ y. let eb = eqb-true b' b y in
    let old : u.items n ≡ item a = subst (λ t. (bucket_after z h t).items n ≡ item a) (sym eb) is' in
    let at : (k : ℕ) → (acts e u).items k ≡ item a → (bucket_after z (e ∷ h) b).items k ≡ item a =
    (λ k i. subst (λ t. (bucket_after z (e ∷ h) t).items k ≡ item a) eb (ap (λ v. v.items k) (grown z h p b' m l c) ∙ i)) in
    ⊎_elim
    (λ t. let en = eqb-true (last u) n t in (fresh_position u, omega arith, at (fresh_position u) (at_fresh z h p b' m l c ∙ (ap u.items en ∙ old))))
    (λ f. (n, omega arith, at n (elsewhere z h p b' m l c n (eqb-false (last u) n f) (λ q. copy_item l.1.suits.1.1 a (sym l.1.suits.1.3 ∙ (ap u.items q ∙ old))) ∙ old)))
    (cases_Bool (eqb (last u) n)))
    (λ f. (n, omega arith, ap (λ v. v.items n) (others_same z h p b' m l c b f) ∙ is'))
    (cases_Bool (eqb b' b))

fate : (z : Shape) (e : Event) (h : List Event) (b n : ℕ) (a : Slot) → IsLawful z (e ∷ h) → (bucket_after z h b).items n ≡ item a → Fate z h e b n a
fate z (Linked p q s r n') h b n a l is' = linked_fate z h p q s r n' b n a l is'
fate z (Relinked p k f i s r n') h b n a l is' = relinked_fate z h p k f i s r n' b n a l is'
fate z (Unlinked p k n' why) h b n a l is' = unlinked_fate z h p k n' why b n a l is'
fate z (Chained p b' m) h b n a l is' = inl (chained_fate z h p b' m b n a l is')
fate z e h b n a l is' = inl (n, omega arith, (is_calm z e h refl l (coherent z h l.0)).on b n a is')

-- ---- it moves forward until it is gone

-- after its item went, no word names a row
row_gone : (z : Shape) (e : Event) (h : List Event) (b n : ℕ) (a : Slot) → IsLawful z (e ∷ h) → (bucket_after z h b).items n ≡ item a → row_alone (e ∷ h) a.segment a.row ≡ row_alone h a.segment a.row
    → ((c : Slot) → c.key ≡ a.key → c.segment ≡ a.segment → c.row ≡ a.row
    → ((x : Cached) → stands z (seen (e ∷ h)) a.key ≡ Some x → ⊥)
    ⊎ (last_at (marked (e ∷ h)) a.key ≢ Some (slot a.key a.segment a.row)))
    → RowGone z a.segment a.row (e ∷ h)
row_gone z e h b n a l is' rows out b' n' c there' es er =
    let i = (coherent z (e ∷ h) l).items b' n' c there' in
    let same : c.key ≡ a.key = same_Some c.key a.key (sym i.linked ∙ ((λ t. (row_after (e ∷ h) (es t) (er t)).linked) ∙ (ap (λ u. u.linked) rows ∙ ((coherent z h l.0).items b n a is').linked))) in
    ⊎_elim
    (λ none. none (cached i.value c.segment) (ap (stands z (seen (e ∷ h))) (sym same) ∙ i.stands))
    (λ ne. ne (ap (last_at (marked (e ∷ h))) (sym same) ∙ (i.last ∙ (λ t. Some (slot (same t) (es t) (er t))))))
    (out c same es er)

abbrev GoesOn : Shape → Sought → Event → List Event → ℕ → Type 0
GoesOn z x e h n = ((m : ℕ) × (n ≤ m) × SoughtAt z x (e ∷ h) m) ⊎ SoughtGone z x (e ∷ h)

-- where the item was replaced or removed, the key stands there still or is gone; the row is gone in either case
goes : (z : Shape) (x : Sought) (e : Event) (h : List Event) (n : ℕ) → IsLawful z (e ∷ h) → (i : SoughtAt z x h n) → Replaced z h e (chain_sought z x) n i.0 ⊎ Removed z h e i.0 → GoesOn z x e h n
goes z (key_item k) e h n l i off = ⊎_elim
    (λ (r : Replaced z h e (bucket_of z k) n i.0). inl (n, omega arith, (slot i.0.key r.segment r.row, r.here, i.2)))
    (λ (g : Removed z h e i.0). inr (ap (stands z (seen (e ∷ h))) (sym i.2) ∙ g.absent))
    off
goes z (row_item b s r) e h n l i off = inr (λ b' n' c at es er. ⊎_elim
    (λ (w : Replaced z h e b n i.0). row_gone z e h b n i.0 l i.1 w.rows
    (λ d same ds dr. inr (λ q. let o = same_Some _ _ (sym w.last ∙ q) in
    none-some i.0.key (sym w.fresh ∙ ((λ t. (row_after h (ap (λ (x : Slot). x.segment) o t) (ap (λ (x : Slot). x.row) o t)).linked) ∙ ((coherent z h l.0).items b n i.0 i.1).linked))))
    b' n' c at (es ∙ sym i.2.0) (er ∙ sym i.2.1))
    (λ (w : Removed z h e i.0). row_gone z e h b n i.0 l i.1 w.rows (λ d same ds dr. inl (λ x q. none-some x (sym w.absent ∙ q))) b' n' c at (es ∙ sym i.2.0) (er ∙ sym i.2.1))
    off)

moves : (z : Shape) (x : Sought) (e : Event) (h : List Event) (n : ℕ) → IsLawful z (e ∷ h) → SoughtAt z x h n → GoesOn z x e h n
moves z x e h n l i = ⊎_elim (λ on. inl (on.0, on.1, (i.0, on.2, i.2))) (goes z x e h n l i) (fate z e h (chain_sought z x) n i.0 l i.1)

-- ---- where a search begins

gone_from_start : (z : Shape) (x : Sought) (h : List Event) → SoughtGone z x h → SoughtAhead z x 1 h h
gone_from_start z x h none = inl (h, ([], refl), ([], refl), none)

start_key : (z : Shape) (k : List ℕ) (h : List Event) (o : Option Cached) → IsLawful z h → stands z (seen h) k ≡ o → KeyAhead z k 1 h h
start_key z k h None l e = gone_from_start z (key_item k) h e
start_key z k h (Some x) l e = let c = coherent z h l in let w = c.all k x e in let i = (c.items (bucket_of z k) w.0 w.1 w.2).position in let low = i.1 in inr (w.0, omega arith, (w.1, w.2, w.3))

-- a row is named in the chain of the key that was linked to it, or nowhere
start_row : (z : Shape) (k : List ℕ) (s r : ℕ) (h : List Event) (o : Option Cached) → IsLawful z h
    → (row_after h s r).linked ≡ Some k → stands z (seen h) k ≡ o
    → SoughtAhead z (row_item (bucket_of z k) s r) 1 h h
start_row z k s r h None l on e = gone_from_start z (row_item (bucket_of z k) s r) h
    (λ b n c at es er.
    let i = (coherent z h l).items b n c at in
    let same : c.key ≡ k = same_Some c.key k (sym i.linked ∙ ((λ t. (row_after h (es t) (er t)).linked) ∙ on)) in
    none-some (cached i.value c.segment) (sym e ∙ (ap (stands z (seen h)) (sym same) ∙ i.stands)))
start_row z k s r h (Some x) l on e =
    let co = coherent z h l in let w = co.all k x e in let low = (co.items (bucket_of z k) w.0 w.1 w.2).position.1 in ⊎_elim
    (λ es. ⊎_elim
    (λ er. inr (w.0, omega arith, (w.1, w.2, (es, er))))
    (λ ne. other w (λ q. ne (ap (λ (y : Slot). y.row) q)))
    (cases_eq w.1.row r))
    (λ ne. other w (λ q. ne (ap (λ (y : Slot). y.segment) q)))
    (cases_eq w.1.segment s)
  where
    other : (w : (n : ℕ) × (a : Slot) × ((bucket_after z h (bucket_of z k)).items n ≡ item a) × (a.key ≡ k)) → w.1 ≢ slot k s r → SoughtAhead z (row_item (bucket_of z k) s r) 1 h h
    other w ne = gone_from_start z (row_item (bucket_of z k) s r) h
        (λ b n c at es er.
        let co = coherent z h l in
        let i = co.items b n c at in
        let same : c.key ≡ k = same_Some c.key k (sym i.linked ∙ ((λ t. (row_after h (es t) (er t)).linked) ∙ on)) in
        let j = co.items (bucket_of z k) w.0 w.1 w.2 in
        let one = same_Some _ _ (sym j.last ∙ (ap (last_at (marked h)) (w.3 ∙ sym same) ∙ i.last)) in
        ne (one ∙ (λ t. slot (same t) (es t) (er t))))

pub search_first : (z : Shape) (x : Sought) (h : List Event) → IsLawful z h → IsSoughtInItsChain z x h → SoughtAhead z x 1 h h
search_first z (key_item k) h l on = start_key z k h (stands z (seen h) k) l refl
search_first z (row_item b s r) h l on = subst (λ c. SoughtAhead z (row_item c s r) 1 h h) on.2 (start_row z on.0 s r h (stands z (seen h) on.0) l on.1 refl)

-- ---- how it goes on and ends

pub search_later : (z : Shape) (x : Sought) (n : ℕ) (h g f : List Event) → IsLawful z f → Begins h g → Begins g f → SoughtAhead z x n h g → SoughtAhead z x n h f
search_later z x n h g f = ahead_later (IsLawful z) (SoughtAt z x) (SoughtGone z x) (λ e y l. l.0) (moves z x) n h g f

-- it is at item words of its chain alone
sought_at : (z : Shape) (x : Sought) (h : List Event) (n : ℕ) → IsLawful z h → SoughtAt z x h n → IsPosition (bucket_after z h (chain_sought z x)) n
sought_at z x h n l i = ((coherent z h l).items (chain_sought z x) n i.0 i.1).position

pub search_passed : (z : Shape) (x : Sought) (n : ℕ) (h g : List Event) → ¬ (SoughtAt z x g n) → SoughtAhead z x n h g → SoughtAhead z x (n + 1) h g
search_passed z x n h g none a = ahead_passed (SoughtAt z x) (SoughtGone z x) n h g none a

-- word 0 of a bucket has no item
pub search_skipped : (z : Shape) (x : Sought) (n : ℕ) (h g : List Event) → IsLawful z g → n % 8 ≡ 0 → SoughtAhead z x n h g → SoughtAhead z x (n + 1) h g
search_skipped z x n h g l e a = search_passed z x n h g (λ i. let p = (sought_at z x g n l i).1 in absurd (omega arith)) a

pub search_ended : (z : Shape) (x : Sought) (d : ℕ) (h g : List Event) → IsLawful z g
    → (bucket_after z g (chain_sought z x)).chained ≤ d → SoughtAhead z x (8 * d + 8) h g
    → WasGone (SoughtGone z x) h g
search_ended z x d h g l le a = ahead_end (SoughtAt z x) (SoughtGone z x) (8 * d + 8) h g (λ m i. let p = (sought_at z x g m l i).0 in omega arith) a

-- what the word of a position says where it is there
pub sought_word : (z : Shape) (x : Sought) (h : List Event) (n : ℕ) (c : Cell) → chain_sought z x < z.buckets → IsLawful z h → IsAt h (chain_sought z x) n c → SoughtAt z x h n
    → (a : Slot) × IsSought x a × Names z h (chain_sought z x) n c (tag_of a.key) a.segment a.row × ((row_after h a.segment a.row).linked ≡ Some a.key)
sought_word z x h n c lt l at i =
    let b = chain_sought z x in
    (i.0, i.2, item_names z h b n c i.0 l (cell_in z h b n c l lt at) (sought_at z x h n l i, at) i.1, ((coherent z h l).items b n i.0 i.1).linked)

-- ---- a key alone

-- a word that names a row that is linked to the key is in the key's chain, and has its item
pub key_named : (z : Shape) (k : List ℕ) (h : List Event) (b n : ℕ) (c : Cell) (t s r : ℕ) → IsValid z
    → IsLawful z h → Names z h b n c t s r → (row_after h s r).linked ≡ Some k → (bucket_of z k ≡ b) × KeyAt z k h n
key_named z k h b n c t s r v l x on =
    let i = named_at z h b n c t s r v l x in
    let st = (coherent z h l).items b n i.slot i.here in
    let same : i.slot.key ≡ k = same_Some i.slot.key k (sym st.linked ∙ ((λ j. (row_after h (i.segment j) (i.row j)).linked) ∙ on)) in
    let eb : bucket_of z k ≡ b = ap (bucket_of z) (sym same) ∙ st.here in
    (eb, (i.slot, subst (λ y. (bucket_after z h y).items n ≡ item i.slot) (sym eb) i.here, same))

-- the position of the key's item is the key's place in the marked history
pub key_placed : (z : Shape) (k : List ℕ) (h : List Event) (n : ℕ) → IsLawful z h → KeyAt z k h n → marks.place z (marked h) k ≡ Some n
key_placed z k h n l i = place_marked z h k ∙ (ap (place z h) (sym i.2) ∙ (coherent z h l).placed (bucket_of z k) n i.0 i.1)

at_place : (z : Shape) (k : List ℕ) (h : List Event) (n : ℕ) (o : Option Cached) → IsLawful z h
    → stands z (seen h) k ≡ o → (stands z (seen h) k ≡ None → ⊥) → marks.place z (marked h) k ≡ Some n
    → KeyAt z k h n
at_place z k h n None l e there' p = absurd (there' e)
at_place z k h n (Some x) l e there' p =
    let w = (coherent z h l).all k x e in
    let i : KeyAt z k h w.0 = (w.1, w.2, w.3) in
    subst (KeyAt z k h) (same_Some w.0 n (sym (key_placed z k h w.0 l i) ∙ p)) i

pub placed_key : (z : Shape) (k : List ℕ) (h : List Event) (n : ℕ) → IsLawful z h → ¬ (KeyGone z k h) → marks.place z (marked h) k ≡ Some n → KeyAt z k h n
placed_key z k h n l there' p = at_place z k h n (stands z (seen h) k) l refl there' p

-- ---- the same of a key or of a row, by its name

pub key_first : (z : Shape) (k : List ℕ) (h : List Event) → IsLawful z h → KeyAhead z k 1 h h
key_first z k h l = search_first z (key_item k) h l tt

pub key_later : (z : Shape) (k : List ℕ) (n : ℕ) (h g f : List Event) → IsLawful z f → Begins h g → Begins g f → KeyAhead z k n h g → KeyAhead z k n h f
key_later z k = search_later z (key_item k)

pub key_passed : (z : Shape) (k : List ℕ) (n : ℕ) (h g : List Event) → ¬ (KeyAt z k g n) → KeyAhead z k n h g → KeyAhead z k (n + 1) h g
key_passed z k = search_passed z (key_item k)

pub key_skipped : (z : Shape) (k : List ℕ) (n : ℕ) (h g : List Event) → IsLawful z g → n % 8 ≡ 0 → KeyAhead z k n h g → KeyAhead z k (n + 1) h g
key_skipped z k = search_skipped z (key_item k)

pub key_ended : (z : Shape) (k : List ℕ) (d : ℕ) (h g : List Event) → IsLawful z g → (bucket_after z g (bucket_of z k)).chained ≤ d → KeyAhead z k (8 * d + 8) h g → WasGone (KeyGone z k) h g
key_ended z k = search_ended z (key_item k)

pub row_first : (z : Shape) (k : List ℕ) (s r : ℕ) (h : List Event) → IsLawful z h → (row_after h s r).linked ≡ Some k → SoughtAhead z (row_item (bucket_of z k) s r) 1 h h
row_first z k s r h l on = search_first z (row_item (bucket_of z k) s r) h l (k, on, refl)

pub row_moves : (z : Shape) (b s r : ℕ) (e : Event) (h : List Event) (n : ℕ) → IsLawful z (e ∷ h) → RowAt z b s r h n → ((m : ℕ) × (n ≤ m) × RowAt z b s r (e ∷ h) m) ⊎ RowGone z s r (e ∷ h)
row_moves z b s r = moves z (row_item b s r)
