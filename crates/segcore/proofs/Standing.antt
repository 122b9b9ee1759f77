-- In a lawful history the chains and the map agree, by induction on its events.
use Rattle.std.proofs.Common.{◌≡◌, ◌≢◌, ℕ, Bool, true, false, cond, eqb, ◌⊎◌, List, [], ◌∷◌, Option, Some, None, sym, refl, ap, ◌∙◌, subst, inl, inr, ⊎_elim, option_map, arith}
use Rattle.std.proofs.lemmas.Bool.{and_from, cases_Bool, cond-true, cond-false, eqb-true, eqb-false, eq-eqb, ne_eqb, false≢true, false_from_ne_true}
use Rattle.std.proofs.lemmas.Option.{same_Some, none-some}
use Rattle.segword.specs.Words.{covers, IsValue, Shape, span_of, span_of_header}
use Rattle.segmodel.specs.declared.request.Reply.TheVariants.{Stored, NotStored, Exists, NotFound, Deleted}
use Rattle.segmodel.specs.Words.{bucket_of, Cached, IsLegal, key_of, Reply, Request, value_of}
use Rattle.segmodel.specs.Cache.{with_segment}
use Rattle.segcore.proofs.Caches.{put, stands, stands_wrote, stands_evicted, stands_moved, stands_in}
use Rattle.segmodel.specs.declared.request.Request.TheVariants.{Delete}
use Rattle.segcore.proofs.Coherent.{IsContent, IsChain, IsStanding, moved, place, Coherent}
use Rattle.segcore.specs.Bucket.{Slot, slot, Content, nothing, item, next, copy, Bucket, last, fresh_position, bucket_at, is, acts, bucket_after, IsPosition}
use Rattle.segcore.specs.Event.{removal, seen}
use Rattle.segcore.specs.Lawful.{IsRefusal, HasRoomFor, Suits, IsLawful}
use Rattle.segcore.specs.Mark.{same_key, marked, last_at}
use Rattle.segcore.specs.Row.{Row, row_after, row_alone, writes_row}
use Rattle.segcore.specs.Standing.{cached}
use Rattle.segcore.specs.Words.{Event, Leaving}
use Rattle.segcore.specs.declared.event.Event.TheVariants.{Replied, Filled, Linked, Relinked, Unlinked, Put, Chained, Refilled}
use Rattle.segcore.specs.declared.event.Leaving.TheVariants.{Deletes, Evicts}
use Rattle.segcore.proofs.Keys.{key_true, same_true, key_false, same_false}
use Rattle.segcore.proofs.Quiet.{at_unlinked, linked_first, moved_first, of_row}
use Rattle.segcore.proofs.Spans.{alone_span, covers-first, header_some, same_after, same_words_after}
use Rattle.segcore.proofs.Chains.{same_item, no_item, next_item, copy_item, chain_of}

-- the rows of an item that stands are as before
abbrev SameRows : (z : Shape) (h : List Event) (e : Event) (b n : ℕ) (a : Slot) → IsStanding z h b n a → Type 0
SameRows z h e b n a s = (i : ℕ) → covers a.row (span_of a.key s.value) i ≡ true → row_alone (e ∷ h) a.segment i ≡ row_alone h a.segment i

-- so it is the same item
same_item_after : (z : Shape) (h : List Event) (e : Event) (b n : ℕ) (a : Slot) (s : IsStanding z h b n a) → SameRows z h e b n a s
    → row_after (e ∷ h) a.segment a.row ≡ row_after h a.segment a.row
same_item_after z h e b n a s w = same_after h (e ∷ h) a.segment a.row (λ i c. w i
    (subst (λ m. covers a.row m i ≡ true) (alone_span h a.segment a.row a.key s.value s.valid.0 s.valid.1 s.holds) c))

-- an item stands after the event as before, at the position n'
stood : (z : Shape) (h : List Event) (e : Event) (b n n' : ℕ) (a : Slot) (s : IsStanding z h b n a)
    → IsPosition (bucket_after z (e ∷ h) b) n' → SameRows z h e b n a s
    → stands z (seen (e ∷ h)) a.key ≡ stands z (seen h) a.key
    → last_at (marked (e ∷ h)) a.key ≡ last_at (marked h) a.key → IsStanding z (e ∷ h) b n' a
stood z h e b n n' a s i w k m = let same = same_item_after z h e b n a s w in record {
  here = s.here;
  position = i;
  within = s.within;
  linked = ap (λ (u : Row). u.linked) same ∙ s.linked;
  value = s.value;
  valid = s.valid;
  holds = λ j lt. ap (λ (u : Row). u.words j) same ∙ s.holds j lt;
  rows = λ i c. ap (λ (u : Row). u.linked) (w i c) ∙ s.rows i c;
  stands = k ∙ s.stands;
  last = m ∙ s.last;
}

abbrev LinkedRowsStay : Shape → List Event → Event → Type 0
LinkedRowsStay z h e = (s r : ℕ) (k v : List ℕ) → (row_alone h s r).linked ≡ Some k → stands z (seen h) k ≡ Some (cached v s) → row_alone (e ∷ h) s r ≡ row_alone h s r

-- which says it of the rows of an item that stands
rows_of : (z : Shape) (h : List Event) (e : Event) (b n : ℕ) (a : Slot) (s : IsStanding z h b n a) → LinkedRowsStay z h e → SameRows z h e b n a s
rows_of z h e b n a s stay i c = stay a.segment i a.key s.value (s.rows i c) s.stands

-- an event that changes no item, no key and no row that is linked
pub record Calm (z : Shape) (h : List Event) (e : Event) : Type 0 where
  pub back : (b n : ℕ) (a : Slot) → (bucket_after z (e ∷ h) b).items n ≡ item a → (bucket_after z h b).items n ≡ item a
  pub on : (b n : ℕ) (a : Slot) → (bucket_after z h b).items n ≡ item a → (bucket_after z (e ∷ h) b).items n ≡ item a
  pub chains : (b : ℕ) → (bucket_after z (e ∷ h) b).chained ≡ (bucket_after z h b).chained
  pub keys : (k : List ℕ) → stands z (seen (e ∷ h)) k ≡ stands z (seen h) k
  pub rows : LinkedRowsStay z h e
  pub places : (k : List ℕ) → place z (e ∷ h) k ≡ place z h k
  pub lasts : (k : List ℕ) → last_at (marked (e ∷ h)) k ≡ last_at (marked h) k

calm : (z : Shape) (h : List Event) (e : Event) → IsLawful z (e ∷ h) → Calm z h e → Coherent z h → Coherent z (e ∷ h)
calm z h e l q c = record {
  chains = chain_of z (e ∷ h) l;
  items = λ b n a at. let s = c.items b n a (q.back b n a at) in let w = q.chains b in let lt = s.position.0 in
      stood z h e b n n a s (omega arith, s.position.1) (rows_of z h e b n a s q.rows) (q.keys a.key) (q.lasts a.key);
  placed = λ b n a at. q.places a.key ∙ c.placed b n a (q.back b n a at);
  all = λ k x at. let s = c.all k x (sym (q.keys k) ∙ at) in (s.0, s.1, q.on (bucket_of z k) s.0 s.1 s.2, s.3);
}

-- ---- a key that comes or goes

-- where a key comes or goes, the others stay: k0 is the key, n its position
pub record Turns (z : Shape) (h : List Event) (k0 : List ℕ) (n : ℕ) : Type 0 where
  pub others : (m : ℕ) (a : Slot) → (bucket_after z h (bucket_of z k0)).items m ≡ item a → m ≢ n → a.key ≢ k0
  pub own : (a : Slot) → (bucket_after z h (bucket_of z k0)).items n ≡ item a → a.key ≡ k0

pub has_room : (z : Shape) (h : List Event) (k : List ℕ) (n : ℕ) → Coherent z h → HasRoomFor z h k n → Turns z h k n
has_room z h k n c (inl (empty, absent)) = record {
  others = λ m a at ne e. none-some _ (sym absent ∙ (ap (stands z (seen h)) (sym e) ∙ (c.items (bucket_of z k) m a at).stands));
  own = λ a at. absurd (no_item a (sym empty ∙ at));
}
has_room z h k n c (inr (s, at_n, is_k)) = record {
  others = λ m a at ne e. ne (same_Some m n (sym (c.placed (bucket_of z k) m a at) ∙ (ap (place z h) (e ∙ sym is_k) ∙ c.placed (bucket_of z k) n s at_n)));
  own = λ a at. ap (λ o. o.key) (same_item a s (sym at ∙ at_n)) ∙ is_k;
}

-- an event that puts o at position n of the key's bucket, and x under the key
pub record Puts (z : Shape) (h : List Event) (e : Event) (k0 : List ℕ) (n : ℕ) (o : Content) (x : Option Cached) : Type 0 where
  pub at : (b : ℕ) → is (bucket_at z e) b ≡ eqb (bucket_of z k0) b
  pub items : (u : Bucket) → (acts e u).items ≡ (λ m. cond (eqb n m) o (u.items m))
  pub chained : (u : Bucket) → (acts e u).chained ≡ u.chained
  pub keys : (k : List ℕ) → stands z (seen (e ∷ h)) k ≡ cond (same_key k0 k) x (stands z (seen h) k)
  pub rows : LinkedRowsStay z h e
  pub places : (k : List ℕ) → same_key k0 k ≡ false → place z (e ∷ h) k ≡ place z h k
  pub lasts : (k : List ℕ) → same_key k0 k ≡ false → last_at (marked (e ∷ h)) k ≡ last_at (marked h) k
  pub new_place : (a : Slot) → o ≡ item a → place z (e ∷ h) a.key ≡ Some n
  pub new : (a : Slot) → o ≡ item a → IsStanding z (e ∷ h) (bucket_of z k0) n a
  pub own : (a : Slot) → o ≡ item a → a.key ≡ k0
  pub has : (y : Cached) → x ≡ Some y → (a : Slot) × (o ≡ item a)

module _ (z : Shape) (h : List Event) (e : Event) (k0 : List ℕ) (n : ℕ) (o : Content) (x : Option Cached) (p : Puts z h e k0 n o x) where
  pub here : (m : ℕ) → (bucket_after z (e ∷ h) (bucket_of z k0)).items m ≡ cond (eqb n m) o ((bucket_after z h (bucket_of z k0)).items m)
  here m = let b0 = bucket_of z k0 in
      ap (λ u. u.items m) (cond-true (is (bucket_at z e) b0) (acts e (bucket_after z h b0)) (bucket_after z h b0) (p.at b0 ∙ eq-eqb b0 b0 refl)) ∙ ap (λ f. f m) (p.items (bucket_after z h b0))

  pub there : (b m : ℕ) → eqb (bucket_of z k0) b ≡ false → (bucket_after z (e ∷ h) b).items m ≡ (bucket_after z h b).items m
  there b m f = ap (λ u. u.items m) (cond-false (is (bucket_at z e) b) (acts e (bucket_after z h b)) (bucket_after z h b) (p.at b ∙ f))

  same_chained : (b : ℕ) → (bucket_after z (e ∷ h) b).chained ≡ (bucket_after z h b).chained
  same_chained b = ⊎_elim
      (λ t. ap (λ u. u.chained) (cond-true (is (bucket_at z e) b) (acts e (bucket_after z h b)) (bucket_after z h b) t) ∙ p.chained (bucket_after z h b))
      (λ f. ap (λ u. u.chained) (cond-false (is (bucket_at z e) b) (acts e (bucket_after z h b)) (bucket_after z h b) f))
      (cases_Bool (is (bucket_at z e) b))

  abbrev Old : ℕ → ℕ → Slot → Type 0
  Old b m a = ((bucket_after z h b).items m ≡ item a) × (a.key ≢ k0)

  abbrev New : ℕ → ℕ → Slot → Type 0
  New b m a = (bucket_of z k0 ≡ b) × (n ≡ m) × (o ≡ item a)

  which : Coherent z h → Turns z h k0 n → (b m : ℕ) (a : Slot) → (bucket_after z (e ∷ h) b).items m ≡ item a → New b m a ⊎ Old b m a
  which c t b m a is' = ⊎_elim
      (λ yes. let eb = eqb-true (bucket_of z k0) b yes in
      let is0 : (bucket_after z (e ∷ h) (bucket_of z k0)).items m ≡ item a = rw eb is' in
      ⊎_elim (λ hit. inl (eb, eqb-true n m hit, sym (cond-true (eqb n m) o ((bucket_after z h (bucket_of z k0)).items m) hit) ∙ (sym (here m) ∙ is0)))
      (λ miss. let old = sym (cond-false (eqb n m) o ((bucket_after z h (bucket_of z k0)).items m) miss) ∙ (sym (here m) ∙ is0) in
      inr (subst (λ (y : ℕ). (bucket_after z h y).items m ≡ item a) eb old, t.others m a old (λ same. eqb-false n m miss (sym same))))
      (cases_Bool (eqb n m)))
      (λ no. let old = sym (there b m no) ∙ is' in inr (old, λ same. eqb-false (bucket_of z k0) b no (ap (bucket_of z) (sym same) ∙ (c.items b m a old).here)))
      (cases_Bool (eqb (bucket_of z k0) b))

  stays : (b m : ℕ) (a : Slot) → IsStanding z h b m a → a.key ≢ k0 → IsStanding z (e ∷ h) b m a
  stays b m a s ne = let q = same_chained b in let lt = s.position.0 in
      stood z h e b m m a s (omega arith, s.position.1) (rows_of z h e b m a s p.rows)
      (p.keys a.key ∙ cond-false (same_key k0 a.key) x (stands z (seen h) a.key) (same_false k0 a.key (λ q. ne (sym q))))
      (p.lasts a.key (same_false k0 a.key (λ q. ne (sym q))))

  puts : IsLawful z (e ∷ h) → Coherent z h → Turns z h k0 n → Coherent z (e ∷ h)
  puts l c t = record {
    chains = chain_of z (e ∷ h) l;
    items = λ b m a is'. ⊎_elim (λ (w : New b m a). subst (λ (y : ℕ). IsStanding z (e ∷ h) y m a) w.0 (subst (λ (y : ℕ). IsStanding z (e ∷ h) (bucket_of z k0) y a) w.1 (p.new a w.2)))
        (λ (w : Old b m a). stays b m a (c.items b m a w.0) w.1) (which c t b m a is');
    placed = λ b m a is'. ⊎_elim (λ (w : New b m a). p.new_place a w.2 ∙ ap Some w.1)
        (λ (w : Old b m a). p.places a.key (same_false k0 a.key (λ q. w.1 (sym q))) ∙ c.placed b m a w.0) (which c t b m a is');
    all = λ k y is'. ⊎_elim
        (λ yes. let ek = key_true k0 k yes in
        let w = p.has y (sym (cond-true (same_key k0 k) x (stands z (seen h) k) yes) ∙ (sym (p.keys k) ∙ is')) in (
          n,
          w.0,
          subst (λ (q : List ℕ). (bucket_after z (e ∷ h) (bucket_of z q)).items n ≡ item w.0) ek (here n
              ∙ (cond-true (eqb n n) o ((bucket_after z h (bucket_of z k0)).items n) (eq-eqb n n refl) ∙ w.1)),
          p.own w.0 w.1 ∙ ek,
        ))
        (λ no. let w = c.all k y (sym (cond-false (same_key k0 k) x (stands z (seen h) k) no) ∙ (sym (p.keys k) ∙ is')) in
        let ne = key_false k0 k no in (
          w.0,
          w.1,
          ⊎_elim
              (λ same. let eb = eqb-true (bucket_of z k0) (bucket_of z k) same in
              let at0 : (bucket_after z h (bucket_of z k0)).items w.0 ≡ item w.1 = rw eb w.2 in
              let apart : n ≢ w.0 = (λ en. ne (sym (t.own w.1 (rw en at0)) ∙ w.3)) in
              subst (λ (q : ℕ). (bucket_after z (e ∷ h) q).items w.0 ≡ item w.1) eb (here w.0 ∙ (cond-false (eqb n w.0) o ((bucket_after z h (bucket_of z k0)).items w.0) (ne_eqb n w.0 apart) ∙ at0)))
              (λ other. there (bucket_of z k) w.0 other ∙ w.2)
              (cases_Bool (eqb (bucket_of z k0) (bucket_of z k))),
          w.3,
        ))
        (cases_Bool (same_key k0 k));
  }

-- a linked row is no row that an event touches
pub rows_stay : (z : Shape) (h : List Event) (e : Event) → Suits z h e → ((p t d : ℕ) → e ≢ Refilled p t d) → LinkedRowsStay z h e
rows_stay z h e u other s r k v on _ = cond-false (of_row h e s r) (writes_row e (row_alone h s r)) (row_alone h s r)
    (false_from_ne_true (of_row h e s r) (λ t. none-some k (sym (at_unlinked z h e s r u other t) ∙ on)))

linked_then : (t : Bool) (u : Row) (k : List ℕ) → t ≡ true → (cond t (record u { linked = Some k }) u).linked ≡ Some k
linked_then true u k e = refl
linked_then false u k e = absurd (false≢true e)

linked_words : (t : Bool) (u : Row) (k : List ℕ) (j : ℕ) → (cond t (record u { linked = Some k }) u).words j ≡ u.words j
linked_words true u k j = refl
linked_words false u k j = refl

-- all rows of an item that is linked, or moved, are linked to its key, and no word of a row changes
module _ (h : List Event) (p : ℕ) (q : Request) (s r n : ℕ) where
  pub now_linked : (i : ℕ) → covers r (span_of_header ((row_alone h s r).words 0)) i ≡ true → (row_alone (Linked p q s r n ∷ h) s i).linked ≡ Some (key_of q)
  now_linked i c = linked_then (of_row h (Linked p q s r n) s i) (row_alone h s i) (key_of q)
      (and_from (eqb s s) (covers r (span_of_header ((row_alone h s r).words 0)) i) (eq-eqb s s refl) c)

  pub link_words : (t i j : ℕ) → (row_after (Linked p q s r n ∷ h) t i).words j ≡ (row_after h t i).words j
  link_words t i j = same_words_after h (Linked p q s r n ∷ h) t i (λ x y. linked_words (of_row h (Linked p q s r n) t x) (row_alone h t x) (key_of q) y) j

module _ (h : List Event) (p : ℕ) (k : List ℕ) (f o s r n : ℕ) where
  pub now_moved : (i : ℕ) → covers r (span_of_header ((row_alone h s r).words 0)) i ≡ true → (row_alone (Relinked p k f o s r n ∷ h) s i).linked ≡ Some k
  now_moved i c = linked_then (of_row h (Relinked p k f o s r n) s i) (row_alone h s i) k
      (and_from (eqb s s) (covers r (span_of_header ((row_alone h s r).words 0)) i) (eq-eqb s s refl) c)

  pub move_words : (t i j : ℕ) → (row_after (Relinked p k f o s r n ∷ h) t i).words j ≡ (row_after h t i).words j
  move_words t i j = same_words_after h (Relinked p k f o s r n ∷ h) t i (λ x y. linked_words (of_row h (Relinked p k f o s r n) t x) (row_alone h t x) k y) j

-- the first row is one of them
pub row_itself : (h : List Event) (s r : ℕ) → covers r (span_of_header ((row_alone h s r).words 0)) r ≡ true
row_itself h s r = covers-first r (span_of_header ((row_alone h s r).words 0)) (header_some ((row_alone h s r).words 0))

pub links : (z : Shape) (h : List Event) (p : ℕ) (q : Request) (s r n : ℕ) → Suits z h (Linked p q s r n)
    → Puts z h (Linked p q s r n) (key_of q) n (item (slot (key_of q) s r)) (Some (cached (value_of q) s))
links z h p q s r n u = let e = Linked p q s r n in let k = key_of q in let own = linked_first z h p q s r n u in
    let b0 = bucket_of z k in
    let same_bucket : bucket_after z (e ∷ h) b0 ≡ acts e (bucket_after z h b0) = cond-true (eqb b0 b0) (acts e (bucket_after z h b0)) (bucket_after z h b0) (eq-eqb b0 b0 refl) in
    let new : IsStanding z (e ∷ h) b0 n (slot k s r) = record {
      here = refl;
      position = subst (λ w. IsPosition w n) (sym same_bucket) u.3;
      within = (own.0, own.1);
      linked = now_linked h p q s r n r (row_itself h s r);
      value = value_of q;
      valid = (u.5, u.6);
      holds = λ j lt. link_words h p q s r n s r j ∙ u.1 j lt;
      rows = λ i c. now_linked h p q s r n i (subst (λ m. covers r m i ≡ true) (sym (alone_span h s r k (value_of q) u.5 u.6 u.1)) c);
      stands = stands_wrote z p q Stored (Some s) (seen h) k ∙ cond-true (same_key k k) (Some (cached (value_of q) s)) (stands z (seen h) k) (same_true k k refl);
      last = cond-true (same_key k k) (Some (slot k s r)) (last_at (marked h) k) (same_true k k refl);
    } in
    record {
      at = λ b. refl;
      items = λ w. refl;
      chained = λ w. refl;
      keys = stands_wrote z p q Stored (Some s) (seen h);
      rows = rows_stay z h e u (λ p' t' d' same. cc);
      places = λ k' f. cond-false (same_key k k') (Some n) (place z h k') f;
      lasts = λ k' f. cond-false (same_key k k') (Some (slot k' s r)) (last_at (marked h) k') f;
      new_place = λ a is'. cond-true (same_key k a.key) (Some n) (place z h a.key) (same_true k a.key (ap (λ o. o.key) (same_item (slot k s r) a is')));
      new = λ a is'. subst (IsStanding z (e ∷ h) b0 n) (same_item (slot k s r) a is') new;
      own = λ a is'. ap (λ o. o.key) (sym (same_item (slot k s r) a is'));
      has = λ y is'. (slot k s r, refl);
    }

-- what a move puts under its key: its value, in the other segment
pub relinks : (z : Shape) (h : List Event) (p : ℕ) (k : List ℕ) (f i s r n : ℕ)
    → (u : Suits z h (Relinked p k f i s r n)) → Coherent z h
    → Puts z h (Relinked p k f i s r n) k n (item (slot k s r)) (Some (cached u.1.0 s))
relinks z h p k f i s r n u c = let e = Relinked p k f i s r n in let own = moved_first z h p k f i s r n u in
    let old = c.items (bucket_of z k) n (slot k f i) u.2 in
    let b0 = bucket_of z k in
    let same_bucket : bucket_after z (e ∷ h) b0 ≡ acts e (bucket_after z h b0) = cond-true (eqb b0 b0) (acts e (bucket_after z h b0)) (bucket_after z h b0) (eq-eqb b0 b0 refl) in
    let on : (k' : List ℕ) → stands z (seen (e ∷ h)) k' ≡ cond (same_key k k') (Some (cached u.1.0 s)) (stands z (seen h) k') =
    (λ k'. stands_moved z p k f s (seen h) k' ∙ ⊎_elim
    (λ t. rw t (ap (option_map (with_segment s)) (ap (stands z (seen h)) (sym (key_true k k' t)) ∙ u.1.1)))
    (λ g. rw g refl)
    (cases_Bool (same_key k k'))) in
    let same_value : Some (cached u.1.0 f) ≡ Some (cached old.value f) = sym u.1.1 ∙ old.stands in
    let is_value : IsValue u.1.0 = subst IsValue (sym (ap (λ (x : Cached). x.value) (same_Some (cached u.1.0 f) (cached old.value f) same_value))) old.valid.1 in
    let new : IsStanding z (e ∷ h) b0 n (slot k s r) = record {
      here = refl;
      position = subst (λ w. IsPosition w n) (sym same_bucket) old.position;
      within = (own.0, own.1);
      linked = now_moved h p k f i s r n r (row_itself h s r);
      value = u.1.0;
      valid = (old.valid.0, is_value);
      holds = λ j lt. move_words h p k f i s r n s r j ∙ u.1.2 j lt;
      rows = λ x c. now_moved h p k f i s r n x (subst (λ m. covers r m x ≡ true) (sym (alone_span h s r k u.1.0 old.valid.0 is_value u.1.2)) c);
      stands = on k ∙ cond-true (same_key k k) (Some (cached u.1.0 s)) (stands z (seen h) k) (same_true k k refl);
      last = cond-true (same_key k k) (Some (slot k s r)) (last_at (marked h) k) (same_true k k refl);
    } in
    record {
      at = λ b. refl;
      items = λ w. refl;
      chained = λ w. refl;
      keys = on;
      rows = rows_stay z h e u (λ p' t' d' same. cc);
      places = λ k' g. cond-false (same_key k k') (Some n) (place z h k') g;
      lasts = λ k' g. cond-false (same_key k k') (Some (slot k' s r)) (last_at (marked h) k') g;
      new_place = λ a is'. cond-true (same_key k a.key) (Some n) (place z h a.key) (same_true k a.key (ap (λ o. o.key) (same_item (slot k s r) a is')));
      new = λ a is'. subst (IsStanding z (e ∷ h) b0 n) (same_item (slot k s r) a is') new;
      own = λ a is'. ap (λ o. o.key) (sym (same_item (slot k s r) a is'));
      has = λ y is'. (slot k s r, refl);
    }

pub gone : (z : Shape) (p : ℕ) (k : List ℕ) (why : Leaving) (h : List Event) (k' : List ℕ) → stands z (removal p k why ∷ seen h) k' ≡ cond (same_key k k') None (stands z (seen h) k')
gone z p k (Deletes m) h k' = stands_wrote z p (Delete k m) Deleted None (seen h) k'
gone z p k (Evicts s) h k' = stands_evicted z p k s (seen h) k'

pub unlinks : (z : Shape) (h : List Event) (p : ℕ) (k : List ℕ) (n : ℕ) (why : Leaving) → Puts z h (Unlinked p k n why) k n nothing None
unlinks z h p k n why = record {
  at = λ b. refl;
  items = λ w. refl;
  chained = λ w. refl;
  keys = gone z p k why h;
  rows = λ s r k v on is'. refl;
  places = λ k f. refl;
  lasts = λ k f. refl;
  new_place = λ a is'. absurd (no_item a is');
  new = λ a is'. absurd (no_item a is');
  own = λ a is'. absurd (no_item a is');
  has = λ y is'. absurd (none-some y is');
}

-- ---- a chain that grows

module _ (z : Shape) (h : List Event) (p b m : ℕ) (l : IsLawful z (Chained p b m ∷ h)) (c : Coherent z h) where
  abbrev e : Event
  e = Chained p b m

  abbrev u : Bucket
  u = bucket_after z h b

  pub grown : bucket_after z (e ∷ h) b ≡ acts e u
  grown = cond-true (eqb b b) (acts e u) u (eq-eqb b b refl)

  pub others_same : (a : ℕ) → eqb b a ≡ false → bucket_after z (e ∷ h) a ≡ bucket_after z h a
  others_same a f = cond-false (eqb b a) (acts e (bucket_after z h a)) (bucket_after z h a) f

  -- an item of the grown chain was at its position before, or moved from the last word
  from : (n : ℕ) (a : Slot) → (acts e u).items n ≡ item a → ((fresh_position u ≡ n) × (u.items (last u) ≡ item a)) ⊎ ((last u ≢ n) × (u.items n ≡ item a))
  from n a is' = ⊎_elim
      (λ t. absurd (next_item m a (sym (cond-true (eqb (last u) n) (next m) _ t) ∙ is')))
      (λ f. let old = sym (cond-false (eqb (last u) n) (next m) (cond (eqb (fresh_position u) n) (u.items (last u)) (u.items n)) f) ∙ is' in ⊎_elim
      (λ t. inl (eqb-true (fresh_position u) n t, sym (cond-true (eqb (fresh_position u) n) (u.items (last u)) (u.items n) t) ∙ old))
      (λ g. inr (eqb-false (last u) n f, sym (cond-false (eqb (fresh_position u) n) (u.items (last u)) (u.items n) g) ∙ old))
      (cases_Bool (eqb (fresh_position u) n)))
      (cases_Bool (eqb (last u) n))

  pub at_fresh : (acts e u).items (fresh_position u) ≡ u.items (last u)
  at_fresh = rw (ne_eqb (last u) (fresh_position u) (λ q. omega arith), eq-eqb (fresh_position u) (fresh_position u) refl) refl

  pub elsewhere : (n : ℕ) → last u ≢ n → fresh_position u ≢ n → (acts e u).items n ≡ u.items n
  elsewhere n ne ne' = rw (ne_eqb (last u) n ne, ne_eqb (fresh_position u) n ne') refl

  standing : (n : ℕ) (a : Slot) → (acts e u).items n ≡ item a → IsStanding z (e ∷ h) b n a
  standing n a is' = ⊎_elim
      (λ w. let q = w.0 in stood z h e b (last u) n a (c.items b (last u) a w.1) (subst (λ v. IsPosition v n) (sym grown) (omega arith, omega arith)) (λ i c. refl) refl refl)
      (λ w. let s = c.items b n a w.1 in let lt = s.position.0 in stood z h e b n n a s (subst (λ v. IsPosition v n) (sym grown) (omega arith, s.position.1)) (λ i c. refl) refl refl)
      (from n a is')

  here_place : (n : ℕ) (a : Slot) → (acts e u).items n ≡ item a → moved u (place z h a.key) ≡ Some n
  here_place n a is' = ⊎_elim
      (λ w. rw (c.placed b (last u) a w.1, eq-eqb (last u) (last u) refl) (ap Some w.0))
      (λ w. rw (c.placed b n a w.1, ne_eqb (last u) n w.0) refl)
      (from n a is')

  chains_on : Coherent z (e ∷ h)
  chains_on = record {
    chains = chain_of z (e ∷ h) l;
    items = λ a n x is'. ⊎_elim
        (λ t. let eb = eqb-true b a t in subst (λ (y : ℕ). IsStanding z (e ∷ h) y n x) eb
        (standing n x (ap (λ v. v.items n) (sym grown)
        ∙ subst (λ (y : ℕ). (bucket_after z (e ∷ h) y).items n ≡ item x) (sym eb) is')))
        (λ f. let s = others_same a f in let o = c.items a n x (ap (λ v. v.items n) (sym s) ∙ is') in
        stood z h e a n n x o (subst (λ v. IsPosition v n) (sym s) o.position) (λ i c. refl) refl refl)
        (cases_Bool (eqb b a));
    placed = λ a n x is'. ⊎_elim
        (λ t. let eb = eqb-true b a t in let at : (acts e u).items n ≡ item x = ap (λ v. v.items n) (sym grown) ∙ subst (λ (y : ℕ). (bucket_after z (e ∷ h) y).items n ≡ item x) (sym eb) is' in
        cond-true (eqb b (bucket_of z x.key)) (moved u (place z h x.key)) (place z h x.key) (eq-eqb b (bucket_of z x.key) (sym (standing n x at).here)) ∙ here_place n x at)
        (λ f. let old = ap (λ v. v.items n) (sym (others_same a f)) ∙ is' in
        cond-false (eqb b (bucket_of z x.key)) (moved u (place z h x.key)) (place z h x.key) (ne_eqb b (bucket_of z x.key) (λ q. eqb-false b a f (q ∙ (c.items a n x old).here))) ∙ c.placed a n x old)
        (cases_Bool (eqb b a));
    all = λ k x is'. let w = c.all k x is' in ⊎_elim
        (λ t. let eb = eqb-true b (bucket_of z k) t in
        let old : u.items w.0 ≡ item w.1 = rw eb w.2 in
        let go : (n : ℕ) → (acts e u).items n ≡ item w.1 → (n : ℕ) × (a : Slot) × ((bucket_after z (e ∷ h) (bucket_of z k)).items n ≡ item a) × (a.key ≡ k) =
        (λ n at. (n, w.1, subst (λ (y : ℕ). (bucket_after z (e ∷ h) y).items n ≡ item w.1) eb (ap (λ v. v.items n) grown ∙ at), w.3)) in
        ⊎_elim
        (λ y. go (fresh_position u) (at_fresh ∙ rw (eqb-true (last u) w.0 y) old))
        (λ g. go w.0 (elsewhere w.0 (eqb-false (last u) w.0 g) (λ q. copy_item l.1.suits.1.1 w.1 (sym l.1.suits.1.3 ∙ rw q old)) ∙ old))
        (cases_Bool (eqb (last u) w.0)))
        (λ f. (w.0, w.1, ap (λ v. v.items w.0) (others_same (bucket_of z k) f) ∙ w.2, w.3))
        (cases_Bool (eqb b (bucket_of z k)));
  }

-- ---- the events that change nothing of this

pub refused : (q : _) (y : Reply) (s : Option ℕ) (old : Option Cached) → IsRefusal y → put q y s old ≡ old
refused q NotStored s old r = refl
refused q Exists s old r = refl
refused q NotFound s old r = refl
refused q Stored s old r = absurd r
refused q Deleted s old r = absurd r

pub same_cond : {A : Type 0} (t : Bool) (x y : A) → x ≡ y → cond t x y ≡ y
same_cond true x y e = e
same_cond false x y e = refl

-- the events that link, unlink or chain
abbrev pub Turning : Event → Bool
Turning (Linked p q s r n) = true
Turning (Relinked p k f i s r n) = true
Turning (Unlinked p k n why) = true
Turning (Chained p b m) = true
Turning _ = false

same_chain : (e : Event) (u : Bucket) → Turning e ≡ false → (acts e u).chained ≡ u.chained
same_chain (Linked p q s r n) u t = absurd (false≢true (sym t))
same_chain (Relinked p k f i s r n) u t = absurd (false≢true (sym t))
same_chain (Unlinked p k n why) u t = absurd (false≢true (sym t))
same_chain (Chained p b m) u t = absurd (false≢true (sym t))
same_chain e u t = refl

-- the fresh word has no item
not_fresh : (h : List Event) (b : ℕ) (u : Bucket) (n : ℕ) (a : Slot) → IsChain h b u → u.items n ≡ item a → fresh_position u ≢ n
not_fresh h b u n a c is' e = let i : IsContent h b u n (item a) = subst (IsContent h b u n) is' (c.contents n) in let lt = i.0 in omega arith

act_back : (e : Event) (u : Bucket) (n : ℕ) (a : Slot) → Turning e ≡ false → (acts e u).items n ≡ item a → u.items n ≡ item a
act_back (Linked p q s r m) u n a t is' = absurd (false≢true (sym t))
act_back (Relinked p k f i s r m) u n a t is' = absurd (false≢true (sym t))
act_back (Unlinked p k m why) u n a t is' = absurd (false≢true (sym t))
act_back (Chained p b m) u n a t is' = absurd (false≢true (sym t))
act_back (Put p b w) u n a t is' = ⊎_elim
    (λ y. absurd (copy_item w a (sym (cond-true (eqb (fresh_position u) n) (copy w) (u.items n) y) ∙ is')))
    (λ f. sym (cond-false (eqb (fresh_position u) n) (copy w) (u.items n) f) ∙ is')
    (cases_Bool (eqb (fresh_position u) n))
act_back e u n a t is' = is'

act_on : (e : Event) (h : List Event) (b : ℕ) (u : Bucket) (n : ℕ) (a : Slot) → Turning e ≡ false → IsChain h b u → u.items n ≡ item a → (acts e u).items n ≡ item a
act_on (Linked p q s r m) h b u n a t c is' = absurd (false≢true (sym t))
act_on (Relinked p k f i s r m) h b u n a t c is' = absurd (false≢true (sym t))
act_on (Unlinked p k m why) h b u n a t c is' = absurd (false≢true (sym t))
act_on (Chained p d m) h b u n a t c is' = absurd (false≢true (sym t))
act_on (Put p d w) h b u n a t c is' = cond-false (eqb (fresh_position u) n) (copy w) (u.items n) (ne_eqb (fresh_position u) n (not_fresh h b u n a c is')) ∙ is'
act_on e h b u n a t c is' = is'

same_map : (z : Shape) (e : Event) (h : List Event) (k : List ℕ) → Turning e ≡ false → Suits z h e → stands z (seen (e ∷ h)) k ≡ stands z (seen h) k
same_map z (Linked p q s r n) h k t u = absurd (false≢true (sym t))
same_map z (Relinked p k' f i s r n) h k t u = absurd (false≢true (sym t))
same_map z (Unlinked p k' n why) h k t u = absurd (false≢true (sym t))
same_map z (Replied p q y) h k t u = stands_wrote z p q y None (seen h) k
    ∙ same_cond (same_key (key_of q) k) (put q y None (stands z (seen h) k)) (stands z (seen h) k)
    (refused q y None (stands z (seen h) k) u)
same_map z e h k t u = refl

same_places : (z : Shape) (e : Event) (h : List Event) (k : List ℕ) → Turning e ≡ false → place z (e ∷ h) k ≡ place z h k
same_places z (Linked p q s r n) h k t = absurd (false≢true (sym t))
same_places z (Relinked p k' f i s r n) h k t = absurd (false≢true (sym t))
same_places z (Chained p b m) h k t = absurd (false≢true (sym t))
same_places z e h k t = refl

same_lasts : (e : Event) (h : List Event) (k : List ℕ) → Turning e ≡ false → last_at (marked (e ∷ h)) k ≡ last_at (marked h) k
same_lasts (Linked p q s r n) h k t = absurd (false≢true (sym t))
same_lasts (Relinked p k' f i s r n) h k t = absurd (false≢true (sym t))
same_lasts e h k t = refl

calm_rows : (z : Shape) (e : Event) (h : List Event) → IsLawful z (e ∷ h) → LinkedRowsStay z h e
calm_rows z (Refilled p s d) h l t r k v on is' =
    cond-false (eqb s t) (writes_row (Refilled p s d) (row_alone h t r)) (row_alone h t r)
    (ne_eqb s t (λ e. l.1.follows.0 k (stands_in z (seen h) k s (v, is' ∙ ap (λ q. Some (cached v q)) (sym e)))))
calm_rows z (Filled p s r j w) h l t i k v on is' = rows_stay z h (Filled p s r j w) l.1.suits (λ p' t' d' same. cc) t i k v on is'
calm_rows z (Linked p q s r n) h l t i k v on is' = rows_stay z h (Linked p q s r n) l.1.suits (λ p' t' d' same. cc) t i k v on is'
calm_rows z (Relinked p k' f j s r n) h l t i k v on is' = rows_stay z h (Relinked p k' f j s r n) l.1.suits (λ p' t' d' same. cc) t i k v on is'
calm_rows z e h l s r k v on is' = refl

pub is_calm : (z : Shape) (e : Event) (h : List Event) → Turning e ≡ false → IsLawful z (e ∷ h) → Coherent z h → Calm z h e
is_calm z e h t l c = record {
  back = λ b n a is'. ⊎_elim (λ y. act_back e (bucket_after z h b) n a t (ap (λ v. v.items n) (sym (cond-true (is (bucket_at z e) b) (acts e (bucket_after z h b)) (bucket_after z h b) y)) ∙ is'))
      (λ f. ap (λ v. v.items n) (sym (cond-false (is (bucket_at z e) b) (acts e (bucket_after z h b)) (bucket_after z h b) f)) ∙ is') (cases_Bool (is (bucket_at z e) b));
  on = λ b n a is'. ⊎_elim (λ y. ap (λ v. v.items n) (cond-true (is (bucket_at z e) b) (acts e (bucket_after z h b)) (bucket_after z h b) y) ∙ act_on e h b (bucket_after z h b) n a t (c.chains b) is')
      (λ f. ap (λ v. v.items n) (cond-false (is (bucket_at z e) b) (acts e (bucket_after z h b)) (bucket_after z h b) f) ∙ is') (cases_Bool (is (bucket_at z e) b));
  chains = λ b. ⊎_elim (λ y. ap (λ v. v.chained) (cond-true (is (bucket_at z e) b) (acts e (bucket_after z h b)) (bucket_after z h b) y) ∙ same_chain e (bucket_after z h b) t)
      (λ f. ap (λ v. v.chained) (cond-false (is (bucket_at z e) b) (acts e (bucket_after z h b)) (bucket_after z h b) f)) (cases_Bool (is (bucket_at z e) b));
  keys = λ k. same_map z e h k t l.1.suits;
  rows = calm_rows z e h l;
  places = λ k. same_places z e h k t;
  lasts = λ k. same_lasts e h k t;
}

-- in a lawful history the chains and the map agree
pub coherent : (z : Shape) (h : List Event) → IsLawful z h → Coherent z h
coherent z [] l = record { chains = chain_of z [] l; items = λ b n a is'. absurd (no_item a is'); placed = λ b n a is'. absurd (no_item a is'); all = λ k x is'. absurd (none-some x is') }
coherent z (Linked p q s r n ∷ h) l = let c = coherent z h l.0 in
    puts z h (Linked p q s r n) (key_of q) n (item (slot (key_of q) s r)) (Some (cached (value_of q) s)) (links z h p q s r n l.1.suits) l c (has_room z h (key_of q) n c l.1.suits.4)
coherent z (Relinked p k f i s r n ∷ h) l = let c = coherent z h l.0 in let u = l.1.suits in
    puts z h (Relinked p k f i s r n) k n (item (slot k s r)) (Some (cached u.1.0 s)) (relinks z h p k f i s r n u c) l c (has_room z h k n c (inr (slot k f i, u.2, refl)))
coherent z (Unlinked p k n why ∷ h) l = let c = coherent z h l.0 in let u = l.1.suits in
    puts z h (Unlinked p k n why) k n nothing None (unlinks z h p k n why) l c (has_room z h k n c (inr (u.0, u.1, u.2)))
coherent z (Chained p b m ∷ h) l = chains_on z h p b m l (coherent z h l.0)
coherent z (e ∷ h) l = let c = coherent z h l.0 in calm z h e l (is_calm z e h refl l c) c

left_legal : (z : Shape) (h : List Event) → IsLawful z h → IsLegal z (seen h)
left_legal z [] l = tt
left_legal z (Replied p q y ∷ h) l = (left_legal z h l.0, l.1.follows)
left_legal z (Refilled p s d ∷ h) l = (left_legal z h l.0, l.1.follows)
left_legal z (Linked p q s r n ∷ h) l = (left_legal z h l.0, l.1.follows)
left_legal z (Relinked p k f i s r n ∷ h) l = (left_legal z h l.0, l.1.follows)
left_legal z (Unlinked p k n why ∷ h) l = (left_legal z h l.0, l.1.follows)
left_legal z (e ∷ h) l = left_legal z h l.0

-- the history without its marks is legal
pub legal : (z : Shape) (h : List Event) → IsLawful z h → IsLegal z (seen h)
unfolding left_legal
legal z h l = left_legal z h l
