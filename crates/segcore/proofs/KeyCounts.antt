-- How many keys of a bucket stand: as many as positions of its chain have an item.
pub mod Filled
use Rattle.std.proofs.Common.{◌≡◌, ◌≢◌, ℕ, ◌+◌, ◌*◌, ◌<◌, ◌≤◌, ◌==◌, Bool, true, false, cond, eqb, not, List, [], ◌∷◌, Some, None, Option, is_some, filter, count_by, sym, refl, ap, ◌∙◌, subst, ⊎_elim, inl, inr, arith}
use Rattle.std.specs.declared.cmp.Ordering.{Ordering}
use Rattle.std.specs.declared.cmp.Ordering.TheVariants.{Less, Equal, Greater}
use Rattle.std.specs.Ordering.{match_ordering, is_eq}
use Rattle.std.specs.List.Sorted.{IsStrictlySortedBy}
use Rattle.std.specs.BTreeMap.{insert_entry, is_at}
use Rattle.std.specs.Map.{keys_of, lookup}
use Rattle.std.proofs.lemmas.Bool.{cases_Bool, cond-true, cond-false, eqb-true, ne_eqb, false≢true}
use Rattle.std.proofs.lemmas.Map.Lookups.{exact_bytes}
use Rattle.segword.specs.Words.{Shape}
use Rattle.segmodel.specs.declared.request.Reply.TheVariants.{Stored, Deleted, NotStored, Exists, NotFound}
use Rattle.segmodel.specs.Words.{after, bucket_of, Cache, Cached, key_cmp, key_of, keys_in, Reply}
use Rattle.segmodel.specs.Words.{Request, standing, value_of, with_at, written}
use Rattle.segmodel.proofs.Counts.{count_by-cons}
use Rattle.segmodel.proofs.Moves.{keys-moved}
use Rattle.segmodel.proofs.Ordered.{Above, above_lower, sorted-after}
use Rattle.segcore.specs.Words.{Cell, Event, Leaving}
use Rattle.segcore.specs.declared.event.Event.TheVariants.{Replied, Linked, Relinked, Unlinked, Chained}
use Rattle.segcore.specs.Event.{removal, seen}
use Rattle.segcore.specs.Bucket.{Slot, slot, Content, nothing, item, next, copy, Bucket, last, fresh_position, bucket_at, is, acts, bucket_after, empty_bucket}
use Rattle.segcore.specs.Lawful.{IsRefusal, HasRoomFor, HasItemOf, Suits, IsLawful}
use Rattle.segcore.specs.Standing.{cached}
use Rattle.segcore.specs.Word.{content_word, word, IsItemAt}
use Rattle.segcore.specs.Mark.{marked, width}
use Rattle.segcore.specs.Filled.{item_count, items_below, HasNoEmptyWord}
use Rattle.segcore.specs.declared.event.Leaving.TheVariants.{Deletes, Evicts}
use Rattle.segcore.proofs.Coherent.{Coherent}
use Rattle.segcore.proofs.Standing.{Puts, links, unlinks, relinks, Turning, Calm, is_calm, coherent}
use Rattle.segcore.proofs.Chains.{chain_of}
use Rattle.segcore.proofs.Marked.{one_if, drawn_marked}
use Rattle.segcore.proofs.Exact.{content_at}
use Rattle.segcore.proofs.KeyCounts.Filled.{same_below, changed_below, none_past, to_end, few, full}
use Rattle.segmodel.proofs.Words.{above_absent}

-- ---- the keys of a map

-- a count that is left out where the key isn't there
abbrev pub if_there : Bool → ℕ → ℕ
if_there here n = cond here n 0

absent : (k : List ℕ) (es : List (List ℕ × Cached)) (n : ℕ) → Above k (keys_of es) → if_there (is_some (lookup (is_at (key_cmp k)) es)) n ≡ 0
absent k es n above = ap (λ o. if_there (is_some o) n) (above_absent k es above)

-- a key that is put counts once more, unless it was there
pub count_put : (p : List ℕ → Bool) (k : List ℕ) (x : Cached) (es : List (List ℕ × Cached)) → IsStrictlySortedBy key_cmp (keys_of es)
    → count_by p (keys_of (insert_entry key_cmp es k x)) + if_there (is_some (lookup (is_at (key_cmp k)) es)) (cond (p k) 1 0) ≡ count_by p (keys_of es) + cond (p k) 1 0
unfolding IsStrictlySortedBy
count_put p k x [] sorted = rw (count_by-cons p k []) (omega arith)
count_put p k x (e ∷ es) sorted = by (key_cmp k e.0) refl (count_put p k x es sorted.1)
  where
    by : (r : Ordering) → key_cmp k e.0 ≡ r
        → count_by p (keys_of (insert_entry key_cmp es k x)) + if_there (is_some (lookup (is_at (key_cmp k)) es)) (cond (p k) 1 0) ≡ count_by p (keys_of es) + cond (p k) 1 0
        → count_by p (keys_of (match_ordering r ((k, x) ∷ e ∷ es) ((e.0, x) ∷ es) (e ∷ insert_entry key_cmp es k x)))
        + if_there (is_some (cond (is_eq r) (Some e.1) (lookup (is_at (key_cmp k)) es))) (cond (p k) 1 0) ≡ count_by p (keys_of (e ∷ es)) + cond (p k) 1 0
    by Less is rest =
        let none = absent k es (cond (p k) 1 0) (above_lower k e.0 (keys_of es) is sorted.0) in
        rw (count_by-cons p k (e.0 ∷ keys_of es)) (omega arith)
    by Equal is rest = refl
    by Greater is rest = rw (count_by-cons p e.0 (keys_of (insert_entry key_cmp es k x)), count_by-cons p e.0 (keys_of es)) (omega arith)

-- a key that is taken out counts no more, if it was there
pub count_without : (p : List ℕ → Bool) (k : List ℕ) (es : List (List ℕ × Cached)) → IsStrictlySortedBy key_cmp (keys_of es)
    → count_by p (keys_of (filter (λ e. not (is_at (key_cmp k) e.0)) es)) + if_there (is_some (lookup (is_at (key_cmp k)) es)) (cond (p k) 1 0) ≡ count_by p (keys_of es)
unfolding IsStrictlySortedBy
count_without p k [] sorted = refl
count_without p k (e ∷ es) sorted = by (key_cmp k e.0) refl (count_without p k es sorted.1)
  where
    by : (r : Ordering) → key_cmp k e.0 ≡ r
        → count_by p (keys_of (filter (λ e. not (is_at (key_cmp k) e.0)) es)) + if_there (is_some (lookup (is_at (key_cmp k)) es)) (cond (p k) 1 0) ≡ count_by p (keys_of es)
        → count_by p (keys_of (cond (not (is_eq r)) (e ∷ filter (λ e. not (is_at (key_cmp k) e.0)) es) (filter (λ e. not (is_at (key_cmp k) e.0)) es)))
        + if_there (is_some (cond (is_eq r) (Some e.1) (lookup (is_at (key_cmp k)) es))) (cond (p k) 1 0) ≡ count_by p (keys_of (e ∷ es))
    by Less is rest = rw (count_by-cons p e.0 (keys_of (filter (λ e. not (is_at (key_cmp k) e.0)) es)), count_by-cons p e.0 (keys_of es)) (omega arith)
    by Equal is rest =
        let same : e.0 ≡ k = sym (exact_bytes k e.0 is) in
        let none = absent k es (cond (p k) 1 0) (subst (λ (q : List ℕ). Above q (keys_of es)) same sorted.0) in
        let head : cond {A = ℕ} (p e.0) 1 0 ≡ cond {A = ℕ} (p k) 1 0 = ap (λ (q : List ℕ). cond {A = ℕ} (p q) 1 0) same in
        rw (count_by-cons p e.0 (keys_of es)) (omega arith)
    by Greater is rest = rw (count_by-cons p e.0 (keys_of (filter (λ e. not (is_at (key_cmp k) e.0)) es)), count_by-cons p e.0 (keys_of es)) (omega arith)

-- ---- one event more

-- keys and items grow and shrink alike, where a key was there as often as an item was at its position
agree : (t here : Bool) (new old keys keys' items items' : ℕ) → keys ≡ items → keys' + if_there here (cond t 1 0) ≡ keys + cond t new 0
    → items' + cond t old 0 ≡ items + cond t new 0 → (t ≡ true → old ≡ if_there here 1) → keys' ≡ items'
agree true true new old keys keys' items items' same k i at = let e = at refl in omega arith
agree true false new old keys keys' items items' same k i at = let e = at refl in omega arith
agree false true new old keys keys' items items' same k i at = omega arith
agree false false new old keys keys' items items' same k i at = omega arith

-- one position of the key's bucket changes
put_count : (z : Shape) (h : List Event) (e : Event) (k : List ℕ) (n : ℕ) (o : Content) (x : Option Cached) → Puts z h e k n o x → (b m : ℕ) → n < m
    → items_below (bucket_after z (e ∷ h) b) m + cond (eqb (bucket_of z k) b) (item_count ((bucket_after z h b).items n)) 0
    ≡ items_below (bucket_after z h b) m + cond (eqb (bucket_of z k) b) (item_count o) 0
put_count z h e k n o x p b m lt = let u = bucket_after z h b in ⊎_elim
    (λ t. let is' : bucket_after z (e ∷ h) b ≡ acts e u = cond-true (is (bucket_at z e) b) (acts e u) u (p.at b ∙ t) in
    rw t (changed_below u (bucket_after z (e ∷ h) b) n o m (λ j. ap (λ v. v.items j) is' ∙ ap (λ f. f j) (p.items u)) lt))
    (λ f. let is' : bucket_after z (e ∷ h) b ≡ u = cond-false (is (bucket_at z e) b) (acts e u) u (p.at b ∙ f) in
    rw f (ap (λ v. items_below v m + 0) is'))
    (cases_Bool (eqb (bucket_of z k) b))

module _ (z : Shape) (h : List Event) (l : IsLawful z h) where
  c : Coherent z h
  c = coherent z h l

  has_item : (k : List ℕ) (n : ℕ) → HasItemOf z h k n → item_count ((bucket_after z h (bucket_of z k)).items n) ≡ if_there (is_some (standing (after z (seen h)) k)) 1
  has_item k n (s, at, is_k) =
      let there : standing (after z (seen h)) k ≡ Some (cached _ s.segment) = ap (standing (after z (seen h))) (sym is_k) ∙ (c.items (bucket_of z k) n s at).stands in
      ap item_count at ∙ sym (ap (λ o. if_there (is_some o) 1) there)

  has_room : (k : List ℕ) (n : ℕ) → HasRoomFor z h k n → item_count ((bucket_after z h (bucket_of z k)).items n) ≡ if_there (is_some (standing (after z (seen h)) k)) 1
  has_room k n (inl (empty, absent)) = ap item_count empty ∙ sym (ap (λ o. if_there (is_some o) 1) absent)
  has_room k n (inr has) = has_item k n has

  in_bucket : (k : List ℕ) (n b i : ℕ) → item_count ((bucket_after z h (bucket_of z k)).items n) ≡ i → eqb (bucket_of z k) b ≡ true → item_count ((bucket_after z h b).items n) ≡ i
  in_bucket k n b i at t = subst (λ y. item_count ((bucket_after z h y).items n) ≡ i) (eqb-true (bucket_of z k) b t) at

-- a chain that grows takes an item along
chain_count : (u : Bucket) (p b m n w : ℕ) → u.items (fresh_position u) ≡ copy w → fresh_position u < n → items_below (acts (Chained p b m) u) n ≡ items_below u n
chain_count u p b m n w held lt =
    let v = acts (Chained p b m) u in
    let half : Bucket = record u { items = with_at u.items (fresh_position u) (u.items (last u)) } in
    let came = changed_below u half (fresh_position u) (u.items (last u)) n (λ j. refl) lt in
    let went = changed_below half v (last u) (next m) n (λ j. refl) (omega arith) in
    let none : item_count (u.items (fresh_position u)) ≡ 0 = ap item_count held in
    let stays : item_count (half.items (last u)) ≡ item_count (u.items (last u)) =
    ap item_count (cond-false (eqb (fresh_position u) (last u)) (u.items (last u)) (u.items (last u)) (ne_eqb (fresh_position u) (last u) (λ e. omega arith))) in
    omega arith

-- what a refused write leaves
same_cache : (z : Shape) (q : Request) (y : Reply) (cache : Cache) → IsRefusal y → written z q y None cache ≡ cache
same_cache z q NotStored cache i = refl
same_cache z q Exists cache i = refl
same_cache z q NotFound cache i = refl
same_cache z q Stored cache i = absurd i
same_cache z q Deleted cache i = absurd i

same_keys : (z : Shape) (e : Event) (h : List Event) → Turning e ≡ false → Suits z h e → (after z (seen (e ∷ h))).items ≡ (after z (seen h)).items
same_keys z (Linked p q s r n) h t u = absurd (false≢true (sym t))
same_keys z (Relinked p k a i s r n) h t u = absurd (false≢true (sym t))
same_keys z (Unlinked p k n why) h t u = absurd (false≢true (sym t))
same_keys z (Replied p q y) h t u = ap (λ cache. cache.items) (same_cache z q y (after z (seen h)) u)
same_keys z e h t u = refl

same_count : (x y : Content) → ((a : Slot) → x ≡ item a → y ≡ item a) → ((a : Slot) → y ≡ item a → x ≡ item a) → item_count x ≡ item_count y
same_count (item a) y on back = sym (ap item_count (on a refl))
same_count x (item a) on back = ap item_count (back a refl)
same_count x y on back = refl

calm_count : (z : Shape) (e : Event) (h : List Event) (b m : ℕ) → IsLawful z (e ∷ h) → Turning e ≡ false → Calm z h e → keys_in z (after z (seen h)) b ≡ items_below (bucket_after z h b) m
    → keys_in z (after z (seen (e ∷ h))) b ≡ items_below (bucket_after z (e ∷ h) b) m
calm_count z e h b m l t q same =
    ap (λ items. count_by (λ key. bucket_of z key == b) (keys_of items)) (same_keys z e h t l.1.suits) ∙ (same ∙ sym (same_below (bucket_after z h b) (bucket_after z (e ∷ h) b) m
    (λ n lt. same_count ((bucket_after z (e ∷ h) b).items n) ((bucket_after z h b).items n) (q.back b n) (q.on b n))))

-- ---- a lawful trace

-- as many keys of a bucket stand as positions have an item, past the end of any chain
counts : (z : Shape) (h : List Event) (b m : ℕ) → 32 ≤ m → IsLawful z h → keys_in z (after z (seen h)) b ≡ items_below (bucket_after z h b) m
counts z [] b m le l = sym (none_past empty_bucket 0 m (omega arith) (λ p past. refl))
counts z (Linked p q s r n ∷ h) b m le l =
    let k = key_of q in
    let e = Linked p q s r n in
    let short = (chain_of z h l.0 (bucket_of z k)).short in
    let within = l.1.suits.3.0 in
    agree (eqb (bucket_of z k) b) (is_some (standing (after z (seen h)) k)) 1 (item_count ((bucket_after z h b).items n)) _ _ _ _ (counts z h b m le l.0)
    (count_put (λ key. bucket_of z key == b) k (cached (value_of q) s) (after z (seen h)).items (sorted-after z (seen h)))
    (put_count z h e k n (item (slot k s r)) (Some (cached (value_of q) s)) (links z h p q s r n l.1.suits) b m (omega arith))
    (in_bucket z h l.0 k n b _ (has_room z h l.0 k n l.1.suits.4))
counts z (Relinked p k f i s r n ∷ h) b m le l =
    let e = Relinked p k f i s r n in
    let u = l.1.suits in
    let c = coherent z h l.0 in
    let has : HasItemOf z h k n = (slot k f i, u.2, refl) in
    let short = (chain_of z h l.0 (bucket_of z k)).short in
    let within = (c.items (bucket_of z k) n has.0 has.1).position.0 in
    agree (eqb (bucket_of z k) b) (is_some (standing (after z (seen h)) k)) 1 (item_count ((bucket_after z h b).items n)) _ _ _ _ (counts z h b m le l.0)
    (λ j. count_by (λ key. bucket_of z key == b) (keys-moved k s (after z (seen h)).items j) + if_there (is_some (u.1.1 j)) (cond (eqb (bucket_of z k) b) 1 0))
    (put_count z h e k n (item (slot k s r)) (Some (cached u.1.0 s)) (relinks z h p k f i s r n u c) b m (omega arith))
    (in_bucket z h l.0 k n b _ (has_item z h l.0 k n has))
counts z (Unlinked p k n why ∷ h) b m le l =
    let e = Unlinked p k n why in
    let has : HasItemOf z h k n = (l.1.suits.0, l.1.suits.1, l.1.suits.2) in
    let short = (chain_of z h l.0 (bucket_of z k)).short in
    let within = ((coherent z h l.0).items (bucket_of z k) n l.1.suits.0 l.1.suits.1).position.0 in
    agree (eqb (bucket_of z k) b) (is_some (standing (after z (seen h)) k)) 0 (item_count ((bucket_after z h b).items n)) _ _ _ _ (counts z h b m le l.0)
    (removed why ∙ sym (none (eqb (bucket_of z k) b)))
    (put_count z h e k n nothing None (unlinks z h p k n why) b m (omega arith))
    (in_bucket z h l.0 k n b _ (has_item z h l.0 k n has))
  where
    none : (t : Bool) → keys_in z (after z (seen h)) b + cond t 0 0 ≡ keys_in z (after z (seen h)) b
    none true = omega arith
    none false = omega arith

    removed : (why : Leaving) → keys_in z (after z (removal p k why ∷ seen h)) b + if_there
        (is_some (standing (after z (seen h)) k)) (cond (eqb (bucket_of z k) b) 1 0) ≡ keys_in z (after z (seen h))
        b
    removed (Deletes m) = count_without (λ key. bucket_of z key == b) k (after z (seen h)).items (sorted-after z (seen h))
    removed (Evicts s) = count_without (λ key. bucket_of z key == b) k (after z (seen h)).items (sorted-after z (seen h))
counts z (Chained p a j ∷ h) b m le l =
    let e = Chained p a j in
    let u = bucket_after z h b in
    let suits = l.1.suits in
    let few_yet = ((chain_of z h l.0 a).spare j suits.0).0 in
    counts z h b m le l.0 ∙ sym (⊎_elim
    (λ t. ap (λ v. items_below v m) (cond-true (eqb a b) (acts e u) u t)
    ∙ subst (λ y. items_below (acts e (bucket_after z h y)) m ≡ items_below (bucket_after z h y) m) (eqb-true a b t) (chain_count (bucket_after z h a) p a j m suits.1.1 suits.1.3 (omega arith)))
    (λ f. ap (λ v. items_below v m) (cond-false (eqb a b) (acts e u) u f))
    (cases_Bool (eqb a b)))
counts z (e ∷ h) b m le l = calm_count z e h b m l refl (is_calm z e h refl l (coherent z h l.0)) (counts z h b m le l.0)

-- ---- what the contracts say

pub counted : (z : Shape) (h : List Event) (b : ℕ) → IsLawful z h → keys_in z (after z (seen h)) b ≡ items_below (bucket_after z h b) (8 * (bucket_after z h b).chained + 8)
counted z h b l = let short = (chain_of z h l b).short in counts z h b 32 (omega arith) l ∙ to_end z h b l 32 (omega arith)

pub counted_few : (z : Shape) (h : List Event) (b : ℕ) → IsLawful z h → keys_in z (after z (seen h)) b ≤ 6 * (bucket_after z h b).chained + 7
counted_few z h b l = let same = counted z h b l in let most = few z h b l in omega arith

pub counted_full : (z : Shape) (h : List Event) (b : ℕ) → IsLawful z h → HasNoEmptyWord (bucket_after z h b) → keys_in z (after z (seen h)) b ≡ 6 * (bucket_after z h b).chained + 7
counted_full z h b l all = counted z h b l ∙ full z h b l all

-- a bucket that waits for none is as wide as its chain is long
pub wide : (z : Shape) (h : List Event) (b : ℕ) → IsLawful z h → (bucket_after z h b).spare ≡ None → width (marked h) b ≡ (bucket_after z h b).chained + 1
wide z h b l none = let all = drawn_marked z h b l in let rest = ap one_if none in omega arith

-- a word that isn't 0 holds something
pub filled : (z : Shape) (h : List Event) (b n : ℕ) (c : Cell) → IsItemAt z h b n c → word z h c ≢ 0 → (bucket_after z h b).items n ≢ nothing
filled z h b n c here some none = some (content_at z h b n c here ∙ ap (content_word h) none)
