-- The version of a bucket counts its writes, but for the one under a set bit.
use Rattle.std.proofs.Common.{◌≡◌, ℕ, ◌+◌, Bool, true, false, cond, eqb, List, [], ◌∷◌, Option, Some, None, sym, refl, ap, ◌∙◌, ⊎_elim, arith}
use Rattle.std.proofs.lemmas.Bool.{cases_Bool, cond-true, cond-false, eqb-true, false≢true}
use Rattle.segword.specs.Words.{Shape}
use Rattle.segmodel.specs.declared.request.Reply.TheVariants.{Stored, NotStored, Exists, NotFound, Deleted}
use Rattle.segmodel.specs.Words.{bucket_of, key_of, Reply, writes}
use Rattle.segcore.proofs.Caches.{one_more, writes_wrote, writes_evicted, writes_refilled, writes_moved}
use Rattle.segmodel.specs.declared.request.Request.TheVariants.{Delete}
use Rattle.segcore.specs.Bucket.{Bucket, bucket_at, is, acts, bucket_after, written_by}
use Rattle.segcore.specs.Event.{seen, removal, by}
use Rattle.segcore.specs.Lawful.{MayLeave, IsRefusal, IsLawful, needs}
use Rattle.segcore.specs.Words.{Event, Leaving}
use Rattle.segcore.specs.declared.event.Event.TheVariants.{Took, Freed, Replied, Linked, Relinked, Unlinked, Refilled}
use Rattle.segcore.specs.declared.event.Leaving.TheVariants.{Deletes, Evicts}
use Rattle.std.proofs.Common.{MatchOption, ◌<◌}
use Rattle.std.proofs.lemmas.Option.{none-some}

abbrev one_if : Bool → ℕ
one_if b = cond b 1 0

same_more : (y : Reply) (n : ℕ) → IsRefusal y → one_more y n ≡ n
same_more NotStored n r = refl
same_more Exists n r = refl
same_more NotFound n r = refl
same_more Stored n r = absurd r
same_more Deleted n r = absurd r

freed : (u : Bucket) (n : ℕ) (c : Bool) → u.written ≡ c → n ≡ u.version + one_if u.written → n ≡ cond c (u.version + 1) u.version + 0
freed u n true w e = e ∙ ap (λ b. u.version + one_if b) w ∙ omega arith
freed u n false w e = e ∙ ap (λ b. u.version + one_if b) w

deleted : (z : Shape) (p : ℕ) (k : List ℕ) (why : Leaving) (h : List Event) (u : Bucket) (s : ℕ) (b : ℕ)
    → eqb (bucket_of z k) b ≡ true → MayLeave why u.written s → writes z (seen h) b ≡ u.version + one_if u.written
    → writes z (removal p k why ∷ seen h) b ≡ u.version + one_if (written_by why u.written)
deleted z p k (Deletes m) h u s b t w e = writes_wrote z p (Delete k m) Deleted None (seen h) b
    ∙ cond-true (eqb (bucket_of z k) b) (writes z (seen h) b + 1) (writes z (seen h) b) t
    ∙ ap (λ n. n + 1) (e ∙ ap (λ c. u.version + one_if c) w) ∙ omega arith
deleted z p k (Evicts t') h u s b t w e = writes_evicted z p k t' (seen h) b ∙ e

at_event : (z : Shape) (e : Event) (h : List Event) (b : ℕ) → is (bucket_at z e) b ≡ true → IsLawful z (e ∷ h)
    → writes z (seen h) b ≡ (bucket_after z h b).version + one_if (bucket_after z h b).written
    → writes z (seen (e ∷ h)) b ≡ (acts e (bucket_after z h b)).version + one_if (acts e (bucket_after z h b)).written
at_event z (Freed p a c) h b t l i = freed (bucket_after z h b) (writes z (seen h) b) c (rw (← eqb-true a b t) l.1.suits.0) i
at_event z (Refilled p s d) h b t l i = absurd (false≢true t)
at_event z (Replied p q y) h b t l i = writes_wrote z p q y None (seen h) b
    ∙ cond-true (eqb (bucket_of z (key_of q)) b) (one_more y (writes z (seen h) b)) (writes z (seen h) b) t
    ∙ (same_more y (writes z (seen h) b) l.1.suits ∙ i)
at_event z (Linked p q s r n) h b t l i = let w : (bucket_after z h b).written ≡ false = rw (← eqb-true (bucket_of z (key_of q)) b t) l.1.suits.2 in
    writes_wrote z p q Stored (Some s) (seen h) b
    ∙ cond-true (eqb (bucket_of z (key_of q)) b) (writes z (seen h) b + 1) (writes z (seen h) b) t
    ∙ (ap (λ n. n + 1) (i ∙ ap (λ c. (bucket_after z h b).version + one_if c) w) ∙ omega arith)
at_event z (Relinked p k f r s i n) h b t l e = writes_moved z p k f s (seen h) b ∙ e
at_event z (Unlinked p k n why) h b t l i = deleted z p k why h (bucket_after z h b) l.1.suits.0.segment b t (rw (← eqb-true (bucket_of z k) b t) l.1.suits.3) i
at_event z e h b t l i = i

removed_writes : (z : Shape) (p : ℕ) (k : List ℕ) (why : Leaving) (h : List Event) (b : ℕ) → eqb (bucket_of z k) b ≡ false → writes z (removal p k why ∷ seen h) b ≡ writes z (seen h) b
removed_writes z p k (Deletes m) h b f = writes_wrote z p (Delete k m) Deleted None (seen h) b ∙ cond-false (eqb (bucket_of z k) b) (writes z (seen h) b + 1) (writes z (seen h) b) f
removed_writes z p k (Evicts s) h b f = writes_evicted z p k s (seen h) b

same_writes : (z : Shape) (e : Event) (h : List Event) (b : ℕ) → is (bucket_at z e) b ≡ false → writes z (seen (e ∷ h)) b ≡ writes z (seen h) b
same_writes z (Replied p q y) h b f = writes_wrote z p q y None (seen h) b ∙ cond-false (eqb (bucket_of z (key_of q)) b) (one_more y (writes z (seen h) b)) (writes z (seen h) b) f
same_writes z (Linked p q s r n) h b f = writes_wrote z p q Stored (Some s) (seen h) b ∙ cond-false (eqb (bucket_of z (key_of q)) b) (writes z (seen h) b + 1) (writes z (seen h) b) f
same_writes z (Relinked p k a r s i n) h b f = writes_moved z p k a s (seen h) b
same_writes z (Unlinked p k n why) h b f = removed_writes z p k why h b f
same_writes z (Refilled p s d) h b f = writes_refilled z p s d (seen h) b
same_writes z e h b f = refl

-- how often the keys of a bucket were written
pub versions : (z : Shape) (h : List Event) (b : ℕ) → IsLawful z h → writes z (seen h) b ≡ (bucket_after z h b).version + one_if (bucket_after z h b).written
versions z [] b l = refl
versions z (e ∷ h) b l = let i = versions z h b l.0 in ⊎_elim
    (λ t. at_event z e h b t l i ∙ ap (λ u. u.version + one_if u.written) (sym (cond-true (is (bucket_at z e) b) (acts e (bucket_after z h b)) (bucket_after z h b) t)))
    (λ f. same_writes z e h b f ∙ (i ∙ ap (λ u. u.version + one_if u.written) (sym (cond-false (is (bucket_at z e) b) (acts e (bucket_after z h b)) (bucket_after z h b) f))))
    (cases_Bool (is (bucket_at z e) b))

pub guard_at : (z : Shape) (h : List Event) (e : Event) (b : ℕ) (o : Option ℕ)
    → MatchOption o (Unit {0}) (λ b. (b < z.buckets) × ((bucket_after z h b).holder ≡ needs e)) → is o b ≡ true
    → (bucket_after z h b).holder ≡ needs e
guard_at z h e b None g t = absurd (false≢true t)
guard_at z h e b (Some a) g t = ap (λ x. (bucket_after z h x).holder) (sym (eqb-true a b t)) ∙ g.1

free_at : (z : Shape) (e : Event) (h : List Event) (b : ℕ) → (bucket_after z h b).holder ≡ needs e
    → (acts e (bucket_after z h b)).holder ≡ None
    → ((bucket_after z h b).holder ≡ None → (bucket_after z h b).written ≡ false)
    → (acts e (bucket_after z h b)).written ≡ false
free_at z (Freed p a c) h b g none i = refl
free_at z (Took p a) h b g none i = absurd (none-some p (sym none))
free_at z e h b g none i = absurd (none-some (by e) (sym none ∙ g))

-- nothing is written under a bit that nobody has
pub free : (z : Shape) (h : List Event) (b : ℕ) → IsLawful z h → (bucket_after z h b).holder ≡ None → (bucket_after z h b).written ≡ false
free z [] b l none = refl
free z (e ∷ h) b l none = ⊎_elim
    (λ t. let s = cond-true (is (bucket_at z e) b) (acts e (bucket_after z h b)) (bucket_after z h b) t in
    ap (λ u. u.written) s ∙ free_at z e h b (guard_at z h e b (bucket_at z e) l.1.guarded t) (ap (λ u. u.holder) (sym s) ∙ none) (free z h b l.0))
    (λ f. let s = cond-false (is (bucket_at z e) b) (acts e (bucket_after z h b)) (bucket_after z h b) f in
    ap (λ u. u.written) s ∙ free z h b l.0 (ap (λ u. u.holder) (sym s) ∙ none))
    (cases_Bool (is (bucket_at z e) b))
