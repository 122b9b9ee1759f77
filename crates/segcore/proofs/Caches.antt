-- What stands in the cache of one thread after one entry more, as a choice by the key.
use Rattle.std.proofs.Common.{◌≡◌, ℕ, ◌+◌, Bool, true, false, cond, eqb, not, zero-add, List, ◌∷◌, Option, Some, None, sym, refl, ap, ◌∙◌, option_map, arith}
use Rattle.std.specs.Prelude.{IsSomeAnd}
use Rattle.std.specs.BTreeMap.{is_at}
use Rattle.segword.specs.Words.{Shape}
use Rattle.segmodel.specs.declared.request.Reply.TheVariants.{Stored, NotStored, Exists, NotFound, Deleted}
use Rattle.segmodel.specs.declared.entry.Entry.TheVariants.{Wrote, Evicted, Refilled, Moved}
use Rattle.segmodel.specs.Words.{after, bucket_of, Cached, Entry, is_write_to, key_cmp, key_of}
use Rattle.segmodel.specs.Words.{Reply, Request, standing, StandsIn, value_of, writes}
use Rattle.segmodel.specs.Cache.{with_segment}
use Rattle.segmodel.proofs.HistoryLemmas as model
use Rattle.segmodel.proofs.Moves as moves
use Rattle.segmodel.proofs.Keys as model_keys
use Rattle.segmodel.proofs.Counts.{count_by-cons}
use Rattle.segcore.specs.Mark.{same_key}
use Rattle.segcore.specs.Standing.{cached}
use Rattle.segcore.proofs.Keys.{key_true, same_true}

-- what stands under a key after a history
abbrev pub stands : Shape → List Entry → List ℕ → Option Cached
stands z h k = standing (after z h) k

-- what a write leaves under its key
abbrev pub put : Request → Reply → Option ℕ → Option Cached → Option Cached
put q Stored (Some s) old = Some (cached (value_of q) s)
put q Deleted s old = None
put q _ s old = old

pub same_either : {A : Type 0} (t : Bool) (x : A) → cond t x x ≡ x
same_either true x = refl
same_either false x = refl

pub one_test : (s t : Bool) → (s ≡ true → t ≡ true) → (t ≡ true → s ≡ true) → s ≡ t
one_test true true f g = refl
one_test true false f g = sym (f refl)
one_test false true f g = g refl
one_test false false f g = refl

-- the map's comparison of keys says the same
at_key : (k l : List ℕ) → is_at (key_cmp l) k ≡ same_key k l
at_key k l = one_test (is_at (key_cmp l) k) (same_key k l)
    (λ t. same_true k l (sym (model_keys.same_key l k t)))
    (λ t. (λ i. is_at (key_cmp l) (key_true k l t i)) ∙ model_keys.at_self l)

at_key_back : (k l : List ℕ) → is_at (key_cmp k) l ≡ same_key k l
at_key_back k l = one_test (is_at (key_cmp k) l) (same_key k l)
    (λ t. same_true k l (model_keys.same_key k l t))
    (λ t. (λ i. is_at (key_cmp k) (sym (key_true k l t) i)) ∙ model_keys.at_self k)

unless : {A : Type 0} (t : Bool) (x y : A) → cond (not t) x y ≡ cond t y x
unless true x y = refl
unless false x y = refl

pub stands_wrote : (z : Shape) (p : ℕ) (q : Request) (y : Reply) (s : Option ℕ) (h : List Entry) (k : List ℕ)
    → stands z (Wrote p q y s ∷ h) k ≡ cond (same_key (key_of q) k) (put q y s (stands z h k)) (stands z h k)
stands_wrote z p q Stored (Some s) h k = model.standing-put z (key_of q) (value_of q) s (after z h) k ∙ ap (λ t. cond t (Some (cached (value_of q) s)) (stands z h k)) (at_key (key_of q) k)
stands_wrote z p q Stored None h k = sym (same_either (same_key (key_of q) k) (stands z h k))
stands_wrote z p q Deleted s h k = model.standing-without (key_of q) (after z h) k
    ∙ (unless (is_at (key_cmp (key_of q)) k) (stands z h k) None
    ∙ ap (λ t. cond t None (stands z h k)) (at_key_back (key_of q) k))
stands_wrote z p q NotStored s h k = sym (same_either (same_key (key_of q) k) (stands z h k))
stands_wrote z p q Exists s h k = sym (same_either (same_key (key_of q) k) (stands z h k))
stands_wrote z p q NotFound s h k = sym (same_either (same_key (key_of q) k) (stands z h k))

pub stands_evicted : (z : Shape) (p : ℕ) (k' : List ℕ) (s : ℕ) (h : List Entry) (k : List ℕ) → stands z (Evicted p k' s ∷ h) k ≡ cond (same_key k' k) None (stands z h k)
stands_evicted z p k' s h k = model.standing-without k' (after z h) k ∙ (unless (is_at (key_cmp k') k) (stands z h k) None ∙ ap (λ t. cond t None (stands z h k)) (at_key_back k' k))

-- what a move leaves under its key: the item, in another segment
pub stands_moved : (z : Shape) (p : ℕ) (k' : List ℕ) (f s : ℕ) (h : List Entry) (k : List ℕ)
    → stands z (Moved p k' f s ∷ h) k ≡ cond (same_key k' k) (option_map (with_segment s) (stands z h k)) (stands z h k)
stands_moved z p k' f s h k = moves.standing-moved k' s (after z h) k ∙ ap (λ t. cond t (option_map (with_segment s) (stands z h k)) (stands z h k)) (at_key_back k' k)

-- a key that stands in a segment stands there with some value
abbrev pub HasValueIn : Shape → List Entry → List ℕ → ℕ → Type 0
HasValueIn z h k s = (v : List ℕ) × (stands z h k ≡ Some (cached v s))

value_in : (o : Option Cached) (s : ℕ) → IsSomeAnd o (λ item. item.segment ≡ s) → (v : List ℕ) × (o ≡ Some (cached v s))
value_in None s i = absurd i
value_in (Some x) s i = (x.value, ap (λ t. Some (cached x.value t)) i)

in_segment : (o : Option Cached) (v : List ℕ) (s : ℕ) → o ≡ Some (cached v s) → IsSomeAnd o (λ item. item.segment ≡ s)
in_segment o v s e = rw e refl

pub has_value : (z : Shape) (h : List Entry) (k : List ℕ) (s : ℕ) → StandsIn (after z h) k s → HasValueIn z h k s
has_value z h k s i = value_in (stands z h k) s i

pub stands_in : (z : Shape) (h : List Entry) (k : List ℕ) (s : ℕ) → HasValueIn z h k s → StandsIn (after z h) k s
stands_in z h k s i = in_segment (stands z h k) i.0 s i.1

-- ---- how many writes a bucket had

abbrev pub one_more : Reply → ℕ → ℕ
one_more Stored n = n + 1
one_more Deleted n = n + 1
one_more _ n = n

plus_one : (t : Bool) (n : ℕ) → cond t 1 0 + n ≡ cond t (n + 1) n
plus_one true n = omega arith
plus_one false n = omega arith

pub writes_wrote : (z : Shape) (p : ℕ) (q : Request) (y : Reply) (s : Option ℕ) (h : List Entry) (b : ℕ)
    → writes z (Wrote p q y s ∷ h) b ≡ cond (eqb (bucket_of z (key_of q)) b) (one_more y (writes z h b)) (writes z h b)
writes_wrote z p q Stored s h b = count_by-cons (is_write_to z b) (Wrote p q Stored s) h ∙ plus_one (eqb (bucket_of z (key_of q)) b) (writes z h b)
writes_wrote z p q Deleted s h b = count_by-cons (is_write_to z b) (Wrote p q Deleted s) h ∙ plus_one (eqb (bucket_of z (key_of q)) b) (writes z h b)
writes_wrote z p q NotStored s h b = count_by-cons (is_write_to z b) (Wrote p q NotStored s) h ∙ (zero-add (writes z h b) ∙ sym (same_either (eqb (bucket_of z (key_of q)) b) (writes z h b)))
writes_wrote z p q Exists s h b = count_by-cons (is_write_to z b) (Wrote p q Exists s) h ∙ (zero-add (writes z h b) ∙ sym (same_either (eqb (bucket_of z (key_of q)) b) (writes z h b)))
writes_wrote z p q NotFound s h b = count_by-cons (is_write_to z b) (Wrote p q NotFound s) h ∙ (zero-add (writes z h b) ∙ sym (same_either (eqb (bucket_of z (key_of q)) b) (writes z h b)))

pub writes_evicted : (z : Shape) (p : ℕ) (k : List ℕ) (s : ℕ) (h : List Entry) (b : ℕ) → writes z (Evicted p k s ∷ h) b ≡ writes z h b
writes_evicted z p k s h b = count_by-cons (is_write_to z b) (Evicted p k s) h ∙ zero-add (writes z h b)

pub writes_refilled : (z : Shape) (p s d : ℕ) (h : List Entry) (b : ℕ) → writes z (Refilled p s d ∷ h) b ≡ writes z h b
writes_refilled z p s d h b = count_by-cons (is_write_to z b) (Refilled p s d) h ∙ zero-add (writes z h b)

pub writes_moved : (z : Shape) (p : ℕ) (k : List ℕ) (f s : ℕ) (h : List Entry) (b : ℕ) → writes z (Moved p k f s ∷ h) b ≡ writes z h b
writes_moved z p k f s h b = count_by-cons (is_write_to z b) (Moved p k f s) h ∙ zero-add (writes z h b)
