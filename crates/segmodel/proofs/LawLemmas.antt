-- The proofs of the laws about histories.
use Rattle.std.proofs.Common.{◌≡◌, ℕ, ◌+◌, ◌==◌, ◌%◌, ◌^◌, Bool, true, false, cond, not, List, [], ◌∷◌, ◌++◌, Option, Some, None, is_some, refl, sym, ap, ◌∙◌, subst, arith, eq-eqb, inl, inr, count_by}
use Rattle.std.specs.Prelude.{find, option_map, option_and_then, unwrap_or, nat_lt, IsSomeAnd}
use Rattle.std.proofs.lemmas.Bool.{ne_eqb, cases_eq}
use Rattle.std.specs.BTreeMap.{is_at}
use Rattle.segword.specs.Words.{Shape}
use Rattle.segmodel.specs.Words.{Cached, Entry}
use Rattle.segmodel.specs.declared.request.Request.TheVariants.{Cas}
use Rattle.segmodel.specs.declared.request.Reply.TheVariants.{Stored, NotStored, Exists, NotFound, Deleted}
use Rattle.segmodel.specs.declared.entry.Entry.TheVariants.{Wrote, Evicted, Refilled, Moved}
use Rattle.segmodel.specs.Places.{bucket_of}
use Rattle.segmodel.specs.Request.{key_of, value_of, reply_to}
use Rattle.segmodel.specs.Cache.{Cache, key_cmp, standing, unless_expired, present, value_under, put, without, with_segment}
use Rattle.segmodel.specs.History.{StandsIn, Follows, next, after, IsLegal, is_of, entries_of, stirred, IsSameAt, writes}
use Rattle.segmodel.specs.Laws.{is_change_of, value_left_by, changes_segment, segment_left_by, is_before, is_refill_of, deadline_set_by, EarlierIsLegal, StandsAsLeft, ReadsAsLeft, DeadlineAsSet, CasFailsWhereWritten, StirredCountsAdded, UnstirredReadsTheSame}
use Rattle.segmodel.proofs.Counts.{count_by-cons}
use Rattle.segmodel.proofs.Keys.{same_key, at_self}
use Rattle.segmodel.proofs.Moves.{standing-moved, value-moved}
use Rattle.segmodel.proofs.HistoryLemmas.{standing-put, standing-without, NoneOf, after_others, IsLegal-older, version-after, kept-deadlines}

pub earlier_legal : EarlierIsLegal
earlier_legal shape before now begins legal = IsLegal-older shape begins.0 before (subst (IsLegal shape) begins.1 legal)

-- whether two keys are one doesn't depend on their order
at_sym : (q k : List ℕ) → is_at (key_cmp k) q ≡ is_at (key_cmp q) k
at_sym q k = by (is_at (key_cmp k) q) (is_at (key_cmp q) k) refl refl
  where
    by : (a b : Bool) → is_at (key_cmp k) q ≡ a → is_at (key_cmp q) k ≡ b → a ≡ b
    by true b ea eb = sym (at_self q) ∙ ap (λ x. is_at (key_cmp q) x) (sym (same_key k q ea)) ∙ eb
    by false true ea eb = sym ea ∙ ap (λ x. is_at (key_cmp x) q) (sym (same_key q k eb)) ∙ at_self q
    by false false ea eb = refl

-- one more entry, which is looked for or not
found-cons : {X : Type 0} (Is : Entry → Bool) (part : Entry → Option X) (entry : Entry) (history : List Entry)
    → option_and_then part (find Is (entry ∷ history)) ≡ cond (Is entry) (part entry) (option_and_then part (find Is history))
found-cons Is part entry history =
    elim (Is entry) as (λ b. option_and_then part (cond b (Some entry) (find Is history)) ≡ cond b (part entry) (option_and_then part (find Is history)))
    [ true ↦ refl | false ↦ refl ]

-- a part of what stands under a key is what the last entry that changes it left
part_as_left : {U : Type 0} (shape : Shape) (key : List ℕ) (part : Cached → U) (Is : Entry → Bool) (left : Entry → Option U)
    → ((cache : Cache) (entry : Entry) → Follows shape cache entry → (old : Option U) → option_map part (standing cache key) ≡ old
    → option_map part (standing (next shape cache entry) key) ≡ cond (Is entry) (left entry) old)
    → (history : List Entry) → IsLegal shape history → option_map part (standing (after shape history) key) ≡ option_and_then left (find Is history)
part_as_left shape key part Is left step [] legal = refl
part_as_left shape key part Is left step (entry ∷ history) legal =
    step (after shape history) entry legal.1 _ (part_as_left shape key part Is left step history legal.0) ∙ sym (found-cons Is left entry history)

module _ {U : Type 0} (shape : Shape) (key : List ℕ) (part : Cached → U) (cache : Cache) (old : Option U) (rest : option_map part (standing cache key) ≡ old) where
  part_put : (k value : List ℕ) (s : ℕ) → option_map part (standing (put shape k value s cache) key) ≡ cond (is_at (key_cmp key) k) (Some (part (record { value = value; segment = s }))) old
  part_put k value s = ap (option_map part) (standing-put shape k value s cache key)
      ∙ elim (is_at (key_cmp key) k) as (λ b. option_map part (cond b (Some (record { value = value; segment = s })) (standing cache key))
      ≡ cond b (Some (part (record { value = value; segment = s }))) old) [ true ↦ refl | false ↦ rest ]

  part_gone : (k : List ℕ) → option_map part (standing (without k cache) key) ≡ cond (is_at (key_cmp key) k) None old
  part_gone k = ap (option_map part) (standing-without k cache key)
      ∙ ap (λ b. option_map part (cond (not b) (standing cache key) None)) (at_sym key k)
      ∙ elim (is_at (key_cmp key) k) as (λ b. option_map part (cond (not b) (standing cache key) None) ≡ cond b None old) [ true ↦ refl | false ↦ rest ]

abbrev value_of_item : Cached → List ℕ
value_of_item item = item.value

abbrev segment_of_item : Cached → ℕ
segment_of_item item = item.segment

value_step : (shape : Shape) (key : List ℕ) (cache : Cache) (entry : Entry) → Follows shape cache entry → (old : Option (List ℕ))
    → option_map value_of_item (standing cache key) ≡ old
    → option_map value_of_item (standing (next shape cache entry) key) ≡ cond (is_change_of key entry) (value_left_by entry) old
value_step shape key cache (Wrote pass request Stored (Some s)) follows old rest = part_put shape key value_of_item cache old rest (key_of request) (value_of request) s
value_step shape key cache (Wrote pass request Stored None) follows old rest = absurd follows.1
value_step shape key cache (Wrote pass request Deleted s) follows old rest = part_gone shape key value_of_item cache old rest (key_of request)
value_step shape key cache (Wrote pass request NotStored s) follows old rest = rest
value_step shape key cache (Wrote pass request Exists s) follows old rest = rest
value_step shape key cache (Wrote pass request NotFound s) follows old rest = rest
value_step shape key cache (Evicted pass k s) follows old rest = part_gone shape key value_of_item cache old rest k
value_step shape key cache (Refilled pass s d) follows old rest = rest
value_step shape key cache (Moved pass k from to) follows old rest = value-moved k to cache key ∙ rest

segment_step : (shape : Shape) (key : List ℕ) (cache : Cache) (entry : Entry) → Follows shape cache entry → (old : Option ℕ)
    → option_map segment_of_item (standing cache key) ≡ old
    → option_map segment_of_item (standing (next shape cache entry) key) ≡ cond (changes_segment key entry) (segment_left_by entry) old
segment_step shape key cache (Wrote pass request Stored (Some s)) follows old rest = part_put shape key segment_of_item cache old rest (key_of request) (value_of request) s
segment_step shape key cache (Wrote pass request Stored None) follows old rest = absurd follows.1
segment_step shape key cache (Wrote pass request Deleted s) follows old rest = part_gone shape key segment_of_item cache old rest (key_of request)
segment_step shape key cache (Wrote pass request NotStored s) follows old rest = rest
segment_step shape key cache (Wrote pass request Exists s) follows old rest = rest
segment_step shape key cache (Wrote pass request NotFound s) follows old rest = rest
segment_step shape key cache (Evicted pass k s) follows old rest = part_gone shape key segment_of_item cache old rest k
segment_step shape key cache (Refilled pass s d) follows old rest = rest
segment_step shape key cache (Moved pass k from to) follows old rest =
    ap (option_map segment_of_item) (standing-moved k to cache key ∙ ap (λ b. cond b (option_map (with_segment to) (standing cache key)) (standing cache key)) (at_sym key k))
    ∙ by (is_at (key_cmp key) k) refl
  where
    there : (o : Option Cached) → IsSomeAnd o (λ item. item.segment ≡ from) → option_map segment_of_item (option_map (with_segment to) o) ≡ Some to
    there None is = absurd is
    there (Some x) is = refl

    by : (b : Bool) → is_at (key_cmp key) k ≡ b
        → option_map segment_of_item (cond b (option_map (with_segment to) (standing cache key)) (standing cache key)) ≡ cond b (Some to) old
    by true is = there (standing cache key) (subst (λ q. StandsIn cache q from) (sym (same_key key k is)) follows.0)
    by false is = rest

pub stands_as_left : StandsAsLeft
stands_as_left shape history key legal = (
  part_as_left shape key value_of_item (is_change_of key) value_left_by (value_step shape key) history legal,
  part_as_left shape key segment_of_item (changes_segment key) segment_left_by (segment_step shape key) history legal,
)

-- the value under a key after one more entry
pub value-cons : (shape : Shape) (history : List Entry) (key : List ℕ) (entry : Entry) → IsLegal shape (entry ∷ history)
    → value_under (after shape (entry ∷ history)) key ≡ cond (is_change_of key entry) (value_left_by entry) (value_under (after shape history) key)
value-cons shape history key entry legal = value_step shape key (after shape history) entry legal.1 _ refl

-- what is read, by the value and the segment of what stands
reads_parts : (deadline : ℕ → ℕ) (now : ℕ) (o : Option Cached)
    → option_map value_of_item (unless_expired deadline now o) ≡ cond (is_before deadline now (option_map segment_of_item o)) (option_map value_of_item o) None
reads_parts deadline now None = refl
reads_parts deadline now (Some x) =
    elim (nat_lt now (deadline x.segment)) as (λ b. option_map value_of_item (cond b (Some x) None) ≡ cond b (Some x.value) None) [ true ↦ refl | false ↦ refl ]

pub reads_as_left : ReadsAsLeft
reads_as_left shape history now key legal =
    let parts = stands_as_left shape history key legal in
    reads_parts (after shape history).deadline now (standing (after shape history) key)
    ∙ (λ i. cond (is_before (after shape history).deadline now (parts.1 i)) (parts.0 i) None)

pub deadline_as_set : DeadlineAsSet
deadline_as_set shape [] segment = refl
deadline_as_set shape (entry ∷ history) segment =
    by entry (deadline_as_set shape history segment) ∙ sym (ap (λ o. unwrap_or o 0) (found-cons (is_refill_of segment) deadline_set_by entry history))
  where
    rest : Option ℕ
    rest = option_and_then deadline_set_by (find (is_refill_of segment) history)

    by : (entry : Entry) → (after shape history).deadline segment ≡ unwrap_or rest 0
        → (next shape (after shape history) entry).deadline segment ≡ unwrap_or (cond (is_refill_of segment entry) (deadline_set_by entry) rest) 0
    by (Wrote pass request reply s) set = ap (λ d. d segment) (kept-deadlines shape request reply s (after shape history)) ∙ set
    by (Evicted pass k s) set = set
    by (Moved pass k from to) set = set
    by (Refilled pass s d) set =
        elim (s == segment) as (λ b. cond b d ((after shape history).deadline segment) ≡ unwrap_or (cond b (Some d) rest) 0) [ true ↦ refl | false ↦ set ]

-- two sums with one number are equal modulo 2^32 where the others are
same_version : (first m n : ℕ) → ((first + m) % 2 ^ 32 == (first + n) % 2 ^ 32) ≡ (m % 2 ^ 32 == n % 2 ^ 32)
same_version first m n = elim (cases_eq (m % 2 ^ 32) (n % 2 ^ 32)) [
  | inl e ↦ eq-eqb _ _ (let same : (first + m) % 2 ^ 32 ≡ (first + n) % 2 ^ 32 = omega arith in same) ∙ sym (eq-eqb _ _ e)
  | inr apart ↦ ne_eqb _ _ (λ (same : (first + m) % 2 ^ 32 ≡ (first + n) % 2 ^ 32). apart (omega arith)) ∙ sym (ne_eqb _ _ apart)
]

-- what a gets gave was the version
read_version : {v : ℕ} (o : Option Cached) (seen : List ℕ) (version : ℕ) → option_map {U = List ℕ × ℕ} (λ item. (item.value, v)) o ≡ Some (seen, version) → version ≡ v
read_version None seen version e = cc
read_version {v = v} (Some x) seen version e =
    let pair : ◌≡◌ {A = List ℕ × ℕ} (x.value, v) (seen, version) = cc in
    sym (ap (λ (p : List ℕ × ℕ). p.1) pair)

pub cas_fails : CasFailsWhereWritten
cas_fails shape old new now later key seen value version small legal begins read = by (is_some (present (after shape new) later key))
  where
    b : ℕ
    b = bucket_of shape key

    test : ((after shape new).version b == version) ≡ (writes shape new b % 2 ^ 32 == writes shape old b % 2 ^ 32)
    test = (λ i. version-after shape new b small legal i ==
        (read_version (present (after shape old) now key) seen version read
        ∙ version-after shape old b small (earlier_legal shape old new begins legal)) i)
        ∙ same_version shape.first_version (writes shape new b) (writes shape old b)

    by : (here : Bool) → reply_to (Cas key value version later) here ((after shape new).version b)
        ≡ cond here (cond (writes shape new b % 2 ^ 32 == writes shape old b % 2 ^ 32) Stored Exists) NotFound
    by true = ap (λ t. cond t Stored Exists) test
    by false = refl

-- entries of two lists in a row
pub count_by-append : {X : Type 0} (p : X → Bool) (xs ys : List X) → count_by p (xs ++ ys) ≡ count_by p xs + count_by p ys
count_by-append p [] ys = omega arith
count_by-append p (x ∷ xs) ys =
    let rest = count_by-append p xs ys in
    let left = count_by-cons p x xs in
    let all = count_by-cons p x (xs ++ ys) in
    omega arith

pub stirred_counts : StirredCountsAdded
stirred_counts shape before more key =
    let both = count_by-append (is_of shape (bucket_of shape key)) more before in
    omega arith

-- where none is counted, none is of the bucket
none_counted : (shape : Shape) (b : ℕ) (more : List Entry) → entries_of shape b more ≡ 0 → NoneOf shape b more
none_counted shape b [] none = tt
none_counted shape b (entry ∷ more) none = by (is_of shape b entry) refl (count_by-cons (is_of shape b) entry more) (none_counted shape b more)
  where
    by : (t : Bool) → is_of shape b entry ≡ t → count_by (is_of shape b) (entry ∷ more) ≡ cond t 1 0 + count_by (is_of shape b) more
        → (count_by (is_of shape b) more ≡ 0 → NoneOf shape b more) → (is_of shape b entry ≡ false) × NoneOf shape b more
    by true is sum rest = absurd (omega arith)
    by false is sum rest = (is, rest (omega arith))

pub unstirred : UnstirredReadsTheSame
unstirred shape old new now key legal begins still =
    let counts : entries_of shape (bucket_of shape key) begins.0 ≡ 0 = sym (stirred_counts shape old begins.0 key) ∙ ap (stirred shape key old) (sym begins.1) ∙ still in
    let same : IsSameAt shape (after shape old) (after shape (begins.0 ++ old)) key =
    after_others shape begins.0 old key (subst (IsLegal shape) begins.1 legal)
    (none_counted shape _ begins.0 counts) in
    let here : IsSameAt shape (after shape old) (after shape new) key = subst (λ h. IsSameAt shape (after shape old) (after shape h) key) (sym begins.1) same in (
      ap (λ o. option_map (λ (item : Cached). item.value) o) (here.finds now),
      (λ i. option_map {U = List ℕ × ℕ} (λ item. (item.value, here.version i)) (here.finds now i)),
    )
