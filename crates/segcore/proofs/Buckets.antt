-- What a lawful trace says of information words, chains and overflow buckets.
use Rattle.std.proofs.Common.{◌≡◌, ◌≢◌, ℕ, ◌+◌, ◌*◌, ◌/◌, ◌%◌, ◌^◌, ◌<◌, ◌≤◌, false, cond, List, Option, Some, None, sym, refl, ap, ◌∙◌, subst, inl, inr, ◌⊎◌, ⊎_elim, arith}
use Rattle.segword.specs.Words.{chain_word, Shape}
use Rattle.segmodel.specs.Words.{after, writes}
use Rattle.segmodel.proofs.HistoryLemmas.{version-after}
use Rattle.segcore.specs.Words.{Cell, Event}
use Rattle.segcore.specs.declared.cell.Cell.TheVariants.{OfBucket}
use Rattle.segcore.specs.Event.{seen}
use Rattle.segcore.specs.Bucket.{Content, nothing, item, next, copy, Bucket, bucket_after}
use Rattle.segcore.specs.Overflow.{Home, home, home_of}
use Rattle.segcore.specs.Lawful.{IsLawful}
use Rattle.segcore.specs.Word.{bit_of, content_word, word_in, overflow_word, word, IsAt}
use Rattle.segcore.specs.Mark.{marked, drawn_for, chained_to}
use Rattle.segcore.specs.Chains.{behind, InfoFacts, ChainFacts, IsUnchained, BucketFacts}
use Rattle.segcore.proofs.Coherent.{IsContent}
use Rattle.segcore.proofs.Chains.{chain_of}
use Rattle.segcore.proofs.Standing.{legal}
use Rattle.segcore.proofs.Cells.{deep, at_word, home_once, rising}
use Rattle.segcore.proofs.Marked.{one_if, chained_marked, drawn_marked}
use Rattle.segcore.proofs.Orderly.{all_drawn_marked}
use Rattle.segcore.proofs.Homes.{joins, spare_held}
use Rattle.segcore.proofs.Limits.{drawn_few, home_in}
use Rattle.segcore.proofs.Facts.Drafts.{draft_word}
use Rattle.segcore.proofs.Versions.{versions, free}
use Rattle.segcore.proofs.StepKinds.Words.{word_content}

-- ---- information words

pub bit_small : (o : Option ℕ) → bit_of o < 2
bit_small None = omega arith
bit_small (Some p) = omega arith

-- the version of the cache is that of the bucket, and one more where a write waits to be counted
pub version_of : (z : Shape) (h : List Event) (b : ℕ) → z.first_version < 2 ^ 32 → IsLawful z h
    → (after z (seen h)).version b ≡ (z.first_version + ((bucket_after z h b).version + behind z h b)) % 2 ^ 32
version_of z h b lt l = version-after z (seen h) b lt (legal z h l) ∙ ap (λ n. (z.first_version + n) % 2 ^ 32) (versions z h b l)

unset : (o : Option ℕ) → bit_of o ≡ 0 → o ≡ None
unset None e = refl
unset (Some p) e = absurd (omega arith)

pub set_bit : (o : Option ℕ) → bit_of o ≡ 1 → (p : ℕ) × (o ≡ Some p)
set_bit None e = absurd (omega arith)
set_bit (Some p) e = (p, refl)

-- the bit of an information word
pub info_bit : (z : Shape) (h : List Event) (b : ℕ) → word z h (OfBucket b 0) % 2 ^ 32 ≡ bit_of (bucket_after z h b).holder
info_bit z h b = let u = bucket_after z h b in let lt = bit_small u.holder in omega arith

says_of_info : (z : Shape) (h : List Event) (b : ℕ) → IsLawful z h → InfoFacts z h b
says_of_info z h b l = let u = bucket_after z h b in let e = info_bit z h b in let lt = bit_small u.holder in record {
  version = λ few. (let v = version_of z h b few l in let x : word z h (OfBucket b 0) / 2 ^ 32 ≡ (z.first_version + u.version) % 2 ^ 32 = omega arith in omega arith);
  bit = omega arith;
  counted = λ none. ap (λ t. cond t 1 0) (free z h b l (unset u.holder (omega arith)));
}

-- ---- chains

drawn_or : (z : Shape) (h : List Event) (b : ℕ) (o : Option ℕ) → IsLawful z h → (bucket_after z h b).spare ≡ o → (drawn_for (marked h) b ≡ chained_to (marked h) b)
    ⊎ ((drawn_for (marked h) b ≡ chained_to (marked h) b + 1) × (word z h (OfBucket b 0) % 2 ^ 32 ≡ 1))
drawn_or z h b None l sp = let a = drawn_marked z h b l in let c = chained_marked z h b in let e = ap one_if sp in inl (omega arith)
drawn_or z h b (Some m) l sp = let a = drawn_marked z h b l in let c = chained_marked z h b in let e = ap one_if sp in
    inr (omega arith, info_bit z h b ∙ ap bit_of (spare_held z h b m l sp).1)

pub joined : (z : Shape) (h : List Event) (b d : ℕ) → IsLawful z h → d < (bucket_after z h b).chained → (m : ℕ)
    × (home_of h m ≡ Some (home b (d + 1))) × ((c : Cell) → IsAt h b (8 * d + 7) c → word z h c ≡ chain_word m)
    × (m < z.overflow)
joined z h b d l lt =
    let u = bucket_after z h b in
    let j = joins z h b d l lt in
    let i : IsContent h b u (8 * d + 7) (next j.0) = subst (IsContent h b u (8 * d + 7)) j.1 ((chain_of z h l b).contents (8 * d + 7)) in
    let p = i.2 in let same : i.0 ≡ d = omega arith in (
      j.0,
      i.3 ∙ ap (λ n. Some (home b (n + 1))) same,
      λ c at. at_word z h b (8 * d + 7) c at
          ∙ (word_content z h u (8 * d + 7) (omega arith) ∙ ap (content_word h) j.1),
      home_in z h j.0 (home b (i.0 + 1)) l i.3,
    )

says_of_chain : (z : Shape) (h : List Event) (b : ℕ) → IsLawful z h → ChainFacts z h b
says_of_chain z h b l = let e = chained_marked z h b in let s = (chain_of z h l b).short in record {
  short = omega arith;
  joined = λ d lt. joined z h b d l (omega arith);
  rising = λ m n d e i j lt. rising z h m n b d e l i j lt;
  alone = λ m n d i j. home_once z h m n b d l i j;
  drawn = drawn_or z h b (bucket_after z h b).spare l refl;
}

-- ---- overflow buckets

-- beyond the words of a chain and but for the copy there is nothing
bare : (h : List Event) (b : ℕ) (u : Bucket) (n : ℕ) (c : Content) → (8 * u.chained + 8 ≤ n) ⊎ (n % 8 ≡ 0) → n ≢ 8 * u.chained + 9 → IsContent h b u n c → content_word h c ≡ 0
bare h b u n nothing far ne i = refl
bare h b u n (item a) far ne i = let lt = i.0 in let m = i.1 in ⊎_elim (λ le. absurd (omega arith)) (λ e. absurd (omega arith)) far
bare h b u n (next m) far ne i = let lt = i.1 in let e = i.2 in ⊎_elim (λ le. absurd (omega arith)) (λ e'. absurd (omega arith)) far
bare h b u n (copy w) far ne i = absurd (ne i.0)

bare_word : (z : Shape) (h : List Event) (b n : ℕ) → IsLawful z h → 0 < n
    → (8 * (bucket_after z h b).chained + 8 ≤ n) ⊎ (n % 8 ≡ 0) → n ≢ 8 * (bucket_after z h b).chained + 9
    → word_in z h (bucket_after z h b) n ≡ 0
bare_word z h b n l lt far ne = let u = bucket_after z h b in word_content z h u n lt ∙ bare h b u n (u.items n) far ne ((chain_of z h l b).contents n)

empty_at : (z : Shape) (h : List Event) (m w : ℕ) (o : Option Home) → IsLawful z h → IsUnchained h m → w < 8 → w ≢ 1 → home_of h m ≡ o → overflow_word z h w o ≡ 0
empty_at z h m w None l un lt ne is' = refl
empty_at z h m w (Some x) l un lt ne is' = let e = chained_marked z h x.bucket in let far = un x.bucket x.depth is' in
    bare_word z h x.bucket (8 * x.depth + w) l (omega arith) (inl (omega arith)) (λ q. omega arith)

unused_at : (z : Shape) (h : List Event) (m : ℕ) (o : Option Home) → IsLawful z h → home_of h m ≡ o → overflow_word z h 0 o ≡ 0
unused_at z h m None l is' = refl
unused_at z h m (Some x) l is' = let d = deep z h m x.bucket x.depth l is' in
    bare_word z h x.bucket (8 * x.depth + 0) l (omega arith) (inr (omega arith)) (λ q. omega arith)

pub says_of_buckets : (z : Shape) (h : List Event) → IsLawful z h → BucketFacts z h
says_of_buckets z h l = let e = all_drawn_marked h in let few = drawn_few z h l in record {
  info = λ b lt. says_of_info z h b l;
  chains = λ b. says_of_chain z h b l;
  counter = sym e;
  enough = omega arith;
  empty = λ m w i un ne. empty_at z h m w (home_of h m) l un i.1 ne refl;
  undrawn = λ m w none. ap (overflow_word z h w) none;
  unused = λ m. unused_at z h m (home_of h m) l refl;
  draft = λ m b d v i lt. draft_word z h m b d v l i lt;
}

-- ---- the version that an information word has

pub unwritten_version : (z : Shape) (h : List Event) (b : ℕ) → z.first_version < 2 ^ 32 → IsLawful z h
    → (bucket_after z h b).written ≡ false → word z h (OfBucket b 0) / 2 ^ 32 ≡ (after z (seen h)).version b
unwritten_version z h b few l w = let u = bucket_after z h b in let lt = bit_small u.holder in let v = version_of z h b few l in let none : behind z h b ≡ 0 = ap (λ t. cond t 1 0) w in
    let x : word z h (OfBucket b 0) / 2 ^ 32 ≡ (z.first_version + u.version) % 2 ^ 32 = omega arith in x
    ∙ (ap (λ n. (z.first_version + n) % 2 ^ 32) (let e : u.version ≡ u.version + behind z h b = omega arith in
    e) ∙ sym v)

pub free_version : (z : Shape) (h : List Event) (b : ℕ) → z.first_version < 2 ^ 32 → IsLawful z h
    → word z h (OfBucket b 0) % 2 ^ 32 ≡ 0 → word z h (OfBucket b 0) / 2 ^ 32 ≡ (after z (seen h)).version b
free_version z h b few l clear = unwritten_version z h b few l (free z h b l (unset (bucket_after z h b).holder (sym (info_bit z h b) ∙ clear)))

pub version_writes : (z : Shape) (h : List Event) (b : ℕ) → z.first_version < 2 ^ 32 → IsLawful z h → (after z (seen h)).version b ≡ (z.first_version + writes z (seen h) b) % 2 ^ 32
version_writes z h b few l = version-after z (seen h) b few (legal z h l)
