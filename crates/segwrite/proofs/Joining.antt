-- An overflow bucket joins a chain: the item of the chain's last word is copied to it, and that word then leads on to it, at the first try or after the item's frequency rose.
use Rattle.std.proofs.Common.{◌≡◌, ℕ, ◌+◌, ◌*◌, ◌<◌, ◌≤◌, true, eqb, List, [], ◌∷◌, ◌++◌, Some, Result, Ok, Err, refl, sym, ap, ◌∙◌, subst, cond, ⊎_elim, arith}
use Rattle.std.proofs.lemmas.Bool.{cases_eq, cond-true, cond-false, eq-eqb, ne_eqb}
use Rattle.std.specs.Prelude.{OnOk, IfErr}
use Rattle.segword.specs.Words.{IsSameItem, Shape}
use Rattle.segcore.specs.declared.event.Event.TheVariants.{Put, Chained}
use Rattle.segcore.specs.Words.{acts, Bucket, bucket_at, chain, Content, content_word, copy, Event}
use Rattle.segcore.specs.Words.{fill, frequency_of, fresh_position, HasBit, HasNoEmptyWord, home}
use Rattle.segcore.specs.Words.{home_of, is, IsItemAt, IsLawful, item, last, May, next, nothing}
use Rattle.segcore.proofs.Chains.{chain_of}
use Rattle.segcore.proofs.Coherent.{IsContent}
use Rattle.segcore.proofs.Limits.{low_frequency}
use Rattle.segcore.proofs.Meanwhile.{meanwhile}
use Rattle.segcore.proofs.Quiet.{home_stays}
use Rattle.segbase.specs.Words.{AddsAtOnce, Board, cell_at, home_at, home_bucket, home_bucket_of}
use Rattle.segbase.specs.Words.{home_in, IsPassOf, Missed, number, Pass, Place, position, trace}
use Rattle.segcore.proofs.Exact.{content_at}
use Rattle.segstore.proofs.Words.{at_place}
use Rattle.segstore.proofs.Refills.{idles}
use Rattle.segstore.specs.Words.{memo}
use Rattle.segwrite.specs.FirstEmpty.{AreTakenBefore}
use Rattle.segwrite.specs.Growing.{bucket_seen, IsLast, HasSpare, HasJoined, Prepares, puts, joins, TriesToJoin, Joins}
use Rattle.segwrite.proofs.Acting.{acted, prepares, idle_prepares, prepares_then}
use Rattle.segwrite.proofs.Places.{same_position, chain_later}
use Rattle.segwrite.proofs.Rising.{item_rose, earlier_yet}
use Rattle.segstore.proofs.UnderBit.{moved_bucket, moved_bit}

-- ---- the item of the last word

-- a step in the bucket that leaves the end of its chain and all frequencies as they are
pub record LeavesEnd (e : Event) (u : Bucket) : Type 0 where
  pub chained : (acts e u).chained ≡ u.chained
  pub here : (acts e u).items (last u) ≡ u.items (last u)
  pub frequencies : (h : List Event) (s r : ℕ) → frequency_of (e ∷ h) s r ≡ frequency_of h s r

pub last_later : (b : Board) (e : Event) (p q : Pass) (bucket : ℕ) (place : Place) (word : ℕ) → IsPassOf b p
    → AddsAtOnce b (e ∷ []) p q → HasBit b.shape (trace p) (number p) bucket
    → is (bucket_at b.shape e) bucket ≡ true → LeavesEnd e (bucket_seen b bucket p)
    → IsLast b bucket place word p → IsLast b bucket place word q
last_later b e p q bucket place word is d bit at leaves l =
    let z = b.shape in let u = bucket_seen b bucket p in let v = bucket_seen b bucket q in
    let same : v ≡ acts e u = acted b e p q bucket d bit at in
    let end : last v ≡ last u = ap (λ (w : Bucket). last w) same ∙ ap (λ n. 8 * n + 7) leaves.chained in
    let still = same_position b (e ∷ []) p q bucket place d.moved l.chain in
    let later = chain_later b (e ∷ []) p q bucket place d.moved l.chain in
    let there : v.items (last u) ≡ item l.named = ap (λ (w : Bucket). w.items (last u)) same ∙ (leaves.here ∙ l.here) in
    let up = (meanwhile z (number p) d.others (trace p) d.before d.none).rises bucket (last u) l.named bit l.here in
    let rose = item_rose z (trace p) (trace q) bucket (last u) (cell_at z place) l.named is.valid is.lawful
    d.moved.pass.lawful (subst (λ n. IsItemAt z (trace p) bucket n (cell_at z place)) l.ends l.chain.at)
    (subst (λ n. IsItemAt z (trace q) bucket n (cell_at z place)) (still ∙ l.ends) later.at) l.here there
    (subst (λ n. frequency_of (trace p) l.named.segment l.named.row ≤ n)
    (sym (ap (λ h. frequency_of h l.named.segment l.named.row) d.now
    ∙ leaves.frequencies (d.others ++ trace p) l.named.segment l.named.row)) up) in record {
      chain = later;
      ends = still ∙ (l.ends ∙ sym end);
      named = l.named;
      here = ap v.items end ∙ there;
      is = l.is;
      earlier = earlier_yet word _ _ l.earlier.0 l.earlier.1 rose;
    }

-- the word that stood there when an exchange failed
pub last_missed : (b : Board) (p q : Pass) (bucket : ℕ) (place : Place) (word found : ℕ)
    → HasBit b.shape (trace p) (number p) bucket → IsLast b bucket place word p → Missed b place word found p q
    → IsLast b bucket place found q × IsSameItem word found × (word < found)
last_missed b p q bucket place word found bit l m =
    let z = b.shape in let a = l.named in
    let same = moved_bucket b [] p q bucket m.did.moved bit tt in
    let end : last (bucket_seen b bucket q) ≡ last (bucket_seen b bucket p) = ap (λ (u : Bucket). last u) same in
    let still = same_position b [] p q bucket place m.did.moved l.chain in
    let later = chain_later b [] p q bucket place m.did.moved l.chain in
    let there : (bucket_seen b bucket q).items (last (bucket_seen b bucket q)) ≡ item a = ap (λ (u : Bucket). u.items (last u)) same ∙ l.here in
    let ends = still ∙ (l.ends ∙ sym end) in
    let high = m.higher l.earlier.0 l.earlier.1 in (
      record {
        chain = later;
        ends = ends;
        named = a;
        here = there;
        is = (
          frequency_of (trace q) a.segment a.row,
          low_frequency z (trace q) a.segment a.row m.did.moved.pass.lawful,
          m.is ∙ (content_at z (trace q) bucket (position z (trace q) place) (cell_at z place) later.at ∙ ap (content_word (trace q)) (ap (bucket_seen b bucket q).items ends ∙ there)),
        );
        earlier = subst (λ y. IsSameItem found y × (found ≤ y)) m.is ((subst (λ t. 1 ≤ t) high.0.1 high.0.0, refl, refl), omega arith);
      },
      high.0,
      high.1,
    )

-- ---- the copy

module _ (b : Board) (bucket overflow : ℕ) (place : Place) (word : ℕ) (p : Pass) (is : IsPassOf b p) (spare : HasSpare b bucket overflow p) (l : IsLast b bucket place word p) where
  pub drawn_home : home_bucket_of (trace p) overflow ≡ bucket
  drawn_home = ap home_in ((chain_of b.shape (trace p) is.lawful bucket).spare overflow spare.spare).1

  pub may_fill : May b.shape (trace p) (number p) (fill (home_bucket_of (trace p) overflow) overflow word)
  may_fill = subst (λ k. May b.shape (trace p) (number p) (fill k overflow word)) (sym drawn_home)
      (record { guarded = spare.bit; follows = tt; suits = (overflow, spare.spare, (l.named, l.here, l.is)) }, spare.spare)

  module _ (r : Pass) (d : AddsAtOnce b (Put (number p) bucket word ∷ []) p r) where
    abbrev u : Bucket
    u = bucket_seen b bucket p

    abbrev e : Event
    e = Put (number p) bucket word

    filled : bucket_seen b bucket r ≡ acts e u
    filled = acted b e p r bucket d spare.bit (eq-eqb bucket bucket refl)

    pub spare_filled : HasSpare b bucket overflow r
    spare_filled = record {
      bit = (spare.bit.0, ap (λ (v : Bucket). v.holder) filled ∙ (spare.bit.1 ∙ ap Some (sym d.moved.same)));
      unwritten = ap (λ (v : Bucket). v.written) filled ∙ spare.unwritten;
      spare = ap (λ (v : Bucket). v.spare) filled ∙ spare.spare;
      full = subst HasNoEmptyWord (sym filled) (λ n here none. spare.full n here
          (sym (cond-false (eqb (fresh_position u) n) (copy word) (u.items n)
          (ne_eqb (fresh_position u) n (λ same. let x = here.0 in omega (arith, same, x)))) ∙ none));
    }

    pub last_filled : IsLast b bucket place word r
    last_filled = last_later b e p r bucket place word is d spare.bit (eq-eqb bucket bucket refl) (record {
      chained = refl;
      here = cond-false (eqb (fresh_position u) (last u)) (copy word) (u.items (last u)) (ne_eqb (fresh_position u) (last u) (λ same. omega arith));
      frequencies = λ h s i. refl;
    }) l

    pub copy_filled : (bucket_seen b bucket r).items (fresh_position (bucket_seen b bucket r)) ≡ copy word
    copy_filled = ap (λ (v : Bucket). v.items (fresh_position v)) filled
        ∙ cond-true (eqb (fresh_position u) (fresh_position u)) (copy word) (u.items (fresh_position u))
        (eq-eqb (fresh_position u) (fresh_position u) refl)

-- ---- the exchange

-- nothing stands past word 1 of the overflow bucket that waits
no_content : (h : List Event) (bucket n : ℕ) (u : Bucket) (x : Content) → IsContent h bucket u n x → fresh_position u < n → x ≡ nothing
no_content h bucket n u nothing is past = refl
no_content h bucket n u (item a) is past = let lt = is.0 in absurd (omega arith)
no_content h bucket n u (next m) is past = let lt = is.1 in let e = is.2 in absurd (omega arith)
no_content h bucket n u (copy w) is past = let e = is.0 in absurd (omega arith)

module _ (b : Board) (bucket overflow : ℕ) (place : Place) (word : ℕ) (p : Pass) (is : IsPassOf b p) (spare : HasSpare b bucket overflow p) (l : IsLast b bucket place word p) where
  abbrev z : Shape
  z = b.shape

  abbrev waiting : Bucket
  waiting = bucket_seen b bucket p

  pub home_is : home_at b place p ≡ bucket
  home_is = (at_place z (trace p) bucket (position z (trace p) place) place l.chain.at.1).0

  pub may_chain : waiting.items (fresh_position waiting) ≡ copy word → May z (trace p) (number p) (chain (home_bucket z (trace p) place) (cell_at z place) word overflow)
  may_chain copied = subst (λ k. May z (trace p) (number p) (chain k (cell_at z place) word overflow)) (sym home_is)
      (record { guarded = spare.bit; follows = tt; suits = (spare.spare, (l.named, word, l.here, copied)) }, (subst (λ n. IsItemAt z (trace p) bucket n (cell_at z place)) l.ends l.chain.at).1, copied)

  module _ (q : Pass) (d : AddsAtOnce b (Chained (number p) bucket overflow ∷ []) p q) where
    abbrev event : Event
    event = Chained (number p) bucket overflow

    abbrev longer : Bucket
    longer = acts event waiting

    grown : bucket_seen b bucket q ≡ longer
    grown = acted b event p q bucket d spare.bit (eq-eqb bucket bucket refl)

    empty : waiting.items (8 * (waiting.chained + 1) + 2) ≡ nothing
    empty = no_content (trace p) bucket (8 * (waiting.chained + 1) + 2) waiting
        (waiting.items (8 * (waiting.chained + 1) + 2))
        ((chain_of z (trace p) is.lawful bucket).contents (8 * (waiting.chained + 1) + 2)) (omega arith)

    apart : longer.items (8 * (waiting.chained + 1) + 2) ≡ waiting.items (8 * (waiting.chained + 1) + 2)
    apart = let n = 8 * (waiting.chained + 1) + 2 in
        cond-false (eqb (last waiting) n) (next overflow) _ (ne_eqb (last waiting) n (λ same. omega arith))
        ∙ cond-false (eqb (fresh_position waiting) n) (waiting.items (last waiting)) (waiting.items n)
        (ne_eqb (fresh_position waiting) n (λ same. omega arith))

    before : AreTakenBefore longer (8 * (waiting.chained + 1) + 2)
    before n lt here none = ⊎_elim
        (λ end. let leads : next overflow ≡ nothing =
        sym (cond-true (eqb (last waiting) n) (next overflow)
        (cond (eqb (fresh_position waiting) n) (waiting.items (last waiting)) (waiting.items n))
        (eq-eqb (last waiting) n end)) ∙ none in cc)
        (λ other.
        let there = sym (cond-false (eqb (last waiting) n) (next overflow)
        (cond (eqb (fresh_position waiting) n) (waiting.items (last waiting)) (waiting.items n))
        (ne_eqb (last waiting) n other)) ∙ none in ⊎_elim
        (λ first. spare.full (last waiting) (omega arith, omega arith)
        (sym (cond-true (eqb (fresh_position waiting) n) (waiting.items (last waiting)) (waiting.items n)
        (eq-eqb (fresh_position waiting) n first)) ∙ there))
        (λ old. let x = here.1 in spare.full n (omega (arith, lt, x, old), x)
        (sym (cond-false (eqb (fresh_position waiting) n) (waiting.items (last waiting)) (waiting.items n)
        (ne_eqb (fresh_position waiting) n old)) ∙ there))
        (cases_eq (fresh_position waiting) n))
        (cases_eq (last waiting) n)

    pub joined : HasJoined b bucket overflow q
    joined = record {
      clean = record {
        bit = (spare.bit.0, ap (λ (w : Bucket). w.holder) grown ∙ (spare.bit.1 ∙ ap Some (sym d.moved.same)));
        unwritten = ap (λ (w : Bucket). w.written) grown ∙ spare.unwritten;
        undrawn = ap (λ (w : Bucket). w.spare) grown;
      };
      home = ap (λ h. home_of h overflow) d.moved.goes_on
          ∙ (home_stays z d.moved.more (trace p) overflow (home bucket (waiting.chained + 1))
          (subst (IsLawful z) d.moved.goes_on d.moved.pass.lawful)
          ((chain_of z (trace p) is.lawful bucket).spare overflow spare.spare).1
          ∙ ap (λ (w : Bucket). Some (home bucket w.chained)) (sym grown));
      empty = ap (λ (w : Bucket). w.items (8 * w.chained + 2)) grown ∙ (apart ∙ empty);
      before = subst (λ (w : Bucket). AreTakenBefore w (8 * w.chained + 2)) (sym grown) before;
    }

-- ---- one try

module _ (b : Board) (bucket overflow : ℕ) (place : Place) (word : ℕ) (p r q : Pass) (is : IsPassOf b p) (spare : HasSpare b bucket overflow p) (l : IsLast b bucket place word p)
    (filled : AddsAtOnce b (Put (number p) bucket word ∷ []) p r) (plain : r.plain ≡ p.plain) (same : memo r ≡ memo p) where
  put : Prepares b (puts (number p) bucket (word ∷ [])) bucket p r
  unfolding puts
  put = prepares b (Put (number p) bucket word) p r bucket filled spare.bit refl plain same

  pub tried : (result : Result (Unit {0}) ℕ)
      → OnOk result (AddsAtOnce b (Chained (number r) bucket overflow ∷ []) r q)
      → IfErr result (λ found. Missed b place word found r q) → q.plain ≡ r.plain → memo q ≡ memo r
      → TriesToJoin b bucket overflow place word result p q
  tried (Ok done) did missed after kept =
      let waits = spare_filled b bucket overflow place word p is spare l r filled in
      let one = prepares b (Chained (number r) bucket overflow) r q bucket did waits.bit refl after kept in (
        subst (λ n. Prepares b (Chained n bucket overflow ∷ puts (number p) bucket (word ∷ [])) bucket p q) filled.moved.same
            (prepares_then b (puts (number p) bucket (word ∷ [])) (Chained (number r) bucket overflow ∷ []) bucket p r q put one),
        joined b bucket overflow place word r filled.moved.pass waits (last_filled b bucket overflow place word p is spare l r filled) q did,
      )
  tried (Err found) did missed after kept =
      let waits = spare_filled b bucket overflow place word p is spare l r filled in
      let still = moved_bucket b [] r q bucket missed.did.moved waits.bit tt in
      let high = last_missed b r q bucket place word found waits.bit (last_filled b bucket overflow place word p is spare l r filled) missed in
      let idle = idle_prepares b r q bucket (record { moved = missed.did.moved; plain = after; memo = kept }) waits.bit in (
        prepares_then b (puts (number p) bucket (word ∷ [])) [] bucket p r q put idle,
        record {
          bit = moved_bit b [] r q bucket missed.did.moved waits.bit tt;
          unwritten = ap (λ (w : Bucket). w.written) still ∙ waits.unwritten;
          spare = ap (λ (w : Bucket). w.spare) still ∙ waits.spare;
          full = subst HasNoEmptyWord (sym still) waits.full;
        },
        high.0,
        high.1,
        high.2,
      )

-- ---- until one comes about

pub record Joining (b : Board) (bucket overflow : ℕ) (place : Place) (word : ℕ) (first p : Pass) : Type 0 where
  pub words : List ℕ
  pub prepares : Prepares b (puts (number first) bucket words) bucket first p
  pub spare : HasSpare b bucket overflow p
  pub last : IsLast b bucket place word p

pub joining_first : (b : Board) (bucket overflow : ℕ) (place : Place) (word : ℕ) (p : Pass) → IsPassOf b p
    → HasSpare b bucket overflow p → IsLast b bucket place word p → Joining b bucket overflow place word p p
unfolding puts
joining_first b bucket overflow place word p is spare last = record { words = []; prepares = idle_prepares b p p bucket (idles b p is) spare.bit; spare = spare; last = last }

module _ (b : Board) (bucket overflow : ℕ) (place : Place) (word : ℕ) (first p q : Pass) (j : Joining b bucket overflow place word first p) where
  -- the bucket is still that of the place
  pub home_still : home_at b place p ≡ bucket
  home_still = home_is b bucket overflow place word p j.prepares.moved.pass j.spare j.last

  pub joining_later : (found : ℕ) → TriesToJoin b bucket overflow place word (Err found) p q → Joining b bucket overflow place found first q
  unfolding puts
  joining_later found tried = record {
    words = word ∷ j.words;
    prepares = subst (λ n. Prepares b (Put n bucket word ∷ puts (number first) bucket j.words) bucket first q) j.prepares.moved.same
        (prepares_then b (puts (number first) bucket j.words) (puts (number p) bucket (word ∷ [])) bucket first p q j.prepares tried.0);
    spare = tried.1;
    last = tried.2;
  }

  pub joins_now : (done : Unit {0}) → TriesToJoin b bucket overflow place word (Ok done) p q → Joins b bucket overflow first q
  unfolding puts
  joins_now done tried = (
    word ∷ j.words,
    subst (λ n. Prepares b (Chained n bucket overflow ∷ Put n bucket word ∷ puts (number first) bucket j.words) bucket first q) j.prepares.moved.same
        (prepares_then b (puts (number first) bucket j.words) (joins (number p) bucket overflow (word ∷ [])) bucket first p q j.prepares tried.0),
    tried.1,
  )
