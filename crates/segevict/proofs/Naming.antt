-- Which rows items name, and how many: from a search along one chain to the sums over a pass's own segments.
use Rattle.std.proofs.Common.{◌≡◌, ℕ, zero, suc, ◌+◌, ◌*◌, ◌<◌, ◌≤◌, Bool, true, is_some, List, [], Option, Some, None, refl, sym, ap, ◌∙◌, subst, inl, inr, arith}
use Rattle.std.proofs.lemmas.Bool.{lt-ltb}
use Rattle.std.proofs.lemmas.Nat.{div-mul-add}
use Rattle.std.proofs.lemmas.Option.{same_Some}
use Rattle.segword.specs.Words.{covers, Item, Shape}
use Rattle.segmodel.specs.Words.{after, bucket_of, owner, StandsIn}
use Rattle.segcore.specs.Event as event
use Rattle.segcore.specs.Mark as mark
use Rattle.segcore.specs.Words.{cached, Event, IsLawful, last_at, RowAt, RowGone, Slot, slot, span_in}
use Rattle.segcore.proofs.Caches.{has_value, stands_in}
use Rattle.segcore.proofs.Coherent.{IsStanding}
use Rattle.segcore.proofs.Marked.{entries_marked}
use Rattle.segcore.proofs.Moments.{begins_on, marked_begins}
use Rattle.segcore.proofs.Standing.{coherent}
use Rattle.segbase.specs.Words.{Board, IsPassOf, marked, number, number_of, own_segment, Pass, position, trace}
use Rattle.segbase.specs.Words.{HasStep, TakesSteps, used_in, used_of}
use Rattle.segbase.proofs.Starting.{has_later, since_before, since_then, steps_grew}
use Rattle.segbase.proofs.Moves.{stays}
use Rattle.segbase.proofs.Owned.{state_owned, state_there, used_there}
use Rattle.segstore.specs.Words.{Idles, IsQuiet}
use Rattle.segstore.proofs.Keeping.{same_used}
use Rattle.segstore.proofs.Idling.{goes_nowhere}
use Rattle.segwrite.specs.Words.{Target}
use Rattle.segwrite.proofs.Places.{idles_then}
use Rattle.segevict.specs.Naming.{AreNamed, CountsRows, FindsNamed, IsNamed, or_zero, own_at, sum_below, SumsUp, Tallies, ReturnsNamed, used_at, WasNamed, WasNamedIn, WasTaken}
use Rattle.segevict.specs.Rows.{FindsRow, IsNamedAt, IsUsedRow}
use Rattle.segevict.proofs.Items.{in_rows, span_over}
use Rattle.segevict.proofs.Unnamed.{gone_over}

-- ---- a row

-- an item is in a word now that names it
named_at : (z : Shape) (h : List Event) (bucket at segment row : ℕ) → IsLawful z h → RowAt z bucket segment row h at → IsNamed z segment row (mark.marked h)
named_at z h bucket at segment row l n =
    let a : Slot = n.0 in
    let st : IsStanding z h bucket at a = (coherent z h l).items bucket at a n.1 in record {
      key = a.key;
      stands = subst (λ s. StandsIn (after z (mark.entries (mark.marked h))) a.key s) n.2.0
          (subst (λ entries. StandsIn (after z entries) a.key a.segment) (sym (entries_marked h)) (stands_in z (event.seen h) a.key a.segment (st.value, st.stands)));
      last = st.last ∙ (λ t. Some (slot a.key (n.2.0 t) (n.2.1 t)));
    }

-- where no item names it, no word does
pub gone_unless_named : (z : Shape) (h : List Event) (segment row : ℕ) → IsLawful z h → ¬ (IsNamed z segment row (mark.marked h)) → RowGone z segment row h
gone_unless_named z h segment row l none bucket at a is es er = none (named_at z h bucket at segment row l (a, is, (es, er)))

-- a word names it now
named_now : (b : Board) (bucket : ℕ) (sought : Item) (f : Pass) → IsPassOf b f → (target : Target) → IsNamedAt b bucket sought target f → IsNamed b.shape sought.seg sought.row (marked f)
named_now b bucket sought f is target n = named_at b.shape (trace f) bucket (position b.shape (trace f) target.place) sought.seg sought.row is.lawful n.named

-- no word does, and so no item
pub unnamed : (z : Shape) (h : List Event) (segment row : ℕ) → IsLawful z h → RowGone z segment row h → ¬ (IsNamed z segment row (mark.marked h))
unnamed z h segment row l gone is =
    let c = coherent z h l in
    let value = has_value z (event.seen h) is.key segment (subst (λ entries. StandsIn (after z entries) is.key segment) (entries_marked h) is.stands) in
    let there = c.all is.key (cached value.0 segment) value.1 in
    let a = there.1 in let st = c.items (bucket_of z is.key) there.0 a there.2 in
    let same : slot a.key a.segment a.row ≡ slot is.key segment row =
    same_Some (slot a.key a.segment a.row) (slot is.key segment row) (sym st.last ∙ ((λ t. last_at (mark.marked h) (there.3 t)) ∙ is.last)) in
    gone (bucket_of z is.key) there.0 a there.2 (ap (λ (x : Slot). x.segment) same) (ap (λ (x : Slot). x.row) same)

tells : (b : Board) (bucket : ℕ) (sought : Item) (o : Option Target) (f : Pass) → IsPassOf b f → FindsRow b bucket sought o f → ReturnsNamed b.shape sought.seg sought.row (is_some o) f
tells b bucket sought None f is finds = finds
tells b bucket sought (Some target) f is finds = named_now b bucket sought f is target finds

pub tells_at : (b : Board) (bucket : ℕ) (sought : Item) (segment row : ℕ) (o : Option Target) (told : Bool)
    (f : Pass) → (sought.seg ≡ segment) × (sought.row ≡ row) → told ≡ is_some o → IsPassOf b f
    → FindsRow b bucket sought o f → ReturnsNamed b.shape segment row told f
tells_at b bucket sought segment row o told f at same is finds =
    subst (λ t. ReturnsNamed b.shape segment row t f) (sym same)
    (subst (λ s. ReturnsNamed b.shape s row (is_some o) f) at.0
    (subst (λ r. ReturnsNamed b.shape sought.seg r (is_some o) f) at.1 (tells b bucket sought o f is finds)))

was_before : (z : Shape) (s r : ℕ) (p f q : Pass) → number f ≡ number p → TakesSteps p f → WasNamedIn z s r f q → WasNamedIn z s r p q
was_before z s r p f q same steps was = since_before p f q (λ start. WasNamed z s r (mark.marked start) (marked q)) same steps
    (λ start later up x. record { moment = x.moment; from = begins_on (mark.marked start) (mark.marked later) x.moment (marked_begins start later up) x.from; to = x.to; named = x.named }) was

was_after : (z : Shape) (s r : ℕ) (p q f : Pass) → TakesSteps q f → WasNamedIn z s r p q → WasNamedIn z s r p f
was_after z s r p q f steps was = since_then p q f (λ start. WasNamed z s r (mark.marked start) (marked q)) (λ start. WasNamed z s r (mark.marked start) (marked f)) steps
    (λ start x. record { moment = x.moment; from = x.from; to = begins_on x.moment (marked q) (marked f) x.to (marked_begins (trace q) (trace f) (steps_grew q f steps)); named = x.named }) was

-- ---- the rows of an item that was named

taken_map : (z : Shape) (s r : ℕ) (p q p' q' : Pass) → ((first : ℕ) → WasNamedIn z s first p q → WasNamedIn z s first p' q')
    → ((first : ℕ) → IsUsedRow s first q → IsUsedRow s first q' × (span_in (trace q') s first ≡ span_in (trace q) s first)) → WasTaken z s r p q → WasTaken z s r p' q'
taken_map z s r p q p' q' named used x = let u = used x.0 x.1 in (x.0, u.0, subst (λ n. covers x.0 n r ≡ true) (sym u.1) x.2, named x.0 x.3)

pub taken_by : (b : Board) (s row i used : ℕ) (p q : Pass) → used_of q s ≡ Some used → row < used → row ≤ i → i < row + span_in (trace q) s row
    → WasNamedIn b.shape s row p q → WasTaken b.shape s i p q
taken_by b s row i used p q is lt low high was = (row, (used, is, lt), in_rows row (span_in (trace q) s row) i low high, was)

-- ---- how many

tallies_map : (A B C D : ℕ → Type 0) → ((n : ℕ) → A n → C n) → ((n : ℕ) → B n → D n) → (n count : ℕ) → Tallies A B n count → Tallies C D n count
tallies_map A B C D f g zero count is = is
tallies_map A B C D f g (suc n) count (inl (before, one, rest, so)) = inl (before, one, tallies_map A B C D f g n before rest, f n so)
tallies_map A B C D f g (suc n) count (inr (rest, other)) = inr (tallies_map A B C D f g n count rest, g n other)

sums_map : (A B : ℕ → ℕ → Type 0) (most : ℕ) → ((at one : ℕ) → at < most → A at one → B at one) → (n sum : ℕ) → n ≤ most → SumsUp A n sum → SumsUp B n sum
sums_map A B most f zero sum le is = is
sums_map A B most f (suc n) sum le (before, one, adds, rest, so) = (before, one, adds, sums_map A B most f n before (omega (arith, le)) rest, f n one (omega (arith, le)) so)

taken_before : (b : Board) (s r : ℕ) (p f q : Pass) → Idles b p f → WasTaken b.shape s r f q → WasTaken b.shape s r p q
taken_before b s r p f q i = taken_map b.shape s r f q p q (λ first was. was_before b.shape s first p f q i.moved.same i.moved.steps was) (λ first used. (used, refl))

taken_after : (b : Board) (s r : ℕ) (p q f : Pass) → IsQuiet b q → owner b.shape s ≡ number q → Idles b q f → WasTaken b.shape s r p q → WasTaken b.shape s r p f
taken_after b s r p q f quiet own i = taken_map b.shape s r p q p f (λ first was. was_after b.shape s first p q f i.moved.steps was)
    (λ first used. (
      (used.0, same_used q f s i.plain ∙ used.1, used.2),
      span_over b [] q f s first i.moved tt own
          (let few = quiet.segments.few s used.0 used.1 in let lt = used.2 in quiet.segments.rows s used.0 first used.1 (omega (arith, few, lt)) ∙ lt-ltb first used.0 lt),
    ))

finds_before : (b : Board) (s rows count : ℕ) (p f q : Pass) → Idles b p f → FindsNamed b.shape s rows count f q → FindsNamed b.shape s rows count p q
finds_before b s rows count p f q i is = tallies_map _ _ _ _ (λ r was. taken_before b s r p f q i was) (λ r gone. gone) rows count is

are_before : (b : Board) (s rows count : ℕ) (p f q : Pass) → Idles b p f → AreNamed b.shape s rows count f q → AreNamed b.shape s rows count p q
are_before b s rows count p f q i is = tallies_map _ _ _ _ (λ r was. taken_before b s r p f q i was) (λ r none. none) rows count is

pub finds_after : (b : Board) (s rows count : ℕ) (p q r : Pass) → IsQuiet b q → owner b.shape s ≡ number q → Idles b q r → FindsNamed b.shape s rows count p q → FindsNamed b.shape s rows count p r
finds_after b s rows count p q r quiet own i is =
    tallies_map _ _ _ _ (λ row was. taken_after b s row p q r quiet own i was) (λ row gone. gone_over b [] q r s row i.moved tt own gone) rows count is

finds_none : (b : Board) (s rows count : ℕ) (p q : Pass) → IsPassOf b q → FindsNamed b.shape s rows count p q → AreNamed b.shape s rows count p q
finds_none b s rows count p q pass is = tallies_map _ _ _ _ (λ row was. was) (λ row gone. unnamed b.shape (trace q) s row pass.lawful gone) rows count is

-- ---- the rows of a segment

pub record Counting (b : Board) (segment row count : ℕ) (p q : Pass) : Type 0 where
  pub idles : Idles b p q
  pub few : count ≤ row
  pub named : FindsNamed b.shape segment row count p q

idle : (b : Board) (p : Pass) → IsPassOf b p → Idles b p p
idle b p is = record { moved = stays b p is; plain = refl; memo = refl }

pub counting_first : (b : Board) (segment : ℕ) (p : Pass) → IsPassOf b p → Counting b segment 0 0 p p
counting_first b segment p is = record { idles = idle b p is; few = omega arith; named = refl }

pub quiet_still : (b : Board) (p q : Pass) → IsQuiet b p → Idles b p q → IsQuiet b q
quiet_still b p q quiet i = (goes_nowhere b p q quiet i.moved i.plain i.memo).quiet

pub used_still : (b : Board) (s row used : ℕ) (p q : Pass) → Idles b p q → used_of p s ≡ Some used → row < used → IsUsedRow s row q
used_still b s row used p q i is lt = (used, same_used p q s i.plain ∙ is, lt)

pub named_in : (b : Board) (s row : ℕ) (p q r : Pass) → Idles b p q → HasStep q r → IsNamed b.shape s row (marked r) → WasNamedIn b.shape s row p r
named_in b s row p q r i step named =
    let first = has_later p q r i.moved.same i.moved.steps step in
    (first.0, first.1, record { moment = marked r; from = marked_begins first.0 (trace r) first.1.until; to = ([], refl); named = named })

-- ---- all segments of the pass's own

-- the pass knows how many rows of each are used
module _ (b : Board) (p : Pass) (quiet : IsQuiet b p) (at : ℕ) (lt : at < b.shape.segments_each) where
  pub own_here : owner b.shape (own_at b.shape p at) ≡ number p
  own_here = div-mul-add (number p) b.shape.segments_each at lt

  pub used_here : is_some (used_of p (own_at b.shape p at)) ≡ true
  used_here = let s = own_at b.shape p at in used_there (own_segment p.plain s) ∙ (sym (state_there (own_segment p.plain s)) ∙ state_owned b p s quiet.pass own_here)

  pub used_few : (rows : ℕ) → used_of p (own_at b.shape p at) ≡ Some rows → rows ≤ 4096
  used_few rows is = let few = quiet.segments.few (own_at b.shape p at) rows is in let most = quiet.pass.valid.0.1.1 in omega arith

-- the number of the segment, as it is added up
pub here : (b : Board) (p : Pass) (n : ℕ) (shape : Shape) (at : ℕ) → IsQuiet b p → n ≡ number_of p → shape ≡ b.shape → n * shape.segments_each + at ≡ own_at b.shape p at
here b p n shape at quiet of same = λ t. (of ∙ quiet.pass.numbered) t * (same t).segments_each + at

pub record CountingAll (b : Board) (at used named : ℕ) (p q : Pass) : Type 0 where
  pub idles : Idles b p q
  pub low : used ≤ at * 4096
  pub few : named ≤ used
  pub sum : used ≡ sum_below (used_at b.shape p) at
  pub sums : SumsUp (λ at count. FindsNamed b.shape (own_at b.shape p at) (used_at b.shape p at) count p q) at named

pub all_first : (b : Board) (p : Pass) → IsPassOf b p → CountingAll b 0 0 0 p p
all_first b p is = record { idles = idle b p is; low = omega arith; few = omega arith; sum = refl; sums = refl }

pub all_next : (b : Board) (at used named rows count : ℕ) (p q r : Pass) → IsQuiet b p → at < b.shape.segments_each
    → CountingAll b at used named p q → used_of q (own_at b.shape p at) ≡ Some rows → count ≤ rows → Idles b q r
    → FindsNamed b.shape (own_at b.shape p at) rows count q r → CountingAll b (at + 1) (used + rows) (named + count) p r
all_next b at used named rows count p q r quiet lt c is less i finds =
    let z = b.shape in let next : suc at ≡ at + 1 = omega arith in
    let was : used_of p (own_at z p at) ≡ Some rows = sym (same_used p q (own_at z p at) c.idles.plain) ∙ is in
    let here : used_at z p at ≡ rows = ap or_zero was in
    let few = used_few b p quiet at lt rows was in let low = c.low in let fewer = c.few in record {
      idles = idles_then b p q r c.idles i;
      low = omega arith;
      few = omega arith;
      sum = subst (λ n. used + rows ≡ sum_below (used_at z p) n) next (λ t. c.sum t + sym here t);
      sums = subst (λ n. SumsUp (λ at count. FindsNamed z (own_at z p at) (used_at z p at) count p r) n (named + count)) next (
        named,
        count,
        refl,
        sums_map _ _ at (λ n one below is. finds_after b (own_at z p n) (used_at z p n) one p q r (quiet_still b p q quiet c.idles)
            (own_here b p quiet n (omega (arith, below, lt)) ∙ sym c.idles.moved.same) i is) at named (omega arith)
            c.sums,
        subst (λ n. FindsNamed z (own_at z p at) n count p r) (sym here) (finds_before b (own_at z p at) rows count p q r c.idles finds),
      );
    }

pub all_counted : (b : Board) (at used named : ℕ) (p q : Pass) → at ≡ b.shape.segments_each → CountingAll b at used named p q → CountsRows b.shape used named p q
all_counted b at used named p q all c =
    let z = b.shape in record {
      sum = c.sum ∙ ap (sum_below (used_at z p)) all;
      sums = subst (λ n. SumsUp (λ at count. AreNamed z (own_at z p at) (used_at z p at) count p q) n named) all
          (sums_map _ _ at (λ n one below is. finds_none b (own_at z p n) (used_at z p n) one p q c.idles.moved.pass is) at named (omega arith) c.sums);
      few = c.few;
    }

-- a longer call, which only looked before
pub counts_before : (b : Board) (used named : ℕ) (p f q : Pass) → Idles b p f → CountsRows b.shape used named f q → CountsRows b.shape used named p q
counts_before b used named p f q i c =
    let z = b.shape in
    let here : own_at z f ≡ own_at z p = λ t at. i.moved.same t * z.segments_each + at in
    let rows : used_at z f ≡ used_at z p = λ t at. or_zero (used_in (own_segment (i.plain t) (here t at))) in record {
      sum = c.sum ∙ ap (λ amount. sum_below amount z.segments_each) rows;
      sums = subst (λ (own : ℕ → ℕ). SumsUp (λ at count. AreNamed z (own at) (used_at z p at) count p q) z.segments_each named) here
          (subst (λ (amount : ℕ → ℕ). SumsUp (λ at count. AreNamed z (own_at z f at) (amount at) count p q) z.segments_each named) rows
          (sums_map _ _ z.segments_each (λ n one below is. are_before b (own_at z f n) (used_at z f n) one p f q i is) z.segments_each named (omega arith) c.sums));
      few = c.few;
    }
