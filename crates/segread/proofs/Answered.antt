-- What readers make of a scan: their answers by the history, and that they changed nothing.
use Rattle.std.proofs.Common.{◌≡◌, ℕ, Bool, true, false, cond, List, [], ◌∷◌, ◌≢◌, Some, None, option_map, inl, inr, refl, sym, ap, ◌∙◌, arith}
use Rattle.segword.specs.Words.{Shape}
use Rattle.segmodel.specs.declared.answer.GetAnswer.TheVariants as get
use Rattle.segmodel.specs.declared.answer.GetsAnswer.TheVariants as gets
use Rattle.segmodel.specs.Words.{after, unless_expired, bucket_of, Cached, GetAnswer, GetsAnswer}
use Rattle.segcore.specs.declared.event.Event.TheVariants.{Bumped}
use Rattle.segcore.specs.Event as event
use Rattle.segcore.specs.Words.{Event, IsLawful, KeyGone, WasGone}
use Rattle.segcore.proofs.Moments.{seen_begins}
use Rattle.segbase.specs.declared.pass.PlainPart.{PlainPart}
use Rattle.segbase.specs.Words.{AddsAtOnce, AddsEvents, Board, locked_of, number, Pass}
use Rattle.segbase.specs.Words.{Place, seen, sight, trace}
use Rattle.segbase.proofs.Moves.{moved_inside}
use Rattle.segstore.specs.Words.{FoundItem, IsChained, IsQuiet, IsReader, RaisesNothing, TakesAtMost, TakesNoBit}
use Rattle.segstore.proofs.Words.{chained_later}
use Rattle.segstore.proofs.Readers.{looks}
use Rattle.segstore.proofs.Draws.{reader_draws_none}
use Rattle.segstore.proofs.TakenBits.{reader_takes_none}
use Rattle.segread.specs.Costs.{CostsOfLooks, most_steps_of_get, most_steps_of_gets}
use Rattle.segread.specs.Gets.{Strides}
use Rattle.segread.specs.Reads.{ReadsBetween, IsGetAnswer, ReadsKey}
use Rattle.segread.specs.Looking.{LooksFirst}
use Rattle.segread.specs.Gets.{IsDisturbed, IsGetsAnswer, ReadsVersion}
use Rattle.segread.specs.Hits.{GetRaises, GetsRaises, GlancesFew, GlancesNothing, RaisesFrom, RaisesOne, TriesFew}
use Rattle.segread.proofs.ComingIn.{glances_none, raises_none}
use Rattle.segread.proofs.Looking.{out, reads_from, since_look}
use Rattle.segread.proofs.Raising.{raises_after}
use Rattle.segread.proofs.Reading.{read_on}

-- ---- the answer

pub gone_reads : (z : Shape) (key : List ℕ) (now : ℕ) (h g : List Event) → WasGone (KeyGone z key) h g → ReadsBetween z key now (event.seen h) (event.seen g) None
gone_reads z key now h g gone = (
  event.seen gone.0,
  (seen_begins h gone.0 gone.1, seen_begins gone.0 g gone.2),
  ap (λ o. option_map (λ (item : Cached). item.value)
      (unless_expired (after z (event.seen gone.0)).deadline now o)) gone.3,
)

-- ---- hits

-- the place of what was found is still one of a chain
pub found_place : (z : Shape) (place : Place) (w : ℕ) (key value : List ℕ) (h g : List Event) → IsLawful z g → FoundItem z place w key value h g → IsChained z g place
found_place z place w key value h g l found = chained_later z found.saw.at g place l found.saw.between.1 found.saw.was.chained

-- a pass that raises a frequency only reads
pub raises : (b : Board) (p q : Pass) (segment row frequency : ℕ)
    → AddsEvents b (Bumped (number p) segment row frequency ∷ []) p q → q.plain ≡ p.plain
    → (sight q).memo ≡ (sight p).memo → IsReader b p q
raises b p q segment row frequency m plain memo = record {
  reads = record {
    own = Bumped (number p) segment row frequency ∷ [];
    moved = m;
    only = (tt, tt);
    inside = λ s. moved_inside b (Bumped (number p) segment row frequency ∷ []) p q s m;
    stays = λ s there. (there, there);
  };
  plain = plain;
  memo = memo;
}

pub hits : (b : Board) (p q : Pass) (segment row frequency : ℕ) (raised : Bool)
    → AddsAtOnce b (cond raised (Bumped (number p) segment row frequency ∷ []) []) p q → q.plain ≡ p.plain
    → (sight q).memo ≡ (sight p).memo → IsReader b p q
hits b p q segment row frequency true d plain memo = raises b p q segment row frequency d.moved plain memo
hits b p q segment row frequency false d plain memo = looks b p q (record { did = d; plain = plain; memo = memo })

-- ---- bits

pub reads_no_bit : (b : Board) (p q : Pass) → IsReader b p q → TakesNoBit p q
reads_no_bit b p q i = reader_takes_none b i.reads.own p q i.reads.moved i.reads.only

-- ---- whole calls

pub costs_of_looks : (b : Board) (p q : Pass) → IsReader b p q → TriesFew p q → CostsOfLooks p q
costs_of_looks b p q i few = record { takes_no_bit = reads_no_bit b p q i; draws_nothing = reader_draws_none b p q i.reads; tries = few }

-- what a get raises, from what the pass had seen
abbrev pub GetRaisesFrom : Shape → List ℕ → ℕ → GetAnswer → Pass → Pass → Type 0
GetRaisesFrom z key draw (get.Found value) p q = RaisesFrom z key value draw (trace p) p q
GetRaisesFrom z key draw _ p q = RaisesNothing p q

-- and a gets
abbrev pub GetsRaisesFrom : Shape → List ℕ → ℕ → GetsAnswer → Pass → Pass → Type 0
GetsRaisesFrom z key draw (gets.Found value version) p q = RaisesFrom z key value draw (trace p) p q
GetsRaisesFrom z key draw _ p q = RaisesNothing p q

-- with p before the call, m right after its first look, and q at its end
module _ (b : Board) (key : List ℕ) (p m q : Pass) (l : LooksFirst b p m) (i : IsReader b m q) where
  whole : IsReader b p q
  whole = reads_from b key p m l q i

  few_from : TriesFew m q → TriesFew p q
  few_from few = let same = (out b key p m l).0 in omega (arith, few, same)

  pub strides_from : TriesFew m q → Strides 1 32 0 p q → TakesAtMost most_steps_of_gets p q
  strides_from few strode = let same = (out b key p m l).0 in let most = strode.most in omega (arith, few, same, most)

  raises_from : (value : List ℕ) (draw : ℕ) → RaisesFrom b.shape key value draw (trace m) m q → RaisesOne b.shape key value draw p q
  raises_from value draw raised = since_look b p m q (λ start. RaisesFrom b.shape key value draw start p q) l i
      (raises_after b.shape key value draw (trace m) (trace m) p m q l.look.did.moved.same ([], refl) (raises_none p m (out b key p m l).1) raised)

  none_from : RaisesNothing m q → RaisesNothing p q
  none_from none = none ∙ raises_none p m (out b key p m l).1

  get_raises : (draw : ℕ) (told : GetAnswer) → GetRaisesFrom b.shape key draw told m q → GetRaises b.shape key draw told p q
  get_raises draw (get.Found value) raised = raises_from value draw raised
  get_raises draw get.Miss none = none_from none
  get_raises draw get.Busy none = none_from none

  gets_raises : (draw : ℕ) (told : GetsAnswer) → GetsRaisesFrom b.shape key draw told m q → GetsRaises b.shape key draw told p q
  gets_raises draw (gets.Found value version) raised = raises_from value draw raised
  gets_raises draw gets.Miss none = none_from none
  gets_raises draw gets.Busy none = none_from none

  pub unset_from : GlancesNothing m q → GlancesNothing p q
  unset_from unset bucket = unset bucket ∙ glances_none p m (out b key p m l).1 bucket

  glances_from : GlancesFew m q → GlancesFew p q
  glances_from few bucket = let some = few bucket in let same = glances_none p m (out b key p m l).1 bucket in omega arith

  pub costs_from : TriesFew m q → CostsOfLooks p q
  costs_from few = costs_of_looks b p q whole (few_from few)

  disturbed_from : (now : ℕ) → IsDisturbed b.shape key now (seen m) m q → IsDisturbed b.shape key now (seen m) p q
  disturbed_from now (inl many) = inl many
  disturbed_from now (inr some) = inr ((let all = some.0 in let same = glances_none p m (out b key p m l).1 (bucket_of b.shape key) in omega arith), some.1)

  gets_answer : (now : ℕ) (told : GetsAnswer) → IsGetsAnswer b.shape key now told (seen m) m q → IsGetsAnswer b.shape key now told (seen m) p q
  gets_answer now (gets.Found value version) x = x
  gets_answer now gets.Miss x = x
  gets_answer now gets.Busy (inl x) = inl (disturbed_from now x)
  gets_answer now gets.Busy (inr x) = inr (ap (λ (y : PlainPart). y.locked) (sym l.look.plain) ∙ x.0, x.1)

  pub reads_key : (draw now : ℕ) (told : GetAnswer) → IsQuiet b p → TakesAtMost most_steps_of_get p q → TriesFew m q
      → GlancesNothing m q → GetRaisesFrom b.shape key draw told m q
      → IsGetAnswer b.shape key now told (seen m) (seen q) → ReadsKey b key draw now told p q
  reads_key draw now told quiet steps few unset raised answer = let on = read_on b p q quiet whole.reads whole.plain whole.memo in record {
    on = on.0;
    keeps = on.1;
    answer = since_look b p m q (λ start. IsGetAnswer b.shape key now told (event.seen start) (seen q)) l i answer;
    costs = record { looks = costs_from few; steps = steps; glances_nothing = unset_from unset; raises = get_raises draw told raised };
  }

  pub reads_version : (draw now : ℕ) (told : GetsAnswer) → IsQuiet b p → Strides 1 32 0 p q → TriesFew m q
      → GlancesFew m q → GetsRaisesFrom b.shape key draw told m q → IsGetsAnswer b.shape key now told (seen m) m q
      → ((value : List ℕ) (version : ℕ) → told ≡ gets.Found value version → locked_of p ≢ Some (bucket_of b.shape key)) → ReadsVersion b key draw now told p q
  reads_version draw now told quiet strode few glances raised answer unlocked = let on = read_on b p q quiet whole.reads whole.plain whole.memo in record {
    on = on.0;
    keeps = on.1;
    answer = since_look b p m q (λ start. IsGetsAnswer b.shape key now told (event.seen start) p q) l i (gets_answer now told answer);
    unlocked = unlocked;
    costs = record { looks = costs_from few; steps = strides_from few strode; visits = strode.visits; glances = glances_from glances; raises = gets_raises draw told raised };
  }
