use Rattle.std.proofs.Common.{◌≡◌, ◌≢◌, ℕ, false, refl, sym, ap, ◌∙◌, subst, inl, inr, arith}
use Rattle.segmodel.specs.Words.{RefillAnswer}
use Rattle.segmodel.specs.declared.answer.RefillAnswer.TheVariants as refill
use Rattle.segmodel.specs.declared.answer.EvictAnswer.TheVariants as evict
use Rattle.segbase.specs.Words.{Board, Pass}
use Rattle.segevict.proofs.RowsOut.{goes_then}
use Rattle.segevict.specs.Words.{EvictsSegment}
use Rattle.segindex.specs.Refilling.{RefillsSegment}
use Rattle.segindex.specs.Words.{AnswersCommand}
use Rattle.segload.specs.Making.{ClientState, load_deadline}
use Rattle.segload.specs.Calls.{TriesForRoom}
use Rattle.segload.proofs.Answered.{is_refilled}
use Rattle.segload.proofs.client.Caller.make_room.Goals as goal

pub returns-in_default : goal.returns-in_default
returns-in_default c =
    let b = c.args.index.now.board in
    let p = c.args.self.now.pass in record {
      on = c.evict.ensures.evicts.on;
      room = subst (λ n. TriesForRoom (AnswersCommand b) n false p c.evict.new.self.pass) c.next-segment.ensures.value (inl (record {
        told = c.evict.result;
        refused = c.in_default.not-Evicted;
        evicts = c.evict.ensures.evicts;
      }));
      course = c.evict.ensures.course ∙ ap {B = ClientState} (λ s. record { segments = s; version = c.args.self.now.version }) c.next-segment.ensures.turned;
      counts = c.evict.ensures.counts;
      few = record { evictions = c.evict.ensures.few; refillings = (let same = c.evict.ensures.refillings in omega (arith, same)) };
    }

pub returns-clause-on : goal.returns-clause-on
returns-clause-on c = goes_then c.args.index.now.board c.args.self.now.pass c.evict.new.self.pass c.refill.new.self.pass c.evict.ensures.evicts.on c.refill.ensures.refills.on

pub returns-clause-room : goal.returns-clause-room
returns-clause-room c = subst (λ n. TriesForRoom (AnswersCommand b) n c.eq.result p q) c.next-segment.ensures.value (tried c.refill.result refl)
  where
    b : Board
    b = c.args.index.now.board

    p : Pass
    p = c.args.self.now.pass

    out : Pass
    out = c.evict.new.self.pass

    q : Pass
    q = c.refill.new.self.pass

    segment : ℕ
    segment = c.next-segment.result

    count : ℕ
    count = c.in-Evicted.field-0

    evicts : EvictsSegment b segment (evict.Evicted count) p out
    evicts = subst (λ told. EvictsSegment b segment told p out) c.in-Evicted.is c.evict.ensures.evicts

    asked : (told : RefillAnswer) → c.refill.result ≡ told → RefillsSegment b segment load_deadline told out q
    asked told is = subst (λ t. RefillsSegment b segment load_deadline t out q) is c.refill.ensures.refills

    in_all : (told : RefillAnswer) → c.refill.result ≡ told → TriesForRoom (AnswersCommand b) segment (is_refilled told) p q → TriesForRoom (AnswersCommand b) segment c.eq.result p q
    in_all told is tried = subst (λ made. TriesForRoom (AnswersCommand b) segment made p q) (sym (made told is)) tried
      where
        made : (t : RefillAnswer) → c.refill.result ≡ t → c.eq.result ≡ is_refilled t
        made refill.Refilled is = c.eq.ensures ∙ (rw is refl)
        made refill.NotYours is = c.eq.ensures ∙ (rw is refl)
        made refill.NotEvicted is = c.eq.ensures ∙ (rw is refl)
        made refill.Held is = c.eq.ensures ∙ (rw is refl)

    not : (told : RefillAnswer) → told ≢ refill.Refilled → c.refill.result ≡ told → TriesForRoom (AnswersCommand b) segment false p q
    not told ne is = inr (record { emptied = out; count = count; told = told; refused = ne; evicts = evicts; refills = asked told is })

    tried : (told : RefillAnswer) → c.refill.result ≡ told → TriesForRoom (AnswersCommand b) segment c.eq.result p q
    tried refill.Refilled is = in_all refill.Refilled is (record { emptied = out; count = count; evicts = evicts; refills = asked refill.Refilled is })
    tried refill.NotYours is = in_all refill.NotYours is (not refill.NotYours (λ e. cc) is)
    tried refill.NotEvicted is = in_all refill.NotEvicted is (not refill.NotEvicted (λ e. cc) is)
    tried refill.Held is = in_all refill.Held is (not refill.Held (λ e. cc) is)

pub evict-requires-clause-fits : goal.evict-requires-clause-fits
evict-requires-clause-fits c = c.requires.fits.evictions

pub refill-requires-clause-fits : goal.refill-requires-clause-fits
refill-requires-clause-fits c = let same = c.evict.ensures.refillings in let fits = c.requires.fits.refillings in omega (arith, same, fits)

pub returns-clause-course : goal.returns-clause-course
returns-clause-course c = c.refill.ensures.course ∙ (c.evict.ensures.course ∙ ap {B = ClientState} (λ s. record { segments = s; version = c.args.self.now.version }) c.next-segment.ensures.turned)

pub returns-clause-few : goal.returns-clause-few
returns-clause-few c =
    let same = c.refill.ensures.evictions in
    let evicted = c.evict.ensures.few in
    let was = c.evict.ensures.refillings in
    let refilled = c.refill.ensures.few in
    record { evictions = omega (arith, same, evicted); refillings = omega (arith, was, refilled) }
