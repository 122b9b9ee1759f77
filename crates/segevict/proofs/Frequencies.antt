-- The frequency that an item had at a moment of a call: what a look saw, and moments of a longer call.
use Rattle.std.proofs.Common.{◌≡◌, ℕ, List, sym, subst}
use Rattle.segword.specs.Words.{Shape}
use Rattle.segmodel.specs.Words.{after, Begins, bucket_of, StandsIn}
use Rattle.segcore.specs.Event as event
use Rattle.segcore.specs.Words.{Mark, slot}
use Rattle.segcore.proofs.Caches.{stands_in}
use Rattle.segcore.proofs.Coherent.{IsStanding}
use Rattle.segcore.proofs.Marked.{entries_marked}
use Rattle.segcore.specs.Mark as mark
use Rattle.segcore.proofs.Moments.{begins_on, marked_begins}
use Rattle.segcore.proofs.Orderly.{frequency_marked}
use Rattle.segcore.proofs.Standing.{coherent}
use Rattle.segbase.specs.Words.{Board, marked, number, Pass, TakesSteps, trace}
use Rattle.segbase.proofs.Starting.{since_before, since_then, starts_on, steps_grew}
use Rattle.segevict.specs.Frequencies.{HadFrequency, HadThen}
use Rattle.segevict.specs.Moving.{SeesRow}

-- what an item had in a call it had in a longer one: one that began earlier, or one that ends later
module _ (shape : Shape) (segment row : ℕ) (IsSo : ℕ → Type 0) (key : List ℕ) (p q r : Pass) where
  pub had_before : number q ≡ number p → TakesSteps p q → HadThen shape segment row IsSo q r key → HadThen shape segment row IsSo p r key
  had_before same steps h = since_before p q r (λ start. HadFrequency shape segment row IsSo (mark.marked start) (marked r) key) same steps
      (λ start later up x. record {
        moment = x.moment;
        from = begins_on (mark.marked start) (mark.marked later) x.moment (marked_begins start later up) x.from;
        to = x.to;
        stood = x.stood;
        last = x.last;
        is = x.is;
      }) h

  pub had_after : TakesSteps q r → HadThen shape segment row IsSo p q key → HadThen shape segment row IsSo p r key
  had_after steps h = since_then p q r (λ start. HadFrequency shape segment row IsSo (mark.marked start) (marked q)
      key) (λ start. HadFrequency shape segment row IsSo (mark.marked start) (marked r) key) steps
      (λ start x. record {
        moment = x.moment;
        from = x.from;
        to = begins_on x.moment (marked q) (marked r) x.to
            (marked_begins (trace q) (trace r) (steps_grew q r steps));
        stood = x.stood;
        last = x.last;
        is = x.is;
      }) h

-- the key of a row that was seen had this frequency then
pub had_at : (b : Board) (segment row : ℕ) (IsSo : ℕ → Type 0) (p f : Pass) (s : SeesRow b segment row IsSo p f) (old new : List Mark) → Begins old (marked f) → Begins (marked f) new
    → HadFrequency b.shape segment row IsSo old new s.key
had_at b segment row IsSo p f s old new from to =
    let h = trace f in let home = bucket_of b.shape s.key in
    let st : IsStanding b.shape h home s.position (slot s.key segment row) = (coherent b.shape h s.idles.moved.pass.lawful).items home s.position (slot s.key segment row) s.named in record {
      moment = marked f;
      from = from;
      to = to;
      stood = subst (λ entries. StandsIn (after b.shape entries) s.key segment) (sym (entries_marked h)) (stands_in b.shape (event.seen h) s.key segment (st.value, st.stands));
      last = st.last;
      is = subst IsSo (sym (frequency_marked h segment row)) s.is;
    }

-- and so at a moment of the call
pub had_seen : (b : Board) (segment row : ℕ) (IsSo : ℕ → Type 0) (p f q : Pass) (s : SeesRow b segment row IsSo p f) → TakesSteps f q → HadThen b.shape segment row IsSo p q s.key
had_seen b segment row IsSo p f q s steps =
    let start = s.looks.0 in let first = s.looks.1 in (
      start,
      starts_on p f q start first steps,
      had_at b segment row IsSo p f s (mark.marked start) (marked q) (marked_begins start (trace f) first.until) (marked_begins (trace f) (trace q) (steps_grew f q steps)),
    )
