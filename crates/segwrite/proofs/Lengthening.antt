-- How many overflow buckets a call draws for a bucket whose chain grew: one, and for others none.
use Rattle.std.proofs.Common.{◌≡◌, ◌≢◌, ℕ, ◌+◌, cond, eqb, List, [], ◌∷◌, ◌++◌, refl, sym, ◌∙◌, inl, arith}
use Rattle.std.proofs.lemmas.Bool.{eq-eqb, ne_eqb}
use Rattle.segword.specs.Words.{Shape}
use Rattle.segmodel.specs.Words.{Begins, bucket_of, key_of, Request}
use Rattle.segcore.specs.declared.event.Event.TheVariants.{Drew}
use Rattle.segcore.specs.Words.{count, drew, Event}
use Rattle.segcore.proofs.Moments.{begins_on}
use Rattle.segcore.proofs.Counts.{one_more}
use Rattle.segbase.specs.Words.{Pass}
use Rattle.segstore.specs.Words.{DrawsNothing}
use Rattle.segwrite.specs.Full.{DrewInNeed, GrowsFor}
use Rattle.segwrite.specs.Growing.{puts, lengthens}

-- so no chain grew
pub grows_none : (z : Shape) (request : Request) (p q : Pass) → DrawsNothing p q → GrowsFor z request p q
grows_none z request p q none = record { others = λ bucket apart. none bucket; own = inl (none (bucket_of z (key_of request))) }

-- a draw between wider moments
pub in_need_wider : (z : Shape) (key : List ℕ) (pass : ℕ) (h g h' g' : List Event) → Begins h' h → Begins g g' → DrewInNeed z key pass h g → DrewInNeed z key pass h' g'
in_need_wider z key pass h g h' g' before after d = record {
  at = d.at;
  depth = d.depth;
  overflow = d.overflow;
  since = begins_on h' h d.at before d.since;
  draw = begins_on (Drew pass (bucket_of z key) d.depth d.overflow ∷ d.at) g g' d.draw after;
  could = d.could;
}

past_puts : (p home bucket : ℕ) (words : List ℕ) (rest h : List Event) → count (drew bucket) p ((puts p home words ++ rest) ++ h) ≡ count (drew bucket) p (rest ++ h)
unfolding puts
past_puts p home bucket [] rest h = refl
past_puts p home bucket (w ∷ words) rest h = past_puts p home bucket words rest h

-- one more was drawn for its bucket
pub longer_drew : (p home depth overflow bucket : ℕ) (words : List ℕ) (h : List Event)
    → count (drew bucket) p (lengthens p home depth overflow words ++ h) ≡ cond (eqb home bucket) 1 0 + count
    (drew bucket) p h
longer_drew p home depth overflow bucket words h =
    past_puts p home bucket words (Drew p home depth overflow ∷ []) h ∙ rw (eq-eqb p p refl) (one_more (eqb home bucket) (count (drew bucket) p h))

pub longer_own : (p home depth overflow : ℕ) (words : List ℕ) (h : List Event) → count (drew home) p (lengthens p home depth overflow words ++ h) ≡ count (drew home) p h + 1
longer_own p home depth overflow words h = longer_drew p home depth overflow home words h ∙ rw (eq-eqb home home refl) (omega arith)

pub longer_other : (p home depth overflow bucket : ℕ) (words : List ℕ) (h : List Event) → bucket ≢ home → count (drew bucket) p (lengthens p home depth overflow words ++ h) ≡ count (drew bucket) p h
longer_other p home depth overflow bucket words h apart = longer_drew p home depth overflow bucket words h ∙ rw (ne_eqb home bucket (λ same. apart (sym same))) (omega arith)
