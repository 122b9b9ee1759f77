use Rattle.std.proofs.Common.{◌≡◌, ℕ, ◌*◌, ◌/◌, ◌^◌, eqb, refl, sym, subst, ◌∙◌, arith}
use Rattle.std.proofs.lemmas.Bool.{eq-eqb, ne_eqb}
use prog.Atomic.{either}
use Rattle.segcore.specs.Words.{none_reading}
use Rattle.segbase.specs.declared.board.Board.{Board}
use Rattle.segbase.specs.declared.pass.Pass.{Pass}
use Rattle.segbase.specs.declared.place.Spot.TheVariants.{Segment}
use Rattle.segbase.specs.Passes.{CanStep, IsPassOf, Stepped}
use Rattle.segbase.specs.Steps.{MayTake}
use Rattle.segbase.proofs.board.Board.none_reading.Goals as goal

module _ (b : Board) (p : Pass) (s old d w v : ℕ) (is_old : w ≡ old * 2 ^ 32) (is_new : v ≡ d * 2 ^ 32) where
  old_back : w / 2 ^ 32 ≡ old
  old_back = omega arith

  new_back : v / 2 ^ 32 ≡ d
  new_back = omega arith

  can_ask : IsPassOf b p → MayTake b p (none_reading s old d) → CanStep b p (none_reading s (w / 2 ^ 32) (v / 2 ^ 32)) (Segment s) (λ n. either (eqb n w) v n)
  can_ask is may = record {
    pass = is;
    at = refl;
    by = rw (old_back, new_back, is_old, is_new) refl;
    may = subst (λ m. MayTake b p (none_reading s m (v / 2 ^ 32))) (sym old_back)
        (subst (λ n. MayTake b p (none_reading s old n)) (sym new_back) may);
    links = tt;
  }

  asked : (found : ℕ) (q : Pass) → Stepped b (none_reading s (w / 2 ^ 32) (v / 2 ^ 32)) found p q → Stepped b (none_reading s old d) found p q
  asked found q step = subst (λ n. Stepped b (none_reading s old n) found p q) new_back (subst (λ m. Stepped b (none_reading s m (v / 2 ^ 32)) found p q) old_back step)

pub exchange_at-requires : goal.exchange_at-requires
exchange_at-requires c =
    can_ask _ _ c.args.segment c.unwrap-old.result c.args.deadline c.unread-word.result c.unread.result c.unread-word.ensures c.unread.ensures
    c.requires.pass (c.requires.may c.unwrap-old.result (sym c.deadline.ensures ∙ c.unwrap-old.ensures))

pub returns-then-exchange_at-word : goal.returns-then-exchange_at-word
returns-then-exchange_at-word c = record {
  old = c.unwrap-old.result;
  found = c.exchange_at.result;
  now = c.exchange_at.new.pass;
  knew = sym c.deadline.ensures ∙ c.unwrap-old.ensures;
  step = asked _ _ c.args.segment c.unwrap-old.result c.args.deadline c.unread-word.result c.unread.result c.unread-word.ensures c.unread.ensures c.exchange_at.result _ c.exchange_at.ensures;
  told = sym (ne_eqb c.exchange_at.result (c.unwrap-old.result * 2 ^ 32) (λ e. c.if-exchange_at-word.true (e ∙ sym c.unread-word.ensures)));
  keeps = refl;
}

pub returns : goal.returns
returns c = record {
  old = c.unwrap-old.result;
  found = c.exchange_at.result;
  now = c.exchange_at.new.pass;
  knew = sym c.deadline.ensures ∙ c.unwrap-old.ensures;
  step = asked _ _ c.args.segment c.unwrap-old.result c.args.deadline c.unread-word.result c.unread.result c.unread-word.ensures c.unread.ensures c.exchange_at.result _ c.exchange_at.ensures;
  told = sym (eq-eqb c.exchange_at.result (c.unwrap-old.result * 2 ^ 32) (c.if-exchange_at-word.false ∙ c.unread-word.ensures));
  keeps = c.set_deadline.ensures;
}
