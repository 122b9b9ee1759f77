-- The words of a board at its end: the table's rule names all that had happened by then.
use Rattle.std.proofs.Common.{◌≡◌, ℕ, zero, suc, List, [], ◌∷◌, ◌++◌, get_or, refl, sym, ap, ◌∙◌, subst, arith}
use mathlib.Core.Option.{some, some-injective, some-ne-none}
use lib.ListN.{get_elem?}
use Rattle.atomic_table.specs.Table.{Final, Seen}
use Rattle.segword.specs.Words.{Shape}
use Rattle.segbase.specs.declared.law.Constants.{Constants}
use Rattle.segbase.specs.Constants.{constants}
use Rattle.segcore.specs.Words.{address, AllBy, Cell, Event, IsCell, NoneBy, word}
use Rattle.segbase.specs.Words.{Board, Pass}
use Rattle.segbase.specs.declared.closing.Words.{Words}
use Rattle.segbase.specs.Ruled.{Rule}
use Rattle.segbase.specs.Passes.{sight, number, trace, IsPassOf}
use Rattle.segbase.specs.Closing.{Closes}
use Rattle.segbase.proofs.Alone.{only_by}
use Rattle.std.specs.Slots.{slots_items}

-- events that are all of a pass and none of it are none
no_more : (p : ℕ) (more h : List Event) → AllBy p (more ++ h) → NoneBy p more → more ≡ []
no_more p [] h all none = refl
no_more p (e ∷ more) h all none = absurd (none.0 all.0)

pub got : (xs : List ℕ) (i x : ℕ) → get_elem? xs i ≡ some x → get_or xs i 0 ≡ x
got [] i x e = absurd (some-ne-none x (sym e))
got (y ∷ ys) zero x e = some-injective y x e
got (y ∷ ys) (suc i) x e = got ys i x e

pub closes : (b : Board) (p : Pass) (words : Words) (xs : List (Unit {0})) → IsPassOf b p → words.shape ≡ b.shape
    → Final {S = Unit {0}} (Seen (Rule b.table.shared.key) p.seat.id (sight p)) (slots_items words.closed.words) xs → (now : List Event) × Closes b p words now
closes b p words xs is of final =
    let z = b.shape in let n = number p in let ws = slots_items words.closed.words in
    let ruled : Rule (constants b.shape b.limits) final.0 = subst (λ (k : Constants). Rule k final.0) b.same final.1.0 in
    let now = ruled.trace in let l = ruled.lawful in
    let known = l.knows n (sight p).view ((ruled.sights p.seat.id (sight p) final.1.1).own is.is_pass) in
    let few = ruled.few in
    let all : z.passes ≡ 1 → AllBy n (known.more ++ trace p) = λ one. subst (λ h. AllBy n h) known.rest (only_by z.passes n now one is.one_of (λ m high. l.later m (omega arith))) in (
      now,
      record {
        of = of;
        rest = record {
          valid = rw of is.valid;
          lawful = rw of l.legal;
          each = subst (λ (k : Shape). (cell : Cell) → IsCell k cell
              → get_or ws (address k cell) 0 ≡ word k now cell) (sym of)
              (λ cell within. ap (λ (l : List ℕ). get_or l (address z cell) 0) (sym final.2) ∙ l.each cell within);
        };
        more = known.more;
        goes_on = known.rest;
        others = known.others;
        alone = λ one. known.rest ∙ ap (λ more. more ++ trace p) (no_more n known.more (trace p) (all one) known.others);
      },
    )
