-- What a pass that took a step has done.
use Rattle.std.proofs.Common.{◌≡◌, ℕ, ◌*◌, ◌≤◌, List, [], ◌++◌, length, inl, refl, sym, ap, ◌∙◌, subst, append_assoc, append-nil}
use Rattle.segword.specs.Words.{Shape}
use Rattle.segcore.specs.Words.{adds, AllBy, AreWithin, Event, IsCell, IsLawful, May, NoneBy, seen, Step, Told, View}
use Rattle.segcore.proofs.Quiet.{quiet_inside}
use Rattle.segcore.proofs.Entered.{no_refill}
use Rattle.segcore.proofs.StepKinds.{keeps}
use Rattle.segbase.specs.Words.{Board, Pass}
use Rattle.segbase.specs.declared.law.Constants.{Constants}
use Rattle.segbase.specs.declared.pass.PlainPart.{PlainPart}
use Rattle.segbase.specs.PlainPart.{segments_of}
use Rattle.segbase.specs.declared.place.Spot.{Spot}
use Rattle.segbase.specs.Traces.{own_of, StaysIn}
use Rattle.segbase.specs.Spots.{cell_of}
use Rattle.segbase.specs.Minding.{Minds}
use Rattle.segbase.specs.Ruled.{Learns}
use Rattle.segbase.specs.Passes.{sight, view, number, trace, IsPassOf, CanStep, AddsEvents, StartsAt, Stepped}
use Rattle.segbase.proofs.Alone.{only_by}
use Rattle.segbase.proofs.Minded.{minded_on}
use Rattle.segbase.proofs.Owning.{own_all, own_none, own_both}
use Rattle.segbase.proofs.Staying.{stays_first, none_both, none_refilled}

-- the word of a step that a pass may take is one of the table
pub in_table : (b : Board) (p : Pass) (st : Step) (spot : Spot) (f : ℕ → ℕ) → CanStep b p st spot f → IsCell b.shape (cell_of b.shape spot)
in_table b p st spot f can = subst (IsCell b.shape) can.at (keeps b.shape st (number p) [] (trace p) can.pass.valid can.pass.lawful tt can.may).inside

pub own_adds : (b : Board) (p q : Pass) (st : Step) (found : ℕ) → IsPassOf b p → May b.shape (trace p) (number p) st
    → Told b.shape st found (view p) (view q) → AllBy (number p) (adds st (number p) found)
own_adds b p q st found is may told = subst (λ n. AllBy (number p) (adds st (number p) n)) (sym told.found_is)
    (keeps b.shape st (number p) told.more (trace p) is.valid told.before told.others may).own

stays_before : (own h : List Event) (p s : ℕ) → StaysIn own h p s → StaysIn [] h p s
stays_before own h p s t = stays_first own [] h p s (subst (λ x. StaysIn x h p s) (sym (append-nil own)) t)

-- the one step is the first of the call
pub starts : {z : Shape} (p q : Pass) (st : Step) (found : ℕ) (told : Told z st found (view p) (view q)) → StartsAt p q (told.more ++ trace p)
starts p q st found told = record {
  later = [];
  looked = ap (λ (v : View). v.looks) told.now;
  others = told.more;
  since = refl;
  none = told.others;
  until = (adds st (number p) found, ap (λ (v : View). v.trace) told.now);
}

pub moved_by : (b : Board) (p q : Pass) (st : Step) (found : ℕ) → IsPassOf b p → IsPassOf b q
    → May b.shape (trace p) (number p) st → Told b.shape st found (view p) (view q)
    → AddsEvents b (adds st (number p) found) p q
moved_by b p q st found is is' may told =
    let es : List Event = adds st (number p) found in
    let now : trace q ≡ es ++ (told.more ++ trace p) = ap (λ (v : View). v.trace) told.now in record {
      pass = is';
      same = ap (λ (v : View). v.number) told.now;
      more = es ++ told.more;
      goes_on = now ∙ sym (append_assoc es told.more (trace p));
      adds = own_both (number p) es told.more ∙
          (ap (λ x. own_of (number p) es ++ x) (own_none (number p) told.more told.others)
          ∙ (append-nil (own_of (number p) es) ∙ own_all (number p) es (own_adds b p q st found is may told)));
      steps = inl (told.more ++ trace p, starts p q st found told);
      kept = λ s stays. none_both s es told.more
          (none_refilled b.shape es (told.more ++ trace p) (trace p) (number p) s is.one_of
          (subst (λ (v : View). IsLawful b.shape v.trace) told.now told.legal)
          (quiet_inside told.more (trace p) (number p) s told.others) stays)
          (no_refill b.shape told.more (trace p) (number p) s is.one_of told.before told.others (stays_before es (trace p) (number p) s stays));
    }

pub stepped : (b : Board) (st : Step) (spot : Spot) (f : ℕ → ℕ) (found : ℕ) (p q : Pass) → CanStep b p st spot f
    → q.seat.table_id ≡ p.seat.table_id → Learns b.table.shared.key st found (sight p) (sight q)
    × (q.seat.me.1 ≡ p.seat.me.1) → q.plain ≡ p.plain → Stepped b st found p q
stepped b st spot f found p q can table learns plain =
    let is = can.pass in
    let told : Told b.shape st found (view p) (view q) = subst (λ (k : Constants). Told k.shape st found (view p) (view q)) b.same learns.0.told in
    let same : number q ≡ number p = ap (λ (v : View). v.number) told.now in
    let is' : IsPassOf b q = record {
      table = table ∙ is.table;
      bare = learns.1 ∙ is.bare;
      is_pass = learns.0.is_pass ∙ is.is_pass;
      valid = is.valid;
      lawful = told.legal;
      within = subst (λ (k : Constants). AreWithin k.limits (seen (trace q))) b.same learns.0.within;
      one_of = rw same is.one_of;
      alone = λ one. only_by b.shape.passes (number q) (trace q) one (rw same is.one_of) (subst (λ (k : Constants). (n : ℕ) → k.shape.passes ≤ n → NoneBy n (trace q)) b.same learns.0.among);
      minds = subst (λ m. Minds b.shape (trace q) (number q) m) (sym learns.0.memo)
          (subst (λ n. Minds b.shape (trace q) n (sight p).memo) (sym same)
          (minded_on b.shape (trace p) (trace q) (number p) (sight p).memo (
            adds st (number p) found ++ told.more,
            ap (λ (v : View). v.trace) told.now ∙ sym (append_assoc (adds st (number p) found) told.more (trace p)),
          )
          is.minds));
      numbered = ap (λ (x : PlainPart). x.number) plain ∙ (is.numbered ∙ sym same);
      first = ap (λ (x : PlainPart). x.first) plain ∙ (is.first ∙ ap (λ n. n * b.shape.segments_each) (sym same));
      rows = ap (λ (x : PlainPart). x.rows) plain ∙ is.rows;
      owns = ap (λ (x : PlainPart). length (segments_of x)) plain ∙ is.owns;
    } in record {
      told = told;
      did = record {
        moved = moved_by b p q st found is is' can.may told;
        others = told.more;
        none = told.others;
        before = told.before;
        now = ap (λ (v : View). v.trace) told.now;
      };
      plain = plain;
      memo = learns.0.memo;
      met = learns.0.met;
    }
