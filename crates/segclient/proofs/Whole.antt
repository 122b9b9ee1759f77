-- A put as a whole: what it did up to a set that found its bucket full, and what it took out for that.
use Rattle.std.proofs.Common.{◌≡◌, ◌≢◌, ℕ, ◌+◌, ◌≤◌, false, List, [], ◌∷◌, ◌++◌, Some, None, refl, sym, ap, ◌∙◌, subst, inl, inr, append_assoc, length-append, arith}
use Rattle.std.specs.Prelude.{Contains, replicate}
use Rattle.std.proofs.lemmas.Bool.{false≢true}
use Rattle.std.proofs.lemmas.List.Elements.{All-append, All-cons, Contains-append_left, Contains-append_right, Contains-push}
use Rattle.segword.specs.Words.{Shape}
use Rattle.segmodel.specs.declared.answer.WriteAnswer.TheVariants as write
use Rattle.segbase.specs.declared.pass.PlainPart.{PlainPart}
use Rattle.segbase.specs.Words.{Board, number, Pass}
use Rattle.segstore.specs.declared.row.RowRef.{RowRef}
use Rattle.segevict.specs.declared.eviction.EvictRowAnswer.{EvictRowAnswer}
use Rattle.segevict.specs.declared.eviction.EvictRowAnswer.TheVariants as evict_row
use Rattle.segevict.specs.Words.{EvictsItem, FindsOwn}
use Rattle.segclient.specs.declared.put.PutAnswer.{PutAnswer}
use Rattle.segclient.specs.declared.put.PutAnswer.TheVariants as put
use Rattle.segclient.specs.declared.effort.Effort.{Effort}
use Rattle.segclient.specs.PutCalls.{came_to, evicted_keys, finds_own, is_for_room, IsForPut, Makes, Plan, PutCall, rows_asked, sets, takes_out}
use Rattle.segclient.specs.PutParts.{AreOpen, AreSets, AreUntilFull, busy_sets, CanSet, effort_from, EndsSo, IsEffort, MakesPut, PutsWhole, Sets, SetsIfTimely, TakesRowOut}
use Rattle.segclient.specs.Putting.{CostsOneItem, IsPutAnswer}
use Rattle.segclient.proofs.Calls.{both, effort_more, effort_then, makes_same, makes_then, one_more, same_effort}
use Rattle.segclient.proofs.Order.{are_sets, effort_sets, ends_sets, ends_then, look_apart, more_none, no_room_by_sets, open_more, out_apart}
use Rattle.segclient.proofs.Runs.{few_sets, look_then, no_last, out_then, sets_then}

busy_is : busy_sets 16 ≡ replicate 16 (sets write.Busy)
unfolding busy_sets
busy_is = refl

answer_of : (shape : Shape) (pass rows : ℕ) (told : PutAnswer) (calls : List PutCall) → told ≢ put.BucketFull → EndsSo shape pass rows told calls
    → IsPutAnswer shape pass rows told calls
answer_of shape pass rows put.Stored calls other ends = ends
answer_of shape pass rows put.NoRoom calls other ends = ends.0
answer_of shape pass rows put.BucketFull calls other ends = absurd (other refl)
answer_of shape pass rows put.Busy calls other ends = (ends.0.0, ends.0.1 ∙ ap (λ l. l ++ ends.0.0) busy_is)

open_of : (shape : Shape) (pass rows : ℕ) (told : PutAnswer) (calls : List PutCall) → told ≢ put.Stored → EndsSo shape pass rows told calls → AreOpen calls
open_of shape pass rows put.Stored calls other ends = absurd (other refl)
open_of shape pass rows put.NoRoom calls other ends = ends.1
open_of shape pass rows put.BucketFull calls other ends = ends.1
open_of shape pass rows put.Busy calls other ends = ends.1

costs_none : (told : PutAnswer) (calls : List PutCall) → told ≢ put.BucketFull → AreUntilFull told calls → CostsOneItem calls
costs_none put.Stored calls other are = inl are
costs_none put.NoRoom calls other are = inl are
costs_none put.BucketFull calls other are = absurd (other refl)
costs_none put.Busy calls other are = inl are

-- ---- the pass stores into what it did

pub row_plain : (b : Board) (segment row : ℕ) (told : EvictRowAnswer) (p q : Pass) → EvictsItem b segment row told p q → q.plain ≡ p.plain
row_plain b segment row evict_row.Evicted p q out = out.answer.0.plain
row_plain b segment row evict_row.Left p q out = out.answer.0.plain
row_plain b segment row evict_row.Busy p q out = out.answer.0.plain
row_plain b segment row evict_row.NotYours p q out = ap (λ (r : Pass). r.plain) out.answer
row_plain b segment row evict_row.NotUsed p q out = ap (λ (r : Pass). r.plain) out.answer

can_still : (b : Board) (plan : Plan) (p q : Pass) → q.plain ≡ p.plain → CanSet b plan p → CanSet b plan q
can_still b plan p q same can = subst (λ (x : PlainPart). CanSet b plan (record q { plain = x })) (sym same) can

timely_sets : (b : Board) (plan : Plan) (told : PutAnswer) (p q : Pass) → CanSet b plan p → SetsIfTimely b plan told p q → Sets b plan told p q × (told ≢ put.NoRoom)
timely_sets b plan told p q can (inl late) = absurd (false≢true (sym can.0 ∙ late.0))
timely_sets b plan told p q can (inr made) = (made, λ lacks. false≢true (sym (made.no_room lacks).0 ∙ can.1))

module _ (b : Board) (plan : Plan) where
  -- a put whose bucket wasn't full
  pub whole_put : (most total : ℕ) (told : PutAnswer) (effort : Effort) (p q : Pass)
      → most ≤ total → told ≢ put.BucketFull → MakesPut b plan most told effort p q → PutsWhole b plan total told effort p q
  whole_put most total told effort p q enough other puts = record {
    calls = puts.calls;
    makes = puts.makes;
    few = let few = puts.few in omega (arith, few, enough);
    comes = puts.comes;
    answer = answer_of b.shape (number p) (rows_asked plan.request) told puts.calls other puts.ends;
    not_stored = λ unstored. open_of b.shape (number p) (rows_asked plan.request) told puts.calls unstored puts.ends;
    tries = puts.tries;
    full = costs_none told puts.calls other puts.until;
    spares = puts.spares;
  }

  module _ (most total : ℕ) (first : Effort) (p q : Pass) (puts : MakesPut b plan most put.BucketFull first p q) (asked : IsForPut plan) where
    abbrev IsSpared : PutCall → Type 0
    IsSpared call = is_for_room call ≡ false

    -- in which it has no item of its own
    pub whole_none : (r : Pass) → most + 1 ≤ total → FindsOwn b None q r → PutsWhole b plan total put.BucketFull first p r
    whole_none r enough finds = record {
      calls = finds_own None ∷ puts.calls;
      makes = one_more b plan (finds_own None) puts.calls p q r puts.makes (asked, finds);
      few = let few = puts.few in omega (arith, few, enough);
      comes = same_effort (finds_own None ∷ puts.calls) (effort_from (first.refilled + 0) (first.kept + 0) (first.keys + 0)) first (omega arith) (omega arith) (omega arith)
          (effort_more (finds_own None) puts.calls first puts.comes);
      answer = (puts.until.0, inl (ap (λ l. finds_own None ∷ l) puts.until.1));
      not_stored = λ unstored. open_more (finds_own None) puts.calls (look_apart None) puts.ends.1;
      tries = look_then None puts.calls puts.tries;
      full = inr (finds_own None ∷ [], puts.until.0, ap (λ l. finds_own None ∷ l) puts.until.1, puts.until.2, inl refl);
      spares = λ fresh left. All-cons IsSpared (finds_own None) puts.calls refl (puts.spares fresh left);
    }

    -- or one that it evicts, and sets again
    module _ (row : RowRef) (out : Effort) (r s t : Pass) (finds : FindsOwn b (Some row) q r) (takes : TakesRowOut b row out r s) where
      abbrev look : PutCall
      look = finds_own (Some row)

      abbrev evict : PutCall
      evict = takes_out row.segment row.row takes.told

      abbrev earlier : List PutCall
      earlier = evict ∷ look ∷ puts.calls

      looked : IsEffort (look ∷ puts.calls) first
      looked = same_effort (look ∷ puts.calls) (effort_from (first.refilled + 0) (first.kept + 0) (first.keys + 0)) first (omega arith) (omega arith) (omega arith)
          (effort_more look puts.calls first puts.comes)

      evicted : IsEffort earlier (both first out)
      evicted = let all = effort_more evict (look ∷ puts.calls) first looked in
          let n = came_to evicted_keys evict in
          same_effort earlier (effort_from (first.refilled + 0) (first.kept + 0) (first.keys + n)) (both first out)
          (ap (λ (e : Effort). first.refilled + e.refilled) takes.comes) (ap (λ (e : Effort). first.kept + e.kept) takes.comes) (ap (λ (e : Effort). first.keys + e.keys) takes.comes) all

      made : Makes b plan earlier p s
      made = one_more b plan evict (look ∷ puts.calls) p r s (one_more b plan look puts.calls p q r puts.makes (asked, finds))
          (asked, finds.own ∙ sym finds.on.same, takes.evicts)

      was_full : Contains earlier (sets write.BucketFull)
      was_full = Contains-append_right (evict ∷ look ∷ []) puts.calls (sets write.BucketFull)
          (subst (λ l. Contains l (sets write.BucketFull)) (sym puts.until.1)
          (Contains-append_left (sets write.BucketFull ∷ []) puts.until.0 (sets write.BucketFull) (Contains-push [] (sets write.BucketFull))))

      all_open : AreOpen earlier
      all_open = open_more evict (look ∷ puts.calls) (out_apart row.segment row.row takes.told) (open_more look puts.calls (look_apart (Some row)) puts.ends.1)

      ends_so : (told : PutAnswer) (calls : List PutCall) → told ≢ put.NoRoom → AreSets told calls → EndsSo b.shape (number p) (rows_asked plan.request) told (calls ++ earlier)
      ends_so told calls other are = ends_then b.shape (number p) (number s) (rows_asked plan.request) told calls earlier (makes_same b plan earlier p s made) all_open
          (ends_sets b.shape (number s) (rows_asked plan.request) told calls other are)

      answered : (told : PutAnswer) (calls : List PutCall) → told ≢ put.NoRoom → AreSets told calls → IsPutAnswer b.shape (number p) (rows_asked plan.request) told (calls ++ earlier)
      answered put.Stored calls other are = ends_so put.Stored calls other are
      answered put.NoRoom calls other are = absurd (other refl)
      answered put.BucketFull calls other (busy, is) =
          (busy_sets busy ++ earlier, inr (ap (λ l. l ++ earlier) is, Contains-append_right (busy_sets busy) earlier (sets write.BucketFull) was_full))
      answered put.Busy calls other are = let ends = ends_so put.Busy calls other are in (ends.0.0, ends.0.1 ∙ ap (λ l. l ++ ends.0.0) busy_is)

      pub whole_row : (told : PutAnswer) → most + 18 ≤ total → SetsIfTimely b plan told s t → PutsWhole b plan total told (both first out) p t
      whole_row told enough timely =
          let can = can_still b plan r s (row_plain b row.segment row.row takes.told r s takes.evicts) (can_still b plan q r finds.idles.plain (puts.full refl)) in
          let sets_again = timely_sets b plan told s t can timely in
          let last = sets_again.0 in
          let other = sets_again.1 in
          record {
            calls = last.calls ++ earlier;
            makes = makes_then b plan last.calls earlier p s t made last.makes;
            few = let long = length-append last.calls earlier in let x = puts.few in let y = last.few in omega (arith, long, x, y, enough);
            comes = subst (IsEffort (last.calls ++ earlier)) (more_none (both first out))
                (effort_then last.calls earlier (both first out) (effort_from 0 0 0) evicted (effort_sets told last.calls last.are));
            answer = answered told last.calls other last.are;
            not_stored = λ unstored. open_of b.shape (number p) (rows_asked plan.request) told (last.calls ++ earlier) unstored (ends_so told last.calls other last.are);
            tries = sets_then last.calls earlier (no_last row.segment row.row takes.told (look ∷ puts.calls)) (few_sets last.calls last.few)
                (out_then row.segment row.row takes.told (look ∷ puts.calls) (look_then (Some row) puts.calls puts.tries));
            full = inr (
              last.calls ++ evict ∷ look ∷ [],
              puts.until.0,
              ap (λ l. last.calls ++ evict ∷ look ∷ l) puts.until.1 ∙ sym (append_assoc last.calls (evict ∷ look ∷ []) (sets write.BucketFull ∷ puts.until.0)),
              puts.until.2,
              inr (row, takes.told, last.calls, are_sets told last.calls last.are, refl),
            );
            spares = λ fresh left. All-append IsSpared last.calls earlier (no_room_by_sets told last.calls last.are)
                (All-cons IsSpared evict (look ∷ puts.calls) refl (All-cons IsSpared look puts.calls refl (puts.spares fresh left)));
          }
