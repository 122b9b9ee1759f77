-- With one pass, chains are as many buckets wider as it drew: none, or one for a new key that found no empty word, as the model has it.
use Rattle.std.proofs.Common.{◌≡◌, ◌≢◌, ℕ, ◌+◌, ◌*◌, ◌≤◌, ◌==◌, ◌&&◌, not, Bool, true, false, cond, List, [], ◌∷◌, is_some, Option, Some, None, refl, sym, ap, subst, ◌∙◌, inl, inr, ⊎_elim, arith, eqb, eq-eqb}
use Rattle.std.specs.List.Sorted.{IsStrictlySortedBy}
use Rattle.std.specs.Map.{keys_of}
use Rattle.std.proofs.lemmas.Bool.{cases_eq, ne_eqb, eqb-true, and_left, and_right, lt-ltb}
use Rattle.std.proofs.lemmas.Option.{none-some}
use Rattle.segword.specs.Words.{Shape}
use Rattle.segmodel.specs.declared.entry.Entry.TheVariants.{Wrote}
use Rattle.segmodel.specs.declared.request.Reply.TheVariants.{Stored}
use Rattle.segmodel.specs.Words.{adds_key, after, bucket_of, Cached, chained, IsBetween, key_cmp}
use Rattle.segmodel.specs.Words.{key_of, keys_in, lacks_word, may_chain, put, Request, standing}
use Rattle.segmodel.specs.Words.{State, value_of}
use Rattle.segmodel.proofs.HistoryLemmas.{standing-put}
use Rattle.segmodel.proofs.Keys.{at_self}
use Rattle.segmodel.proofs.Ordered.{sorted-after}
use Rattle.segcore.specs.declared.event.Event.TheVariants.{Drew}
use Rattle.segcore.specs.Words.{all_drawn, drawn_for, drew, entries, Mark, width}
use Rattle.segcore.specs.Mark as mark
use Rattle.segcore.proofs.KeyCounts.{count_put, if_there}
use Rattle.segcore.proofs.Marked.{entries_marked, chained_marked, drawn_marked}
use Rattle.segcore.proofs.Moments.{begins_on, marked_begins}
use Rattle.segbase.specs.Words.{Board, count, marked, number, Pass, seen, trace}
use Rattle.segbase.proofs.Alone.{drew_alone}
use Rattle.segstore.specs.Words.{DrawsNothing, GoesOn, IsQuiet}
use Rattle.segwrite.specs.Words.{CanGrow, GrowsFor}
use Rattle.segsolo.specs.Alone.{state_at, IsAlone}
use Rattle.segindex.proofs.QuietPass.{keys_few}
use Rattle.segsolo.proofs.AlonePass.{SameWidths}
use Rattle.segsolo.proofs.Grown.{entries_begin, drawn_begin, all_begin, drawn_for_one, one_of_two}
use Rattle.segmodel.proofs.Words.{adds_none}

-- keys of a bucket stand at most for each word that its chain can have
keys_fit : (b : Board) (p : Pass) (bucket : ℕ) → IsQuiet b p → keys_in b.shape (after b.shape (seen p)) bucket ≤ 6 * width (marked p) bucket + 1
keys_fit b p bucket quiet =
    let most = keys_few b.shape bucket (trace p) quiet.pass.lawful in
    let joined = chained_marked b.shape (trace p) bucket in
    let were_drawn = drawn_marked b.shape (trace p) bucket quiet.pass.lawful in omega arith

-- ---- chains grow by what the pass drew

module _ (b : Board) (p q : Pass) (was : IsAlone b p) (on : GoesOn b p q) where
  added_drew : (bucket : ℕ) → drawn_for on.marked.0 bucket + count (drew bucket) p ≡ count (drew bucket) q
  added_drew bucket =
      let before = drew_alone b p bucket was.quiet.pass was.one in
      let now = drew_alone b q bucket on.quiet.pass was.one in
      let more = drawn_begin (marked p) (marked q) bucket on.marked in omega arith

  width_drew : (bucket : ℕ) → width (marked q) bucket + count (drew bucket) p ≡ width (marked p) bucket + count (drew bucket) q
  width_drew bucket = let more = drawn_begin (marked p) (marked q) bucket on.marked in let added = added_drew bucket in omega arith

  -- where it drew for one bucket alone
  all_drew : (bucket : ℕ) → ((other : ℕ) → other ≢ bucket → count (drew other) q ≡ count (drew other) p) → all_drawn (marked q) + count (drew bucket) p ≡ all_drawn (marked p) + count (drew bucket) q
  all_drew bucket others =
      let alone = drawn_for_one on.marked.0 bucket (λ other ne. let none = others other ne in let added = added_drew other in omega arith) in
      let added = added_drew bucket in
      let more = all_begin (marked p) (marked q) on.marked in omega arith

  pub same_widths : DrawsNothing p q → SameWidths p q
  same_widths undrawn = record {
    wide = λ bucket. let none = undrawn bucket in let draws = width_drew bucket in omega arith;
    drawn = let none = undrawn 0 in let draws = all_drew 0 (λ other ne. undrawn other) in omega arith;
  }

-- ---- a request that is stored

-- chains are then as the model has them: one longer where a new key found no empty word, which it could be
pub record Grows (shape : Shape) (p q : Pass) (request : Request) : Type 0 where
  pub wide : (bucket : ℕ) → width (marked q) bucket ≡ (chained (bucket_of shape (key_of request)) (lacks_word shape (state_at shape p) request) (state_at shape p)).width bucket
  pub drawn : all_drawn (marked q) ≡ (chained (bucket_of shape (key_of request)) (lacks_word shape (state_at shape p) request) (state_at shape p)).drawn
  pub fits : (lacks_word shape (state_at shape p) request && not (may_chain shape (state_at shape p) (bucket_of shape (key_of request)))) ≡ false

-- a new key that was put, where the chain stays, has a word, so that one was left
had_word : (shape : Shape) (state : State) (request : Request) (segment : ℕ) → IsStrictlySortedBy key_cmp (keys_of state.cache.items)
    → keys_in shape (put shape (key_of request) (value_of request) segment state.cache)
    (bucket_of shape (key_of request)) ≤ 6 * state.width (bucket_of shape (key_of request)) + 1
    → lacks_word shape state request ≡ false
had_word shape state request segment sorted most = by (standing state.cache (key_of request)) refl
  where
    bucket : ℕ
    bucket = bucket_of shape (key_of request)

    by : (there : Option Cached) → standing state.cache (key_of request) ≡ there → (adds_key request (is_some there) && (keys_in shape state.cache bucket == 6 * state.width bucket + 1)) ≡ false
    by (Some item) is = and_left (adds_key request true) (keys_in shape state.cache bucket == 6 * state.width bucket + 1) (adds_none request)
    by None is =
        let more = count_put (λ k. bucket_of shape k == bucket) (key_of request) (record { value = value_of request; segment = segment }) state.cache.items sorted in
        let here : cond {A = ℕ} (bucket == bucket) 1 0 ≡ 1 = ap (λ b. cond {A = ℕ} b 1 0) (eq-eqb bucket bucket refl) in
        let new : if_there (is_some (standing state.cache (key_of request))) (cond {A = ℕ} (bucket == bucket) 1 0) ≡ 0 = ap (λ o. if_there (is_some o) (cond {A = ℕ} (bucket == bucket) 1 0)) is in
        and_right (adds_key request false) (keys_in shape state.cache bucket == 6 * state.width bucket + 1) (ne_eqb (keys_in shape state.cache bucket) (6 * state.width bucket + 1) (λ e. omega arith))

module _ (b : Board) (p q : Pass) (request : Request) (segment : ℕ) (was : IsAlone b p) (on : GoesOn b p q) (more : seen q ≡ Wrote (number p) request Stored (Some segment) ∷ seen p) where
  -- nothing was drawn: a word was left
  grown_none : DrawsNothing p q → Grows b.shape p q request
  grown_none undrawn = record {
    wide = λ bucket. same.wide bucket ∙ sym (ap (λ t. (chained (bucket_of b.shape (key_of request)) t (state_at b.shape p)).width bucket) had);
    drawn = same.drawn ∙ sym (ap (λ t. (chained (bucket_of b.shape (key_of request)) t (state_at b.shape p)).drawn) had);
    fits = and_left (lacks_word b.shape (state_at b.shape p) request) (not (may_chain b.shape (state_at b.shape p) (bucket_of b.shape (key_of request)))) had;
  }
    where
      same : SameWidths p q
      same = same_widths b p q was on undrawn

      few : keys_in b.shape (put b.shape (key_of request) (value_of request) segment (after b.shape (seen p)))
          (bucket_of b.shape (key_of request)) ≤ 6 * width (marked q) (bucket_of b.shape (key_of request)) + 1
      few = subst (λ h. keys_in b.shape (after b.shape h) (bucket_of b.shape (key_of request)) ≤ 6 * width (marked q) (bucket_of b.shape (key_of request)) + 1) more
          (keys_fit b q (bucket_of b.shape (key_of request)) on.quiet)

      had : lacks_word b.shape (state_at b.shape p) request ≡ false
      had = had_word b.shape (state_at b.shape p) request segment (sorted-after b.shape (seen p)) (let wide = same.wide (bucket_of b.shape (key_of request)) in let most = few in omega arith)

  -- One was drawn: at a moment of the call the key was new and found no word, and so it was from the start, since no entry came between.
  module _ (others : (bucket : ℕ) → bucket ≢ bucket_of b.shape (key_of request) → count (drew bucket) q ≡ count (drew bucket) p)
      (one : count (drew (bucket_of b.shape (key_of request))) q ≡ count (drew (bucket_of b.shape (key_of request))) p + 1) (adds : adds_key request false ≡ true)
      (marks : List Mark) (between : IsBetween (marked p) (marked q) marks) (can : CanGrow b.shape marks (key_of request)) where
    abbrev bucket : ℕ
    bucket = bucket_of b.shape (key_of request)

    is_between : IsBetween (seen p) (Wrote (number p) request Stored (Some segment) ∷ seen p) (entries marks)
    is_between = subst (λ h. IsBetween (seen p) h (entries marks)) (entries_marked (trace q) ∙ more)
        (subst (λ h. IsBetween h (entries (marked q)) (entries marks)) (entries_marked (trace p)) (entries_begin (marked p) marks between.0, entries_begin marks (marked q) between.1))

    -- afterwards the key stands
    not_after : entries marks ≢ Wrote (number p) request Stored (Some segment) ∷ seen p
    not_after e =
        let stands = standing-put b.shape (key_of request) (value_of request) segment (after b.shape (seen p)) (key_of request) in
        let there = ap (λ t. cond t (Some (record { value = value_of request; segment = segment })) (standing (after b.shape (seen p)) (key_of request))) (at_self (key_of request)) in
        none-some (record { value = value_of request; segment = segment }) (sym (sym (stands ∙ there) ∙ (ap (λ h. standing (after b.shape h) (key_of request)) (sym e) ∙ can.no_word.new)))

    then_was : entries marks ≡ seen p
    then_was = ⊎_elim (λ e. e) (λ e. absurd (not_after e)) (one_of_two (Wrote (number p) request Stored (Some segment)) (seen p) (entries marks) is_between)

    is_new : standing (after b.shape (seen p)) (key_of request) ≡ None
    is_new = ap (λ h. standing (after b.shape h) (key_of request)) (sym then_was) ∙ can.no_word.new

    -- so many keys have no word in a chain that is narrower
    width_then : width marks bucket ≡ width (marked p) bucket
    width_then =
        let low = drawn_begin (marked p) marks bucket between.0 in
        let high = drawn_begin marks (marked q) bucket between.1 in
        let wider = width_drew b p q was on bucket in
        let grew = one in
        let most = keys_fit b p bucket was.quiet in
        let full : keys_in b.shape (after b.shape (seen p)) bucket ≡ 6 * width marks bucket + 1 = ap (λ h. keys_in b.shape (after b.shape h) bucket) (sym then_was) ∙ can.no_word.full in
        omega arith

    no_word : keys_in b.shape (after b.shape (seen p)) bucket ≡ 6 * width (marked p) bucket + 1
    no_word = ap (λ h. keys_in b.shape (after b.shape h) bucket) (sym then_was) ∙ (can.no_word.full ∙ ap (λ n. 6 * n + 1) width_then)

    lacks : lacks_word b.shape (state_at b.shape p) request ≡ true
    lacks =
        (λ i. adds_key request (is_some (is_new i)) && (no_word i == 6 * width (marked p) bucket + 1))
        ∙ (λ i. adds i && eq-eqb (6 * width (marked p) bucket + 1) (6 * width (marked p) bucket + 1) refl i)

    may_grow : may_chain b.shape (state_at b.shape p) bucket ≡ true
    may_grow =
        let low = all_begin (marked p) marks between.0 in
        let left = can.left in
        let short = can.short in
        let wide = width_then in
        λ i. lt-ltb (width (marked p) bucket) 4 (omega arith) i && lt-ltb (all_drawn (marked p)) b.shape.overflow (omega arith) i

    grown_one : Grows b.shape p q request
    grown_one = record {
      wide = λ other. by other (eqb bucket other) refl ∙ sym (ap (λ t. (chained bucket t (state_at b.shape p)).width other) lacks);
      drawn = (let draws = all_drew b p q was on bucket others in let grew = one in omega arith) ∙ sym (ap (λ t. (chained bucket t (state_at b.shape p)).drawn) lacks);
      fits = and_right (lacks_word b.shape (state_at b.shape p) request) (not (may_chain b.shape (state_at b.shape p) bucket)) (ap not may_grow);
    }
      where
        by : (other : ℕ) (here : Bool) → eqb bucket other ≡ here → width (marked q) other ≡ cond here (width (marked p) bucket + 1) (width (marked p) other)
        by other true is =
            let wider = width_drew b p q was on bucket in
            let grew = one in
            ap (width (marked q)) (sym (eqb-true bucket other is)) ∙ (let e : width (marked q) bucket ≡ width (marked p) bucket + 1 = omega arith in e)
        by other false is = let wider = width_drew b p q was on other in let none = others other (λ e. let same = eq-eqb bucket other (sym e) in cc) in omega arith

  pub grown : GrowsFor b.shape request p q → Grows b.shape p q request
  grown grows = ⊎_elim
      (λ none. grown_none (λ bucket. elim (cases_eq bucket (bucket_of b.shape (key_of request))) [
        | inl same ↦ subst (λ n. count (drew n) q ≡ count (drew n) p) (sym same) none
        | inr other ↦ grows.others bucket other
      ]))
      (λ (one, adds, need). grown_one grows.others one adds (mark.marked need.at) (
        marked_begins (trace p) need.at need.since,
        marked_begins need.at (trace q) (begins_on need.at
            (Drew (number p) (bucket_of b.shape (key_of request)) need.depth need.overflow ∷ need.at) (trace q)
            (Drew (number p) (bucket_of b.shape (key_of request)) need.depth need.overflow ∷ [], refl) need.draw),
      )
      need.could)
      grows.own
