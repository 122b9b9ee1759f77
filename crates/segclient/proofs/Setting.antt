-- Sets in a row, each made again after one that was Busy.
use Rattle.std.proofs.Common.{◌≡◌, ◌≢◌, ℕ, zero, suc, ◌+◌, false, ◌∷◌, length, Some, nat_lt, refl, sym, ap, ◌∙◌, subst, add-one, arith}
use Rattle.std.proofs.lemmas.Bool.{le-ltb, ltb-false, or_from, or_parts, true_from_ne_false}
use Rattle.segmodel.specs.declared.answer.WriteAnswer.TheVariants as write
use Rattle.segmodel.specs.declared.request.Request.TheVariants.{Set}
use Rattle.segmodel.specs.Words.{WriteAnswer}
use Rattle.segbase.specs.declared.pass.PlainPart.{PlainPart}
use Rattle.segbase.specs.Words.{Board, Pass}
use Rattle.segstore.specs.Words.{has_room_for}
use Rattle.segwrite.specs.Words.{IsSetAnswer, rows_of, Writes}
use Rattle.segclient.specs.declared.segments.Order.{Order}
use Rattle.segclient.specs.declared.segments.Window.{Window}
use Rattle.segclient.specs.PutCalls.{sets, IsInWindow, Makes, StoresUntil}
use Rattle.segclient.specs.PutParts.{busy_sets, CanSet, current_deadline, deadline_at, is_outside, misses, plan_of, request_of}
use Rattle.segclient.proofs.Calls.{none_made, one_more}

pub busy_long : (busy : ℕ) → length (busy_sets busy) ≡ busy
unfolding busy_sets
busy_long zero = refl
busy_long (suc busy) = let rest = busy_long busy in omega (arith, rest)

pub same_until : (p q : Pass) → q.plain ≡ p.plain → current_deadline q ≡ current_deadline p
same_until p q same = ap (λ (x : PlainPart). current_deadline (record p { plain = x })) same

pub same_room : (b : Board) (rows : ℕ) (p q : Pass) → q.plain ≡ p.plain → has_room_for b.shape rows q ≡ has_room_for b.shape rows p
same_room b rows p q same = ap (λ (x : PlainPart). has_room_for b.shape rows (record p { plain = x })) same

-- what the pass stores expires at the deadline of its current segment
pub until_is : (until : ℕ) (p : Pass) → StoresUntil until p → current_deadline p ≡ Some until
until_is until p stores = ap (deadline_at p) stores.1 ∙ stores.2

-- a deadline that isn't missed is one of these
in_window : (window : Window) (until : ℕ) → misses window (Some until) ≡ false → IsInWindow window until
in_window window until none =
    let parts = or_parts (nat_lt until window.earliest) (nat_lt window.latest until) none in
    (ltb-false until window.earliest parts.0, ltb-false window.latest until parts.1)

-- and one of these isn't missed
pub not_outside : (window : Window) (until : ℕ) (p : Pass) → StoresUntil until p → IsInWindow window until → is_outside window p ≡ false
not_outside window until p stores within = ap (misses window) (until_is until p stores)
    ∙ or_from (nat_lt until window.earliest) (nat_lt window.latest until) (le-ltb until window.earliest within.0) (le-ltb window.latest until within.1)

pub timely_window : (window : Window) (p : Pass) → is_outside window p ≡ false → (until : ℕ) → StoresUntil until p → IsInWindow window until
timely_window window p timely until stores = in_window window until (ap (misses window) (sym (until_is until p stores)) ∙ timely)

module _ (b : Board) (order : Order) where
  abbrev IsTimely : Pass → Type 0
  IsTimely p = is_outside order.policy.window p ≡ false

  pub no_sets : (p : Pass) → Makes b (plan_of order) (busy_sets 0) p p
  unfolding busy_sets
  no_sets p = none_made b (plan_of order) p

  -- one more
  pub set_more : (told : WriteAnswer) (busy : ℕ) (p q r : Pass) → IsTimely p
      → Makes b (plan_of order) (busy_sets busy) p q → q.plain ≡ p.plain → IsSetAnswer told
      → Writes b (Set order.key.now order.value.now order.policy.moment) told q r
      → Makes b (plan_of order) (sets told ∷ busy_sets busy) p r
  set_more told busy p q r timely were same set writes =
      let until = same_until p q same in
      one_more b (plan_of order) (sets told) (busy_sets busy) p q r were
      (order.key.now, order.value.now, order.policy.moment, refl, timely_window order.policy.window q (ap (misses order.policy.window) until ∙ timely), set, writes)

  pub busy_more : (busy : ℕ) (p q r : Pass) → IsTimely p → Makes b (plan_of order) (busy_sets busy) p q
      → q.plain ≡ p.plain → Writes b (Set order.key.now order.value.now order.policy.moment) write.Busy q r
      → Makes b (plan_of order) (busy_sets (busy + 1)) p r
  unfolding busy_sets
  busy_more busy p q r timely were same writes =
      subst (λ n. Makes b (plan_of order) (busy_sets n) p r) (sym (add-one busy)) (set_more write.Busy busy p q r timely were same tt writes)

  -- one that found its bucket full had room
  pub can_set : (p q r : Pass) → IsTimely p → q.plain ≡ p.plain
      → Writes b (Set order.key.now order.value.now order.policy.moment) write.BucketFull q r → CanSet b (plan_of order) r
  can_set p q r timely same writes = (
    ap (misses order.policy.window) (same_until p r (writes.answer.0.plain ∙ same)) ∙ timely,
    same_room b (rows_of (request_of order)) q r writes.answer.0.plain
        ∙ true_from_ne_false (has_room_for b.shape (rows_of (request_of order)) q) (λ none. full_apart (writes.no_room.1 none)),
  )
    where
      full_apart : write.BucketFull ≢ write.NoRoom
      full_apart e = cc
