use Rattle.std.proofs.Common.{◌≡◌, ℕ, ◌-◌, ◌<◌, sym, ap, subst, ◌∙◌, arith, rules, length, slice_get, slice_index_or}
use Rattle.std.proofs.lemmas.Option.{slice_get_read, slice_get_within, get_or_from_slice_get}
use Rattle.std.specs.Vec.{vec_len}
use Rattle.std.specs.Vec.Iter.{into_iter_len, into_iter_items}
use Rattle.std.specs.declared.thread.PromisedHandle.{PromisedHandle}
use Rattle.segload.specs.Words.{LoadPlan, Worker}
use Rattle.segload.specs.declared.load.Worked.{Worked}
use Rattle.segbase.specs.Words.{Board, number}
use Rattle.segload.specs.Working.{BeginsPlan, HasMadePlan, HasWorked}
use Rattle.segload.specs.Lists.{AllAt}
use Rattle.segload.proofs.Lists.{all_pushed, all_none}
use Rattle.segload.proofs.Starting.{first_begins, first_numbered, rest_begin, worked_there}
use Rattle.segload.proofs.load.fn.work_at_once.scope.Goals as goal

-- a thread's promise is of this index, this gate and this plan, and of the pass whose number is its place
abbrev Ours : {G : Type 0} → Board → G → LoadPlan → ℕ → PromisedHandle Worker (Worked G) → Type 0
Ours b gate plan n thread = (thread.promise.index.now.board ≡ b) × (thread.promise.gate.now ≡ gate) × (thread.promise.plan ≡ plan)

abbrev InOrder : {G : Type 0} → ℕ → PromisedHandle Worker (Worked G) → Type 0
InOrder n thread = thread.promise.pass ≡ n

pub loop-worker-init : goal.loop-worker-init
loop-worker-init g c =
    let into = c.into_iter-worker-iterator.ensures.into_iter_gives in
    let made = c.in_ok-threads.ensures in
    let b = c.captures.index.now.board in
    let count : c.len-count.result - into_iter_len c.into_iter-worker-iterator.result ≡ 0 = (let len = c.len-count.ensures in omega (arith, into.1)) in
    record {
      can = tt;
      finite = tt;
      room = made.capacity;
      few = let len = c.len-count.ensures in omega (arith, into.1, made.len);
      rest = λ n worker at. subst (λ m. BeginsPlan b c.captures.plan m worker) (omega (arith, count)) (c.requires.1 n worker (ap (λ l. slice_get l n) (sym into.0) ∙ at));
      ours = λ n thread at. all_none n thread (ap (λ l. slice_get l n) (sym made.items) ∙ at);
      in_order = λ e n thread at. all_none n thread (ap (λ l. slice_get l n) (sym made.items) ∙ at);
    }

pub spawn_with-requires-clause-runs : goal.spawn_with-requires-clause-runs
spawn_with-requires-clause-runs g c =
    let begins = first_begins c.captures.index.now.board c.captures.plan
    (c.len-count.result - into_iter_len c.loop-worker.worker-iterator) c.in-Some.worker
    (into_iter_items c.next.new.self) (into_iter_items c.loop-worker.worker-iterator)
    c.in-Some.ensures.steps.0 c.loop-worker.invariant.rest in
    search rules

pub spawn_with-requires-clause-keeps : goal.spawn_with-requires-clause-keeps
spawn_with-requires-clause-keeps g c =
    let b = c.captures.index.now.board in
    let begins = first_begins b c.captures.plan (c.len-count.result - into_iter_len c.loop-worker.worker-iterator)
    c.in-Some.worker (into_iter_items c.next.new.self) (into_iter_items c.loop-worker.worker-iterator)
    c.in-Some.ensures.steps.0 c.loop-worker.invariant.rest in
    let is = c.number.ensures ∙ begins.0.at_work.quiet.pass.numbered in
    let may_answer = g.G.Gate.may_answer c.captures.gate.now in
    let told = g.G.Gate.told c.captures.gate.now in
    λ κs h r worked. subst (λ n. HasMadePlan b may_answer told c.captures.plan n r) (sym is) (record {
      first = c.in-Some.worker.client.pass;
      new = begins.0.new;
      worked = subst (λ d. HasWorked b may_answer told d c.in-Some.worker.client.pass (number c.in-Some.worker.client.pass) c.captures.plan.commands r) begins.1 worked;
    })

pub loop-worker-preserved-in-Ok : goal.loop-worker-preserved-in-Ok
loop-worker-preserved-in-Ok g c =
    let b = c.captures.index.now.board in
    let was = c.loop-worker.invariant in
    let steps = c.in-Some.ensures.steps in
    let pushed = c.push_reserved.ensures in
    let gone = c.len-count.result - into_iter_len c.loop-worker.worker-iterator in
    let few = was.few in
    let threads = c.loop-worker.threads in
    let here : vec_len threads ≡ length threads.items = threads.ok.0 in
    let of = c.in-Ok.ensures.ok in
    let begins = first_begins b c.captures.plan gone c.in-Some.worker (into_iter_items c.next.new.self) (into_iter_items c.loop-worker.worker-iterator) steps.0 was.rest in
    let numbered = first_numbered b c.captures.plan gone c.in-Some.worker (into_iter_items c.next.new.self) (into_iter_items c.loop-worker.worker-iterator) steps.0 was.rest in
    record {
      can = tt;
      finite = tt;
      room = let room = was.room in omega (arith, pushed.capacity);
      few = omega (arith, pushed.len, steps.1);
      rest = rest_begin b c.captures.plan gone (c.len-count.result - into_iter_len c.next.new.self) c.in-Some.worker
          (into_iter_items c.next.new.self) (into_iter_items c.loop-worker.worker-iterator) steps.0
          (omega (arith, steps.1)) was.rest;
      ours = subst (AllAt (Ours b c.captures.gate.now c.captures.plan)) (sym pushed.items)
          (all_pushed (Ours b c.captures.gate.now c.captures.plan) threads.items c.in-Ok.thread was.ours (ap (λ p. p.index.now.board) of, ap (λ p. p.gate.now) of, ap (λ p. p.plan) of));
      in_order = λ all. subst (AllAt InOrder) (sym pushed.items)
          (all_pushed InOrder threads.items c.in-Ok.thread (was.in_order (omega (arith, pushed.len, steps.1)))
          (ap (λ p. p.pass) of ∙ (c.number.ensures ∙ (begins.0.at_work.quiet.pass.numbered ∙ (numbered ∙ omega (arith, pushed.len, steps.1))))));
    }

pub loop-worker-preserved-in_default : goal.loop-worker-preserved-in_default
loop-worker-preserved-in_default g c =
    let b = c.captures.index.now.board in
    let was = c.loop-worker.invariant in
    let steps = c.in-Some.ensures.steps in
    let gone = c.len-count.result - into_iter_len c.loop-worker.worker-iterator in
    let few = was.few in
    record {
      can = tt;
      finite = tt;
      room = was.room;
      few = omega (arith, steps.1);
      rest = rest_begin b c.captures.plan gone (c.len-count.result - into_iter_len c.next.new.self) c.in-Some.worker
          (into_iter_items c.next.new.self) (into_iter_items c.loop-worker.worker-iterator) steps.0
          (omega (arith, steps.1)) was.rest;
      ours = was.ours;
      in_order = λ e. absurd (omega (arith, steps.1));
    }

pub returns : goal.returns
returns g c =
    let b = c.captures.index.now.board in
    let was = c.loop-worker.invariant in
    let joined = c.in_ok-join_promised.ensures in
    let worked = c.in_ok-join_promised.field-0 in
    let threads = c.loop-worker.threads in
    let over = c.in-None.ensures.steps in
    let few = was.few in
    let all : vec_len threads ≡ c.len-count.result = (let enough = c.if-len-count.false in omega (arith, c.len.ensures, over.0)) in (
      joined.len ∙ (all ∙ c.len-count.ensures),
      λ n worker at.
          let within = slice_get_within worked.items n worker at in
          let here : n < vec_len threads = omega (arith, joined.len, worked.ok.0) in
          let kept = (joined.each n worker here).1 in
          let there = slice_get_read threads.items (vec_len threads) n kept.handle threads.ok.0 here kept.handle_is in
          let ours = was.ours n kept.handle there in
          worked_there b c.captures.plan kept.handle.promise.index.now.board
          (g.G.Gate.may_answer c.captures.gate.now) (g.G.Gate.may_answer kept.handle.promise.gate.now)
          (g.G.Gate.told c.captures.gate.now) (g.G.Gate.told kept.handle.promise.gate.now)
          kept.handle.promise.plan n kept.handle.promise.pass worker (slice_index_or worked.items n worker)
          ours.0 (ap (λ gate. g.G.Gate.may_answer gate) ours.1) (ap (λ gate. g.G.Gate.told gate) ours.1) ours.2
          (was.in_order (omega (arith, all, over.0)) n kept.handle there)
          (get_or_from_slice_get worked.items n worker worker at) kept.kept,
    )
