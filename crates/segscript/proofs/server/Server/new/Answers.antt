use Rattle.std.proofs.Common.{◌≡◌, ◌++◌, ◌∷◌, ◌+◌, [], None, slice_get, length, sym, ap, ◌∙◌, arith}
use Rattle.std.proofs.lemmas.List.{replicate_more, length-replicate}
use Rattle.std.proofs.lemmas.Option.{slice_get_within}
use Rattle.segindex.specs.Words.{shape_of}
use Rattle.segindex.proofs.Made.{each_new}
use Rattle.segscript.proofs.Meetings.{new_seen}
use Rattle.segscript.proofs.Servers.{all_none, new_idle, new_first}
use Rattle.segscript.proofs.server.Server.new.Goals as goal

pub loop-init : goal.loop-init
loop-init c = record {
  holds = c.in_ok-holds.ensures.items;
  long = c.in_ok-holds.ensures.len;
  room = c.in_ok-holds.ensures.exact ∙ c.len.ensures ∙ sym c.len-end.ensures;
}

pub push_reserved-requires : goal.push_reserved-requires
push_reserved-requires c = let long = c.loop.invariant.long in let room = c.loop.invariant.room in let less = c.loop-test.true in omega arith

pub loop-preserved : goal.loop-preserved
loop-preserved c = record {
  holds = c.push_reserved.ensures.items ∙ ap (λ l. l ++ None ∷ []) c.loop.invariant.holds ∙ replicate_more c.loop.counter None;
  long = c.push_reserved.ensures.len ∙ ap (λ n. n + 1) c.loop.invariant.long;
  room = c.push_reserved.ensures.capacity ∙ c.loop.invariant.room;
}

pub returns-clause-ready : goal.returns-clause-ready
returns-clause-ready c =
    let new = c.requires.new in
    let each = each_new (shape_of c.args.index.now) c.args.index.now c.args.passes.items new in
    let b = c.args.index.now.board in
    let long : c.args.passes.len ≡ b.shape.passes = c.args.passes.ok.0 ∙ new.made.dealt.long in
    let all : c.loop.counter ≡ b.shape.passes = (let most = c.loop.auto.counter-end in let least = c.loop-test.false in let end = c.len-end.ensures in omega arith) in
    record {
      all = new.made.dealt.long;
      holds = ap length c.loop.invariant.holds ∙ length-replicate c.loop.counter None ∙ all;
      in_order = λ n p hold at held. (
        new_idle b n p hold (let within = slice_get_within c.args.passes.items n p at in let all = new.made.dealt.long in omega arith) (each n p at).0 (each n p at).1
            (all_none c.loop.counter n hold (ap (λ l. slice_get l n) (sym c.loop.invariant.holds) ∙ held)),
        (each n p at).0.number,
      );
      within = (let least = new.made.valid.0.0.0.1.0 in omega arith);
      ahead = λ first at n p is. new_seen p first (each n p is).0.nothing;
    }

pub returns-clause-start : goal.returns-clause-start
returns-clause-start c = new_first c.args.index.now.board c.args.passes.items (each_new (shape_of c.args.index.now) c.args.index.now c.args.passes.items c.requires.new)
