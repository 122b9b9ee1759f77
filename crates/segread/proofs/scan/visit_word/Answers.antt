use Rattle.std.proofs.Common.{◌∙◌, ◌+◌, ◌≤◌, [], refl, arith, sym, subst}
use Rattle.segbase.specs.Words.{position, trace}
use Rattle.segbase.proofs.Moves.{moved_on}
use Rattle.segstore.specs.Words.{SawItem}
use Rattle.segstore.proofs.Words.{chained_later, same_place}
use Rattle.segstore.proofs.Seconds.{looked_at}
use Rattle.segstore.proofs.Readers.{looks, stays, reader_then, enter_then}
use Rattle.segstore.proofs.Looks.{one_step}
use Rattle.segread.specs.Scanning.{TriesInSeven, words_below}
use Rattle.segread.proofs.ComingIn.{looked, tries_none, tries_once, word_more, words_few}
use Rattle.segread.proofs.Pacing.{at_word, one_try, word_found, word_paced}
use Rattle.segread.proofs.Tries.{counts_none, trying_first, trying_on, tried, saw_here, passed_word, passed_other, may_enter, tried_as}
use Rattle.segread.proofs.Looking.{looks_first, still_of}
use Rattle.segread.proofs.Scans.{in_chain, hit_here, word_passed, word_tried, word_given_up}
use Rattle.segread.proofs.scan.visit_word.Goals as goal

pub returns-in_default-clause-reads : goal.returns-in_default-clause-reads
returns-in_default-clause-reads c = looks c.args.board.now _ c.look-word.new.pass
    (looked_at c.args.board.now c.args.pass.now c.look-word.new.pass c.args.place c.look-word.result
    c.look-word.ensures.step)

pub try_item-keyed-requires-clause-place : goal.try_item-keyed-requires-clause-place
try_item-keyed-requires-clause-place c = let b = c.args.board.now in let i = c.loop-count.invariant in let m = i.reads.reads.moved in
    chained_later b.shape (trace i.first) (trace c.loop-count.pass) c.args.place m.pass.lawful (moved_on b _ i.first c.loop-count.pass m) i.place.0

pub try_item-keyed-requires-clause-may : goal.try_item-keyed-requires-clause-may
try_item-keyed-requires-clause-may c = let i = c.loop-count.invariant in
    may_enter c.args.board.now c.args.pass.now c.loop-count.pass c.args.place c.loop-count.item (trace i.first) i.reads.reads.moved.pass c.requires.reader i.whole i.place.0 i.trying.saw

pub returns-in-Same-clause-reads : goal.returns-in-Same-clause-reads
returns-in-Same-clause-reads c = enter_then c.args.board.now c.args.pass.now c.loop-count.pass
    c.try_item-keyed.new.pass c.in-Same.item.seg c.loop-count.invariant.whole
    (tried_as c.args.board.now c.args.place c.loop-count.item c.args.sought.now.key c.loop-count.pass
    c.try_item-keyed.new.pass c.try_item-keyed.result.0 c.try_item-keyed.result.1 c.try_item-keyed.ensures.tries _
    c.in-Same.is).reads

pub returns-in-Other-clause-reads : goal.returns-in-Other-clause-reads
returns-in-Other-clause-reads c = reader_then c.args.board.now c.args.pass.now c.loop-count.pass
    c.try_item-keyed.new.pass c.loop-count.invariant.whole
    (tried_as c.args.board.now c.args.place c.loop-count.item c.args.sought.now.key c.loop-count.pass
    c.try_item-keyed.new.pass c.try_item-keyed.result.0 c.try_item-keyed.result.1 c.try_item-keyed.ensures.tries _
    c.in-Other.is).reads

pub returns-in-None-clause-reads : goal.returns-in-None-clause-reads
returns-in-None-clause-reads c = reader_then c.args.board.now c.args.pass.now c.loop-count.pass
    c.try_item-keyed.new.pass c.loop-count.invariant.whole
    (tried_as c.args.board.now c.args.place c.loop-count.item c.args.sought.now.key c.loop-count.pass
    c.try_item-keyed.new.pass c.try_item-keyed.result.0 c.try_item-keyed.result.1 c.try_item-keyed.ensures.tries _
    c.in-Changed.is).reads

pub loop-count-init : goal.loop-count-init
loop-count-init c = let b = c.args.board.now in let p = c.args.pass.now in let m = c.look-word.new.pass in
    let l = c.look-word.ensures in let x = c.in-Some.ensures.some in
    let at = position b.shape (trace m) c.args.place in
    let first = looks_first b p m c.args.place c.look-word.result l.step in record {
      whole = looks b p m first.look;
      paced = at_word p m (one_step b p m _ _ l.step) (looked b p m l.did.moved).0;
      first = m;
      look = first;
      place = still_of b c.args.sought.now.key p m first c.args.place c.requires.place;
      reads = stays b m l.did.moved.pass;
      tried = tries_none at c.args.tries m;
      trying = trying_first b.shape c.args.sought.now.key c.args.place c.args.tries c.in-Some.item
          c.look-word.result (trace m) (trace m) (saw_here b p m c.args.place c.look-word.result l.did l.found) x.0
          (x.1 ∙ c.requires.sought.tag);
    }

pub loop-count-preserved : goal.loop-count-preserved
loop-count-preserved c = let b = c.args.board.now in let i = c.loop-count.invariant in
    let k = tried_as c.args.board.now c.args.place c.loop-count.item c.args.sought.now.key c.loop-count.pass
    c.try_item-keyed.new.pass c.try_item-keyed.result.0 c.try_item-keyed.result.1 c.try_item-keyed.ensures.tries _
    c.in-Changed.is in let x = c.in-Some-item_of_tag.ensures.some in
    let p = i.first in let q = c.loop-count.pass in let r = c.try_item-keyed.new.pass in let at = position b.shape (trace p) c.args.place in record {
      whole = reader_then b c.args.pass.now q r i.whole k.reads;
      paced = one_try _ c.args.pass.now q r i.paced k.once.0 c.try_item-keyed.ensures.steps;
      first = p;
      look = i.look;
      place = i.place;
      reads = reader_then b p q r i.reads k.reads;
      tried = tries_once at at c.args.tries c.loop-count.count p q r i.tried k.once;
      trying = trying_on b.shape c.args.sought.now.key c.args.place c.args.tries c.loop-count.item
          c.loop-count.count c.in-Some-item_of_tag.other c.in-Changed.word (trace p) (trace q) (trace r)
          c.requires.pass.valid i.place
          (moved_on b _ p q i.reads.reads.moved) i.trying k.keyed.0 k.keyed.1 x.0 (x.1 ∙ c.requires.sought.tag);
    }

pub returns-in_default-clause-way : goal.returns-in_default-clause-way
returns-in_default-clause-way c = let b = c.args.board.now in let p = c.args.pass.now in
    let m = c.look-word.new.pass in let l = c.look-word.ensures in let key = c.args.sought.now.key in
    let at = position b.shape (trace m) c.args.place in
    let first = looks_first b p m c.args.place c.look-word.result l.step in let place = still_of b key p m first c.args.place c.requires.place in (
      m,
      first,
      (
        stays b m l.did.moved.pass,
        record {
          few = c.requires.tries;
          up = omega arith;
          counts = counts_none b.shape key c.args.tries (trace m) (trace m) ([], refl);
          tried = word_passed at c.args.tries c.args.tries m m (in_chain b.shape (trace m) c.args.place l.did.moved.pass.lawful place.0).0 (tries_none at c.args.tries m);
          passed = passed_word b.shape key c.args.place c.look-word.result c.args.sought.now.tag (trace m) (trace m)
              (trace m) c.requires.pass.valid place ([], refl)
              (saw_here b p m c.args.place c.look-word.result l.did l.found) c.requires.sought.tag
              (c.in_default.ensures.none refl);
        },
      ),
    )

pub returns-in-Same-clause-way : goal.returns-in-Same-clause-way
returns-in-Same-clause-way c = let b = c.args.board.now in let i = c.loop-count.invariant in let p = i.first in
    let q = c.loop-count.pass in let r = c.try_item-keyed.new.pass in
    let x = tried_as c.args.board.now c.args.place c.loop-count.item c.args.sought.now.key c.loop-count.pass
    c.try_item-keyed.new.pass c.try_item-keyed.result.0 c.try_item-keyed.result.1 c.try_item-keyed.ensures.tries _
    c.in-Same.is in
    let reads = enter_then b p q r c.in-Same.item.seg i.reads x.reads in (
      p,
      i.look,
      (
        reads,
        hit_here b c.args.sought.now.key c.args.place c.loop-count.item c.in-Same.item c.in-Same.header
            c.try_item-keyed.result.1 c.args.tries c.loop-count.count p q r i.place i.reads reads
            c.loop-count-test.true i.tried i.trying x.once x.keyed.1 x.deadline,
      ),
    )

pub returns-in-Other-clause-way : goal.returns-in-Other-clause-way
returns-in-Other-clause-way c = let b = c.args.board.now in let i = c.loop-count.invariant in
    let k = tried_as c.args.board.now c.args.place c.loop-count.item c.args.sought.now.key c.loop-count.pass
    c.try_item-keyed.new.pass c.try_item-keyed.result.0 c.try_item-keyed.result.1 c.try_item-keyed.ensures.tries _
    c.in-Other.is in let key = c.args.sought.now.key in
    let p = i.first in let q = c.loop-count.pass in let r = c.try_item-keyed.new.pass in (
      p,
      i.look,
      (
        reader_then b p q r i.reads k.reads,
        record {
          few = c.loop-count-test.true;
          up = let on = i.tried.onward in omega arith;
          counts = tried b.shape key c.args.place c.args.tries c.loop-count.item c.loop-count.count (trace p) (trace q) (trace r) (moved_on b _ q r k.reads.reads.moved) i.trying;
          tried = word_tried (position b.shape (trace p) c.args.place) c.args.tries c.loop-count.count p q r
              (in_chain b.shape (trace p) c.args.place i.look.look.did.moved.pass.lawful i.place.0).0 i.tried
              k.once;
          passed = passed_other b.shape key k.keyed.1.0 k.keyed.1.1 c.args.place c.pack.result (trace p) (trace q) (trace r) i.place (moved_on b _ p q i.reads.reads.moved) k.keyed.1.2
              (subst (λ w. SawItem b.shape c.args.place w k.keyed.1.0 k.keyed.1.1 (trace q) (trace r)) (sym c.pack.ensures) k.keyed.1.3);
        },
      ),
    )

pub returns-in-None-clause-way : goal.returns-in-None-clause-way
returns-in-None-clause-way c = let b = c.args.board.now in let i = c.loop-count.invariant in
    let k = tried_as c.args.board.now c.args.place c.loop-count.item c.args.sought.now.key c.loop-count.pass
    c.try_item-keyed.new.pass c.try_item-keyed.result.0 c.try_item-keyed.result.1 c.try_item-keyed.ensures.tries _
    c.in-Changed.is in let key = c.args.sought.now.key in
    let p = i.first in let q = c.loop-count.pass in let r = c.try_item-keyed.new.pass in (
      p,
      i.look,
      (
        reader_then b p q r i.reads k.reads,
        record {
          few = c.loop-count-test.true;
          up = let on = i.tried.onward in omega arith;
          counts = tried b.shape key c.args.place c.args.tries c.loop-count.item c.loop-count.count (trace p) (trace q) (trace r) (moved_on b _ q r k.reads.reads.moved) i.trying;
          tried = word_tried (position b.shape (trace p) c.args.place) c.args.tries c.loop-count.count p q r
              (in_chain b.shape (trace p) c.args.place i.look.look.did.moved.pass.lawful i.place.0).0 i.tried
              k.once;
          passed = passed_word b.shape key c.args.place c.in-Changed.word c.args.sought.now.tag (trace p) (trace q)
              (trace r) c.requires.pass.valid i.place (moved_on b _ p q i.reads.reads.moved) k.keyed.0
              c.requires.sought.tag (c.in-None.ensures.none refl);
        },
      ),
    )

pub returns-clause-reads : goal.returns-clause-reads
returns-clause-reads c = c.loop-count.invariant.whole

pub returns-clause-way : goal.returns-clause-way
returns-clause-way c = let b = c.args.board.now in let i = c.loop-count.invariant in let p = i.first in
    let q = c.loop-count.pass in let over = c.loop-count-test.false in let end = c.loop-count.auto.count-end in
    let all = tried b.shape c.args.sought.now.key c.args.place c.args.tries c.loop-count.item c.loop-count.count (trace p) (trace q) (trace q) ([], refl) i.trying in (
      p,
      i.look,
      (
        i.reads,
        record {
          counts = omega arith;
          tried = word_given_up (position b.shape (trace p) c.args.place) c.args.tries c.loop-count.count p q
              (in_chain b.shape (trace p) c.args.place i.look.look.did.moved.pass.lawful i.place.0).1 (omega arith)
              i.tried;
        },
      ),
    )

pub returns-in_default-clause-steps : goal.returns-in_default-clause-steps
returns-in_default-clause-steps c = let b = c.args.board.now in let p = c.args.pass.now in
    let m = c.look-word.new.pass in let l = c.look-word.ensures in
    let at = position b.shape (trace p) c.args.place in
    let more = word_more at (in_chain b.shape (trace p) c.args.place c.requires.pass.lawful c.requires.place.0).0 in
    word_paced at (at + 1) p m (omega (arith, more)) (at_word p m (one_step b p m _ _ l.step) (looked b p m l.did.moved).0)

pub returns-in-Same-clause-steps : goal.returns-in-Same-clause-steps
returns-in-Same-clause-steps c = let b = c.args.board.now in let z = b.shape in let i = c.loop-count.invariant in
    let p = c.args.pass.now in let q = c.loop-count.pass in let r = c.try_item-keyed.new.pass in
    let at = position z (trace p) c.args.place in
    let k = tried_as c.args.board.now c.args.place c.loop-count.item c.args.sought.now.key c.loop-count.pass
    c.try_item-keyed.new.pass c.try_item-keyed.result.0 c.try_item-keyed.result.1 c.try_item-keyed.ensures.tries
    _ c.in-Same.is in
    let reads = (enter_then b p q r c.in-Same.item.seg i.whole k.reads).reads in
    let same = (same_place z (trace p) (trace r) c.args.place reads.moved.pass.lawful (moved_on b reads.own p r reads.moved) c.requires.place.0).1 in
    let more = word_more at (in_chain z (trace p) c.args.place c.requires.pass.lawful c.requires.place.0).0 in
    word_found at (position z (trace r) c.args.place + 1) p q r (subst (λ n. words_below at + 1 ≤ words_below (n + 1)) (sym same) (omega (arith, more))) i.paced k.once.0
    (subst (λ t. TriesInSeven t q r) c.in-Same.is c.try_item-keyed.ensures.steps)

pub returns-in-Other-clause-steps : goal.returns-in-Other-clause-steps
returns-in-Other-clause-steps c = let z = c.args.board.now.shape in let i = c.loop-count.invariant in
    let p = c.args.pass.now in let q = c.loop-count.pass in let r = c.try_item-keyed.new.pass in
    let at = position z (trace p) c.args.place in
    let k = tried_as c.args.board.now c.args.place c.loop-count.item c.args.sought.now.key c.loop-count.pass
    c.try_item-keyed.new.pass c.try_item-keyed.result.0 c.try_item-keyed.result.1 c.try_item-keyed.ensures.tries
    _ c.in-Other.is in
    let more = word_more at (in_chain z (trace p) c.args.place c.requires.pass.lawful c.requires.place.0).0 in
    word_paced at (at + 1) p r (omega (arith, more)) (one_try _ p q r i.paced k.once.0 c.try_item-keyed.ensures.steps)

pub returns-in-None-clause-steps : goal.returns-in-None-clause-steps
returns-in-None-clause-steps c = let z = c.args.board.now.shape in let i = c.loop-count.invariant in
    let p = c.args.pass.now in let q = c.loop-count.pass in let r = c.try_item-keyed.new.pass in
    let at = position z (trace p) c.args.place in
    let k = tried_as c.args.board.now c.args.place c.loop-count.item c.args.sought.now.key c.loop-count.pass
    c.try_item-keyed.new.pass c.try_item-keyed.result.0 c.try_item-keyed.result.1 c.try_item-keyed.ensures.tries
    _ c.in-Changed.is in
    let more = word_more at (in_chain z (trace p) c.args.place c.requires.pass.lawful c.requires.place.0).0 in
    word_paced at (at + 1) p r (omega (arith, more)) (one_try _ p q r i.paced k.once.0 c.try_item-keyed.ensures.steps)

pub returns-clause-steps : goal.returns-clause-steps
returns-clause-steps c = let z = c.args.board.now.shape in let p = c.args.pass.now in let at = position z (trace p) c.args.place in
    let few = words_few at (in_chain z (trace p) c.args.place c.requires.pass.lawful c.requires.place.0).1 in
    word_paced at 32 p c.loop-count.pass (omega (arith, few)) c.loop-count.invariant.paced
