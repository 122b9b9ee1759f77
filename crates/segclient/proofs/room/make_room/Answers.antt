use Rattle.std.proofs.Common.{◌≡◌, ◌≢◌, ◌+◌, ◌-◌, ◌*◌, ◌<◌, eqb, not, Some, refl, sym, ap, ◌∙◌, subst, arith, rules}
use Rattle.std.specs.Option.{option_eq}
use Rattle.std.proofs.lemmas.Bool.{eq-eqb, false≢true}
use Rattle.segbase.specs.Words.{current_of, number}
use Rattle.segindex.specs.Words.{board_of}
use Rattle.segstore.specs.Words.{GoesOn}
use Rattle.segstore.proofs.Idling.{goes_same}
use Rattle.segevict.proofs.RowsOut.{goes_then}
use Rattle.segpolicy.specs.Words.{turned}
use Rattle.segtally.specs.Rings.{IsOwnRing}
use Rattle.segtally.proofs.Turns.{own_in_ring, own_turned}
use Rattle.segclient.specs.PutParts.{GivesUp}
use Rattle.segclient.proofs.Rooms.{current_own, given_afresh, gives_up, refused_apart}
use Rattle.segclient.proofs.Trying.{Tried, none_left, none_tried, skipped, refused_next, at_last}
use Rattle.segclient.proofs.room.make_room.Goals as goal
use Rattle.segclient.proofs.room.make_room.Goals.{then-ne+else-is_refilled, else-ne}

pub loop-tried-init : goal.loop-tried-init
loop-tried-init c =
    let b = board_of c.args.index.now in
    let p = c.args.pass.now in
    let some : 0 < b.shape.segments_each = c.requires.quiet.pass.valid.0.0.1.0 in
    record {
      on = goes_same b p c.requires.quiet;
      own = c.requires.own;
      current = sym c.current-current.ensures;
      over = subst (λ left. Tried b c.args.deadline c.current-current.result c.args.ring.now left 0 0 p p) (let e : b.shape.segments_each ≡ b.shape.segments_each - 0 = omega arith in e)
          (none_tried b c.args.deadline c.current-current.result c.args.ring.now p some c.requires.own);
      few = omega arith;
    }

pub returns-then-is_refilled-clause-on : goal.returns-then-is_refilled-clause-on
returns-then-is_refilled-clause-on c = goes_then (board_of c.args.index.now) c.args.pass.now c.loop-tried.pass c.give_up-is_refilled.new.pass c.loop-tried.invariant.on c.give_up-is_refilled.ensures.on

pub returns-then-is_refilled-clause-room : goal.returns-then-is_refilled-clause-room
returns-then-is_refilled-clause-room c =
    let b = board_of c.args.index.now in
    let was = c.loop-tried.invariant in
    let q = c.loop-tried.pass in
    let r = c.give_up-is_refilled.new.pass in
    let segment = c.next-segment.result in
    let more = c.give_up-is_refilled.result.1 in
    let sum = c.loop-tried.keys + c.from-keys.result in
    let range = c.next-segment.ensures.in_range in
    let mine = own_in_ring b (number q) c.loop-tried.ring segment was.own range.0 range.1 in
    let apart : c.current-current.result ≢ Some segment = search rules in
    let below : c.loop-tried.tried < b.shape.segments_each = subst (λ s. c.loop-tried.tried < s.segments_each) c.shape-tried-end.ensures c.loop-tried-test.true in
    let gives = subst (λ made. GivesUp b segment c.args.deadline made more q r) c.if-is_refilled.true c.give_up-is_refilled.ensures.gives_up in
    gives_up b c.args.deadline (2 * c.loop-tried.tried) c.loop-tried.keys c.args.pass.now q r was.over.0 segment more mine
    (2 * b.shape.segments_each + 2) sum (omega arith) (ap (λ n. c.loop-tried.keys + n) c.from-keys.ensures) gives

pub returns-then-is_refilled-clause-afresh : goal.returns-then-is_refilled-clause-afresh
returns-then-is_refilled-clause-afresh c = λ made.
    let b = board_of c.args.index.now in
    let gives = c.give_up-is_refilled in
    given_afresh b c.args.deadline c.next-segment.result gives.result.1 c.loop-tried.pass gives.new.pass
    (subst (λ made. GivesUp b c.next-segment.result c.args.deadline made gives.result.1 c.loop-tried.pass gives.new.pass) c.if-is_refilled.true gives.ensures.gives_up)

pub loop-tried-preserved : goal.loop-tried-preserved
loop-tried-preserved c =
    let b = board_of c.args.index.now in
    let p = c.args.pass.now in
    let was = c.loop-tried.invariant in
    let q = c.loop-tried.pass in
    let ring = c.loop-tried.ring in
    let tried = c.loop-tried.tried in
    let current = c.current-current.result in
    let segment = c.next-segment.result in
    let next = c.next-segment.ensures in
    let some : 0 < b.shape.segments_each = c.requires.quiet.pass.valid.0.0.1.0 in
    let left = b.shape.segments_each - (tried + 1) in
    let below : tried < b.shape.segments_each = subst (λ s. tried < s.segments_each) c.shape-tried-end.ensures c.loop-tried-test.true in
    let own = subst (λ n. IsOwnRing b.shape n ring) was.on.same was.own in
    let over : Tried b c.args.deadline current ring (left + 1) (2 * tried) c.loop-tried.keys p q =
    subst (λ n. Tried b c.args.deadline current ring n (2 * tried) c.loop-tried.keys p q)
    (let e : b.shape.segments_each - tried ≡ left + 1 = omega arith in e) was.over in
    record {
      on = elim c.if-ne.branch [
        | then-ne+else-is_refilled w ↦ subst (GoesOn b p) (sym w.pass-is) (goes_then b p q w.give_up-is_refilled.new.pass was.on w.give_up-is_refilled.ensures.on)
        | else-ne w ↦ subst (GoesOn b p) (sym w.pass-is) was.on
      ];
      own = elim c.if-ne.branch [
        | then-ne+else-is_refilled w ↦ subst (λ r. IsOwnRing b.shape (number r) c.next-segment.new.self) (sym w.pass-is)
            (subst (IsOwnRing b.shape (number w.give_up-is_refilled.new.pass)) (sym next.turned)
            (subst (λ n. IsOwnRing b.shape n (turned ring)) (sym w.give_up-is_refilled.ensures.on.same)
            (own_turned b.shape (number q) ring some was.own)))
        | else-ne w ↦ subst (λ r. IsOwnRing b.shape (number r) c.next-segment.new.self) (sym w.pass-is)
            (subst (IsOwnRing b.shape (number q)) (sym next.turned)
            (own_turned b.shape (number q) ring some was.own))
      ];
      current = elim c.if-ne.branch [
        | then-ne+else-is_refilled w ↦
            let r = w.give_up-is_refilled.new.pass in
            let apart : current ≢ Some segment = λ same. false≢true
            (sym (c.ne.ensures ∙ (ap (λ o. not (option_eq eqb o (Some segment))) same
            ∙ ap not (eq-eqb segment segment refl))) ∙ w.if-ne.true) in
            let gives = subst (λ made. GivesUp b segment c.args.deadline made w.give_up-is_refilled.result.1 q r) w.if-is_refilled.false w.give_up-is_refilled.ensures.gives_up in
            ap current_of w.pass-is ∙ refused_apart b segment c.args.deadline w.give_up-is_refilled.result.1 q r gives (λ now. absurd (apart (sym was.current ∙ now))) ∙ was.current
        | else-ne w ↦ ap current_of w.pass-is ∙ was.current
      ];
      over = elim c.if-ne.branch [
        | then-ne+else-is_refilled w ↦
            let r = w.give_up-is_refilled.new.pass in
            let more = w.give_up-is_refilled.result.1 in
            let apart : current ≢ Some segment = λ same. false≢true
            (sym (c.ne.ensures ∙ (ap (λ o. not (option_eq eqb o (Some segment))) same
            ∙ ap not (eq-eqb segment segment refl))) ∙ w.if-ne.true) in
            let gives = subst (λ made. GivesUp b segment c.args.deadline made more q r) w.if-is_refilled.false w.give_up-is_refilled.ensures.gives_up in
            let mine = own_in_ring b (number q) ring segment was.own next.in_range.0 next.in_range.1 in
            let sum = c.loop-tried.keys + w.from-keys.result in
            let to = refused_next b c.args.deadline current ring p some own left (2 * tried) c.loop-tried.keys q
            over r segment more (2 * (tried + 1)) sum next.value mine was.current apart (omega arith)
            (ap (λ n. c.loop-tried.keys + n) w.from-keys.ensures) gives in
            subst (λ k. Tried b c.args.deadline current c.next-segment.new.self left (2 * (tried + 1)) k p c.if-ne.pass) (sym w.keys-is)
            (subst (λ s. Tried b c.args.deadline current c.next-segment.new.self left (2 * (tried + 1)) sum p s) (sym w.pass-is)
            (subst (λ t. Tried b c.args.deadline current t left (2 * (tried + 1)) sum p r) (sym next.turned) to))
        | else-ne w ↦
            let here : current ≡ Some segment = search rules in
            let to = skipped b c.args.deadline current ring p some own left (2 * tried) c.loop-tried.keys q over (2 * (tried + 1)) (omega arith) (here ∙ ap Some next.value) in
            subst (λ k. Tried b c.args.deadline current c.next-segment.new.self left (2 * (tried + 1)) k p c.if-ne.pass) (sym w.keys-is)
            (subst (λ s. Tried b c.args.deadline current c.next-segment.new.self left (2 * (tried + 1)) c.loop-tried.keys p s) (sym w.pass-is)
            (subst (λ t. Tried b c.args.deadline current t left (2 * (tried + 1)) c.loop-tried.keys p q) (sym next.turned) to))
      ];
      few = elim c.if-ne.branch [
        | then-ne+else-is_refilled w ↦ let few = was.few in let fits = w.give_up-is_refilled.type_inv in let is = w.keys-is in let from = w.from-keys.ensures in omega (arith, few, fits, is, from)
        | else-ne w ↦ let few = was.few in let is = w.keys-is in omega (arith, few, is)
      ];
    }

pub give_up-is_made-requires-clause-own : goal.give_up-is_made-requires-clause-own
give_up-is_made-requires-clause-own c = current_own (board_of c.args.index.now) c.loop-tried.pass c.in-Some.last c.loop-tried.invariant.on.quiet (c.loop-tried.invariant.current ∙ c.in-Some.is)

pub returns-clause-on : goal.returns-clause-on
returns-clause-on c = goes_then (board_of c.args.index.now) c.args.pass.now c.loop-tried.pass c.give_up-is_made.new.pass c.loop-tried.invariant.on c.give_up-is_made.ensures.on

pub returns-clause-room : goal.returns-clause-room
returns-clause-room c =
    let b = board_of c.args.index.now in
    let p = c.args.pass.now in
    let was = c.loop-tried.invariant in
    let q = c.loop-tried.pass in
    let ring = c.loop-tried.ring in
    let tried = c.loop-tried.tried in
    let current = c.current-current.result in
    let some : 0 < b.shape.segments_each = c.requires.quiet.pass.valid.0.0.1.0 in
    let own = subst (λ n. IsOwnRing b.shape n ring) was.on.same was.own in
    let ends = ap (λ s. s.segments_each) c.shape-tried-end.ensures in
    let over : Tried b c.args.deadline current ring 0 (2 * tried) c.loop-tried.keys p q =
    subst (λ n. Tried b c.args.deadline current ring n (2 * tried) c.loop-tried.keys p q)
    (let e : b.shape.segments_each - tried ≡ 0 = omega (arith, ends) in e) was.over in
    at_last b c.args.deadline current ring p some own (2 * tried) c.loop-tried.keys q over c.in-Some.last
    c.in-Some.is was.current was.on c.give_up-is_made.new.pass c.give_up-is_made.result.0
    c.give_up-is_made.result.1
    (2 * b.shape.segments_each + 2) c.from.result (c.loop-tried.keys + c.from-2.result)
    (current_own b q c.in-Some.last was.on.quiet (was.current ∙ c.in-Some.is)) (omega (arith, ends))
    (ap (λ n. c.loop-tried.keys + n) c.from-2.ensures) c.from.ensures c.give_up-is_made.ensures.gives_up

pub returns-clause-afresh : goal.returns-clause-afresh
returns-clause-afresh c = λ made.
    let b = board_of c.args.index.now in
    let gives = c.give_up-is_made in
    given_afresh b c.args.deadline c.in-Some.last gives.result.1 c.loop-tried.pass gives.new.pass
    (subst (λ made. GivesUp b c.in-Some.last c.args.deadline made gives.result.1 c.loop-tried.pass gives.new.pass) made gives.ensures.gives_up)

pub returns-in_default-clause-room : goal.returns-in_default-clause-room
returns-in_default-clause-room c =
    let b = board_of c.args.index.now in
    let p = c.args.pass.now in
    let was = c.loop-tried.invariant in
    let q = c.loop-tried.pass in
    let ring = c.loop-tried.ring in
    let tried = c.loop-tried.tried in
    let current = c.current-current.result in
    let some : 0 < b.shape.segments_each = c.requires.quiet.pass.valid.0.0.1.0 in
    let own = subst (λ n. IsOwnRing b.shape n ring) was.on.same was.own in
    let ends = ap (λ s. s.segments_each) c.shape-tried-end.ensures in
    let over : Tried b c.args.deadline current ring 0 (2 * tried) c.loop-tried.keys p q =
    subst (λ n. Tried b c.args.deadline current ring n (2 * tried) c.loop-tried.keys p q)
    (let e : b.shape.segments_each - tried ≡ 0 = omega (arith, ends) in e) was.over in
    none_left b c.args.deadline current ring p some own (2 * tried) c.loop-tried.keys q over (2 * b.shape.segments_each + 2) (omega (arith, ends)) c.in_default.is was.current
