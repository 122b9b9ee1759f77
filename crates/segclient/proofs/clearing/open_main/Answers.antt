use Rattle.std.proofs.Common.{refl, sym, ◌∙◌, arith}
use Rattle.segindex.specs.Words.{board_of}
use Rattle.segclient.specs.Clearing.{refills_aside}
use Rattle.segclient.specs.PutParts.{effort_from}
use Rattle.segclient.proofs.OneTurn.{aside_refilled, clears_as, none_clears, opened_stays, some_clears}
use Rattle.segclient.proofs.clearing.open_main.Goals as goal

pub returns-in_default-clause-clears : goal.returns-in_default-clause-clears
returns-in_default-clause-clears c = λ cutoff. let b = board_of c.args.index.now in let p = c.args.pass.now in
    clears_as b cutoff 0 1 (effort_from 0 0 0) c.none.result p p (omega arith) c.none.ensures
    (none_clears b cutoff p)

pub returns-then-segment-source-clause-clears : goal.returns-then-segment-source-clause-clears
returns-then-segment-source-clause-clears c = λ cutoff. let b = board_of c.args.index.now in let p =
    c.args.pass.now in
    clears_as b cutoff 0 1 (effort_from 0 0 0) c.none.result p p (omega arith) c.none.ensures
    (none_clears b cutoff p)

pub returns-clause-cleared : goal.returns-clause-cleared
returns-clause-cleared c =
    opened_stays (board_of c.args.index.now) c.args.source c.args.pass.now c.refill_aside.new.pass c.requires.quiet c.requires.clearing c.in-Some.segment c.args.until c.refill_aside.result
    (λ same. c.if-segment-source.false (sym same)) c.refill_aside.ensures.refills

pub returns-clause-clears : goal.returns-clause-clears
returns-clause-clears c = λ cutoff.
    let segment = c.in-Some.segment in
    let told = c.refill_aside in
    some_clears (board_of c.args.index.now) cutoff (refills_aside segment told.result)
    (effort_from c.refilled_by-refilled.result 0 0) c.args.pass.now told.new.pass
    (c.refilled_by-refilled.ensures.value ∙ aside_refilled segment told.result) refl refl (
      c.in-Some.ensures.own.0,
      (
        c.args.source.segment,
        c.args.until,
        (c.requires.clearing.0.0, c.requires.clearing.1),
        c.requires.until,
        told.ensures.refills,
      ),
    )
