use Rattle.std.proofs.Common.{subst, arith}
use Rattle.segcore.specs.Words.{IsCell}
use Rattle.segcore.specs.declared.cell.Cell.TheVariants.{OfSegment, OfRow}
use Rattle.segcore.proofs.Addresses.{in_count}
use Rattle.segbase.specs.Spots.{cell_of}
use Rattle.segbase.proofs.layout.Layout.index.Goals as goal

pub returns-in-Segment-clause-within : goal.returns-in-Segment-clause-within
returns-in-Segment-clause-within c =
    let z = c.args.shape.now in let x = c.in-Segment in let laid = c.requires.layout in
    let in_table = in_count z (OfSegment x.segment) (subst (λ spot. IsCell z (cell_of z spot)) x.is c.requires.cell) in
    rw (laid.front, laid.width) (omega (arith, in_table))

pub returns-in-Row-clause-within : goal.returns-in-Row-clause-within
returns-in-Row-clause-within c =
    let z = c.args.shape.now in let x = c.in-Row in let laid = c.requires.layout in
    let in_table = in_count z (OfRow x.segment x.row x.word) (subst (λ spot. IsCell z (cell_of z spot)) x.is c.requires.cell) in
    rw (laid.front, laid.width) (omega (arith, in_table))
