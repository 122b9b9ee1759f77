use Rattle.segmodel.specs.declared.request.Request.TheVariants.{Cas}
use Rattle.segbase.specs.Words.{seen}
use Rattle.segcore.proofs.Moments.{begins_on}
use Rattle.segwrite.proofs.Told.{write_told, cas_told}
use Rattle.segindex.proofs.laws.cas_fails_where_written.Goals as goal

pub returns : goal.returns
returns c = record {
  entered_later = λ b reader found p q key read value version before now told said old few got w is.
      let was = write_told b (Cas key value version now) told said p q w is in
      (was, cas_told b key read value version now told said p q few w is before got.0 got.2);
  called_later = λ b reader found p q key read value version before now told said old few got w is.
      let was = write_told b (Cas key value version now) told said p q w is in (
        was,
        λ later. cas_told b key read value version now told said p q few w is before got.0 got.2
            (begins_on got.0 (seen p) was.1.0 (begins_on got.0 (seen found) (seen p) got.1.1 later) was.1.1.since),
      );
}
