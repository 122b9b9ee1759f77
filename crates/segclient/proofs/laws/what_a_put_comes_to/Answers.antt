use Rattle.segclient.proofs.PutLaws.{counts, lasts, on, refused}
use Rattle.segclient.proofs.laws.what_a_put_comes_to.Goals as goal

pub returns : goal.returns
returns c = record { on = on; counts = counts; lasts = lasts; refused = refused }
