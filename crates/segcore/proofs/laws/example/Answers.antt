use Rattle.std.proofs.Common.{refl}
use Rattle.segcore.proofs.WorkedExample.Trace as it
use Rattle.segcore.proofs.WorkedExample.Scan.{scanned}
use Rattle.segcore.proofs.WorkedExample.Schedule.{reached, refusing_on}
use Rattle.segcore.proofs.laws.example.Goals as goal

pub returns : goal.returns
returns c = record {
  lawful = it.example;
  item = (refl, refl);
  chained = (refl, refl, refl);
  replaced = (refl, refl, refl);
  relinked = (refl, refl, refl);
  held = refl;
  emptied = (refl, refl, refl);
  versions = (refl, refl, refl);
  expires = (refl, refl);
  scanned = scanned;
  reached = reached;
  traced = refl;
  waited = (refl, refl);
  in_order = (refusing_on, refl);
  different = (refl, refl);
}
