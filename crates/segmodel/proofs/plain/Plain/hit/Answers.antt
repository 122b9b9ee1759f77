use Rattle.std.proofs.Common.{rules, Some}
use Rattle.segmodel.specs.Plain.{state_of}
use Rattle.segmodel.proofs.Hits.{IsKept-hit}
use Rattle.segmodel.proofs.Sound.{IsKept-same}
use Rattle.segmodel.proofs.plain.Plain.hit.Goals as goal

pub invariant_of-self : goal.invariant_of-self
invariant_of-self c = record {
  has_buckets = search rules;
  each_version = search rules;
  each_width = search rules;
  each_segment = search rules;
  each_row = c.raise_in.ensures.room c.args.self.now.shape.rows c.args.self.now.each_row;
  kept = IsKept-same (λ i. record (state_of c.args.self.now) {
    cache = record (state_of c.args.self.now).cache { deadline = c.raise_in.ensures.deadlines i };
    filling = c.raise_in.ensures.raised i;
  })
      (IsKept-hit c.args.self.now.shape c.args.key.now (Some c.in_ok-item.item.now) (state_of c.args.self.now) c.args.self.now.kept);
}
