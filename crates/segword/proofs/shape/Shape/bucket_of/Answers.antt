use Rattle.std.proofs.Common.{ℕ, ◌-◌, ap, ◌∙◌, bit_and}
use Rattle.segword.proofs.PowerLemmas.{is_power_of_two_lem, mask-power_of_two}
use Rattle.segword.proofs.shape.Shape.bucket_of.Goals as goal

pub returns : goal.returns
returns c =
    ap (λ (n : ℕ). bit_and c.args.hash (n - 1)) c.from.ensures
    ∙ mask-power_of_two c.args.hash c.args.self.buckets ((is_power_of_two_lem c.args.self.buckets).1 c.requires.0.0.0.0.0.0)
