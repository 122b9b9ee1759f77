-- What a call looks for along a chain.
use Rattle.std.specs.Prelude.{◌≡◌}
use Rattle.segword.specs.Words.{Shape}
use Rattle.segmodel.specs.Words.{bucket_of, tag_of}
use Rattle.segstore.specs.declared.chain.Sought.{Sought}

-- the tag is that of the key, and the bucket that in which the key's chain begins
pub record IsSought (shape : Shape) (sought : Sought) : Type 0 where
  pub bucket : sought.bucket ≡ bucket_of shape sought.key
  pub tag : sought.tag ≡ tag_of sought.key
