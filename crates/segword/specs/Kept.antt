-- How keys are kept: their bytes, and the hash.
use Rattle.std.specs.Prelude.{◌≡◌, ℕ, List}
use Rattle.segword.specs.Bytes.{IsKey}
use Rattle.segword.specs.Fnv.{hash_of}

-- the bytes are a key, and the hash is the key's
pub record AreKeyParts (bytes : List ℕ) (hash : ℕ) : Type 0 where
  pub is_key : IsKey bytes
  pub same_hash : hash_of bytes ≡ hash
