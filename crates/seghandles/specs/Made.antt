-- A write of a client, by its condition.
use Rattle.std.specs.Prelude.{◌≡◌, ℕ, List}
use Rattle.segmodel.specs.Words.{WriteAnswer}
use Rattle.segbase.specs.Words.{Board}
use Rattle.segwrite.specs.declared.condition.Condition.TheVariants.{Always}
use Rattle.segwrite.specs.Words.{Condition, IsSetAnswer, request_of}
use Rattle.segclient.specs.declared.member.Member.{Member}
use Rattle.segclient.specs.Made.{MakesWrite}

-- a set, an add, a replace or a cas had this answer
pub record WritesWhen (when : Condition) (key value : List ℕ) (returned : WriteAnswer) (b : Board)
    (old new : Member) : Type 0 where
  pub writes : MakesWrite (request_of when key value) returned b old new
  pub set : when ≡ Always → IsSetAnswer returned
