-- What a pass keeps in mind stays true as it sees more.
use Rattle.std.proofs.Common.{◌≡◌, ℕ, List, None, sym, ◌∙◌}
use Rattle.std.proofs.lemmas.Option.{none-some}
use Rattle.segword.specs.Words.{Shape}
use Rattle.segmodel.specs.Words.{Begins}
use Rattle.segcore.specs.Words.{Event}
use Rattle.segbase.specs.Words.{Memo}
use Rattle.segbase.specs.Minding.{Minds}
use Rattle.segbase.proofs.Begun.{begins_then}

pub minded_on : (z : Shape) (h g : List Event) (p : ℕ) (m : Memo) → Begins h g → Minds z h p m → Minds z g p m
minded_on z h g p m on is = record {
  holding = λ held e. let a = is.holding held e in record { past = begins_then held.trace h g a.past on; stood = a.stood };
  locked = λ locked e. let a = is.locked locked e in record { past = begins_then locked.trace h g a.past on; bit = a.bit };
}

pub nothing_minded : (z : Shape) (h : List Event) (p : ℕ) (m : Memo) → m.holding ≡ None → m.locked ≡ None → Minds z h p m
nothing_minded z h p m none free = record {
  holding = λ held e. absurd (none-some held (sym none ∙ e));
  locked = λ locked e. absurd (none-some locked (sym free ∙ e));
}
