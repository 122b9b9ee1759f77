-- Traces that begin others.
use Rattle.std.proofs.Common.{List, ◌++◌, sym, ap, ◌∙◌, append_assoc}
use Rattle.segcore.specs.Words.{Event}
use Rattle.segmodel.specs.Words.{Begins}

pub begins_on : (more h g : List Event) → Begins h g → Begins h (more ++ g)
begins_on more h g b = (more ++ b.0, ap (λ x. more ++ x) b.1 ∙ sym (append_assoc more b.0 h))

pub begins_then : (f g h : List Event) → Begins f g → Begins g h → Begins f h
begins_then f g h a b = (b.0 ++ a.0, b.1 ∙ (ap (λ x. b.0 ++ x) a.1 ∙ sym (append_assoc b.0 a.0 f)))
