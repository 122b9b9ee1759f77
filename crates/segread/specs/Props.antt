-- What `IsHeldRow` says has at most one proof, so that a struct may keep it in a ghost field,
-- by { IsHeldRow-prop .. }.
use Rattle.std.specs.Prelude.{◌≡◌, ◌<◌, List, Some}
use Rattle.std.proofs.Common.{sym, ◌∙◌}
use Rattle.std.proofs.Props.{props}
use Rattle.std.proofs.lemmas.Option.{same_Some}
use mathlib.Core.HLevel.{is_prop→PathP}
use native.Mathlib.Nat.{ℕ_set}
use Rattle.segword.specs.Words.{IsKey, IsKey-prop, IsValue, IsValue-prop, pair-prop, Shape}
use Rattle.segcore.specs.Words.{Event, IsSegment}
use Rattle.segbase.specs.Words.{Held, Held-set, holding, Pass}
use Rattle.segread.specs.declared.held.HeldRow.{HeldRow}
use Rattle.segread.specs.declared.held.Hold.{Hold}
use Rattle.segread.specs.Holds.{IsHeldRow, IsHoldOf, IsRowOf}

IsRowOf-prop : (trace : List Event) (row : HeldRow) (held : Held) → IsProp (IsRowOf trace row held)
IsRowOf-prop trace row held = hlevel props

pub IsHeldRow-prop : (shape : Shape) (row : HeldRow) (p : Pass) → IsProp (IsHeldRow shape row p)
IsHeldRow-prop shape row p u v =
    let start = one (u.held, u.holds) (v.held, v.holds) in
    let table : IsProp (IsSegment shape row.segment × (row.row < shape.rows)) = hlevel props in
    let valid : (held : Held) → IsProp (IsKey held.key × IsValue held.value) =
    hlevel (IsKey-prop, IsValue-prop) in
    λ i. record {
      held = (start i).0;
      holds = (start i).1;
      segment = is_prop→PathP (λ j. row.segment ≡ (start j).0.segment)
          (λ j. ℕ_set row.segment (start j).0.segment) u.segment v.segment i;
      in_table = table u.in_table v.in_table i;
      valid = is_prop→PathP (λ j. IsKey (start j).0.key × IsValue (start j).0.value)
          (λ j. valid (start j).0) u.valid v.valid i;
      stands = is_prop→PathP (λ j. IsRowOf (start j).0.trace row (start j).0)
          (λ j. IsRowOf-prop _ row (start j).0) u.stands v.stands i;
    }
  where
    one : IsProp ((held : Held) × (holding p ≡ Some held))
    one = pair-prop (λ held. hlevel (props, Held-set)) (λ x y at on. same_Some x y (sym at ∙ on))

pub IsHoldOf-prop : (shape : Shape) (hold : Hold) (p : Pass) → IsProp (IsHoldOf shape hold p)
IsHoldOf-prop shape hold p = IsHeldRow-prop shape hold.row p
