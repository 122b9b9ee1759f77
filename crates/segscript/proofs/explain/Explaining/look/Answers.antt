use Rattle.std.proofs.Common.{inl, inr, refl}
use Rattle.segscript.proofs.Looking.{byte_looks, end_looks}
use Rattle.segscript.proofs.explain.Explaining.look.Goals as goal

pub returns-in-Kept-clause-looks : goal.returns-in-Kept-clause-looks
returns-in-Kept-clause-looks g c =
    let kept = c.in-Kept.ensures in
    byte_looks _ _ _ _ _ _ _ _ c.args.byte kept.0 c.requires.none refl refl refl (inl (kept.1, kept.2))

pub returns-in-NoRoom-clause-looks : goal.returns-in-NoRoom-clause-looks
returns-in-NoRoom-clause-looks g c =
    let full = c.in-NoRoom.ensures in
    byte_looks _ _ _ _ _ _ _ _ c.args.byte full.0 c.requires.none refl refl refl (inr (full.1, full.2))

pub returns-clause-looks : goal.returns-clause-looks
returns-clause-looks g c =
    end_looks _ _ _ _ _ _ c.fault_of_line-self.result c.args.byte c.in-End.ensures.0 c.requires.none c.clear.ensures refl
    (rw c.in-End.ensures.1 at c.fault_of_line-self.ensures)
