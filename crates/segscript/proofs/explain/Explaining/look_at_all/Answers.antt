use Rattle.std.proofs.Common.{List, ℕ, ◌∷◌, [], get_or, take, drop, refl, sym, subst, ◌∙◌}
use Rattle.std.proofs.lemmas.List.{take-append-drop, take_all, take_more}
use Rattle.segscript.specs.Explaining.{look_at, LooksAt, looks_more, looks_none}
use Rattle.segscript.proofs.Looking.{looks_past}
use Rattle.segscript.proofs.explain.Explaining.look_at_all.Goals as goal

pub loop-byte-init : goal.loop-byte-init
loop-byte-init g c =
    let old = c.args.self.now in
    record { inner = refl; looks = looks_none (look_at old.passes old.line old.number old.bad) }

pub returns-then-is_some-clause-looks : goal.returns-then-is_some-clause-looks
returns-then-is_some-clause-looks g c =
    let old = c.args.self.now in
    let here = c.loop-byte.self in
    let bytes = c.args.bytes.now in
    let i = c.loop-byte.byte-index in
    let from = look_at old.passes old.line old.number old.bad in
    let to = look_at here.passes here.line here.number here.bad in
    subst (λ (bs : List ℕ). LooksAt from bs to) (take-append-drop i bytes)
    (looks_more from to to (take i bytes) (drop i bytes) c.loop-byte.invariant.looks (looks_past to (drop i bytes) (sym c.if-is_some.ensures)))

pub loop-byte-preserved : goal.loop-byte-preserved
loop-byte-preserved g c =
    let old = c.args.self.now in
    let here = c.loop-byte.self in
    let new = c.look.new.self in
    let bytes = c.args.bytes.now in
    let i = c.loop-byte.byte-index in
    let from = look_at old.passes old.line old.number old.bad in
    let at = look_at here.passes here.line here.number here.bad in
    let to = look_at new.passes new.line new.number new.bad in
    record {
      inner = c.look.ensures.inner ∙ c.loop-byte.invariant.inner;
      looks = subst (λ (bs : List ℕ). LooksAt from bs to) (sym (take_more bytes i 0 c.loop-byte-test.true))
          (looks_more from at to (take i bytes) (get_or bytes i 0 ∷ []) c.loop-byte.invariant.looks c.look.ensures.looks);
    }

pub returns-clause-looks : goal.returns-clause-looks
returns-clause-looks g c =
    let old = c.args.self.now in
    let here = c.loop-byte.self in
    subst (λ (bs : List ℕ). LooksAt (look_at old.passes old.line old.number old.bad) bs (look_at here.passes here.line here.number here.bad))
    (take_all c.loop-byte.byte-index c.args.bytes.now c.loop-byte-test.false) c.loop-byte.invariant.looks
