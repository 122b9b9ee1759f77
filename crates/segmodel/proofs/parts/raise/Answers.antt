use Rattle.std.proofs.Common.{◌≡◌, ℕ, suc, ◌+◌, ◌-◌, true, false, List, drop, get_or, take, length, sym, ap, ◌∙◌, arith, length-drop}
use Rattle.std.specs.BTreeMap.{is_at}
use Rattle.std.proofs.lemmas.List.{take_all}
use Rattle.segmodel.specs.Cache.{key_cmp}
use Rattle.segmodel.specs.State.{is_among}
use Rattle.segmodel.proofs.Raising.{among_later, among_over, none_past, raised_here, raised_none}
use Rattle.segmodel.proofs.parts.raise.Goals.{else-is_same-via-then-is_same+else-not-is_among, else-is_same-via-else-is_same}
use Rattle.segmodel.proofs.parts.raise.Goals as goal

rest_is : (keys : List (List ℕ)) (row : ℕ) → take (length keys - (row + 1)) (drop (row + 1) keys) ≡ drop (row + 1) keys
rest_is keys row = take_all _ _ (omega (arith, length-drop {A = List ℕ}))

pub returns-then-not-is_among : goal.returns-then-not-is_among
returns-then-not-is_among c =
    let is : is_at (key_cmp c.args.key.now) (get_or c.args.keys.now c.loop-row.row c.index-keys-row.result) ≡ true =
    ap (is_at (key_cmp c.args.key.now)) (sym c.index-keys-row.is) ∙ (sym c.is_same.ensures ∙ c.if-is_same.true) in
    let last : is_among (drop (c.loop-row.row + 1) c.args.keys.now) c.args.key.now ≡ false =
    ap (λ keys. is_among keys c.args.key.now) (sym (rest_is c.args.keys.now c.loop-row.row)) ∙ (sym c.is_among.ensures ∙ c.if-not-is_among.true) in
    let next : suc c.loop-row.row ≡ c.loop-row.row + 1 = omega arith in
    rw (c.higher.ensures, c.loop-row.invariant.same) (sym (raised_here c.args.key.now c.args.keys.now c.args.frequencies.now c.loop-row.row c.index-keys-row.result
    c.loop-row-test.true c.requires is (ap (λ n. is_among (drop n c.args.keys.now) c.args.key.now) next ∙ last)))

pub loop-row-preserved : goal.loop-row-preserved
loop-row-preserved c = elim c.else-is_same.branch [
  | else-is_same-via-then-is_same+else-not-is_among w ↦
      let later : is_among (drop (c.loop-row.row + 1) c.args.keys.now) c.args.key.now ≡ true =
      ap (λ keys. is_among keys c.args.key.now) (sym (rest_is c.args.keys.now c.loop-row.row)) ∙ (sym w.is_among.ensures ∙ w.if-not-is_among.false) in
      record {
        same = c.loop-row.invariant.same;
        rest = among_later c.args.key.now c.args.keys.now c.loop-row.row c.index-keys-row.result c.loop-row-test.true later ∙ c.loop-row.invariant.rest;
      }
  | else-is_same-via-else-is_same w ↦
      let other : is_at (key_cmp c.args.key.now) (get_or c.args.keys.now c.loop-row.row c.index-keys-row.result) ≡ false =
      ap (is_at (key_cmp c.args.key.now)) (sym c.index-keys-row.is) ∙ (sym c.is_same.ensures ∙ w.if-is_same.false) in
      record {
        same = c.loop-row.invariant.same;
        rest = among_over c.args.key.now c.args.keys.now c.loop-row.row c.index-keys-row.result c.loop-row-test.true other ∙ c.loop-row.invariant.rest;
      }
]

pub returns : goal.returns
returns c = c.loop-row.invariant.same ∙ sym (raised_none c.args.key.now c.args.keys.now c.args.frequencies.now
    (sym c.loop-row.invariant.rest ∙ none_past c.args.key.now c.args.keys.now c.loop-row.row c.loop-row-test.false))
