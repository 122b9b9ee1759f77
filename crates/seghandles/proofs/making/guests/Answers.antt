use Rattle.std.proofs.Common.{rules, ◌≡◌, [], ◌∷◌, ◌++◌, List, None, Some, sym, ap, ◌∙◌, subst, append_assoc, arith}
use Rattle.std.specs.List.{AllZip}
use Rattle.std.specs.Vec.Iter.{into_iter_items}
use Rattle.std.proofs.lemmas.List.{append-nil, nil_from_length}
use Rattle.std.proofs.lemmas.List.Elements.{All-head, All-same, All-rest}
use Rattle.segbase.specs.Words.{holding, Pass}
use Rattle.segindex.specs.Words.{board_of, Index, shape_of}
use Rattle.segstore.specs.Words.{IsQuiet}
use Rattle.segclient.specs.declared.member.Member.{Member}
use Rattle.segclient.specs.Member.{Begins, IsMember}
use Rattle.segclient.proofs.Places.{zip_push}
use Rattle.seghandles.specs.declared.guest.Guest.{Guest}
use Rattle.seghandles.specs.Making.{IsNewGuest}
use Rattle.seghandles.proofs.making.guests.Goals as goal

pub loop-pass-init : goal.loop-pass-init
loop-pass-init c =
    let index = c.args.index.now.value in
    let gives = c.into_iter-pass-iterator.ensures.into_iter_gives in
    record {
      can = tt;
      finite = tt;
      room = search rules;
      quiet = All-same (IsQuiet (board_of index)) _ _ gives.0 c.requires.quiet;
      bare = All-same (λ (p : Pass). holding p ≡ None) _ _ gives.0 c.requires.bare;
      all = sym gives.0;
      made = search rules;
    }

pub new-guest-requires : goal.new-guest-requires
new-guest-requires c =
    let free = All-head (λ (p : Pass). holding p ≡ None) c.in-Some.pass _ (All-same (λ (p : Pass). holding p ≡ None) _ _ (sym c.in-Some.ensures.steps.0) c.loop-pass.invariant.bare) in
    record {
      member = subst (λ (i : Index). IsMember i c.in_ok-member.member) (c.deref.ensures ∙ sym c.in_ok-try_clone.ensures) c.in_ok-member.ensures.member;
      row = ap holding c.in_ok-member.ensures.begins.pass ∙ free;
    }

pub loop-pass-preserved : goal.loop-pass-preserved
loop-pass-preserved c =
    let index = c.args.index.now.value in
    let was = c.loop-pass.invariant in
    let steps = c.in-Some.ensures.steps in
    let pushed = c.push_reserved.ensures in
    let pass = c.in-Some.pass in
    let yielded = c.loop-pass.yielded in
    let before = c.loop-pass.guests.items in
    let rest = into_iter_items c.next.new.self in
    let room = was.room in
    let guest : IsNewGuest index pass c.new-guest.result = record {
      index = c.new-guest.ensures.index ∙ c.in_ok-try_clone.ensures;
      member = subst (λ (m : Member). Begins (shape_of index) (Some 0) pass m) (sym c.new-guest.ensures.member)
          (subst (λ (i : Index). Begins (shape_of i) (Some 0) pass c.in_ok-member.member) c.deref.ensures
          c.in_ok-member.ensures.begins);
      held = c.new-guest.ensures.held;
    } in
    record {
      can = tt;
      finite = tt;
      room = omega (arith, steps.1, pushed.len, pushed.capacity, room);
      quiet = All-rest (IsQuiet (board_of index)) pass _ _ steps.0 was.quiet;
      bare = All-rest (λ (p : Pass). holding p ≡ None) pass _ _ steps.0 was.bare;
      all = was.all ∙ ap (λ l. yielded ++ l) steps.0 ∙ sym (append_assoc yielded (pass ∷ []) rest);
      made = subst (λ (l : List Guest). AllZip (IsNewGuest index) (yielded ++ pass ∷ []) l)
          (sym {A = List Guest} pushed.items) (zip_push (IsNewGuest index) yielded before pass c.new-guest.result
          was.made guest);
    }

pub returns : goal.returns
returns c =
    let was = c.loop-pass.invariant in
    let rest = c.loop-pass.pass-iterator.rest in
    let none = nil_from_length rest.items (sym rest.ok.0 ∙ c.in-None.ensures.steps.0) in
    let all = was.all ∙ ap (λ l. c.loop-pass.yielded ++ l) none ∙ append-nil c.loop-pass.yielded in
    subst (λ (l : List Pass). AllZip (IsNewGuest c.args.index.now.value) l c.loop-pass.guests.items) (sym all) was.made
