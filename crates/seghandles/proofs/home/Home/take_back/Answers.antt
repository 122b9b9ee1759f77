use Rattle.std.proofs.Common.{Some, slice_set, refl, ap, subst}
use Rattle.segindex.specs.Words.{board_of}
use Rattle.segstore.specs.Words.{IsQuiet}
use Rattle.seghandles.proofs.Members.{same_number}
use Rattle.seghandles.proofs.Placed.{put_place}
use Rattle.seghandles.proofs.home.Home.take_back.Goals as goal

pub invariant_of-self : goal.invariant_of-self
invariant_of-self c =
    let home = c.args.self.now in
    let guest = c.args.guest in
    let number = c.number-place.result in
    let pass = c.into_pass.result in
    record {
      places_are = put_place home.index.value home.places.items number pass home.places_are
          (subst (λ i. IsQuiet (board_of i) pass) c.requires.same c.into_pass.ensures.quiet)
          (same_number guest number pass c.number-place.ensures c.into_pass.ensures.pass);
    }

pub returns : goal.returns
returns c =
    let old = c.args.self.now in
    let left = c.into_pass.result in
    record {
      left = left;
      of = c.into_pass.ensures.pass;
      index = refl;
      places = ap (λ n. slice_set old.places.items n (Some left)) c.number-place.ensures;
    }
