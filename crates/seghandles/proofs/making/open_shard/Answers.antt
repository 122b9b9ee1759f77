use Rattle.std.proofs.Common.{sym, ◌∙◌, subst}
use Rattle.std.specs.List.{AllZip}
use Rattle.segindex.specs.Words.{Index}
use Rattle.segclient.proofs.Places.{zip_long}
use Rattle.seghandles.specs.Home.{IsNewHome}
use Rattle.seghandles.specs.Making.{IsNewGuest}
use Rattle.seghandles.proofs.Members.{new_bare}
use Rattle.seghandles.proofs.making.open_shard.Goals as goal

pub guests-requires-clause-bare : goal.guests-requires-clause-bare
guests-requires-clause-bare c = new_bare _ _ c.in_ok-index.passes.items c.in_ok-index.ensures.made

pub deal-requires : goal.deal-requires
deal-requires c =
    let index = c.in_ok-index.index in
    let passes = c.in_ok-index.passes.items in
    let guests = c.in-Ok-guests.guests.items in
    let of = subst (λ (i : Index). AllZip (IsNewGuest i) passes guests) c.in-Ok.ensures.ok c.in-Ok-guests.ensures in
    record { long = c.requires.rows ∙ sym (zip_long (IsNewGuest index) passes guests of ∙ c.in_ok-index.ensures.made.made.dealt.long) }

pub returns-clause-opened : goal.returns-clause-opened
returns-clause-opened c =
    let index = c.in_ok-index.index in
    let passes = c.in_ok-index.passes.items in
    let guests = c.in-Ok-guests.guests.items in
    let home = c.in-Ok-new.home in
    record {
      shard = record { index = index; passes = passes };
      is_new = c.in_ok-index.ensures.made;
      home_of = subst (λ (i : Index). IsNewHome i home) c.in-Ok.ensures.ok c.in-Ok-new.ensures;
      guests = guests;
      of = subst (λ (i : Index). AllZip (IsNewGuest i) passes guests) c.in-Ok.ensures.ok c.in-Ok-guests.ensures;
      deals = c.in-Ok-deal.ensures;
    }
