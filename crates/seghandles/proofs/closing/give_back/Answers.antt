use Rattle.std.proofs.Common.{Some, refl, subst}
use Rattle.seghandles.specs.declared.kept.Kept.{Kept}
use Rattle.seghandles.specs.declared.kept.Kept.TheVariants as kept
use Rattle.seghandles.specs.Sharing.{AreOfOneCache}
use Rattle.seghandles.proofs.Returned.{gave_back}
use Rattle.seghandles.proofs.closing.give_back.Goals as goal

pub welcome_back-requires : goal.welcome_back-requires
welcome_back-requires c = record { same = subst (λ (k : Kept). AreOfOneCache (Some k) c.args.client.now.value) c.in-Cache.is c.requires.same }

pub returns : goal.returns
returns c =
    gave_back c.args.kept.now (kept.Cache c.welcome_back.new.cache) c.in-Cache.cache c.welcome_back.new.cache _ _ c.welcome_back.result c.in-Cache.is refl c.welcome_back.ensures
