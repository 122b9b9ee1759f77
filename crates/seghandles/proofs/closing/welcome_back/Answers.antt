use Rattle.seghandles.proofs.Returned.{nobody_back}
use Rattle.seghandles.proofs.closing.welcome_back.Goals as goal

pub returns-in_default : goal.returns-in_default
returns-in_default c = nobody_back c.args.client.now.value c.take.new.self.value c.args.cache.now c.in_default.ensures.taken c.take.ensures.none
