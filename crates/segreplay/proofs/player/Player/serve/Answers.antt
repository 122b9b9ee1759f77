use Rattle.segreplay.proofs.player.Player.serve.Goals as goal

pub returns-in-Set-clause-serves : goal.returns-in-Set-clause-serves
returns-in-Set-clause-serves c =
    (c.set_time_to_live.new.self, (c.set_now.new.self, c.set_now.ensures.sets, c.set_time_to_live.ensures.sets), (c.in-Set.is, c.put.ensures.puts))

pub returns-in-Delete-clause-serves : goal.returns-in-Delete-clause-serves
returns-in-Delete-clause-serves c =
    (c.set_time_to_live.new.self, (c.set_now.new.self, c.set_now.ensures.sets, c.set_time_to_live.ensures.sets), (c.in-Delete.is, c.delete.ensures.deletes))
