use Rattle.segclient.proofs.CommandLaws.{delete_is, get_is, gets_is}
use Rattle.segclient.proofs.laws.reads_and_deletes_are_commands.Goals as goal

pub returns : goal.returns
returns c = record { get = get_is; gets = gets_is; delete = delete_is }
