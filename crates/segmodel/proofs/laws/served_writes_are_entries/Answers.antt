use Rattle.segmodel.proofs.Written.{store_is_an_entry, delete_is_an_entry}
use Rattle.segmodel.proofs.laws.served_writes_are_entries.Goals as goal

pub returns-clause-store : goal.returns-clause-store
returns-clause-store c = store_is_an_entry

pub returns-clause-delete : goal.returns-clause-delete
returns-clause-delete c = delete_is_an_entry
