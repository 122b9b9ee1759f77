-- A client's reads and deletes, as commands of its pass.
use Rattle.segclient.specs.CommandLaws.{DeleteIsACommand, GetIsACommand, GetsIsACommand}

pub get_is : GetIsACommand
get_is key told b old new made = (record { answers = made.reads; counts = made.counts }, made.draws, made.keeps)

pub gets_is : GetsIsACommand
gets_is key told b old new made = (record { answers = made.reads; counts = made.counts }, made.draws, made.keeps)

pub delete_is : DeleteIsACommand
delete_is key told b old new made = (record { answers = made.deletes; counts = made.counts }, made.draws, made.settings, made.unqueued)
