use Rattle.segcore.proofs.Searches.{search_first, search_later, search_passed, search_skipped, search_ended, sought_word}
use Rattle.segcore.proofs.laws.search.Goals as goal

pub returns : goal.returns
returns c = record { first = search_first; later = search_later; passed = search_passed; skipped = search_skipped; ended = search_ended; word = sought_word }
