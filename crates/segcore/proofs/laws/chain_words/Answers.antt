use Rattle.segcore.proofs.ChainWords.{other_tag, other_place, leads_on, ends_there, chain_grows, place_stays}
use Rattle.segcore.proofs.laws.chain_words.Goals as goal

pub returns : goal.returns
returns c = record { tag = other_tag; row = other_place; leads_on = leads_on; ends = ends_there; grows = chain_grows; stays = place_stays }
