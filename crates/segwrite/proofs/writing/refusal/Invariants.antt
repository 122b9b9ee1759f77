use Rattle.segmodel.specs.Words.{key_of}
use Rattle.segwrite.proofs.writing.refusal.Given as goal

abbrev pub ghost-present_word : goal.ghost-present_word
ghost-present_word g a = key_of g.request

abbrev pub ghost-refusal_where : goal.ghost-refusal_where
ghost-refusal_where g a = g.request
