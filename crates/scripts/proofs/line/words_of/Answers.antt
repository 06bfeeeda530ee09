use Rattle.scripts.proofs.Splits.{words_from_collect}
use Rattle.scripts.proofs.line.words_of.Goals as goal

pub returns : goal.returns
returns c = words_from_collect c.args.text.now _ c.collect.result c.utf8.text c.split_whitespace.ensures.rest c.collect.ensures.ran
