use Rattle.word_laws.proofs.CachedLemmas.{cached_before, cached_behind}
use Rattle.word_laws.proofs.laws.cached_law.Goals as goal

pub returns : goal.returns
returns c = record {
  before = cached_before c.args.script.now c.requires;
  behind = cached_behind c.args.script.now c.requires;
}
