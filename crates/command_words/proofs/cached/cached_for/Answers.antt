use Rattle.std.proofs.Common.{refl}
use Rattle.std.specs.Option.{option_map}
use Rattle.command_words.specs.Cached.{cached_app, cached_of}
use Rattle.command_words.specs.Held.{cached_in}
use Rattle.command_words.proofs.AnswerLemmas.{cached_free, cached_simple, refused_for}
use Rattle.command_words.proofs.cached.cached_for.Goals as goal

pub returns-in-Err : goal.returns-in-Err
returns-in-Err c =
    refused_for cached_app cached_simple cached_free (option_map cached_in) cached_of _ _
    c.in-Err.error _ c.refused.result refl c.in_ok-cached_line.ensures c.in-Err.ensures.kinds
    refl c.refused.ensures.nothing c.refused.ensures.memory
