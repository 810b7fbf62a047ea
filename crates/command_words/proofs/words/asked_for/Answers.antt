use Rattle.std.proofs.Common.{refl}
use Rattle.std.specs.Option.{option_map}
use Rattle.command_words.specs.Held.{asked_in}
use Rattle.command_words.specs.Words.{asked_of, flume_app}
use Rattle.command_words.proofs.AnswerLemmas.{free, refused_for, simple}
use Rattle.command_words.proofs.words.asked_for.Goals as goal

pub returns-in-Err : goal.returns-in-Err
returns-in-Err c =
    refused_for flume_app simple free (option_map asked_in) asked_of _ _ c.in-Err.error _
    c.refused.result refl c.in_ok-command_line.ensures c.in-Err.ensures.kinds refl
    c.refused.ensures.nothing c.refused.ensures.memory
