-- Beginnings of scripts, as bytes have them.
use Rattle.std.specs.Prelude.{◌≡◌, ℕ, List, ◌++◌, Ok, IsUtf8}
use Rattle.flume_tokens.specs.declared.token.Token.{Token}
use Rattle.flume_tokens.specs.Tokens.{tokens_from}
use Rattle.flume_grammar.specs.Limits.{Limits}
use Rattle.flume_grammar.specs.Fault.{IsWholeScript}

-- the bytes are UTF-8 and have just these tokens, however many they are
abbrev pub HaveTokens : List ℕ → List Token → Type 0
HaveTokens bytes ts = IsUtf8 bytes × (tokens_from 0 1 bytes ≡ Ok ts)

-- some bytes are a script within the limits, and their tokens begin with these
abbrev pub IsWrittenBeginning : Limits → List Token → Type 0
IsWrittenBeginning limits ts = (bytes : List ℕ) × (others : List Token)
    × HaveTokens bytes (ts ++ others) × IsWholeScript limits (ts ++ others)
