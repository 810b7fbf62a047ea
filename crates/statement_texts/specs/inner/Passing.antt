-- Texts of statements, as they come together in one pass.
use Rattle.std.specs.Prelude.{ℕ, List, [], ◌∷◌, ◌++◌, map}
use Rattle.flume_tokens.specs.declared.token.Token.{Token}
use Rattle.statement_texts.specs.Texts.{StatementParts, spaced_tokens, joined_behind, kinds_of, parts_from}

-- a text that goes on with the first of these parts, and those of the others
abbrev pub finished : List ℕ → StatementParts → List (List ℕ)
finished text parts = (text ++ joined_behind parts.0) ∷ map spaced_tokens parts.1

-- what stands before the first statement, and the texts of all
abbrev pub all_texts : List Token → List (List ℕ)
all_texts tokens = finished [] (parts_from 0 (kinds_of tokens))
