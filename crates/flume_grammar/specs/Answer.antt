-- What parse answers: which scripts are accepted, and where and why one is refused.
use Rattle.std.specs.Prelude.{◌≡◌, ℕ, List, Result, Ok, Err}
use Rattle.flume_tokens.specs.declared.fault.Refusal.{Refusal}
use Rattle.flume_tokens.specs.declared.fault.Refusal.TheVariants as refusal
use Rattle.flume_tokens.specs.declared.fault.TokenFault.{TokenFault}
use Rattle.flume_tokens.specs.declared.fault.TokenFault.TheVariants as tokens
use Rattle.flume_tokens.specs.declared.token.TokenList.{TokenList}
use Rattle.flume_tokens.specs.Tokens.{tokens_of}
use Rattle.flume_grammar.specs.declared.fault.ScriptKind.{ScriptKind}
use Rattle.flume_grammar.specs.declared.fault.ScriptKind.TheVariants.{TooLong, Utf8, Token as BadToken}
use Rattle.flume_grammar.specs.declared.fault.ScriptFault.{ScriptFault}
use Rattle.flume_grammar.specs.declared.fault.ScriptFault.TheVariants.{Refused, Memory}
use Rattle.flume_grammar.specs.declared.tree.Ast.{Ast}
use Rattle.flume_grammar.specs.Limits.{the_limits}
use Rattle.flume_grammar.specs.Grammar.{IsScript}
use Rattle.flume_grammar.specs.Fault.{IsFault}

-- a script is accepted with a tree where its tokens spell that
abbrev pub Accepts : List ℕ → Ast → Type 0
Accepts bytes ast =
    (list : TokenList) × (tokens_of bytes ≡ Ok list) × IsScript the_limits list.items ast.statements

-- what the tokens refuse, as a refusal of the script
abbrev pub kind_of : Refusal → ScriptKind
kind_of refusal.TooLong = TooLong
kind_of refusal.Utf8 = Utf8
kind_of refusal.Token = BadToken

abbrev pub token_fault : TokenFault → ScriptFault
token_fault (tokens.Refused line kind) = Refused line (kind_of kind)
token_fault tokens.Memory = Memory

-- this fault is that of the tokens, or the one that there are none for
abbrev pub IsFaultOf : Result TokenList TokenFault → ℕ → ScriptKind → Type 0
IsFaultOf (Ok list) line kind = IsFault the_limits list line kind
IsFaultOf (Err fault) line kind = token_fault fault ≡ Refused line kind

-- a script is refused with its first fault
abbrev pub Refuses : List ℕ → ℕ → ScriptKind → Type 0
Refuses bytes line kind = IsFaultOf (tokens_of bytes) line kind

-- this tree, unless memory ran out
abbrev pub IsParsed : Result Ast ScriptFault → Ast → Type 0
IsParsed (Ok r) ast = r ≡ ast
IsParsed (Err Memory) ast = Unit {0}
IsParsed (Err (Refused line kind)) ast = ⊥

-- a refusal is one of the bytes
abbrev pub IsRefusalOf : List ℕ → ScriptFault → Type 0
IsRefusalOf bytes (Refused line kind) = Refuses bytes line kind
IsRefusalOf bytes Memory = Unit {0}

-- this refusal, unless memory ran out
abbrev pub IsRefusedAs : Result Ast ScriptFault → ℕ → ScriptKind → Type 0
IsRefusedAs (Ok ast) line kind = ⊥
IsRefusedAs (Err Memory) line kind = Unit {0}
IsRefusedAs (Err (Refused l k)) line kind = (l ≡ line) × (k ≡ kind)
