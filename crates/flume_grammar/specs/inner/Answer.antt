-- What the parser of bytes computes.
use Rattle.std.specs.Prelude.{ℕ, List, [], ◌∷◌, Some, None, Result, Ok, Err}
use Rattle.flume_tokens.specs.declared.fault.TokenFault.{TokenFault}
use Rattle.flume_tokens.specs.declared.token.TokenList.{TokenList}
use Rattle.flume_tokens.specs.Tokens.{tokens_of}
use Rattle.flume_grammar.specs.declared.fault.ScriptKind.TheVariants.{Syntax}
use Rattle.flume_grammar.specs.declared.fault.ScriptFault.{ScriptFault}
use Rattle.flume_grammar.specs.declared.fault.ScriptFault.TheVariants.{Refused, Memory}
use Rattle.flume_grammar.specs.declared.fault.Stop.{Stop}
use Rattle.flume_grammar.specs.declared.fault.Stop.TheVariants as stop
use Rattle.flume_grammar.specs.declared.tree.Statement.{Statement}
use Rattle.flume_grammar.specs.declared.tree.Ast.{Ast}
use Rattle.flume_grammar.specs.Limits.{the_limits}
use Rattle.flume_grammar.specs.Answer.{token_fault}
use Rattle.flume_grammar.specs.inner.Out.{Out}
use Rattle.flume_grammar.specs.inner.Statements.{script_at}

-- where the parser stopped: at a token, or at the end, which is on the last line
abbrev pub stopped : ℕ → Stop → ScriptFault
stopped last_line (stop.Fault (Some line) kind) = Refused line kind
stopped last_line (stop.Fault None kind) = Refused last_line kind
stopped last_line stop.Memory = Memory

abbrev pub tree_of : ℕ → Out (List Statement) → Result Ast ScriptFault
tree_of last_line (Ok (ss, [])) = Ok (record { statements = ss })
tree_of last_line (Ok (ss, t ∷ ts)) = Err (Refused t.line Syntax)
tree_of last_line (Err s) = Err (stopped last_line s)

abbrev pub parse_tokens : Result TokenList TokenFault → Result Ast ScriptFault
parse_tokens (Ok list) = tree_of list.last_line (script_at the_limits list.items)
parse_tokens (Err fault) = Err (token_fault fault)

-- the tree of a script, or its first fault
abbrev pub parse_of : List ℕ → Result Ast ScriptFault
parse_of bytes = parse_tokens (tokens_of bytes)
