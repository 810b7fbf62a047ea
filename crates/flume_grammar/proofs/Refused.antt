-- What parse refuses, it refuses with the first fault.
use Rattle.std.proofs.Common.{◌≡◌, ◌≢◌, ℕ, List, Result, Ok, Err, sym, ap, ◌∙◌}
use Rattle.std.specs.Prelude.{IfOk, IfErr}
use Rattle.flume_tokens.specs.declared.fault.TokenFault.{TokenFault}
use Rattle.flume_tokens.specs.declared.token.TokenList.{TokenList}
use Rattle.flume_tokens.specs.Tokens.{tokens_of}
use Rattle.flume_grammar.specs.declared.fault.ScriptKind.{ScriptKind}
use Rattle.flume_grammar.specs.declared.fault.ScriptFault.{ScriptFault}
use Rattle.flume_grammar.specs.declared.fault.ScriptFault.TheVariants.{Refused, Memory}
use Rattle.flume_grammar.specs.declared.tree.Ast.{Ast}
use Rattle.flume_grammar.specs.Limits.{the_limits}
use Rattle.flume_grammar.specs.inner.Answer.{parse_tokens, parse_of}
use Rattle.flume_grammar.specs.Answer.{IsFaultOf, Refuses, IsRefusalOf, IsRefusedAs}
use Rattle.flume_grammar.proofs.Fair.{fair}
use Rattle.flume_grammar.proofs.FirstFault.{fault_of, parser_of}

is_fault : (r : Result TokenList TokenFault) (n : ℕ) (k : ScriptKind)
    → parse_tokens r ≡ Err (Refused n k) → IsFaultOf r n k
is_fault (Ok list) n k q = fault_of the_limits fair list n k q
is_fault (Err f) n k q = cc

is_parsed : (r : Result TokenList TokenFault) (n : ℕ) (k : ScriptKind) → IsFaultOf r n k
    → parse_tokens r ≡ Err (Refused n k)
is_parsed (Ok list) n k q = parser_of the_limits fair list n k q
is_parsed (Err f) n k q = ap Err q

pub refused : (bytes : List ℕ) (r : Result Ast ScriptFault)
    → IfErr r (λ e. e ≢ Memory → parse_of bytes ≡ Err e) → IfErr r (λ e. IsRefusalOf bytes e)
refused bytes (Ok ast) f = tt
refused bytes (Err Memory) f = tt
refused bytes (Err (Refused n k)) f = is_fault (tokens_of bytes) n k (f (λ e. cc))

pub only_refused : (bytes : List ℕ) (r : Result Ast ScriptFault)
    → IfOk r (λ ast. parse_of bytes ≡ Ok ast) → IfErr r (λ e. e ≢ Memory → parse_of bytes ≡ Err e)
    → (line : ℕ) (kind : ScriptKind) → Refuses bytes line kind → IsRefusedAs r line kind
only_refused bytes (Ok ast) q f line kind h = let a = sym q
    ∙ is_parsed (tokens_of bytes) line kind h in cc
only_refused bytes (Err Memory) q f line kind h = tt
only_refused bytes (Err (Refused n k)) q f line kind h =
    let a : (let x : Result Ast ScriptFault = Err (Refused n k) in
    x) ≡ Err (Refused line kind) = sym (f (λ e. cc))
    ∙ is_parsed (tokens_of bytes) line kind h in
    (let i : n ≡ line = cc in i, let j : k ≡ kind = cc in j)
