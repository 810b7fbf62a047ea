-- What the grammar reads puts few collections together.
use Rattle.std.proofs.Common.{ℕ, List, [], ◌∷◌, arith}
use Rattle.std.specs.List.{AllByRecursion as Each}
use Rattle.flume_value.proofs.EachLemmas.{Each-append}
use Rattle.flume_tokens.specs.declared.token.Token.{Token}
use Rattle.flume_grammar.specs.declared.tree.Ast.{Ast}
use Rattle.flume_grammar.specs.declared.tree.Operation.{Operation}
use Rattle.flume_grammar.specs.declared.tree.Repeat.{Repeat}
use Rattle.flume_grammar.specs.declared.tree.Statement.{Statement}
use Rattle.flume_grammar.specs.declared.tree.TurnLet.{TurnLet}
use Rattle.flume_grammar.specs.Answer.{Accepts}
use Rattle.flume_grammar.specs.Grammar as g
use Rattle.flume_grammar.specs.Limits.{the_limits}
use Rattle.build_law.specs.Limits.{AreShort, IsShortForm, IsShortOperation}

operation_short : {ts us : List Token} {o : Operation} → g.IsOperation the_limits ts us o
    → IsShortOperation o
operation_short g.do_ = tt
operation_short g.group = tt
operation_short (g.combine c) = tt
operation_short (g.flatten names few) = omega arith
operation_short g.count = tt
operation_short g.join = tt
operation_short g.top = tt
operation_short (g.combine_all c) = tt
operation_short (g.operate names few) = tt
operation_short g.do_with = tt

let_short : {ts us : List Token} {l : TurnLet} → g.IsLet the_limits ts us l
    → IsShortOperation l.by
let_short (g.let_ names o) = operation_short o

lets_short : {ts us : List Token} {ls : List TurnLet} → g.AreLets the_limits ts us ls
    → Each (λ (l : TurnLet). IsShortOperation l.by) ls
lets_short g.none_ = tt
lets_short (g.some {l} {ls} before x) =
    Each-append (λ (l : TurnLet). IsShortOperation l.by) ls (l ∷ []) (lets_short before)
    (let_short x, tt)

repeat_short : {ts us : List Token} {r : Repeat} → g.IsRepeat the_limits ts us r
    → Each (λ (l : TurnLet). IsShortOperation l.by) r.lets
repeat_short (g.repeat_ from entering lets gives) = lets_short lets

statement_short : {ts us : List Token} {s : Statement} → g.IsStatement the_limits ts us s
    → IsShortForm s.form
statement_short (g.type_ w) = tt
statement_short (g.input w) = tt
statement_short (g.fn_ v w m f c b l) = tt
statement_short (g.let_ names o) = operation_short o
statement_short (g.repeat names r) = repeat_short r
statement_short g.output = tt

statements_short : {ts us : List Token} {ss : List Statement} → g.AreStatements the_limits ts us ss
    → AreShort ss
statements_short g.none_ = tt
statements_short (g.some {s} {ss} before x) =
    Each-append (λ (r : Statement). IsShortForm r.form) ss (s ∷ []) (statements_short before)
    (statement_short x, tt)

pub accepted_short : (bytes : List ℕ) (ast : Ast) → Accepts bytes ast → AreShort ast.statements
accepted_short bytes ast (list, e, spelled) = statements_short spelled
