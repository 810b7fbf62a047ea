-- What is answered is in the grammar, and what is in the grammar is answered.
use Rattle.std.proofs.Common.{◌≡◌, ◌≢◌, ℕ, List, [], ◌∷◌, Result, Ok, Err, refl, sym, ap, ◌∙◌}
use Rattle.std.specs.Prelude.{IfOk, IfErr}
use Rattle.flume_tokens.specs.declared.fault.TokenFault.{TokenFault}
use Rattle.flume_tokens.specs.declared.token.Token.{Token}
use Rattle.flume_tokens.specs.declared.token.TokenList.{TokenList}
use Rattle.flume_tokens.specs.Tokens.{tokens_of}
use Rattle.flume_grammar.specs.declared.fault.ScriptFault.{ScriptFault}
use Rattle.flume_grammar.specs.declared.fault.ScriptFault.TheVariants.{Refused, Memory}
use Rattle.flume_grammar.specs.declared.tree.Statement.{Statement}
use Rattle.flume_grammar.specs.declared.tree.Ast.{Ast}
use Rattle.flume_grammar.specs.inner.Out.{Out}
use Rattle.flume_grammar.specs.inner.Statements.{script_at}
use Rattle.flume_grammar.specs.Grammar.{IsScript}
use Rattle.flume_grammar.specs.Answer.{Accepts, IsParsed}
use Rattle.flume_grammar.specs.inner.Answer.{tree_of, parse_tokens, parse_of}
use Rattle.flume_grammar.proofs.Sound.{gave}
use Rattle.flume_grammar.proofs.SoundScript.{sound_script}
use Rattle.flume_grammar.proofs.CompleteScript.{complete_script}
use Rattle.flume_grammar.specs.Limits.{the_limits}
use Rattle.flume_grammar.proofs.Fair.{fair}

abbrev tree : Ast → Result Ast ScriptFault
tree a = Ok a

tree_is : (n : ℕ) (o : Out (List Statement)) (ast : Ast) → tree_of n o ≡ Ok ast
    → o ≡ Ok (ast.statements, [])
tree_is n (Ok (ss, [])) ast q = let p : record { statements = ss } ≡ ast = cc in
    ap (λ (a : Ast). Ok (a.statements, [])) p
tree_is n (Ok (ss, t ∷ ts)) ast q = cc
tree_is n (Err s) ast q = cc

pub accepted : (bytes : List ℕ) (ast : Ast) → parse_of bytes ≡ Ok ast → Accepts bytes ast
accepted bytes ast q = by (tokens_of bytes) refl q
  where
    by : (r : Result TokenList TokenFault) → tokens_of bytes ≡ r → parse_tokens r ≡ Ok ast
        → Accepts bytes ast
    by (Ok list) e p = (
      list,
      e,
      (sound_script the_limits fair) list.items ast.statements
          (tree_is list.last_line (script_at the_limits list.items) ast p),
    )
    by (Err f) e p = cc

answered : (bytes : List ℕ) (ast : Ast) → Accepts bytes ast → parse_of bytes ≡ Ok ast
answered bytes ast (list, e, h) = ap parse_tokens e
    ∙ ap (tree_of list.last_line) ((complete_script the_limits fair) list.items ast.statements h)

pub all_accepted : (bytes : List ℕ) (r : Result Ast ScriptFault)
    → IfOk r (λ ast. parse_of bytes ≡ Ok ast) → IfOk r (λ ast. Accepts bytes ast)
all_accepted bytes (Ok ast) q = accepted bytes ast q
all_accepted bytes (Err e) q = tt

pub only_accepted : (bytes : List ℕ) (r : Result Ast ScriptFault)
    → IfOk r (λ ast. parse_of bytes ≡ Ok ast) → IfErr r (λ e. e ≢ Memory → parse_of bytes ≡ Err e)
    → (ast : Ast) → Accepts bytes ast → IsParsed r ast
only_accepted bytes (Ok s) q f ast h = let p : tree s ≡ tree ast = sym q ∙ answered bytes ast h in
    cc
only_accepted bytes (Err Memory) q f ast h = tt
only_accepted bytes (Err (Refused n k)) q f ast h = let p = f (λ e. cc) in
    let r = answered bytes ast h in cc

pub one_tree : (ts : List Token) (ss rs : List Statement) → IsScript the_limits ts ss
    → IsScript the_limits ts rs → ss ≡ rs
one_tree ts ss rs h g = (gave ss rs [] [] (sym ((complete_script the_limits fair) ts ss h)
    ∙ (complete_script the_limits fair) ts rs g)).0
