-- Statements that are the same but for lines, form by form.
use Rattle.std.proofs.Common.{◌≡◌, ℕ, List, [], ◌∷◌, map, subst}
use Rattle.std.specs.List.{AllZip}
use Rattle.flume_grammar.specs.declared.tree.Form.{Form}
use Rattle.flume_grammar.specs.declared.tree.Form.TheVariants as form
use Rattle.flume_grammar.specs.declared.tree.Function.{Function}
use Rattle.flume_grammar.specs.declared.tree.Operation.{Operation}
use Rattle.flume_grammar.specs.declared.tree.Repeat.{Repeat}
use Rattle.flume_grammar.specs.declared.tree.TurnLet.{TurnLet}
use Rattle.flume_grammar.specs.declared.tree.Type as tree
use Rattle.statement_law.specs.Lineless.{form_lineless, function_lineless, let_lineless, repeat_lineless}
use Rattle.key_meaning.proofs.Adding.{SameLet}
use Rattle.key_meaning.proofs.Turning.{with_lets}

pub data SameForm : Form → Form → Type 0 where
  type_ : {name : List ℕ} {type : tree.Type} → SameForm (form.Type name type) (form.Type name type)
  input_ : {name : List ℕ} {type : tree.Type} {file : List ℕ}
      → SameForm (form.Input name type file) (form.Input name type file)
  function_ : {f g : Function} → function_lineless f ≡ function_lineless g
      → SameForm (form.Function f) (form.Function g)
  let_ : {names : List (List ℕ)} {by : Operation} → SameForm (form.Let names by) (form.Let names by)
  repeat_ : {names : List (List ℕ)} {w : Repeat} {lets : List TurnLet}
      → AllZip SameLet w.lets lets
      → SameForm (form.Repeat names w) (form.Repeat names (with_lets w lets))
  output_ : {name file : List ℕ} → SameForm (form.Output name file) (form.Output name file)

same_lets : (lets others : List TurnLet) → map let_lineless lets ≡ map let_lineless others
    → AllZip SameLet lets others
same_lets [] [] e = tt
same_lets [] (other ∷ others) e = cc
same_lets (it ∷ lets) [] e = cc
same_lets (it ∷ lets) (other ∷ others) e =
    let first : let_lineless it ≡ let_lineless other = cc in
    let rest : map let_lineless lets ≡ map let_lineless others = cc in (
      record { names = λ i. (first i).names; by = λ i. (first i).by },
      same_lets lets others rest,
    )

same_repeat : (names : List (List ℕ)) (w v : Repeat) → repeat_lineless w ≡ repeat_lineless v
    → SameForm (form.Repeat names w) (form.Repeat names v)
same_repeat names w v e =
    let whole : with_lets w v.lets ≡ v = λ i. record {
      turns = (e i).turns;
      from = (e i).from;
      entering = (e i).entering;
      lets = v.lets;
      gives = (e i).gives;
    } in
    subst (λ x. SameForm (form.Repeat names w) (form.Repeat names x)) whole
    (repeat_ (same_lets w.lets v.lets (λ i. (e i).lets)))

pub same_form : (f g : Form) → form_lineless f ≡ form_lineless g → SameForm f g
same_form (form.Type a t) (form.Type b u) e =
    subst (SameForm (form.Type a t)) e type_
same_form (form.Input a t file) (form.Input b u other) e =
    subst (SameForm (form.Input a t file)) e input_
same_form (form.Function f) (form.Function g) e =
    let same : function_lineless f ≡ function_lineless g = cc in
    function_ same
same_form (form.Let names by) (form.Let others by_) e =
    subst (SameForm (form.Let names by)) e let_
same_form (form.Repeat names w) (form.Repeat others v) e =
    let first : names ≡ others = cc in
    let second : repeat_lineless w ≡ repeat_lineless v = cc in
    subst (λ x. SameForm (form.Repeat names w) (form.Repeat x v)) first
    (same_repeat names w v second)
same_form (form.Output a file) (form.Output b other) e =
    subst (SameForm (form.Output a file)) e output_
same_form _ _ e = cc
