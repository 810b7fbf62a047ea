-- Parsers of operations, of statements and of scripts are open.
use Rattle.std.proofs.Common.{◌≡◌, ℕ, ◌+◌, ◌<◌, length, is_some, List, [], ◌∷◌, ◌++◌, Bool, false, Option, Some, None, Result, Ok, refl, ap, arith}
use Rattle.flume_tokens.specs.declared.token.Token.{Token}
use Rattle.flume_tokens.specs.declared.keyword.Keyword.TheVariants as keyword
use Rattle.flume_tokens.specs.declared.sign.Sign.TheVariants as sign
use Rattle.flume_grammar.specs.declared.fault.ScriptKind.TheVariants.{Syntax}
use Rattle.flume_grammar.specs.declared.fault.Stop.{Stop}
use Rattle.flume_grammar.specs.declared.start.OperationStart.{OperationStart}
use Rattle.flume_grammar.specs.declared.start.OperationStart.TheVariants as starting
use Rattle.flume_grammar.specs.declared.start.LetStart.{LetStart}
use Rattle.flume_grammar.specs.declared.start.LetStart.TheVariants as letting
use Rattle.flume_grammar.specs.declared.start.CombinerStart.{CombinerStart}
use Rattle.flume_grammar.specs.declared.start.CombinerStart.TheVariants as combining
use Rattle.flume_grammar.specs.declared.start.StatementStart.{StatementStart}
use Rattle.flume_grammar.specs.declared.start.StatementStart.TheVariants as stating
use Rattle.flume_grammar.specs.declared.tree.TurnLet.{TurnLet}
use Rattle.flume_grammar.specs.declared.tree.Statement.{Statement}
use Rattle.flume_grammar.specs.inner.Out.{Out, give, bind, one, next, all_of}
use Rattle.flume_grammar.specs.inner.Reading.{sign_at, is_keyword, is_at_keyword, name_at, number_at, comma_at, numbered, of_keyword}
use Rattle.flume_grammar.specs.Parts.{Tree}
use Rattle.flume_grammar.specs.inner.Types.{whole_type}
use Rattle.flume_grammar.specs.inner.Bodies.{whole_block}
use Rattle.flume_grammar.specs.inner.Statements as s
use Rattle.flume_grammar.specs.Terminals.{keyword_token}
use Rattle.flume_grammar.proofs.Sound.{bound, gave}
use Rattle.flume_grammar.proofs.Open.{Takes, Class, Behind, any, Sub, free, within, IsComplete}
use Rattle.flume_grammar.proofs.OpenSmallest.{Owns, given}
use Rattle.flume_grammar.proofs.OpenThen.{then_}
use Rattle.flume_grammar.proofs.OpenNarrow.{wider}
use Rattle.flume_grammar.proofs.OpenLoops.{Turns, loops}
use Rattle.flume_grammar.proofs.OpenTokens.{owns_ok, owns_fault, owns_if, owns_option, token, takes_token, sign_then, keyword_then, name_then, number_then, text_then, comma_then, commas, no_comma}
use Rattle.flume_grammar.proofs.OpenTypes.{complete_whole}
use Rattle.flume_grammar.specs.Limits.{Limits}
use Rattle.flume_grammar.proofs.Fair.{IsFair}
use Rattle.flume_grammar.proofs.OpenBodies.{optional, optional_in, other_than, unscaled, o_numbered, opening, complete_body}

-- ---- names

o_name : (xs : List (List ℕ))
    → IsComplete any any (λ us. bind (one name_at us) (λ x vs. give (xs ++ x ∷ []) vs))
o_name xs = name_then any any _ tt (λ x. given any any _ (free any))

o_names : IsComplete any no_comma s.names
o_names =
    name_then any no_comma _ tt (λ x. wider no_comma any no_comma _ (free no_comma)
    (commas no_comma any s.next_name (free no_comma) (λ k i. i)
    (λ xs. takes_token any (sign_at sign.Comma) _ (λ _. (o_name xs).open_))
    (λ xs. (sign_then any any sign.Comma _ tt (λ _. o_name xs)).open_) (x ∷ [])))

o_head : IsComplete any no_comma s.repeat_head
o_head =
    number_then any no_comma _ tt
    (λ n. keyword_then any no_comma keyword.From _ tt
    (λ _. then_ any no_comma no_comma s.names _ o_names
    (λ xs _. keyword_then no_comma no_comma keyword.As _ refl
    (λ _. then_ any no_comma no_comma s.names _ o_names
    (λ ys _. given no_comma no_comma _ (λ rs i. i))))))

pub owns_let : (t : Token) → Owns t (s.line_of_let t)
owns_let t =
    owns_if t (is_keyword keyword.Let t.kind) _ _ (owns_ok t t.line) (owns_fault t Syntax)

-- before what is neither `with` nor a comma: what may stand behind an operation
abbrev pub settled : Class
settled k = other_than keyword.With k × no_comma k

pub no_more : Sub settled no_comma
no_more = within settled no_comma (λ k i. i.1)

o_beside : IsComplete (other_than keyword.With) (other_than keyword.With) s.beside
o_beside =
    let x = name_then any (other_than keyword.With) _ tt
    (λ o. given any (other_than keyword.With) (Some o) (free (other_than keyword.With))) in
    optional keyword.With (λ _ us. s.object us) None
    (keyword_then any (other_than keyword.With) keyword.With _ tt (λ _. x)) (λ _. x.open_)

o_settled : IsComplete settled settled s.beside
o_settled = optional_in keyword.With (λ _ us. s.object us) None settled
    (within settled (other_than keyword.With) (λ k i. i.0)) o_beside

o_apply : IsComplete any settled s.apply
o_apply =
    name_then any settled _ tt
    (λ c. name_then any settled _ tt
    (λ f. wider settled any settled _ (free settled)
    (then_ settled settled settled s.beside _ o_settled
    (λ o _. given settled settled _ (λ rs i. i)))))

-- before what is none of `let`, `with` and a comma
abbrev pub in_turn : Class
in_turn k = other_than keyword.Let k × settled k

no_let : (ls : List TurnLet) (ts : List Token) → Behind in_turn ts → s.at_let ls ts ≡ false
no_let ls [] i = refl
no_let ls (t ∷ ts) i = i.0

-- what a loop asks that reads a list, one part after another
listed : {A : Type 0} (c : Class) (more : List A → List Token → Bool) (part : List Token → Out A)
    → Sub c settled → ((xs : List A) (ts : List Token) → Behind c ts → more xs ts ≡ false)
    → ((xs : List A) (ts us : List Token) → next us ≡ next ts → more xs us ≡ more xs ts)
    → Takes part → IsComplete any settled part
    → Turns c settled more (λ xs ts. bind (part ts) (λ x us. give (xs ++ x ∷ []) us))
    (λ xs. Unit {0})
listed {A} c more part sub stopped same takes h = record {
  sub = sub;
  stopped = stopped;
  same = same;
  takes = λ xs ts ys us i m e. fewer xs ts ys us e;
  open_ = λ xs ts i m. (then_ any settled settled part (λ x us. give (xs ++ x ∷ []) us) h
      (λ x _. given settled settled _ (λ rs j. j))).open_ ts;
  keeps = λ xs ts ys us i e. tt;
}
  where
    fewer : (xs : List A) (ts : List Token) (ys : List A) (us : List Token)
        → bind (part ts) (λ x vs. give (xs ++ x ∷ []) vs) ≡ Ok (ys, us) → length us < length ts
    fewer xs ts ys us e =
        let a = bound (part ts) _ ys us e in
        let i = takes ts a.got a.rest a.part in
        let j = ap length (gave (xs ++ a.got ∷ []) ys a.rest us a.after).1 in
        omega (arith, i, j)

-- what goes on as its first token tells
told : {A B : Type 0} (begin : Token → Result A Stop) (on : A → List Token → Out B)
    → ((t : Token) → Owns t (begin t)) → (t : Token) (a : A) → begin t ≡ Ok a
    → ((x : A) → IsComplete any settled (on x))
    → IsComplete any settled (λ ts. bind (one begin ts) on)
told begin on own t a e h =
    then_ any any settled (one begin) on (token any begin own t a e tt) (λ x _. h x)

module _ (limits : Limits) (fair : IsFair limits) where
  -- ---- operations

  o_combiner : (k : CombinerStart) → IsComplete any any (s.after_combiner k)
  o_combiner (combining.Whole c) = given any any c (free any)
  o_combiner combining.Top = number_then any any _ tt (λ n. given any any _ (free any))

  o_combined : IsComplete any any s.by_combiner
  o_combined =
      name_then any any _ tt (λ c. keyword_then any any keyword.By _ tt
      (λ _. then_ any any any s.combiner_at _
      (then_ any any any (one s.combiner_start) _
      (token any s.combiner_start (λ t. owns_option t (of_keyword s.keyword_combiner t.kind))
      (keyword_token keyword.Sum 1) _ refl tt) (λ k _. o_combiner k))
      (λ k _. given any any _ (free any))))

  o_inputs : IsComplete any no_comma (s.inputs limits)
  o_inputs =
      name_then any no_comma _ tt (λ x. wider no_comma any no_comma _ (free no_comma)
      (commas no_comma any (s.next_input limits) (free no_comma) (λ k i. i)
      (λ xs. takes_token any (comma_at (length xs) limits.inputs) _
      (λ _. (o_name xs).open_))
      (λ xs. comma_then any (length xs) limits.inputs _ (λ _. o_name xs)) (x ∷ [])))

  o_begin : (o : OperationStart) → IsComplete any settled (s.after_begin limits o)
  o_begin starting.Do = o_apply
  o_begin starting.Group = name_then any settled _ tt (λ c. given any settled _ (free settled))
  o_begin starting.Combine = then_ any any settled s.by_combiner _ o_combined
      (λ x _. given any settled _ (free settled))
  o_begin starting.Flatten = then_ any no_comma settled (s.inputs limits) _ o_inputs
      (λ xs _. given no_comma settled _ no_more)
  o_begin starting.Count = name_then any settled _ tt (λ c. given any settled _ (free settled))
  o_begin starting.Join =
      name_then any settled _ tt (λ x. sign_then any settled sign.Comma _ tt
      (λ _. name_then any settled _ tt (λ y. given any settled _ (free settled))))
  o_begin starting.Top =
      number_then any settled _ tt
      (λ n. name_then any settled _ tt (λ c. given any settled _ (free settled)))
  o_begin starting.CombineAll = then_ any any settled s.by_combiner _ o_combined
      (λ x _. given any settled _ (free settled))
  o_begin starting.Operate =
      then_ any no_comma settled (s.inputs limits) _ o_inputs
      (λ xs _. keyword_then no_comma settled keyword.By _ refl
      (λ _. name_then any settled _ tt (λ f. given any settled _ (free settled))))

  o_operation : IsComplete any settled (s.operation_at limits)
  o_operation =
      told s.operation_start _ (λ t. owns_option t (of_keyword s.keyword_operation t.kind))
      (keyword_token keyword.Group 1) _ refl o_begin

  -- ---- repeats

  o_own : (n : ℕ)
      → IsComplete {A = TurnLet} any settled
      (λ ts. bind (s.names ts) (λ xs us. bind (one (sign_at sign.Assign) us)
      (λ _ vs. bind (s.operation_at limits vs)
      (λ o ws. give (record { line = n; names = xs; by = o }) ws))))
  o_own n =
      then_ any no_comma settled s.names _ o_names (λ xs _. sign_then no_comma settled
      sign.Assign _ refl
      (λ _. then_ any settled settled (s.operation_at limits) _ o_operation
      (λ o _. given settled settled _ (λ rs i. i))))

  o_turn_let : IsComplete any settled (s.turn_let limits)
  o_turn_let = told s.line_of_let _ owns_let (keyword_token keyword.Let 1) 1 refl o_own

  pub let_turns : Turns in_turn settled s.at_let (s.next_let limits) (λ ls. Unit {0})
  let_turns =
      listed in_turn s.at_let (s.turn_let limits) (within in_turn settled (λ k i. i.1)) no_let
      (λ ls ts us e. ap (is_at_keyword keyword.Let) e)
      (takes_token settled s.line_of_let _ (λ n. (o_own n).open_)) o_turn_let

  o_lets : (ls : List TurnLet)
      → IsComplete in_turn in_turn (all_of s.at_let (s.next_let limits) ls)
  o_lets ls = loops in_turn settled s.at_let (s.next_let limits) (λ rs. Unit {0}) let_turns ls tt

  o_inside : IsComplete no_comma any (s.repeat_body limits)
  o_inside =
      sign_then no_comma any sign.OpenBrace _ refl
      (λ _. wider in_turn any any _ (free in_turn)
      (then_ in_turn in_turn any (s.turn_lets limits) _ (o_lets [])
      (λ ls _. keyword_then in_turn any keyword.Give _ (refl, (refl, refl))
      (λ _. then_ any no_comma any s.names _ o_names
      (λ xs _. sign_then no_comma any sign.CloseBrace _ refl
      (λ _. given any any _ (free any)))))))

  o_repeat : IsComplete any settled (s.repeat_at limits)
  o_repeat =
      then_ any no_comma settled s.repeat_head _ o_head
      (λ h _. then_ no_comma any settled (s.repeat_body limits) _ o_inside
      (λ b _. given any settled _ (free settled)))

  pub o_let : (xs : List (List ℕ)) (z : LetStart)
      → IsComplete any settled (s.after_let limits xs z)
  o_let xs (letting.Plain o) = then_ any settled settled (s.after_begin limits o) _ (o_begin o)
      (λ y _. given settled settled _ (λ rs i. i))
  o_let xs letting.Repeat = then_ any settled settled (s.repeat_at limits) _ o_repeat
      (λ r _. given settled settled _ (λ rs i. i))

  -- ---- statements

  o_scale : IsComplete unscaled unscaled (numbered keyword.Scale)
  o_scale =
      optional_in keyword.Scale (λ _ us. bind (one number_at us) (λ n vs. give (Some n) vs)) None
      unscaled (within unscaled (other_than keyword.Scale) (λ k i. i.0)) (o_numbered keyword.Scale)

  o_type : (types : List Tree)
      → IsComplete any any (λ us. bind (whole_type limits us) (λ t vs. give (types ++ t ∷ []) vs))
  o_type types = then_ any any any (whole_type limits) _ (complete_whole limits fair)
      (λ t _. given any any _ (free any))

  o_more_types : IsComplete no_comma no_comma (s.more_types limits)
  o_more_types =
      commas no_comma any (s.next_type limits) (free no_comma) (λ k i. i)
      (λ types. takes_token any (comma_at (1 + length types) limits.outputs) _
      (λ _. (o_type types).open_))
      (λ types. comma_then any (1 + length types) limits.outputs _ (λ _. o_type types)) []

  o_signature : IsComplete any no_comma (s.signature limits)
  o_signature =
      sign_then any no_comma sign.Open _ tt
      (λ _. name_then any no_comma _ tt
      (λ x. sign_then any no_comma sign.Colon _ tt
      (λ _. then_ any any no_comma (whole_type limits) _ (complete_whole limits fair) (λ a _.
      sign_then any no_comma sign.Close _ tt
      (λ _. sign_then any no_comma sign.Arrow _ tt
      (λ _. then_ any any no_comma (whole_type limits) _ (complete_whole limits fair) (λ c _.
      wider no_comma any no_comma _ (free no_comma)
      (then_ no_comma no_comma no_comma (s.more_types limits) _ o_more_types
      (λ cs _. given no_comma no_comma _ (λ rs i. i))))))))))

  o_function : IsComplete any settled (s.function_form limits)
  o_function =
      name_then any settled _ tt
      (λ f. then_ any no_comma settled (s.signature limits) _ o_signature
      (λ g _. wider unscaled no_comma settled _ (within unscaled no_comma (λ k i. i.1))
      (then_ unscaled unscaled settled (numbered keyword.Scale) _ o_scale (λ n _.
      then_ unscaled any settled (whole_block limits) _
      (wider opening unscaled any (whole_block limits) (within opening unscaled (λ k i. i.1))
      (complete_body limits fair)) (λ x _. given any settled _ (free settled))))))

  o_form : (x : StatementStart) → IsComplete any settled (s.form_at limits x)
  o_form stating.Type =
      name_then any settled _ tt (λ x. sign_then any settled sign.Assign _ tt
      (λ _. then_ any any settled (whole_type limits) _ (complete_whole limits fair)
      (λ t _. given any settled _ (free settled))))
  o_form stating.Input =
      name_then any settled _ tt (λ x. sign_then any settled sign.Colon _ tt
      (λ _. then_ any any settled (whole_type limits) _ (complete_whole limits fair)
      (λ t _. keyword_then any settled keyword.From _ tt (λ _.
      text_then any settled _ tt (λ f. given any settled _ (free settled))))))
  o_form stating.Function = o_function
  o_form stating.Let =
      then_ any no_comma settled s.names _ o_names (λ xs _. sign_then no_comma settled
      sign.Assign _ refl
      (λ _. told s.let_start _ (λ t. owns_option t (of_keyword s.keyword_let t.kind))
      (keyword_token keyword.Group 1) _ refl (o_let xs)))
  o_form stating.Output =
      name_then any settled _ tt (λ x. keyword_then any settled keyword.To _ tt
      (λ _. text_then any settled _ tt (λ f. given any settled _ (free settled))))

  pub owns_statement : (t : Token) (o : Option StatementStart) → Owns t (s.with_line t o)
  owns_statement t (Some x) = owns_ok t (x, t.line)
  owns_statement t None = owns_fault t Syntax

  o_named : (x : StatementStart × ℕ)
      → IsComplete {A = Statement} any settled
      (λ ts. bind (s.form_at limits x.0 ts) (λ f us. give (record { line = x.1; form = f }) us))
  o_named x = then_ any settled settled (s.form_at limits x.0) _ (o_form x.0)
      (λ f _. given settled settled _ (λ rs i. i))

  o_statement : IsComplete any settled (s.statement_at limits)
  o_statement =
      told s.statement_start _
      (λ t. owns_statement t (of_keyword s.keyword_statement t.kind))
      (keyword_token keyword.Output 1) _
      refl o_named

  -- before nothing but the end
  abbrev pub nothing : Class
  nothing k = ⊥

  pub statement_turns : Turns nothing settled s.is_more (s.next_statement limits)
      (λ ss. Unit {0})
  statement_turns =
      listed nothing s.is_more (s.statement_at limits) (within nothing settled (λ k i. absurd i))
      ends (λ ss ts us e. ap is_some e)
      (takes_token settled s.statement_start _ (λ x. (o_named x).open_)) o_statement
    where
      ends : (ss : List Statement) (ts : List Token) → Behind nothing ts → s.is_more ss ts ≡ false
      ends ss [] i = refl
      ends ss (t ∷ ts) i = absurd i

  pub complete_statements : IsComplete nothing nothing (s.script_at limits)
  complete_statements = loops nothing settled s.is_more (s.next_statement limits) (λ ss. Unit {0})
      statement_turns [] tt
