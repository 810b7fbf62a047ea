-- Names, operations and repeats within limits and within higher ones.
use Rattle.std.proofs.Common.{ℕ, length, length-append, List, [], ◌∷◌, ◌++◌, Some, None, refl, arith}
use Rattle.flume_tokens.specs.declared.token.Token.{Token}
use Rattle.flume_tokens.specs.declared.keyword.Keyword.TheVariants as keyword
use Rattle.flume_tokens.specs.declared.sign.Sign.TheVariants as sign
use Rattle.flume_grammar.specs.declared.fault.ScriptKind.TheVariants.{Syntax}
use Rattle.flume_grammar.specs.declared.start.OperationStart.{OperationStart}
use Rattle.flume_grammar.specs.declared.start.OperationStart.TheVariants as starting
use Rattle.flume_grammar.specs.declared.start.LetStart.{LetStart}
use Rattle.flume_grammar.specs.declared.start.LetStart.TheVariants as letting
use Rattle.flume_grammar.specs.declared.start.CombinerStart.{CombinerStart}
use Rattle.flume_grammar.specs.declared.start.CombinerStart.TheVariants as combining
use Rattle.flume_grammar.specs.declared.tree.TurnLet.{TurnLet}
use Rattle.flume_grammar.specs.inner.Out.{give, bind, one, all_of}
use Rattle.flume_grammar.specs.inner.Reading.{sign_at, is_keyword, name_at, of_keyword}
use Rattle.flume_grammar.specs.inner.Statements as s
use Rattle.flume_grammar.specs.Terminals.{keyword_token}
use Rattle.flume_grammar.specs.Limits.{Limits}
use Rattle.flume_grammar.proofs.Fair.{IsFair}
use Rattle.flume_grammar.proofs.Open.{any, free, within}
use Rattle.flume_grammar.proofs.OpenTokens.{owns_option, token, no_comma}
use Rattle.flume_grammar.proofs.OpenScript as o_scripts
use Rattle.flume_grammar.proofs.OpenScript.{settled, no_more, in_turn, owns_let}
use Rattle.flume_grammar.proofs.OpenBodies.{other_than}
use Rattle.flume_grammar.proofs.Depths.{each_after, each_give}
use Rattle.flume_grammar.proofs.Pair.{Kinds, Plain}
use Rattle.flume_grammar.proofs.PairThen.{IsPair, pair_given, pair_wider, pair_then, pair_loop}
use Rattle.flume_grammar.proofs.PairTokens.{Growth, plain_ok, plain_fault, plain_if, plain_option, pair_token, pair_name, pair_number, pair_sign, pair_keyword, pair_commas, pair_listed}
use Rattle.flume_grammar.proofs.PairBodies.{pair_optional, pair_optional_in, whole_given}

-- ---- what is given

module _ {A : Type 0} (K : Kinds) (a : A) where
  pub none_settled : IsPair K any settled (give a) (give a)
  none_settled = pair_given K any settled a (free settled)

  pub settled_given : IsPair K settled settled (give a) (give a)
  settled_given = pair_given K settled settled a (λ rs i. i)

  pub comma_given : IsPair K no_comma no_comma (give a) (give a)
  comma_given = pair_given K no_comma no_comma a (λ rs i. i)

module _ (K : Kinds) (limits more : Limits) (fair : IsFair limits) (fair_more : IsFair more)
    (growth : Growth K limits more) where
  -- ---- operations

  r_combiner : (k : CombinerStart) → IsPair K any any (s.after_combiner k) (s.after_combiner k)
  r_combiner (combining.Whole c) = whole_given K limits more fair fair_more growth c
  r_combiner combining.Top = pair_number K growth.syntax_ any any _
      _ tt (λ n. whole_given K limits more fair fair_more growth _)

  r_combined : IsPair K any any s.by_combiner s.by_combiner
  r_combined =
      pair_name K growth.syntax_ any any _ _ tt
      (λ c. pair_keyword K growth.syntax_ any any keyword.By _
      _ tt
      (λ _. pair_then K any any any s.combiner_at s.combiner_at _ _
      (pair_then K any any any (one s.combiner_start) (one s.combiner_start) _ _
      (pair_token K growth.syntax_ any s.combiner_start
      (token any s.combiner_start (λ t. owns_option t (of_keyword s.keyword_combiner t.kind))
      (keyword_token keyword.Sum 1) _ refl tt)
      (λ t. plain_option K growth.syntax_ t
      (of_keyword s.keyword_combiner t.kind))) r_combiner)
      (λ k. whole_given K limits more fair fair_more growth _)))

  r_name : (xs : List (List ℕ))
      → IsPair K any any (λ us. bind (one name_at us) (λ x vs. give (xs ++ x ∷ []) vs))
      (λ us. bind (one name_at us) (λ x vs. give (xs ++ x ∷ []) vs))
  r_name xs = pair_name K growth.syntax_ any any _ _ tt
      (λ x. whole_given K limits more fair fair_more growth _)

  pub r_names : IsPair K any no_comma s.names s.names
  r_names =
      pair_name K growth.syntax_ any no_comma _ _ tt
      (λ x. pair_wider K no_comma any no_comma _ _ (free no_comma)
      (pair_listed K growth.syntax_ no_comma any (free no_comma)
      (λ k i. i) (λ xs _ us. bind (one name_at us) (λ y vs. give (xs ++ y ∷ []) vs))
      (λ xs _ us. bind (one name_at us) (λ y vs. give (xs ++ y ∷ []) vs)) (λ xs _. r_name xs)
      (x ∷ [])))

  r_inputs : IsPair K any no_comma (s.inputs limits) (s.inputs more)
  r_inputs =
      pair_name K growth.syntax_ any no_comma _ _ tt
      (λ x. pair_wider K no_comma any no_comma _ _
      (free no_comma)
      (pair_commas K growth.syntax_ no_comma any (free no_comma)
      (λ k i. i)
      (λ (xs : List (List ℕ)). length xs) limits.inputs more.inputs growth.inputs
      (λ xs _ us. bind (one name_at us) (λ y vs. give (xs ++ y ∷ []) vs))
      (λ xs _ us. bind (one name_at us) (λ y vs. give (xs ++ y ∷ []) vs)) (λ xs _. r_name xs)
      (λ xs _. each_after _ (one name_at) _
      (λ y. each_give _ _ (let i = length-append xs (y ∷ []) in omega (arith, i))))
      (x ∷ []) fair.inputs))

  r_beside : IsPair K settled settled s.beside s.beside
  r_beside =
      let x = pair_name K growth.syntax_ any
      (other_than keyword.With) _ _ tt
      (λ o. pair_given K any (other_than keyword.With) (Some o) (free (other_than keyword.With))) in
      pair_optional_in K keyword.With (λ _ us. s.object us) (λ _ us. s.object us) None settled
      (within settled (other_than keyword.With) (λ k i. i.0))
      (pair_optional K keyword.With (λ _ us. s.object us) (λ _ us. s.object us) None
      (pair_keyword K growth.syntax_ any
      (other_than keyword.With) keyword.With _ _ tt (λ _. x)) (λ _. x.low_.open_)
      (λ _. x.high_.open_))

  r_apply : IsPair K any settled s.apply s.apply
  r_apply =
      pair_name K growth.syntax_ any settled _ _ tt
      (λ c. pair_name K growth.syntax_ any settled _ _ tt
      (λ f. pair_wider K settled any settled _ _ (free settled)
      (pair_then K settled settled settled s.beside s.beside _ _ r_beside
      (λ o. settled_given K _))))

  r_operate : IsPair K any settled (s.operate limits) (s.operate more)
  r_operate =
      pair_then K any no_comma settled (s.inputs limits) (s.inputs more) _ _ r_inputs
      (λ xs. pair_keyword K growth.syntax_ no_comma settled
      keyword.By _ _ refl
      (λ _. pair_name K growth.syntax_ any settled _ _ tt
      (λ f. none_settled K _)))

  r_begin : (x : OperationStart)
      → IsPair K any settled (s.after_begin limits x) (s.after_begin more x)
  r_begin starting.Do = r_apply
  r_begin starting.Group = pair_name K growth.syntax_ any settled
      _ _ tt (λ c. none_settled K _)
  r_begin starting.Combine = pair_then K any any settled s.by_combiner s.by_combiner _ _
      r_combined (λ x. none_settled K _)
  r_begin starting.Flatten = pair_then K any no_comma settled (s.inputs limits) (s.inputs more) _ _
      r_inputs (λ xs. pair_given K no_comma settled _ no_more)
  r_begin starting.Count = pair_name K growth.syntax_ any settled
      _ _ tt (λ c. none_settled K _)
  r_begin starting.Join =
      pair_name K growth.syntax_ any settled _ _ tt
      (λ x. pair_sign K growth.syntax_ any settled sign.Comma _ _
      tt
      (λ _. pair_name K growth.syntax_ any settled _ _ tt
      (λ y. none_settled K _)))
  r_begin starting.Top =
      pair_number K growth.syntax_ any settled _ _ tt
      (λ n. pair_name K growth.syntax_ any settled _ _ tt
      (λ c. none_settled K _))
  r_begin starting.CombineAll = pair_then K any any settled s.by_combiner s.by_combiner _ _
      r_combined (λ x. none_settled K _)
  r_begin starting.Operate = r_operate

  r_operation : IsPair K any settled (s.operation_at limits) (s.operation_at more)
  r_operation =
      pair_then K any any settled (one s.operation_start) (one s.operation_start) _ _
      (pair_token K growth.syntax_ any s.operation_start
      (token any s.operation_start
      (λ t. owns_option t (of_keyword s.keyword_operation t.kind)) (keyword_token keyword.Group 1) _
      refl tt) (λ t. plain_option K growth.syntax_ t
      (of_keyword s.keyword_operation t.kind)))
      r_begin

  -- ---- repeats

  r_head : IsPair K any no_comma s.repeat_head s.repeat_head
  r_head =
      pair_number K growth.syntax_ any no_comma _ _ tt
      (λ n. pair_keyword K growth.syntax_ any no_comma
      keyword.From _ _ tt
      (λ _. pair_then K any no_comma no_comma s.names s.names _ _ r_names
      (λ xs. pair_keyword K growth.syntax_ no_comma no_comma
      keyword.As _ _ refl
      (λ _. pair_then K any no_comma no_comma s.names s.names _ _ r_names
      (λ ys. comma_given K _)))))

  r_own : (n : ℕ)
      → IsPair {A = TurnLet} K any settled
      (λ ts. bind (s.names ts) (λ xs us. bind (one (sign_at sign.Assign) us)
      (λ _ vs. bind (s.operation_at limits vs)
      (λ o ws. give (record { line = n; names = xs; by = o }) ws))))
      (λ ts. bind (s.names ts) (λ xs us. bind (one (sign_at sign.Assign) us)
      (λ _ vs. bind (s.operation_at more vs)
      (λ o ws. give (record { line = n; names = xs; by = o }) ws))))
  r_own n =
      pair_then K any no_comma settled s.names s.names _ _ r_names
      (λ xs. pair_sign K growth.syntax_ no_comma settled
      sign.Assign _ _ refl
      (λ _. pair_then K any settled settled (s.operation_at limits) (s.operation_at more) _ _
      r_operation (λ o. settled_given K _)))

  plain_let : (t : Token) → Plain K t (s.line_of_let t)
  plain_let t =
      plain_if K t (is_keyword keyword.Let t.kind) _ _ (plain_ok K t t.line)
      (plain_fault K t Syntax growth.syntax_)

  r_turn_let : IsPair K any settled (s.turn_let limits) (s.turn_let more)
  r_turn_let =
      pair_then K any any settled (one s.line_of_let) (one s.line_of_let) _ _
      (pair_token K growth.syntax_ any s.line_of_let
      (token any s.line_of_let owns_let (keyword_token keyword.Let 1) 1 refl tt) plain_let) r_own

  r_next_let : (ls : List TurnLet)
      → IsPair K any settled (s.next_let limits ls) (s.next_let more ls)
  r_next_let ls = pair_then K any settled settled (s.turn_let limits) (s.turn_let more) _ _
      r_turn_let (λ l. settled_given K _)

  r_lets : (ls : List TurnLet)
      → IsPair K in_turn in_turn (all_of s.at_let (s.next_let limits) ls)
      (all_of s.at_let (s.next_let more) ls)
  r_lets ls = pair_loop K in_turn settled s.at_let (s.next_let limits) (s.next_let more)
      (λ rs. Unit {0}) (λ rs. Unit {0}) (o_scripts.let_turns limits fair)
      (o_scripts.let_turns more fair_more) (λ rs i. tt) (λ rs ts i e. (r_next_let rs).raise ts) ls
      tt

  r_inside : IsPair K no_comma any (s.repeat_body limits) (s.repeat_body more)
  r_inside =
      pair_sign K growth.syntax_ no_comma any sign.OpenBrace _ _
      refl
      (λ _. pair_wider K in_turn any any _ _ (free in_turn)
      (pair_then K in_turn in_turn any (s.turn_lets limits) (s.turn_lets more) _ _ (r_lets [])
      (λ ls. pair_keyword K growth.syntax_ in_turn any
      keyword.Give _ _ (refl, (refl, refl))
      (λ _. pair_then K any no_comma any s.names s.names _ _ r_names
      (λ xs. pair_sign K growth.syntax_ no_comma any
      sign.CloseBrace _ _ refl
      (λ _. whole_given K limits more fair fair_more growth _))))))

  r_repeat : IsPair K any settled (s.repeat_at limits) (s.repeat_at more)
  r_repeat =
      pair_then K any no_comma settled s.repeat_head s.repeat_head _ _ r_head
      (λ h. pair_then K no_comma any settled (s.repeat_body limits) (s.repeat_body more) _ _
      r_inside (λ b. none_settled K _))

  pub r_let : (xs : List (List ℕ)) (z : LetStart)
      → IsPair K any settled (s.after_let limits xs z) (s.after_let more xs z)
  r_let xs (letting.Plain o) = pair_then K any settled settled (s.after_begin limits o)
      (s.after_begin more o) _ _ (r_begin o) (λ y. settled_given K _)
  r_let xs letting.Repeat = pair_then K any settled settled (s.repeat_at limits)
      (s.repeat_at more) _ _ r_repeat (λ r. settled_given K _)
