-- What is in sight after statements and what they emit, one level at a time.
use Rattle.std.proofs.Common.{◌≡◌, Ok, List, [], ◌∷◌, map, refl, ◌∙◌}
use Rattle.flume_types.specs.declared.types.Ty.{Ty, out-Ty}
use Rattle.flume_grammar.specs.declared.tree.Body.{Body, Body-F, out-Body, map-Body, fold_out-Body}
use Rattle.flume_grammar.specs.declared.fault.ScriptKind.TheVariants.{Mistyped}
use Rattle.dofn_eval.specs.Outcome.{Outcome, Gives, then}
use Rattle.dofn_eval.specs.Operations.{chosen}
use Rattle.dofn_eval.proofs.MeaningLemmas.{all_mapped}
use Rattle.expression_check.specs.of_written_types.Answer.{Checked, ◌>>=◌, unless, or_fault}
use Rattle.expression_check.specs.of_written_types.Named.{Named, fresh}
use Rattle.expression_check.proofs.of_written_types.FailsLemmas.{bind-same}
use Rattle.expression_check.specs.of_expression_types.Sight.{Sight, with_name}
use Rattle.expression_check.specs.of_expression_types.Fields.{member_type, side_types}
use Rattle.expression_check.specs.of_expression_types.Types.{is_bool}
use Rattle.expression_check.specs.Types.{type_of}
use Rattle.expression_check.specs.Given.{valued, given_in}
use Rattle.body_check.specs.Bodies.{after_all, layer_after, sight_after}
use Rattle.body_check.specs.Call.{NameState, state, block, for_each, by_side, after}
use Rattle.body_check.specs.Call.{layer_emitted, emitted_in}

after_mapped : {X : Type 0} (f : X → Sight → Checked Sight) (xs : List X) (s : Sight)
    → after_all (λ m. m) (map f xs) s ≡ after_all f xs s
after_mapped f [] s = refl
after_mapped f (x ∷ xs) s = bind-same (f x s) _ _ (λ next. after_mapped f xs next)

block_mapped : {X : Type 0} (f : X → NameState → Outcome NameState) (xs : List X)
    → block (λ m. m) (map f xs) ≡ block f xs
block_mapped f xs = λ i env out. then (all_mapped f xs (state env out) i) (λ s. Gives s.out)

module _ (known : Named Ty) where
  body_mapped : (f : Body → NameState → Outcome NameState) (x : Body-F Body) (s : NameState)
      → layer_emitted known (λ m. m) (map-Body Body (NameState → Outcome NameState) f x) s
      ≡ layer_emitted known f x s
  body_mapped f (Body-F.If line e a b) s =
      λ i. after s.env (chosen (valued (given_in line known e s.env))
      (block_mapped f a i s.env s.out) (block_mapped f b i s.env s.out))
  body_mapped f (Body-F.For line name e inner) s =
      λ i. after s.env (then (given_in line known e s.env)
      (λ x. for_each (block_mapped f inner i) name x s.env s.out))
  body_mapped f (Body-F.Case line e left a right b) s =
      λ i. after s.env (then (given_in line known e s.env)
      (λ x. by_side (block_mapped f a i) left (block_mapped f b i) right x s.env s.out))
  body_mapped f _ s = refl

  pub emitted_in-step : (b : Body) (s : NameState)
      → emitted_in known b s ≡ layer_emitted known (emitted_in known) (out-Body b) s
  emitted_in-step b s = (λ i. fold_out-Body _ (layer_emitted known (λ m. m)) b i s)
      ∙ body_mapped (emitted_in known) (out-Body b) s

module _ (gives : List Ty) where
  names_mapped : (f : Body → Sight → Checked Sight) (x : Body-F Body) (s : Sight)
      → layer_after gives (λ m. m) (map-Body Body (Sight → Checked Sight) f x) s
      ≡ layer_after gives f x s
  names_mapped f (Body-F.If line e a b) s =
      λ i. type_of line e s >>= λ t. unless line Mistyped (is_bool (out-Ty t)) >>= λ test.
      after_mapped f a s i >>= λ x. after_mapped f b s i >>= λ y. Ok s
  names_mapped f (Body-F.For line name e inner) s =
      λ i. fresh line name s.names >>= λ new. type_of line e s >>= λ t.
      or_fault line Mistyped (member_type t) >>= λ member.
      after_mapped f inner (with_name name member s) i >>= λ x. Ok s
  names_mapped f (Body-F.Case line e left a right b) s =
      λ i. type_of line e s >>= λ t. or_fault line Mistyped (side_types t) >>= λ sides.
      fresh line left s.names >>= λ new. after_mapped f a (with_name left sides.0 s) i >>= λ x.
      fresh line right s.names >>= λ also.
      after_mapped f b (with_name right sides.1 s) i >>= λ y. Ok s
  names_mapped f _ s = refl

  pub after-step : (b : Body) (s : Sight)
      → sight_after gives b s ≡ layer_after gives (sight_after gives) (out-Body b) s
  after-step b s = (λ i. fold_out-Body _ (layer_after gives (λ m. m)) b i s)
      ∙ names_mapped (sight_after gives) (out-Body b) s
