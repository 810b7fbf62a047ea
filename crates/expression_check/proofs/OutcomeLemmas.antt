-- What is given with its type, and what makes slots right.
use Rattle.std.proofs.Common.{◌≡◌, Bool, true, false, cond, Option, Some, None, Ok, Err, List, refl, sym, ap, ◌∙◌}
use Rattle.flume_value.specs.declared.value.Value.{Value}
use Rattle.flume_value.specs.Parts.{bool_of}
use Rattle.type_table.specs.of_flume_types.declared.types.Ty.{Ty}
use Rattle.dofn_eval.specs.declared.expr.Expr.{Expr as Slots}
use Rattle.dofn_eval.specs.Outcome.{Outcome, Gives, Traps, Stuck, then, then_both, with_part}
use Rattle.dofn_eval.specs.Operations.{chosen}
use Rattle.dofn_eval.specs.Meaning.{expression_value}
use Rattle.dofn_eval.specs.Typed as typing
use Rattle.expression_types.specs.of_written_types.Answer.{Checked, ◌>>=◌}
use Rattle.expression_types.specs.Sight.{Newest}
use Rattle.expression_check.specs.Given.{Thing, Environment, tagged, valued}
use Rattle.expression_check.specs.Right.{types, bound, IsRight}

abbrev pub Giving : Type 0
Giving = Environment → Outcome Thing

pub right_made : (names : Newest Ty) (k : Slots) (u type : Checked Ty) (given : Giving) → type ≡ u
    → ((t : Ty) → u ≡ Ok t → typing.Typed (types names) k t
    × ((vs : List Value) → given (bound names vs) ≡ tagged t (expression_value k vs)))
    → IsRight names (u >>= λ t. Ok (k, t)) type given
right_made names k (Err f) type given e h = e
right_made names k (Ok t) type given e h = let p = h t refl in (e, p.0, p.1)

-- ---- outcomes with their types

tagged_goes : (t : Ty) (o : Outcome Value) (f : Thing → Outcome Thing)
    → then (tagged t o) f ≡ then o (λ v. f (t, v))
tagged_goes t (Gives v) f = refl
tagged_goes t (Traps k) f = refl
tagged_goes t Stuck f = refl

tagged_then : (t : Ty) (o : Outcome Value) (f : Value → Outcome Value)
    → then o (λ v. tagged t (f v)) ≡ tagged t (then o f)
tagged_then t (Gives v) f = refl
tagged_then t (Traps k) f = refl
tagged_then t Stuck f = refl

pub tagged_both : (t u w : Ty) (o p : Outcome Value) (f : Thing → Thing → Outcome Thing)
    (g : Value → Value → Outcome Value) → ((v x : Value) → f (t, v) (u, x) ≡ tagged w (g v x))
    → then_both (tagged t o) (tagged u p) f ≡ tagged w (then_both o p g)
tagged_both t u w (Gives v) (Gives x) f g h = h v x
tagged_both t u w (Gives v) (Traps k) f g h = refl
tagged_both t u w (Gives v) Stuck f g h = refl
tagged_both t u w (Traps k) p f g h = refl
tagged_both t u w Stuck p f g h = refl

tagged_test : (w : Ty) (b : Option Bool) (x y : Outcome Value)
    → with_part b (λ c. cond c (tagged w x) (tagged w y)) ≡ tagged w (with_part b (λ c. cond c x y))
tagged_test w None x y = refl
tagged_test w (Some true) x y = refl
tagged_test w (Some false) x y = refl

pub tagged_chosen : (t w : Ty) (o x y : Outcome Value)
    → chosen (valued (tagged t o)) (tagged w x) (tagged w y) ≡ tagged w (chosen o x y)
tagged_chosen t w (Gives v) x y = tagged_test w (bool_of v) x y
tagged_chosen t w (Traps k) x y = refl
tagged_chosen t w Stuck x y = refl

-- one operand
pub same_one : (names : Newest Ty) (k : Slots) (t u : Ty) (f : Thing → Outcome Thing)
    (g : Value → Outcome Value) (given : Giving) (whole : Slots)
    → ((vs : List Value) → given (bound names vs) ≡ tagged t (expression_value k vs))
    → ((v : Value) → f (t, v) ≡ tagged u (g v))
    → ((vs : List Value) → expression_value whole vs ≡ then (expression_value k vs) g)
    → (vs : List Value) → then (given (bound names vs)) f ≡ tagged u (expression_value whole vs)
same_one names k t u f g given whole h step is vs =
    ap (λ o. then o f) (h vs) ∙ tagged_goes t (expression_value k vs) f
    ∙ ap (then (expression_value k vs)) (λ i v. step v i)
    ∙ tagged_then u (expression_value k vs) g ∙ ap (tagged u) (sym (is vs))
