-- The outputs of a call stand one after another, as collections and functions are added.
use Rattle.std.proofs.Common.{◌≡◌, ℕ, zero, suc, ◌+◌, ◌<◌, List, [], ◌∷◌, ◌++◌, length, map, Some}
use Rattle.std.proofs.Common.{slice_get, refl, sym, ap, ◌∙◌, subst, arith, ⊎_elim}
use Rattle.std.specs.Prelude.{⊤}
use Rattle.std.proofs.lemmas.Option.{slice_get_within}
use Rattle.flume_types.specs.declared.types.Ty.{Ty}
use Rattle.script_rules.specs.of_written_types.Named.{Named}
use Rattle.script_rules.specs.Operations.{outputs_from}
use Rattle.script_rules.specs.of_script_program.declared.made.Made.{Made}
use Rattle.script_rules.specs.of_script_program.declared.made.Made.TheVariants as made
use Rattle.script_rules.specs.of_script_program.Script.{Function}
use Rattle.script_laws.specs.WellFormed.{function_at}
use Rattle.script_laws.proofs.MakingLemmas.{IsOther}
use Rattle.script_laws.proofs.NewLemmas.{how_making}
use Rattle.script_laws.proofs.PlaceLemmas.{IsBehind, behind-is, front-kept, front-or-behind}
use Rattle.script_laws.proofs.PlaceLemmas.{mapped-kept}

-- as `IsCallOf` says it of a script that keeps nothing, of how collections are made
pub record Stands (functions : Named Function) (all : List Made)
    (number source called output : ℕ) : Type 0 where
  pub first : ℕ
  pub place : first + output ≡ number
  pub function : Function
  pub calls : function_at functions called ≡ Some function
  pub outputs : (k : ℕ) → k < length function.signature.gives
      → slice_get all (first + k) ≡ Some (made.Do source called k)

abbrev pub CallsStand : Named Function → List Made → Type 0
CallsStand functions all =
    (number source called output : ℕ) → slice_get all number ≡ Some (made.Do source called output)
    → Stands functions all number source called output

-- ---- one function more

pub calls-more : (functions more : Named Function) (all : List Made) → CallsStand functions all
    → CallsStand (functions ++ more) all
calls-more functions more all stand number source called output is =
    let it = stand number source called output is in
    record {
      first = it.first;
      place = it.place;
      function = it.function;
      calls =
          mapped-kept (λ (entry : List ℕ × Function). entry.1) functions more called it.function
          it.calls;
      outputs = it.outputs;
    }

-- ---- more collections

module _ (functions : Named Function) (all more : List Made) where
  stands-in-front : (number source called output : ℕ)
      → Stands functions all number source called output
      → Stands functions (all ++ more) number source called output
  stands-in-front number source called output it = record {
    first = it.first;
    place = it.place;
    function = it.function;
    calls = it.calls;
    outputs =
        λ k below. front-kept all more (it.first + k) (made.Do source called k)
        (it.outputs k below);
  }

  -- where those that are added stand as they should, all do
  pub calls-append : CallsStand functions all
      → ((number source called output : ℕ)
      → slice_get more number ≡ Some (made.Do source called output)
      → Stands functions (all ++ more) (length all + number) source called output)
      → CallsStand functions (all ++ more)
  calls-append stand added number source called output is =
      ⊎_elim
      (λ (front : slice_get all number ≡ Some (made.Do source called output)).
      stands-in-front number source called output (stand number source called output front))
      (λ (behind : IsBehind all more number (made.Do source called output)).
      subst (λ n. Stands functions (all ++ more) n source called output) (sym behind.at)
      (added behind.number source called output behind.is))
      (front-or-behind all more number (made.Do source called output) is)

-- ---- a collection that is no output of a call

abbrev pub IsNoCall : Made → Type 0
IsNoCall (made.Do source function output) = ⊥
IsNoCall _ = ⊤

pub other-no-call : (how : Made) → IsOther how → IsNoCall how
other-no-call (made.Do source function output) other = other
other-no-call _ other = tt

no-call : (how : Made) (source called output : ℕ) → IsNoCall how
    → how ≡ made.Do source called output → ⊥
no-call how source called output other e = subst IsNoCall e other

none-there : (how : Made) (number source called output : ℕ) → IsNoCall how
    → slice_get (how ∷ []) number ≡ Some (made.Do source called output) → ⊥
none-there how zero source called output other e =
    let same : how ≡ made.Do source called output = cc in
    no-call how source called output other same
none-there how (suc number) source called output other e = cc

pub calls-push : (functions : Named Function) (all : List Made) (how : Made)
    → IsNoCall how → CallsStand functions all → CallsStand functions (all ++ how ∷ [])
calls-push functions all how other stand =
    calls-append functions all (how ∷ []) stand
    (λ number source called output is.
    absurd (none-there how number source called output other is))

-- ---- the outputs of a call

module _ (source called : ℕ) where
  abbrev mades : ℕ → List Ty → List Made
  mades output types = map how_making (outputs_from source called output types)

  many : (output : ℕ) (types : List Ty) → length (mades output types) ≡ length types
  many output [] = refl
  many output (t ∷ types) =
      let rest = many (suc output) types in
      omega (arith, rest)

  output-at : (output : ℕ) (types : List Ty) (k : ℕ) → k < length types
      → slice_get (mades output types) k ≡ Some (made.Do source called (output + k))
  output-at output [] k below = absurd (omega (arith, below))
  output-at output (t ∷ types) zero below =
      let here : output ≡ output + 0 = omega arith in
      ap (λ n. Some (made.Do source called n)) here
  output-at output (t ∷ types) (suc k) below =
      let next : suc output + k ≡ output + suc k = omega arith in
      output-at (suc output) types k (omega (arith, below))
      ∙ ap (λ n. Some (made.Do source called n)) next

-- a call's outputs stand where they are added
module _ (functions : Named Function) (all : List Made) (source called : ℕ) (function : Function)
    (calls : function_at functions called ≡ Some function) where
  abbrev gives : List Ty
  gives = function.signature.gives

  abbrev more : List Made
  more = mades source called 0 gives

  stands-added : (k : ℕ) → Stands functions (all ++ more) (length all + k) source called k
  stands-added k = record {
    first = length all;
    place = refl;
    function = function;
    calls = calls;
    outputs =
        λ n below.
        let here : 0 + n ≡ n = omega arith in
        behind-is all more n
        ∙ output-at source called 0 gives n below
        ∙ ap (λ m. Some (made.Do source called m)) here;
  }

  moved : (number s c output : ℕ) → source ≡ s → called ≡ c → number ≡ output
      → Stands functions (all ++ more) (length all + number) s c output
  moved number s c output one two three =
      subst (λ it. Stands functions (all ++ more) (length all + number) it c output) one
      (subst (λ it. Stands functions (all ++ more) (length all + number) source it output) two
      (subst (λ it. Stands functions (all ++ more) (length all + number) source called it) three
      (stands-added number)))

  pub calls-outputs : CallsStand functions all → CallsStand functions (all ++ more)
  calls-outputs stand =
      calls-append functions all more stand
      (λ number s c output is.
      let below = slice_get_within more number (made.Do s c output) is in
      let there =
      output-at source called 0 gives number (omega (arith, below, many source called 0 gives)) in
      let same : made.Do source called (0 + number) ≡ made.Do s c output =
      let e = sym there ∙ is in cc in
      let one : source ≡ s = cc in
      let two : called ≡ c = cc in
      let three : 0 + number ≡ output = cc in
      moved number s c output one two (omega (arith, three)))
