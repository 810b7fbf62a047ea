-- From what a parse by `clap` says to what the words ask for.
use Rattle.std.proofs.Common.{◌≡◌, ◌∙◌, true, false, List, [], ◌∷◌, refl, sym, ap, ap₂, subst, inl, inr, ne_eqb, arith, true≢false}
use Rattle.std.specs.Prelude.{Err, IfOk, IfSome, IsErr, IsOkAnd, None, Ok, Option, Result, ◌||◌, if◌then◌else◌}
use Rattle.clap.specs.Words.{AddsArg, App, HasKind, HasMatchesOf, IsAmong, Kinds, Row, Rule, Text, app_of, fault_of, is_simple, is_simple_and_free, kind_of, rule_of, subcommand_of, subcommand_rows_of, with_rule, with_subcommand}
use Rattle.clap.specs.Walk.{is_empty}
use Rattle.clap.specs.declared.builder.arg.Arg.{Arg}
use Rattle.clap.specs.declared.builder.command.Command.{Command}
use Rattle.clap.specs.declared.builder.command.Command.TheViews.{out-Command}
use Rattle.clap.specs.declared.error.Error.{Error}
use Rattle.clap.specs.declared.error.kind.ErrorKind.{ErrorKind}
use Rattle.clap.specs.declared.error.kind.ErrorKind.TheVariants.{OutOfMemory}
use Rattle.clap.specs.declared.parser.matches.ArgMatches.{ArgMatches}
use Rattle.command_words.specs.Cached.{cached_app}
use Rattle.command_words.specs.Words.{asks_by, flume_app}

pub simple : is_simple flume_app ≡ true
simple = refl

pub free : is_simple_and_free flume_app ≡ true
free = refl

pub cached_simple : is_simple cached_app ≡ true
cached_simple = refl

pub cached_free : is_simple_and_free cached_app ≡ true
cached_free = refl

-- ---- a command with one more argument

pub added : (old new : Command) (a : Arg) (app : App) (rule : Rule) → AddsArg old a new
    → a.global ≡ false → rule_of a ≡ rule → app_of old ≡ app → app_of new ≡ with_rule app rule
added old new a app rule adds local is before = adds.shape local ∙ ap₂ with_rule before is

pub stays_local : (old new : Command) (a : Arg) → AddsArg old a new → a.global ≡ false
    → (out-Command old).has_globals ≡ false → (out-Command new).has_globals ≡ false
stays_local old new a adds local before = adds.globals ∙ ap₂ (λ x y. x || y) before local

-- ---- a command line with one more command

pub one_more : {E : Type 0} (line longer : Command) (command : Result Command E) (app sub : App)
    → IsOkAnd command (λ one. app_of longer ≡ with_subcommand (app_of line) (app_of one).top)
    → IfOk command (λ one. app_of one ≡ sub) → app_of line ≡ app
    → app_of longer ≡ with_subcommand app sub.top
one_more line longer (Ok one) app sub adds is before =
    adds ∙ ap₂ with_subcommand before (ap (λ (a : App). a.top) is)
one_more line longer (Err e) app sub adds is before = absurd adds

-- ---- what a parse says

among : (kind : ErrorKind) (kinds : Kinds) → IsAmong kind kinds → is_empty kinds ≡ false
among kind [] h = absurd h
among kind (k ∷ ks) h = ne_eqb _ _ (λ e. omega arith)

-- a refusal that fails only for memory answers with nothing, which is what the words ask for
refusal_answers : {A B E : Type 0} (view : Option A → Option B) (r : Result (Option A) E)
    (answer : Option B) (Memory : Type 0)
    → IfOk r (λ a. a ≡ None) → (Memory → IsErr r) → ((Memory → ⊥) → view None ≡ answer)
    → IfOk r (λ a. view a ≡ answer)
refusal_answers view (Ok a) answer Memory nothing memory other =
    ap view nothing ∙ other (λ m. true≢false (sym (memory m)))
refusal_answers view (Err e) answer Memory nothing memory other = tt

-- by a command line that is simple and without conditions
module _ (app : App) (simple : is_simple app ≡ true) (free : is_simple_and_free app ≡ true) where
  -- words that are taken ask for what their matches say
  pub taken_by : {A : Type 0} (read : Option (Text × List Row) → Option A) (line : App)
      (words : List Text) (m : ArgMatches) → line ≡ app → HasMatchesOf line words m
      → (is_simple_and_free line ≡ true → fault_of line words ≡ [])
      → read (subcommand_rows_of m) ≡ asks_by app read words
  taken_by read line words m is matches faultless =
      let none : fault_of app words ≡ []
      = ap (λ a. fault_of a words) (sym is) ∙ faultless (ap is_simple_and_free is ∙ free) in
      let met = (matches (ap is_simple is ∙ simple)).1 in
      ap read (met ∙ ap (λ a. subcommand_of a words) is)
      ∙ ap (λ (fault : Kinds). if is_empty fault then read (subcommand_of app words) else None)
      (sym none)

  -- words that are refused for another cause than memory ask for nothing
  refused_by : {A : Type 0} (read : Option (Text × List Row) → Option A) (line : App)
      (words : List Text) (e : Error) → line ≡ app
      → (is_simple_and_free line ≡ true → HasKind (fault_of line words) e)
      → (kind_of e ≡ OutOfMemory → ⊥)
      → None ≡ asks_by app read words
  refused_by read line words e is fails other = elim (fails (ap is_simple_and_free is ∙ free)) [
    | inl memory ↦ absurd (other memory)
    | inr h ↦
        let some = ap (λ a. is_empty (fault_of a words)) (sym is)
        ∙ among (kind_of e) (fault_of line words) h in
        ap (λ b. if b then read (subcommand_of app words) else None) (sym some)
  ]

  -- and are answered so, but at want of memory
  pub refused_for : {A B E : Type 0} (view : Option A → Option B)
      (read : Option (Text × List Row) → Option B) (line : App) (words : List Text) (e : Error)
      (kind : ErrorKind) (r : Result (Option A) E) → view None ≡ None → line ≡ app
      → (is_simple_and_free line ≡ true → HasKind (fault_of line words) e) → kind ≡ kind_of e
      → IfOk r (λ a. a ≡ None) → (kind ≡ OutOfMemory → IsErr r)
      → IfOk r (λ a. view a ≡ asks_by app read words)
  refused_for view read line words e kind r none is fails same nothing memory =
      refusal_answers view r (asks_by app read words) (kind ≡ OutOfMemory) nothing memory
      (λ other. none ∙ refused_by read line words e is fails (λ met. other (same ∙ met)))

-- a refusal answers with nothing that would have to be within limits
pub refusal_within : {A E : Type 0} (P : A → Type 0) (r : Result (Option A) E)
    → IfOk r (λ a. a ≡ None) → IfOk r (λ a. IfSome a P)
refusal_within P (Ok a) nothing = subst (λ o. IfSome o P) (sym nothing) tt
refusal_within P (Err e) nothing = tt
