-- What fits still fits, as functions and nodes are added, and under other numbers.
use Rattle.std.proofs.Common.{◌≡◌, ℕ, List, [], ◌∷◌, ◌++◌, map, Option, Some, None, get_or}
use Rattle.std.proofs.Common.{append_assoc, refl, ap, subst, arith}
use Rattle.std.specs.List.{All, AllZip}
use Rattle.std.proofs.lemmas.List.{append-nil, length-map, map-id}
use Rattle.std.proofs.lemmas.List.Elements.{All-map}
use Rattle.flume_types.specs.declared.types.Ty.{Ty}
use Rattle.script_rules.specs.of_written_types.Named.{Named}
use Rattle.script_rules.specs.of_script_program.declared.made.Emitted.{Emitted}
use Rattle.script_rules.specs.of_script_program.declared.made.Made.{Made}
use Rattle.script_rules.specs.of_script_program.declared.made.Made.TheVariants as made
use Rattle.script_rules.specs.of_script_program.declared.made.Output.{Output}
use Rattle.script_rules.specs.of_script_program.Script.{Function, Node}
use Rattle.script_rules.specs.Repeats.{made_from_others}
use Rattle.script_laws.specs.WellFormed.{Fits, AllFit, AllReadKinds, HasColumns, ComesOfEarlierRun, function_at}
use Rattle.script_laws.specs.WellFormed.{members_at}
use Rattle.script_laws.proofs.PlaceLemmas.{mapped-kept}

-- what fits still fits under other numbers, where these functions and these members are there too
module _ (functions others : Named Function) (a b : Named Node) (to : ℕ → ℕ)
    (calls : (called : ℕ) (function : Function) → function_at functions called ≡ Some function
    → function_at others called ≡ Some function)
    (reads : (n : ℕ) (type : Ty) → members_at a n ≡ Some type → members_at b (to n) ≡ Some type)
  where
    all-reads : (objects : List ℕ) (types : List Ty)
        → AllZip (λ object t. members_at a object ≡ Some t) objects types
        → AllZip (λ object t. members_at b object ≡ Some t) (map to objects) types
    all-reads [] [] all = tt
    all-reads [] (t ∷ types) all = absurd all
    all-reads (object ∷ objects) [] all = absurd all
    all-reads (object ∷ objects) (t ∷ types) all =
        (reads object t all.0, all-reads objects types all.1)

    kept-fits : (call : Option Emitted) (type : Ty) → ComesOfEarlierRun functions call type
        → ComesOfEarlierRun others call type
    kept-fits None type kept = tt
    kept-fits (Some it) type kept = record {
      function = kept.function;
      calls = calls it.function kept.function kept.calls;
      gives = kept.gives;
    }

    pub fits-kept : (how : Made) (type : Ty) → Fits functions a how type
        → Fits others b (made_from_others to how) type
    fits-kept (made.Input file columns) type fits = fits
    fits-kept (made.Do source called output) type fits = record {
      function = fits.function;
      calls = calls called fits.function fits.calls;
      takes = reads source fits.function.signature.takes fits.takes;
      gives = fits.gives;
    }
    fits-kept (made.Group source) type fits = record {
      key = fits.key;
      value = fits.value;
      reads = reads source _ fits.reads;
      gives = fits.gives;
    }
    fits-kept (made.Combine source by) type fits = record {
      key = fits.key;
      member = fits.member;
      value = fits.value;
      reads = reads source _ fits.reads;
      suits = fits.suits;
      gives = fits.gives;
    }
    fits-kept (made.Flatten sources) type fits =
        let long = length-map sources to in
        let some = fits.some in
        record {
          some = omega arith;
          read =
              All-map (λ n. members_at b n ≡ Some type) to sources
              (λ k d below. reads _ type (fits.read k d below));
        }
    fits-kept (made.Count source) type fits = record {
      member = fits.member;
      reads = reads source _ fits.reads;
      gives = fits.gives;
    }
    fits-kept (made.Join left right_) type fits = record {
      key = fits.key;
      left_value = fits.left_value;
      right_value = fits.right_value;
      reads_left = reads left _ fits.reads_left;
      reads_right = reads right_ _ fits.reads_right;
      gives = fits.gives;
    }
    fits-kept (made.Top many source) type fits = record {
      least = fits.least;
      most = fits.most;
      reads = reads source type fits.reads;
    }
    fits-kept (made.CombineAll source by) type fits = record {
      member = fits.member;
      reads = reads source _ fits.reads;
      suits = fits.suits;
    }
    fits-kept (made.Operate objects called) type fits = record {
      function = fits.function;
      calls = calls called fits.function fits.calls;
      types = fits.types;
      reads = all-reads objects fits.types fits.reads;
      takes = fits.takes;
      gives = fits.gives;
    }
    fits-kept (made.DoWith source called object) type fits = record {
      function = fits.function;
      calls = calls called fits.function fits.calls;
      member = fits.member;
      value = fits.value;
      reads = reads source _ fits.reads;
      reads_object = reads object _ fits.reads_object;
      takes = fits.takes;
      gives = fits.gives;
    }
    fits-kept (made.Saved is_object call) type fits = kept-fits call type fits

-- under the numbers that stand there
pub itself : (how : Made) → made_from_others (λ n. n) how ≡ how
itself (made.Flatten sources) = ap (λ l. made.Flatten l) (map-id sources)
itself (made.Operate objects called) = ap (λ l. made.Operate l called) (map-id objects)
itself _ = refl

pub fits-there : (functions others : Named Function) (a b : Named Node)
    → ((called : ℕ) (function : Function) → function_at functions called ≡ Some function
    → function_at others called ≡ Some function)
    → ((n : ℕ) (type : Ty) → members_at a n ≡ Some type → members_at b n ≡ Some type)
    → (how : Made) (type : Ty) → Fits functions a how type → Fits others b how type
fits-there functions others a b calls reads how type fits =
    subst (λ how. Fits others b how type) (itself how)
    (fits-kept functions others a b (λ n. n) calls reads how type fits)

pub all-fit-more : (functions more : Named Function) (before nodes : Named Node)
    → AllFit functions before nodes → AllFit (functions ++ more) before nodes
all-fit-more functions more before [] fit = tt
all-fit-more functions more before (entry ∷ nodes) fit = (
  fits-there functions (functions ++ more) before before
      (mapped-kept (λ (entry : List ℕ × Function). entry.1) functions more) (λ n type is. is)
      entry.1.made entry.1.type fit.0,
  all-fit-more functions more (before ++ entry ∷ []) nodes fit.1,
)

-- nodes that fit behind others fit with them
pub fit-append : (functions : Named Function) (before nodes more : Named Node)
    → AllFit functions before nodes → AllFit functions (before ++ nodes) more
    → AllFit functions before (nodes ++ more)
fit-append functions before [] more fit fits =
    subst (λ nodes. AllFit functions nodes more) (append-nil before) fits
fit-append functions before (first ∷ nodes) more fit fits = (
  fit.0,
  fit-append functions (before ++ first ∷ []) nodes more fit.1
      (subst (λ nodes. AllFit functions nodes more) (simp append_assoc) fits),
)

-- and read objects where they should
pub kinds-append : (before nodes more : Named Node) → AllReadKinds before nodes
    → AllReadKinds (before ++ nodes) more → AllReadKinds before (nodes ++ more)
kinds-append before [] more read reads =
    subst (λ nodes. AllReadKinds nodes more) (append-nil before) reads
kinds-append before (first ∷ nodes) more read reads = (
  read.0,
  kinds-append (before ++ first ∷ []) nodes more read.1
      (subst (λ nodes. AllReadKinds nodes more) (simp append_assoc) reads),
)

columns-kept : (nodes more : Named Node) (output : Output) → HasColumns nodes output
    → HasColumns (nodes ++ more) output
columns-kept nodes more output has = record {
  type = has.type;
  reads =
      mapped-kept (λ (entry : List ℕ × Node). entry.1.type) nodes more output.reads has.type
      has.reads;
  columns = has.columns;
}

pub outputs-kept : (nodes more : Named Node) (outputs : Named Output)
    → All (λ (entry : List ℕ × Output). HasColumns nodes entry.1) outputs
    → All (λ (entry : List ℕ × Output). HasColumns (nodes ++ more) entry.1) outputs
outputs-kept nodes more outputs all k entry in_ =
    columns-kept nodes more (get_or outputs k entry).1 (all k entry in_)
