-- The needed collections as they are computed are those from which a path of reads leads to an
-- output.
use Rattle.std.proofs.Common.{◌≡◌, ℕ, zero, suc, ◌+◌, ◌<◌, Bool, true, false, eqb, ◌↔◌, List, []}
use Rattle.std.proofs.Common.{◌∷◌, ◌++◌, length, map, drop, Option, Some, None, if◌then◌else◌}
use Rattle.std.proofs.Common.{slice_get, IsSomeAnd, length-append, refl, sym, subst, arith, ⊎_elim}
use Rattle.std.specs.Bool.{IsTrue}
use Rattle.std.specs.List.{AllZip, Contains, slice_index_or}
use Rattle.std.specs.Option.{option_map}
use Rattle.std.proofs.lemmas.Bool.{eqb-true, eq-eqb}
use Rattle.std.proofs.lemmas.List.Elements.{Contains-append_left, Contains-append_right}
use Rattle.std.proofs.lemmas.List.Elements.{Contains-append_cases}
use Rattle.std.proofs.lemmas.List.Folds.{Any-from_list_any, list_any-from_Any}
use Rattle.std.proofs.lemmas.Option.{slice_get_within}
use Rattle.flume_types.specs.declared.types.Ty.{Ty}
use Rattle.script_rules.specs.of_written_types.Named.{Named}
use Rattle.script_rules.specs.of_script_program.declared.made.Made.{Made}
use Rattle.script_rules.specs.of_script_program.declared.made.Made.TheVariants as made
use Rattle.script_rules.specs.of_script_program.Script.{Function, Node, Script}
use Rattle.script_rules.specs.of_script_program.Needed.{operands, made_of, IsNeeded, LeadsToOutput, holds_number, is_needed}
use Rattle.script_rules.specs.of_script_program.Needed.{outputs_read, read_from, with_reads}
use Rattle.script_laws.specs.WellFormed.{members_at, Fits, AllFit, IsWellFormed}
use Rattle.script_laws.proofs.NewLemmas.{how_made}

-- ---- numbers of a list

has-from : (xs : List ℕ) (n : ℕ) → Contains xs n → holds_number xs n ≡ true
has-from xs n is = list_any-from_Any (λ it. eqb it n) xs (is.0, n, is.1, is.2, eq-eqb n n refl)

from-has : (xs : List ℕ) (n : ℕ) → holds_number xs n ≡ true → Contains xs n
from-has xs n is =
    let some = Any-from_list_any (λ it. eqb it n) xs is in
    (some.0, some.2, subst (λ m. slice_index_or xs some.0 m ≡ m) (eqb-true some.1 n some.4) some.3)

only_at : (x n k : ℕ) → k < 1 → slice_index_or (x ∷ []) k n ≡ n → x ≡ n
only_at x n zero within is = is
only_at x n (suc k) within is = absurd (omega arith)

only : (x n : ℕ) → Contains (x ∷ []) n → x ≡ n
only x n is = only_at x n is.0 is.1 is.2

-- ---- what a collection is made from stands before it

there : (before : Named Node) (n : ℕ) (type : Ty) (o : Option (List ℕ × Node))
    → slice_get before n ≡ o → option_map (λ (entry : List ℕ × Node). entry.1.type) o ≡ Some type
    → n < length before
there before n type None is e = cc
there before n type (Some entry) is e = slice_get_within before n entry is

pub read_at : (before : Named Node) (n : ℕ) (type : Ty) → members_at before n ≡ Some type
    → n < length before
read_at before n type is = there before n type (slice_get before n) refl is

at_source : (before : Named Node) (source n : ℕ) (type : Ty) → members_at before source ≡ Some type
    → Contains (source ∷ []) n → n < length before
at_source before source n type is reads =
    subst (λ m. m < length before) (only source n reads) (read_at before source type is)

at_objects : (before : Named Node) (objects : List ℕ) (types : List Ty)
    → AllZip (λ object t. members_at before object ≡ Some t) objects types → (n : ℕ)
    → Contains objects n → n < length before
at_objects before [] [] read n reads = let within = reads.1 in absurd (omega arith)
at_objects before [] (t ∷ types) read n reads = absurd read
at_objects before (object ∷ objects) [] read n reads = absurd read
at_objects before (object ∷ objects) (t ∷ types) read n reads =
    ⊎_elim (λ (here : Contains (object ∷ []) n). at_source before object n t read.0 here)
    (λ there. at_objects before objects types read.1 n there)
    (Contains-append_cases (object ∷ []) objects n reads)

-- an operand of a collection is the number of one before it
pub operand_before : (functions : Named Function) (before : Named Node) (how : Made) (type : Ty)
    → Fits functions before how type → (n : ℕ) → Contains (operands how) n → n < length before
operand_before functions before (made.Input file columns) type fits n reads =
    let within = reads.1 in absurd (omega arith)
operand_before functions before (made.Do source function output) type fits n reads =
    at_source before source n _ fits.takes reads
operand_before functions before (made.Group source) type fits n reads =
    at_source before source n _ fits.reads reads
operand_before functions before (made.Combine source by) type fits n reads =
    at_source before source n _ fits.reads reads
operand_before functions before (made.Flatten sources) type fits n reads =
    read_at before n type
    (subst (λ m. members_at before m ≡ Some type) reads.2 (fits.read reads.0 n reads.1))
operand_before functions before (made.Count source) type fits n reads =
    at_source before source n _ fits.reads reads
operand_before functions before (made.Join left right_) type fits n reads =
    ⊎_elim (λ (here : Contains (left ∷ []) n). at_source before left n _ fits.reads_left here)
    (λ there. at_source before right_ n _ fits.reads_right there)
    (Contains-append_cases (left ∷ []) (right_ ∷ []) n reads)
operand_before functions before (made.Top number source) type fits n reads =
    at_source before source n _ fits.reads reads
operand_before functions before (made.CombineAll source by) type fits n reads =
    at_source before source n _ fits.reads reads
operand_before functions before (made.Operate objects function) type fits n reads =
    at_objects before objects fits.types fits.reads n reads
operand_before functions before (made.DoWith source function object) type fits n reads =
    ⊎_elim (λ (here : Contains (source ∷ []) n). at_source before source n _ fits.reads here)
    (λ there. at_source before object n _ fits.reads_object there)
    (Contains-append_cases (source ∷ []) (object ∷ []) n reads)
operand_before functions before (made.Saved is_object call) type fits n reads =
    let within = reads.1 in absurd (omega arith)

-- ---- from what is read to the path

at_drop : (all : List Made) (k : ℕ) (how : Made) (rest : List Made) → drop k all ≡ how ∷ rest
    → (slice_get all k ≡ Some how) × (drop (suc k) all ≡ rest)
at_drop [] zero how rest is = cc
at_drop [] (suc k) how rest is = cc
at_drop (first ∷ all) zero how rest is = (cc, cc)
at_drop (first ∷ all) (suc k) how rest is = at_drop all k how rest is

module _ (script : Script) where
  at_node : (later : List ℕ) (k : ℕ) (how : Made) (n : ℕ) → slice_get (made_of script) k ≡ Some how
      → ((m : ℕ) → Contains later m → IsNeeded script m) → (b : Bool) → holds_number later k ≡ b
      → Contains (if b then operands how ++ later else later) n → IsNeeded script n
  at_node later k how n is deeper true read reads =
      ⊎_elim (λ (here : Contains (operands how) n).
      let path = deeper k (from-has later k read) in
      let reads_it =
      subst (λ o. IsSomeAnd o (λ (it : Made). Contains (operands it) n)) (sym is) here in
      (k ∷ path.0, (reads_it, path.1)))
      (λ behind. deeper n behind) (Contains-append_cases (operands how) later n reads)
  at_node later k how n is deeper false read reads = deeper n reads

  leads : (k : ℕ) (rest : List Made) → drop k (made_of script) ≡ rest → (n : ℕ)
      → Contains (read_from (outputs_read script) k rest) n → IsNeeded script n
  leads k [] is n reads = ([], reads)
  leads k (how ∷ rest) is n reads =
      let next = at_drop (made_of script) k how rest is in
      let later = read_from (outputs_read script) (suc k) rest in
      at_node later k how n next.0 (leads (suc k) rest next.1) (holds_number later k) refl reads

  needed-from : (n : ℕ) → is_needed script n ≡ true → IsNeeded script n
  needed-from n is =
      leads 0 (made_of script) refl n
      (from-has (read_from (outputs_read script) 0 (made_of script)) n is)

-- ---- from the path to what is read

kept_at : (later xs : List ℕ) (n : ℕ) (b : Bool) → Contains later n
    → Contains (if b then xs ++ later else later) n
kept_at later xs n true is = Contains-append_right xs later n is
kept_at later xs n false is = is

kept : (later : List ℕ) (k : ℕ) (how : Made) (n : ℕ) → Contains later n
    → Contains (with_reads later k how) n
kept later k how n is = kept_at later (operands how) n (holds_number later k) is

outputs_kept : (outputs : List ℕ) (k : ℕ) (all : List Made) (n : ℕ) → Contains outputs n
    → Contains (read_from outputs k all) n
outputs_kept outputs k [] n is = is
outputs_kept outputs k (how ∷ all) n is =
    kept (read_from outputs (suc k) all) k how n (outputs_kept outputs (suc k) all n is)

-- the operands of a collection that is read are read
here_at : (later xs : List ℕ) (k n : ℕ) (b : Bool) → holds_number later k ≡ b
    → Contains (if b then xs ++ later else later) k → Contains xs n
    → Contains (if b then xs ++ later else later) n
here_at later xs k n true is read reads = Contains-append_left xs later n reads
here_at later xs k n false is read reads = let e = has-from later k read in cc

-- a number that a collection does not read is read behind it
behind_at : (later xs : List ℕ) (r : ℕ) (b : Bool) → (Contains xs r → ⊥)
    → Contains (if b then xs ++ later else later) r → Contains later r
behind_at later xs r true away read =
    ⊎_elim (λ (here : Contains xs r). absurd (away here)) (λ behind. behind)
    (Contains-append_cases xs later r read)
behind_at later xs r false away read = read

step : (functions : Named Function) (outputs : List ℕ) (before rest : Named Node) (k : ℕ)
    → length before ≡ k → AllFit functions before rest → (i r : ℕ) → r ≡ k + i → (how : Made)
    → slice_get (map how_made rest) i ≡ Some how
    → Contains (read_from outputs k (map how_made rest)) r → (n : ℕ) → Contains (operands how) n
    → Contains (read_from outputs k (map how_made rest)) n
step functions outputs before [] k len fit i r at how is read n reads = cc
step functions outputs before (first ∷ rest) k len fit zero r at how is read n reads =
    let later = read_from outputs (suc k) (map how_made rest) in
    let same : first.1.made ≡ how = cc in
    let here : r ≡ k = omega arith in
    here_at later (operands first.1.made) k n (holds_number later k) refl
    (subst (λ m. Contains (with_reads later k first.1.made) m) here read)
    (subst (λ (it : Made). Contains (operands it) n) (sym same) reads)
step functions outputs before (first ∷ rest) k len fit (suc i) r at how is read n reads =
    let later = read_from outputs (suc k) (map how_made rest) in
    let away : Contains (operands first.1.made) r → ⊥ =
    λ reads.
    let below = operand_before functions before first.1.made first.1.type fit.0 r reads in
    omega arith in
    let longer = length-append before (first ∷ []) in
    kept later k first.1.made n
    (step functions outputs (before ++ first ∷ []) rest (suc k) (omega arith) fit.1 i r
    (omega arith) how is
    (behind_at later (operands first.1.made) r (holds_number later k) away read) n reads)

module _ (script : Script) (well : IsWellFormed script) where
  abbrev all_read : List ℕ
  all_read = read_from (outputs_read script) 0 (made_of script)

  read_by : (n reader : ℕ) → Contains all_read reader → (o : Option Made)
      → slice_get (made_of script) reader ≡ o
      → IsSomeAnd o (λ how. Contains (operands how) n) → Contains all_read n
  read_by n reader read None is reads = absurd reads
  read_by n reader read (Some how) is reads =
      step script.functions (outputs_read script) [] script.nodes 0 refl well.nodes reader reader
      (omega arith) how is read n reads

  read : (n : ℕ) (path : List ℕ) → LeadsToOutput script n path → Contains all_read n
  read n [] leads = outputs_kept (outputs_read script) 0 (made_of script) n leads
  read n (reader ∷ path) leads =
      read_by n reader (read reader path leads.1) (slice_get (made_of script) reader) refl leads.0

  is_needed-from : (n : ℕ) → IsNeeded script n → is_needed script n ≡ true
  is_needed-from n is = has-from all_read n (read n is.0 is.1)

  pub needed_law : (n : ℕ) → IsTrue (is_needed script n) ↔ IsNeeded script n
  needed_law n = (needed-from script n, is_needed-from n)
