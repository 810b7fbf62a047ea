-- What is made of the same collections is the same, whatever their numbers are.
use Rattle.std.proofs.Common.{◌≡◌, ℕ, ◌-◌, ◌<◌, List, [], ◌∷◌, map, Option, refl, sym, subst}
use Rattle.std.proofs.Common.{ap, ◌∙◌, ⊎_elim}
use Rattle.std.specs.List.{AllByRecursion as Each, Contains}
use Rattle.std.specs.Option.{option_and_then, option_map}
use Rattle.flume_collection.proofs.Members.{at_head, at_tail, head_or_tail, not_in_none}
use Rattle.flume_collection.specs.Collection.{Collection, by_key, together}
use Rattle.flume_value.specs.declared.value.Value.{Value}
use Rattle.script_program.specs.declared.made.Made.{Made}
use Rattle.script_program.specs.declared.made.Made.TheVariants as made
use Rattle.script_program.specs.Needed.{operands}
use Rattle.script_program.specs.Script.{Script}
use Rattle.script_laws.specs.WellFormed.{function_at}
use Rattle.script_laws.proofs.FitLemmas.{itself}
use Rattle.direct_meaning.specs.Direct.{all_made, combined_by, counted_by, done_by, joined_collections}
use Rattle.direct_meaning.specs.Direct.{made_as, made_at, top_by}
use Rattle.direct_meaning.specs.Calls.{answer_of}
use Rattle.direct_meaning.specs.Objects.{combined_whole, done_beside, operated_by}
use Rattle.repeat_law.specs.Turns.{functions_alone}
use Rattle.repeat_law.specs.Reading.{ReadsInFront}
use Rattle.script_rules.specs.Repeats.{made_from_others}

-- from no file, and from nothing that is kept
abbrev pub FromNoFile : Made → Type 0
FromNoFile (made.Input file columns) = ⊥
FromNoFile (made.Saved is_object call) = ⊥
FromNoFile _ = Unit {0}

module _ (to : ℕ → ℕ) (here there : List (Option Collection)) where
  all_same : (numbers : List ℕ)
      → ((n : ℕ) → Contains numbers n → made_at here (to n) ≡ made_at there n)
      → all_made here (map to numbers) ≡ all_made there numbers
  all_same [] same = refl
  all_same (number ∷ numbers) same =
      let first = same number (at_head number numbers) in
      let rest = all_same numbers (λ n is. same n (at_tail number numbers n is)) in
      λ i. option_and_then (λ c. option_map (λ cs. c ∷ cs) (rest i)) (first i)

  -- over other numbers, which stand for the same collections
  pub same_made : (script : Script) (number : ℕ) (how : Made) (inputs : List (List Value))
      → FromNoFile how
      → ((n : ℕ) → Contains (operands how) n → made_at here (to n) ≡ made_at there n)
      → made_as script number (made_from_others to how) inputs here
      ≡ made_as (functions_alone script.functions) number how [] there
  same_made script number (made.Input file columns) inputs none same = absurd none
  same_made script number (made.Do source called output) inputs none same =
      let first = same source (at_head source []) in
      λ i. option_and_then
      (λ function. option_and_then (done_by (number - output) output function) (first i))
      (function_at script.functions called)
  same_made script number (made.Group source) inputs none same =
      ap (option_map by_key) (same source (at_head source []))
  same_made script number (made.Combine source by) inputs none same =
      ap (option_map (combined_by number by)) (same source (at_head source []))
  same_made script number (made.Flatten sources) inputs none same =
      ap (option_map together) (all_same sources same)
  same_made script number (made.Count source) inputs none same =
      ap (option_map (counted_by number)) (same source (at_head source []))
  same_made script number (made.Join left right_) inputs none same =
      let first = same left (at_head left (right_ ∷ [])) in
      let second =
      same right_ (at_tail left (right_ ∷ []) right_ (at_head right_ [])) in
      λ i. option_and_then (λ a. option_map (joined_collections a) (second i)) (first i)
  same_made script number (made.Top many source) inputs none same =
      ap (option_map (top_by many)) (same source (at_head source []))
  same_made script number (made.CombineAll source by) inputs none same =
      ap (option_map (combined_whole number by)) (same source (at_head source []))
  same_made script number (made.Operate objects called) inputs none same =
      let each = all_same objects same in
      λ i. option_and_then
      (λ function. option_and_then (operated_by number (answer_of function)) (each i))
      (function_at script.functions called)
  same_made script number (made.DoWith source called object) inputs none same =
      let first = same source (at_head source (object ∷ [])) in
      let second =
      same object (at_tail source (object ∷ []) object (at_head object [])) in
      λ i. option_and_then
      (λ function. option_and_then
      (λ c. option_and_then (done_beside number (answer_of function) c) (second i)) (first i))
      (function_at script.functions called)
  same_made script number (made.Saved is_object call) inputs none same = absurd none

-- over a table that holds the same
pub kept_made : (script : Script) (number : ℕ) (how : Made) (here there : List (Option Collection))
    (inputs others : List (List Value)) → FromNoFile how
    → ((n : ℕ) → Contains (operands how) n → made_at here n ≡ made_at there n)
    → made_as script number how inputs here ≡ made_as script number how others there
kept_made script number how here there inputs others none same =
    ap (λ (m : Made). made_as script number m inputs here) (sym (itself how))
    ∙ (same_made (λ n. n) here there script number how inputs none same
    ∙ (sym (same_made (λ n. n) there there script number how others none (λ n is. refl))
    ∙ ap (λ (m : Made). made_as script number m others there) (itself how)))

-- ---- lets

pub let_no_file : (place front : ℕ) (how : Made) → ReadsInFront place front how → FromNoFile how
let_no_file place front (made.Input file columns) is = absurd is
let_no_file place front (made.Saved is_object call) is = absurd is
let_no_file place front _ is = tt

pub renumbered_no_file : (to : ℕ → ℕ) (how : Made) → FromNoFile how
    → FromNoFile (made_from_others to how)
renumbered_no_file to (made.Input file columns) is = absurd is
renumbered_no_file to (made.Saved is_object call) is = absurd is
renumbered_no_file to _ is = tt

pub renumbered_reads : (to : ℕ → ℕ) (how : Made)
    → operands (made_from_others to how) ≡ map to (operands how)
renumbered_reads to (made.Input file columns) = refl
renumbered_reads to _ = refl

each_has : (P : ℕ → Type 0) (xs : List ℕ) → Each P xs → (n : ℕ) → Contains xs n → P n
each_has P [] each n is = absurd (not_in_none n is)
each_has P (x ∷ xs) each n is =
    ⊎_elim (λ (e : x ≡ n). subst P e each.0) (λ there. each_has P xs each.1 n there)
    (head_or_tail x xs n is)

-- what a let reads stands in front of it
pub let_reads : (place front : ℕ) (how : Made) → ReadsInFront place front how → (n : ℕ)
    → Contains (operands how) n → n < front
let_reads place front (made.Input file columns) is n reads = absurd is
let_reads place front (made.Do source called output) is n reads =
    each_has (λ n. n < front) (source ∷ []) (is.0, tt) n reads
let_reads place front (made.Group source) is n reads =
    each_has (λ n. n < front) (source ∷ []) (is, tt) n reads
let_reads place front (made.Combine source by) is n reads =
    each_has (λ n. n < front) (source ∷ []) (is, tt) n reads
let_reads place front (made.Flatten sources) is n reads =
    each_has (λ n. n < front) sources is n reads
let_reads place front (made.Count source) is n reads =
    each_has (λ n. n < front) (source ∷ []) (is, tt) n reads
let_reads place front (made.Join left right_) is n reads =
    each_has (λ n. n < front) (left ∷ right_ ∷ []) (is.0, (is.1, tt)) n reads
let_reads place front (made.Top many source) is n reads =
    each_has (λ n. n < front) (source ∷ []) (is, tt) n reads
let_reads place front (made.CombineAll source by) is n reads =
    each_has (λ n. n < front) (source ∷ []) (is, tt) n reads
let_reads place front (made.Operate objects called) is n reads =
    each_has (λ n. n < front) objects is n reads
let_reads place front (made.DoWith source called object) is n reads =
    each_has (λ n. n < front) (source ∷ object ∷ []) (is.0, (is.1, tt)) n reads
let_reads place front (made.Saved is_object call) is n reads = absurd is
