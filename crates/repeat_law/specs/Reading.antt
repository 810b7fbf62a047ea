-- What the turns of a repeat read, and where they stand in a script.
use Rattle.std.specs.Prelude.{◌≡◌, ℕ, suc, ◌+◌, ◌-◌, ◌*◌, ◌<◌, ◌≤◌, List, [], ◌∷◌, ◌++◌, Ok, length, ⊤}
use Rattle.std.specs.List.{AllByRecursion as Each}
use Rattle.flume_grammar.specs.declared.tree.Form.TheVariants as form
use Rattle.flume_grammar.specs.declared.tree.Repeat.{Repeat as WrittenRepeat}
use Rattle.flume_grammar.specs.declared.tree.Statement.{Statement}
use Rattle.written_types.specs.Named.{Named}
use Rattle.script_program.specs.declared.made.Made.{Made}
use Rattle.script_program.specs.declared.made.Made.TheVariants as made
use Rattle.script_program.specs.Script.{Node, Script, State, empty_state}
use Rattle.script_rules.specs.Repeats.{Repeat, unrolled}
use Rattle.script_rules.specs.Rules.{Repeated, defined, repeated}
use Rattle.script_laws.specs.Fitting.{lets_of}

-- ---- what a body reads

-- how many collections a body can read in front of its lets
abbrev pub in_front : Repeat → ℕ
in_front repeat = repeat.outside + length repeat.from

-- A let reads so many collections in front of it alone, and neither a file nor what is kept. Of the
-- outputs of a call those before its own stand in front of it, as lets of the body.
abbrev pub ReadsInFront : ℕ → ℕ → Made → Type 0
ReadsInFront place front (made.Input file columns) = ⊥
ReadsInFront place front (made.Do source called output) = source < front × output ≤ place
ReadsInFront place front (made.Group source) = source < front
ReadsInFront place front (made.Combine source by) = source < front
ReadsInFront place front (made.Flatten sources) = Each (λ source. source < front) sources
ReadsInFront place front (made.Count source) = source < front
ReadsInFront place front (made.Join left right) = left < front × right < front
ReadsInFront place front (made.Top many source) = source < front
ReadsInFront place front (made.CombineAll source by) = source < front
ReadsInFront place front (made.Operate objects called) = Each (λ object. object < front) objects
ReadsInFront place front (made.DoWith source called object) = source < front × object < front
ReadsInFront place front (made.Saved is_object call) = ⊥

-- the same of each let, where the first has that place in the body
abbrev pub EachReadsInFront : ℕ → ℕ → List Made → Type 0
EachReadsInFront place front [] = ⊤
EachReadsInFront place front (how ∷ lets) =
    ReadsInFront place front how × EachReadsInFront (suc place) (suc front) lets

-- what enters stands outside, each let reads what stands in front of it, and as many collections
-- are given as enter
pub record IsClosedRepeat (repeat : Repeat) : Type 0 where
  pub enter : Each (λ number. number < repeat.outside) repeat.from
  pub lets : EachReadsInFront 0 (in_front repeat) (lets_of repeat)
  pub given : Each (λ number. number < in_front repeat + length repeat.body) repeat.gives
  pub many : length repeat.gives ≡ length repeat.from

-- ---- where its turns stand

-- the number of the let at that place of the body, in that turn
abbrev pub let_number : Repeat → ℕ → ℕ → ℕ
let_number repeat turn place = repeat.outside + (turn - 1) * length repeat.body + place

-- a script has the turns of a repeat behind the collections that stand outside it
pub record HasRepeat (script : Script) (repeat : Repeat) : Type 0 where
  pub before : Named Node
  pub after : Named Node
  pub many : length before ≡ repeat.outside
  pub split : before ++ unrolled repeat ++ after ≡ script.nodes

-- a let with repeat as a statement, on its line
abbrev pub let_repeat : ℕ → List (List ℕ) → WrittenRepeat → Statement
let_repeat line names written = record { line = line; form = form.Repeat names written }

-- A let with repeat stands unrolled in a script: by the rules it comes to a repeat behind what the
-- statements before it define, and the script has the turns of that repeat.
pub record IsUnrolled (statements : List Statement) (line : ℕ) (names : List (List ℕ))
    (written : WrittenRepeat) (script : Script) : Type 0 where
  pub front : State
  pub defines : defined statements empty_state ≡ Ok front
  pub it : Repeated
  pub rules : repeated line names written front ≡ Ok it
  pub reads : IsClosedRepeat it.repeat
  pub has : HasRepeat script it.repeat
