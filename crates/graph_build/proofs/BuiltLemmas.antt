-- What is built at the collection of a number.
use Rattle.std.proofs.Common.{◌≡◌, ℕ, suc, zero, ◌+◌, ◌-◌, ◌<◌, ◌≤◌, Bool, true, false, List, [], ◌∷◌, ◌++◌, length, get_or, refl, arith, ap, ◌∙◌, sym, subst, add-zero}
use Rattle.std.specs.Prelude.{Option, Some, None, if◌then◌else◌, slice_get}
use Rattle.std.specs.Option.{option_map}
use Rattle.script_program.specs.of_written_types.Named.{Named}
use Rattle.script_program.proofs.SourceSteps.{told_many}
use Rattle.script_program.specs.Script.{Node, Script}
use Rattle.graph_build.specs.Built.{built, built_at, built_from, built_here}
use Rattle.graph_build.specs.Calls.{call_built, emitted_at, first_emitted, is_kept_at, numbers_kept_from, next_if, other_names}

found : (script : Script) (k i : ℕ) (nodes : Named Node) (node : Node)
    → option_map (λ entry. entry.1) (slice_get nodes i) ≡ Some node
    → get_or (built_from script k nodes) i None ≡ built_here script (k + i) node.made
found script k i [] node h = cc
found script k zero (entry ∷ nodes) node h =
    let e : entry.1 ≡ node = cc in
    rw add-zero (ap (λ (it : Node). built_here script k it.made) e)
found script k (suc i) (entry ∷ nodes) node h =
    let e : suc k + i ≡ k + suc i = omega arith in
    subst
    (λ n. get_or (built_from script (suc k) nodes) i None ≡ built_here script n node.made) e
    (found script (suc k) i nodes node h)

pub built_is : (script : Script) (i : ℕ) (node : Node)
    → option_map (λ entry. entry.1) (slice_get script.nodes i) ≡ Some node
    → built_here script i node.made ≡ built_at script i
built_is script i node h =
    let e : 0 + i ≡ i = omega arith in
    sym (found script 0 i script.nodes node h ∙ ap (λ n. built_here script n node.made) e)

pub built_length : (script : Script) → length (built script) ≡ length script.nodes
built_length script =
    told_many (built_from script) (λ k. refl) (λ k entry nodes. (_, refl)) 0 script.nodes

-- ---- the names of a call

-- the first of the names up to an end
first_kept : (script : Script) (name end : ℕ) → name < end
    → numbers_kept_from script name (end - name)
    ≡ (if is_kept_at script name then name ∷ [] else [])
    ++ numbers_kept_from script (name + 1) (end - (name + 1))
first_kept script name end h =
    let e : end - name ≡ suc (end - (name + 1)) = omega arith in
    let next : suc name ≡ name + 1 = omega arith in
    ap (numbers_kept_from script name) e
    ∙ ap (λ k. (if is_kept_at script name then name ∷ [] else [])
    ++ numbers_kept_from script k (end - (name + 1))) next

none_kept : (script : Script) (name end : ℕ) → end ≤ name
    → numbers_kept_from script name (end - name) ≡ []
none_kept script name end h =
    let e : end - name ≡ 0 = omega arith in ap (numbers_kept_from script name) e

kept-more : (b : Bool) (name count more : ℕ) (rest : List ℕ) → more ≡ next_if b count
    → count + length ((if b then name ∷ [] else []) ++ rest) ≡ more + length rest
kept-more true name count more rest is = omega (arith, is)
kept-more false name count more rest is = omega (arith, is)

-- how many are kept
pub kept_next : (script : Script) (name end count more all : ℕ) → name < end
    → more ≡ next_if (is_kept_at script name) count
    → count + length (numbers_kept_from script name (end - name)) ≡ all
    → more + length (numbers_kept_from script (name + 1) (end - (name + 1))) ≡ all
kept_next script name end count more all below is h =
    sym
    (kept-more (is_kept_at script name) name count more
    (numbers_kept_from script (name + 1) (end - (name + 1))) is)
    ∙ ap (λ names. count + length names) (sym (first_kept script name end below))
    ∙ h

pub kept_all : (script : Script) (name end count all : ℕ) → end ≤ name
    → count + length (numbers_kept_from script name (end - name)) ≡ all → count ≡ all
kept_all script name end count all past h =
    let none = ap (λ names. count + length names) (none_kept script name end past) in
    omega (arith, none, h)

-- the kept one of a place
pub kept_here : (script : Script) (name end : ℕ) (all : Option ℕ) → name < end
    → is_kept_at script name ≡ true
    → slice_get (numbers_kept_from script name (end - name)) 0 ≡ all → Some name ≡ all
kept_here script name end all below is h =
    (λ i. slice_get ((if sym is i then name ∷ [] else [])
    ++ numbers_kept_from script (name + 1) (end - (name + 1))) 0)
    ∙ ap (λ names. slice_get names 0) (sym (first_kept script name end below)) ∙ h

pub kept_behind : (script : Script) (name end left : ℕ) (all : Option ℕ) → name < end
    → is_kept_at script name ≡ true
    → slice_get (numbers_kept_from script name (end - name)) (suc left) ≡ all
    → slice_get (numbers_kept_from script (name + 1) (end - (name + 1))) left ≡ all
kept_behind script name end left all below is h =
    (λ i. slice_get ((if sym is i then name ∷ [] else [])
    ++ numbers_kept_from script (name + 1) (end - (name + 1))) (suc left))
    ∙ ap (λ names. slice_get names (suc left)) (sym (first_kept script name end below)) ∙ h

pub kept_other : (script : Script) (name end left : ℕ) (all : Option ℕ) → name < end
    → is_kept_at script name ≡ false
    → slice_get (numbers_kept_from script name (end - name)) left ≡ all
    → slice_get (numbers_kept_from script (name + 1) (end - (name + 1))) left ≡ all
kept_other script name end left all below is h =
    (λ i. slice_get ((if sym is i then name ∷ [] else [])
    ++ numbers_kept_from script (name + 1) (end - (name + 1))) left)
    ∙ ap (λ names. slice_get names left) (sym (first_kept script name end below)) ∙ h

pub kept_none : (script : Script) (name end left : ℕ) (all : Option ℕ) → end ≤ name
    → slice_get (numbers_kept_from script name (end - name)) left ≡ all → None ≡ all
kept_none script name end left all past h =
    ap (λ names. slice_get names left) (sym (none_kept script name end past)) ∙ h

-- the first that a call emits
first_one : (script : Script) (name end : ℕ) → name < end
    → first_emitted script name (end - name)
    ≡ (if emitted_at script name then name ∷ []
    else first_emitted script (name + 1) (end - (name + 1)))
first_one script name end h =
    let e : end - name ≡ suc (end - (name + 1)) = omega arith in
    let next : suc name ≡ name + 1 = omega arith in
    ap (first_emitted script name) e
    ∙ ap (λ k. if emitted_at script name then name ∷ []
    else first_emitted script k (end - (name + 1))) next

pub emitted_other : (script : Script) (name end : ℕ) (all : Option ℕ) → name < end
    → emitted_at script name ≡ false
    → slice_get (first_emitted script name (end - name)) 0 ≡ all
    → slice_get (first_emitted script (name + 1) (end - (name + 1))) 0 ≡ all
emitted_other script name end all below is h =
    (λ i. slice_get (if sym is i then name ∷ []
    else first_emitted script (name + 1) (end - (name + 1))) 0)
    ∙ ap (λ names. slice_get names 0) (sym (first_one script name end below)) ∙ h

-- all names of a call, by the number behind them
many_names : (first f others : ℕ) (script : Script) → others ≡ other_names script f
    → ((first + 1) + others) - first ≡ suc (other_names script f)
many_names first f others script is =
    let e : ((first + 1) + others) - first ≡ suc others = omega arith in e ∙ ap suc is

pub call_names : (script : Script) (first f others place : ℕ) → others ≡ other_names script f
    → slice_get (numbers_kept_from script first (((first + 1) + others) - first)
    ++ first_emitted script first (((first + 1) + others) - first)) place
    ≡ slice_get (call_built script first f) place
call_names script first f others place is =
    ap (λ n. slice_get (numbers_kept_from script first n ++ first_emitted script first n) place)
    (many_names first f others script is)

pub all_kept : (script : Script) (first f others kept : ℕ) → others ≡ other_names script f
    → kept ≡ length (numbers_kept_from script first (((first + 1) + others) - first))
    → kept ≡ length (numbers_kept_from script first (suc (other_names script f)))
all_kept script first f others kept is h =
    h ∙ ap (λ n. length (numbers_kept_from script first n)) (many_names first f others script is)

-- ---- what stands at a place of two lists

pub at_first : (xs ys : List ℕ) (k : ℕ) → k < length xs
    → slice_get xs k ≡ slice_get (xs ++ ys) k
at_first [] ys k below = absurd (omega arith)
at_first (x ∷ xs) ys zero below = refl
at_first (x ∷ xs) ys (suc k) below = at_first xs ys k (omega arith)

pub at_second : (xs ys : List ℕ) (k : ℕ) → k ≡ length xs
    → slice_get ys 0 ≡ slice_get (xs ++ ys) k
at_second xs ys k is = at_length xs ys ∙ ap (slice_get (xs ++ ys)) (sym is)
  where
    at_length : (xs ys : List ℕ) → slice_get ys 0 ≡ slice_get (xs ++ ys) (length xs)
    at_length [] ys = refl
    at_length (x ∷ xs) ys = at_length xs ys

-- of the second there is one at most
one_emitted : (script : Script) (first more : ℕ) → length (first_emitted script first more) ≤ 1
one_emitted script first zero = omega arith
one_emitted script first (suc more) =
    by (emitted_at script first) (one_emitted script (suc first) more)
  where
    by : (b : Bool) → length (first_emitted script (suc first) more) ≤ 1
        → length (if b then first ∷ [] else first_emitted script (suc first) more) ≤ 1
    by true h = omega arith
    by false h = h

pub at_neither : (script : Script) (first more : ℕ) (xs : List ℕ) (k : ℕ) → length xs < k
    → None ≡ slice_get (xs ++ first_emitted script first more) k
at_neither script first more [] zero past = absurd (omega arith)
at_neither script first more [] (suc k) past =
    few (first_emitted script first more) k (one_emitted script first more)
  where
    few : (ys : List ℕ) (k : ℕ) → length ys ≤ 1 → None ≡ slice_get ys (suc k)
    few [] k h = refl
    few (y ∷ []) zero h = refl
    few (y ∷ []) (suc k) h = refl
    few (y ∷ (z ∷ ys)) k h = absurd (omega arith)
at_neither script first more (x ∷ xs) zero past = absurd (omega arith)
at_neither script first more (x ∷ xs) (suc k) past =
    at_neither script first more xs k (omega arith)
