-- What is written of rewrites tells them.
use Rattle.std.proofs.Common.{◌≡◌, ℕ, ◌<◌, ◌^◌, true, List, [], ◌∷◌, map, Option, Some, refl, ap, ◌∙◌}
use Rattle.std.specs.Prelude.{nat_lt, option_and_then}
use Rattle.std.specs.Option.{option_map}
use Rattle.std.specs.List.{AllByRecursion}
use Rattle.std.proofs.lemmas.Bool.{lt-ltb}
use Rattle.serde_json.specs.Data.{Data}
use Rattle.serde_json.specs.View.{items_of}
use Rattle.graph_rewrites.specs.declared.rewrite.Rewrite.{Rewrite}
use Rattle.graph_rewrites.specs.declared.rewrite.Rewrite.TheVariants.{Merge, Sink, Lift, Kid, Sibling, Mark}
use Rattle.plan_files.specs.Forms.{all_of, plan_file_of, number_in_data, numbers_of, rewrite_at, rewrite_of, numberless_text}
use Rattle.plan_files.specs.Written.{HasSmallNumbers, file_json, name_of, number_json, numbers_at, numbers_json, rewrite_json}
use Rattle.plan_files.specs.declared.file.PlanFile.{PlanFile}

-- where each is what it was made of, all are
all_back : {X : Type 0} (of : Data → Option X) (json : X → Data) (P : X → Type 0)
    → ((x : X) → P x → of (json x) ≡ Some x) → (xs : List X) → AllByRecursion P xs
    → all_of of (items_of (map json xs)) ≡ Some xs
all_back of json P each [] a = refl
all_back of json P each (x ∷ xs) a =
    ap (λ o. option_and_then (λ y. option_map (λ ys. y ∷ ys) (all_of of (items_of (map json xs))))
    o) (each x a.0)
    ∙ ap (λ o. option_map (λ ys. x ∷ ys) o) (all_back of json P each xs a.1)

number_back : (n : ℕ) → n < 2 ^ 32 → number_in_data (number_json n) ≡ Some n
number_back n h = let e : nat_lt n (2 ^ 32) ≡ true = lt-ltb n (2 ^ 32) h in rw e refl

numbers_back : (ns : List ℕ) → AllByRecursion (λ n. n < 2 ^ 32) ns
    → numbers_of (numbers_json ns) ≡ Some ns
numbers_back ns a = all_back number_in_data number_json (λ n. n < 2 ^ 32) number_back ns a

named_back : (r : Rewrite) → rewrite_at (name_of r) (numbers_at r) ≡ Some r
named_back (Merge outer inner) = refl
named_back (Sink flatten pdo) = refl
named_back (Lift group) = refl
named_back (Kid keeper output reader) = refl
named_back (Sibling keeper other) = refl
named_back (Mark node output) = refl

rewrite_back : (r : Rewrite) → HasSmallNumbers r → rewrite_of (rewrite_json r) ≡ Some r
rewrite_back r a =
    ap (λ o. option_and_then (λ at. rewrite_at (name_of r) at) o) (numbers_back (numbers_at r) a)
    ∙ named_back r

pub file_back : (plan : Data) (rs : List Rewrite) → AllByRecursion HasSmallNumbers rs
    → plan_file_of (file_json plan rs)
    ≡ Some (record { rewrites = rs; plan = numberless_text plan })
file_back plan rs a =
    ap (λ o. option_map (λ all. let f : PlanFile = record
    { rewrites = all; plan = numberless_text plan }
    in f) o) (all_back rewrite_of rewrite_json HasSmallNumbers rewrite_back rs a)
