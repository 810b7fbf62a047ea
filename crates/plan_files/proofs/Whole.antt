-- No float stands in rewrites that are written, nor where no number does.
use Rattle.std.proofs.Common.{◌≡◌, ℕ, Bool, false, ◌||◌, List, [], ◌∷◌, map, refl}
use Rattle.std.proofs.lemmas.Bool.{or_parts}
use Rattle.serde_json.specs.Data.{Data, null, boolean, number, string, array, object, Items, no_items, item, Members, no_members, member}
use Rattle.serde_json.specs.View.{items_of}
use Rattle.serde_json.specs.Written.{has_float, items_have_float, members_have_float}
use Rattle.graph_rewrites.specs.declared.rewrite.Rewrite.{Rewrite}
use Rattle.plan_files.specs.Numbers.{has_number, items_have_number, members_have_number}
use Rattle.plan_files.specs.Written.{number_json, numbers_at, rewrite_json}

neither : (a b : Bool) → a ≡ false → b ≡ false → (a || b) ≡ false
neither a b p q = rw (p, q) refl

mutual
  pub whole : (d : Data) → has_number d ≡ false → has_float d ≡ false
  whole null h = refl
  whole (boolean b) h = refl
  whole (number n) h = let no : ⊥ = cc in absurd no
  whole (string s) h = refl
  whole (array ds) h = whole_items ds h
  whole (object ms) h = whole_members ms h

  whole_items : (ds : Items) → items_have_number ds ≡ false → items_have_float ds ≡ false
  whole_items no_items h = refl
  whole_items (item d ds) h =
      let p = or_parts (has_number d) (items_have_number ds) h in
      neither (has_float d) (items_have_float ds) (whole d p.0) (whole_items ds p.1)

  whole_members : (ms : Members) → members_have_number ms ≡ false
      → members_have_float ms ≡ false
  whole_members no_members h = refl
  whole_members (member k d ms) h =
      let p = or_parts (has_number d) (members_have_number ms) h in
      neither (has_float d) (members_have_float ms) (whole d p.0) (whole_members ms p.1)

numbers_whole : (ns : List ℕ) → items_have_float (items_of (map number_json ns)) ≡ false
numbers_whole [] = refl
numbers_whole (n ∷ ns) = numbers_whole ns

rewrite_whole : (r : Rewrite) → has_float (rewrite_json r) ≡ false
rewrite_whole r =
    neither (items_have_float (items_of (map number_json (numbers_at r)))) false
    (numbers_whole (numbers_at r)) refl

pub rewrites_whole : (rs : List Rewrite)
    → items_have_float (items_of (map rewrite_json rs)) ≡ false
rewrites_whole [] = refl
rewrites_whole (r ∷ rs) =
    neither (has_float (rewrite_json r)) (items_have_float (items_of (map rewrite_json rs)))
    (rewrite_whole r) (rewrites_whole rs)
