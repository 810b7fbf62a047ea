-- The JSON of a plan and of rewrites is read back from its text.
use Rattle.std.proofs.Common.{◌≡◌, ℕ, suc, ◌^◌, ◌<◌, ◌≤◌, Bool, true, false, if◌then◌else◌, List, [], ◌∷◌, ◌++◌, map, Option, Some, None, IsUtf8, codes, refl, ap, ◌∙◌, arith}
use Rattle.std.specs.List.{AllByRecursion}
use Rattle.std.specs.Str.Lossy.{utf8_lossy}
use Rattle.json.proofs.Printed.Utf8.{IsUtf8-are_ascii, are_ascii}
use Rattle.serde_json.specs.Data.{Data, Items, no_items, item, no_members}
use Rattle.serde_json.specs.View.{items_of}
use Rattle.serde_json.specs.Written.{compact_text}
use Rattle.combine_table.specs.declared.comb.Comb.{Comb}
use Rattle.exec_plan.specs.Channels.{output_numbers_of}
use Rattle.exec_plan.specs.declared.plan.PlanPlace.{PlanPlace}
use Rattle.exec_plan.specs.declared.plan.InChannel.{InChannel}
use Rattle.exec_plan.specs.declared.plan.OutChannel.{OutChannel}
use Rattle.exec_plan.specs.declared.plan.OutChannel.TheVariants.{Group, Pass}
use Rattle.exec_plan.specs.declared.plan.Stage.{Stage}
use Rattle.exec_plan.specs.declared.plan.Stage.TheVariants.{Mscr, Flatten, Operate}
use Rattle.exec_plan.specs.declared.plan.Plan.{Plan}
use Rattle.graph_rewrites.specs.declared.rewrite.Rewrite.{Rewrite}
use Rattle.graph_rewrites.specs.declared.rewrite.Rewrite.TheVariants.{Merge, Sink, Lift, Kid, Sibling, Mark}
use Rattle.plan_files.specs.Numbers.{has_number}
use Rattle.plan_files.specs.Reads.{HasValue, IsFile}
use Rattle.plan_files.specs.declared.file.PlanFile.{PlanFile}
use Rattle.plan_files.specs.Written.{HasSmallNumbers, file_json, name_of, number_json, numbers_at, rewrite_json}
use Rattle.plan_files.proofs.Back.{file_back}
use Rattle.plan_json.specs.PlanJson.{channel_json, in_json, lift_json, one_json, out_json, output_json, plan_json_of, stage_json, text_json, texts_json}
use Rattle.plan_writing.specs.Acts.{act_text}
use Rattle.plan_writing.specs.Forests.{forest_text}
use Rattle.plan_writing.specs.Naming.{Naming, Written}
use Rattle.plan_writing.specs.Places.{dotted, given_text, place_text, take_text}
use Rattle.plan_file_law.specs.Files.{plan_file_text, told_by}
use Rattle.plan_file_law.proofs.Ended.{line_feed}
use Rattle.plan_file_law.proofs.Lossy.{lossy_utf8}
use Rattle.plan_file_law.proofs.Plain.{ArePlain, IsPlain, counted, line_back, mapped, matched, no_item, no_more, one_item, one_member, plain_array, plain_null, plain_number, plain_object, plain_text, single, value_back}

-- ---- texts

text : (w : Bool) (n : ℕ) (s : List ℕ) → IsPlain w n (text_json s)
text w n s = plain_text w n (utf8_lossy s) (lossy_utf8 s)

texts : {X : Type 0} (w : Bool) (n : ℕ) (print : X → List ℕ) (xs : List X)
    → IsPlain w (suc n) (texts_json print xs)
texts w n print xs =
    plain_array w n (items_of (map (λ x. text_json (print x)) xs))
    (mapped w n (λ x. text_json (print x)) (λ x. text w n (print x)) xs)

one : (w : Bool) (n : ℕ) (s : List ℕ) → IsPlain w (suc n) (one_json s)
one w n s =
    plain_array w n (item (text_json s) no_items) (single w n (text_json s) (text w n s))

-- ---- channels

known : (s : List ℕ) → are_ascii s ≡ true → IsUtf8 s
known s h = IsUtf8-are_ascii s h

channel : (w : Bool) (n : ℕ) (does reads : Data) (beside : Option PlanPlace) → IsPlain w n does
    → IsPlain w n reads → IsPlain w (suc n) (channel_json does reads beside)
channel w n does reads None a b =
    plain_object w n _
    (one_member w n no_members (codes "does") does _ _ (known (codes "does") refl) a
    (one_member w n _ (codes "reads") reads _ _ (known (codes "reads") refl) b (no_more w n _)))
channel w n does reads (Some place) a b =
    plain_object w n _
    (one_member w n no_members (codes "does") does _ _ (known (codes "does") refl) a
    (one_member w n _ (codes "reads") reads _ _ (known (codes "reads") refl) b
    (one_member w n _ (codes "with") (text_json (place_text place)) _ _ (known (codes "with") refl)
    (text w n (place_text place)) (no_more w n _))))

in_plain : (w : Bool) (names : Naming) (c : InChannel) → IsPlain w 2 (in_json names c)
in_plain w names c =
    channel w 1 (text_json (forest_text names c.does)) (text_json (place_text c.reads)) c.beside
    (text w 1 (forest_text names c.does)) (text w 1 (place_text c.reads))

lift : (w : Bool) (names : Naming) (n : ℕ) (lifted : Option Comb)
    → IsPlain w n (lift_json names lifted)
lift w names n None = plain_null w n
lift w names n (Some combiner) = text w n (names.combiner combiner)

out_plain : (w : Bool) (names : Naming) (stage : ℕ) (c : OutChannel)
    → IsPlain w 2 (out_json names stage c)
out_plain w names stage (Group group) =
    plain_object w 1 _
    (one_member w 1 no_members (codes "does") _ _ _ (known (codes "does") refl)
    (text w 1 (forest_text names group.does))
    (one_member w 1 _ (codes "gives") _ _ _ (known (codes "gives") refl)
    (texts w 0 (given_text stage group) (output_numbers_of group.does))
    (one_member w 1 _ (codes "kind") _ _ _ (known (codes "kind") refl)
    (plain_text w 1 (codes "group") (known (codes "group") refl))
    (one_member w 1 _ (codes "lift") _ _ _ (known (codes "lift") refl)
    (lift w names 1 group.lifted)
    (one_member w 1 _ (codes "name") _ _ _ (known (codes "name") refl)
    (text w 1 (names.node group.origin))
    (one_member w 1 _ (codes "takes") _ _ _ (known (codes "takes") refl)
    (texts w 0 take_text group.takes) (no_more w 1 _)))))))
out_plain w names stage (Pass take result) =
    plain_object w 1 _
    (one_member w 1 no_members (codes "gives") _ _ _ (known (codes "gives") refl)
    (one w 0 (dotted stage result))
    (one_member w 1 _ (codes "kind") _ _ _ (known (codes "kind") refl)
    (plain_text w 1 (codes "pass") (known (codes "pass") refl))
    (one_member w 1 _ (codes "takes") _ _ _ (known (codes "takes") refl)
    (one w 0 (take_text take)) (no_more w 1 _))))

-- ---- stages

stage_plain : (w : Bool) (names : Naming) (n : ℕ) (s : Stage) → IsPlain w 4 (stage_json names n s)
stage_plain w names n (Mscr mscr) =
    plain_object w 3 _
    (one_member w 3 no_members (codes "in") _ _ _ (known (codes "in") refl)
    (plain_array w 2 _ (mapped w 2 (in_json names) (in_plain w names) mscr.inputs))
    (one_member w 3 _ (codes "kind") _ _ _ (known (codes "kind") refl)
    (plain_text w 3 (codes "mscr") (known (codes "mscr") refl))
    (one_member w 3 _ (codes "out") _ _ _ (known (codes "out") refl)
    (plain_array w 2 _ (mapped w 2 (out_json names n) (out_plain w names n) mscr.outputs))
    (no_more w 3 _))))
stage_plain w names n (Flatten takes) =
    plain_object w 3 _
    (one_member w 3 no_members (codes "gives") _ _ _ (known (codes "gives") refl)
    (one w 2 (dotted n 0))
    (one_member w 3 _ (codes "kind") _ _ _ (known (codes "kind") refl)
    (plain_text w 3 (codes "flatten") (known (codes "flatten") refl))
    (one_member w 3 _ (codes "takes") _ _ _ (known (codes "takes") refl)
    (texts w 2 place_text takes) (no_more w 3 _))))
stage_plain w names n (Operate takes origin last does) =
    plain_object w 3 _
    (one_member w 3 no_members (codes "does") _ _ _ (known (codes "does") refl)
    (text w 3 (act_text names origin does))
    (one_member w 3 _ (codes "gives") _ _ _ (known (codes "gives") refl)
    (one w 2 (dotted n 0))
    (one_member w 3 _ (codes "kind") _ _ _ (known (codes "kind") refl)
    (plain_text w 3 (codes "operate") (known (codes "operate") refl))
    (one_member w 3 _ (codes "takes") _ _ _ (known (codes "takes") refl)
    (texts w 2 place_text takes) (no_more w 3 _)))))

-- ---- the plan

output_plain : (w : Bool) (n : ℕ) (output : Written) (place : PlanPlace)
    → IsPlain w (suc n) (output_json output place)
output_plain w n output place =
    plain_object w n _
    (one_member w n no_members (codes "file") _ _ _ (known (codes "file") refl)
    (text w n output.file)
    (one_member w n _ (codes "name") _ _ _ (known (codes "name") refl) (text w n output.name)
    (one_member w n _ (codes "reads") _ _ _ (known (codes "reads") refl)
    (text w n (place_text place)) (no_more w n _))))

plan_plain : (w : Bool) (names : Naming) (plan : Plan) → IsPlain w 6 (plan_json_of names plan)
plan_plain w names plan =
    plain_object w 5 _
    (one_member w 5 no_members (codes "outputs") _ _ _ (known (codes "outputs") refl)
    (plain_array w 4 _ (matched w 4 output_json (output_plain w 3) names.outputs plan.outputs))
    (one_member w 5 _ (codes "stages") _ _ _ (known (codes "stages") refl)
    (plain_array w 4 _ (counted w 4 (stage_json names) (stage_plain w names) 1 plan.stages))
    (no_more w 5 _)))

-- ---- rewrites

wide : (n : ℕ) → n < 2 ^ 32 → n < 2 ^ 64
wide n h = omega arith

-- as deep at most, so no deeper than more
deeper : (n m : ℕ) (ds : Items) → n ≤ m → ArePlain true n ds → ArePlain true m ds
deeper n m ds le p = record {
  back = p.back;
  deep = let d = p.deep in omega arith;
  printable = p.printable;
  utf8 = p.utf8;
  without = p.without;
}

numbers_plain : (ns : List ℕ) → AllByRecursion (λ n. n < 2 ^ 32) ns
    → ArePlain true 0 (items_of (map number_json ns))
numbers_plain [] a = no_item true 0
numbers_plain (n ∷ ns) a = one_item true 0 (number_json n) (items_of (map number_json ns))
    (plain_number 0 n (wide n a.0)) (numbers_plain ns a.1)

name_utf8 : (r : Rewrite) → IsUtf8 (name_of r)
name_utf8 (Merge outer inner) = known (codes "merge") refl
name_utf8 (Sink flatten pdo) = known (codes "sink") refl
name_utf8 (Lift group) = known (codes "lift") refl
name_utf8 (Kid keeper output reader) = known (codes "kid") refl
name_utf8 (Sibling keeper other) = known (codes "sibling") refl
name_utf8 (Mark node output) = known (codes "mark") refl

rewrite_plain : (r : Rewrite) → HasSmallNumbers r → IsPlain true 2 (rewrite_json r)
rewrite_plain r a =
    plain_object true 1 _
    (one_member true 1 no_members (codes "at") _ _ _ (known (codes "at") refl)
    (plain_array true 0 _ (numbers_plain (numbers_at r) a))
    (one_member true 1 _ (codes "op") _ _ _ (known (codes "op") refl)
    (plain_text true 1 (name_of r) (name_utf8 r)) (no_more true 1 _)))

rewrites_plain : (rs : List Rewrite) → AllByRecursion HasSmallNumbers rs
    → ArePlain true 2 (items_of (map rewrite_json rs))
rewrites_plain [] a = no_item true 2
rewrites_plain (r ∷ rs) a =
    one_item true 2 (rewrite_json r) (items_of (map rewrite_json rs)) (rewrite_plain r a.0)
    (rewrites_plain rs a.1)

-- ---- the file

file_plain : (names : Naming) (plan : Plan) (rs : List Rewrite) → AllByRecursion HasSmallNumbers rs
    → IsPlain true 7 (file_json (plan_json_of names plan) rs)
file_plain names plan rs a =
    plain_object true 6 _
    (one_member true 6 no_members (codes "plan") _ _ _ (known (codes "plan") refl)
    (plan_plain true names plan)
    (one_member true 6 _ (codes "rewrites") _ _ _ (known (codes "rewrites") refl)
    (plain_array true 5 _ (deeper 2 5 (items_of (map rewrite_json rs)) (omega arith)
    (rewrites_plain rs a))) (no_more true 6 _)))

file_had : (names : Naming) (plan : Plan) (rs : List Rewrite) (bytes : List ℕ)
    → AllByRecursion HasSmallNumbers rs → HasValue bytes (file_json (plan_json_of names plan) rs)
    → IsFile bytes (told_by names plan rs)
file_had names plan rs bytes a value =
    let none : has_number (plan_json_of names plan) ≡ false =
    (plan_plain false names plan).without refl in (
      file_json (plan_json_of names plan) rs,
      value,
      file_back (plan_json_of names plan) rs a
          ∙ ap (λ b. Some (let f : PlanFile = record {
            rewrites = rs;
            plan = if b then None else Some (compact_text (plan_json_of names plan));
          } in f)) none,
    )

pub file_read : (names : Naming) (plan : Plan) (rs : List Rewrite)
    → AllByRecursion HasSmallNumbers rs
    → IsFile (plan_file_text names plan rs) (told_by names plan rs)
file_read names plan rs a =
    file_had names plan rs (plan_file_text names plan rs) a
    (value_back true 7 (file_json (plan_json_of names plan) rs) (file_plain names plan rs a)
    (omega arith))

-- and so with a line feed behind it
pub line_read : (names : Naming) (plan : Plan) (rs : List Rewrite)
    → AllByRecursion HasSmallNumbers rs
    → IsFile (plan_file_text names plan rs ++ line_feed) (told_by names plan rs)
line_read names plan rs a =
    file_had names plan rs (plan_file_text names plan rs ++ line_feed) a
    (line_back true 7 (file_json (plan_json_of names plan) rs) (file_plain names plan rs a)
    (omega arith))
