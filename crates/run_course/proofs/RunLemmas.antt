-- What the run of a script's plan comes to.
use Rattle.std.proofs.Common.{◌≡◌, ℕ, suc, zero, ◌+◌, ◌<◌, List, [], ◌∷◌, ◌++◌, drop, length, Some, None, slice_get, ap, sym, ◌∙◌, refl, subst, arith, append_assoc, append-nil, ◌≤◌}
use Rattle.std.specs.Prelude.{codes, IfOk, IsSomeAnd, Option, Result, Ok, Err}
use Rattle.std.specs.List.{AllZip, Contains}
use Rattle.std.proofs.lemmas.List.{drop_all}
use Rattle.outside.specs.Accounts.{Account}
use Rattle.script_loading.specs.of_direct_meaning.Direct.{made_at, sizes_of, traps_of}
use Rattle.script_loading.specs.of_direct_meaning.Inputs.{inputs_of}
use Rattle.exec_plan.specs.declared.plan.Plan.{Plan}
use Rattle.flume_collection.specs.Collection.{Collection}
use Rattle.flume_collection.specs.declared.trap.Trap.{Trap}
use Rattle.flume_value.specs.declared.value.Value.{Value}
use Rattle.outside.specs.declared.file.File.{File as NamedBytes}
use Rattle.run_settings.specs.Settings.{RunSettings}
use Rattle.run_texts.specs.Texts.{NamedOutput, size_lines}
use Rattle.script_program.specs.Script.{Script}
use Rattle.script_run.specs.Comes.{AreMembersOf}
use Rattle.script_run.specs.Runs.{IsFirstTrap, IsRan}
use Rattle.script_run.specs.declared.run.Ran.{Ran}
use Rattle.run_course.specs.Answers.{IsFirstOfPlan, name_at}
use Rattle.script_loading.specs.Loads.{AllHaveRows}
use Rattle.run_course.specs.Lent.{lent}
use Rattle.run_course.specs.Plans.{IsPlanFor}
use Rattle.run_course.specs.Written.{AllTasksRan, CollectionTable, WritesRun, file_of, files_of, text_shown}
use Rattle.run_course.specs.declared.stop.Stop.{Stop}
use Rattle.run_course.specs.declared.stop.Stop.TheVariants as stop
use Rattle.run_course.specs.inner.Course.{GivesFiles, IsRunStop, IsTrapOf, file_with, files_with}
use Rattle.run_course.proofs.ReadLemmas.{Told}
use Rattle.run_course.proofs.FileLemmas.{file_from, there}
use Rattle.run_course.proofs.OriginLemmas.{origins}

-- ---- the files

-- as many members as outputs
pub as_many : {A B : Type 0} (R : A → B → Type 0) (xs : List A) (ys : List B) → AllZip R xs ys
    → length ys ≡ length xs
as_many R [] [] all = refl
as_many R [] (y ∷ ys) all = absurd all
as_many R (x ∷ xs) [] all = absurd all
as_many R (x ∷ xs) (y ∷ ys) all = ap suc (as_many R xs ys all.1)

file_at : (table : CollectionTable) (output : NamedOutput) (members : List Value)
    → AreMembersOf table output.1.reads members
    → file_of table output ≡ Some (file_with output members)
file_at table output members are = by (made_at table output.1.reads) refl are
  where
    by : (found : Option Collection) → made_at table output.1.reads ≡ found
        → IsSomeAnd found (λ c. members ≡ c.bag)
        → file_of table output ≡ Some (file_with output members)
    by None is own = absurd own
    by (Some collection) is own =
        file_from table output collection is ∙ ap (λ l. Some (file_with output l)) (sym own)

pub files_at : (table : CollectionTable) (outputs : List NamedOutput) (members : List (List Value))
    → AllZip (λ output own. AreMembersOf table output.1.reads own) outputs members
    → files_of table outputs ≡ Some (files_with outputs members)
files_at table [] [] all = refl
files_at table [] (own ∷ members) all = absurd all
files_at table (output ∷ outputs) [] all = absurd all
files_at table (output ∷ outputs) (own ∷ members) all =
    rw (file_at table output own all.0, files_at table outputs members all.1) refl

-- ---- one file more

dropped : {A : Type 0} (xs : List A) (k : ℕ) (x : A) → slice_get xs k ≡ Some x
    → drop k xs ≡ x ∷ drop (suc k) xs
dropped [] k x is = absurd (cc)
dropped (y ∷ xs) zero x is = let same : y ≡ x = cc in ap (λ h. h ∷ xs) same
dropped (y ∷ xs) (suc k) x is = dropped xs k x is

pub next_file : (outputs : List NamedOutput) (members : List (List Value)) (number : ℕ)
    (own : List Value) (file : NamedBytes) (done all whole : List NamedBytes)
    → number < length outputs → slice_get members number ≡ Some own
    → ((output : NamedOutput) → slice_get outputs number ≡ Some output
    → file ≡ file_with output own)
    → all ≡ done ++ file ∷ []
    → done ++ files_with (drop number outputs) (drop number members) ≡ whole
    → all ++ files_with (drop (number + 1) outputs) (drop (number + 1) members) ≡ whole
next_file outputs members number own file done all whole within found is longer so_far =
    let at = there outputs number within in
    let next : suc number ≡ number + 1 = omega arith in
    let behind : List NamedBytes = files_with (drop (suc number) outputs)
    (drop (suc number) members) in
    let rest : files_with (drop number outputs) (drop number members) ≡ file ∷ behind
    = (λ i. files_with (dropped outputs number at.0 at.1 i) (dropped members number own found i))
    ∙ ap (λ f. f ∷ behind) (sym (is at.0 at.1)) in
    subst (λ (n : ℕ). all ++ files_with (drop n outputs) (drop n members) ≡ whole) next
    (ap (λ l. l ++ behind) longer ∙ (append_assoc done (file ∷ []) behind
    ∙ (ap (λ l. done ++ l) (sym rest) ∙ so_far)))

-- ---- what it comes to

pub both_ok : {A E : Type 0} (r : Result A E) (P Q R : A → Type 0) → IfOk r P → IfOk r Q
    → ((a : A) → P a → Q a → R a) → IfOk r R
both_ok (Ok a) P Q R p q f = f a p q
both_ok (Err e) P Q R p q f = tt

-- what a run gives is what its command writes
pub writes_run : (s : RunSettings) (from : Option (List ℕ)) (told : Told)
    (olds news : List Account) (script : Script) (rows : List (List Value)) (plan : Plan)
    (front text : List ℕ) (files : List NamedBytes)
    → AllHaveRows told (inputs_of script) rows → IsPlanFor told script from plan
    → front ≡ text_shown script plan → GivesFiles script rows front files text
    → AllTasksRan s script rows plan (lent s olds) (lent s news)
    → WritesRun s from told olds news script files text
writes_run s from told olds news script rows plan front text files have is shown gives ran = (
  plan,
  rows,
  gives.0,
  is,
  record {
    meant = record { inputs = have; means = gives.1.means };
    through = gives.1.through;
    written = gives.1.written;
    shown = gives.1.shown
        ∙ ap (λ l. l ++ (size_lines (sizes_of script gives.0) ++ codes "done\n")) shown;
  },
  ran,
)

module _ (s : RunSettings) (script : Script) (rows : List (List Value)) (plan : Plan)
    (olds news : List Account) where
  pub given : (it : Ran) (front text : List ℕ) (files : List NamedBytes)
      → IsRan s script rows plan olds news it → files ≡ files_with script.outputs it.outputs.items
      → text ≡ front ++ (size_lines it.sizes.items ++ codes "done\n")
      → GivesFiles script rows front files text
  given it front text files ran are shown = (
    ran.made,
    record {
      means = ran.means;
      through = ran.through;
      written = files_at ran.made script.outputs it.outputs.items ran.written
          ∙ ap Some (sym are);
      shown = shown ∙ ap (λ sizes. front ++ (size_lines sizes ++ codes "done\n")) ran.sizes;
    },
  )

  pub within : (trap : Trap) → IsFirstTrap s script rows plan olds news trap
      → trap.origin < length script.nodes
  within trap it = origins script rows it.made it.means trap it.among
