-- Parts of the words behind `run` that have names of their own, and their values.
use Rattle.std.proofs.Common.{◌≡◌, ◌≢◌, ◌∙◌, ◌==◌, ◌++◌, Bool, ℕ, true, false, List, [], ◌∷◌, Option, Some, None, length, refl, sym, ap, subst, append_assoc, codes, inl, inr, true≢false, arith}
use Rattle.std.specs.Prelude.{find, if◌then◌else◌, option_map, slice_index_or}
use Rattle.std.specs.Char.{is_ascii_digit}
use Rattle.std.specs.List.{AllPairs, list_any}
use Rattle.std.specs.Str.{bytes_eq}
use Rattle.std.proofs.Math.ListN.{get_or-append}
use Rattle.std.proofs.Math.Seq.{get_or-append_seam}
use Rattle.std.proofs.lemmas.Bool.{cases_Bool}
use Rattle.std.proofs.lemmas.Bool.Decides.{Decides-eqb}
use Rattle.std.proofs.lemmas.List.{length-append}
use Rattle.std.proofs.lemmas.List.Folds.{list_any_none}
use Rattle.std.proofs.lemmas.Slice.Eq.{bytes_eq-Decides}
use Rattle.clap.specs.Words.{Text}
use Rattle.drill_text.proofs.FirstLemmas.{BeginsWithDigit, drill_begins, number_begins}
use Rattle.drill_text.proofs.DrillLemmas.{neither}
use Rattle.drill_text.proofs.NumberLemmas.{spelled_up_to}
use Rattle.command_words.specs.Options.{drill_given, number_given}
use Rattle.command_words.specs.Words.{dash, is_operand, plan_given}
use Rattle.word_laws.specs.Parts.{AskForRun, Fail, Name, Part, Partitions, PlanFile, Script, Shards, Tries, Workers, id_of, part_value}
use Rattle.word_laws.proofs.RowLemmas.{is_named}
use Rattle.crew.specs.declared.drill.Entry.{Entry}
use Rattle.run_settings.specs.Settings.{RunSettings}

-- ---- parts with names of their own

-- each part is named as none before it
abbrev pub Fresh : List Part → List Part → Type 0
Fresh seen [] = Unit {0}
Fresh seen (part ∷ parts) =
    (list_any (is_named part.name) seen ≡ false) × Fresh (seen ++ part ∷ []) parts

abbrev name_of : Text → Option Name
name_of id =
    if bytes_eq id (codes "script") then Some Script
    else if bytes_eq id (codes "workers") then Some Workers
    else if bytes_eq id (codes "shards") then Some Shards
    else if bytes_eq id (codes "partitions") then Some Partitions
    else if bytes_eq id (codes "tries") then Some Tries
    else if bytes_eq id (codes "fail") then Some Fail
    else if bytes_eq id (codes "plan") then Some PlanFile
    else None

named_back : (name : Name) → name_of (id_of name) ≡ Some name
named_back Script = refl
named_back _ = refl

same_name : (m n : Name) → id_of m ≡ id_of n → m ≡ n
same_name m n same =
    let joined : Some m ≡ Some n = sym (named_back m) ∙ ap name_of same ∙ named_back n in cc joined

other_name : (m n : Name) → m ≢ n → bytes_eq (id_of m) (id_of n) ≡ false
other_name m n apart = elim (cases_Bool (bytes_eq (id_of m) (id_of n))) [
  | inl same ↦ absurd (apart (same_name m n ((bytes_eq-Decides (id_of m) (id_of n)).0 same)))
  | inr other ↦ other
]

new_name : (part : Part) (parts seen : List Part)
    → AllPairs (λ one other. one.name ≢ other.name) (seen ++ part ∷ parts)
    → list_any (is_named part.name) seen ≡ false
new_name part parts seen apart =
    list_any_none (is_named part.name) seen
    (λ k d below.
    let pair = apart k (length seen) d below
    (omega (arith, length-append seen (part ∷ parts))) in
    let first = get_or-append seen (part ∷ parts) d k below in
    let second = get_or-append_seam seen part parts d in
    other_name (slice_index_or seen k d).name part.name
    (λ same. pair (ap (λ (p : Part). p.name) first ∙ same
    ∙ ap (λ (p : Part). p.name) (sym second))))

pub fresh : (parts seen : List Part)
    → AllPairs (λ one other. one.name ≢ other.name) (seen ++ parts) → Fresh seen parts
fresh [] seen apart = tt
fresh (part ∷ parts) seen apart = (
  new_name part parts seen apart,
  fresh parts (seen ++ part ∷ [])
      (subst (AllPairs (λ one other. one.name ≢ other.name))
      (sym (append_assoc seen (part ∷ []) parts)) apart),
)

-- ---- their values are found

find_past : (p : Part → Bool) (seen rest : List Part) → list_any p seen ≡ false
    → find p (seen ++ rest) ≡ find p rest
find_past p [] rest none = refl
find_past p (part ∷ seen) rest none =
    let apart = neither (p part) (list_any p seen) none in
    rw apart.0 (find_past p seen rest apart.1)

pub names_itself : (name : Name) → bytes_eq (id_of name) (id_of name) ≡ true
names_itself Script = refl
names_itself _ = refl

found_there : (part : Part) (parts seen : List Part) → list_any (is_named part.name) seen ≡ false
    → part_value part.name (seen ++ part ∷ parts) ≡ Some part.value
found_there part parts seen new =
    ap (option_map (λ (p : Part). p.value)) (find_past (is_named part.name) seen (part ∷ parts) new)
    ∙ rw (names_itself part.name) refl

-- ---- and name something

abbrev pub AreOperands : List Part → Type 0
AreOperands [] = Unit {0}
AreOperands (part ∷ parts) = (is_operand part.value ≡ true) × AreOperands parts

no_dash : (b : ℕ) → is_ascii_digit b ≡ true → (b == dash) ≡ false
no_dash b digit = elim (cases_Bool (b == dash)) [
  | inl same ↦
      let also = ap is_ascii_digit ((Decides-eqb b dash).0 same) in
      absurd (true≢false (sym digit ∙ also))
  | inr other ↦ other
]

pub operand_by : (text : Text) → BeginsWithDigit text → is_operand text ≡ true
operand_by text begins = rw begins.is (rw (no_dash begins.first begins.digit) refl)

number_operand : (usual limit : ℕ) (option : Option Text) (n : ℕ) (value : Text)
    → number_given usual limit option ≡ Some n → option ≡ Some value → is_operand value ≡ true
number_operand usual limit None n value given is = cc is
number_operand usual limit (Some text) n value given is =
    let same : text ≡ value = cc is in
    subst (λ (t : Text). is_operand t ≡ true) same
    (operand_by text (number_begins text n (spelled_up_to limit text n given).0))

drill_operand : (option : Option Text) (drill : List Entry) (value : Text)
    → drill_given option ≡ Some drill → option ≡ Some value → is_operand value ≡ true
drill_operand None drill value given is = cc is
drill_operand (Some text) drill value given is =
    let same : text ≡ value = cc is in
    subst (λ (t : Text). is_operand t ≡ true) same (operand_by text (drill_begins text drill given))

named_operand : (b : Bool) (text : Text) (from : Option Text)
    → (if b then Some (Some text) else None) ≡ Some from → b ≡ true
named_operand true text from given = refl
named_operand false text from given = cc given

plan_operand : (option from : Option Text) (value : Text) → plan_given option ≡ Some from
    → option ≡ Some value → is_operand value ≡ true
plan_operand None from value given is = cc is
plan_operand (Some text) from value given is =
    let same : text ≡ value = cc is in
    subst (λ (t : Text). is_operand t ≡ true) same
    (named_operand (is_operand text) text from given)

-- the value of a part among them is a word that is no option
operand_of : (parts : List Part) (script : Text) (settings : RunSettings)
    (from : Option Text) → is_operand script ≡ true → AskForRun parts script settings from
    → (name : Name) (value : Text) → part_value name parts ≡ Some value → is_operand value ≡ true
operand_of parts script settings from is asks Script value there =
    let same : Some script ≡ Some value = sym asks.for_script ∙ there in
    let also : script ≡ value = cc same in
    subst (λ (t : Text). is_operand t ≡ true) also is
operand_of parts script settings from is asks Workers value there =
    number_operand _ _ _ _ value asks.for_workers there
operand_of parts script settings from is asks Shards value there =
    number_operand _ _ _ _ value asks.for_shards there
operand_of parts script settings from is asks Partitions value there =
    number_operand _ _ _ _ value asks.for_partitions there
operand_of parts script settings from is asks Tries value there =
    number_operand _ _ _ _ value asks.for_tries there
operand_of parts script settings from is asks Fail value there =
    drill_operand _ _ value asks.for_drill there
operand_of parts script settings from is asks PlanFile value there =
    plan_operand _ _ value asks.for_plan there

operands_from : (parts seen whole : List Part) (script : Text) (settings : RunSettings)
    (from : Option Text) → is_operand script ≡ true → AskForRun whole script settings from
    → seen ++ parts ≡ whole → Fresh seen parts → AreOperands parts
operands_from [] seen whole script settings from is asks all new = tt
operands_from (part ∷ parts) seen whole script settings from is asks all new =
    let there : part_value part.name whole ≡ Some part.value =
    ap (part_value part.name) (sym all) ∙ found_there part parts seen new.0 in (
      operand_of whole script settings from is asks part.name part.value there,
      operands_from parts (seen ++ part ∷ []) whole script settings from is asks
          (append_assoc seen (part ∷ []) parts ∙ all) new.1,
    )

pub are_operands : (parts : List Part) (script : Text) (settings : RunSettings)
    (from : Option Text) → is_operand script ≡ true → AskForRun parts script settings from
    → AreOperands parts
are_operands parts script settings from is asks =
    operands_from parts [] parts script settings from is asks refl (fresh parts [] asks.apart)
