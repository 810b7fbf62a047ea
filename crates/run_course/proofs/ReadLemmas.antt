-- Where files are told, what a call reads is one.
use Rattle.std.proofs.Common.{◌≡◌, ℕ, ◌<◌, List, [], ◌∷◌, length, Option, Some, None, Result, Ok, ap, sym, ◌∙◌, subst, arith, refl}
use Rattle.std.specs.Prelude.{IsSome, IsSomeAnd}
use Rattle.csv_rows.specs.Rows.{rows_of}
use Rattle.csv_rows.specs.declared.fault.RowFault.{RowFault}
use Rattle.script_loading.specs.of_direct_meaning.Direct.{meaning}
use Rattle.script_loading.specs.of_direct_meaning.Inputs.{Wanted, inputs_of}
use Rattle.flume_value.specs.declared.value.Value.{Value}
use Rattle.outside.specs.declared.file.File.{File as NamedBytes}
use Rattle.script_program.specs.Script.{Script}
use Rattle.script_loading.specs.Accepted.{Accepted}
use Rattle.script_loading.specs.Loads.{AllHaveRows, HasRows, IsAbove, IsMissing, Loads}
use Rattle.run_course.specs.Asked.{AskFor, AskOn}
use Rattle.command_words.specs.Words.{Asked, asked_for}
use Rattle.run_course.specs.Written.{IsMeant, CollectionTable}
use Rattle.script_loading.specs.Limits.{script_limit}
use Rattle.command_words.specs.declared.words.Command.{Command}
use Rattle.script_loading.proofs.AcceptedLemmas.{accepted_once}
use Rattle.run_course.proofs.FileLemmas.{same_some}

abbrev pub Told : Type 0
Told = Option (List NamedBytes)

abbrev pub Words : Type 0
Words = List (List ℕ)

-- ---- the bytes of a file that is told

pub same_bytes : (told : Told) (name a b : List ℕ) (limit most : ℕ) → IsSome told
    → Loads told name limit a → Loads told name most b → a ≡ b
same_bytes None name a b limit most tells first second = absurd (cc)
same_bytes (Some files) name a b limit most tells first second = let same : Some a
    ≡ Some b = sym first.0 ∙ second.0 in cc

pub not_missing : (told : Told) (name bytes : List ℕ) (limit : ℕ) → IsSome told
    → Loads told name limit bytes → IsMissing told name → ⊥
not_missing None name bytes limit tells loads missing = absurd (cc)
not_missing (Some files) name bytes limit tells loads missing = let wrong = sym loads.0
    ∙ missing in absurd (cc)

pub not_above : (told : Told) (name bytes : List ℕ) (limit : ℕ) → IsSome told
    → Loads told name limit bytes → IsAbove told name limit → ⊥
not_above None name bytes limit tells loads above = absurd (cc)
not_above (Some files) name bytes limit tells loads above =
    let longer : limit < length bytes = subst (λ (found : Option (List ℕ)). IsSomeAnd found (λ
    bytes. limit < length bytes)) loads.0 above in
    omega arith

pub not_gone_and_long : (told : Told) (name : List ℕ) (limit : ℕ) → IsSome told
    → IsMissing told name → IsAbove told name limit → ⊥
not_gone_and_long None name limit tells missing above = absurd (cc)
not_gone_and_long (Some files) name limit tells missing above =
    let wrong = subst (λ (found : Option (List ℕ)). IsSomeAnd found (λ bytes. limit < length
    bytes)) missing above in
    absurd wrong

-- ---- one call

-- what the words ask for
pub same_asked : (words : Words) (c d : Command) (name other : List ℕ) → AskFor words c name
    → AskFor words d other → (c ≡ d) × (name ≡ other)
same_asked words c d name other first second =
    let asked : Asked = record { command = c; script = name } in
    let again : Asked = record { command = d; script = other } in
    let same : asked ≡ again = same_some (asked_for words) asked again first second in
    (ap (λ (a : Asked). a.command) same, ap (λ (a : Asked). a.script) same)

pub same_command : (words : Words) (told : Told) (c d : Command) (p q : Script)
    → AskOn words told c p → AskOn words told d q → c ≡ d
same_command words told c d p q first second =
    (same_asked words c d first.0 second.0 first.2 second.2).0

pub same_script : (words : Words) (told : Told) (c d : Command) (p q : Script) → IsSome told
    → AskOn words told c p → AskOn words told d q → p ≡ q
same_script words told c d p q tells first second =
    let name : first.0 ≡ second.0 = (same_asked words c d first.0 second.0 first.2 second.2).1 in
    let bytes : first.1 ≡ second.1
    = same_bytes told second.0 first.1 second.1 _ _ tells
    (subst (λ (n : List ℕ). Loads told n script_limit first.1) name first.3) second.3 in
    accepted_once second.1 p q (subst (λ (b : List ℕ). Accepted b p) bytes first.4) second.4

one_rows : (told : Told) (wanted : Wanted) (rows other : List Value) → IsSome told
    → HasRows told wanted rows → HasRows told wanted other → rows ≡ other
one_rows told wanted rows other tells first second =
    let bytes : first.0 ≡ second.0 = same_bytes told wanted.file first.0 second.0 _ _ tells
    first.1 second.1 in
    let same : ◌≡◌ {A = Option (Result (List Value) RowFault)} (Some (Ok rows)) (Some (Ok
    other))
    = sym first.2 ∙ (ap (λ (b : List ℕ). rows_of b wanted.type) bytes ∙ second.2) in
    cc

pub same_rows : (told : Told) (inputs : List Wanted) (rows others : List (List Value)) → IsSome told
    → AllHaveRows told inputs rows → AllHaveRows told inputs others
    → rows ≡ others
same_rows told [] [] [] tells first second = refl
same_rows told [] [] (o ∷ others) tells first second = absurd second
same_rows told [] (r ∷ rows) others tells first second = absurd first
same_rows told (wanted ∷ inputs) [] others tells first second = absurd first
same_rows told (wanted ∷ inputs) (r ∷ rows) [] tells first second = absurd second
same_rows told (wanted ∷ inputs) (r ∷ rows) (o ∷ others) tells first second =
    λ i. one_rows told wanted r o tells first.0 second.0 i ∷ same_rows told inputs rows others
    tells first.1 second.1 i

-- what a script means, whichever way it and its rows are found
pub same_meaning : (words : Words) (told : Told) (c d : Command) (p q : Script)
    (rows others : List (List Value)) (table : CollectionTable) → IsSome told → AskOn words told c p
    → AskOn words told d q → AllHaveRows told (inputs_of p) rows → IsMeant told q others table
    → meaning p rows ≡ Some table
same_meaning words told c d p q rows others table tells first second inputs meant =
    let script : p ≡ q = same_script words told c d p q tells first second in
    let all : rows ≡ others
    = same_rows told (inputs_of q) rows others tells
    (subst (λ (s : Script). AllHaveRows told (inputs_of s) rows) script inputs) meant.inputs in
    (λ i. meaning (script i) (all i)) ∙ meant.means
