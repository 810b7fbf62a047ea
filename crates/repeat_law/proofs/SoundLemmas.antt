-- A repeat that fits reads what stands in front alone.
use Rattle.std.proofs.Common.{◌≡◌, ℕ, suc, ◌+◌, ◌<◌, List, [], ◌∷◌, ◌++◌, length, map, sym}
use Rattle.std.proofs.Common.{subst, arith, ◌∙◌, length-append}
use Rattle.std.specs.List.{AllByRecursion as Each, AllZip, Contains}
use Rattle.flume_collection.proofs.Members.{at_head, at_tail}
use Rattle.flume_types.specs.declared.types.Ty.{Ty}
use Rattle.written_types.specs.Named.{Named}
use Rattle.script_program.specs.declared.made.Made.{Made}
use Rattle.script_program.specs.declared.made.Made.TheVariants as made
use Rattle.script_program.specs.Script.{Function, Node}
use Rattle.script_laws.proofs.NeededLemmas.{operand_before, read_at}
use Rattle.script_laws.specs.WellFormed.{AllFit, Fits}
use Rattle.repeat_law.specs.Reading.{EachReadsInFront, ReadsInFront, IsClosedRepeat, in_front}
use Rattle.script_rules.specs.Repeats.{Repeat}
use Rattle.script_laws.proofs.MemberLemmas.{zip_length}
use Rattle.script_laws.specs.Fitting.{AreInPlace, IsInPlace, IsOfType, RepeatFits}

each_from : (P : ℕ → Type 0) (xs : List ℕ) → ((n : ℕ) → Contains xs n → P n) → Each P xs
each_from P [] holds = tt
each_from P (x ∷ xs) holds =
    (holds x (at_head x xs), each_from P xs (λ n is. holds n (at_tail x xs n is)))

zip_within : (nodes : Named Node) (most : ℕ) → length nodes ≡ most → (numbers : List ℕ)
    (entries : Named Node) → AllZip (IsOfType nodes) numbers entries
    → Each (λ number. number < most) numbers
zip_within nodes most long [] [] zipped = tt
zip_within nodes most long [] (entry ∷ entries) zipped = absurd zipped
zip_within nodes most long (number ∷ numbers) [] zipped = absurd zipped
zip_within nodes most long (number ∷ numbers) (entry ∷ entries) zipped =
    let below = read_at nodes number entry.1.type zipped.0.members in
    (omega arith, zip_within nodes most long numbers entries zipped.1)

module _ (functions : Named Function) where
  is_let : (place : ℕ) (front : Named Node) (how : Made) (type : Ty) → IsInPlace place how
      → Fits functions front how type → ReadsInFront place (length front) how
  is_let place front (made.Input file columns) type here fits = absurd here
  is_let place front (made.Do source called output) type here fits =
      (read_at front source fits.function.signature.takes fits.takes, here)
  is_let place front (made.Group source) type here fits =
      operand_before functions front (made.Group source) type fits source (at_head source [])
  is_let place front (made.Combine source by) type here fits =
      operand_before functions front (made.Combine source by) type fits source (at_head source [])
  is_let place front (made.Flatten sources) type here fits =
      each_from (λ n. n < length front) sources
      (operand_before functions front (made.Flatten sources) type fits)
  is_let place front (made.Count source) type here fits =
      operand_before functions front (made.Count source) type fits source (at_head source [])
  is_let place front (made.Join left right_) type here fits =
      let reads = operand_before functions front (made.Join left right_) type fits in (
        reads left (at_head left (right_ ∷ [])),
        reads right_ (at_tail left (right_ ∷ []) right_ (at_head right_ [])),
      )
  is_let place front (made.Top many source) type here fits =
      read_at front source type fits.reads
  is_let place front (made.CombineAll source by) type here fits =
      operand_before functions front (made.CombineAll source by) type fits source
      (at_head source [])
  is_let place front (made.Operate objects called) type here fits =
      each_from (λ n. n < length front) objects
      (operand_before functions front (made.Operate objects called) type fits)
  is_let place front (made.DoWith source called object) type here fits =
      let reads = operand_before functions front (made.DoWith source called object) type fits in (
        reads source (at_head source (object ∷ [])),
        reads object (at_tail source (object ∷ []) object (at_head object [])),
      )
  is_let place front (made.Saved is_object call) type here fits = absurd here

  are_lets : (lets : Named Node) (place number : ℕ) (front : Named Node) → length front ≡ number
      → AreInPlace place (map (λ entry. entry.1.made) lets) → AllFit functions front lets
      → EachReadsInFront place number (map (λ entry. entry.1.made) lets)
  are_lets [] place number front long here fit = tt
  are_lets (entry ∷ lets) place number front long here fit =
      let longer = length-append front (entry ∷ []) in (
        subst (λ (n : ℕ). ReadsInFront place n entry.1.made) long
            (is_let place front entry.1.made entry.1.type here.0 fit.0),
        are_lets lets (suc place) (suc number) (front ++ entry ∷ []) (omega arith) here.1 fit.1,
      )

pub is_repeat : (functions : Named Function) (before : Named Node) (repeat : Repeat)
    → RepeatFits functions before repeat → IsClosedRepeat repeat
is_repeat functions before repeat fits =
    let many = fits.many in
    let entered = zip_length (IsOfType before) repeat.from fits.entering fits.enter in
    let front = before ++ fits.entering in
    let long = length-append before fits.entering in
    let whole = length-append front repeat.body in
    let given =
    zip_length (IsOfType (front ++ repeat.body)) repeat.gives fits.entering fits.given in
    record {
      enter = zip_within before repeat.outside many repeat.from fits.entering fits.enter;
      lets = are_lets functions repeat.body 0 (in_front repeat) front (omega arith) fits.in_place
          fits.lets;
      given = zip_within (front ++ repeat.body) (in_front repeat + length repeat.body)
          (omega arith) repeat.gives fits.entering fits.given;
      many = given ∙ sym entered;
    }
