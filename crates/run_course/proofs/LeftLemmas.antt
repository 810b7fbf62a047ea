-- What stands after each answer.
use Rattle.std.proofs.Common.{◌≡◌, ℕ, false, List, [], ◌∷◌, ◌∙◌, refl, ap}
use Rattle.outside.specs.Begun.{begun_after, left_after}
use Rattle.outside.specs.Seen.{SeenShelf}
use Rattle.outside.specs.declared.file.File.{File as NamedBytes}
use Rattle.run_texts.specs.declared.status.Place.TheVariants.{File, Screen}
use Rattle.run_texts.specs.declared.status.Status.{Status}
use Rattle.run_texts.specs.declared.status.Status.TheVariants.{Done, Trap, WriteFault}
use Rattle.run_course.specs.Answers.{Answers}
use Rattle.run_course.specs.Promises.{IsEnded, IsRefusal}
use Rattle.run_course.specs.Outside.{Outside}
use Rattle.run_course.proofs.ReadLemmas.{Words}

pub refused_part : (words : Words) (before after : Outside) (status : Status)
    → Answers words before after status → IsRefusal status before after
refused_part words before after Done answers = tt
refused_part words before after (Trap origin kind element) answers = tt
refused_part words before after (WriteFault place) answers = tt
refused_part words before after _ answers = answers.1

-- files that are ended leave none begun
none_begun : (files : List NamedBytes) → begun_after files false ≡ false
none_begun [] = refl
none_begun (file ∷ files) = refl

none_left : (files : List NamedBytes) (left : ℕ) → left_after files false left ≡ left
none_left [] left = refl
none_left (file ∷ files) left = refl

pub begun_then : (files : List NamedBytes) (before after : SeenShelf) → before.begun ≡ false
    → after.begun ≡ begun_after files before.begun → after.begun ≡ false
begun_then files before after none is = is ∙ (ap (begun_after files) none ∙ none_begun files)

pub left_then : (files : List NamedBytes) (before after : SeenShelf) → before.begun ≡ false
    → after.left ≡ left_after files before.begun before.left
    → after.left ≡ before.left
left_then files before after none is = is ∙ (ap (λ b. left_after files b before.left) none
    ∙ none_left files before.left)

pub same_begun : (before after : SeenShelf) → before.begun ≡ false → after ≡ before
    → after.begun ≡ false
same_begun before after none same = ap (λ (s : SeenShelf). s.begun) same ∙ none

pub same_left : (before after : SeenShelf) → after ≡ before → after.left ≡ before.left
same_left before after same = ap (λ (s : SeenShelf). s.left) same

pub ended : (words : Words) (before after : Outside) (status : Status) → before.shelf.begun ≡ false
    → Answers words before after status → IsEnded status after.shelf
ended words before after Done none answers = begun_then answers.0 before.shelf after.shelf none
    answers.3.begun
ended words before after (Trap origin kind element) none answers = same_begun before.shelf
    after.shelf none answers.9
ended words before after (WriteFault (File name)) none answers = tt
ended words before after (WriteFault Screen) none answers = begun_then answers.0 before.shelf
    after.shelf none answers.3.begun
ended words before after _ none answers =
    same_begun before.shelf after.shelf none answers.1.shelf

pub left : (words : Words) (before after : Outside) (status : Status) → before.shelf.begun ≡ false
    → Answers words before after status
    → after.shelf.left ≡ before.shelf.left
left words before after Done none answers = left_then answers.0 before.shelf after.shelf none
    answers.3.left
left words before after (Trap origin kind element) none answers = same_left before.shelf
    after.shelf answers.9
left words before after (WriteFault (File name)) none answers = left_then answers.0 before.shelf
    after.shelf none answers.3.4.left
left words before after (WriteFault Screen) none answers = left_then answers.0 before.shelf
    after.shelf none answers.3.left
left words before after _ none answers = same_left before.shelf after.shelf answers.1.shelf
