-- What a source is asked for, try by try and file by file.
use Rattle.std.proofs.Common.{◌≡◌, ℕ, suc, ◌+◌, ◌-◌, ◌<◌, ◌≤◌, List, [], ◌∷◌, ◌++◌, Option, Some, None, length, replicate, ap, sym, ◌∙◌, refl, subst, append_assoc, append-nil, arith}
use Rattle.std.proofs.lemmas.List.{length-append, length-replicate, replicate_more}
use Rattle.outside.specs.Asked.{AreTries, Asks, AsksFront}
use Rattle.outside.specs.Cause.{RoseBy}
use Rattle.outside.specs.Seen.{SeenSource}
use Rattle.outside.specs.Told.{WhileTold}

abbrev Names : Type 0
Names = List (List ℕ)

-- ---- the tries of one file

-- one more after so many
asked_more : (count : ℕ) (name : List ℕ) (before middle after : Option Names)
    → WhileTold before middle (λ old now. now ≡ old ++ replicate count name)
    → WhileTold middle after (λ old now. now ≡ old ++ name ∷ [])
    → WhileTold before after (λ old now. now ≡ old ++ replicate (count + 1) name)
asked_more count name before middle None first second = tt
asked_more count name before None (Some now) first second = absurd second
asked_more count name None (Some it) (Some now) first second = absurd first
asked_more count name (Some old) (Some it) (Some now) first second =
    second ∙ (ap (λ l. l ++ name ∷ []) first
    ∙ (append_assoc old (replicate count name) (name ∷ [])
    ∙ ap (λ l. old ++ l) (replicate_more count name)))

-- the same name so often is a file's tries
all_tries : (tries count : ℕ) (name : List ℕ) (before after : SeenSource) → 0 < count
    → count ≤ tries
    → WhileTold before.asked after.asked (λ old now. now ≡ old ++ replicate count name)
    → RoseBy (count - 1) before.faults after.faults → Asks tries (name ∷ []) before after
all_tries tries count name before after some few asked rose = by before.asked after.asked asked
  where
    again : RoseBy (length (replicate count name) - 1) before.faults after.faults
    again = rw (length-replicate count name) rose

    by : (old now : Option Names)
        → WhileTold old now (λ x y. y ≡ x ++ replicate count name)
        → WhileTold old now (λ x y. (asked : Names) × (y ≡ x ++ asked)
        × AreTries tries (name ∷ []) asked
        × RoseBy (length asked - length (name ∷ [])) before.faults after.faults)
    by old None is = tt
    by None (Some now) is = absurd is
    by (Some old) (Some now) is = (
      replicate count name,
      is,
      (count, [], some, few, sym (append-nil (replicate count name)), refl),
      again,
    )

-- so many tries failed, and the next one is the last
pub last_try : (tries count : ℕ) (name : List ℕ) (before middle after : SeenSource)
    → count < tries
    → WhileTold before.asked middle.asked (λ old now. now ≡ old ++ replicate count name)
    → RoseBy count before.faults middle.faults
    → WhileTold middle.asked after.asked (λ old now. now ≡ old ++ name ∷ [])
    → middle.faults ≤ after.faults → Asks tries (name ∷ []) before after
last_try tries count name before middle after within asked rose more later =
    all_tries tries (count + 1) name before after (omega arith) (omega arith)
    (asked_more count name before.asked middle.asked after.asked asked more)
    (rose_on count before.faults middle.faults after.faults rose later)
  where
    rose_on : (n a b c : ℕ) → RoseBy n a b → b ≤ c → RoseBy (n + 1 - 1) a c
    rose_on n a b c rose later = omega arith

-- ---- several files

-- nothing was asked for
pub asks_none : (tries : ℕ) (it : SeenSource) → Asks tries [] it it
asks_none tries it = by it.asked
  where
    by : (told : Option Names)
        → WhileTold told told (λ x y. (asked : Names) × (y ≡ x ++ asked)
        × AreTries tries [] asked × RoseBy (length asked - 0) it.faults it.faults)
    by None = tt
    by (Some old) = ([], sym (append-nil old), refl, omega arith)

enough : (tries : ℕ) (names asked : Names) → AreTries tries names asked
    → length names ≤ length asked
enough tries [] asked are = omega arith
enough tries (name ∷ names) asked are =
    at_least (length names) are.0 (length are.1) (length asked) (enough tries names are.1 are.5)
    are.2 (ap length are.4
    ∙ (length-append (replicate are.0 name) are.1
    ∙ ap (λ n. n + length are.1) (length-replicate are.0 name)))
  where
    at_least : (n count more all : ℕ) → n ≤ more → 0 < count → all ≡ count + more
        → suc n ≤ all
    at_least n count more all least some is = omega arith

both_tries : (tries : ℕ) (names others first second : Names) → AreTries tries names first
    → AreTries tries others second → AreTries tries (names ++ others) (first ++ second)
both_tries tries [] others first second are more =
    subst (λ (l : Names). AreTries tries others l) (sym (ap (λ l. l ++ second) are)) more
both_tries tries (name ∷ names) others first second are more = (
  are.0,
  are.1 ++ second,
  are.2,
  are.3,
  ap (λ l. l ++ second) are.4 ∙ append_assoc (replicate are.0 name) are.1 second,
  both_tries tries names others are.1 second are.5 more,
)

both_rose : (n m before middle after : ℕ) → RoseBy n before middle → RoseBy m middle after
    → RoseBy (n + m) before after
both_rose n m before middle after first second = omega arith

both_sums : (a b n m all of : ℕ) → n ≤ a → m ≤ b → all ≡ a + b → of ≡ n + m
    → a - n + (b - m) ≡ all - of
both_sums a b n m all of least most sum names = omega arith

-- what is told of these asks
abbrev Told : ℕ → Names → ℕ → ℕ → Option Names → Option Names → Type 0
Told tries all one other old now = WhileTold old now (λ x y.
    (asked : Names) × (y ≡ x ++ asked) × AreTries tries all asked
    × RoseBy (length asked - length all) one other)

-- first these, and then those
pub asks_both : (tries : ℕ) (names others : Names) (before middle after : SeenSource)
    → Asks tries names before middle → Asks tries others middle after
    → Asks tries (names ++ others) before after
asks_both tries names others before middle after = by before.asked middle.asked after.asked
  where
    by : (old it now : Option Names) → Told tries names before.faults middle.faults old it
        → Told tries others middle.faults after.faults it now
        → Told tries (names ++ others) before.faults after.faults old now
    by old it None first second = tt
    by old None (Some now) first second = absurd second
    by None (Some it) (Some now) first second = absurd first
    by (Some old) (Some it) (Some now) first second =
        let rose = both_rose (length first.0 - length names) (length second.0 - length others)
        before.faults middle.faults after.faults first.3 second.3 in
        let least = enough tries names first.0 first.2 in
        let most = enough tries others second.0 second.2 in
        let sums = both_sums (length first.0) (length second.0) (length names) (length others)
        (length (first.0 ++ second.0)) (length (names ++ others)) least most
        (length-append first.0 second.0) (length-append names others) in (
          first.0 ++ second.0,
          second.1 ∙ (ap (λ l. l ++ second.0) first.1 ∙ append_assoc old first.0 second.0),
          both_tries tries names others first.0 second.0 first.2 second.2,
          subst (λ (n : ℕ). RoseBy n before.faults after.faults) sums rose,
        )

pub asks_front : (tries : ℕ) (names front behind : Names) (before after : SeenSource)
    → names ≡ front ++ behind → Asks tries front before after
    → AsksFront tries names before after
asks_front tries names front behind before after is asks = (front, behind, is, asks)
