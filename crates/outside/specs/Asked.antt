-- What a source is asked for: the names of its begins, in their order.
use Rattle.std.specs.Prelude.{◌≡◌, ◌<◌, ◌≤◌, ◌-◌, ◌++◌, ℕ, List, [], ◌∷◌, length, replicate}
use Rattle.outside.specs.Cause.{RoseBy}
use Rattle.outside.specs.Seen.{SeenSource}
use Rattle.outside.specs.Told.{WhileTold}

-- these were asked for: the names, one after the other, each at least once and at most `tries`
-- times
abbrev pub AreTries : ℕ → List (List ℕ) → List (List ℕ) → Type 0
AreTries tries [] asked = asked ≡ []
AreTries tries (name ∷ names) asked =
    (count : ℕ) × (others : List (List ℕ)) × (0 < count) × (count ≤ tries)
    × (asked ≡ replicate count name ++ others) × AreTries tries names others

-- The source was asked for the files of these names, one after the other: for each once, and again
-- only where it failed, at most `tries` times. This is said where it still tells for what it was
-- asked.
abbrev pub Asks : ℕ → List (List ℕ) → SeenSource → SeenSource → Type 0
Asks tries names before after = WhileTold before.asked after.asked (λ old now.
    (asked : List (List ℕ)) × (now ≡ old ++ asked) × AreTries tries names asked
    × RoseBy (length asked - length names) before.faults after.faults)

-- The same of a front of these files.
abbrev pub AsksFront : ℕ → List (List ℕ) → SeenSource → SeenSource → Type 0
AsksFront tries names before after = (front : List (List ℕ)) × (behind : List (List ℕ))
    × (names ≡ front ++ behind) × Asks tries front before after
