-- The roots of a forest on one output on which there are none.
use Rattle.std.specs.Prelude.{◌≡◌, ℕ, ◌⊎◌, Bool, true, cond, None}
use Rattle.exec_graph.specs.Forests.{Forest, Bare, Grow, with_out}
use Rattle.exec_graph.specs.Meaning.{is_out}

-- h is f with the roots of g on an output j that had none, which is then kept or not
abbrev pub Hangs : ℕ → Bool → Forest → Forest → Forest → Type 0
Hangs j k g Bare h = ⊥
Hangs j k g (Grow l kids rest) Bare = ⊥
Hangs j k g (Grow l kids rest) (Grow m over beyond) =
    ((is_out l.out j ≡ true) × (kids ≡ Bare) × (m ≡ with_out (cond k l.out None) l)
    × (over ≡ g) × (beyond ≡ rest))
    ⊎ ((m ≡ l) × Hangs j k g kids over × (beyond ≡ rest))
    ⊎ ((m ≡ l) × (over ≡ kids) × Hangs j k g rest beyond)
