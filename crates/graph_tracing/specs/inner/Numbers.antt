-- The numbers that nodes have by a table.
use Rattle.std.specs.Prelude.{◌≡◌, ℕ}
pub use Rattle.pardo_fuse.specs.inner.Numbers.{number_in, number_or}

-- no two have one number
abbrev pub KeepsAll : (ℕ → ℕ) → Type 0
KeepsAll l = (m i : ℕ) → l m ≡ l i → m ≡ i
