-- What is seen of a source, a shelf or a screen at a moment. Its count of failures never falls.
use Rattle.std.specs.Prelude.{ℕ, List, Bool, Option}
use Rattle.outside.specs.declared.file.File.{File}

-- of a source: its files and the names of all begins so far, in their order, each where it tells
-- them, and how often it has failed
pub record SeenSource : Type 0 where
  pub files : Option (List File)
  pub asked : Option (List (List ℕ))
  pub faults : ℕ

-- of a shelf: its files, where it tells them, whether one is begun, how many were left begun, since
-- another `begin` came before their end, and how often it has failed
pub record SeenShelf : Type 0 where
  pub files : Option (List File)
  pub begun : Bool
  pub left : ℕ
  pub faults : ℕ

-- of a screen: the bytes written so far, where it tells them, and how often it has failed
pub record SeenScreen : Type 0 where
  pub text : Option (List ℕ)
  pub faults : ℕ
