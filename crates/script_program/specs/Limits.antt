-- The limits of a script.
use Rattle.std.specs.Prelude.{ℕ}

-- the most collections that it may make, inputs among them
abbrev pub most_collections : ℕ
most_collections = 1024

-- the most functions that it may define
abbrev pub most_functions : ℕ
most_functions = 128

-- the most outputs of a function
abbrev pub most_outputs : ℕ
most_outputs = 8

-- the most files that it may write
abbrev pub most_files : ℕ
most_files = 64
