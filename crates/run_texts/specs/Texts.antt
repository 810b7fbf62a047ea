-- The sizes of a script's collections and the line of a made workload, as the screen gets them.
use Rattle.std.specs.Prelude.{ℕ, List, ◌++◌, codes, decimal}
use Rattle.std.specs.List.{flat_map}
use Rattle.script_program.specs.declared.made.Output.{Output}

-- an output, under the name of its file
abbrev pub NamedOutput : Type 0
NamedOutput = List ℕ × Output

-- the line of a collection's size
abbrev pub size_line : List ℕ → ℕ → List ℕ
size_line name size = codes "size " ++ (name ++ (codes " " ++ (decimal size ++ codes "\n")))

-- the lines of these names and sizes
abbrev pub size_lines : List (List ℕ × ℕ) → List ℕ
size_lines sizes = flat_map (λ it. size_line it.0 it.1) sizes

-- the line of a made workload: how many rows it has, how many keys, and the sum of its numbers
abbrev pub made_line : ℕ → ℕ → ℕ → List ℕ
made_line rows keys total =
    codes "made " ++ (decimal rows ++ (codes " rows, " ++ (decimal keys
    ++ (codes " keys, total " ++ (decimal total ++ codes "\n")))))
