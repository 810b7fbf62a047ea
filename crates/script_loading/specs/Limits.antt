-- How large a file may be.
use Rattle.std.specs.Prelude.{ℕ, ◌*◌}

abbrev pub kibibyte : ℕ
kibibyte = 1024

abbrev pub mebibyte : ℕ
mebibyte = 1024 * kibibyte

-- the most bytes of a script
abbrev pub script_limit : ℕ
script_limit = 64 * kibibyte

-- the most bytes of an input
abbrev pub input_limit : ℕ
input_limit = 64 * mebibyte

-- the most bytes of the file of a plan
abbrev pub plan_limit : ℕ
plan_limit = 64 * mebibyte
