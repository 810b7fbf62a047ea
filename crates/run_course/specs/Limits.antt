-- How often files are tried by commands that say nothing of it.
use Rattle.std.specs.Prelude.{ℕ}

-- so often is a file loaded before the source's failure is the answer
abbrev pub usual_tries : ℕ
usual_tries = 2
